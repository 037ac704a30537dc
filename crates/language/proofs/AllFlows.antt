-- All flows of a plan that keeps the rules are accepted, and what their clauses keep is what the plan keeps.
use Rattle.std.proofs.Common.{◌≡◌, ℕ, ◌+◌, false, List, [], ◌∷◌, ◌++◌, map, length, Ok, sym, refl, ap, ◌∙◌, subst, append_assoc, append-nil, arith, length-append}
use Rattle.std.proofs.lemmas.List.{map-append}
use Rattle.keywords.specs.declared.Keyword.TheVariants as kw
use Rattle.tokens.specs.Terminals.{Tokens}
use Rattle.grammar.specs.declared.symbols.Found.{Found}
use Rattle.grammar.specs.Readers.{symbol_in}
use Rattle.plan.specs.Drafts.{Draft, with_main_flow}
use Rattle.plan.specs.Meaning.{depths_from, depths}
use Rattle.plan.specs.Rules.{spelt}
use Rattle.refusals.specs.Shapes.{is_keyword}
use Rattle.refusals.specs.Steps.{many}
use Rattle.flows.specs.Flows.{flow_in}
use Rattle.flows.proofs.All.{FlowsKept, flow_more}
use Rattle.flows.proofs.Closed.{flow_kept}
use Rattle.plan_file.specs.File.{flow_turn}
use Rattle.language.specs.Trees.{Word, each, BinsTree, FlowTree, PlanTree}
use Rattle.language.specs.Grammar.{row_tokens, flow_tokens}
use Rattle.language.specs.Standing.{listed, test_names, Scope, flows_meant}
use Rattle.language.specs.Obeying.{Starts, Every, clauses_of, ValueFits, ReturnFits, PassFailKnown, LeafRight, CountersDeclared, Keeps}
use Rattle.language.proofs.Along.{joined_append, every_weaker}
use Rattle.language.proofs.Clauses.{Declared, ClauseKeeps}
use Rattle.language.proofs.Flows.{flow_rest, items_of, scope_for, FlowStands, FlowsStand, declared_others, flow_complete, flows_more}
use Rattle.language.proofs.FlowsFit.{meant_with, FlowRules, flow_rules, flow_fits, own_depth}
use Rattle.language.proofs.Rows.{rows_complete}
use Rattle.language.proofs.Words.{Written, written_on}

nothing_made : {X Y : Type 0} (f : X → Y) (xs : List X) → map f xs ≡ [] → xs ≡ []
nothing_made f [] e = refl
nothing_made f (x ∷ xs) e = let z : ◌≡◌ {A = ℕ} 0 1 = sym (ap count e) in absurd (omega arith)
  where
    count : {Y : Type 0} → List Y → ℕ
    count [] = 0
    count (y ∷ ys) = 1

module _ (text : List ℕ) (p : PlanTree) (keeps : Keeps p) (start : Draft) where
  abbrev none : Scope
  none = scope_for p.bins (listed p.counters) (test_names p) []

  abbrev Stand : Draft → List FlowTree → Type 0
  Stand = FlowsStand text p.bins (listed p.counters) (test_names p)

  -- the depths of the flows `rest` behind those of the tables are those of the plan
  abbrev Deep : List FlowTree → Draft → List FlowTree → List FlowTree → Type 0
  Deep all x done rest = depths_from (meant_with p all).items (map (λ f. f.depth) x.flows) (flows_meant (length (items_of done)) rest) ≡ depths (meant_with p all)

  -- in the tables x the flows `rest` are still to come
  abbrev Rest : Draft → List FlowTree → Type 0
  Rest x rest = (done : List FlowTree) × (done ++ rest ≡ each p.flows) × FlowsKept text start x × Stand x done × Deep (each p.flows) x done rest

  module _ (k : Declared text p.bins none start) where
    step : (x : Draft) (f : FlowTree) (rest : List FlowTree) (place : ℕ) (ts us : Tokens) → Rest x (f ∷ rest) → Written text ts → Starts us ts (flow_rest f) → (y : Draft) × (flow_in text place x ts ≡ Ok (y, us)) × Rest y rest
    step x f rest place ts us (done, is, kept, stand, deep) w st =
        let rules : FlowRules p (done ++ f ∷ rest) = subst (FlowRules p) (sym is) (flow_rules p keeps) in
        let here : Deep (done ++ f ∷ rest) x done (f ∷ rest) = subst (λ all. Deep all x done (f ∷ rest)) (sym is) deep in
        let made = flow_complete text p.bins none place x ts us f (declared_others text p.bins (listed p.counters) (test_names p) start x kept.others k) keeps.groups_once keeps.bins_once w st (flow_fits p done f rest rules text start x kept stand here) in
        let y = made.0 in
        let b : FlowStands text none x y f = made.2 in
        let more : FlowsKept text start y = flow_more text start x y kept (flow_kept text place x ts y us kept.held made.1 w.0).0 in
        let items = (meant_with p (done ++ f ∷ rest)).items in
        let earlier = map (λ f. f.depth) x.flows in
        let first : length (items_of (done ++ f ∷ [])) ≡ length (items_of done) + length (each f.items) = omega (arith, ap length (joined_append (λ f. each f.items) done (f ∷ [])), length-append (items_of done) (each f.items ++ []), length-append (each f.items) []) in
        let told : map (λ f. f.depth) y.flows ≡ earlier ++ b.row.depth ∷ [] = ap (map (λ f. f.depth)) b.flows ∙ map-append (λ f. f.depth) x.flows (b.row ∷ []) in
        let behind : Deep (done ++ f ∷ rest) y (done ++ f ∷ []) rest =
        ap (λ l. depths_from items l (flows_meant (length (items_of (done ++ f ∷ []))) rest)) told
        ∙ (ap (λ n. depths_from items (earlier ++ b.row.depth ∷ []) (flows_meant n rest)) first
        ∙ (ap (λ v. depths_from items (earlier ++ v ∷ []) (flows_meant (length (items_of done) + length (each f.items)) rest)) (sym (own_depth p done f rest rules text start x kept stand here y b)) ∙ here)) in
        (y, made.1, (done ++ f ∷ [], append_assoc done (f ∷ []) rest ∙ is, more, flows_more text p.bins (listed p.counters) (test_names p) start x y done f kept stand b, subst (λ all. Deep all y (done ++ f ∷ []) rest) is behind))

    pub flows_complete : (f : Found) (ws ts vs : Tokens) (g : Found) (us : Tokens) → FlowsKept text start start → Stand start [] → Written text ws → symbol_in ws ≡ Ok (f, ts) → Starts vs ws (row_tokens flow_tokens p.flows) → symbol_in vs ≡ Ok (g, us) → is_keyword kw.Flow g ≡ false → (e : Draft) × (many (flow_turn text) (start, f) ts ≡ Ok ((e, g), us)) × FlowsKept text start e × Stand e (each p.flows)
    unfolding depths
    flows_complete f ws ts vs g us kept stand w a st b stop =
        let nil : start.flows ≡ [] = nothing_made (λ r. spelt text r.name) start.flows stand.named in
        let deep : Deep (each p.flows) start [] (each p.flows) = ap (λ l. depths_from (meant_with p (each p.flows)).items (map (λ f. f.depth) l) (flows_meant 0 (each p.flows))) nil in
        let r = rows_complete (is_keyword kw.Flow) (λ f. flow_in text f.place) (λ _. kw.Flow) flow_rest (Written text) (written_on text) Rest (λ _ _. refl) step (each p.flows) start f ws ts vs g us ([], refl, kept, stand, deep) w a st b stop in
        let all : r.2.0 ≡ each p.flows = sym (append-nil r.2.0) ∙ r.2.1 in
        (r.0, r.1, r.2.2, subst (Stand r.0) all r.2.3)

-- the main flow is named
pub main_stands : (text : List ℕ) (bins : BinsTree) (counters tests : List Word) (d : Draft) (fs : List FlowTree) (main : ℕ) → FlowsStand text bins counters tests d fs → FlowsStand text bins counters tests (with_main_flow main d) fs
main_stands text bins counters tests d fs main a = record { tests_named = a.tests_named; named = a.named; items_named = a.items_named; flows = a.flows; items = a.items; clause_count = a.clause_count; value_count = a.value_count; mention_count = a.mention_count }

-- the rules of a plan that are rules of its clauses
pub record ClauseRules (p : PlanTree) : Type 0 where
  pub values_fit : Every (λ c. Every ValueFits (each c.values)) (clauses_of p)
  pub returns_fit : Every (λ c. ReturnFits c.next) (clauses_of p)
  pub pass_fail_known : Every (λ c. PassFailKnown c.pass_fail) (clauses_of p)
  pub counters_declared : Every (CountersDeclared p) (clauses_of p)
  pub leaves_right : Every (λ c. LeafRight p.bins c.leaf) (clauses_of p)

-- clauses that keep their own rules keep these
pub clause_rules : (p : PlanTree) → Every (ClauseKeeps p.bins (scope_for p.bins (listed p.counters) (test_names p) [])) (clauses_of p) → ClauseRules p
clause_rules p k = record {
  values_fit = every_weaker _ (λ c. Every ValueFits (each c.values)) (λ c h. h.values_fit) (clauses_of p) k;
  returns_fit = every_weaker _ (λ c. ReturnFits c.next) (λ c h. h.return_fits) (clauses_of p) k;
  pass_fail_known = every_weaker _ (λ c. PassFailKnown c.pass_fail) (λ c h. h.pass_fail_known) (clauses_of p) k;
  counters_declared = every_weaker _ (CountersDeclared p) (λ c h. h.counters_declared) (clauses_of p) k;
  leaves_right = every_weaker _ (λ c. LeafRight p.bins c.leaf) (λ c h. h.leaf_right) (clauses_of p) k;
}
