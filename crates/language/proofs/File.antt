-- A whole text, both ways: what is accepted obeys the language, and what obeys it is accepted, with the plan that its
-- tree stands for.
use Rattle.std.proofs.Common.{◌≡◌, ℕ, ◌≤◌, Bool, true, false, not, List, [], ◌∷◌, ◌++◌, map, length, is_some, Some, None, Ok, Err, codes, Option, sym, refl, ap, ◌∙◌, subst, append_assoc, append-nil, arith}
use lib.ListN.{length-map}
use Rattle.std.proofs.lemmas.Slice.Eq.{bytes_eq-Decides}
use Rattle.std.proofs.lemmas.Bool.{not-false, not_from_true}
use Rattle.std.specs.List.{flat_map}
use Rattle.std.specs.Str.{bytes_eq}
use Rattle.keywords.specs.declared.Keyword.TheVariants as kw
use Rattle.text_bytes.specs.declared.kinds.Mark.TheVariants as mk
use Rattle.tokens.specs.Terminals.{Terminal, Tokens}
use Rattle.tokens.specs.Terminals as t
use Rattle.tokens.specs.Scanning.{tokens_from}
use Rattle.tokens.proofs.Readings.{the_reading}
use Rattle.grammar.specs.declared.symbols.Found.{Found}
use Rattle.grammar.specs.declared.symbols.Symbol.TheVariants as sy
use Rattle.grammar.specs.Readers.{Spot, name_in, decimal_in, symbol_in, expect_in, finish_in}
use Rattle.plan.specs.declared.rows.Flow.{Flow}
use Rattle.plan.specs.declared.rows.Name.{Name}
use Rattle.plan.specs.declared.rows.Test.{Test}
use Rattle.plan.specs.Drafts.{Draft, blank, with_main_flow}
use Rattle.plan.specs.Meaning.{bin_of, flow_of, item_of, of_some, meaning}
use Rattle.plan.specs.Rules.{Once, Lawful, NamesOnce, spelt}
use Rattle.names.specs.Names.{found}
use Rattle.refusals.specs.declared.fault.RuleFault.TheVariants.{OutOfRange}
use Rattle.refusals.specs.Shapes.{is_keyword}
use Rattle.refusals.specs.Steps.{Loaded, parse, then, many}
use Rattle.refusals.proofs.Passing.{no_fault, accepted, parse_passed, then_passed, refuse_passed, allow_passed, turns_keep, turn_keeps}
use Rattle.refusals.proofs.Spelled.{NamesAt, name_at, want_leaves, expect_leaves}
use Rattle.plan_file.specs.File.{name_of, header_in, flow_turn, main_named, main_name_in, main_in, flows_in, sections_in, finished, closed, file_in}
use Rattle.bins.specs.Bins.{bins_in}
use Rattle.bins.proofs.Kept.{OthersSame as BinsOnly, bins_kept}
use Rattle.flows.specs.Flows.{flow_in}
use Rattle.flows.proofs.Closed.{flow_kept, held_none, flow_held}
use Rattle.flows.proofs.Kept.{Held}
use Rattle.flows.proofs.All.{OthersSame as FlowsOnly, FlowsKept, no_flows}
use Rattle.plan_file.proofs.Kept.{file_kept}
use Rattle.language.specs.Trees.{Word, Several, each, BinsTree, TestTree, FlowTree, PlanTree}
use Rattle.language.specs.Grammar.{row_tokens, flow_tokens, bins_tokens, option_tokens, counters_tokens, test_tokens, file_tokens}
use Rattle.language.specs.Standing.{position, declared, listed, group_names, test_names, flow_names, item_names, items_meant, scope, meant, Known, stands_for, names_in, known}
use Rattle.language.specs.Obeying.{Starts, here, next, Spells, Every, clauses_of, settings_of, SettingFits, Keeps, Obeys}
use Rattle.language.proofs.Bins.{BinsStand, BinsRead, bins_sound, bins_complete}
use Rattle.language.proofs.Clauses.{Declared, ClauseKeeps}
use Rattle.language.proofs.Flows.{FlowsStand, clauses_in, scope_for, no_flows_stand, flows_sound}
use Rattle.language.proofs.Sections.{SectionsStand, sections_tokens, SectionsRead, sections_sound, sections_complete}
use Rattle.language.proofs.Words.{Written, written, written_on}
use Rattle.language.proofs.AllFlows.{flows_complete, main_stands, clause_rules}
use Rattle.language.proofs.Onward.{then_on}
use Rattle.language.proofs.Optional.{starts_one}
use Rattle.language.proofs.Rows.{keyword_at, carried}
use Rattle.language.proofs.Taking.{terminal, symbol_same, symbol_taken, front, join, split, names_behind, name_taken, decimal_taken, expect_taken, found_position, declared_found, once_front}

-- the text and its tokens

pub spells : (text : List ℕ) (end : ℕ) (ws : List Terminal) → Starts (t.end end) (tokens_from text 0) ws → Spells text ws
spells text end ws s = record { tokens = tokens_from text 0; reads = (the_reading text 0).reads; end = end; all = s }

pub spelled : (text : List ℕ) (ws : List Terminal) (s : Spells text ws) → Starts (t.end s.end) (tokens_from text 0) ws
spelled text ws s = subst (λ ts. Starts (t.end s.end) ts ws) ((the_reading text 0).only s.tokens s.reads) s.all

-- header

abbrev header_tokens : Word → Word → List Terminal
header_tokens version title = t.keyword kw.Version ∷ t.decimal version ∷ t.mark mk.Semicolon ∷ t.keyword kw.TestPlan ∷ t.name title ∷ t.mark mk.Semicolon ∷ []

record HeaderRead (text : List ℕ) (ts : Tokens) (n : Name) (us : Tokens) : Type 0 where
  version : Word
  title : Word
  starts : Starts us ts (header_tokens version title)
  known : version ≡ codes "1.0"
  named : spelt text n ≡ title

header_sound : (text : List ℕ) (ts : Tokens) (n : Name) (us : Tokens) → NamesAt text ts → header_in ts ≡ Ok (n, us) → HeaderRead text ts n us
header_sound text ts n us names h =
    let a = parse_passed (expect_in (sy.Keyword kw.Version) ts) h in
    let v = parse_passed (decimal_in a.us) a.goes in
    let right = refuse_passed (not (bytes_eq v.v.0 (codes "1.0"))) (OutOfRange v.v.1) _ v.goes in
    let b = parse_passed (expect_in (sy.Mark mk.Semicolon) v.us) right.1 in
    let first = front (expect_taken (sy.Keyword kw.Version) ts a.v a.us a.is).1 (front (decimal_taken a.us v.v v.us v.is) (front (expect_taken (sy.Mark mk.Semicolon) v.us b.v b.us b.is).1 here)) in
    behind v.v.0 ((bytes_eq-Decides v.v.0 (codes "1.0")).0 (not-false (bytes_eq v.v.0 (codes "1.0")) right.0)) b.us first (names_behind text first names) b.goes
  where
    behind : (version : Word) → version ≡ codes "1.0" → (ws : Tokens) → Starts ws ts (t.keyword kw.Version ∷ t.decimal version ∷ t.mark mk.Semicolon ∷ []) → NamesAt text ws → (parse (expect_in (sy.Keyword kw.TestPlan) ws) λ _ ts. parse (name_in ts) λ n ts. parse (expect_in (sy.Mark mk.Semicolon) ts) λ _ ts. Ok (name_of n, ts)) ≡ Ok (n, us) → HeaderRead text ts n us
    behind version is ws st names h =
        let a = parse_passed (expect_in (sy.Keyword kw.TestPlan) ws) h in
        let m = parse_passed (name_in a.us) a.goes in
        let b = parse_passed (expect_in (sy.Mark mk.Semicolon) m.us) m.goes in
        let r = accepted b.goes in
        let left = expect_leaves text (sy.Keyword kw.TestPlan) ws a.v a.us a.is names in
        record {
          version = version;
          title = m.v.0;
          starts = join st (front (expect_taken (sy.Keyword kw.TestPlan) ws a.v a.us a.is).1 (front (name_taken a.us m.v m.us m.is) (front (expect_taken (sy.Mark mk.Semicolon) m.us b.v b.us b.is).1 (subst (λ x. Starts us x []) (sym r.1) here))));
          known = is;
          named = ap (spelt text) (sym r.0) ∙ name_at text a.us m.v m.us m.is left;
        }

header_complete : (text : List ℕ) (ts us : Tokens) (version title : Word) → version ≡ codes "1.0" → NamesAt text ts → Starts us ts (header_tokens version title) → (n : Name) × (header_in ts ≡ Ok (n, us)) × (spelt text n ≡ title)
header_complete text ts us version title is names (next (next (next (next (next {p = p} (next here)))))) =
    let right : not (bytes_eq version (codes "1.0")) ≡ false = not_from_true (bytes_eq version (codes "1.0")) ((bytes_eq-Decides version (codes "1.0")).1 is) in
    (record { place = p; len = length title }, rw right, names.1.1.1.1.0)

-- main flow

abbrev main_tokens : Word → List Terminal
main_tokens name = t.mark mk.OpenBrace ∷ t.keyword kw.MainFlow ∷ t.mark mk.Equals ∷ t.name name ∷ t.mark mk.Semicolon ∷ t.mark mk.CloseBrace ∷ []

record MainRead (text : List ℕ) (d : Draft) (ts : Tokens) (e : Draft) (us : Tokens) : Type 0 where
  name : Word
  starts : Starts us ts (main_tokens name)
  is : with_main_flow (position name (names_in text (λ f. f.name) d.flows)) d ≡ e
  known : declared name (names_in text (λ f. f.name) d.flows) ≡ true

main_sound : (text : List ℕ) (d : Draft) (ts : Tokens) (e : Draft) (us : Tokens) → main_in text d ts ≡ Ok (e, us) → MainRead text d ts e us
main_sound text d ts e us h =
    let a = parse_passed (expect_in (sy.Mark mk.OpenBrace) ts) h in
    let b = parse_passed (expect_in (sy.Keyword kw.MainFlow) a.us) a.goes in
    let c = parse_passed (expect_in (sy.Mark mk.Equals) b.us) b.goes in
    let first = front (expect_taken (sy.Mark mk.OpenBrace) ts a.v a.us a.is).1 (front (expect_taken (sy.Keyword kw.MainFlow) a.us b.v b.us b.is).1 (front (expect_taken (sy.Mark mk.Equals) b.us c.v c.us c.is).1 here)) in
    named c.us first c.goes
  where
    known : (n : Spot) (o : Option ℕ) → found (λ f. f.name) text d.flows n.0 ≡ o → (test : Bool) (vs : Tokens) (f : ℕ) (ws : Tokens) → main_named o test n.1 vs ≡ Ok (f, ws) → (declared n.0 (names_in text (λ f. f.name) d.flows) ≡ true) × (position n.0 (names_in text (λ f. f.name) d.flows) ≡ f) × (vs ≡ ws)
    known n (Some g) is test vs f ws h = let r = accepted h in let k = found_position (λ (f : Flow). f.name) text n.0 d.flows g is in (k.0, k.1 ∙ r.0, r.1)
    known n None is true vs f ws h = no_fault h
    known n None is false vs f ws h = no_fault h

    named : (ws : Tokens) → Starts ws ts (t.mark mk.OpenBrace ∷ t.keyword kw.MainFlow ∷ t.mark mk.Equals ∷ []) → (then (main_name_in text d ws) λ f ts. parse (expect_in (sy.Mark mk.Semicolon) ts) λ _ ts. parse (expect_in (sy.Mark mk.CloseBrace) ts) λ _ ts. Ok (with_main_flow f d, ts)) ≡ Ok (e, us) → MainRead text d ts e us
    named ws st h =
        let a = then_passed (main_name_in text d ws) h in
        let n = parse_passed (name_in ws) a.is in
        let b = parse_passed (expect_in (sy.Mark mk.Semicolon) a.us) a.goes in
        let c = parse_passed (expect_in (sy.Mark mk.CloseBrace) b.us) b.goes in
        let k = known n.v (found (λ f. f.name) text d.flows n.v.0) refl (is_some (found (λ t. t.name) text d.tests n.v.0)) n.us a.v a.us n.goes in
        let r = accepted c.goes in
        record {
          name = n.v.0;
          starts = join st (front (name_taken ws n.v n.us n.is) (subst (λ x. Starts us x (t.mark mk.Semicolon ∷ t.mark mk.CloseBrace ∷ [])) (sym k.2) (front (expect_taken (sy.Mark mk.Semicolon) a.us b.v b.us b.is).1 (front (expect_taken (sy.Mark mk.CloseBrace) b.us c.v c.us c.is).1 (subst (λ x. Starts us x []) (sym r.1) here)))));
          is = ap (λ n. with_main_flow n d) k.1 ∙ r.0;
          known = k.0;
        }

main_complete : (text : List ℕ) (d : Draft) (ts us : Tokens) (name : Word) → declared name (names_in text (λ f. f.name) d.flows) ≡ true → Starts us ts (main_tokens name) → main_in text d ts ≡ Ok (with_main_flow (position name (names_in text (λ f. f.name) d.flows)) d, us)
main_complete text d ts us name known (next (next (next (next (next (next here)))))) =
    let is = declared_found (λ (f : Flow). f.name) text name d.flows known in
    rw is

-- the end of the text

closed_passed : (x : Loaded (Name × Draft)) (n : Name) (d : Draft) → closed x ≡ Ok (n, d) → (p : ℕ) × (x ≡ Ok ((n, d), t.end p))
closed_passed (Ok v) n d h = by v.0 v.1 h
  where
    by : (x : Name × Draft) (us : Tokens) → finished x (finish_in us) ≡ Ok (n, d) → (p : ℕ) × (◌≡◌ {A = Loaded (Name × Draft)} (Ok (x, us)) (Ok ((n, d), t.end p)))
    by x (t.end p) h = let e : x ≡ (n, d) = cc in (p, ap (λ y. Ok (y, t.end p)) e)
    by x (t.fault e) h = no_fault h
    by x (t.token y p us) h = no_fault h
closed_passed (Err e) n d h = no_fault h

-- the plan

-- the tables are those that the tree stands for
record FileStands (text : List ℕ) (f : PlanTree) (d : Draft) : Type 0 where
  bins : BinsStand text f.bins d
  counters : names_in text (λ k. k.name) d.counters ≡ listed f.counters
  flows : FlowsStand text f.bins (listed f.counters) (test_names f) d (each f.flows)
  main_flow : d.main_flow ≡ position f.main_flow (flow_names f)

some_rows : {X Y : Type 0} (g : X → Y) (xs : List X) (y : Y) (ys : List Y) (n : ℕ) → map g xs ≡ y ∷ ys → of_some xs n ≡ Some n
some_rows g [] y ys n e = let z : ◌≡◌ {A = ℕ} 0 1 = cc in absurd (omega arith)
some_rows g (x ∷ xs) y ys n e = refl

means_so : (text : List ℕ) (f : PlanTree) (d : Draft) → FileStands text f d → meaning d ≡ meant f
unfolding meaning
means_so text f d s =
    let b = s.bins in
    let x = s.flows in
    let sort : of_some d.bins d.sort_group ≡ Some (position f.bins.sort_group (group_names f.bins)) = some_rows bin_of d.bins _ _ d.sort_group b.rows ∙ ap Some b.sort_group in
    let main : of_some d.flows d.main_flow ≡ Some (position f.main_flow (flow_names f)) = some_rows flow_of d.flows _ _ d.main_flow x.flows ∙ ap Some s.main_flow in
    let counters : length d.counters ≡ length (listed f.counters) = sym (length-map d.counters (λ k. spelt text k.name)) ∙ ap length s.counters in
    let tests : length d.tests ≡ length f.tests = sym (length-map d.tests (λ t. spelt text t.name)) ∙ (ap length x.tests_named ∙ length-map f.tests (λ t. t.name)) in
    let items : map (item_of d) d.items ≡ items_meant (scope f) 0 (each f.flows) = x.items [] ∙ ap (λ l. items_meant (scope_for f.bins (listed f.counters) (test_names f) l) 0 (each f.flows)) (append-nil (flow_names f)) in
    λ i. record { bins = b.rows i; sort_group = sort i; counters = counters i; tests = tests i; flows = x.flows i; items = items i; main_flow = main i }

stands_for_lem : (text : List ℕ) (f : PlanTree) (n : Name) (d : Draft) → spelt text n ≡ f.title → FileStands text f d → known text n d ≡ stands_for f
stands_for_lem text f n d title s =
    let means = means_so text f d s in
    λ i. record { title = title i; groups = s.bins.groups_named i; bins = s.bins.bins_named i; counters = s.counters i; tests = s.flows.tests_named i; flows = s.flows.named i; items = s.flows.items_named i; means = means i }

-- the tables before the first flow

record Begun (text : List ℕ) (bins : BinsTree) (counters : Option (Several Word)) (tests : List TestTree) (d : Draft) : Type 0 where
  bins_stand : BinsStand text bins d
  counters_named : names_in text (λ k. k.name) d.counters ≡ listed counters
  tests_named : names_in text (λ x. x.name) d.tests ≡ map (λ x. x.name) tests
  flows : d.flows ≡ []
  items : d.items ≡ []
  clauses : d.clauses ≡ []
  values : d.values ≡ []
  mentions : d.mentions ≡ []

-- tables with the same groups, bins and sort group
bins_on : (text : List ℕ) (bins : BinsTree) (b e : Draft) → e.groups ≡ b.groups → e.bins ≡ b.bins → e.sort_group ≡ b.sort_group → BinsStand text bins b → BinsStand text bins e
bins_on text bins b e groups rows sort s = record {
  groups_named = ap (names_in text (λ g. g.name)) groups ∙ s.groups_named;
  bins_named = ap (names_in text (λ x. x.name)) rows ∙ s.bins_named;
  rows = ap (map bin_of) rows ∙ s.rows;
  sort_group = sort ∙ s.sort_group;
}

begun_so : (text : List ℕ) (bins : BinsTree) (b e : Draft) (counters : Option (Several Word)) (tests : List TestTree) → BinsOnly blank b → BinsStand text bins b → SectionsStand text b e counters tests → Begun text bins counters tests e
begun_so text bins b e counters tests none stand s =
    let is = s.is in record {
      bins_stand = bins_on text bins b e (ap (λ (x : Draft). x.groups) is) (ap (λ (x : Draft). x.bins) is) (ap (λ (x : Draft). x.sort_group) is) stand;
      counters_named = ap (λ (x : Draft). names_in text (λ k. k.name) x.counters) is ∙ (ap (λ l. names_in text (λ k. k.name) (l ++ s.counter_rows)) none.counters ∙ s.counter_names);
      tests_named = ap (λ (x : Draft). names_in text (λ t. t.name) x.tests) is ∙ (ap (λ l. names_in text (λ t. t.name) (l ++ s.test_rows)) none.tests ∙ s.test_names);
      flows = ap (λ (x : Draft). x.flows) is ∙ none.flows;
      items = ap (λ (x : Draft). x.items) is ∙ none.items;
      clauses = ap (λ (x : Draft). x.clauses) is ∙ none.clauses;
      values = ap (λ (x : Draft). x.values) is ∙ none.values;
      mentions = ap (λ (x : Draft). x.mentions) is ∙ none.mentions;
    }

module _ (text : List ℕ) (bins : BinsTree) (counters : Option (Several Word)) (tests : List TestTree) (d : Draft) (b : Begun text bins counters tests d) where
  abbrev tests_named : List Word
  tests_named = map (λ x. x.name) tests

  begun_declared : Declared text bins (scope_for bins (listed counters) tests_named []) d
  begun_declared = record { groups = b.bins_stand.groups_named; bin_named = b.bins_stand.bins_named; bin_rows = b.bins_stand.rows; bin_scope = refl; counters = b.counters_named }

  begun_stand : FlowsStand text bins (listed counters) tests_named d []
  begun_stand = no_flows_stand text bins (listed counters) tests_named d b.tests_named b.flows b.items b.clauses b.values b.mentions

  begun_kept : Once tests_named → FlowsKept text d d
  begun_kept once = no_flows text d b.flows b.items b.clauses b.values b.mentions (subst Once (sym b.tests_named) once)

-- all tables
file_stands : (text : List ℕ) (f : PlanTree) (start d : Draft) → Begun text f.bins f.counters f.tests start → FlowsOnly start d → FlowsStand text f.bins (listed f.counters) (test_names f) d (each f.flows) → FileStands text f (with_main_flow (position f.main_flow (names_in text (λ x. x.name) d.flows)) d)
file_stands text f start d b same stand =
    let n = position f.main_flow (names_in text (λ (x : Flow). x.name) d.flows) in
    record {
      bins = bins_on text f.bins start (with_main_flow n d) same.groups same.bins same.sort_group b.bins_stand;
      counters = ap (names_in text (λ k. k.name)) same.counters ∙ b.counters_named;
      flows = main_stands text f.bins (listed f.counters) (test_names f) d (each f.flows) n stand;
      main_flow = ap (position f.main_flow) stand.named;
    }

-- what was accepted

-- flows leave the tests as they are
many_same : (text : List ℕ) (d : Draft) (f : Found) (ts : Tokens) (e : Draft × Found) (us : Tokens) → Held d → NamesAt text ts → many (flow_turn text) (d, f) ts ≡ Ok (e, us) → e.0.tests ≡ d.tests
many_same text d f ts e us held names h =
    (turns_keep (flow_turn text) (λ s ts. Kept s.0 ts)
    (turn_keeps (is_keyword kw.Flow) (λ f. flow_in text f.place) Kept (λ s ts f us e p. (p.0, want_leaves text _ _ ts f us e p.1, p.2)) kept)
    _ (d, f) ts e us h (held, names, refl)).2
  where
    Kept : Draft → Tokens → Type 0
    Kept x ts = Held x × NamesAt text ts × (x.tests ≡ d.tests)

    kept : (f : Found) (x : Draft) (ts : Tokens) (y : Draft) (us : Tokens) → flow_in text f.place x ts ≡ Ok (y, us) → Kept x ts → Kept y us
    kept f x ts y us h p =
        let a = flow_kept text f.place x ts y us p.0 h p.1 in
        (flow_held text x y p.0 a.0, a.1, sym (ap (λ z. z.tests) a.0.is) ∙ (a.0.items.rows.others.tests ∙ p.2))

tests_same : (text : List ℕ) (d : Draft) (f : Found) (ts : Tokens) (e : Draft) (us : Tokens) → d.flows ≡ [] → d.items ≡ [] → NamesAt text ts → flows_in text (d, f) ts ≡ Ok (e, us) → e.tests ≡ d.tests
tests_same text d f ts e us flows items names h =
    let begun = allow_passed (is_keyword kw.Flow f) f.place _ h in
    let all = then_passed (many (flow_turn text) (d, f) ts) begun.1 in
    let ended = allow_passed (is_keyword kw.FlowDefs all.v.1) all.v.1.place _ all.goes in
    let main = main_sound text all.v.0 all.us e us ended.1 in
    sym (ap (λ x. x.tests) main.is) ∙ many_same text d f ts all.v all.us (held_none d flows items) names all.is

-- flow+ FlowDefs { MainFlow = name ; }
record FlowsPart (text : List ℕ) (bins : BinsTree) (counters tests : List Word) (start : Draft) (ts : Tokens) (e : Draft) (us : Tokens) : Type 0 where
  trees : Several FlowTree
  main : Word
  starts : Starts us ts (row_tokens flow_tokens trees ++ t.keyword kw.FlowDefs ∷ main_tokens main)
  tables : Draft
  others : FlowsOnly start tables
  stand : FlowsStand text bins counters tests tables (each trees)
  keeps : Every (ClauseKeeps bins (scope_for bins counters tests [])) (clauses_in (each trees))
  items_once : Every (λ f. Once (item_names f)) (each trees)
  is : with_main_flow (position main (names_in text (λ f. f.name) tables.flows)) tables ≡ e
  main_known : declared main (names_in text (λ f. f.name) tables.flows) ≡ true

flows_part : (text : List ℕ) (bins : BinsTree) (counters tests : List Word) (start : Draft) (f : Found) (ws ts : Tokens) (e : Draft) (us : Tokens) → Declared text bins (scope_for bins counters tests []) start → FlowsKept text start start → FlowsStand text bins counters tests start [] → Written text ws → symbol_in ws ≡ Ok (f, ts) → flows_in text (start, f) ts ≡ Ok (e, us) → FlowsPart text bins counters tests start ws e us
flows_part text bins counters tests start f ws ts e us declared kept stand w a h =
    let begun = allow_passed (is_keyword kw.Flow f) f.place _ h in
    let all = then_passed (many (flow_turn text) (start, f) ts) begun.1 in
    let ended = allow_passed (is_keyword kw.FlowDefs all.v.1) all.v.1.place _ all.goes in
    let x = all.v.0 in
    let g = all.v.1 in
    let r = flows_sound text bins counters tests start f ws ts x g all.us declared kept stand w a begun.0 all.is in
    let main = main_sound text x all.us e us ended.1 in
    let last = symbol_taken r.vs g all.us r.last ∙ ap (λ y. t.token (terminal y) g.place all.us) (symbol_same g.symbol (sy.Keyword kw.FlowDefs) ended.0) in
    record {
      trees = r.trees;
      main = main.name;
      starts = join r.starts (front last main.starts);
      tables = x;
      others = r.kept.others;
      stand = r.stand;
      keeps = r.keeps;
      items_once = r.items_once;
      is = main.is;
      main_known = main.known;
    }

-- the text is written as a tree is, whose plan the tables are, and which keeps every rule
record FileRead (text : List ℕ) (ts : Tokens) (n : Name) (d : Draft) (us : Tokens) : Type 0 where
  tree : PlanTree
  starts : Starts us ts (file_tokens tree)
  named : spelt text n ≡ tree.title
  stands : FileStands text tree d
  keeps : Keeps tree

names_once_lem : (text : List ℕ) (f : PlanTree) (d : Draft) → FileStands text f d → NamesOnce text d → Once (test_names f ++ flow_names f)
names_once_lem text f d s once = subst Once (ap (λ l. l ++ map (λ f. spelt text f.name) d.flows) s.flows.tests_named ∙ ap (λ l. test_names f ++ l) s.flows.named) once.tests_and_flows

keeps_so : (text : List ℕ) (f : PlanTree) (d : Draft) → FileStands text f d → Lawful (meaning d) → NamesOnce text d → f.version ≡ codes "1.0" → declared f.bins.sort_group (group_names f.bins) ≡ true → declared f.main_flow (flow_names f) ≡ true → Every SettingFits (settings_of f) → Every (ClauseKeeps f.bins (scope_for f.bins (listed f.counters) (test_names f) [])) (clauses_of f) → Every (λ f. Once (item_names f)) (each f.flows) → Keeps f
keeps_so text f d s lawful once version sort main fits keeps items =
    let clauses = clause_rules f keeps in
    record {
      version = version;
      groups_once = subst Once s.bins.groups_named once.groups;
      bins_once = subst Once s.bins.bins_named once.bins;
      counters_once = subst Once s.counters once.counters;
      tests_and_flows_once = names_once_lem text f d s once;
      items_once = items;
      sort_group_declared = sort;
      main_flow_declared = main;
      settings_fit = fits;
      values_fit = clauses.values_fit;
      returns_fit = clauses.returns_fit;
      pass_fail_known = clauses.pass_fail_known;
      counters_declared = clauses.counters_declared;
      leaves_right = clauses.leaves_right;
      lawful = subst Lawful (means_so text f d s) lawful;
    }

file_read : (text : List ℕ) (ts hs bs us : Tokens) (n : Name) (b d : Draft) → Written text ts → header_in ts ≡ Ok (n, hs) → bins_in text blank hs ≡ Ok (b, bs) → sections_in text b bs ≡ Ok (d, us) → Lawful (meaning d) → NamesOnce text d → FileRead text ts n d us
file_read text ts hs bs us n b d w is_header is_bins is_sections lawful once =
    let header = header_sound text ts n hs w.0 is_header in
    let w1 = carried (Written text) (written_on text) ts (header_tokens header.version header.title) header.starts w in
    let bins = bins_sound text blank hs b bs refl refl w1.0 is_bins in
    let only = (bins_kept text blank hs b bs w1.0 refl refl is_bins).0.others in
    let w2 = carried (Written text) (written_on text) hs (bins_tokens bins.tree) bins.starts w1 in
    let r = sections_sound text b bs (d, us) w2.0 is_sections in
    let w3 = carried (Written text) (written_on text) bs (sections_tokens r.counters r.tests) r.starts w2 in
    let begun = begun_so text bins.tree b r.draft r.counters r.tests only bins.stands r.stands in
    let same = tests_same text r.draft r.symbol r.behind d us begun.flows begun.items (want_leaves text _ _ r.left r.symbol r.behind r.last w3.0) r.goes in
    let tests : Once (map (λ (x : TestTree). x.name) r.tests) = subst Once (ap (names_in text (λ (x : Test). x.name)) same ∙ begun.tests_named) (once_front (names_in text (λ x. x.name) d.tests) (names_in text (λ x. x.name) d.flows) once.tests_and_flows) in
    let flows = flows_part text bins.tree (listed r.counters) (map (λ x. x.name) r.tests) r.draft r.symbol r.left r.behind d us (begun_declared text bins.tree r.counters r.tests r.draft begun) (begun_kept text bins.tree r.counters r.tests r.draft begun tests) (begun_stand text bins.tree r.counters r.tests r.draft begun) w3 r.last r.goes in
    whole header bins r begun flows
  where
    whole : (header : HeaderRead text ts n hs) (bins : BinsRead text hs b bs) (r : SectionsRead text b bs (d, us)) → Begun text bins.tree r.counters r.tests r.draft → FlowsPart text bins.tree (listed r.counters) (map (λ x. x.name) r.tests) r.draft r.left d us → FileRead text ts n d us
    whole header bins r begun flows =
        let tree : PlanTree = record { version = header.version; title = header.title; bins = bins.tree; counters = r.counters; tests = r.tests; flows = flows.trees; main_flow = flows.main } in
        let behind = row_tokens flow_tokens flows.trees ++ t.keyword kw.FlowDefs ∷ main_tokens flows.main in
        let sections : Starts us bs (option_tokens counters_tokens r.counters ++ (flat_map test_tokens r.tests ++ behind)) = subst (Starts us bs) (append_assoc (option_tokens counters_tokens r.counters) (flat_map test_tokens r.tests) behind) (join r.starts flows.starts) in
        let stands = subst (FileStands text tree) flows.is (file_stands text tree r.draft flows.tables begun flows.others flows.stand) in
        record {
          tree = tree;
          starts = join header.starts (join bins.starts sections);
          named = header.named;
          stands = stands;
          keeps = keeps_so text tree d stands lawful once header.known bins.sort_declared (ap (declared flows.main) (sym flows.stand.named) ∙ flows.main_known) r.fits flows.keeps flows.items_once;
        }

-- a text that is accepted obeys the language, and its tables are the plan that it stands for
pub file_sound : (text : List ℕ) (n : Name) (d : Draft) → length text ≤ 65536 → file_in text blank (tokens_from text 0) ≡ Ok (n, d) → Obeys text (known text n d)
unfolding file_in
file_sound text n d size h =
    let kept = file_kept text n d h in
    let end = closed_passed _ n d h in
    let header = then_passed (header_in (tokens_from text 0)) end.1 in
    let bins = then_passed (bins_in text blank header.us) header.goes in
    let sections = then_passed (sections_in text bins.v bins.us) bins.goes in
    let e = accepted sections.goes in
    let is_header : header_in (tokens_from text 0) ≡ Ok (n, header.us) = header.is ∙ ap (λ (x : Name × Draft). Ok (x.0, header.us)) e.0 in
    let is_sections : sections_in text bins.v bins.us ≡ Ok (d, t.end end.0) = sections.is ∙ (ap (λ (x : Name × Draft). Ok (x.1, sections.us)) e.0 ∙ ap (λ us. Ok (d, us)) e.1) in
    let r = file_read text (tokens_from text 0) header.us bins.us (t.end end.0) n bins.v d (written text 0) is_header bins.is is_sections kept.0 kept.1 in
    record { size = size; tree = r.tree; spells = spells text end.0 (file_tokens r.tree) r.starts; keeps = r.keeps; stands = stands_for_lem text r.tree n d r.named r.stands }

-- what obeys the language

module _ (text : List ℕ) (f : PlanTree) (k : Keeps f) where
  -- flow+ FlowDefs { MainFlow = name ; }
  flows_accepted : (start : Draft) (p : ℕ) (ws ts vs us : Tokens) → Begun text f.bins f.counters f.tests start → Written text ws → symbol_in ws ≡ Ok (keyword_at kw.Flow p, ts) → Starts vs ws (row_tokens flow_tokens f.flows) → Starts us vs (t.keyword kw.FlowDefs ∷ main_tokens f.main_flow) → (d : Draft) × (flows_in text (start, keyword_at kw.Flow p) ts ≡ Ok (d, us)) × FileStands text f d
  flows_accepted start p ws ts vs us begun w first st end =
      let last = starts_one end in
      let tests = once_front (test_names f) (flow_names f) k.tests_and_flows_once in
      let all = flows_complete text f k start (begun_declared text f.bins f.counters f.tests start begun) (keyword_at kw.Flow p) ws ts vs (keyword_at kw.FlowDefs last.place) last.behind (begun_kept text f.bins f.counters f.tests start begun tests) (begun_stand text f.bins f.counters f.tests start begun) w first st (ap symbol_in last.is) refl in
      let x = all.0 in
      let main = main_complete text x last.behind us f.main_flow (ap (declared f.main_flow) all.3.named ∙ k.main_flow_declared) last.starts in
      (with_main_flow (position f.main_flow (names_in text (λ x. x.name) x.flows)) x, then_on (many (flow_turn text) (start, keyword_at kw.Flow p) ts) _ all.1 main, file_stands text f start x begun all.2.others all.3)

  -- [counters] test* flow+ FlowDefs { MainFlow = name ; }
  sections_accepted : (b : Draft) (ts left vs us : Tokens) → BinsOnly blank b → BinsStand text f.bins b → Written text ts → Starts left ts (sections_tokens f.counters f.tests) → Starts vs left (row_tokens flow_tokens f.flows) → Starts us vs (t.keyword kw.FlowDefs ∷ main_tokens f.main_flow) → (d : Draft) × (sections_in text b ts ≡ Ok (d, us)) × FileStands text f d
  sections_accepted b ts left vs us only stand w st flows end =
      let first = starts_one flows in
      let g = keyword_at kw.Flow first.place in
      let read : symbol_in left ≡ Ok (g, first.behind) = ap symbol_in first.is in
      let tests = once_front (test_names f) (flow_names f) k.tests_and_flows_once in
      let limits = k.lawful.limits in
      let r = sections_complete text b ts left f.counters f.tests g first.behind w.0 st read refl refl only.counters only.tests only.flows limits.counters k.counters_once limits.tests tests k.settings_fit in
      let begun = begun_so text f.bins b r.0 f.counters f.tests only stand r.1 in
      let left_so = carried (Written text) (written_on text) ts (sections_tokens f.counters f.tests) st w in
      let all = flows_accepted r.0 first.place left first.behind vs us begun left_so read flows end in
      (all.0, r.2 (all.0, us) all.1, all.2)

  -- the whole text
  file_accepted : (ts : Tokens) (end : ℕ) → Written text ts → Starts (t.end end) ts (file_tokens f) → (n : Name) × (d : Draft) × (file_in text blank ts ≡ Ok (n, d)) × (spelt text n ≡ f.title) × FileStands text f d
  unfolding file_in
  file_accepted ts end w st =
      let last = t.keyword kw.FlowDefs ∷ main_tokens f.main_flow in
      let behind = row_tokens flow_tokens f.flows ++ last in
      let more = option_tokens counters_tokens f.counters ++ (flat_map test_tokens f.tests ++ behind) in
      let a = split ts (header_tokens f.version f.title) (bins_tokens f.bins ++ more) st in
      let b = split a.us (bins_tokens f.bins) more a.behind in
      let c = split b.us (sections_tokens f.counters f.tests) behind (subst (Starts (t.end end) b.us) (sym (append_assoc (option_tokens counters_tokens f.counters) (flat_map test_tokens f.tests) behind)) b.behind) in
      let e = split c.us (row_tokens flow_tokens f.flows) last c.behind in
      let w1 = carried (Written text) (written_on text) ts (header_tokens f.version f.title) a.before w in
      let w2 = carried (Written text) (written_on text) a.us (bins_tokens f.bins) b.before w1 in
      let header = header_complete text ts a.us f.version f.title k.version w.0 a.before in
      let bins = bins_complete text f k blank a.us b.us refl refl w1.0 b.before in
      let only = (bins_kept text blank a.us bins.0 b.us w1.0 refl refl bins.1).0.others in
      let sections = sections_accepted bins.0 b.us c.us e.us (t.end end) only bins.2 w2 c.before e.before e.behind in
      let read = then_on {Z = Name × Draft} (header_in ts) (λ n ts. then (bins_in text blank ts) λ d ts. then (sections_in text d ts) λ d ts. Ok ((n, d), ts)) header.1
      (then_on {Z = Name × Draft} (bins_in text blank a.us) (λ d ts. then (sections_in text d ts) λ d ts. Ok ((header.0, d), ts)) bins.1
      (then_on {Z = Name × Draft} (sections_in text bins.0 b.us) (λ d ts. Ok ((header.0, d), ts)) sections.1 refl)) in
      (header.0, sections.0, ap closed read, header.2, sections.2)

-- a text that obeys the language is accepted, and its tables are the plan that it stands for
pub file_complete : (text : List ℕ) (p : Known) → Obeys text p → (n : Name) × (d : Draft) × (file_in text blank (tokens_from text 0) ≡ Ok (n, d)) × (known text n d ≡ p)
file_complete text p o =
    let f = o.tree in
    let r = file_accepted text f o.keeps (tokens_from text 0) o.spells.end (written text 0) (spelled text (file_tokens f) o.spells) in
    (r.0, r.1, r.2, stands_for_lem text f r.0 r.1 r.3 r.4 ∙ sym o.stands)
