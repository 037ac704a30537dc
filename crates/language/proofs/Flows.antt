-- Flows, both ways: a flow with its targets resolved, and all flows.
use Rattle.std.proofs.Common.{◌≡◌, ℕ, ◌+◌, ◌-◌, ◌<◌, Bool, true, false, cond, leb, List, [], ◌∷◌, ◌++◌, map, length, take, drop, Some, None, Ok, Err, Option, Result, sym, refl, ap, ◌∙◌, subst, append_assoc, append-nil, arith, length-append}
use lib.ListN.{length-map}
use Rattle.std.proofs.lemmas.List.{map-append, drop_at, take_at, take-append-drop}
use Rattle.std.proofs.lemmas.Bool.{cond-false, lt-leb}
use Rattle.std.specs.List.{between, flat_map, slice_get}
use Rattle.text_bytes.specs.declared.kinds.Mark.TheVariants as mk
use Rattle.keywords.specs.declared.Keyword.TheVariants as kw
use Rattle.tokens.specs.Terminals.{Terminal, Tokens}
use Rattle.tokens.specs.Terminals as t
use Rattle.grammar.specs.declared.symbols.Found.{Found}
use Rattle.grammar.specs.declared.symbols.Symbol.TheVariants as sy
use Rattle.grammar.specs.Readers.{name_in, symbol_in}
use Rattle.plan.specs.declared.rows.Clause.{Clause}
use Rattle.plan.specs.declared.rows.Flow.{Flow}
use Rattle.plan.specs.declared.rows.Item.{Item}
use Rattle.plan.specs.declared.rows.Name.{Name}
use Rattle.plan.specs.declared.rows.Next.{Next}
use Rattle.plan.specs.declared.rows.Next.TheVariants.{GoTo, Return}
use Rattle.plan.specs.declared.rows.Runs.{Runs}
use Rattle.plan.specs.declared.rows.Runs.TheVariants.{Test as RunsTest, Flow as RunsFlow}
use Rattle.plan.specs.declared.rows.Span.{Span}
use Rattle.plan.specs.declared.rows.Value.{Value}
use Rattle.plan.specs.Drafts.{Draft, with_flow, with_clauses}
use Rattle.plan.specs.Meaning.{rows_of, code_of, bin_of, flow_of, clause_of, item_of}
use Rattle.plan.specs.Rules.{Once, spelt}
use Rattle.plan.proofs.Spans.{nth_between}
use Rattle.names.specs.Names.{found}
use Rattle.refusals.specs.declared.fault.LoadFault.{LoadFault}
use Rattle.refusals.specs.declared.fault.RuleFault.TheVariants.{DeclaredBefore, TableFull}
use Rattle.refusals.specs.Shapes.{is_keyword}
use Rattle.refusals.specs.Steps.{then, ended, many}
use Rattle.refusals.proofs.Passing.{no_fault, accepted, parse_passed, then_passed, refuse_passed}
use Rattle.flows.specs.Checks.{item_name, word_at, target, next_resolved, leading_to, and_then, clauses_resolved, behind, resolved_from, deepest}
use Rattle.flows.specs.Flows.{name_of, span, items_in, runnable, with_targets, closed, flow_in}
use Rattle.flows.proofs.All.{OthersSame, FlowsKept, flow_more}
use Rattle.flows.proofs.Closed.{flow_kept}
use Rattle.flows.proofs.Following.{between_append, span_added}
use Rattle.flows.proofs.Joining.{follow_to}
use Rattle.flows.proofs.Kept.{rows_length}
use Rattle.flows.proofs.Resolving.{led}
use Rattle.plan_file.specs.File.{flow_turn}
use Rattle.language.specs.Trees.{Word, Several, each, BinsTree, NextTree, go_to, return, ClauseTree, ItemTree, FlowTree}
use Rattle.language.specs.Grammar.{row_tokens, item_tokens, flow_tokens}
use Rattle.language.specs.Standing.{position, declared, group_names, bin_names, item_names, Scope, next_meant, clause_meant, runs_meant, item_meant, items_meant, flows_meant, names_in}
use Rattle.language.specs.Obeying.{Starts, next, Every}
use Rattle.language.proofs.Along.{Along, along_length, along_map, along_parts, joined_append, every_then, map_same}
use Rattle.language.proofs.Clauses.{Declared, NextStands, ClauseKeeps}
use Rattle.language.proofs.Items.{RowStands, codes_of, mentions_of, ClausesAdded, tests_in, flows_in, RunsStand, ItemFits, item_clauses, ItemRows, item_rows_named, ItemsStand, items_sound, items_complete}
use Rattle.language.proofs.Rows.{some_sound}
use Rattle.language.proofs.Taking.{symbol_same, nth_next, name_taken, front, found_position, declared_found, position_front}
use Rattle.language.proofs.Words.{Written, written_on, written_name}

-- targets

-- where a clause leads once its flow is closed
abbrev pub Resolved : ℕ → List Word → Next → NextTree → Type 0
Resolved first items leads tree = leads ≡ next_meant first items tree

-- a GoTo names an item of these
abbrev pub TargetDeclared : List Word → NextTree → Type 0
TargetDeclared items (go_to n) = declared n items ≡ true
TargetDeclared items (return v) = Unit {0}

told : {X : Type 0} {x y : X} → ◌≡◌ {A = Result X LoadFault} (Ok x) (Ok y) → x ≡ y
told e = cc

not_told : {X A : Type 0} {e : LoadFault} {y : X} → ◌≡◌ {A = Result X LoadFault} (Err e) (Ok y) → A
not_told h = let z : ◌≡◌ {A = ℕ} 0 1 = cc in absurd (omega arith)

module _ (text : List ℕ) (first : ℕ) (items : List Item) where
  abbrev names : List Word
  names = names_in text item_name items

  next_resolved_lem : (n : Next) (tree : NextTree) (m : Next) → NextStands text n tree → next_resolved text first items n ≡ Ok m → Resolved first names m tree
  next_resolved_lem (GoTo p) (go_to w) m a e = by (found item_name text items (word_at text p)) refl e
    where
      by : (o : Option ℕ) → found item_name text items (word_at text p) ≡ o → target first o p ≡ Ok m → m ≡ GoTo (first + position w names)
      by (Some k) f e = sym (told e) ∙ ap (λ n. GoTo (first + n)) (sym (found_position item_name text (word_at text p) items k f).1 ∙ ap (λ x. position x names) a)
      by None f e = not_told e
  next_resolved_lem (GoTo p) (return v) m a e = absurd a
  next_resolved_lem (Return v) (go_to w) m a e = absurd a
  next_resolved_lem (Return v) (return w) m a e = sym (told e) ∙ ap (λ (n : ℕ). Return (record { code = n })) a

  resolves : (n : Next) (tree : NextTree) → NextStands text n tree → TargetDeclared names tree → (m : Next) × (next_resolved text first items n ≡ Ok m)
  resolves (GoTo p) (go_to w) a d = (GoTo (first + position (word_at text p) names), ap (λ o. target first o p) (declared_found item_name text (word_at text p) items (ap (λ x. declared x names) a ∙ d)))
  resolves (GoTo p) (return v) a d = absurd a
  resolves (Return v) (go_to w) a d = absurd a
  resolves (Return v) (return w) a d = (Return v, refl)

  module _ (s : Scope) (vs : List Value) (ms : List ℕ) where
    abbrev Was : Clause → ClauseTree → Type 0
    Was = RowStands (NextStands text) s vs ms

    abbrev Is : Clause → ClauseTree → Type 0
    Is = RowStands (Resolved first names) s vs ms

    row_led : (row : Clause) (c : ClauseTree) (n : Next) → Was row c → next_resolved text first items row.next ≡ Ok n → Is (led row n) c
    row_led row c n r e = record { values = r.values; values_in = r.values_in; counters = r.counters; counters_in = r.counters_in; verdict = r.verdict; leaf = r.leaf; next = next_resolved_lem row.next c.next n r.next e }

    -- clauses that were resolved lead to their targets
    pub resolved_sound : (rows : List Clause) (cs : List ClauseTree) (targets : List Clause) → Along Was rows cs → clauses_resolved text first items rows ≡ Ok targets → Along Is targets cs
    resolved_sound [] [] targets a e = subst (λ l. Along Is l []) (told e) tt
    resolved_sound [] (c ∷ cs) targets a e = absurd a
    resolved_sound (r ∷ rows) [] targets a e = absurd a
    resolved_sound (r ∷ rows) (c ∷ cs) targets a e = by (next_resolved text first items r.next) refl (clauses_resolved text first items rows) e (resolved_sound rows cs)
      where
        by : (x : Result Next LoadFault) → next_resolved text first items r.next ≡ x → (y : Result (List Clause) LoadFault) → and_then (leading_to r x) y ≡ Ok targets → ((ls : List Clause) → Along Was rows cs → y ≡ Ok ls → Along Is ls cs) → Along Is targets (c ∷ cs)
        by (Ok n) h (Ok ls) e later = subst (λ l. Along Is l (c ∷ cs)) (told e) (row_led r c n a.0 h, later ls a.1 refl)
        by (Ok n) h (Err f) e later = not_told e
        by (Err f) h y e later = not_told e

    -- clauses whose targets are declared are resolved
    pub resolved_complete : (rows : List Clause) (cs : List ClauseTree) → Along Was rows cs → Every (λ c. TargetDeclared names c.next) cs → (targets : List Clause) × (clauses_resolved text first items rows ≡ Ok targets)
    resolved_complete [] [] a d = ([], refl)
    resolved_complete [] (c ∷ cs) a d = absurd a
    resolved_complete (r ∷ rows) [] a d = absurd a
    resolved_complete (r ∷ rows) (c ∷ cs) a d =
        let n = resolves r.next c.next a.0.next d.0 in
        let ls = resolved_complete rows cs a.1 d.1 in
        (led r n.0 ∷ ls.0, ap (λ x. and_then (leading_to r x) (clauses_resolved text first items rows)) n.1 ∙ ap (and_then (Ok (led r n.0))) ls.1)

-- a flow

-- the tokens of a flow behind its keyword
abbrev pub flow_rest : FlowTree → List Terminal
flow_rest f = t.name f.name ∷ t.mark mk.OpenBrace ∷ (row_tokens item_tokens f.items ++ t.mark mk.CloseBrace ∷ [])

-- the tables e are the tables d with the flow added
pub record FlowStands (text : List ℕ) (s : Scope) (d e : Draft) (f : FlowTree) : Type 0 where
  pub row : Flow
  pub flows : e.flows ≡ d.flows ++ row ∷ []
  pub name : spelt text row.name ≡ f.name
  pub more : List Item
  pub items : e.items ≡ d.items ++ more
  pub own : row.items ≡ span (length d.items) (length e.items)
  pub depth : row.depth ≡ 1 + deepest d.flows more
  pub rows : ItemRows text (tests_in text d) (flows_in text d) (length d.clauses) more (each f.items)
  pub added : ClausesAdded (Resolved (length d.items) (item_names f)) s d e (item_clauses (each f.items))
  pub tests : e.tests ≡ d.tests

-- the row of a flow that is closed
abbrev flow_row : Name → Draft → Draft → Flow
flow_row n d x = record { name = n; items = span (length d.items) (length x.items); depth = 1 + deepest x.flows (drop (length d.items) x.items) }

module _ (text : List ℕ) (s : Scope) (d x : Draft) (f : FlowTree) (a : ItemsStand text s d x (each f.items)) where
  own_items_lem : drop (length d.items) x.items ≡ a.more
  own_items_lem = ap (drop (length d.items)) a.items ∙ drop_at d.items a.more (length d.items) refl

  own_rows : drop (length d.clauses) x.clauses ≡ a.added.rows
  own_rows = ap (drop (length d.clauses)) a.added.clauses ∙ drop_at d.clauses a.added.rows (length d.clauses) refl

  earlier_rows : take (length d.clauses) x.clauses ≡ d.clauses
  earlier_rows = ap (take (length d.clauses)) a.added.clauses ∙ take_at d.clauses a.added.rows (length d.clauses) refl

  item_names_lem : names_in text item_name a.more ≡ item_names f
  item_names_lem = item_rows_named text (tests_in text d) (flows_in text d) (length d.clauses) a.more (each f.items) a.rows

  -- the flow is closed with these targets
  pub flow_stands : (n : Name) (targets : List Clause) → spelt text n ≡ f.name → clauses_resolved text (length d.items) a.more a.added.rows ≡ Ok targets → FlowStands text s d (with_flow (flow_row n d x) (with_clauses (d.clauses ++ targets) x)) f
  flow_stands n targets name e =
      let first = length d.items in
      let stand = resolved_sound text first a.more s x.values x.mentions a.added.rows (item_clauses (each f.items)) targets a.added.stand e in
      record {
        row = flow_row n d x;
        flows = ap (λ l. l ++ flow_row n d x ∷ []) a.others.flows;
        name = name;
        more = a.more;
        items = a.items;
        own = refl;
        depth = ap (λ l. 1 + deepest l (drop first x.items)) a.others.flows ∙ ap (λ l. 1 + deepest d.flows l) own_items_lem;
        rows = a.rows;
        added = record {
          rows = targets;
          clauses = refl;
          more = a.added.more;
          values = a.added.values;
          codes = a.added.codes;
          mentions = a.added.mentions;
          stand = subst (λ l. Along (RowStands (Resolved first l) s x.values x.mentions) targets (item_clauses (each f.items))) item_names_lem stand;
        };
        tests = a.others.tests;
      }

-- every target was an item
closed_passed : (n : Name) (first : ℕ) (x : Draft) (done : List Clause) (r : Result (List Clause) LoadFault) (ts : Tokens) (e : Draft) (us : Tokens) → ended (λ y. y) (with_targets n first x (behind done r)) ts ≡ Ok (e, us) → (cs : List Clause) × (r ≡ Ok cs) × (with_flow (record { name = n; items = span first (length x.items); depth = 1 + deepest x.flows (drop first x.items) }) (with_clauses (done ++ cs) x) ≡ e) × (ts ≡ us)
closed_passed n first x done (Ok cs) ts e us h = let a = accepted h in (cs, refl, a.0, a.1)
closed_passed n first x done (Err f) ts e us h = no_fault h

-- what a flow needs to be accepted
pub record FlowFits (text : List ℕ) (bins : BinsTree) (s : Scope) (d : Draft) (f : FlowTree) : Type 0 where
  pub few : length d.flows < 64
  pub new : runnable text d f.name ≡ false
  pub items : (x : Draft) (done : List ItemTree) (it : ItemTree) (rest : List ItemTree) → done ++ it ∷ rest ≡ each f.items → ItemsStand text s d x done → ItemFits text bins s (length d.items) x it
  pub targets : Every (λ c. TargetDeclared (item_names f) c.next) (item_clauses (each f.items))

module _ (text : List ℕ) (bins : BinsTree) (s : Scope) where
  pub record FlowRead (d : Draft) (ts : Tokens) (e : Draft) (us : Tokens) : Type 0 where
    pub tree : FlowTree
    pub starts : Starts us ts (flow_rest tree)
    pub stands : FlowStands text s d e tree
    pub keeps : Every (ClauseKeeps bins s) (item_clauses (each tree.items))

  pub flow_sound : (place : ℕ) (d : Draft) (ts : Tokens) (e : Draft) (us : Tokens) → Declared text bins s d → Written text ts → flow_in text place d ts ≡ Ok (e, us) → FlowRead d ts e us
  unfolding flow_in
  flow_sound place d ts e us k w h =
      let first = length d.items in
      let room = refuse_passed (leb 64 (length d.flows)) (TableFull place) _ h in
      let n = parse_passed (name_in ts) room.1 in
      let token = name_taken ts n.v n.us n.is in
      let at = subst (Written text) token w in
      let new = refuse_passed (runnable text d n.v.0) (DeclaredBefore n.v.1) _ n.goes in
      let all = then_passed (items_in text d n.us) new.1 in
      let x = all.v in
      let its = items_sound text bins s d n.us x all.us k (written_on text (t.name n.v.0) n.v.1 n.us at) all.is in
      let end = closed_passed (name_of n.v) first x (take (length d.clauses) x.clauses) (clauses_resolved text first (drop first x.items) (drop (length d.clauses) x.clauses)) all.us e us all.goes in
      let tree : FlowTree = record { name = n.v.0; items = its.trees } in
      let resolved : clauses_resolved text first its.stand.more its.stand.added.rows ≡ Ok end.0 = sym (ap (λ l. clauses_resolved text first l (drop (length d.clauses) x.clauses)) (own_items_lem text s d x tree its.stand) ∙ ap (clauses_resolved text first its.stand.more) (own_rows text s d x tree its.stand)) ∙ end.1 in
      let stands = flow_stands text s d x tree its.stand (name_of n.v) end.0 (written_name text n.v.0 n.v.1 n.us at) resolved in
      let made : with_flow (flow_row (name_of n.v) d x) (with_clauses (d.clauses ++ end.0) x) ≡ e = ap (λ l. with_flow (flow_row (name_of n.v) d x) (with_clauses (l ++ end.0) x)) (sym (earlier_rows text s d x tree its.stand)) ∙ end.2 in
      record {
        tree = tree;
        starts = front token (subst (λ y. Starts y n.us (t.mark mk.OpenBrace ∷ (row_tokens item_tokens its.trees ++ t.mark mk.CloseBrace ∷ []))) end.3 its.starts);
        stands = subst (λ y. FlowStands text s d y tree) made stands;
        keeps = its.keeps;
      }

  pub flow_complete : (place : ℕ) (d : Draft) (ts us : Tokens) (f : FlowTree) → Declared text bins s d → Once (group_names bins) → Once (bin_names bins) → Written text ts → Starts us ts (flow_rest f) → FlowFits text bins s d f → (e : Draft) × (flow_in text place d ts ≡ Ok (e, us)) × FlowStands text s d e f
  unfolding flow_in
  flow_complete place d ts us f k groups names w (next {p = p} {ts = ws} st) fits =
      let first = length d.items in
      let its = items_complete text bins s d ws us f.items k groups names (written_on text (t.name f.name) p ws w) st fits.items in
      let x = its.0 in
      let a = its.2 in
      let declared_targets = subst (λ l. Every (λ c. TargetDeclared l c.next) (item_clauses (each f.items))) (sym (item_names_lem text s d x f a)) fits.targets in
      let r = resolved_complete text first a.more s x.values x.mentions a.added.rows (item_clauses (each f.items)) a.added.stand declared_targets in
      let resolved : resolved_from text first (drop first x.items) (length d.clauses) x.clauses ≡ Ok (d.clauses ++ r.0) =
      ap (λ l. behind l (clauses_resolved text first (drop first x.items) (drop (length d.clauses) x.clauses))) (earlier_rows text s d x f a)
      ∙ ap (behind d.clauses) (ap (λ l. clauses_resolved text first l (drop (length d.clauses) x.clauses)) (own_items_lem text s d x f a) ∙ (ap (clauses_resolved text first a.more) (own_rows text s d x f a) ∙ r.1)) in (
        with_flow (flow_row (name_of (f.name, p)) d x) (with_clauses (d.clauses ++ r.0) x),
        cond-false (leb 64 (length d.flows)) _ _ (lt-leb 64 _ fits.few)
            ∙ (cond-false (runnable text d f.name) _ _ fits.new
            ∙ (ap (λ y. then {X = Draft} y λ e ts. ended (λ x. x) (closed text (name_of (f.name, p)) first (length d.clauses) e) ts) its.1
            ∙ ap (λ y. ended (λ x. x) (with_targets (name_of (f.name, p)) first x y) us) resolved)),
        flow_stands text s d x f a (name_of (f.name, p)) r.0 (written_name text f.name p ws w) r.1,
      )

-- what items and flows mean

abbrev pub items_of : List FlowTree → List ItemTree
items_of fs = flat_map (λ f. each f.items) fs

abbrev pub clauses_in : List FlowTree → List ClauseTree
clauses_in fs = item_clauses (items_of fs)

abbrev pub flows_named : List FlowTree → List Word
flows_named fs = map (λ f. f.name) fs

pub items_meant_then : (s : Scope) (first : ℕ) (fs gs : List FlowTree) → items_meant s first (fs ++ gs) ≡ items_meant s first fs ++ items_meant s (first + length (items_of fs)) gs
items_meant_then s first [] gs = let z : first ≡ first + 0 = omega arith in ap (λ n. items_meant s n gs) z
items_meant_then s first (f ∷ fs) gs =
    let own = map (item_meant s first (item_names f)) (each f.items) in
    let count = length (each f.items) in
    let z : first + count + length (items_of fs) ≡ first + length (each f.items ++ items_of fs) = omega (arith, length-append (each f.items) (items_of fs)) in
    ap (λ l. own ++ l) (items_meant_then s (first + count) fs gs ∙ ap (λ n. items_meant s (first + count) fs ++ items_meant s n gs) z)
    ∙ sym (append_assoc own (items_meant s (first + count) fs) (items_meant s (first + length (each f.items ++ items_of fs)) gs))

pub flows_meant_then : (first : ℕ) (fs gs : List FlowTree) → flows_meant first (fs ++ gs) ≡ flows_meant first fs ++ flows_meant (first + length (items_of fs)) gs
flows_meant_then first [] gs = let z : first ≡ first + 0 = omega arith in ap (λ n. flows_meant n gs) z
flows_meant_then first (f ∷ fs) gs =
    let count = length (each f.items) in
    let z : first + count + length (items_of fs) ≡ first + length (each f.items ++ items_of fs) = omega (arith, length-append (each f.items) (items_of fs)) in
    ap (λ l. record { first = first; count = count } ∷ l) (flows_meant_then (first + count) fs gs ∙ ap (λ n. flows_meant (first + count) fs ++ flows_meant n gs) z)

-- the scope of a plan with these flows
abbrev pub scope_for : BinsTree → List Word → List Word → List Word → Scope
scope_for bins counters tests flows = record { bins = bin_names bins; counters = counters; tests = tests; flows = flows }

-- the row of a clause means what its tree means
pub row_means : (s : Scope) (first : ℕ) (items : List Word) (e : Draft) (row : Clause) (c : ClauseTree) → RowStands (Resolved first items) s e.values e.mentions row c → clause_of e row ≡ clause_meant s first items c
row_means s first items e row c r = λ i. record { values = r.values i; verdict = r.verdict i; counters = r.counters i; leaf = r.leaf i; next = r.next i }

module _ (bins : BinsTree) (counters tests : List Word) where
  -- what an item runs is the same whatever flows come later
  pub runs_mean : (flows later : List Word) (r : Runs) (n : Word) → RunsStand tests flows r n → r ≡ runs_meant (scope_for bins counters tests (flows ++ later)) n
  runs_mean flows later r n a = a.is ∙ by (declared n tests) a.known
    where
      by : (b : Bool) → (b ≡ false → declared n flows ≡ true) → cond b (RunsTest (position n tests)) (RunsFlow (position n flows)) ≡ cond b (RunsTest (position n tests)) (RunsFlow (position n (flows ++ later)))
      by true h = refl
      by false h = ap RunsFlow (sym (position_front n flows later (h refl)).1)

  module _ (text : List ℕ) (flows later : List Word) (first : ℕ) (items : List Word) (e : Draft) where
    abbrev s : Scope
    s = scope_for bins counters tests (flows ++ later)

    -- the rows of items, whose clauses are those behind the rows `pre`, mean what their trees mean
    pub item_rows_mean : (from : ℕ) (rows : List Item) (its : List ItemTree) (pre cs : List Clause) → ItemRows text tests flows from rows its → Along (RowStands (Resolved first items) (scope_for bins counters tests []) e.values e.mentions) cs (item_clauses its) → e.clauses ≡ pre ++ cs → length pre ≡ from → map (item_of e) rows ≡ map (item_meant s first items) its
    item_rows_mean from [] [] pre cs a b is at = refl
    item_rows_mean from [] (it ∷ its) pre cs a b is at = absurd a
    item_rows_mean from (r ∷ rows) [] pre cs a b is at = absurd a
    item_rows_mean from (r ∷ rows) (it ∷ its) pre cs a b is at =
        let Row = RowStands (Resolved first items) (scope_for bins counters tests []) e.values e.mentions in
        let k = length (each it.clauses) in
        let cut = along_parts Row cs (each it.clauses) (item_clauses its) b in
        let many : length (take k cs) ≡ k = along_length Row (take k cs) (each it.clauses) cut.0 in
        let own : rows_of r.clauses e.clauses ≡ take k cs =
        ap (λ (x : Span). rows_of x e.clauses) a.0.clauses
        ∙ (ap (λ l. between from (from + k) l) is
        ∙ (ap (λ l. take (from + k - from) l) (drop_at pre cs from at) ∙ (let z : from + k - from ≡ k = omega arith in ap (λ n. take n cs) z))) in
        let clauses : map (clause_of e) (rows_of r.clauses e.clauses) ≡ map (clause_meant s first items) (each it.clauses) = ap (map (clause_of e)) own ∙ along_map Row (clause_of e) (clause_meant s first items) (λ x c h. row_means (scope_for bins counters tests []) first items e x c h) (take k cs) (each it.clauses) cut.0 in
        let one : item_of e r ≡ item_meant s first items it = λ i. record { runs = runs_mean flows later r.runs it.runs a.0.runs i; clauses = clauses i } in
        let others = item_rows_mean (from + k) rows its (pre ++ take k cs) (drop k cs) a.1 cut.1 (is ∙ (ap (λ l. pre ++ l) (sym (take-append-drop k cs)) ∙ sym (append_assoc pre (take k cs) (drop k cs)))) (omega (arith, length-append pre (take k cs), many, at)) in
        ap (λ x. x ∷ map (item_of e) rows) one ∙ ap (λ l. item_meant s first items it ∷ l) others

-- all flows

-- what items mean stays where rows are added behind
grown : (text : List ℕ) (start d e : Draft) (k : FlowsKept text start d) (cs : List Clause) (vs : List Value) (ms : List ℕ) → e.clauses ≡ d.clauses ++ cs → e.values ≡ d.values ++ vs → e.mentions ≡ d.mentions ++ ms → map (item_of e) d.items ≡ map (item_of d) d.items
grown text start d e k cs vs ms a b c = map_same (item_of e) (item_of d) d.items item
  where
    clause : (i : ℕ) (x : Clause) → slice_get d.clauses i ≡ Some x → clause_of e x ≡ clause_of d x
    clause i x at =
        let values : rows_of x.values e.values ≡ rows_of x.values d.values = ap (λ (l : List Value). rows_of x.values l) b ∙ between_append x.values.from x.values.to d.values vs (follow_to (λ c. c.values) 0 d.clauses (length d.values) i x k.values_follow at) in
        let counters : rows_of x.counters e.mentions ≡ rows_of x.counters d.mentions = ap (λ (l : List ℕ). rows_of x.counters l) c ∙ between_append x.counters.from x.counters.to d.mentions ms (follow_to (λ c. c.counters) 0 d.clauses (length d.mentions) i x k.counters_follow at) in
        λ i. record { values = map code_of (values i); verdict = x.verdict; counters = counters i; leaf = x.leaf; next = x.next }

    item : (i : ℕ) (x : Item) → slice_get d.items i ≡ Some x → item_of e x ≡ item_of d x
    item i x at =
        let rows : rows_of x.clauses e.clauses ≡ rows_of x.clauses d.clauses = ap (λ (l : List Clause). rows_of x.clauses l) a ∙ between_append x.clauses.from x.clauses.to d.clauses cs (k.held.items i x at) in
        let same : map (clause_of e) (rows_of x.clauses e.clauses) ≡ map (clause_of d) (rows_of x.clauses d.clauses) = ap (map (clause_of e)) rows ∙ map_same (clause_of e) (clause_of d) (rows_of x.clauses d.clauses) (λ j c at. clause (x.clauses.from + j) c (nth_between x.clauses.from x.clauses.to d.clauses j c at)) in
        λ i. record { runs = x.runs; clauses = same i }

-- the tables hold these flows, and no others
pub record FlowsStand (text : List ℕ) (bins : BinsTree) (counters tests : List Word) (d : Draft) (fs : List FlowTree) : Type 0 where
  pub tests_named : tests_in text d ≡ tests
  pub named : flows_in text d ≡ flows_named fs
  pub items_named : names_in text item_name d.items ≡ flat_map item_names fs
  pub flows : map flow_of d.flows ≡ flows_meant 0 fs
  -- whatever flows come later
  pub items : (later : List Word) → map (item_of d) d.items ≡ items_meant (scope_for bins counters tests (flows_named fs ++ later)) 0 fs
  pub clause_count : length d.clauses ≡ length (clauses_in fs)
  pub value_count : length d.values ≡ length (flat_map codes_of (clauses_in fs))
  pub mention_count : length d.mentions ≡ length (flat_map (mentions_of (scope_for bins counters tests [])) (clauses_in fs))

pub clauses_more : (fs : List FlowTree) (f : FlowTree) → clauses_in (fs ++ f ∷ []) ≡ clauses_in fs ++ item_clauses (each f.items)
clauses_more fs f =
    ap item_clauses (joined_append (λ f. each f.items) fs (f ∷ []) ∙ ap (λ l. items_of fs ++ l) (append-nil (each f.items)))
    ∙ joined_append (λ it. each it.clauses) (items_of fs) (each f.items)

module _ (text : List ℕ) (bins : BinsTree) (counters tests : List Word) where
  abbrev none : Scope
  none = scope_for bins counters tests []

  pub items_counted : (d : Draft) (fs : List FlowTree) → FlowsStand text bins counters tests d fs → length d.items ≡ length (items_of fs)
  items_counted d fs a = sym (length-map d.items (λ row. spelt text (item_name row))) ∙ (ap length a.items_named ∙ by fs)
    where
      by : (fs : List FlowTree) → length (flat_map item_names fs) ≡ length (items_of fs)
      by [] = refl
      by (f ∷ fs) = omega (arith, length-append (item_names f) (flat_map item_names fs), length-append (each f.items) (items_of fs), length-map (each f.items) (λ it. it.name), by fs)

  pub flows_more : (start d e : Draft) (fs : List FlowTree) (f : FlowTree) → FlowsKept text start d → FlowsStand text bins counters tests d fs → FlowStands text none d e f → FlowsStand text bins counters tests e (fs ++ f ∷ [])
  flows_more start d e fs f k a b =
      let rows : ItemRows text tests (flows_named fs) (length d.clauses) b.more (each f.items) =
      subst (λ l. ItemRows text l (flows_named fs) (length d.clauses) b.more (each f.items)) a.tests_named
      (subst (λ l. ItemRows text (tests_in text d) l (length d.clauses) b.more (each f.items)) a.named b.rows) in
      let names : names_in text item_name b.more ≡ item_names f = item_rows_named text tests (flows_named fs) (length d.clauses) b.more (each f.items) rows in
      let many : length b.more ≡ length (each f.items) = sym (length-map b.more (λ row. spelt text (item_name row))) ∙ (ap length names ∙ length-map (each f.items) (λ it. it.name)) in
      let counted : length d.items ≡ 0 + length (items_of fs) = omega (arith, items_counted d fs a) in
      let all = clauses_more fs f in
      let own_clauses = item_clauses (each f.items) in
      let row : flow_of b.row ≡ record { first = 0 + length (items_of fs); count = length (each f.items) } =
      let from : b.row.items.from ≡ 0 + length (items_of fs) = ap (λ (x : Span). x.from) b.own ∙ counted in
      let size : b.row.items.to - b.row.items.from ≡ length (each f.items) = omega (arith, ap (λ (x : Span). x.from) b.own, ap (λ (x : Span). x.to) b.own, rows_length d.items e.items b.more b.items, many) in
      λ i. record { first = from i; count = size i } in
      let means : (later : List Word) → map (item_of e) e.items ≡ items_meant (scope_for bins counters tests (flows_named (fs ++ f ∷ []) ++ later)) 0 (fs ++ f ∷ []) = λ later.
      let s = scope_for bins counters tests (flows_named (fs ++ f ∷ []) ++ later) in
      let in_order : flows_named fs ++ (f.name ∷ later) ≡ flows_named (fs ++ f ∷ []) ++ later = sym (append_assoc (flows_named fs) (f.name ∷ []) later) ∙ ap (λ l. l ++ later) (sym (map-append (λ f. f.name) fs (f ∷ []))) in
      let earlier : map (item_of e) d.items ≡ items_meant s 0 fs = grown text start d e k b.added.rows b.added.more (flat_map (mentions_of none) own_clauses) b.added.clauses b.added.values b.added.mentions ∙ (a.items (f.name ∷ later) ∙ ap (λ l. items_meant (scope_for bins counters tests l) 0 fs) in_order) in
      let own : map (item_of e) b.more ≡ map (item_meant s (0 + length (items_of fs)) (item_names f)) (each f.items) =
      item_rows_mean bins counters tests text (flows_named fs) (f.name ∷ later) (length d.items) (item_names f) e (length d.clauses) b.more (each f.items) d.clauses b.added.rows rows b.added.stand b.added.clauses refl
      ∙ (ap (λ l. map (item_meant (scope_for bins counters tests l) (length d.items) (item_names f)) (each f.items)) in_order
      ∙ ap (λ n. map (item_meant s n (item_names f)) (each f.items)) counted) in
      ap (map (item_of e)) b.items
      ∙ (map-append (item_of e) d.items b.more
      ∙ (ap (λ l. l ++ map (item_of e) b.more) earlier
      ∙ (ap (λ l. items_meant s 0 fs ++ l) (own ∙ sym (append-nil (map (item_meant s (0 + length (items_of fs)) (item_names f)) (each f.items))))
      ∙ sym (items_meant_then s 0 fs (f ∷ []))))) in
      record {
        tests_named = ap (names_in text (λ r. r.name)) b.tests ∙ a.tests_named;
        named = ap (names_in text (λ r. r.name)) b.flows ∙ (map-append (λ r. spelt text r.name) d.flows (b.row ∷ []) ∙ (ap (λ l. l ++ spelt text b.row.name ∷ []) a.named ∙ (ap (λ n. flows_named fs ++ n ∷ []) b.name ∙ sym (map-append (λ f. f.name) fs (f ∷ [])))));
        items_named = ap (names_in text item_name) b.items ∙ (map-append (λ r. spelt text (item_name r)) d.items b.more ∙ (ap (λ l. l ++ names_in text item_name b.more) a.items_named ∙ (ap (λ l. flat_map item_names fs ++ l) (names ∙ sym (append-nil (item_names f))) ∙ sym (joined_append item_names fs (f ∷ [])))));
        flows = ap (map flow_of) b.flows ∙ (map-append flow_of d.flows (b.row ∷ []) ∙ (ap (λ l. l ++ flow_of b.row ∷ []) a.flows ∙ (ap (λ x. flows_meant 0 fs ++ x ∷ []) row ∙ sym (flows_meant_then 0 fs (f ∷ [])))));
        items = means;
        clause_count = omega (arith, rows_length d.clauses e.clauses b.added.rows b.added.clauses, along_length _ b.added.rows own_clauses b.added.stand, ap length all, length-append (clauses_in fs) own_clauses, a.clause_count);
        value_count = omega (arith, rows_length d.values e.values b.added.more b.added.values, length-map b.added.more code_of, ap length b.added.codes, ap (λ l. length (flat_map codes_of l)) all, ap length (joined_append codes_of (clauses_in fs) own_clauses), length-append (flat_map codes_of (clauses_in fs)) (flat_map codes_of own_clauses), a.value_count);
        mention_count = omega (arith, rows_length d.mentions e.mentions (flat_map (mentions_of none) own_clauses) b.added.mentions, ap (λ l. length (flat_map (mentions_of none) l)) all, ap length (joined_append (mentions_of none) (clauses_in fs) own_clauses), length-append (flat_map (mentions_of none) (clauses_in fs)) (flat_map (mentions_of none) own_clauses), a.mention_count);
      }

  -- before the first flow
  pub no_flows_stand : (d : Draft) → tests_in text d ≡ tests → d.flows ≡ [] → d.items ≡ [] → d.clauses ≡ [] → d.values ≡ [] → d.mentions ≡ [] → FlowsStand text bins counters tests d []
  no_flows_stand d named f i c v m = record {
    tests_named = named;
    named = ap (names_in text (λ r. r.name)) f;
    items_named = ap (names_in text item_name) i;
    flows = ap (map flow_of) f;
    items = λ later. ap (map (item_of d)) i;
    clause_count = ap length c;
    value_count = ap length v;
    mention_count = ap length m;
  }

  pub declared_others : (d e : Draft) → OthersSame d e → Declared text bins none d → Declared text bins none e
  declared_others d e b k = record {
    groups = ap (names_in text (λ r. r.name)) b.groups ∙ k.groups;
    bin_named = ap (names_in text (λ r. r.name)) b.bins ∙ k.bin_named;
    bin_rows = ap (map bin_of) b.bins ∙ k.bin_rows;
    bin_scope = k.bin_scope;
    counters = ap (names_in text (λ r. r.name)) b.counters ∙ k.counters;
  }

  -- flows that were accepted, up to the symbol g
  pub record FlowsRead (start : Draft) (ws : Tokens) (e : Draft) (g : Found) (us : Tokens) : Type 0 where
    pub trees : Several FlowTree
    pub vs : Tokens
    pub starts : Starts vs ws (row_tokens flow_tokens trees)
    pub last : symbol_in vs ≡ Ok (g, us)
    pub kept : FlowsKept text start e
    pub stand : FlowsStand text bins counters tests e (each trees)
    pub keeps : Every (ClauseKeeps bins none) (clauses_in (each trees))
    pub items_once : Every (λ f. Once (item_names f)) (each trees)

  pub flows_sound : (start : Draft) (f : Found) (ws ts : Tokens) (e : Draft) (g : Found) (us : Tokens) → Declared text bins none start → FlowsKept text start start → FlowsStand text bins counters tests start [] → Written text ws → symbol_in ws ≡ Ok (f, ts) → is_keyword kw.Flow f ≡ true → many (flow_turn text) (start, f) ts ≡ Ok ((e, g), us) → FlowsRead start ws e g us
  flows_sound start f ws ts e g us k first stand w a b h =
      let r = some_sound (is_keyword kw.Flow) (λ f. flow_in text f.place) (λ _. kw.Flow) flow_rest (Written text) (written_on text) P step start f ws ts e g us [] b a (first, stand, tt, tt) w h in
      record { trees = r.rows; vs = r.vs; starts = r.starts; last = r.last; kept = r.holds.0; stand = r.holds.1; keeps = r.holds.2; items_once = r.holds.3 }
    where
      P : Draft → List FlowTree → Type 0
      P x done = FlowsKept text start x × FlowsStand text bins counters tests x done × Every (ClauseKeeps bins none) (clauses_in done) × Every (λ f. Once (item_names f)) done

      step : (f : Found) (x : Draft) (ts : Tokens) (y : Draft) (us : Tokens) (done : List FlowTree) → is_keyword kw.Flow f ≡ true → flow_in text f.place x ts ≡ Ok (y, us) → P x done → Written text ts → (tree : FlowTree) × (f.symbol ≡ sy.Keyword kw.Flow) × Starts us ts (flow_rest tree) × P y (done ++ tree ∷ [])
      step f x ts y us done b h p w =
          let r = flow_sound text bins none f.place x ts y us (declared_others start x p.0.others k) w h in
          let tree = r.tree in
          let row = r.stands in
          let kept = flow_more text start x y p.0 (flow_kept text f.place x ts y us p.0.held h w.0).0 in
          let at : slice_get y.flows (length x.flows) ≡ Some row.row = ap (λ l. slice_get l (length x.flows)) row.flows ∙ nth_next x.flows row.row [] in
          let own : rows_of row.row.items y.items ≡ row.more = ap (λ (s : Span). rows_of s y.items) row.own ∙ span_added x.items y.items row.more row.items in
          let names : map (λ it. spelt text it.name) (rows_of row.row.items y.items) ≡ item_names tree = ap (map (λ it. spelt text it.name)) own ∙ item_rows_named text (tests_in text x) (flows_in text x) (length x.clauses) row.more (each tree.items) row.rows in (
            tree,
            symbol_same f.symbol (sy.Keyword kw.Flow) b,
            r.starts,
            (
              kept,
              flows_more start x y done tree p.0 p.1 row,
              subst (Every (ClauseKeeps bins none)) (sym (clauses_more done tree)) (every_then (ClauseKeeps bins none) (clauses_in done) (item_clauses (each tree.items)) p.2 r.keeps),
              every_then (λ f. Once (item_names f)) done (tree ∷ []) p.3 (subst Once names (kept.names (length x.flows) row.row at), tt),
            ),
          )
