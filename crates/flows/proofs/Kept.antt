-- What items and flows add to the tables, and the rules that the rows keep which they add.
use Rattle.std.proofs.Common.{◌≡◌, ℕ, zero, suc, ◌+◌, ◌-◌, ◌<◌, ◌≤◌, true, not, leb, ◌⊎◌, List, [], ◌∷◌, ◌++◌, map, length, take, drop, is_some, Some, None, Ok, Option, sym, refl, ap, ◌∙◌, subst, inl, inr, append_assoc, append-nil, arith, length-append}
use Rattle.std.proofs.lemmas.List.{drop_at, drop_all, drop-append-le, drop-map, take-map, map-append, length-map}
use Rattle.std.proofs.lemmas.Bool.{not-false, leb-false}
use Rattle.std.specs.List.{between, slice_get}
use Rattle.keywords.specs.declared.Keyword.TheVariants as kw
use Rattle.tokens.specs.Terminals.{Tokens}
use Rattle.grammar.specs.declared.symbols.Found.{Found}
use Rattle.grammar.specs.Readers.{Spot, name_in}
use Rattle.plan.specs.declared.rows.Bin.{Bin}
use Rattle.plan.specs.declared.rows.Clause.{Clause}
use Rattle.plan.specs.declared.rows.Flow.{Flow}
use Rattle.plan.specs.declared.rows.Item.{Item}
use Rattle.plan.specs.declared.rows.Runs.{Runs}
use Rattle.plan.specs.declared.rows.Runs.TheVariants.{Test as RunsTest, Flow as RunsFlow}
use Rattle.plan.specs.declared.rows.Span.{Span}
use Rattle.plan.specs.declared.rows.Value.{Value}
use Rattle.plan.specs.Drafts.{Draft, with_item}
use Rattle.plan.specs.Meaning.{code_of, rows_of}
use Rattle.plan.specs.Rules.{Once, spelt}
use Rattle.plan.proofs.Added.{Earlier, the_same, nth_added, once_row}
use Rattle.plan.proofs.Spans.{never_some}
use Rattle.names.specs.Names.{found}
use Rattle.names.proofs.Found.{found_below, none_found}
use Rattle.refusals.specs.declared.fault.RuleFault.TheVariants.{DeclaredBefore, TableFull, ReturnNotListed, TooDeep}
use Rattle.refusals.specs.Shapes.{is_keyword}
use Rattle.refusals.proofs.Passing.{no_fault, accepted, parse_passed, then_passed, refuse_passed, rows_keep}
use Rattle.refusals.proofs.Spelled.{NamesAt, want_leaves, name_at}
use Rattle.clauses.specs.Clauses.{clause_in}
use Rattle.clauses.proofs.Kept.{grown_length, LeafSet, ReturnsFit, ClauseAdded, clause_added}
use Rattle.clauses.proofs.Leaving.{clause_leaves}
use Rattle.flows.specs.Checks.{item_name, items_listed, flow_items, depth_in}
use Rattle.flows.specs.Flows.{name_of, span, clauses_in, flow_run, test_run, runs_in, run_listed, item_in, items_in}
use Rattle.flows.proofs.Braces.{braced_passed, names_inside}
use Rattle.flows.proofs.Following.{Follow, follow_then, follow_one, nth_either, between_append, span_added, flow_items_before, flow_item, listed_before}
use Rattle.flows.proofs.Keeping.{clauses_beside}

-- rows of clauses, with their values and counters

-- the tables but those of values, mentions, clauses and items are the same
pub record Same (d e : Draft) : Type 0 where
  pub groups : e.groups ≡ d.groups
  pub bins : e.bins ≡ d.bins
  pub counters : e.counters ≡ d.counters
  pub tests : e.tests ≡ d.tests
  pub flows : e.flows ≡ d.flows
  pub sort_group : e.sort_group ≡ d.sort_group
  pub main_flow : e.main_flow ≡ d.main_flow

-- what the row of a clause keeps, where the table of mentions is this
pub record ClauseKept (bins : List Bin) (counters : ℕ) (mentions : List ℕ) (c : Clause) : Type 0 where
  pub has_value : c.values.from < c.values.to
  pub within : c.counters.to ≤ length mentions
  pub named_once : Once (rows_of c.counters mentions)
  pub named : (k n : ℕ) → slice_get (rows_of c.counters mentions) k ≡ Some n → n < counters
  pub leaf : LeafSet bins c.leaf
  pub returns : ReturnsFit c.next

pub clause_later : (bins : List Bin) (counters : ℕ) (ms ns : List ℕ) (c : Clause) → ClauseKept bins counters ms c → ClauseKept bins counters (ms ++ ns) c
clause_later bins counters ms ns c k =
    let same = sym (between_append c.counters.from c.counters.to ms ns k.within) in
    record {
      has_value = k.has_value;
      within = omega (arith, k.within, length-append ms ns);
      named_once = subst Once same k.named_once;
      named = subst (λ (l : List ℕ). (i n : ℕ) → slice_get l i ≡ Some n → n < counters) same k.named;
      leaf = k.leaf;
      returns = k.returns;
    }

abbrev pub value_spans : List Clause → List Span
value_spans cs = map (λ c. c.values) cs

abbrev pub counter_spans : List Clause → List Span
counter_spans cs = map (λ c. c.counters) cs

-- clauses that were added, with their values and mentions
pub record RowsAdded (d e : Draft) : Type 0 where
  pub rows : List Clause
  pub clauses : e.clauses ≡ d.clauses ++ rows
  pub clauses_few : length d.clauses ≤ 1024 → length e.clauses ≤ 1024
  pub listed : List Value
  pub values : e.values ≡ d.values ++ listed
  pub values_fit : (i : ℕ) (v : Value) → slice_get listed i ≡ Some v → v.code < 65536
  pub values_few : length d.values ≤ 2048 → length e.values ≤ 2048
  pub named : List ℕ
  pub mentions : e.mentions ≡ d.mentions ++ named
  pub mentions_few : length d.mentions ≤ 2048 → length e.mentions ≤ 2048
  pub kept : (i : ℕ) (c : Clause) → slice_get rows i ≡ Some c → ClauseKept d.bins (length d.counters) e.mentions c
  pub values_follow : Follow (length d.values) (value_spans rows) (length e.values)
  pub counters_follow : Follow (length d.mentions) (counter_spans rows) (length e.mentions)
  pub others : Same d e

rows_none : (d : Draft) → RowsAdded d d
rows_none d = record {
  rows = [];
  clauses = sym (append-nil d.clauses);
  clauses_few = λ l. l;
  listed = [];
  values = sym (append-nil d.values);
  values_fit = λ i v e. never_some v e;
  values_few = λ l. l;
  named = [];
  mentions = sym (append-nil d.mentions);
  mentions_few = λ l. l;
  kept = λ i c e. never_some c e;
  values_follow = refl;
  counters_follow = refl;
  others = record { groups = refl; bins = refl; counters = refl; tests = refl; flows = refl; sort_group = refl; main_flow = refl };
}

added_behind : {X : Type 0} (xs ys zs a b : List X) → ys ≡ xs ++ a → zs ≡ ys ++ b → zs ≡ xs ++ (a ++ b)
added_behind xs ys zs a b e f = f ∙ (ap (λ l. l ++ b) e ∙ append_assoc xs a b)

pub rows_then : (c d e : Draft) → RowsAdded c d → RowsAdded d e → RowsAdded c e
rows_then c d e a b = record {
  rows = a.rows ++ b.rows;
  clauses = added_behind c.clauses d.clauses e.clauses a.rows b.rows a.clauses b.clauses;
  clauses_few = λ l. b.clauses_few (a.clauses_few l);
  listed = a.listed ++ b.listed;
  values = added_behind c.values d.values e.values a.listed b.listed a.values b.values;
  values_fit = λ i v at. fits i v (nth_either a.listed b.listed i v at);
  values_few = λ l. b.values_few (a.values_few l);
  named = a.named ++ b.named;
  mentions = added_behind c.mentions d.mentions e.mentions a.named b.named a.mentions b.mentions;
  mentions_few = λ l. b.mentions_few (a.mentions_few l);
  kept = λ i x at. keeps i x (nth_either a.rows b.rows i x at);
  values_follow = subst (λ l. Follow (length c.values) l (length e.values)) (sym (map-append (λ c. c.values) a.rows b.rows)) (follow_then (length c.values) (value_spans a.rows) (length d.values) (value_spans b.rows) (length e.values) a.values_follow b.values_follow);
  counters_follow = subst (λ l. Follow (length c.mentions) l (length e.mentions)) (sym (map-append (λ c. c.counters) a.rows b.rows)) (follow_then (length c.mentions) (counter_spans a.rows) (length d.mentions) (counter_spans b.rows) (length e.mentions) a.counters_follow b.counters_follow);
  others = let o = a.others in let p = b.others in record { groups = p.groups ∙ o.groups; bins = p.bins ∙ o.bins; counters = p.counters ∙ o.counters; tests = p.tests ∙ o.tests; flows = p.flows ∙ o.flows; sort_group = p.sort_group ∙ o.sort_group; main_flow = p.main_flow ∙ o.main_flow };
}
  where
    fits : (i : ℕ) (v : Value) → (slice_get a.listed i ≡ Some v) ⊎ ((j : ℕ) × (slice_get b.listed j ≡ Some v)) → v.code < 65536
    fits i v (inl e) = a.values_fit i v e
    fits i v (inr e) = b.values_fit e.0 v e.1

    keeps : (i : ℕ) (x : Clause) → (slice_get a.rows i ≡ Some x) ⊎ ((j : ℕ) × (slice_get b.rows j ≡ Some x)) → ClauseKept c.bins (length c.counters) e.mentions x
    keeps i x (inl at) = subst (λ m. ClauseKept c.bins (length c.counters) m x) (sym b.mentions) (clause_later c.bins (length c.counters) d.mentions b.named x (a.kept i x at))
    keeps i x (inr at) = subst (λ l. ClauseKept l (length c.counters) e.mentions x) a.others.bins (subst (λ l. ClauseKept d.bins (length l) e.mentions x) a.others.counters (b.kept at.0 x at.1))

-- one clause
clause_rows : (first : ℕ) (d e : Draft) → ClauseAdded first d e → RowsAdded d e
clause_rows first d e a =
    let c = a.clause in
    let vs = grown_length code_of first 65536 d.values e.values a.listed in
    let ms = grown_length (λ (k : ℕ). k) (length d.mentions) (length d.counters) d.mentions e.mentions a.named in
    let vfrom : c.values.from ≡ length d.values = ap (λ s. s.from) a.values in
    let vto : c.values.to ≡ length e.values = ap (λ s. s.to) a.values in
    let mfrom : c.counters.from ≡ length d.mentions = ap (λ s. s.from) a.counters in
    let mto : c.counters.to ≡ length e.mentions = ap (λ s. s.to) a.counters in
    let names : a.named.more ≡ rows_of c.counters e.mentions = sym (ap (λ (s : Span). rows_of s e.mentions) a.counters ∙ span_added d.mentions e.mentions a.named.more a.named.is) in
    let one : ClauseKept d.bins (length d.counters) e.mentions c = record {
      has_value = omega (arith, vfrom, vto, vs, a.has_value);
      within = omega (arith, mto);
      named_once = subst Once names a.named_once;
      named = subst (λ (l : List ℕ). (i n : ℕ) → slice_get l i ≡ Some n → n < length d.counters) names a.named.fit;
      leaf = a.leaf;
      returns = a.returns;
    } in
    let o = a.others in
    record {
      rows = c ∷ [];
      clauses = a.clauses;
      clauses_few = λ l. a.few;
      listed = a.listed.more;
      values = a.listed.is;
      values_fit = a.listed.fit;
      values_few = a.listed.few;
      named = a.named.more;
      mentions = a.named.is;
      mentions_few = a.named.few;
      kept = λ i x at. only x i at one;
      values_follow = follow_one (length d.values) (length e.values) c.values vfrom vto (omega (arith, vs));
      counters_follow = follow_one (length d.mentions) (length e.mentions) c.counters mfrom mto (omega (arith, ms));
      others = record { groups = o.groups; bins = o.bins; counters = o.counters; tests = o.tests; flows = o.flows; sort_group = o.sort_group; main_flow = o.main_flow };
    }
  where
    only : (x : Clause) (i : ℕ) → slice_get (a.clause ∷ []) i ≡ Some x → ClauseKept d.bins (length d.counters) e.mentions a.clause → ClauseKept d.bins (length d.counters) e.mentions x
    only x zero at k = subst (ClauseKept d.bins (length d.counters) e.mentions) (the_same at) k
    only x (suc i) at k = never_some x at

-- an item

pub rows_length : {X : Type 0} (xs ys more : List X) → ys ≡ xs ++ more → length ys ≡ length xs + length more
rows_length xs ys more e = ap length e ∙ length-append xs more

-- what is run is a test or a flow
abbrev pub Known : Draft → Runs → Type 0
Known d (RunsTest t) = t < length d.tests
Known d (RunsFlow f) = f < length d.flows

-- an item that was added, in the flow whose items begin at the row `first`
pub record ItemAdded (text : List ℕ) (first : ℕ) (d e : Draft) : Type 0 where
  pub item : Item
  pub items : e.items ≡ d.items ++ item ∷ []
  pub few : length e.items ≤ 512
  pub rows : RowsAdded d e
  pub clauses : item.clauses ≡ span (length d.clauses) (length e.clauses)
  pub has_clause : length d.clauses < length e.clauses
  pub once : Once (map code_of rows.listed)
  pub new : (i : ℕ) → slice_get (map (λ it. spelt text it.name) (drop first d.items)) i ≡ Some (spelt text item.name) → ⊥
  pub runs : Known d item.runs
  pub returned : (f : ℕ) → item.runs ≡ RunsFlow f → items_listed rows.listed e.clauses (flow_items d.items (slice_get d.flows f)) ≡ true

module _ (text : List ℕ) where
  -- while the clauses of an item are read
  abbrev InItem : Draft → Draft → Tokens → Type 0
  InItem d s ts = RowsAdded d s × (length d.clauses < length s.clauses) × Once (map code_of (drop (length d.values) s.values)) × NamesAt text ts

  clause_in_item : (p : ℕ) (d s : Draft) (ts : Tokens) (t : Draft) (us : Tokens) → clause_in text p (length d.values) s ts ≡ Ok (t, us) → RowsAdded d s → Once (map code_of (drop (length d.values) s.values)) → NamesAt text ts → InItem d t us
  clause_in_item p d s ts t us h r once n =
      let a = clause_added text p (length d.values) s ts t us h in (
        rows_then d s t r (clause_rows (length d.values) s t a),
        omega (arith, rows_length s.clauses t.clauses (a.clause ∷ []) a.clauses, rows_length d.clauses s.clauses r.rows r.clauses),
        a.listed.once (omega (arith, rows_length d.values s.values r.listed r.values)) once,
        clause_leaves text p (length d.values) s ts t us h n,
      )

  none_once : (d : Draft) → Once (map code_of (drop (length d.values) d.values))
  none_once d = subst (λ l. Once (map code_of l)) (sym (drop_all (length d.values) d.values (omega arith))) (λ i j x e. never_some x e)

  -- the clauses of an item
  pub clauses_kept_lem : (d : Draft) (ts : Tokens) (e : Draft) (us : Tokens) → clauses_in text d ts ≡ Ok (e, us) → NamesAt text ts → InItem d e us
  clauses_kept_lem d ts e us h n =
      let row = λ (f : Found). clause_in text f.place (length d.values) in
      let b = braced_passed (is_keyword kw.Result) row d ts e us h in
      rows_keep (is_keyword kw.Result) row (InItem d)
      (λ s ts f us k p. (p.0, p.1, p.2, want_leaves text _ _ ts f us k p.3))
      (λ f s ts t us k p. clause_in_item f.place d s ts t us k p.0 p.2 p.3)
      d b.first b.behind (e, b.last) us
      (λ x vs k. clause_in_item b.first.place d d b.behind x vs k (rows_none d) (none_once d) (names_inside text b n))
      b.begun b.rows

  -- what an item runs is known
  runs_known : (d : Draft) (ts : Tokens) (runs : Runs) (us : Tokens) → runs_in text d ts ≡ Ok (runs, us) → NamesAt text ts → Known d runs × NamesAt text us
  runs_known d ts runs us h m =
      let n = parse_passed (name_in ts) h in
      by n.v (found (λ t. t.name) text d.tests n.v.0) refl n.us (want_leaves text _ _ ts n.v n.us n.is m) n.goes
    where
      flow : (n : Spot) (o : Option ℕ) → found (λ f. f.name) text d.flows n.0 ≡ o → (vs : Tokens) → NamesAt text vs → flow_run d n.1 o vs ≡ Ok (runs, us) → Known d runs × NamesAt text us
      flow n None e vs m k = no_fault k
      flow n (Some f) e vs m k =
          let kept = refuse_passed (leb 8 (depth_in (slice_get d.flows f))) (TooDeep n.1) _ k in
          let is = accepted kept.1 in
          (subst (Known d) is.0 (found_below (λ f. f.name) text n.0 d.flows f e), subst (NamesAt text) is.1 m)

      by : (n : Spot) (o : Option ℕ) → found (λ t. t.name) text d.tests n.0 ≡ o → (vs : Tokens) → NamesAt text vs → test_run text d n o vs ≡ Ok (runs, us) → Known d runs × NamesAt text us
      by n (Some t) e vs m k = let is = accepted k in (subst (Known d) is.0 (found_below (λ t. t.name) text n.0 d.tests t e), subst (NamesAt text) is.1 m)
      by n None e vs m k = flow n (found (λ f. f.name) text d.flows n.0) refl vs m k

  abbrev behind_item : (row : Item) (d e : Draft) → RowsAdded d e → RowsAdded d (with_item row e)
  behind_item row d e r =
      let o = r.others in
      record { rows = r.rows; clauses = r.clauses; clauses_few = r.clauses_few; listed = r.listed; values = r.values; values_fit = r.values_fit; values_few = r.values_few; named = r.named; mentions = r.mentions; mentions_few = r.mentions_few; kept = r.kept; values_follow = r.values_follow; counters_follow = r.counters_follow; others = record { groups = o.groups; bins = o.bins; counters = o.counters; tests = o.tests; flows = o.flows; sort_group = o.sort_group; main_flow = o.main_flow } }

  pub item_kept : (first place : ℕ) (d : Draft) (ts : Tokens) (e : Draft) (us : Tokens) → item_in text first place d ts ≡ Ok (e, us) → NamesAt text ts → ItemAdded text first d e × NamesAt text us
  item_kept first place d ts e us h m =
      let room = refuse_passed (leb 512 (length d.items)) (TableFull place) _ h in
      let n = parse_passed (name_in ts) room.1 in
      let new = refuse_passed (is_some (found item_name text (drop first d.items) n.v.0)) (DeclaredBefore n.v.1) _ n.goes in
      let runs = then_passed (runs_in text d n.us) new.1 in
      let clauses = then_passed (clauses_in text d runs.us) runs.goes in
      let c = clauses.v in
      let listed = refuse_passed (not (run_listed c (length d.values) runs.v)) (ReturnNotListed n.v.1) _ clauses.goes in
      let made = accepted listed.1 in
      let spelled = name_at text ts n.v n.us n.is m in
      let known = runs_known d n.us runs.v runs.us runs.is (want_leaves text _ _ ts n.v n.us n.is m) in
      let rows = clauses_kept_lem d runs.us c clauses.us clauses.is known.1 in
      let b = clauses_beside text d runs.us c clauses.us clauses.is in
      let own : drop (length d.values) c.values ≡ rows.0.listed = ap (drop (length d.values)) rows.0.values ∙ drop_at d.values rows.0.listed (length d.values) refl in
      let row : Item = record { name = name_of n.v; runs = runs.v; clauses = span (length d.clauses) (length c.clauses) } in
      let returned : (f : ℕ) → runs.v ≡ RunsFlow f → items_listed rows.0.listed c.clauses (flow_items d.items (slice_get d.flows f)) ≡ true = λ f is.
      subst (λ l. items_listed rows.0.listed c.clauses (flow_items d.items (slice_get l f)) ≡ true) b.flows
      (subst (λ l. items_listed rows.0.listed c.clauses (flow_items l (slice_get c.flows f)) ≡ true) b.items
      (subst (λ l. items_listed l c.clauses (flow_items c.items (slice_get c.flows f)) ≡ true) own
      (subst (λ r. run_listed c (length d.values) r ≡ true) is (not-false _ listed.0)))) in
      let added : ItemAdded text first d (with_item row c) = record {
        item = row;
        items = ap (λ l. l ++ row ∷ []) b.items;
        few = omega (arith, length-append c.items (row ∷ []), ap length b.items, leb-false 512 (length d.items) room.0);
        rows = behind_item row d c rows.0;
        clauses = refl;
        has_clause = rows.1;
        once = subst (λ l. Once (map code_of l)) own rows.2;
        new = λ i is. none_found item_name text n.v.0 (drop first d.items) new.0 i (is ∙ ap Some spelled);
        runs = known.0;
        returned = returned;
      } in
      (subst (ItemAdded text first d) made.0 added, subst (NamesAt text) made.1 rows.3)

-- the items of a flow

-- flows have their items, and items their clauses, in the tables
pub record Held (d : Draft) : Type 0 where
  pub flows : (f : ℕ) (flow : Flow) → slice_get d.flows f ≡ Some flow → flow.items.to ≤ length d.items
  pub items : (i : ℕ) (it : Item) → slice_get d.items i ≡ Some it → it.clauses.to ≤ length d.clauses

-- what the row of an item keeps, in a flow that began where the tables were `d`, where these are all values and the spans of
-- values of all clauses
pub record ItemKept (d : Draft) (values : List Value) (spans : List Span) (it : Item) : Type 0 where
  pub has_clause : it.clauses.from < it.clauses.to
  pub within : it.clauses.to ≤ length spans
  pub listed : Span
  pub listed_within : listed.to ≤ length values
  pub listed_follow : Follow listed.from (rows_of it.clauses spans) listed.to
  pub once : Once (map code_of (rows_of listed values))
  pub runs : Known d it.runs
  pub returned : (f : ℕ) → it.runs ≡ RunsFlow f → items_listed (rows_of listed values) d.clauses (flow_items d.items (slice_get d.flows f)) ≡ true

pub item_later : (d : Draft) (vs ws : List Value) (ss rs : List Span) (it : Item) → ItemKept d vs ss it → ItemKept d (vs ++ ws) (ss ++ rs) it
item_later d vs ws ss rs it k =
    let own = sym (between_append k.listed.from k.listed.to vs ws k.listed_within) in
    let spans = sym (between_append it.clauses.from it.clauses.to ss rs k.within) in
    record {
      has_clause = k.has_clause;
      within = omega (arith, k.within, length-append ss rs);
      listed = k.listed;
      listed_within = omega (arith, k.listed_within, length-append vs ws);
      listed_follow = subst (λ l. Follow k.listed.from l k.listed.to) spans k.listed_follow;
      once = subst (λ l. Once (map code_of l)) own k.once;
      runs = k.runs;
      returned = λ f e. subst (λ l. items_listed l d.clauses (flow_items d.items (slice_get d.flows f)) ≡ true) own (k.returned f e);
    }

-- the items of a flow that began where the tables were `d`
pub record ItemsAdded (text : List ℕ) (d e : Draft) : Type 0 where
  pub more : List Item
  pub items : e.items ≡ d.items ++ more
  pub few : length d.items ≤ 512 → length e.items ≤ 512
  pub rows : RowsAdded d e
  pub names : Once (map (λ it. spelt text it.name) (drop (length d.items) e.items))
  pub follow : Follow (length d.clauses) (map (λ it. it.clauses) more) (length e.clauses)
  pub kept : (i : ℕ) (it : Item) → slice_get more i ≡ Some it → ItemKept d e.values (value_spans e.clauses) it

items_none : (text : List ℕ) (d : Draft) → ItemsAdded text d d
items_none text d = record {
  more = [];
  items = sym (append-nil d.items);
  few = λ l. l;
  rows = rows_none d;
  names = subst (λ l. Once (map (λ it. spelt text it.name) l)) (sym (drop_all (length d.items) d.items (omega arith))) (λ i j x e. never_some x e);
  follow = refl;
  kept = λ i it e. never_some it e;
}

known_before : (d s : Draft) → Same d s → (r : Runs) → Known s r → Known d r
known_before d s o (RunsTest t) k = subst (λ l. t < length l) o.tests k
known_before d s o (RunsFlow f) k = subst (λ l. f < length l) o.flows k

pub between_map : {X Y : Type 0} (f : X → Y) (i j : ℕ) (xs : List X) → between i j (map f xs) ≡ map f (between i j xs)
between_map f i j xs = ap (take (j - i)) (drop-map f i xs) ∙ take-map f (j - i) (drop i xs)

module _ (text : List ℕ) (d : Draft) (held : Held d) where
  -- the row of the item that was added last
  new_item : (s t : Draft) → ItemsAdded text d s → (a : ItemAdded text (length d.items) s t) → ItemKept d t.values (value_spans t.clauses) a.item
  new_item s t p a =
      let r = a.rows in
      let it = a.item in
      let from : it.clauses.from ≡ length s.clauses = ap (λ x. x.from) a.clauses in
      let to : it.clauses.to ≡ length t.clauses = ap (λ x. x.to) a.clauses in
      let own = sym (span_added s.values t.values r.listed r.values) in
      let spans : value_spans r.rows ≡ rows_of it.clauses (value_spans t.clauses) =
      sym (between_map (λ c. c.values) it.clauses.from it.clauses.to t.clauses ∙ ap value_spans (ap (λ (x : Span). rows_of x t.clauses) a.clauses ∙ span_added s.clauses t.clauses r.rows r.clauses)) in
      let all : t.clauses ≡ d.clauses ++ (p.rows.rows ++ r.rows) = added_behind d.clauses s.clauses t.clauses p.rows.rows r.rows p.rows.clauses r.clauses in
      let before : (f : ℕ) → items_listed r.listed t.clauses (flow_items s.items (slice_get s.flows f)) ≡ true → items_listed r.listed d.clauses (flow_items d.items (slice_get d.flows f)) ≡ true = λ f h.
      sym (listed_before r.listed d.clauses (p.rows.rows ++ r.rows) (flow_items d.items (slice_get d.flows f)) (λ i x e. let at = flow_item d.items (slice_get d.flows f) i x e in held.items at.0 x at.1))
      ∙ (ap (items_listed r.listed (d.clauses ++ (p.rows.rows ++ r.rows))) (sym (flow_items_before d.items p.more (slice_get d.flows f) (held.flows f)))
      ∙ (ap (λ l. items_listed r.listed (d.clauses ++ (p.rows.rows ++ r.rows)) (flow_items l (slice_get d.flows f))) (sym p.items)
      ∙ (ap (λ l. items_listed r.listed (d.clauses ++ (p.rows.rows ++ r.rows)) (flow_items s.items (slice_get l f))) (sym p.rows.others.flows)
      ∙ (ap (λ l. items_listed r.listed l (flow_items s.items (slice_get s.flows f))) (sym all) ∙ h)))) in
      record {
        has_clause = omega (arith, from, to, a.has_clause);
        within = omega (arith, to, length-map t.clauses (λ c. c.values));
        listed = span (length s.values) (length t.values);
        listed_within = omega arith;
        listed_follow = subst (λ l. Follow (length s.values) l (length t.values)) spans r.values_follow;
        once = subst (λ l. Once (map code_of l)) own a.once;
        runs = known_before d s p.rows.others it.runs a.runs;
        returned = λ f e. subst (λ l. items_listed l d.clauses (flow_items d.items (slice_get d.flows f)) ≡ true) own (before f (a.returned f e));
      }

  items_more : (s t : Draft) → ItemsAdded text d s → ItemAdded text (length d.items) s t → ItemsAdded text d t
  items_more s t p a =
      let r = a.rows in
      let it = a.item in
      let behind : length d.items ≤ length s.items = omega (arith, rows_length d.items s.items p.more p.items) in
      record {
        more = p.more ++ it ∷ [];
        items = added_behind d.items s.items t.items p.more (it ∷ []) p.items a.items;
        few = λ l. a.few;
        rows = rows_then d s t p.rows r;
        names = subst (λ l. Once (map (λ it. spelt text it.name) l)) (sym (ap (drop (length d.items)) a.items ∙ drop-append-le (length d.items) s.items (it ∷ []) behind)) (once_row (λ it. spelt text it.name) (drop (length d.items) s.items) it p.names a.new);
        follow = subst (λ l. Follow (length d.clauses) l (length t.clauses)) (sym (map-append (λ it. it.clauses) p.more (it ∷ []))) (follow_then (length d.clauses) (map (λ it. it.clauses) p.more) (length s.clauses) (it.clauses ∷ []) (length t.clauses) p.follow (follow_one (length s.clauses) (length t.clauses) it.clauses (ap (λ x. x.from) a.clauses) (ap (λ x. x.to) a.clauses) (omega (arith, a.has_clause))));
        kept = λ i x e. by i x (nth_added p.more it i x e);
      }
    where
      by : (i : ℕ) (x : Item) → Earlier p.more a.item i x → ItemKept d t.values (value_spans t.clauses) x
      by i x (inl e) =
          subst (λ l. ItemKept d t.values l x) (sym (ap value_spans a.rows.clauses ∙ map-append (λ c. c.values) s.clauses a.rows.rows))
          (subst (λ l. ItemKept d l (value_spans s.clauses ++ value_spans a.rows.rows) x) (sym a.rows.values)
          (item_later d s.values a.rows.listed (value_spans s.clauses) (value_spans a.rows.rows) x (p.kept i x e)))
      by i x (inr e) = subst (ItemKept d t.values (value_spans t.clauses)) (sym e.1) (new_item s t p a)

  -- while the items of the flow are read, behind the first
  abbrev InFlow : Draft → Tokens → Type 0
  InFlow s ts = ItemsAdded text d s × (length d.items < length s.items) × NamesAt text ts

  item_in_flow : (place : ℕ) (s : Draft) (ts : Tokens) (t : Draft) (us : Tokens) → item_in text (length d.items) place s ts ≡ Ok (t, us) → ItemsAdded text d s → NamesAt text ts → InFlow t us
  item_in_flow place s ts t us h p n =
      let one = item_kept text (length d.items) place s ts t us h n in
      let a = one.0 in
      (items_more s t p a, omega (arith, rows_length s.items t.items (a.item ∷ []) a.items, rows_length d.items s.items p.more p.items), one.1)

  pub items_kept_lem : (ts : Tokens) (e : Draft) (us : Tokens) → items_in text d ts ≡ Ok (e, us) → NamesAt text ts → InFlow e us
  items_kept_lem ts e us h n =
      let row = λ (f : Found). item_in text (length d.items) f.place in
      let b = braced_passed (is_keyword kw.FlowItem) row d ts e us h in
      rows_keep (is_keyword kw.FlowItem) row InFlow
      (λ s ts f us k p. (p.0, p.1, want_leaves text _ _ ts f us k p.2))
      (λ f s ts t us k p. item_in_flow f.place s ts t us k p.0 p.2)
      d b.first b.behind (e, b.last) us
      (λ x vs k. item_in_flow b.first.place d b.behind x vs k (items_none text d) (names_inside text b n))
      b.begun b.rows
