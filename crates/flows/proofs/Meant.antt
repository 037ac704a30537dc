-- The rules about flows, items and clauses, of what a plan means, where its rows keep them.
use Rattle.std.proofs.Common.{◌≡◌, ℕ, ◌+◌, ◌-◌, ◌<◌, ◌≤◌, true, List, [], ◌∷◌, map, length, Some, None, Option, sym, refl, ap, ◌∙◌, subst, arith}
use lib.ListN.{length-map}
use Rattle.std.proofs.lemmas.List.{map-append}
use Rattle.std.proofs.lemmas.List.Edits.{between_none, length-between}
use Rattle.std.proofs.lemmas.Slice.{between_to_end}
use Rattle.std.specs.List.{between, flat_map, slice_get}
use Rattle.plan.specs.declared.rows.Clause.{Clause}
use Rattle.plan.specs.declared.rows.Flow.{Flow}
use Rattle.plan.specs.declared.rows.Item.{Item}
use Rattle.plan.specs.Drafts.{Draft}
use Rattle.plan.specs.Meaning.{PlanClause, PlanItem, PlanFlow, meaning, code_of, bin_of, flow_of, item_of, clause_of, rows_of, clauses_in, clauses_at, all_values}
use Rattle.plan.specs.Rules.{Among, Once, In, Consecutive, all_clauses, RunsDeclaredTest, RunsEarlierFlow, ReturnListed, ValueOnce, ValueFits, ReturnFits, CounterOnce, CounterDeclared, LeafDeclared, GoToStays, FlowHasItem, ItemHasClause, ClauseHasValue, ItemsInFlows}
use Rattle.plan.proofs.Readings.{MadeOf, made_of, bin_meant_lem, flows_counted, items_counted, counters_counted, tests_counted}
use Rattle.plan.proofs.Spans.{never_some, nth_between, nth_between_lt}
use Rattle.flows.specs.Checks.{items_listed, clauses_listed, return_listed, flow_items}
use Rattle.flows.proofs.Following.{Follow}
use Rattle.flows.proofs.Kept.{ClauseKept, ItemKept, Known, value_spans, between_map}
use Rattle.flows.proofs.Joining.{follow_to, between_joined, joined_whole, between_nth, every_at, lists_among}
use Rattle.flows.proofs.All.{Inside, FlowsKept}

-- the flows' items follow one another
pub consecutive : (from : ℕ) (flows : List Flow) (to : ℕ) → Follow from (map (λ f. f.items) flows) to → Consecutive from (map flow_of flows) to
consecutive from [] to f = f
consecutive from (x ∷ flows) to f =
    let there : x.items.to ≡ from + (x.items.to - x.items.from) = omega (arith, f.0, f.1) in
    (f.0, subst (λ n. Consecutive n (map flow_of flows) to) there (consecutive x.items.to flows to f.2))

module _ (d : Draft) where
  item_row : (i : ℕ) (it : PlanItem) → slice_get (meaning d).items i ≡ Some it → MadeOf (item_of d) d.items i it
  unfolding meaning
  item_row i it at = made_of (item_of d) d.items i it at

  flow_row_lem : (i : ℕ) (f : PlanFlow) → slice_get (meaning d).flows i ≡ Some f → MadeOf flow_of d.flows i f
  unfolding meaning
  flow_row_lem i f at = made_of flow_of d.flows i f at

  -- the row of a clause, and the row of its item
  record ClauseRow (i : ℕ) (c : PlanClause) : Type 0 where
    item : Item
    at : slice_get d.items i ≡ Some item
    j : ℕ
    within : Inside item.clauses j
    clause : Clause
    stands : slice_get d.clauses j ≡ Some clause
    is : clause_of d clause ≡ c

  clause_row : (i : ℕ) (c : PlanClause) → Among c (clauses_at (meaning d) i) → ClauseRow i c
  clause_row i c has = by (slice_get (meaning d).items i) refl has
    where
      by : (o : Option PlanItem) → slice_get (meaning d).items i ≡ o → Among c (clauses_in o) → ClauseRow i c
      by None e has = never_some c has.1
      by (Some it) e has =
          let r = item_row i it e in
          let s = r.row.clauses in
          let m = made_of (clause_of d) (rows_of s d.clauses) has.0 c (ap (λ x. slice_get x.clauses has.0) r.is ∙ has.1) in
          record {
            item = r.row;
            at = r.at;
            j = s.from + has.0;
            within = (omega arith, nth_between_lt s.from s.to d.clauses has.0 m.row m.at);
            clause = m.row;
            stands = nth_between s.from s.to d.clauses has.0 m.row m.at;
            is = m.is;
          }

  -- the values of clauses whose spans follow one another
  values_joined : (from : ℕ) (cs : List Clause) (to : ℕ) → Follow from (value_spans cs) to → all_values (map (clause_of d) cs) ≡ map code_of (between from to d.values)
  values_joined from cs to f =
      joined_whole (clause_of d) (λ c. c.values) (λ c. c.values) (λ a b. map code_of (between a b d.values))
      (λ c. refl)
      (λ n. ap (map code_of) (sym (between_none d.values n)))
      (λ a b c l m. sym (map-append code_of (between a b d.values) (between b c d.values)) ∙ ap (map code_of) (between_joined a b c d.values l m))
      from cs to f

  module _ (text : List ℕ) (start : Draft) (k : FlowsKept text start d) where
    -- what is listed in an item stands together in the table of values
    item_values : (it : Item) (p : ItemKept d d.values (value_spans d.clauses) it) → all_values (item_of d it).clauses ≡ map code_of (rows_of p.listed d.values)
    item_values it p =
        values_joined p.listed.from (rows_of it.clauses d.clauses) p.listed.to
        (subst (λ l. Follow p.listed.from l p.listed.to) (between_map (λ c. c.values) it.clauses.from it.clauses.to d.clauses) p.listed_follow)

    -- so the values of the item i
    values_at : (P : List ℕ → Type 0) (i : ℕ) → P [] → ((it : Item) → slice_get d.items i ≡ Some it → (p : ItemKept d d.values (value_spans d.clauses) it) → P (map code_of (rows_of p.listed d.values))) → P (all_values (clauses_at (meaning d) i))
    values_at P i none some = by (slice_get (meaning d).items i) refl
      where
        by : (o : Option PlanItem) → slice_get (meaning d).items i ≡ o → P (all_values (clauses_in o))
        by None e = none
        by (Some it) e =
            let r = item_row i it e in
            let p = k.items i r.row r.at in
            subst (λ x. P (all_values x.clauses)) r.is (subst P (sym (item_values r.row p)) (some r.row r.at p))

    pub value_once_lem : ValueOnce (meaning d)
    value_once_lem i = values_at Once i (λ a b x e. never_some x e) (λ it at p. p.once)

    pub value_fits_lem : ValueFits (meaning d)
    value_fits_lem i v has = values_at (λ l. Among v l → v < 65536) i (λ a. never_some v a.1) fits has
      where
        fits : (it : Item) → slice_get d.items i ≡ Some it → (p : ItemKept d d.values (value_spans d.clauses) it) → Among v (map code_of (rows_of p.listed d.values)) → v < 65536
        fits it at p a =
            let m = made_of code_of (rows_of p.listed d.values) a.0 v a.1 in
            subst (λ n. n < 65536) m.is (k.values_fit (p.listed.from + a.0) m.row (nth_between p.listed.from p.listed.to d.values a.0 m.row m.at))

    pub runs_declared_test_lem : RunsDeclaredTest (meaning d)
    runs_declared_test_lem i t it at runs =
        let r = item_row i it at in
        let known : t < length d.tests = subst (Known d) (ap (λ x. x.runs) r.is ∙ runs) (k.items i r.row r.at).runs in
        subst (λ n. t < n) (tests_counted d) known

    -- a row of a flow of the plan stands in the span of the flow's row
    in_span : (n i : ℕ) (f : PlanFlow) (r : MadeOf flow_of d.flows n f) → In f i → Inside r.row.items i
    in_span n i f r within =
        let has = k.has_item n r.row r.at in
        let own : In (flow_of r.row) i = subst (λ x. In x i) (sym r.is) within in
        (own.0, omega (arith, own.1, has))

    out_span : (n i : ℕ) (f : PlanFlow) (r : MadeOf flow_of d.flows n f) → Inside r.row.items i → In f i
    out_span n i f r within = subst (λ x. In x i) r.is (within.0, omega (arith, within.0, within.1))

    pub runs_earlier_flow_lem : RunsEarlierFlow (meaning d)
    runs_earlier_flow_lem n i t f it at within item runs =
        let r = flow_row_lem n f at in
        let s = item_row i it item in
        k.runs_earlier n i t r.row s.row r.at (in_span n i f r within) s.at (ap (λ x. x.runs) s.is ∙ runs)

    pub go_to_stays_lem : GoToStays (meaning d)
    go_to_stays_lem n i t f c at within has next =
        let r = flow_row_lem n f at in
        let s = clause_row i c has in
        out_span n t f r (k.stays n i s.j t r.row s.item s.clause r.at (in_span n i f r within) s.at s.within s.stands (ap (λ x. x.next) s.is ∙ next))

    -- what the row of a clause keeps
    clause_kept : (i : ℕ) (c : PlanClause) (s : ClauseRow i c) → ClauseKept d.bins (length d.counters) d.mentions s.clause
    clause_kept i c s = k.clauses s.j s.clause s.stands

    pub return_fits_lem : ReturnFits (meaning d)
    return_fits_lem i c v has next = let s = clause_row i c has in (clause_kept i c s).returns v (ap (λ x. x.next) s.is ∙ next)

    pub counter_once_lem : CounterOnce (meaning d)
    counter_once_lem i c has = let s = clause_row i c has in subst (λ x. Once x.counters) s.is (clause_kept i c s).named_once

    pub counter_declared_lem : CounterDeclared (meaning d)
    counter_declared_lem i n c has named =
        let s = clause_row i c has in
        subst (λ m. n < m) (counters_counted d) ((clause_kept i c s).named named.0 n (ap (λ x. slice_get x.counters named.0) s.is ∙ named.1))

    pub leaf_declared_lem : LeafDeclared (meaning d)
    leaf_declared_lem i l c has leaf =
        let s = clause_row i c has in
        let b = (clause_kept i c s).leaf l (ap (λ x. x.leaf) s.is ∙ leaf) in
        (bin_of b.0, sym (bin_meant_lem d l (Some b.0) (sym b.1)), b.2)

    pub flow_has_item_lem : FlowHasItem (meaning d)
    flow_has_item_lem n f at =
        let r = flow_row_lem n f at in
        subst (λ x. 0 < x.count) r.is (omega (arith, k.has_item n r.row r.at))

    pub item_has_clause_lem : ItemHasClause (meaning d)
    item_has_clause_lem i it at =
        let r = item_row i it at in
        let s = r.row.clauses in
        let p = k.items i r.row r.at in
        let many : length (item_of d r.row).clauses ≡ s.to - s.from = length-map (rows_of s d.clauses) (clause_of d) ∙ length-between d.clauses s.from s.to (omega (arith, p.within, length-map d.clauses (λ c. c.values))) in
        subst (λ x. 0 < length x.clauses) r.is (omega (arith, many, p.has_clause))

    pub clause_has_value_lem : ClauseHasValue (meaning d)
    clause_has_value_lem i c has =
        let r = clause_row i c has in
        let s = r.clause.values in
        let held = follow_to (λ c. c.values) 0 d.clauses (length d.values) r.j r.clause k.values_follow r.stands in
        let many : length (clause_of d r.clause).values ≡ s.to - s.from = length-map (rows_of s d.values) code_of ∙ length-between d.values s.from s.to held in
        subst (λ x. 0 < length x.values) r.is (omega (arith, many, (clause_kept i c r).has_value))

    pub items_in_flows_lem : ItemsInFlows (meaning d)
    unfolding meaning
    items_in_flows_lem = subst (Consecutive 0 (map flow_of d.flows)) (items_counted d) (consecutive 0 d.flows (length d.items) k.items_follow)

    -- no more rows than there may be

    pub flows_fit : length (meaning d).flows ≤ 64
    flows_fit = subst (λ n. n ≤ 64) (flows_counted d) k.flows_few

    pub items_fit : length (meaning d).items ≤ 512
    items_fit = subst (λ n. n ≤ 512) (items_counted d) k.items_few

    -- all clauses are those of the table
    all_clauses_lem : map (clause_of d) d.clauses ≡ all_clauses (meaning d)
    unfolding meaning
    all_clauses_lem =
        sym (joined_whole (item_of d) (λ it. it.clauses) (λ it. it.clauses) (λ a b. map (clause_of d) (between a b d.clauses))
        (λ it. refl)
        (λ n. ap (map (clause_of d)) (sym (between_none d.clauses n)))
        (λ a b c l m. sym (map-append (clause_of d) (between a b d.clauses) (between b c d.clauses)) ∙ ap (map (clause_of d)) (between_joined a b c d.clauses l m))
        0 d.items (length d.clauses) k.clauses_follow
        ∙ ap (map (clause_of d)) (between_to_end d.clauses 0 (length d.clauses) (omega arith)))

    pub clauses_fit : length (all_clauses (meaning d)) ≤ 1024
    clauses_fit = subst (λ l. length l ≤ 1024) all_clauses_lem (omega (arith, length-map d.clauses (clause_of d), k.clauses_few))

    pub values_few_lem : length (all_values (all_clauses (meaning d))) ≤ 2048
    values_few_lem =
        let all : all_values (map (clause_of d) d.clauses) ≡ map code_of d.values = values_joined 0 d.clauses (length d.values) k.values_follow ∙ ap (map code_of) (between_to_end d.values 0 (length d.values) (omega arith)) in
        subst (λ l. length (all_values l) ≤ 2048) all_clauses_lem (omega (arith, ap length all, length-map d.values code_of, k.values_few))

    pub mentions_few_lem : length (flat_map (λ c. c.counters) (all_clauses (meaning d))) ≤ 2048
    mentions_few_lem =
        let all : flat_map (λ c. c.counters) (map (clause_of d) d.clauses) ≡ d.mentions =
        joined_whole (clause_of d) (λ c. c.counters) (λ c. c.counters) (λ a b. between a b d.mentions)
        (λ c. refl)
        (λ n. sym (between_none d.mentions n))
        (λ a b c l m. between_joined a b c d.mentions l m)
        0 d.clauses (length d.mentions) k.counters_follow
        ∙ between_to_end d.mentions 0 (length d.mentions) (omega arith) in
        subst (λ l. length (flat_map (λ c. c.counters) l) ≤ 2048) all_clauses_lem (omega (arith, ap length all, k.mentions_few))

    -- whatever a flow returns is listed where it is run
    pub return_listed_lem : ReturnListed (meaning d)
    return_listed_lem i t it f v at runs flow ret =
        let r = item_row i it at in
        let g = flow_row_lem t f flow in
        let p = k.items i r.row r.at in
        let vs = rows_of p.listed d.values in
        let c = clause_row ret.item ret.clause ret.has in
        let s = in_span t ret.item f g ret.within in
        let its = g.row.items in
        let cs = c.item.clauses in
        let all : items_listed vs d.clauses (rows_of its d.items) ≡ true = ap (λ o. items_listed vs d.clauses (flow_items d.items o)) (sym g.at) ∙ p.returned t (ap (λ x. x.runs) r.is ∙ runs) in
        let own : clauses_listed vs (rows_of cs d.clauses) ≡ true = every_at (λ it. clauses_listed vs (rows_of it.clauses d.clauses)) (rows_of its d.items) (ret.item - its.from) c.item all (between_nth its.from its.to d.items ret.item c.item s.0 s.1 c.at) in
        let one : return_listed vs c.clause.next ≡ true = every_at (λ c. return_listed vs c.next) (rows_of cs d.clauses) (c.j - cs.from) c.clause own (between_nth cs.from cs.to d.clauses c.j c.clause c.within.0 c.within.1 c.stands) in
        let listed = lists_among v.code (map code_of vs) (ap (return_listed vs) (sym (ap (λ x. x.next) c.is ∙ ret.leaves)) ∙ one) in
        subst (λ x. Among v.code (all_values x.clauses)) r.is (subst (Among v.code) (sym (item_values r.row p)) listed)
