-- What the rules of a whole plan say of one of its flows: the flow is accepted behind the flows before it.
use Rattle.std.proofs.Common.{◌≡◌, ℕ, zero, suc, ◌+◌, ◌-◌, ◌<◌, ◌≤◌, max, Bool, true, false, cond, ◌&&◌, ◌||◌, eqb, List, [], ◌∷◌, ◌++◌, map, length, get_or, take, drop, is_some, Some, None, Option, sym, refl, ap, ◌∙◌, subst, append_assoc, arith, length-append}
use lib.ListN.{length-map}
use Rattle.std.proofs.lemmas.List.{map-append, drop_at, take_at}
use Rattle.std.proofs.lemmas.Bool.{cond-false, true≢false, eq-eqb}
use Rattle.std.specs.List.{between, flat_map, slice_get}
use Rattle.plan.specs.declared.rows.Clause.{Clause}
use Rattle.plan.specs.declared.rows.Flow.{Flow}
use Rattle.plan.specs.declared.rows.Item.{Item}
use Rattle.plan.specs.declared.rows.Next.{Next}
use Rattle.plan.specs.declared.rows.Next.TheVariants.{GoTo, Return}
use Rattle.plan.specs.declared.rows.Runs.{Runs}
use Rattle.plan.specs.declared.rows.Runs.TheVariants.{Test as RunsTest, Flow as RunsFlow}
use Rattle.plan.specs.declared.rows.Value.{Value}
use Rattle.plan.specs.Drafts.{Draft}
use Rattle.plan.specs.Meaning.{Meaning, PlanClause, PlanItem, PlanFlow, rows_of, code_of, flow_of, clause_of, item_of, clauses_at, all_values, depth_run, depths_from, depths, lists}
use Rattle.plan.specs.Meaning as mean
use Rattle.plan.specs.Rules.{Among, Once, In, Returns, Lawful, all_clauses, spelt}
use Rattle.plan.proofs.Added.{the_same, nth_below}
use Rattle.plan.proofs.Spans.{never_some, nth_between, nth_between_lt}
use Rattle.names.specs.Names.{same_name, found}
use Rattle.flows.specs.Checks.{every, return_listed, clauses_listed, items_listed, flow_items, item_name, depth_in, depth_of, deepest}
use Rattle.flows.specs.Flows.{run_listed}
use Rattle.clauses.proofs.Beside.{Beside}
use Rattle.flows.proofs.All.{FlowsKept}
use Rattle.flows.proofs.Following.{flow_items_before, flow_item, listed_before}
use Rattle.flows.proofs.Kept.{rows_length}
use Rattle.language.specs.Trees.{Word, each, NextTree, go_to, return, ClauseTree, ItemTree, FlowTree, PlanTree}
use Rattle.language.specs.Standing.{position, declared, listed, bins_of, group_names, bin_names, bin_meant, test_names, item_names, Scope, next_meant, clause_meant, runs_meant, item_meant, items_meant, flows_meant, names_in}
use Rattle.language.specs.Obeying.{Every, Keeps}
use Rattle.language.proofs.Along.{joined_append, every_nth, nth_every, every_joined, joined_every, nth_made}
use Rattle.language.proofs.Clauses.{NextStands, ClauseKeeps}
use Rattle.language.proofs.Flows.{items_of, clauses_in, flows_named, items_meant_then, flows_meant_then, scope_for, runs_mean, FlowStands, FlowsStand, items_counted, FlowFits, TargetDeclared}
use Rattle.language.proofs.Items.{codes_of, mentions_of, ClausesAdded, clauses_counted, Room, tests_in, flows_in, runs_of, RunsStand, ItemFits, item_clauses, ItemRows, ItemsStand, item_rows_named}
use Rattle.language.proofs.Taking.{nth_front, nth_behind, nth_next, undeclared_next, undeclared_found, next_not_found, position_among, below_declared}

-- what a plan with these flows means
abbrev pub meant_with : PlanTree → List FlowTree → Meaning
meant_with p all = record {
  bins = map (bin_meant (bin_names p.bins)) (bins_of p.bins);
  sort_group = Some (position p.bins.sort_group (group_names p.bins));
  counters = length (listed p.counters);
  tests = length p.tests;
  flows = flows_meant 0 all;
  items = items_meant (scope_for p.bins (listed p.counters) (test_names p) (flows_named all)) 0 all;
  main_flow = Some (position p.main_flow (flows_named all));
}

-- the rules of a plan with these flows, as far as flows go
pub record FlowRules (p : PlanTree) (all : List FlowTree) : Type 0 where
  pub lawful : Lawful (meant_with p all)
  pub names_once : Once (test_names p ++ flows_named all)
  pub items_once : Every (λ f. Once (item_names f)) all
  pub keeps : Every (ClauseKeeps p.bins (scope_for p.bins (listed p.counters) (test_names p) [])) (clauses_in all)

pub flow_rules : (p : PlanTree) → Keeps p → FlowRules p (each p.flows)
flow_rules p k = record {
  lawful = k.lawful;
  names_once = k.tests_and_flows_once;
  items_once = k.items_once;
  keeps = nth_every (ClauseKeeps p.bins none) all (λ i c at. record {
    values_fit = every_nth _ all i c k.values_fit at;
    return_fits = every_nth _ all i c k.returns_fit at;
    pass_fail_known = every_nth _ all i c k.pass_fail_known at;
    counters_declared = every_nth _ all i c k.counters_declared at;
    leaf_right = every_nth _ all i c k.leaves_right at;
  });
}
  where
    none : Scope
    none = scope_for p.bins (listed p.counters) (test_names p) []

    all : List ClauseTree
    all = clauses_in (each p.flows)

-- lengths of what is meant

pub items_meant_length : (s : Scope) (first : ℕ) (fs : List FlowTree) → length (items_meant s first fs) ≡ length (items_of fs)
items_meant_length s first [] = refl
items_meant_length s first (f ∷ fs) = omega (arith, length-append (map (item_meant s first (item_names f)) (each f.items)) (items_meant s (first + length (each f.items)) fs), length-map (each f.items) (item_meant s first (item_names f)), items_meant_length s (first + length (each f.items)) fs, length-append (each f.items) (items_of fs))

pub flows_meant_length : (first : ℕ) (fs : List FlowTree) → length (flows_meant first fs) ≡ length fs
flows_meant_length first [] = refl
flows_meant_length first (f ∷ fs) = ap suc (flows_meant_length (first + length (each f.items)) fs)

-- what all clauses hold is what their trees hold
module _ (s : Scope) (g : PlanClause → List ℕ) (h : ClauseTree → List ℕ) (is : (first : ℕ) (items : List Word) (c : ClauseTree) → g (clause_meant s first items c) ≡ h c) where
  own_joined : (first : ℕ) (items : List Word) (cs : List ClauseTree) → flat_map g (map (clause_meant s first items) cs) ≡ flat_map h cs
  own_joined first items [] = refl
  own_joined first items (c ∷ cs) = ap (λ l. l ++ flat_map g (map (clause_meant s first items) cs)) (is first items c) ∙ ap (λ l. h c ++ l) (own_joined first items cs)

  items_joined : (first : ℕ) (items : List Word) (its : List ItemTree) → flat_map g (flat_map (λ it. it.clauses) (map (item_meant s first items) its)) ≡ flat_map h (item_clauses its)
  items_joined first items [] = refl
  items_joined first items (it ∷ its) =
      joined_append g (map (clause_meant s first items) (each it.clauses)) (flat_map (λ it. it.clauses) (map (item_meant s first items) its))
      ∙ (ap (λ l. l ++ flat_map g (flat_map (λ it. it.clauses) (map (item_meant s first items) its))) (own_joined first items (each it.clauses))
      ∙ (ap (λ l. flat_map h (each it.clauses) ++ l) (items_joined first items its) ∙ sym (joined_append h (each it.clauses) (item_clauses its))))

  pub all_joined : (first : ℕ) (fs : List FlowTree) → flat_map g (flat_map (λ it. it.clauses) (items_meant s first fs)) ≡ flat_map h (clauses_in fs)
  all_joined first [] = refl
  all_joined first (f ∷ fs) =
      let own = map (item_meant s first (item_names f)) (each f.items) in
      let others = items_meant s (first + length (each f.items)) fs in
      ap (flat_map g) (joined_append (λ it. it.clauses) own others)
      ∙ (joined_append g (flat_map (λ it. it.clauses) own) (flat_map (λ it. it.clauses) others)
      ∙ (ap (λ l. l ++ flat_map g (flat_map (λ it. it.clauses) others)) (items_joined first (item_names f) (each f.items))
      ∙ (ap (λ l. flat_map h (item_clauses (each f.items)) ++ l) (all_joined (first + length (each f.items)) fs)
      ∙ (sym (joined_append h (item_clauses (each f.items)) (clauses_in fs))
      ∙ ap (flat_map h) (sym (joined_append (λ it. each it.clauses) (each f.items) (items_of fs)))))))

-- depths

depth_at_lem : (flows : List Flow) (t : ℕ) → depth_in (slice_get flows t) ≡ get_or (map (λ f. f.depth) flows) t 0
depth_at_lem [] t = refl
depth_at_lem (f ∷ flows) zero = refl
depth_at_lem (f ∷ flows) (suc t) = depth_at_lem flows t

pub run_depth : (flows : List Flow) (r : Runs) → depth_of flows r ≡ depth_run (map (λ f. f.depth) flows) r
run_depth flows (RunsTest t) = refl
run_depth flows (RunsFlow t) = depth_at_lem flows t

-- the depths that are known stay
depths_stay : (items : List PlanItem) (earlier : List ℕ) (fs : List PlanFlow) (k v : ℕ) → slice_get earlier k ≡ Some v → slice_get (depths_from items earlier fs) k ≡ Some v
depths_stay items earlier [] k v at = at
depths_stay items earlier (f ∷ fs) k v at =
    let next = 1 + mean.deepest earlier (mean.items_in items f) in
    depths_stay items (earlier ++ next ∷ []) fs k v (nth_front earlier (next ∷ []) k v at)

deepest_among : (earlier : List ℕ) (its : List PlanItem) (j : ℕ) (it : PlanItem) → slice_get its j ≡ Some it → depth_run earlier it.runs ≤ mean.deepest earlier its
deepest_among earlier [] j it at = never_some it at
deepest_among earlier (x ∷ its) zero it at = subst (λ y. depth_run earlier y.runs ≤ max (depth_run earlier x.runs) (mean.deepest earlier its)) (the_same at) (omega arith)
deepest_among earlier (x ∷ its) (suc j) it at = omega (arith, deepest_among earlier its j it at)

-- the deepest flow that rows of items run
deepest_rows : (flows : List Flow) (g : ItemTree → PlanItem) (text : List ℕ) (tests names : List Word) → ((it : ItemTree) (row : Item) → RunsStand tests names row.runs it.runs → row.runs ≡ (g it).runs) → (from : ℕ) (rows : List Item) (its : List ItemTree) → ItemRows text tests names from rows its → deepest flows rows ≡ mean.deepest (map (λ f. f.depth) flows) (map g its)
deepest_rows flows g text tests names is from [] [] a = refl
deepest_rows flows g text tests names is from [] (it ∷ its) a = absurd a
deepest_rows flows g text tests names is from (r ∷ rows) [] a = absurd a
deepest_rows flows g text tests names is from (r ∷ rows) (it ∷ its) a =
    ap (λ k. max k (deepest flows rows)) (ap (depth_of flows) (is it r a.0.runs) ∙ run_depth flows (g it).runs)
    ∙ ap (max (depth_run (map (λ f. f.depth) flows) (g it).runs)) (deepest_rows flows g text tests names is (from + length (each it.clauses)) rows its a.1)

undeclared_parts : (w : Word) (xs ys : List Word) → declared w (xs ++ ys) ≡ false → (declared w xs ≡ false) × (declared w ys ≡ false)
undeclared_parts w [] ys e = (refl, e)
undeclared_parts w (x ∷ xs) ys e = by (same_name x w) e (undeclared_parts w xs ys)
  where
    by : (b : Bool) → cond b true (declared w (xs ++ ys)) ≡ false → (declared w (xs ++ ys) ≡ false → (declared w xs ≡ false) × (declared w ys ≡ false)) → (cond b true (declared w xs) ≡ false) × (declared w ys ≡ false)
    by true e rec = absurd (true≢false e)
    by false e rec = rec e

-- a test that holds of each
nth_all : {X : Type 0} (q : X → Bool) (xs : List X) → ((i : ℕ) (x : X) → slice_get xs i ≡ Some x → q x ≡ true) → every q xs ≡ true
nth_all q [] h = refl
nth_all q (x ∷ xs) h = ap (λ b. b && every q xs) (h 0 x refl) ∙ nth_all q xs (λ i y e. h (suc i) y e)

among_lists : (v : ℕ) (xs : List ℕ) → Among v xs → lists v xs ≡ true
among_lists v [] a = never_some v a.1
among_lists v (x ∷ xs) (zero, e) = ap (λ b. cond b true (lists v xs)) (eq-eqb x v (the_same e))
among_lists v (x ∷ xs) (suc i, e) = by (eqb x v) (among_lists v xs (i, e))
  where
    by : (b : Bool) → lists v xs ≡ true → cond b true (lists v xs) ≡ true
    by true h = refl
    by false h = h

-- how many clauses there are, as the length of what they hold
ones : {X : Type 0} (xs : List X) → length {A = ℕ} (flat_map (λ _. 0 ∷ []) xs) ≡ length xs
ones [] = refl
ones (x ∷ xs) = ap suc (ones xs)

-- a flow behind the flows `done` and before the flows `rest`
module _ (p : PlanTree) (done : List FlowTree) (f : FlowTree) (rest : List FlowTree) where
  abbrev all : List FlowTree
  all = done ++ f ∷ rest

  abbrev m : Meaning
  m = meant_with p all

  abbrev none : Scope
  none = scope_for p.bins (listed p.counters) (test_names p) []

  abbrev s : Scope
  s = scope_for p.bins (listed p.counters) (test_names p) (flows_named all)

  -- where its items begin, and how many there are
  abbrev n : ℕ
  n = length (items_of done)

  abbrev count : ℕ
  count = length (each f.items)

  abbrev flow : PlanFlow
  flow = record { first = n; count = count }

  abbrev own : List PlanItem
  own = map (item_meant s n (item_names f)) (each f.items)

  zero_more : 0 + n ≡ n
  zero_more = omega arith

  items_is : m.items ≡ items_meant s 0 done ++ (own ++ items_meant s (n + count) rest)
  items_is = items_meant_then s 0 done (f ∷ rest) ∙ ap (λ k. items_meant s 0 done ++ (map (item_meant s k (item_names f)) (each f.items) ++ items_meant s (k + count) rest)) zero_more

  flows_is : m.flows ≡ flows_meant 0 done ++ flow ∷ flows_meant (n + count) rest
  flows_is = flows_meant_then 0 done (f ∷ rest) ∙ ap (λ k. flows_meant 0 done ++ record { first = k; count = count } ∷ flows_meant (k + count) rest) zero_more

  flow_at : slice_get m.flows (length done) ≡ Some flow
  flow_at = ap (λ l. slice_get l (length done)) flows_is ∙ (ap (slice_get (flows_meant 0 done ++ flow ∷ flows_meant (n + count) rest)) (sym (flows_meant_length 0 done)) ∙ nth_next (flows_meant 0 done) flow (flows_meant (n + count) rest))

  item_at : (j : ℕ) (it : ItemTree) → slice_get (each f.items) j ≡ Some it → slice_get m.items (n + j) ≡ Some (item_meant s n (item_names f) it)
  item_at j it at =
      let pre = items_meant s 0 done in
      let post = items_meant s (n + count) rest in
      let there : n + j ≡ length pre + j = omega (arith, items_meant_length s 0 done) in
      ap (λ l. slice_get l (n + j)) items_is
      ∙ (ap (slice_get (pre ++ (own ++ post))) there
      ∙ (nth_behind pre (own ++ post) j
      ∙ nth_front own post j (item_meant s n (item_names f) it) (nth_made (item_meant s n (item_names f)) (each f.items) j it at)))

  in_flow : (j : ℕ) (it : ItemTree) → slice_get (each f.items) j ≡ Some it → In flow (n + j)
  in_flow j it at = let low = nth_below (each f.items) j it at in (omega arith, omega arith)

  -- the clauses of an item of the flow
  clauses_at_lem : (j : ℕ) (it : ItemTree) → slice_get (each f.items) j ≡ Some it → clauses_at m (n + j) ≡ map (clause_meant s n (item_names f)) (each it.clauses)
  clauses_at_lem j it at = ap mean.clauses_in (item_at j it at)

  clause_among : (j : ℕ) (it : ItemTree) → slice_get (each f.items) j ≡ Some it → (i : ℕ) (c : ClauseTree) → slice_get (each it.clauses) i ≡ Some c → Among (clause_meant s n (item_names f) c) (clauses_at m (n + j))
  clause_among j it at i c here = (i, ap (λ l. slice_get l i) (clauses_at_lem j it at) ∙ nth_made (clause_meant s n (item_names f)) (each it.clauses) i c here)

  module _ (rules : FlowRules p all) where
    abbrev lawful : Lawful m
    lawful = rules.lawful

    values_once_lem : (j : ℕ) (it : ItemTree) → slice_get (each f.items) j ≡ Some it → Once (flat_map codes_of (each it.clauses))
    values_once_lem j it at = subst Once (ap all_values (clauses_at_lem j it at) ∙ own_joined s (λ c. c.values) codes_of (λ _ _ _. refl) n (item_names f) (each it.clauses)) (lawful.value_once (n + j))

    counters_once_lem : (j : ℕ) (it : ItemTree) → slice_get (each f.items) j ≡ Some it → Every (λ c. Once (mentions_of none c)) (each it.clauses)
    counters_once_lem j it at = nth_every (λ c. Once (mentions_of none c)) (each it.clauses) (λ i c here. lawful.counter_once (n + j) (clause_meant s n (item_names f) c) (clause_among j it at i c here))

    -- targets are items of the flow
    target_declared : (j : ℕ) (it : ItemTree) → slice_get (each f.items) j ≡ Some it → (i : ℕ) (c : ClauseTree) → slice_get (each it.clauses) i ≡ Some c → TargetDeclared (item_names f) c.next
    target_declared j it at i c here = by c.next refl
      where
        by : (x : NextTree) → c.next ≡ x → TargetDeclared (item_names f) x
        by (go_to w) e =
            let stays = lawful.go_to_stays (length done) (n + j) (n + position w (item_names f)) flow (clause_meant s n (item_names f) c) flow_at (in_flow j it at) (clause_among j it at i c here) (ap (next_meant n (item_names f)) e) in
            below_declared w (item_names f) (omega (arith, stays.1, length-map (each f.items) (λ it. it.name)))
        by (return v) e = tt

    targets_declared : Every (λ c. TargetDeclared (item_names f) c.next) (item_clauses (each f.items))
    targets_declared = every_joined (λ c. TargetDeclared (item_names f) c.next) (λ it. each it.clauses) (each f.items) (nth_every (λ it. Every (λ c. TargetDeclared (item_names f) c.next) (each it.clauses)) (each f.items) (λ j it at. nth_every (λ c. TargetDeclared (item_names f) c.next) (each it.clauses) (target_declared j it at)))

    -- its own items have names once
    own_once : Once (item_names f)
    own_once = every_nth (λ f. Once (item_names f)) all (length done) f rules.items_once (nth_next done f rest)

    -- the rules of its clauses
    own_keeps : (j : ℕ) (it : ItemTree) → slice_get (each f.items) j ≡ Some it → Every (ClauseKeeps p.bins none) (each it.clauses)
    own_keeps j it at =
        let items : Every (λ it. Every (ClauseKeeps p.bins none) (each it.clauses)) (items_of all) = joined_every (ClauseKeeps p.bins none) (λ it. each it.clauses) (items_of all) rules.keeps in
        let flows : Every (λ f. Every (λ it. Every (ClauseKeeps p.bins none) (each it.clauses)) (each f.items)) all = joined_every (λ it. Every (ClauseKeeps p.bins none) (each it.clauses)) (λ f. each f.items) all items in
        every_nth (λ it. Every (ClauseKeeps p.bins none) (each it.clauses)) (each f.items) j it (every_nth (λ f. Every (λ it. Every (ClauseKeeps p.bins none) (each it.clauses)) (each f.items)) all (length done) f flows (nth_next done f rest)) at

    -- what an item runs is a test or an earlier flow
    runs_known : (j : ℕ) (it : ItemTree) → slice_get (each f.items) j ≡ Some it → declared it.runs (test_names p) ≡ false → declared it.runs (flows_named done) ≡ true
    runs_known j it at un =
        let names : flows_named all ≡ flows_named done ++ flows_named (f ∷ rest) = map-append (λ f. f.name) done (f ∷ rest) in
        let runs : runs_meant s it.runs ≡ RunsFlow (position it.runs (flows_named all)) = cond-false (declared it.runs (test_names p)) _ _ un in
        let low = lawful.runs_earlier_flow (length done) (n + j) (position it.runs (flows_named all)) flow (item_meant s n (item_names f) it) flow_at (in_flow j it at) (item_at j it at) runs in
        let low2 : position it.runs (flows_named done ++ flows_named (f ∷ rest)) < length (flows_named done) = omega (arith, low, ap (position it.runs) names, length-map done (λ f. f.name)) in
        (position_among it.runs (flows_named done) (flows_named (f ∷ rest)) low2).0

    -- no more of it than the whole plan has
    shares : (h : ClauseTree → List ℕ) (before : List ItemTree) (it : ItemTree) (later : List ItemTree) → before ++ it ∷ later ≡ each f.items → length (flat_map h (clauses_in done)) + (length (flat_map h (item_clauses before)) + length (flat_map h (each it.clauses))) ≤ length (flat_map h (clauses_in all))
    shares h before it later e =
        let flows : clauses_in all ≡ clauses_in done ++ (item_clauses (each f.items) ++ clauses_in rest) =
        ap item_clauses (joined_append (λ f. each f.items) done (f ∷ rest))
        ∙ (joined_append (λ it. each it.clauses) (items_of done) (each f.items ++ items_of rest)
        ∙ ap (λ l. clauses_in done ++ l) (joined_append (λ it. each it.clauses) (each f.items) (items_of rest))) in
        let items : item_clauses (each f.items) ≡ item_clauses before ++ (each it.clauses ++ item_clauses later) = ap item_clauses (sym e) ∙ joined_append (λ it. each it.clauses) before (it ∷ later) in
        let a = ap (λ l. length (flat_map h l)) flows in
        let b = ap (λ l. length (flat_map h l)) items in
        let c = ap length (joined_append h (clauses_in done) (item_clauses (each f.items) ++ clauses_in rest)) ∙ length-append (flat_map h (clauses_in done)) (flat_map h (item_clauses (each f.items) ++ clauses_in rest)) in
        let d = ap length (joined_append h (item_clauses (each f.items)) (clauses_in rest)) ∙ length-append (flat_map h (item_clauses (each f.items))) (flat_map h (clauses_in rest)) in
        let g = ap length (joined_append h (item_clauses before) (each it.clauses ++ item_clauses later)) ∙ length-append (flat_map h (item_clauses before)) (flat_map h (each it.clauses ++ item_clauses later)) in
        let k = ap length (joined_append h (each it.clauses) (item_clauses later)) ∙ length-append (flat_map h (each it.clauses)) (flat_map h (item_clauses later)) in
        omega (arith, a, b, c, d, g, k)

    clauses_few_lem : length (clauses_in all) ≤ 1024
    clauses_few_lem =
        let same : length {A = ℕ} (flat_map (λ _. 0 ∷ []) (all_clauses m)) ≡ length {A = ℕ} (flat_map (λ _. 0 ∷ []) (clauses_in all)) = ap length (all_joined s (λ _. 0 ∷ []) (λ _. 0 ∷ []) (λ _ _ _. refl) 0 all) in
        omega (arith, same, ones (all_clauses m), ones (clauses_in all), lawful.limits.clauses)

    values_few_lem : length (flat_map codes_of (clauses_in all)) ≤ 2048
    values_few_lem = omega (arith, ap length (all_joined s (λ c. c.values) codes_of (λ _ _ _. refl) 0 all), lawful.limits.values)

    mentions_few_lem : length (flat_map (mentions_of none) (clauses_in all)) ≤ 2048
    mentions_few_lem = omega (arith, ap length (all_joined s (λ c. c.counters) (mentions_of none) (λ _ _ _. refl) 0 all), lawful.limits.mentions)

    -- the items of the flow, in the whole plan
    own_between : mean.items_in m.items flow ≡ own
    own_between =
        let pre = items_meant s 0 done in
        let post = items_meant s (n + count) rest in
        let many : n + count - n ≡ count = omega arith in
        ap (λ l. between n (n + count) l) items_is
        ∙ (ap (take (n + count - n)) (drop_at pre (own ++ post) n (items_meant_length s 0 done))
        ∙ (ap (λ k. take k (own ++ post)) many ∙ take_at own post count (length-map (each f.items) (item_meant s n (item_names f)))))

    -- behind the flows before it, whose depths are `earlier`, it is not too deep
    runs_shallow : (earlier : List ℕ) → depths_from m.items earlier (flow ∷ flows_meant (n + count) rest) ≡ depths m → (j : ℕ) (it : ItemTree) → slice_get (each f.items) j ≡ Some it → depth_run earlier (runs_meant s it.runs) < 8
    runs_shallow earlier deep j it at =
        let depth = 1 + mean.deepest earlier (mean.items_in m.items flow) in
        let told : slice_get (depths m) (length earlier) ≡ Some depth = sym (ap (λ l. slice_get l (length earlier)) deep) ∙ depths_stay m.items (earlier ++ depth ∷ []) (flows_meant (n + count) rest) (length earlier) depth (nth_next earlier depth []) in
        let low = lawful.depth_fits (length earlier) depth told in
        let high = deepest_among earlier own j (item_meant s n (item_names f) it) (nth_made (item_meant s n (item_names f)) (each f.items) j it at) in
        omega (arith, low, high, ap (mean.deepest earlier) own_between)

    -- the tables x hold the flows before it
    module _ (text : List ℕ) (start x : Draft) (k : FlowsKept text start x) (a : FlowsStand text p.bins (listed p.counters) (test_names p) x done) (deep : depths_from m.items (map (λ f. f.depth) x.flows) (flow ∷ flows_meant (n + count) rest) ≡ depths m) where
      -- what an item runs
      runs_is : (j : ℕ) (it : ItemTree) → slice_get (each f.items) j ≡ Some it → runs_of (test_names p) (flows_named done) it.runs ≡ runs_meant s it.runs
      runs_is j it at =
          runs_mean p.bins (listed p.counters) (test_names p) (flows_named done) (flows_named (f ∷ rest)) (runs_of (test_names p) (flows_named done) it.runs) it.runs (record { known = runs_known j it at; is = refl })
          ∙ ap (λ l. runs_meant (scope_for p.bins (listed p.counters) (test_names p) l) it.runs) (sym (map-append (λ f. f.name) done (f ∷ rest)))

      -- the items of the tables are the first of the plan
      items_first : items_meant s 0 done ≡ map (item_of x) x.items
      items_first = sym (a.items (flows_named (f ∷ rest)) ∙ ap (λ l. items_meant (scope_for p.bins (listed p.counters) (test_names p) l) 0 done) (sym (map-append (λ f. f.name) done (f ∷ rest))))

      item_first : (i : ℕ) (it : Item) → slice_get x.items i ≡ Some it → slice_get m.items i ≡ Some (item_of x it)
      item_first i it at = ap (λ l. slice_get l i) (items_is ∙ ap (λ l. l ++ (own ++ items_meant s (n + count) rest)) items_first) ∙ nth_front (map (item_of x) x.items) (own ++ items_meant s (n + count) rest) i (item_of x it) (nth_made (item_of x) x.items i it at)

      flow_first : (i : ℕ) (fl : Flow) → slice_get x.flows i ≡ Some fl → slice_get m.flows i ≡ Some (flow_of fl)
      flow_first i fl at = ap (λ l. slice_get l i) (flows_is ∙ ap (λ l. l ++ flow ∷ flows_meant (n + count) rest) (sym a.flows)) ∙ nth_front (map flow_of x.flows) (flow ∷ flows_meant (n + count) rest) i (flow_of fl) (nth_made flow_of x.flows i fl at)

      -- whatever a flow returns that an item runs is among the values of the item
      module _ (j : ℕ) (it : ItemTree) (at : slice_get (each f.items) j ≡ Some it) (t : ℕ) (runs : runs_meant s it.runs ≡ RunsFlow t) (vs : List Value) (codes : map code_of vs ≡ flat_map codes_of (each it.clauses)) where
        return_listed_lem : (fl : Flow) → slice_get x.flows t ≡ Some fl → (i : ℕ) (row : Item) → slice_get x.items i ≡ Some row → In (flow_of fl) i → (u : ℕ) (c : Clause) → slice_get (rows_of row.clauses x.clauses) u ≡ Some c → return_listed vs c.next ≡ true
        return_listed_lem fl here i row there within u c stands = by c.next refl
          where
            by : (y : Next) → c.next ≡ y → return_listed vs y ≡ true
            by (GoTo q) e = refl
            by (Return v) e =
                let returns : Returns m (flow_of fl) v = record {
                  item = i;
                  within = within;
                  clause = clause_of x c;
                  has = (u, ap (λ o. slice_get (mean.clauses_in o) u) (item_first i row there) ∙ nth_made (clause_of x) (rows_of row.clauses x.clauses) u c stands);
                  leaves = e;
                } in
                let listed = lawful.return_listed (n + j) t (item_meant s n (item_names f) it) (flow_of fl) v (item_at j it at) runs (flow_first t fl here) returns in
                among_lists v.code (map code_of vs) (subst (Among v.code) (own_joined s (λ c. c.values) codes_of (λ _ _ _. refl) n (item_names f) (each it.clauses) ∙ sym codes) listed)

        flow_listed : items_listed vs x.clauses (flow_items x.items (slice_get x.flows t)) ≡ true
        flow_listed = by (slice_get x.flows t) refl
          where
            by : (o : Option Flow) → slice_get x.flows t ≡ o → items_listed vs x.clauses (flow_items x.items o) ≡ true
            by None e = refl
            by (Some fl) e = nth_all (λ it. clauses_listed vs (rows_of it.clauses x.clauses)) (rows_of fl.items x.items) (λ q row r.
                let to = nth_between_lt fl.items.from fl.items.to x.items q row r in
                nth_all (λ c. return_listed vs c.next) (rows_of row.clauses x.clauses) (return_listed_lem fl e (fl.items.from + q) row (nth_between fl.items.from fl.items.to x.items q row r) (omega arith, omega (arith, to))))

      -- the next item of the flow is accepted
      item_fits : (y : Draft) (before : List ItemTree) (it : ItemTree) (later : List ItemTree) → before ++ it ∷ later ≡ each f.items → ItemsStand text none x y before → ItemFits text p.bins none (length x.items) y it
      item_fits y before it later e b =
          let j = length before in
          let at : slice_get (each f.items) j ≡ Some it = sym (ap (λ l. slice_get l j) e) ∙ nth_next before it later in
          let tests : tests_in text y ≡ test_names p = ap (names_in text (λ r. r.name)) b.others.tests ∙ a.tests_named in
          let flows : flows_in text y ≡ flows_named done = ap (names_in text (λ r. r.name)) b.others.flows ∙ a.named in
          let runs : runs_of (tests_in text y) (flows_in text y) it.runs ≡ runs_meant s it.runs = ap (λ l. runs_of l (flows_in text y) it.runs) tests ∙ (ap (λ l. runs_of (test_names p) l it.runs) flows ∙ runs_is j it at) in
          let depth : depth_of y.flows (runs_of (tests_in text y) (flows_in text y) it.runs) ≡ depth_run (map (λ f. f.depth) x.flows) (runs_meant s it.runs) = ap (λ l. depth_of l (runs_of (tests_in text y) (flows_in text y) it.runs)) b.others.flows ∙ (ap (depth_of x.flows) runs ∙ run_depth x.flows (runs_meant s it.runs)) in
          let earlier : names_in text item_name (drop (length x.items) y.items) ≡ map (λ it. it.name) before = ap (names_in text item_name) (ap (drop (length x.items)) b.items ∙ drop_at x.items b.more (length x.items) refl) ∙ item_rows_named text (tests_in text x) (flows_in text x) (length x.clauses) b.more before b.rows in
          let once : Once (names_in text item_name (drop (length x.items) y.items) ++ it.name ∷ map (λ it. it.name) later) = subst Once (ap (map (λ it. it.name)) (sym e) ∙ (map-append (λ it. it.name) before (it ∷ later) ∙ ap (λ l. l ++ it.name ∷ map (λ it. it.name) later) (sym earlier))) own_once in
          let many : length b.more ≡ j = sym (length-map b.more (λ row. spelt text (item_name row))) ∙ (ap length (item_rows_named text (tests_in text x) (flows_in text x) (length x.clauses) b.more before b.rows) ∙ length-map before (λ it. it.name)) in
          record {
            few = omega (arith, rows_length x.items y.items b.more b.items, many, items_counted text p.bins (listed p.counters) (test_names p) x done a, nth_below m.items (n + j) (item_meant s n (item_names f) it) (item_at j it at), lawful.limits.items);
            new = next_not_found item_name text (drop (length x.items) y.items) it.name (map (λ it. it.name) later) once;
            known = λ un. ap (declared it.runs) flows ∙ runs_known j it at (sym (ap (declared it.runs) tests) ∙ un);
            shallow = omega (arith, depth, runs_shallow (map (λ f. f.depth) x.flows) deep j it at);
            keeps = own_keeps j it at;
            room = room y before it later e b;
            values_once = values_once_lem j it at;
            counters_once = counters_once_lem j it at;
            listed = λ z added others. subst (λ r. run_listed z (length y.values) r ≡ true) (sym runs) (run_listed_lem y before it j at b z added others (runs_meant s it.runs) refl);
          }
        where
          room : (y : Draft) (before : List ItemTree) (it : ItemTree) (later : List ItemTree) → before ++ it ∷ later ≡ each f.items → ItemsStand text none x y before → Room none y (each it.clauses)
          room y before it later e b =
              let c = shares (λ _. 0 ∷ []) before it later e in
              let v = shares codes_of before it later e in
              let q = shares (mentions_of none) before it later e in
              let r = b.added in
              record {
                clauses = omega (arith, c, clauses_few_lem, ones (clauses_in done), ones (item_clauses before), ones (each it.clauses), ones (clauses_in all), clauses_counted text none x y (item_clauses before) r, a.clause_count);
                values = omega (arith, v, values_few_lem, rows_length x.values y.values r.more r.values, length-map r.more code_of, ap length r.codes, a.value_count);
                mentions = omega (arith, q, mentions_few_lem, rows_length x.mentions y.mentions (flat_map (mentions_of none) (item_clauses before)) r.mentions, a.mention_count);
              }

          run_listed_lem : (y : Draft) (before : List ItemTree) (it : ItemTree) (j : ℕ) → slice_get (each f.items) j ≡ Some it → ItemsStand text none x y before → (z : Draft) → ClausesAdded (NextStands text) none y z (each it.clauses) → Beside y z → (r : Runs) → runs_meant s it.runs ≡ r → run_listed z (length y.values) r ≡ true
          run_listed_lem y before it j at b z added others (RunsTest t) is = refl
          run_listed_lem y before it j at b z added others (RunsFlow t) is =
              let listed = drop (length y.values) z.values in
              let own_values : listed ≡ added.more = ap (drop (length y.values)) added.values ∙ drop_at y.values added.more (length y.values) refl in
              let codes : map code_of listed ≡ flat_map codes_of (each it.clauses) = ap (map code_of) own_values ∙ added.codes in
              let rows = b.added.rows ++ added.rows in
              let clauses : z.clauses ≡ x.clauses ++ rows = added.clauses ∙ (ap (λ l. l ++ added.rows) b.added.clauses ∙ append_assoc x.clauses b.added.rows added.rows) in
              let o = slice_get x.flows t in
              let flows : slice_get z.flows t ≡ o = ap (λ l. slice_get l t) (others.flows ∙ b.others.flows) in
              let items : flow_items z.items (slice_get z.flows t) ≡ flow_items x.items o = ap (flow_items z.items) flows ∙ (ap (λ l. flow_items l o) (others.items ∙ b.items) ∙ flow_items_before x.items b.more o (k.held.flows t)) in
              ap (items_listed listed z.clauses) items
              ∙ (ap (λ l. items_listed listed l (flow_items x.items o)) clauses
              ∙ (listed_before listed x.clauses rows (flow_items x.items o) (λ i row r. let g = flow_item x.items o i row r in k.held.items g.0 row g.1)
              ∙ flow_listed j it at t is listed codes))

      -- so is the flow
      pub flow_fits : FlowFits text p.bins none x f
      flow_fits =
          let counted : length x.flows ≡ length done = sym (length-map x.flows (λ r. spelt text r.name)) ∙ (ap length a.named ∙ length-map done (λ f. f.name)) in
          let in_order : test_names p ++ flows_named all ≡ (test_names p ++ flows_named done) ++ f.name ∷ flows_named rest = ap (λ l. test_names p ++ l) (map-append (λ f. f.name) done (f ∷ rest)) ∙ sym (append_assoc (test_names p) (flows_named done) (f.name ∷ flows_named rest)) in
          let neither = undeclared_parts f.name (test_names p) (flows_named done) (undeclared_next (test_names p ++ flows_named done) f.name (flows_named rest) (subst Once in_order rules.names_once)) in
          let no_test : is_some (found (λ t. t.name) text x.tests f.name) ≡ false = ap is_some (undeclared_found (λ t. t.name) text f.name x.tests (ap (declared f.name) a.tests_named ∙ neither.0)) in
          let no_flow : is_some (found (λ f. f.name) text x.flows f.name) ≡ false = ap is_some (undeclared_found (λ f. f.name) text f.name x.flows (ap (declared f.name) a.named ∙ neither.1)) in
          record {
            few = omega (arith, counted, nth_below m.flows (length done) flow flow_at, lawful.limits.flows);
            new = ap (λ b. b || is_some (found (λ f. f.name) text x.flows f.name)) no_test ∙ no_flow;
            items = item_fits;
            targets = targets_declared;
          }

      -- the depth of its row is the depth of the flow
      pub own_depth : (y : Draft) (b : FlowStands text none x y f) → 1 + mean.deepest (map (λ f. f.depth) x.flows) (mean.items_in m.items flow) ≡ b.row.depth
      own_depth y b =
          let rows : ItemRows text (test_names p) (flows_named done) (length x.clauses) b.more (each f.items) =
          subst (λ l. ItemRows text l (flows_named done) (length x.clauses) b.more (each f.items)) a.tests_named
          (subst (λ l. ItemRows text (tests_in text x) l (length x.clauses) b.more (each f.items)) a.named b.rows) in
          let runs : (r : Runs) (w : Word) → RunsStand (test_names p) (flows_named done) r w → r ≡ runs_meant s w = λ r w h.
          runs_mean p.bins (listed p.counters) (test_names p) (flows_named done) (flows_named (f ∷ rest)) r w h
          ∙ ap (λ l. runs_meant (scope_for p.bins (listed p.counters) (test_names p) l) w) (sym (map-append (λ f. f.name) done (f ∷ rest))) in
          ap (λ l. 1 + mean.deepest (map (λ f. f.depth) x.flows) l) own_between
          ∙ (ap (λ k. 1 + k) (sym (deepest_rows x.flows (item_meant s n (item_names f)) text (test_names p) (flows_named done) (λ it row h. runs row.runs it.runs h) (length x.clauses) b.more (each f.items) rows)) ∙ sym b.depth)
