-- The rules that a plan keeps, each by itself.
use Rattle.std.specs.Prelude.{◌≡◌, ℕ, ◌+◌, ◌<◌, ◌≤◌, true, false, ◌⊎◌, List, [], ◌∷◌, ◌++◌, map, length, take, drop, Some}
use Rattle.std.specs.List.{flat_map, slice_get}
use Rattle.plan.specs.declared.rows.Flow.{Flow}
use Rattle.plan.specs.declared.rows.Name.{Name}
use Rattle.plan.specs.declared.rows.Next.TheVariants.{GoTo, Return}
use Rattle.plan.specs.declared.rows.Runs.TheVariants.{Test as RunsTest, Flow as RunsFlow}
use Rattle.plan.specs.declared.rows.Value.{Value}
use Rattle.plan.specs.Drafts.{Draft}
use Rattle.plan.specs.Meaning.{Meaning, PlanBin, PlanClause, PlanItem, PlanFlow, AtOrAbove, clauses_at, all_values, depths, meaning, nothing, rows_of}

-- words that the rules use

-- x stands somewhere in the list
abbrev pub Among : {X : Type 0} → X → List X → Type 0
Among x xs = (k : ℕ) × (slice_get xs k ≡ Some x)

-- nothing stands twice in the list
abbrev pub Once : {X : Type 0} → List X → Type 0
Once {X} xs = (i j : ℕ) (x : X) → slice_get xs i ≡ Some x → slice_get xs j ≡ Some x → i ≡ j

-- the item i stands in the flow
abbrev pub In : PlanFlow → ℕ → Type 0
In f i = (f.first ≤ i) × (i < f.first + f.count)

-- some clause of some item of the flow returns the value, whether or not a run comes there
pub record Returns (m : Meaning) (f : PlanFlow) (v : Value) : Type 0 where
  pub item : ℕ
  pub within : In f item
  pub clause : PlanClause
  pub has : Among clause (clauses_at m item)
  pub leaves : clause.next ≡ Return v

-- the flows' items follow one another from `from` and end at `to`
abbrev pub Consecutive : ℕ → List PlanFlow → ℕ → Type 0
Consecutive from [] to = from ≡ to
Consecutive from (f ∷ fs) to = (f.first ≡ from) × Consecutive (from + f.count) fs to

abbrev pub all_clauses : Meaning → List PlanClause
all_clauses m = flat_map (λ it. it.clauses) m.items

-- bins

-- a parent is an earlier bin
abbrev pub ParentEarlier : Meaning → Type 0
ParentEarlier m = (i p : ℕ) (b : PlanBin) → slice_get m.bins i ≡ Some b → b.parent ≡ Some p → p < i

-- a parent is no leaf bin
abbrev pub ParentNoLeaf : Meaning → Type 0
ParentNoLeaf m = (i p : ℕ) (b q : PlanBin) → slice_get m.bins i ≡ Some b → b.parent ≡ Some p → slice_get m.bins p ≡ Some q → q.leaf ≡ false

-- bin numbers go to 65535
abbrev pub BinNumberFits : Meaning → Type 0
BinNumberFits m = (i : ℕ) (b : PlanBin) → slice_get m.bins i ≡ Some b → b.number ≤ 65535

-- no two bins of a group have one number
abbrev pub BinNumberOnce : Meaning → Type 0
BinNumberOnce m = (i j : ℕ) (a b : PlanBin) → slice_get m.bins i ≡ Some a → slice_get m.bins j ≡ Some b → a.group ≡ b.group → a.number ≡ b.number → i ≡ j

-- the first bin is of group 0
abbrev pub FirstGroup : Meaning → Type 0
FirstGroup m = (b : PlanBin) → slice_get m.bins 0 ≡ Some b → b.group ≡ 0

-- each later bin is of the group of the bin before it, or of the next
abbrev pub NextGroup : Meaning → Type 0
NextGroup m = (i : ℕ) (a b : PlanBin) → slice_get m.bins i ≡ Some a → slice_get m.bins (i + 1) ≡ Some b → (b.group ≡ a.group) ⊎ (b.group ≡ a.group + 1)

-- a bin of the sort group
pub record SortBin (m : Meaning) (i : ℕ) : Type 0 where
  pub bin : PlanBin
  pub is : slice_get m.bins i ≡ Some bin
  pub sorts : m.sort_group ≡ Some bin.group

-- climbing from a leaf bin one meets a bin of the sort group
abbrev pub LeafSorted : Meaning → Type 0
LeafSorted m = (i : ℕ) (b : PlanBin) → slice_get m.bins i ≡ Some b → b.leaf ≡ true → (j : ℕ) × AtOrAbove m.bins i j × SortBin m j

-- what items run

-- a test that an item runs is a test of the plan
abbrev pub RunsDeclaredTest : Meaning → Type 0
RunsDeclaredTest m = (i t : ℕ) (it : PlanItem) → slice_get m.items i ≡ Some it → it.runs ≡ RunsTest t → t < m.tests

-- a flow that an item runs stands before the flow of the item
abbrev pub RunsEarlierFlow : Meaning → Type 0
RunsEarlierFlow m = (f i t : ℕ) (flow : PlanFlow) (it : PlanItem) → slice_get m.flows f ≡ Some flow → In flow i → slice_get m.items i ≡ Some it → it.runs ≡ RunsFlow t → t < f

-- flows are nested at most 8 deep
abbrev pub DepthFits : Meaning → Type 0
DepthFits m = (f n : ℕ) → slice_get (depths m) f ≡ Some n → n ≤ 8

-- whatever a flow returns, the item that runs it lists
abbrev pub ReturnListed : Meaning → Type 0
ReturnListed m = (i t : ℕ) (it : PlanItem) (flow : PlanFlow) (v : Value) → slice_get m.items i ≡ Some it → it.runs ≡ RunsFlow t → slice_get m.flows t ≡ Some flow → Returns m flow v → Among v.code (all_values it.clauses)

-- clauses

-- an item lists no value twice, over all its clauses
abbrev pub ValueOnce : Meaning → Type 0
ValueOnce m = (i : ℕ) → Once (all_values (clauses_at m i))

-- a value that is listed is a code below 65536
abbrev pub ValueFits : Meaning → Type 0
ValueFits m = (i v : ℕ) → Among v (all_values (clauses_at m i)) → v < 65536

-- a value that is returned is a code below 65536
abbrev pub ReturnFits : Meaning → Type 0
ReturnFits m = (i : ℕ) (c : PlanClause) (v : Value) → Among c (clauses_at m i) → c.next ≡ Return v → v.code < 65536

-- a clause names no counter twice
abbrev pub CounterOnce : Meaning → Type 0
CounterOnce m = (i : ℕ) (c : PlanClause) → Among c (clauses_at m i) → Once c.counters

-- a counter that a clause names is a counter of the plan
abbrev pub CounterDeclared : Meaning → Type 0
CounterDeclared m = (i k : ℕ) (c : PlanClause) → Among c (clauses_at m i) → Among k c.counters → k < m.counters

-- a leaf that a clause sets is a leaf bin of the plan
abbrev pub LeafDeclared : Meaning → Type 0
LeafDeclared m = (i l : ℕ) (c : PlanClause) → Among c (clauses_at m i) → c.leaf ≡ Some l → (b : PlanBin) × (slice_get m.bins l ≡ Some b) × (b.leaf ≡ true)

-- a GoTo leads to an item of the same flow
abbrev pub GoToStays : Meaning → Type 0
GoToStays m = (f i t : ℕ) (flow : PlanFlow) (c : PlanClause) → slice_get m.flows f ≡ Some flow → In flow i → Among c (clauses_at m i) → c.next ≡ GoTo t → In flow t

-- what there is

-- the main flow is a flow of the plan
abbrev pub MainDeclared : Meaning → Type 0
MainDeclared m = (f : ℕ) × (m.main_flow ≡ Some f) × (f < length m.flows)

-- there is a bin
abbrev pub HasBin : Meaning → Type 0
HasBin m = 0 < length m.bins

-- every flow has an item
abbrev pub FlowHasItem : Meaning → Type 0
FlowHasItem m = (f : ℕ) (flow : PlanFlow) → slice_get m.flows f ≡ Some flow → 0 < flow.count

-- every item has a clause
abbrev pub ItemHasClause : Meaning → Type 0
ItemHasClause m = (i : ℕ) (it : PlanItem) → slice_get m.items i ≡ Some it → 0 < length it.clauses

-- every clause lists a value
abbrev pub ClauseHasValue : Meaning → Type 0
ClauseHasValue m = (i : ℕ) (c : PlanClause) → Among c (clauses_at m i) → 0 < length c.values

-- every item stands in one flow, in order
abbrev pub ItemsInFlows : Meaning → Type 0
ItemsInFlows m = Consecutive 0 m.flows (length m.items)

-- no table has more rows than it may
pub record Limits (m : Meaning) : Type 0 where
  pub groups : (i : ℕ) (b : PlanBin) → slice_get m.bins i ≡ Some b → b.group < 16
  pub bins : length m.bins ≤ 128
  pub counters : m.counters ≤ 32
  pub tests : m.tests ≤ 128
  pub flows : length m.flows ≤ 64
  pub items : length m.items ≤ 512
  pub clauses : length (all_clauses m) ≤ 1024
  pub values : length (all_values (all_clauses m)) ≤ 2048
  pub mentions : length (flat_map (λ c. c.counters) (all_clauses m)) ≤ 2048

-- a plan that keeps every rule
pub record Lawful (m : Meaning) : Type 0 where
  pub parent_earlier : ParentEarlier m
  pub parent_no_leaf : ParentNoLeaf m
  pub bin_number_fits : BinNumberFits m
  pub bin_number_once : BinNumberOnce m
  pub first_group : FirstGroup m
  pub next_group : NextGroup m
  pub leaf_sorted : LeafSorted m
  pub runs_declared_test : RunsDeclaredTest m
  pub runs_earlier_flow : RunsEarlierFlow m
  pub depth_fits : DepthFits m
  pub return_listed : ReturnListed m
  pub value_once : ValueOnce m
  pub value_fits : ValueFits m
  pub return_fits : ReturnFits m
  pub counter_once : CounterOnce m
  pub counter_declared : CounterDeclared m
  pub leaf_declared : LeafDeclared m
  pub go_to_stays : GoToStays m
  pub main_declared : MainDeclared m
  pub has_bin : HasBin m
  pub flow_has_item : FlowHasItem m
  pub item_has_clause : ItemHasClause m
  pub clause_has_value : ClauseHasValue m
  pub items_in_flows : ItemsInFlows m
  pub limits : Limits m

-- the empty plan, or one that keeps every rule
abbrev pub Keeps : Meaning → Type 0
Keeps m = (m ≡ nothing) ⊎ Lawful m

-- names

abbrev pub spelt : List ℕ → Name → List ℕ
spelt text n = take n.len (drop n.place text)

-- no name twice within groups, within bins, within counters, within tests and flows taken together, within the items of one flow
pub record NamesOnce (text : List ℕ) (d : Draft) : Type 0 where
  pub groups : Once (map (λ g. spelt text g.name) d.groups)
  pub bins : Once (map (λ b. spelt text b.name) d.bins)
  pub counters : Once (map (λ k. spelt text k.name) d.counters)
  pub tests_and_flows : Once (map (λ t. spelt text t.name) d.tests ++ map (λ f. spelt text f.name) d.flows)
  pub items : (k : ℕ) (f : Flow) → slice_get d.flows k ≡ Some f → Once (map (λ it. spelt text it.name) (rows_of f.items d.items))

-- each flow's row tells its depth
abbrev pub DepthsTold : Draft → Type 0
DepthsTold d = map (λ f. f.depth) d.flows ≡ depths (meaning d)
