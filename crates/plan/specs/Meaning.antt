-- What a plan means: the plan without its names.
use Rattle.std.specs.Prelude.{◌≡◌, ℕ, zero, suc, ◌+◌, ◌-◌, max, Bool, true, false, cond, List, [], ◌∷◌, ◌++◌, map, length, Some, None, Option, ◌==◌, slice_index}
use Rattle.std.specs.List.{between, flat_map, slice_get}
use Rattle.plan.specs.declared.rows.Bin.{Bin}
use Rattle.plan.specs.declared.rows.Clause.{Clause}
use Rattle.plan.specs.declared.rows.Flow.{Flow}
use Rattle.plan.specs.declared.rows.Item.{Item}
use Rattle.plan.specs.declared.rows.Next.{Next}
use Rattle.plan.specs.declared.rows.Runs.{Runs}
use Rattle.plan.specs.declared.rows.Runs.TheVariants.{Test as RunsTest, Flow as RunsFlow}
use Rattle.plan.specs.declared.rows.Span.{Span}
use Rattle.plan.specs.declared.rows.Value.{Value}
use Rattle.plan.specs.declared.rows.Verdict.{Verdict}
use Rattle.plan.specs.Drafts.{Draft}

pub record PlanBin : Type 0 where
  pub group : ℕ
  pub leaf : Bool
  pub number : ℕ
  pub parent : Option ℕ

-- the codes of the values that it lists, and what it does at them
pub record PlanClause : Type 0 where
  pub values : List ℕ
  pub verdict : Verdict
  pub counters : List ℕ
  pub leaf : Option ℕ
  pub next : Next

pub record PlanItem : Type 0 where
  pub runs : Runs
  pub clauses : List PlanClause

pub record PlanFlow : Type 0 where
  pub first : ℕ
  pub count : ℕ

-- only the empty plan has no sort group and no main flow
pub record Meaning : Type 0 where
  pub bins : List PlanBin
  pub sort_group : Option ℕ
  pub counters : ℕ
  pub tests : ℕ
  pub flows : List PlanFlow
  pub items : List PlanItem
  pub main_flow : Option ℕ

-- what rows mean

abbrev pub rows_of : {X : Type 0} → Span → List X → List X
rows_of s xs = between s.from s.to xs

abbrev pub code_of : Value → ℕ
code_of v = v.code

abbrev pub bin_of : Bin → PlanBin
bin_of b = record { group = b.group; leaf = b.leaf; number = b.number; parent = b.parent }

abbrev pub flow_of : Flow → PlanFlow
flow_of f = record { first = f.items.from; count = f.items.to - f.items.from }

abbrev pub clause_of : Draft → Clause → PlanClause
clause_of d c = record {
  values = map code_of (rows_of c.values d.values);
  verdict = c.verdict;
  counters = rows_of c.counters d.mentions;
  leaf = c.leaf;
  next = c.next;
}

abbrev pub item_of : Draft → Item → PlanItem
item_of d it = record { runs = it.runs; clauses = map (clause_of d) (rows_of it.clauses d.clauses) }

-- a number that only a table with rows has
abbrev pub of_some : {X : Type 0} → List X → ℕ → Option ℕ
of_some [] n = None
of_some (x ∷ xs) n = Some n

unfoldable pub meaning : Draft → Meaning
meaning d = record {
  bins = map bin_of d.bins;
  sort_group = of_some d.bins d.sort_group;
  counters = length d.counters;
  tests = length d.tests;
  flows = map flow_of d.flows;
  items = map (item_of d) d.items;
  main_flow = of_some d.flows d.main_flow;
}

-- the empty plan
abbrev pub nothing : Meaning
nothing = record { bins = []; sort_group = None; counters = 0; tests = 0; flows = []; items = []; main_flow = None }

-- clauses and values of an item

abbrev pub clauses_in : Option PlanItem → List PlanClause
clauses_in None = []
clauses_in (Some it) = it.clauses

abbrev pub clauses_at : Meaning → ℕ → List PlanClause
clauses_at m i = clauses_in (slice_get m.items i)

abbrev pub all_values : List PlanClause → List ℕ
all_values cs = flat_map (λ c. c.values) cs

abbrev pub lists : ℕ → List ℕ → Bool
lists v [] = false
lists v (x ∷ xs) = cond (x == v) true (lists v xs)

-- the clause that lists the value
abbrev pub clause_for : ℕ → List PlanClause → Option PlanClause
clause_for v [] = None
clause_for v (c ∷ cs) = cond (lists v c.values) (Some c) (clause_for v cs)

-- going up from a bin

abbrev pub parent_in : Option PlanBin → Option ℕ
parent_in None = None
parent_in (Some b) = b.parent

-- the bin j is the bin i, or its parent, or that one's parent, and so on
pub data AtOrAbove (bins : List PlanBin) : ℕ → ℕ → Type 0 where
  here : (i : ℕ) → AtOrAbove bins i i
  up : (i p j : ℕ) → parent_in (slice_get bins i) ≡ Some p → AtOrAbove bins p j → AtOrAbove bins i j

-- the number of the first bin of the group that is met going up at most `steps` bins
abbrev pub number_in : Option PlanBin → ℕ → (Option ℕ → Option ℕ) → Option ℕ
number_in None g on = None
number_in (Some b) g on = cond (b.group == g) (Some b.number) (on b.parent)

abbrev pub at_parent : (ℕ → Option ℕ) → Option ℕ → Option ℕ
at_parent on None = None
at_parent on (Some p) = on p

abbrev pub number_up : List PlanBin → ℕ → ℕ → ℕ → Option ℕ
number_up bins g zero i = None
number_up bins g (suc steps) i = number_in (slice_get bins i) g (at_parent (number_up bins g steps))

abbrev pub in_group : (ℕ → Option ℕ) → Option ℕ → Option ℕ
in_group on None = None
in_group on (Some g) = on g

-- the sort number: that of the first bin of the sort group met going up from the bin itself
unfoldable pub sort_number : Meaning → ℕ → Option ℕ
sort_number m i = in_group (λ g. number_up m.bins g (length m.bins) i) m.sort_group

-- how deep flows are nested

-- the depth of what is run, by the depths of the flows before
abbrev pub depth_run : List ℕ → Runs → ℕ
depth_run earlier (RunsTest t) = 0
depth_run earlier (RunsFlow f) = slice_index earlier f

abbrev pub deepest : List ℕ → List PlanItem → ℕ
deepest earlier [] = 0
deepest earlier (it ∷ its) = max (depth_run earlier it.runs) (deepest earlier its)

abbrev pub items_in : List PlanItem → PlanFlow → List PlanItem
items_in items f = between f.first (f.first + f.count) items

-- the depth of a flow: 1 where no item of it runs a flow, else one more than the largest depth among the flows run
abbrev pub depths_from : List PlanItem → List ℕ → List PlanFlow → List ℕ
depths_from items earlier [] = earlier
depths_from items earlier (f ∷ fs) = depths_from items (earlier ++ (1 + deepest earlier (items_in items f)) ∷ []) fs

unfoldable pub depths : Meaning → List ℕ
depths m = depths_from m.items [] m.flows
