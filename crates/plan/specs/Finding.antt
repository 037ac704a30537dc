-- What a reader of a plan is told: the clause for a value, the sort number of a bin, the depth of a flow.
use Rattle.std.specs.Prelude.{◌≡◌, ℕ, zero, suc, ◌+◌, ◌≤◌, true, cond, List, [], ◌∷◌, map, Some, None, Option, ◌==◌, slice_index}
use Rattle.std.specs.Option.{option_map, option_and_then}
use Rattle.std.specs.List.{slice_get}
use Rattle.plan.specs.declared.rows.Bin.{Bin}
use Rattle.plan.specs.declared.rows.Clause.{Clause}
use Rattle.plan.specs.declared.rows.Item.{Item}
use Rattle.plan.specs.declared.rows.Value.{Value}
use Rattle.plan.specs.Drafts.{Draft}
use Rattle.plan.specs.Meaning.{Meaning, PlanBin, PlanClause, PlanFlow, rows_of, code_of, clause_of, lists, parent_in, depths, deepest, items_in}
use Rattle.plan.specs.Rules.{SortBin}

-- the number of the first of these clauses that lists the value; the first clause has the number k
abbrev pub seek_clause : List Value → ℕ → ℕ → List Clause → Option ℕ
seek_clause values v k [] = None
seek_clause values v k (c ∷ cs) = cond (lists v (map code_of (rows_of c.values values))) (Some k) (seek_clause values v (k + 1) cs)

-- the same of an item's clauses
abbrev pub clause_number_in : Draft → ℕ → Option Item → Option ℕ
clause_number_in d v None = None
clause_number_in d v (Some it) = seek_clause d.values v it.clauses.from (rows_of it.clauses d.clauses)

-- the number of the clause of the item that lists the value
unfoldable pub clause_number : Draft → ℕ → ℕ → Option ℕ
clause_number d i v = clause_number_in d v (slice_get d.items i)

-- what the clause of this number means
abbrev pub clause_meant : Draft → Option ℕ → Option PlanClause
clause_meant d None = None
clause_meant d (Some k) = option_map (clause_of d) (slice_get d.clauses k)

-- this bin where it is of the group, else what is met from its parent on
abbrev pub group_at : ℕ → (ℕ → Option Bin) → Option Bin → Option Bin
group_at group above None = None
group_at group above (Some b) = cond (b.group == group) (Some b) (option_and_then above b.parent)

-- the first bin of the group that is met going up from the bin i, over this many bins at most
abbrev pub first_of_group : List Bin → ℕ → ℕ → ℕ → Option Bin
first_of_group bins group zero i = None
first_of_group bins group (suc steps) i = group_at group (first_of_group bins group steps) (slice_get bins i)

-- the bin is a leaf bin
pub record LeafAt (m : Meaning) (i : ℕ) : Type 0 where
  pub bin : PlanBin
  pub is : slice_get m.bins i ≡ Some bin
  pub leaf : bin.leaf ≡ true

-- the bin j is the first bin of the sort group that is met going up from the bin i
pub data FirstSort (m : Meaning) : ℕ → ℕ → Type 0 where
  itself : (i : ℕ) → SortBin m i → FirstSort m i i
  further : (i p j : ℕ) → (SortBin m i → ⊥) → parent_in (slice_get m.bins i) ≡ Some p → FirstSort m p j → FirstSort m i j

-- n is the number of that bin
pub record SortedAs (m : Meaning) (i n : ℕ) : Type 0 where
  pub sort : ℕ
  pub first : FirstSort m i sort
  pub bin : PlanBin
  pub is : slice_get m.bins sort ≡ Some bin
  pub number : bin.number ≡ n

-- n is the depth of the flow i: one more than that of the deepest flow that it runs, and at most 8
pub record FlowDepth (m : Meaning) (i : ℕ) (f : PlanFlow) (n : ℕ) : Type 0 where
  pub told : n ≡ slice_index (depths m) i
  pub over : n ≡ 1 + deepest (depths m) (items_in m.items f)
  pub fits : n ≤ 8
