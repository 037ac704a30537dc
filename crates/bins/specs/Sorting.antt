-- Which leaf bins can be sorted by a group: those that have a bin of that group at or above them.
use Rattle.std.specs.Prelude.{ℕ, zero, suc, ◌+◌, Bool, true, false, cond, not, ◌&&◌, List, [], ◌∷◌, length, Some, None, Option, ◌==◌}
use Rattle.std.specs.List.{slice_get}
use Rattle.plan.specs.declared.rows.Bin.{Bin}

-- so for the parent, where there is one
abbrev pub of_parent : (ℕ → Bool) → Option ℕ → Bool
of_parent above None = false
of_parent above (Some p) = above p

-- this bin is of the group, or so above it
abbrev pub at_or_above : ℕ → (ℕ → Bool) → Option Bin → Bool
at_or_above group above None = false
at_or_above group above (Some b) = cond (b.group == group) true (of_parent above b.parent)

-- a bin of the group is met going up from the bin i, over this many bins at most
abbrev pub sort_bin_above : List Bin → ℕ → ℕ → ℕ → Bool
sort_bin_above bins group zero i = false
sort_bin_above bins group (suc steps) i = at_or_above group (sort_bin_above bins group steps) (slice_get bins i)

-- the bin i is a leaf with no bin of the group at or above it. Parents are earlier bins, so as many steps as there are
-- bins suffice
abbrev pub unsorted : List Bin → ℕ → ℕ → Bin → Bool
unsorted bins group i b = b.leaf && not (sort_bin_above bins group (length bins) i)

-- of the bins from i on
abbrev pub unsorted_from : ℕ → List Bin → ℕ → List Bin → Option ℕ
unsorted_from i bins group [] = None
unsorted_from i bins group (b ∷ more) = cond (unsorted bins group i b) (Some b.name.place) (unsorted_from (i + 1) bins group more)

-- the place of the first such leaf's name
abbrev pub first_unsorted : List Bin → ℕ → Option ℕ
first_unsorted bins group = unsorted_from 0 bins group bins
