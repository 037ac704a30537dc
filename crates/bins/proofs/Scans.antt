-- Searches of the bins, in the words of the library.
use Rattle.std.proofs.Common.{◌≡◌, ℕ, ◌+◌, Bool, true, false, cond, List, [], ◌∷◌, Some, refl, arith}
use Rattle.std.specs.List.{list_any, find, enumerate_from}
use Rattle.std.specs.Option.{option_map}
use Rattle.plan.specs.declared.rows.Bin.{Bin}
use Rattle.bins.specs.Bins.{has_number, number_taken}
use Rattle.bins.specs.Sorting.{unsorted, unsorted_from}

-- a bin of the group has the number
pub any_has_number : (group n : ℕ) (bins : List Bin) → list_any (has_number group n) bins ≡ number_taken group n bins
any_has_number group n [] = refl
any_has_number group n (b ∷ bins) = grind (arith, any_has_number group n bins)

-- the first bin that is unsorted, with its number
pub first_unsorted_found : (bins : List Bin) (group i : ℕ) (more : List Bin) → option_map (λ (p : ℕ × Bin). p.1.name.place) (find (λ p. unsorted bins group p.0 p.1) (enumerate_from i more)) ≡ unsorted_from i bins group more
first_unsorted_found bins group i [] = refl
first_unsorted_found bins group i (b ∷ more) = by (unsorted bins group i b) (first_unsorted_found bins group (i + 1) more)
  where
    by : (t : Bool) → option_map (λ (p : ℕ × Bin). p.1.name.place) (find (λ p. unsorted bins group p.0 p.1) (enumerate_from (i + 1) more)) ≡ unsorted_from (i + 1) bins group more → option_map (λ (p : ℕ × Bin). p.1.name.place) (cond t (Some (i, b)) (find (λ p. unsorted bins group p.0 p.1) (enumerate_from (i + 1) more))) ≡ cond t (Some b.name.place) (unsorted_from (i + 1) bins group more)
    by true later = refl
    by false later = later
