-- A bin of the group is met going up exactly where there is a first one.
use Rattle.std.proofs.Common.{◌≡◌, ℕ, zero, suc, Bool, true, false, cond, ◌==◌, List, is_some, Some, None, Option, refl}
use Rattle.std.specs.Option.{option_and_then}
use Rattle.std.specs.List.{slice_get}
use Rattle.plan.specs.declared.rows.Bin.{Bin}
use Rattle.plan.specs.Finding.{group_at, first_of_group}
use Rattle.bins.specs.Sorting.{of_parent, at_or_above, sort_bin_above}

module _ (bins : List Bin) (g : ℕ) where
  pub bin_met : (n i : ℕ) → is_some (first_of_group bins g n i) ≡ sort_bin_above bins g n i
  bin_met zero i = refl
  bin_met (suc n) i = at_bin (slice_get bins i) (bin_met n)
    where
      at_parent : (o : Option ℕ) → ((p : ℕ) → is_some (first_of_group bins g n p) ≡ sort_bin_above bins g n p) → is_some (option_and_then (first_of_group bins g n) o) ≡ of_parent (sort_bin_above bins g n) o
      at_parent None h = refl
      at_parent (Some p) h = h p

      either_way : (t : Bool) (b : Bin) → ((p : ℕ) → is_some (first_of_group bins g n p) ≡ sort_bin_above bins g n p) → is_some (cond t (Some b) (option_and_then (first_of_group bins g n) b.parent)) ≡ cond t true (of_parent (sort_bin_above bins g n) b.parent)
      either_way true b h = refl
      either_way false b h = at_parent b.parent h

      at_bin : (o : Option Bin) → ((p : ℕ) → is_some (first_of_group bins g n p) ≡ sort_bin_above bins g n p) → is_some (group_at g (first_of_group bins g n) o) ≡ at_or_above g (sort_bin_above bins g n) o
      at_bin None h = refl
      at_bin (Some b) h = either_way (b.group == g) b h
