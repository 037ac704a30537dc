-- Where no leaf is told to be unsorted, every leaf has a bin of the group at or above it.
use Rattle.std.proofs.Common.{◌≡◌, ℕ, zero, suc, ◌+◌, Bool, true, false, cond, not, ◌&&◌, eqb, List, [], ◌∷◌, length, Some, None, Option, sym, refl, ap, ◌∙◌, arith}
use Rattle.std.proofs.lemmas.Bool.{false≢true, not-false, eqb-true}
use Rattle.std.specs.List.{slice_get}
use Rattle.plan.specs.declared.rows.Bin.{Bin}
use Rattle.plan.proofs.Added.{the_same}
use Rattle.plan.proofs.Spans.{never_some}
use Rattle.bins.specs.Sorting.{of_parent, at_or_above, sort_bin_above, unsorted, unsorted_from, first_unsorted}

-- the bin j is the bin i, or its parent, or that one's parent, and so on
pub data RowAbove (bins : List Bin) : ℕ → ℕ → Type 0 where
  here : (i : ℕ) → RowAbove bins i i
  up : (i p j : ℕ) (b : Bin) → slice_get bins i ≡ Some b → b.parent ≡ Some p → RowAbove bins p j → RowAbove bins i j

-- a bin of the group is the bin i or stands above it
pub record SortRow (bins : List Bin) (group i : ℕ) : Type 0 where
  pub j : ℕ
  pub above : RowAbove bins i j
  pub bin : Bin
  pub is : slice_get bins j ≡ Some bin
  pub sorts : bin.group ≡ group

module _ (bins : List Bin) (group : ℕ) where
  -- so many steps tell of such a bin
  abbrev Climb : ℕ → Type 0
  Climb steps = (p : ℕ) → sort_bin_above bins group steps p ≡ true → SortRow bins group p

  pub sort_row : (steps i : ℕ) → sort_bin_above bins group steps i ≡ true → SortRow bins group i
  sort_row zero i e = absurd (false≢true e)
  sort_row (suc steps) i e = by (λ p e. sort_row steps p e) (slice_get bins i) refl e
    where
      climbs : Climb steps → (b : Bin) → slice_get bins i ≡ Some b → (o : Option ℕ) → b.parent ≡ o → of_parent (sort_bin_above bins group steps) o ≡ true → SortRow bins group i
      climbs on b at None q e = absurd (false≢true e)
      climbs on b at (Some p) q e = let s = on p e in record { j = s.j; above = RowAbove.up i p s.j b at q s.above; bin = s.bin; is = s.is; sorts = s.sorts }

      looks : Climb steps → (b : Bin) → slice_get bins i ≡ Some b → (t : Bool) → eqb b.group group ≡ t → cond t true (of_parent (sort_bin_above bins group steps) b.parent) ≡ true → SortRow bins group i
      looks on b at true g e = record { j = i; above = RowAbove.here i; bin = b; is = at; sorts = eqb-true b.group group g }
      looks on b at false g e = climbs on b at b.parent refl e

      by : Climb steps → (o : Option Bin) → slice_get bins i ≡ o → at_or_above group (sort_bin_above bins group steps) o ≡ true → SortRow bins group i
      by on None at e = absurd (false≢true e)
      by on (Some b) at e = looks on b at (eqb b.group group) refl e

  none_unsorted : (n : ℕ) (more : List Bin) → unsorted_from n bins group more ≡ None → (k : ℕ) (b : Bin) → slice_get more k ≡ Some b → unsorted bins group (n + k) b ≡ false
  none_unsorted n [] e k b at = never_some b at
  none_unsorted n (x ∷ more) e k b at = by (unsorted bins group n x) refl e k at (none_unsorted (n + 1) more)
    where
      by : (t : Bool) → unsorted bins group n x ≡ t → cond t (Some x.name.place) (unsorted_from (n + 1) bins group more) ≡ None → (k : ℕ) → slice_get (x ∷ more) k ≡ Some b → (unsorted_from (n + 1) bins group more ≡ None → (k : ℕ) (b : Bin) → slice_get more k ≡ Some b → unsorted bins group (n + 1 + k) b ≡ false) → unsorted bins group (n + k) b ≡ false
      by true u e k at later = never_some x.name.place (sym e)
      by false u e zero at later = let z : n + 0 ≡ n = omega arith in ap (λ m. unsorted bins group m b) z ∙ ap (unsorted bins group n) (sym (the_same at)) ∙ u
      by false u e (suc k) at later = let z : n + suc k ≡ n + 1 + k = omega arith in ap (λ m. unsorted bins group m b) z ∙ later e k b at

  -- every leaf can be sorted
  pub leaf_sorted_lem : first_unsorted bins group ≡ None → (i : ℕ) (b : Bin) → slice_get bins i ≡ Some b → b.leaf ≡ true → SortRow bins group i
  leaf_sorted_lem e i b at leaf =
      let z : 0 + i ≡ i = omega arith in
      let u : b.leaf && not (sort_bin_above bins group (length bins) i) ≡ false = ap (λ m. unsorted bins group m b) (sym z) ∙ none_unsorted 0 bins e i b at in
      let v : not (sort_bin_above bins group (length bins) i) ≡ false = ap (λ t. t && not (sort_bin_above bins group (length bins) i)) (sym leaf) ∙ u in
      sort_row (length bins) i (not-false (sort_bin_above bins group (length bins) i) v)
