-- The rules that rows of bins keep, one row after the other.
use Rattle.std.proofs.Common.{◌≡◌, ℕ, zero, suc, ◌+◌, ◌<◌, ◌≤◌, Bool, true, false, cond, eqb, ◌⊎◌, List, [], ◌∷◌, ◌++◌, length, Some, Option, sym, refl, ap, ◌∙◌, subst, inl, inr, arith, length-append}
use Rattle.std.proofs.lemmas.Bool.{true≢false, both_ways, and_from, eq-eqb}
use Rattle.std.specs.List.{slice_get}
use Rattle.plan.specs.declared.rows.Bin.{Bin}
use Rattle.plan.proofs.Added.{Earlier, the_same, nth_below, nth_added}
use Rattle.plan.proofs.Spans.{never_some}
use Rattle.bins.specs.Bins.{has_number, number_taken, is_leaf, leaf_at}

-- no bin of the group has the number
abbrev pub NumberFree : ℕ → ℕ → List Bin → Type 0
NumberFree group n bins = (i : ℕ) (b : Bin) → slice_get bins i ≡ Some b → b.group ≡ group → b.number ≡ n → ⊥

pub number_free : (group n : ℕ) (bins : List Bin) → number_taken group n bins ≡ false → NumberFree group n bins
number_free group n [] e i b at g m = never_some b at
number_free group n (x ∷ bins) e i b at g m = by (has_number group n x) refl e i at (number_free group n bins)
  where
    by : (t : Bool) → has_number group n x ≡ t → cond t true (number_taken group n bins) ≡ false → (i : ℕ) → slice_get (x ∷ bins) i ≡ Some b → (number_taken group n bins ≡ false → NumberFree group n bins) → ⊥
    by true has e i at later = true≢false e
    by false has e zero at later = let s : x ≡ b = the_same at in both_ways (has_number group n x) has (and_from (eqb x.group group) (eqb x.number n) (eq-eqb _ _ (ap (λ r. r.group) s ∙ g)) (eq-eqb _ _ (ap (λ r. r.number) s ∙ m)))
    by false has e (suc i) at later = later e i b at g m

-- an earlier bin that is no leaf
abbrev pub GoodParent : List Bin → Option ℕ → Type 0
GoodParent bins parent = (p : ℕ) → parent ≡ Some p → (p < length bins) × (leaf_at bins p ≡ false)

-- what the rows keep; their groups are those below `reached`
pub record RowsKept (reached : ℕ) (bins : List Bin) : Type 0 where
  pub parent_earlier : (i p : ℕ) (b : Bin) → slice_get bins i ≡ Some b → b.parent ≡ Some p → p < i
  pub parent_no_leaf : (i p : ℕ) (b q : Bin) → slice_get bins i ≡ Some b → b.parent ≡ Some p → slice_get bins p ≡ Some q → q.leaf ≡ false
  pub number_fits : (i : ℕ) (b : Bin) → slice_get bins i ≡ Some b → b.number ≤ 65535
  pub number_once : (i j : ℕ) (a b : Bin) → slice_get bins i ≡ Some a → slice_get bins j ≡ Some b → a.group ≡ b.group → a.number ≡ b.number → i ≡ j
  pub first_group : (b : Bin) → slice_get bins 0 ≡ Some b → b.group ≡ 0
  pub next_group : (i : ℕ) (a b : Bin) → slice_get bins i ≡ Some a → slice_get bins (i + 1) ≡ Some b → (b.group ≡ a.group) ⊎ (b.group ≡ a.group + 1)
  pub below : (i : ℕ) (b : Bin) → slice_get bins i ≡ Some b → b.group < reached
  pub last : (i : ℕ) (b : Bin) → slice_get bins i ≡ Some b → i + 1 ≡ length bins → b.group + 1 ≡ reached
  pub begun : length bins ≡ 0 → reached ≡ 0
  pub room : length bins ≤ 128

pub no_rows : RowsKept 0 []
no_rows = record {
  parent_earlier = λ i p b e. never_some b e;
  parent_no_leaf = λ i p b q e. never_some b e;
  number_fits = λ i b e. never_some b e;
  number_once = λ i j a b e. never_some a e;
  first_group = λ b e. never_some b e;
  next_group = λ i a b e. never_some a e;
  below = λ i b e. never_some b e;
  last = λ i b e. never_some b e;
  begun = λ e. refl;
  room = omega arith;
}

-- a row more, of the group reached last or of the next
module _ (reached : ℕ) (bins : List Bin) (row : Bin) (rows : RowsKept reached bins) (group : (reached ≡ row.group) ⊎ (reached ≡ row.group + 1)) (room : length bins < 128) (fits : row.number ≤ 65535) (free : NumberFree row.group row.number bins) (parent : GoodParent bins row.parent) where
  abbrev more : List Bin
  more = bins ++ row ∷ []

  one_more : length more ≡ length bins + 1
  one_more = length-append bins (row ∷ [])

  abbrev Stands : ℕ → Bin → Type 0
  Stands i b = Earlier bins row i b

  stood : (i : ℕ) (b : Bin) → slice_get more i ≡ Some b → Stands i b
  stood i b e = nth_added bins row i b e

  reached_most : reached ≤ row.group + 1
  reached_most = by group
    where
      by : (reached ≡ row.group) ⊎ (reached ≡ row.group + 1) → reached ≤ row.group + 1
      by (inl e) = omega arith
      by (inr e) = omega arith

  parent_earlier_lem : (i p : ℕ) (b : Bin) → Stands i b → b.parent ≡ Some p → p < i
  parent_earlier_lem i p b (inl e) h = rows.parent_earlier i p b e h
  parent_earlier_lem i p b (inr e) h = omega (arith, (parent p (sym (ap (λ x. x.parent) e.1) ∙ h)).0, e.0)

  parent_no_leaf_lem : (i p : ℕ) (b q : Bin) → Stands i b → b.parent ≡ Some p → Stands p q → q.leaf ≡ false
  parent_no_leaf_lem i p b q (inl e) h (inl f) = rows.parent_no_leaf i p b q e h f
  parent_no_leaf_lem i p b q (inl e) h (inr f) = absurd (omega (arith, rows.parent_earlier i p b e h, nth_below bins i b e, f.0))
  parent_no_leaf_lem i p b q (inr e) h (inl f) = sym (ap is_leaf f) ∙ (parent p (sym (ap (λ x. x.parent) e.1) ∙ h)).1
  parent_no_leaf_lem i p b q (inr e) h (inr f) = absurd (omega (arith, (parent p (sym (ap (λ x. x.parent) e.1) ∙ h)).0, f.0))

  number_fits_lem : (i : ℕ) (b : Bin) → Stands i b → b.number ≤ 65535
  number_fits_lem i b (inl e) = rows.number_fits i b e
  number_fits_lem i b (inr e) = subst (λ n. n ≤ 65535) (sym (ap (λ x. x.number) e.1)) fits

  number_once_lem : (i j : ℕ) (a b : Bin) → Stands i a → Stands j b → a.group ≡ b.group → a.number ≡ b.number → i ≡ j
  number_once_lem i j a b (inl e) (inl f) g n = rows.number_once i j a b e f g n
  number_once_lem i j a b (inl e) (inr f) g n = absurd (free i a e (g ∙ ap (λ x. x.group) f.1) (n ∙ ap (λ x. x.number) f.1))
  number_once_lem i j a b (inr e) (inl f) g n = absurd (free j b f (sym g ∙ ap (λ x. x.group) e.1) (sym n ∙ ap (λ x. x.number) e.1))
  number_once_lem i j a b (inr e) (inr f) g n = e.0 ∙ sym f.0

  first_group_lem : (b : Bin) → Stands 0 b → b.group ≡ 0
  first_group_lem b (inl e) = rows.first_group b e
  first_group_lem b (inr e) = ap (λ x. x.group) e.1 ∙ by group (rows.begun (sym e.0))
    where
      by : (reached ≡ row.group) ⊎ (reached ≡ row.group + 1) → reached ≡ 0 → row.group ≡ 0
      by (inl g) z = omega arith
      by (inr g) z = omega arith

  next_group_lem : (i : ℕ) (a b : Bin) → Stands i a → Stands (i + 1) b → (b.group ≡ a.group) ⊎ (b.group ≡ a.group + 1)
  next_group_lem i a b (inl e) (inl f) = rows.next_group i a b e f
  next_group_lem i a b (inl e) (inr f) = by group (rows.last i a e f.0) (ap (λ x. x.group) f.1)
    where
      by : (reached ≡ row.group) ⊎ (reached ≡ row.group + 1) → a.group + 1 ≡ reached → b.group ≡ row.group → (b.group ≡ a.group) ⊎ (b.group ≡ a.group + 1)
      by (inl g) l s = inr (omega arith)
      by (inr g) l s = inl (omega arith)
  next_group_lem i a b (inr e) (inl f) = absurd (omega (arith, nth_below bins (i + 1) b f, e.0))
  next_group_lem i a b (inr e) (inr f) = absurd (omega (arith, e.0, f.0))

  group_below : (i : ℕ) (b : Bin) → Stands i b → b.group < row.group + 1
  group_below i b (inl e) = omega (arith, rows.below i b e, reached_most)
  group_below i b (inr e) = omega (arith, ap (λ x. x.group) e.1)

  last_group : (i : ℕ) (b : Bin) → Stands i b → i + 1 ≡ length more → b.group + 1 ≡ row.group + 1
  last_group i b (inl e) h = absurd (omega (arith, nth_below bins i b e, h, one_more))
  last_group i b (inr e) h = ap (λ x. x.group + 1) e.1

  pub rows_added : RowsKept (row.group + 1) more
  rows_added = record {
    parent_earlier = λ i p b e. parent_earlier_lem i p b (stood i b e);
    parent_no_leaf = λ i p b q e h f. parent_no_leaf_lem i p b q (stood i b e) h (stood p q f);
    number_fits = λ i b e. number_fits_lem i b (stood i b e);
    number_once = λ i j a b e f. number_once_lem i j a b (stood i a e) (stood j b f);
    first_group = λ b e. first_group_lem b (stood 0 b e);
    next_group = λ i a b e f. next_group_lem i a b (stood i a e) (stood (i + 1) b f);
    below = λ i b e. group_below i b (stood i b e);
    last = λ i b e. last_group i b (stood i b e);
    begun = λ e. absurd (omega (arith, e, one_more));
    room = omega (arith, one_more, room);
  }
