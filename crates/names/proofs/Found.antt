-- What a look-up by name tells.
use Rattle.std.proofs.Common.{◌≡◌, ℕ, zero, suc, ◌+◌, ◌<◌, Bool, true, false, cond, List, [], ◌∷◌, map, length, is_some, Some, None, Option, sym, refl, ap, ◌∙◌, arith}
use Rattle.std.proofs.lemmas.Slice.Eq.{bytes_eq-Decides}
use Rattle.std.proofs.lemmas.Bool.{true≢false, both_ways}
use Rattle.std.proofs.lemmas.Iterator.Adapters.{position_from-zero}
use Rattle.std.specs.List.{position, position_from, slice_get}
use Rattle.plan.specs.declared.rows.Name.{Name}
use Rattle.plan.specs.Rules.{spelt}
use Rattle.plan.proofs.Added.{the_same}
use Rattle.plan.proofs.Spans.{never_some}
use Rattle.names.specs.Names.{same_name, found_from, found}

module _ {R : Type 0} (named : R → Name) (text word : List ℕ) where
  -- a look-up counted from n on, and std's
  at_place : (n : ℕ) (rows : List R) → position_from (λ r. same_name (spelt text (named r)) word) n rows ≡ found_from n named text rows word
  at_place n [] = refl
  at_place n (row ∷ rows) = ap (cond (same_name (spelt text (named row)) word) (Some n)) (at_place (n + 1) rows)

  pub at_position : (rows : List R) → position (λ r. same_name (spelt text (named r)) word) rows ≡ found named text rows word
  at_position rows = position_from-zero (λ r. same_name (spelt text (named r)) word) rows ∙ at_place 0 rows

  found_from_below : (n : ℕ) (rows : List R) (k : ℕ) → found_from n named text rows word ≡ Some k → k < n + length rows
  found_from_below n [] k e = let z : ◌≡◌ {A = ℕ} 0 1 = cc in absurd (omega arith)
  found_from_below n (row ∷ rows) k e = by (same_name (spelt text (named row)) word) e (found_from_below (n + 1) rows k)
    where
      by : (t : Bool) → cond t (Some n) (found_from (n + 1) named text rows word) ≡ Some k → (found_from (n + 1) named text rows word ≡ Some k → k < n + 1 + length rows) → k < n + suc (length rows)
      by true e later = let z : n ≡ k = cc in omega arith
      by false e later = omega (arith, later e)

  -- a row that is found is one of the rows
  pub found_below : (rows : List R) (k : ℕ) → found named text rows word ≡ Some k → k < length rows
  found_below rows k e = omega (arith, found_from_below 0 rows k e)

  found_from_none : (n : ℕ) (rows : List R) → found_from n named text rows word ≡ None → (i : ℕ) → slice_get (map (λ r. spelt text (named r)) rows) i ≡ Some word → ⊥
  found_from_none n [] e i at = never_some word at
  found_from_none n (row ∷ rows) e i at = by (same_name (spelt text (named row)) word) refl e i at (found_from_none (n + 1) rows)
    where
      by : (t : Bool) → same_name (spelt text (named row)) word ≡ t → cond t (Some n) (found_from (n + 1) named text rows word) ≡ None → (i : ℕ) → slice_get (spelt text (named row) ∷ map (λ r. spelt text (named r)) rows) i ≡ Some word → (found_from (n + 1) named text rows word ≡ None → (i : ℕ) → slice_get (map (λ r. spelt text (named r)) rows) i ≡ Some word → ⊥) → ⊥
      by true same e i at later = never_some n (sym e)
      by false same e zero at later = both_ways (same_name (spelt text (named row)) word) same ((bytes_eq-Decides (spelt text (named row)) word).1 (the_same at))
      by false same e (suc i) at later = later e i at

  -- where no row is found, no row has the name
  pub found_none : (rows : List R) → found named text rows word ≡ None → (i : ℕ) → slice_get (map (λ r. spelt text (named r)) rows) i ≡ Some word → ⊥
  found_none rows e i at = found_from_none 0 rows e i at

  -- so where the look-up tells that there is none
  pub none_found : (rows : List R) → is_some (found named text rows word) ≡ false → (i : ℕ) → slice_get (map (λ r. spelt text (named r)) rows) i ≡ Some word → ⊥
  none_found rows e = by (found named text rows word) refl e
    where
      by : (o : Option ℕ) → found named text rows word ≡ o → is_some o ≡ false → (i : ℕ) → slice_get (map (λ r. spelt text (named r)) rows) i ≡ Some word → ⊥
      by (Some k) f e = absurd (true≢false e)
      by None f e = found_none rows f
