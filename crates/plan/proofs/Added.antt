-- A row more at the end of a table.
use Rattle.std.proofs.Common.{◌≡◌, ℕ, zero, suc, ◌+◌, ◌<◌, ◌≤◌, ◌⊎◌, List, [], ◌∷◌, ◌++◌, map, length, Some, Option, sym, refl, ap, ◌∙◌, subst, inl, inr, arith}
use Rattle.std.proofs.lemmas.List.{map-append}
use Rattle.std.proofs.lemmas.Option.{slice_get_within}
use Rattle.std.specs.List.{slice_get}
use Rattle.plan.specs.Rules.{Once}
use Rattle.plan.proofs.Spans.{never_some}

pub the_same : {X : Type 0} {x y : X} → ◌≡◌ {A = Option X} (Some x) (Some y) → x ≡ y
the_same e = cc

-- what stands in a list stands below its length
pub nth_below : {X : Type 0} (xs : List X) (i : ℕ) (x : X) → slice_get xs i ≡ Some x → i < length xs
nth_below = slice_get_within

-- what stands in the longer list stood there before, or is the last
abbrev pub Earlier : {X : Type 0} → List X → X → ℕ → X → Type 0
Earlier xs x i y = (slice_get xs i ≡ Some y) ⊎ ((i ≡ length xs) × (y ≡ x))

pub nth_added : {X : Type 0} (xs : List X) (x : X) (i : ℕ) (y : X) → slice_get (xs ++ x ∷ []) i ≡ Some y → Earlier xs x i y
nth_added [] x zero y e = inr (refl, sym (the_same e))
nth_added [] x (suc i) y e = never_some y e
nth_added (z ∷ xs) x zero y e = inl e
nth_added (z ∷ xs) x (suc i) y e = by (nth_added xs x i y e)
  where
    by : Earlier xs x i y → Earlier (z ∷ xs) x (suc i) y
    by (inl e) = inl e
    by (inr e) = inr (ap suc e.0, e.1)

-- nothing stands twice in a list with one more that is not in it
pub once_added : {X : Type 0} (xs : List X) (x : X) → Once xs → ((i : ℕ) → slice_get xs i ≡ Some x → ⊥) → Once (xs ++ x ∷ [])
once_added {X} xs x once new i j y a b = by (nth_added xs x i y a) (nth_added xs x j y b)
  where
    by : Earlier xs x i y → Earlier xs x j y → i ≡ j
    by (inl a) (inl b) = once i j y a b
    by (inl a) (inr b) = absurd (new i (a ∙ ap Some b.1))
    by (inr a) (inl b) = absurd (new j (b ∙ ap Some a.1))
    by (inr a) (inr b) = a.0 ∙ sym b.0

-- so of what the rows hold
pub once_row : {R X : Type 0} (f : R → X) (rows : List R) (row : R) → Once (map f rows) → ((i : ℕ) → slice_get (map f rows) i ≡ Some (f row) → ⊥) → Once (map f (rows ++ row ∷ []))
once_row f rows row once new = subst Once (sym (map-append f rows (row ∷ []))) (once_added (map f rows) (f row) once new)

-- one more between two lists: what stands in the longer list stood there before, as far on or one less, or is the new one
abbrev Moved : {X : Type 0} → List X → X → List X → ℕ → X → Type 0
Moved xs x ys i y = ((j : ℕ) × (slice_get (xs ++ ys) j ≡ Some y) × (((i ≡ j) × (j < length xs)) ⊎ ((i ≡ j + 1) × (length xs ≤ j)))) ⊎ ((i ≡ length xs) × (y ≡ x))

nth_inserted : {X : Type 0} (xs : List X) (x : X) (ys : List X) (i : ℕ) (y : X) → slice_get (xs ++ x ∷ ys) i ≡ Some y → Moved xs x ys i y
nth_inserted [] x ys zero y e = inr (refl, sym (the_same e))
nth_inserted [] x ys (suc i) y e = inl (i, e, inr (omega arith, omega arith))
nth_inserted (z ∷ xs) x ys zero y e = inl (0, e, inl (refl, omega arith))
nth_inserted (z ∷ xs) x ys (suc i) y e = by (nth_inserted xs x ys i y e)
  where
    on : (j : ℕ) → ((i ≡ j) × (j < length xs)) ⊎ ((i ≡ j + 1) × (length xs ≤ j)) → ((suc i ≡ suc j) × (suc j < suc (length xs))) ⊎ ((suc i ≡ suc j + 1) × (suc (length xs) ≤ suc j))
    on j (inl k) = inl (ap suc k.0, omega (arith, k.1))
    on j (inr k) = inr (omega (arith, k.0), omega (arith, k.1))

    by : Moved xs x ys i y → Moved (z ∷ xs) x ys (suc i) y
    by (inl m) = inl (suc m.0, m.1, on m.0 m.2)
    by (inr m) = inr (ap suc m.0, m.1)

-- nothing stands twice in two lists with one more between them that is in neither
pub once_between : {X : Type 0} (xs : List X) (x : X) (ys : List X) → Once (xs ++ ys) → ((i : ℕ) → slice_get (xs ++ ys) i ≡ Some x → ⊥) → Once (xs ++ x ∷ ys)
once_between {X} xs x ys once new i j y a b = by (nth_inserted xs x ys i y a) (nth_inserted xs x ys j y b)
  where
    same : (k l : ℕ) → k ≡ l → ((i ≡ k) × (k < length xs)) ⊎ ((i ≡ k + 1) × (length xs ≤ k)) → ((j ≡ l) × (l < length xs)) ⊎ ((j ≡ l + 1) × (length xs ≤ l)) → i ≡ j
    same k l e (inl m) (inl n) = omega (arith, e, m.0, n.0)
    same k l e (inl m) (inr n) = absurd (omega (arith, e, m.1, n.1))
    same k l e (inr m) (inl n) = absurd (omega (arith, e, m.1, n.1))
    same k l e (inr m) (inr n) = omega (arith, e, m.0, n.0)

    by : Moved xs x ys i y → Moved xs x ys j y → i ≡ j
    by (inl m) (inl n) = same m.0 n.0 (once m.0 n.0 y m.1 n.1) m.2 n.2
    by (inl m) (inr n) = absurd (new m.0 (m.1 ∙ ap Some n.1))
    by (inr m) (inl n) = absurd (new n.0 (n.1 ∙ ap Some m.1))
    by (inr m) (inr n) = m.0 ∙ sym n.0

-- what is in neither of two lists is not in both together
pub in_neither : {X : Type 0} (xs ys : List X) (x : X) → ((i : ℕ) → slice_get xs i ≡ Some x → ⊥) → ((i : ℕ) → slice_get ys i ≡ Some x → ⊥) → (i : ℕ) → slice_get (xs ++ ys) i ≡ Some x → ⊥
in_neither [] ys x a b i e = b i e
in_neither (z ∷ xs) ys x a b zero e = a 0 e
in_neither (z ∷ xs) ys x a b (suc i) e = in_neither xs ys x (λ k. a (suc k)) b i e
