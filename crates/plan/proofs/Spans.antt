-- Rows of a span, one by one.
use Rattle.std.proofs.Common.{◌≡◌, ℕ, zero, suc, ◌+◌, ◌-◌, ◌<◌, Bool, true, false, cond, ◌||◌, ◌==◌, List, [], ◌∷◌, map, take, drop, Some, None, sym, refl, ap, ◌∙◌, arith}
use Rattle.std.specs.List.{between, list_any, position_from, slice_get}
use Rattle.std.specs.Option.{option_map}
use Rattle.plan.specs.declared.rows.Value.{Value}
use Rattle.plan.specs.Meaning.{code_of, lists}

pub never_some : {X Y : Type 0} (x : X) → None ≡ Some x → Y
never_some x e = let z : ◌≡◌ {A = ℕ} 0 1 = cc in let y : ⊥ = omega arith in elim y [ ]

-- a value is listed where one of the values is it
pub listed : (v : ℕ) (xs : List Value) → list_any (λ x. x.code == v) xs ≡ lists v (map code_of xs)
listed v [] = refl
listed v (x ∷ xs) = by (x.code == v) (listed v xs)
  where
    by : (t : Bool) → list_any (λ y. y.code == v) xs ≡ lists v (map code_of xs) → (t || list_any (λ y. y.code == v) xs) ≡ cond t true (lists v (map code_of xs))
    by true later = refl
    by false later = later

-- a place counted from k on is so much more
pub counted_on : {X : Type 0} (test : X → Bool) (k j : ℕ) (xs : List X) → position_from test (k + j) xs ≡ option_map (λ i. k + i) (position_from test j xs)
counted_on test k j [] = refl
counted_on test k j (x ∷ xs) = by (test x) (let one : k + j + 1 ≡ k + (j + 1) = omega arith in ap (λ n. position_from test n xs) one ∙ counted_on test k (j + 1) xs)
  where
    by : (t : Bool) → position_from test (k + j + 1) xs ≡ option_map (λ i. k + i) (position_from test (j + 1) xs) → cond t (Some (k + j)) (position_from test (k + j + 1) xs) ≡ option_map (λ i. k + i) (cond t (Some j) (position_from test (j + 1) xs))
    by true later = refl
    by false later = later

-- a row of a span is a row of the table

nth_take : {X : Type 0} (n : ℕ) (xs : List X) (j : ℕ) (x : X) → slice_get (take n xs) j ≡ Some x → slice_get xs j ≡ Some x
nth_take zero xs j x e = never_some x e
nth_take (suc n) [] j x e = e
nth_take (suc n) (y ∷ xs) zero x e = e
nth_take (suc n) (y ∷ xs) (suc j) x e = nth_take n xs j x e

nth_take_lt : {X : Type 0} (n : ℕ) (xs : List X) (j : ℕ) (x : X) → slice_get (take n xs) j ≡ Some x → j < n
nth_take_lt zero xs j x e = never_some x e
nth_take_lt (suc n) [] j x e = never_some x e
nth_take_lt (suc n) (y ∷ xs) zero x e = omega arith
nth_take_lt (suc n) (y ∷ xs) (suc j) x e = let h = nth_take_lt n xs j x e in omega arith

pub nth_drop : {X : Type 0} (k : ℕ) (xs : List X) (j : ℕ) → slice_get (drop k xs) j ≡ slice_get xs (k + j)
nth_drop zero xs j = let e : j ≡ 0 + j = omega arith in ap (slice_get xs) e
nth_drop (suc k) [] j = refl
nth_drop (suc k) (x ∷ xs) j = let e : suc (k + j) ≡ suc k + j = omega arith in nth_drop k xs j ∙ ap (slice_get (x ∷ xs)) e

pub nth_between : {X : Type 0} (k to : ℕ) (xs : List X) (j : ℕ) (x : X) → slice_get (between k to xs) j ≡ Some x → slice_get xs (k + j) ≡ Some x
nth_between k to xs j x e = sym (nth_drop k xs j) ∙ nth_take (to - k) (drop k xs) j x e

pub nth_between_lt : {X : Type 0} (k to : ℕ) (xs : List X) (j : ℕ) (x : X) → slice_get (between k to xs) j ≡ Some x → k + j < to
nth_between_lt k to xs j x e = let h = nth_take_lt (to - k) (drop k xs) j x e in omega arith
