-- Two lists one by one, and what holds of each in a list.
use Rattle.std.proofs.Common.{◌≡◌, ℕ, zero, suc, List, [], ◌∷◌, ◌++◌, map, length, take, drop, Some, sym, refl, ap, ◌∙◌, subst, append_assoc}
use Rattle.std.specs.List.{flat_map, slice_get}
use Rattle.std.specs.Option.{option_map}
use Rattle.plan.proofs.Added.{the_same}
use Rattle.plan.proofs.Readings.{nth_map}
use Rattle.plan.proofs.Spans.{never_some}
use Rattle.language.specs.Obeying.{Every}

-- the first of one with the first of the other, and so on, to the end of both
abbrev pub Along : {X Y : Type 0} → (X → Y → Type 0) → List X → List Y → Type 0
Along R [] [] = Unit {0}
Along R [] (y ∷ ys) = ⊥
Along R (x ∷ xs) [] = ⊥
Along R (x ∷ xs) (y ∷ ys) = R x y × Along R xs ys

module _ {X Y : Type 0} (R : X → Y → Type 0) where
  pub along_then : (xs : List X) (ys : List Y) (us : List X) (vs : List Y) → Along R xs ys → Along R us vs → Along R (xs ++ us) (ys ++ vs)
  along_then [] [] us vs a b = b
  along_then [] (y ∷ ys) us vs a b = absurd a
  along_then (x ∷ xs) [] us vs a b = absurd a
  along_then (x ∷ xs) (y ∷ ys) us vs a b = (a.0, along_then xs ys us vs a.1 b)

  pub along_length : (xs : List X) (ys : List Y) → Along R xs ys → length xs ≡ length ys
  along_length [] [] a = refl
  along_length [] (y ∷ ys) a = absurd a
  along_length (x ∷ xs) [] a = absurd a
  along_length (x ∷ xs) (y ∷ ys) a = ap suc (along_length xs ys a.1)

  -- as many in front of both
  pub along_parts : (xs : List X) (ys vs : List Y) → Along R xs (ys ++ vs) → Along R (take (length ys) xs) ys × Along R (drop (length ys) xs) vs
  along_parts xs [] vs a = (tt, a)
  along_parts [] (y ∷ ys) vs a = absurd a
  along_parts (x ∷ xs) (y ∷ ys) vs a = let r = along_parts xs ys vs a.1 in ((a.0, r.0), r.1)

  -- what each two give
  pub along_map : {Z : Type 0} (f : X → Z) (g : Y → Z) → ((x : X) (y : Y) → R x y → f x ≡ g y) → (xs : List X) (ys : List Y) → Along R xs ys → map f xs ≡ map g ys
  along_map f g is [] [] a = refl
  along_map f g is [] (y ∷ ys) a = absurd a
  along_map f g is (x ∷ xs) [] a = absurd a
  along_map f g is (x ∷ xs) (y ∷ ys) a = ap (λ z. z ∷ map f xs) (is x y a.0) ∙ ap (λ l. g y ∷ l) (along_map f g is xs ys a.1)

-- what follows of each two
pub along_weaker : {X Y : Type 0} (R Q : X → Y → Type 0) → ((x : X) (y : Y) → R x y → Q x y) → (xs : List X) (ys : List Y) → Along R xs ys → Along Q xs ys
along_weaker R Q w [] [] a = tt
along_weaker R Q w [] (y ∷ ys) a = absurd a
along_weaker R Q w (x ∷ xs) [] a = absurd a
along_weaker R Q w (x ∷ xs) (y ∷ ys) a = (w x y a.0, along_weaker R Q w xs ys a.1)

pub joined_append : {X A : Type 0} (f : X → List A) (xs ys : List X) → flat_map f (xs ++ ys) ≡ flat_map f xs ++ flat_map f ys
joined_append f [] ys = refl
joined_append f (x ∷ xs) ys = ap (λ l. f x ++ l) (joined_append f xs ys) ∙ sym (append_assoc (f x) (flat_map f xs) (flat_map f ys))

module _ {X : Type 0} (P : X → Type 0) where
  pub every_then : (xs ys : List X) → Every P xs → Every P ys → Every P (xs ++ ys)
  every_then [] ys a b = b
  every_then (x ∷ xs) ys a b = (a.0, every_then xs ys a.1 b)

  pub every_front : (xs ys : List X) → Every P (xs ++ ys) → Every P xs
  every_front [] ys a = tt
  every_front (x ∷ xs) ys a = (a.0, every_front xs ys a.1)

  pub every_behind : (xs ys : List X) → Every P (xs ++ ys) → Every P ys
  every_behind [] ys a = a
  every_behind (x ∷ xs) ys a = every_behind xs ys a.1

pub every_weaker : {X : Type 0} (P Q : X → Type 0) → ((x : X) → P x → Q x) → (xs : List X) → Every P xs → Every Q xs
every_weaker P Q w [] a = tt
every_weaker P Q w (x ∷ xs) a = (w x a.0, every_weaker P Q w xs a.1)

-- two ways to make a list that make each row the same
pub map_same : {X Y : Type 0} (f g : X → Y) (xs : List X) → ((i : ℕ) (x : X) → slice_get xs i ≡ Some x → f x ≡ g x) → map f xs ≡ map g xs
map_same f g [] h = refl
map_same f g (x ∷ xs) h = ap (λ z. z ∷ map f xs) (h 0 x refl) ∙ ap (λ l. g x ∷ l) (map_same f g xs (λ i y e. h (suc i) y e))

-- of each, by its number

pub every_nth : {X : Type 0} (P : X → Type 0) (xs : List X) (i : ℕ) (x : X) → Every P xs → slice_get xs i ≡ Some x → P x
every_nth P [] i x a at = never_some x at
every_nth P (y ∷ xs) zero x a at = subst P (the_same at) a.0
every_nth P (y ∷ xs) (suc i) x a at = every_nth P xs i x a.1 at

pub nth_every : {X : Type 0} (P : X → Type 0) (xs : List X) → ((i : ℕ) (x : X) → slice_get xs i ≡ Some x → P x) → Every P xs
nth_every P [] h = tt
nth_every P (x ∷ xs) h = (h 0 x refl, nth_every P xs (λ i y e. h (suc i) y e))

module _ {X A : Type 0} (P : A → Type 0) (f : X → List A) where
  -- of each in lists one behind the other
  pub every_joined : (xs : List X) → Every (λ x. Every P (f x)) xs → Every P (flat_map f xs)
  every_joined [] a = tt
  every_joined (x ∷ xs) a = every_then P (f x) (flat_map f xs) a.0 (every_joined xs a.1)

  pub joined_every : (xs : List X) → Every P (flat_map f xs) → Every (λ x. Every P (f x)) xs
  joined_every [] a = tt
  joined_every (x ∷ xs) a = (every_front P (f x) (flat_map f xs) a, joined_every xs (every_behind P (f x) (flat_map f xs) a))

-- what stands in a list stands in what is made of it
pub nth_made : {X Y : Type 0} (f : X → Y) (xs : List X) (i : ℕ) (x : X) → slice_get xs i ≡ Some x → slice_get (map f xs) i ≡ Some (f x)
nth_made f xs i x at = sym (nth_map f xs i) ∙ ap (option_map f) at
