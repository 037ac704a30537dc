-- Parts of a table that follow one another, joined again, and rows found in their part.
use Rattle.std.proofs.Common.{◌≡◌, ℕ, zero, suc, ◌+◌, ◌-◌, ◌<◌, ◌≤◌, Bool, true, false, cond, eqb, List, [], ◌∷◌, ◌++◌, map, take, drop, Some, sym, refl, ap, ◌∙◌, subst, arith}
use Rattle.std.proofs.lemmas.List.{drop-drop}
use Rattle.std.proofs.lemmas.Bool.{true≢false, eqb-true}
use Rattle.std.proofs.Math.Seq.{take-add}
use Rattle.std.proofs.lemmas.List.Sums.{AllPass-from_list_all}
use Rattle.std.proofs.lemmas.Option.{get_or_from_slice_get, slice_get_within}
use Rattle.std.specs.List.{between, flat_map, slice_get}
use Rattle.plan.specs.declared.rows.Span.{Span}
use Rattle.plan.specs.Meaning.{lists}
use Rattle.plan.specs.Rules.{Among}
use Rattle.plan.proofs.Added.{the_same}
use Rattle.plan.proofs.Spans.{never_some, nth_drop}
use Rattle.flows.specs.Checks.{every}
use Rattle.flows.proofs.Following.{Follow}

-- spans that follow one another go on
pub follow_on : (from : ℕ) (ss : List Span) (to : ℕ) → Follow from ss to → from ≤ to
follow_on from [] to f = omega (arith, f)
follow_on from (s ∷ ss) to f = omega (arith, f.1, follow_on s.to ss to f.2)

-- no span ends behind the last
pub follow_to : {R : Type 0} (g : R → Span) (from : ℕ) (rows : List R) (to i : ℕ) (r : R) → Follow from (map g rows) to → slice_get rows i ≡ Some r → (g r).to ≤ to
follow_to g from [] to i r f at = never_some r at
follow_to g from (x ∷ rows) to zero r f at = subst (λ y. (g y).to ≤ to) (the_same at) (follow_on (g x).to (map g rows) to f.2)
follow_to g from (x ∷ rows) to (suc i) r f at = follow_to g (g x).to rows to i r f.2 at

-- two parts that follow one another are one
pub between_joined : {X : Type 0} (from mid to : ℕ) (xs : List X) → from ≤ mid → mid ≤ to → between from mid xs ++ between mid to xs ≡ between from to xs
between_joined from mid to xs a b =
    let there : from + (mid - from) ≡ mid = omega (arith, a) in
    let whole : (mid - from) + (to - mid) ≡ to - from = omega (arith, a, b) in
    let behind : drop mid xs ≡ drop (mid - from) (drop from xs) = sym (ap (λ n. drop n xs) there) ∙ sym (drop-drop (mid - from) from xs) in
    ap (λ l. take (mid - from) (drop from xs) ++ take (to - mid) l) behind
    ∙ (sym (take-add (mid - from) (to - mid) (drop from xs)) ∙ ap (λ n. take n (drop from xs)) whole)

-- a whole that is made of its parts, part by part
module _ {R S Y : Type 0} (h : R → S) (f : S → List Y) (span : R → Span) (whole : ℕ → ℕ → List Y) (is : (r : R) → f (h r) ≡ whole (span r).from (span r).to) (none : (n : ℕ) → [] ≡ whole n n) (both : (a b c : ℕ) → a ≤ b → b ≤ c → whole a b ++ whole b c ≡ whole a c) where
  pub joined_whole : (from : ℕ) (rows : List R) (to : ℕ) → Follow from (map span rows) to → flat_map f (map h rows) ≡ whole from to
  joined_whole from [] to e = none from ∙ ap (whole from) e
  joined_whole from (r ∷ rows) to e =
      let begins : whole (span r).from (span r).to ≡ whole from (span r).to = ap (λ n. whole n (span r).to) e.0 in
      ap (λ l. l ++ flat_map f (map h rows)) (is r ∙ begins)
      ∙ (ap (λ l. whole from (span r).to ++ l) (joined_whole (span r).to rows to e.2)
      ∙ both from (span r).to to e.1 (follow_on (span r).to (map span rows) to e.2))

-- a row that stands in a part
take_nth : {X : Type 0} (n : ℕ) (xs : List X) (j : ℕ) (x : X) → j < n → slice_get xs j ≡ Some x → slice_get (take n xs) j ≡ Some x
take_nth zero xs j x l e = absurd (omega (arith, l))
take_nth (suc n) [] j x l e = e
take_nth (suc n) (y ∷ xs) zero x l e = e
take_nth (suc n) (y ∷ xs) (suc j) x l e = take_nth n xs j x (omega (arith, l)) e

pub between_nth : {X : Type 0} (from to : ℕ) (xs : List X) (i : ℕ) (x : X) → from ≤ i → i < to → slice_get xs i ≡ Some x → slice_get (between from to xs) (i - from) ≡ Some x
between_nth from to xs i x a b e =
    let there : i ≡ from + (i - from) = omega (arith, a) in
    take_nth (to - from) (drop from xs) (i - from) x (omega (arith, a, b)) (nth_drop from xs (i - from) ∙ (sym (ap (slice_get xs) there) ∙ e))

-- what holds of every row holds of each
pub every_at : {X : Type 0} (p : X → Bool) (xs : List X) (i : ℕ) (x : X) → every p xs ≡ true → slice_get xs i ≡ Some x → p x ≡ true
every_at p xs i x e at = subst (λ y. p y ≡ true) (get_or_from_slice_get xs i x x at) (AllPass-from_list_all p xs e i x (slice_get_within xs i x at))

-- a value that is listed stands in the list
pub lists_among : (v : ℕ) (xs : List ℕ) → lists v xs ≡ true → Among v xs
lists_among v [] e = absurd (true≢false (sym e))
lists_among v (x ∷ xs) e = by (eqb x v) refl e (lists_among v xs)
  where
    by : (t : Bool) → eqb x v ≡ t → cond t true (lists v xs) ≡ true → (lists v xs ≡ true → Among v xs) → Among v (x ∷ xs)
    by true same e later = (0, ap Some (eqb-true x v same))
    by false same e later = let l = later e in (suc l.0, l.1)
