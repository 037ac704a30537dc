-- A full stop and a digit, which make a decimal of the digits in front of them.
use Rattle.std.proofs.Common.{◌≡◌, ℕ, ◌+◌, Bool, true, false, ◌&&◌, eqb, ltb, List, [], ◌∷◌, length, get_or, drop, refl, ap, ◌∙◌, arith, length-drop}
use Rattle.std.proofs.lemmas.Bool.{lt-ltb}
use Rattle.text_bytes.specs.Bytes.{letter, digit}
use Rattle.tokens.proofs.Runs.{first_byte, other_bytes}

pub digit_not_letter : (b : ℕ) → digit b ≡ true → letter b ≡ false
digit_not_letter b h = grind arith

-- a full stop and a digit stand in front
abbrev pub stop_digit : List ℕ → Bool
stop_digit [] = false
stop_digit (c ∷ []) = false
stop_digit (c ∷ d ∷ r) = eqb c 46 && digit d

-- where r stands at e, the test whether a second byte is there tells whether r has two
second_byte : (text : List ℕ) (e : ℕ) (r : List ℕ) → drop e text ≡ r → ltb (e + 1) (length text) ≡ ltb 1 (length r)
second_byte text e r at = let l = length-drop e text in let k : length (drop e text) ≡ length r = ap length at in grind arith

-- the test that is made at e tells whether they stand there
pub stop_digit_is : (text : List ℕ) (e : ℕ) (r : List ℕ) → drop e text ≡ r → (ltb (e + 1) (length text) && (eqb (get_or text e 0) 46 && digit (get_or text (e + 1) 0))) ≡ stop_digit r
stop_digit_is text e r at = ap (λ t. t && (eqb (get_or text e 0) 46 && digit (get_or text (e + 1) 0))) (second_byte text e r at) ∙ go r at
  where
    go : (r : List ℕ) → drop e text ≡ r → (ltb 1 (length r) && (eqb (get_or text e 0) 46 && digit (get_or text (e + 1) 0))) ≡ stop_digit r
    go [] at = refl
    go (c ∷ []) at = refl
    go (c ∷ d ∷ r) at =
        ap (λ t. t && (eqb (get_or text e 0) 46 && digit (get_or text (e + 1) 0))) (lt-ltb 1 (length (c ∷ d ∷ r)) (omega arith))
        ∙ (ap (λ x. eqb x 46 && digit (get_or text (e + 1) 0)) (first_byte text e c [] (d ∷ r) at)
        ∙ ap (λ x. eqb c 46 && digit x) (first_byte text (e + 1) d [] r (other_bytes text e c [] (d ∷ r) at)))
