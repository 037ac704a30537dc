-- The turns of a repetition, for loops that make them.
use Rattle.std.proofs.Common.{◌≡◌, ℕ, zero, suc, ◌+◌, ◌<◌, ◌≤◌, Bool, true, false, cond, Ok, Err, sym, refl, ap, ◌∙◌, arith}
use Rattle.std.proofs.lemmas.Bool.{true≢false, false≢true}
use Rattle.tokens.specs.Terminals.{Tokens, count}
use Rattle.refusals.specs.declared.fault.LoadFault.{LoadFault}
use Rattle.refusals.specs.Steps.{Loaded, then, turns, many}

module _ {S : Type 0} (turn : S → Tokens → Loaded (Bool × S)) where
  abbrev later : ℕ → Bool × S → Tokens → Loaded S
  later n v ts = cond v.0 (turns turn n v.1 ts) (Ok (v.1, ts))

  -- one turn, and then as it says
  pub one_turn : (n : ℕ) (s : S) (ts : Tokens) (x : Loaded (Bool × S)) → turn s ts ≡ x → turns turn (suc n) s ts ≡ then x (later n)
  unfolding turns
  one_turn n s ts x e = ap (λ r. then r (later n)) e

-- what the turns from here on come to is what the whole repetition comes to
pub record Going {S : Type 0} (turn : S → Tokens → Loaded (Bool × S)) (s : S) (ts : Tokens) (whole : Loaded S) : Type 0 where
  pub fuel : ℕ
  pub enough : count ts < fuel
  pub gives : turns turn fuel s ts ≡ whole

module _ {S : Type 0} (turn : S → Tokens → Loaded (Bool × S)) where
  pub going : (s : S) (ts : Tokens) → Going turn s ts (many turn s ts)
  going s ts = record { fuel = suc (count ts); enough = omega arith; gives = refl }

  module _ {s : S} {ts : Tokens} {whole : Loaded S} where
    came : (h : Going turn s ts whole) (x : Loaded (Bool × S)) → turn s ts ≡ x → (n : ℕ) × (count ts < suc n) × (then x (later turn n) ≡ whole)
    came h x e = by h.fuel h.enough h.gives
      where
        by : (f : ℕ) → count ts < f → turns turn f s ts ≡ whole → (n : ℕ) × (count ts < suc n) × (then x (later turn n) ≡ whole)
        by zero lo g = absurd (omega arith)
        by (suc n) lo g = (n, lo, sym (one_turn turn n s ts x e) ∙ g)

    -- another turn
    pub goes_on : (h : Going turn s ts whole) (t : S) (us : Tokens) → turn s ts ≡ Ok ((true, t), us) → count us < count ts → Going turn t us whole
    goes_on h t us e less = let k = came h (Ok ((true, t), us)) e in record { fuel = k.0; enough = omega (arith, k.1); gives = k.2 }

    -- the last turn
    pub ends : (h : Going turn s ts whole) (t : S) (us : Tokens) → turn s ts ≡ Ok ((false, t), us) → Ok (t, us) ≡ whole
    ends h t us e = (came h (Ok ((false, t), us)) e).2

    -- a fault in a turn
    pub stops : (h : Going turn s ts whole) (x : LoadFault) → turn s ts ≡ Err x → Err x ≡ whole
    stops h x e = (came h (Err x) e).2

    -- a turn of a loop as the code tells it, in a repetition that began with n tokens: whether another follows, and
    -- that a token is taken where one does
    pub turned : {n : ℕ} → Going turn s ts whole × (count ts ≤ n) → (more : Bool) {t : S} {us : Tokens} → Ok ((more, t), us) ≡ turn s ts → count us + cond more 1 0 ≤ count ts → more ≡ true → Going turn t us whole × (count us ≤ n)
    turned h true {t} {us} told on e = (goes_on h.0 t us (sym told) (omega arith), omega (arith, h.1))
    turned h false told on e = absurd (false≢true e)

    -- the last of them
    pub settled : {n : ℕ} → Going turn s ts whole × (count ts ≤ n) → (more : Bool) {t : S} {us : Tokens} → Ok ((more, t), us) ≡ turn s ts → count us + cond more 1 0 ≤ count ts → more ≡ false → (Ok (t, us) ≡ whole) × (count us ≤ n)
    settled h true told on e = absurd (true≢false e)
    settled h false {t} {us} told on e = (ends h.0 t us (sym told), omega (arith, h.1))

    -- a fault in one
    pub stopped : {n : ℕ} → Going turn s ts whole × (count ts ≤ n) → (x : LoadFault) → Err x ≡ turn s ts → Err x ≡ whole
    stopped h x told = stops h.0 x (sym told)
