-- What an accepted production has passed: each token, each production, each rule.
use Rattle.std.proofs.Common.{◌≡◌, ℕ, zero, suc, Bool, true, false, cond, Ok, Err, Result, sym, refl, ap, ◌∙◌, subst, arith}
use Rattle.std.proofs.lemmas.Bool.{cond-true}
use Rattle.tokens.specs.Terminals.{Tokens, count}
use Rattle.grammar.specs.Readers.{Parsed, symbol_in}
use Rattle.grammar.specs.declared.symbols.Found.{Found}
use Rattle.refusals.specs.declared.fault.LoadFault.{LoadFault}
use Rattle.refusals.specs.declared.fault.RuleFault.{RuleFault}
use Rattle.refusals.specs.Shapes.{row_turn}
use Rattle.refusals.specs.Steps.{Loaded, parse, then, refuse, allow, turns, many}

-- an answer that is a fault is no acceptance
pub no_fault : {X A : Type 0} {e : LoadFault} {x : X} → ◌≡◌ {A = Result X LoadFault} (Err e) (Ok x) → A
no_fault h = let z : ◌≡◌ {A = ℕ} 0 1 = cc in absurd (omega arith)

-- what was accepted is what is told
pub accepted : {X : Type 0} {x y : X} {us vs : Tokens} → ◌≡◌ {A = Loaded X} (Ok (x, us)) (Ok (y, vs)) → (x ≡ y) × (us ≡ vs)
accepted {X} {x} {y} {us} {vs} h = let e : ◌≡◌ {A = X × Tokens} (x, us) (y, vs) = cc in (ap (λ v. v.0) e, ap (λ v. v.1) e)

pub record Passed {X E Z : Type 0} (x : Result (X × Tokens) E) (next : X → Tokens → Loaded Z) (z : Z × Tokens) : Type 0 where
  pub v : X
  pub us : Tokens
  pub is : x ≡ Ok (v, us)
  pub goes : next v us ≡ Ok z

module _ {X Z : Type 0} {next : X → Tokens → Loaded Z} {z : Z × Tokens} where
  -- a token was read, and what follows it was accepted
  pub parse_passed : (x : Parsed X) → parse x next ≡ Ok z → Passed x next z
  parse_passed (Ok v) h = record { v = v.0; us = v.1; is = refl; goes = h }
  parse_passed (Err e) h = no_fault h

  -- a production was accepted, and so was what follows it
  pub then_passed : (x : Loaded X) → then x next ≡ Ok z → Passed x next z
  then_passed (Ok v) h = record { v = v.0; us = v.1; is = refl; goes = h }
  then_passed (Err e) h = no_fault h

-- a rule was kept
pub refuse_passed : {Z : Type 0} (broken : Bool) (e : RuleFault) (next : Loaded Z) {z : Z × Tokens} → refuse broken e next ≡ Ok z → (broken ≡ false) × (next ≡ Ok z)
refuse_passed true e next h = no_fault h
refuse_passed false e next h = (refl, h)

-- a token was allowed
pub allow_passed : {Z : Type 0} (ok : Bool) (p : ℕ) (next : Loaded Z) {z : Z × Tokens} → allow ok p next ≡ Ok z → (ok ≡ true) × (next ≡ Ok z)
allow_passed true p next h = (refl, h)
allow_passed false p next h = no_fault h

-- what each turn keeps, of the state and the tokens left, the repetition keeps
module _ {S : Type 0} (turn : S → Tokens → Loaded (Bool × S)) (P : S → Tokens → Type 0) (keeps : (s : S) (ts : Tokens) (b : Bool) (t : S) (us : Tokens) → turn s ts ≡ Ok ((b, t), us) → P s ts → P t us) where
  pub turns_keep : (n : ℕ) (s : S) (ts : Tokens) (t : S) (us : Tokens) → turns turn n s ts ≡ Ok (t, us) → P s ts → P t us
  unfolding turns
  turns_keep zero s ts t us h p = let e : ◌≡◌ {A = S × Tokens} (s, ts) (t, us) = cc in subst (λ x. P x.0 x.1) e p
  turns_keep (suc n) s ts t us h p =
      let a = then_passed (turn s ts) h in
      on a.v.0 a.v.1 a.us a.is a.goes (turns_keep n a.v.1 a.us t us)
    where
      on : (b : Bool) (x : S) (vs : Tokens) → turn s ts ≡ Ok ((b, x), vs) → cond b (turns turn n x vs) (Ok (x, vs)) ≡ Ok (t, us) → (turns turn n x vs ≡ Ok (t, us) → P x vs → P t us) → P t us
      on true x vs e g rec = rec g (keeps s ts true x vs e p)
      on false x vs e g rec = let q : ◌≡◌ {A = S × Tokens} (x, vs) (t, us) = cc in subst (λ y. P y.0 y.1) q (keeps s ts false x vs e p)

-- what each turn keeps, the repetition keeps
pub many_keeps : {S : Type 0} (turn : S → Tokens → Loaded (Bool × S)) (P : S → Type 0) → ((s : S) (ts : Tokens) (b : Bool) (t : S) (us : Tokens) → turn s ts ≡ Ok ((b, t), us) → P s → P t) → (s : S) (ts : Tokens) (t : S) (us : Tokens) → many turn s ts ≡ Ok (t, us) → P s → P t
many_keeps turn P keeps s ts t us h p = turns_keep turn (λ s _. P s) keeps (suc (count ts)) s ts t us h p

-- rows one after the other: what each row keeps, and what the symbol behind it keeps
module _ {S : Type 0} (begins : Found → Bool) (row : Found → S → Tokens → Loaded S) (P : S → Tokens → Type 0) (on : (s : S) (ts : Tokens) (f : Found) (us : Tokens) → symbol_in ts ≡ Ok (f, us) → P s ts → P s us) where
  -- a row was read, and the symbol behind it
  row_read : (s : S × Found) (ts : Tokens) (more : Bool) (t : S × Found) (us : Tokens) → ((x : S) (vs : Tokens) → row s.1 s.0 ts ≡ Ok (x, vs) → P x vs) → (then {Y = Bool × (S × Found)} (row s.1 s.0 ts) λ x ts. parse (symbol_in ts) λ f ts. Ok ((true, (x, f)), ts)) ≡ Ok ((more, t), us) → P t.0 us × (more ≡ true)
  row_read s ts more t us made h =
      let one = then_passed (row s.1 s.0 ts) h in
      let next = parse_passed (symbol_in one.us) one.goes in
      let e = accepted next.goes in
      let p = on one.v one.us next.v next.us next.is (made one.v one.us one.is) in
      (subst (λ x. P x.1.0 us) e.0 (subst (P one.v) e.1 p), sym (ap (λ x. x.0) e.0))

  -- so of a turn that begins a row
  pub turn_makes : (s : S × Found) (ts : Tokens) (more : Bool) (t : S × Found) (us : Tokens) → ((x : S) (vs : Tokens) → row s.1 s.0 ts ≡ Ok (x, vs) → P x vs) → begins s.1 ≡ true → row_turn begins row s ts ≡ Ok ((more, t), us) → P t.0 us × (more ≡ true)
  turn_makes s ts more t us made b h = row_read s ts more t us made (sym (cond-true (begins s.1) _ _ b) ∙ h)

  module _ (keeps : (f : Found) (s : S) (ts : Tokens) (t : S) (us : Tokens) → row f s ts ≡ Ok (t, us) → P s ts → P t us) where
    -- a turn keeps what each row keeps
    pub turn_keeps : (s : S × Found) (ts : Tokens) (more : Bool) (t : S × Found) (us : Tokens) → row_turn begins row s ts ≡ Ok ((more, t), us) → P s.0 ts → P t.0 us
    turn_keeps s ts more t us h p = by (begins s.1) h
      where
        by : (b : Bool) → cond b (then {Y = Bool × (S × Found)} (row s.1 s.0 ts) λ x ts. parse (symbol_in ts) λ f ts. Ok ((true, (x, f)), ts)) (Ok ((false, s), ts)) ≡ Ok ((more, t), us) → P t.0 us
        by true h = (row_read s ts more t us (λ x vs e. keeps s.1 s.0 ts x vs e p) h).0
        by false h = let e = accepted h in subst (λ x. P x.1.0 us) e.0 (subst (P s.0) e.1 p)

    -- one row at least: what the first makes so, the others keep
    pub rows_keep : (s : S) (f : Found) (ts : Tokens) (t : S × Found) (us : Tokens) → ((x : S) (vs : Tokens) → row f s ts ≡ Ok (x, vs) → P x vs) → begins f ≡ true → many (row_turn begins row) (s, f) ts ≡ Ok (t, us) → P t.0 us
    unfolding turns
    rows_keep s f ts t us made b h =
        let one = then_passed (row_turn begins row (s, f) ts) h in
        let first = turn_makes (s, f) ts one.v.0 one.v.1 one.us made b one.is in
        let others = sym (cond-true one.v.0 _ _ first.1) ∙ one.goes in
        turns_keep (row_turn begins row) (λ x vs. P x.0 vs) turn_keeps (count ts) one.v.1 one.us t us others first.0
