-- Behind a comma or the last mark of a list the names among the tokens are still what the text has at their places.
use Rattle.std.proofs.Common.{◌≡◌, ℕ, Bool, true, false, cond, List, Ok, Err, Result, refl, ap, subst, arith}
use Rattle.text_bytes.specs.declared.kinds.Mark.{Mark}
use Rattle.text_bytes.specs.declared.kinds.Mark.TheVariants as mk
use Rattle.tokens.specs.Terminals.{Tokens}
use Rattle.grammar.specs.declared.fault.GrammarFault.TheVariants.{NotAllowed}
use Rattle.grammar.specs.declared.symbols.Found.{Found}
use Rattle.grammar.specs.Readers.{Parsed, symbol_in}
use Rattle.refusals.specs.Shapes.{is_mark, another, another_in}
use Rattle.refusals.specs.Steps.{Loaded}
use Rattle.refusals.proofs.Passing.{accepted, parse_passed, then_passed}
use Rattle.refusals.proofs.Spelled.{NamesAt, want_leaves}
use Rattle.productions.specs.Following.{list_turn}

module _ (text : List ℕ) where
  -- the names stand in the text before and behind what was read
  abbrev pub Leaves : {X E : Type 0} → (Tokens → Result (X × Tokens) E) → Type 0
  Leaves {X} reads = (ts : Tokens) (v : X) (us : Tokens) → reads ts ≡ Ok (v, us) → NamesAt text ts → NamesAt text us

  pub another_leaves : (last : Mark) → Leaves (another_in last)
  another_leaves last ts v us h n = by (symbol_in ts) refl h
    where
      behind : (f : Found) (vs : Tokens) (a b : Bool) → NamesAt text vs → cond {A = Parsed Bool} a (Ok (true, vs)) (cond b (Ok (false, vs)) (Err (NotAllowed f.place))) ≡ Ok (v, us) → NamesAt text us
      behind f vs true b m h = let e : ◌≡◌ {A = Bool × Tokens} (true, vs) (v, us) = cc in subst (NamesAt text) (ap (λ x. x.1) e) m
      behind f vs false true m h = let e : ◌≡◌ {A = Bool × Tokens} (false, vs) (v, us) = cc in subst (NamesAt text) (ap (λ x. x.1) e) m
      behind f vs false false m h = let z : ◌≡◌ {A = ℕ} 0 1 = cc in absurd (omega arith)

      by : (x : Parsed Found) → symbol_in ts ≡ x → another last x ≡ Ok (v, us) → NamesAt text us
      by (Ok f) e h = behind f.0 f.1 (is_mark mk.Comma f.0) (is_mark last f.0) (want_leaves text _ _ ts f.0 f.1 e n) h
      by (Err f) e h = let z : ◌≡◌ {A = ℕ} 0 1 = cc in absurd (omega arith)

  -- what an entry of a list keeps, a turn keeps
  pub turn_leaves : {S : Type 0} (last : Mark) (entry : S → Tokens → Loaded S) (s : S) → Leaves (entry s) → Leaves (list_turn last entry s)
  turn_leaves last entry s leaves ts v us h n =
      let one = then_passed (entry s ts) h in
      let next = parse_passed (another_in last one.us) one.goes in
      subst (NamesAt text) (accepted next.goes).1 (another_leaves last one.us next.v next.us next.is (leaves ts one.v one.us one.is n))

-- an entry of a list was read, and what makes another follow or not
pub record Entered {S : Type 0} (entry : Tokens → Loaded S) (last : Mark) (ts : Tokens) (more : Bool) (t : S) (us : Tokens) : Type 0 where
  pub behind : Tokens
  pub read : entry ts ≡ Ok (t, behind)
  pub next : another_in last behind ≡ Ok (more, us)

pub entered : {S : Type 0} (last : Mark) (entry : S → Tokens → Loaded S) (s : S) (ts : Tokens) (more : Bool) (t : S) (us : Tokens) → list_turn last entry s ts ≡ Ok ((more, t), us) → Entered (entry s) last ts more t us
entered {S} last entry s ts more t us h =
    let one = then_passed (entry s ts) h in
    let next = parse_passed (another_in last one.us) one.goes in
    let e = accepted next.goes in
    record {
      behind = one.us;
      read = subst (λ (x : Bool × S). entry s ts ≡ Ok (x.1, one.us)) e.0 one.is;
      next = subst (λ (x : Bool × S). another_in last one.us ≡ Ok (x.0, us)) e.0 (subst (λ vs. another_in last one.us ≡ Ok (next.v, vs)) e.1 next.is);
    }
