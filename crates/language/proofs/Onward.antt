-- A production that is accepted, step by step: each token, each part and each test, and what follows it.
use Rattle.std.proofs.Common.{◌≡◌, ℕ, Bool, true, false, [], ◌∷◌, Some, Ok, Option, refl, ap, ◌∙◌}
use Rattle.std.proofs.lemmas.Bool.{cond-true, cond-false, eq-eqb}
use Rattle.text_bytes.specs.Bytes.{same_mark}
use Rattle.keywords.specs.Keywords.{same_keyword}
use Rattle.tokens.specs.Terminals.{Tokens}
use Rattle.grammar.specs.declared.symbols.Symbol.{Symbol}
use Rattle.grammar.specs.declared.symbols.Symbol.TheVariants.{Keyword, Mark}
use Rattle.grammar.specs.Readers.{Parsed, expect_in}
use Rattle.refusals.specs.declared.fault.RuleFault.{RuleFault}
use Rattle.refusals.specs.Shapes.{have}
use Rattle.refusals.specs.Steps.{Loaded, parse, then, refuse, allow}
use Rattle.language.specs.Obeying.{Starts, here, next}
use Rattle.language.proofs.Taking.{terminal}

-- a symbol that is expected, and is there
pub expect_one : (s : Symbol) (ts us : Tokens) → Starts us ts (terminal s ∷ []) → expect_in s ts ≡ Ok (tt, us)
expect_one (Keyword k) ts us (next here) = cond-true (same_keyword k k) _ _ (eq-eqb _ _ refl)
expect_one (Mark m) ts us (next here) = cond-true (same_mark m m) _ _ (eq-eqb _ _ refl)

module _ {X Z : Type 0} {v : X} {us : Tokens} {z : Z × Tokens} where
  -- a token is read, and what follows it is accepted
  pub parse_on : (x : Parsed X) (rest : X → Tokens → Loaded Z) → x ≡ Ok (v, us) → rest v us ≡ Ok z → parse x rest ≡ Ok z
  parse_on x rest e h = ap (λ y. parse y rest) e ∙ h

  -- a part is accepted, and what follows it
  pub then_on : (x : Loaded X) (rest : X → Tokens → Loaded Z) → x ≡ Ok (v, us) → rest v us ≡ Ok z → then x rest ≡ Ok z
  then_on x rest e h = ap (λ y. then y rest) e ∙ h

module _ {Z : Type 0} {z : Z × Tokens} where
  -- a rule is kept
  pub refuse_on : (broken : Bool) (e : RuleFault) (rest : Loaded Z) → broken ≡ false → rest ≡ Ok z → refuse broken e rest ≡ Ok z
  refuse_on broken e rest b h = cond-false broken _ _ b ∙ h

  -- a token is allowed
  pub allow_on : (ok : Bool) (p : ℕ) (rest : Loaded Z) → ok ≡ true → rest ≡ Ok z → allow ok p rest ≡ Ok z
  allow_on ok p rest b h = cond-true ok _ _ b ∙ h

  -- something is there
  pub have_on : {X : Type 0} {x : X} (o : Option X) (e : RuleFault) (rest : X → Loaded Z) → o ≡ Some x → rest x ≡ Ok z → have o e rest ≡ Ok z
  have_on o e rest b h = ap (λ y. have y e rest) b ∙ h
