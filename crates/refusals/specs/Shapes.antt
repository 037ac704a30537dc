-- Shapes that productions share: what must be there, optional parts, rows one after the other.
use Rattle.std.specs.Prelude.{Bool, true, false, cond, Some, None, Ok, Err, Option}
use Rattle.keywords.specs.declared.Keyword.{Keyword}
use Rattle.text_bytes.specs.declared.kinds.Mark.{Mark}
use Rattle.text_bytes.specs.declared.kinds.Mark.TheVariants as mk
use Rattle.tokens.specs.Terminals.{Tokens}
use Rattle.grammar.specs.declared.fault.GrammarFault.TheVariants.{NotAllowed}
use Rattle.grammar.specs.declared.symbols.Found.{Found}
use Rattle.grammar.specs.declared.symbols.Symbol.TheVariants as sy
use Rattle.grammar.specs.Readers.{Parsed, symbol_in}
use Rattle.grammar.specs.Symbols.{same_symbol}
use Rattle.refusals.specs.declared.fault.RuleFault.{RuleFault}
use Rattle.refusals.specs.declared.fault.LoadFault.TheVariants.{Rule}
use Rattle.refusals.specs.Steps.{Loaded, parse, then}

-- what is there, or the rule that it breaks where nothing is
abbrev pub have : {X Y : Type 0} → Option X → RuleFault → (X → Loaded Y) → Loaded Y
have (Some x) e next = next x
have None e next = Err (Rule e)

abbrev pub is_keyword : Keyword → Found → Bool
is_keyword k f = same_symbol f.symbol (sy.Keyword k)

abbrev pub is_mark : Mark → Found → Bool
is_mark m f = same_symbol f.symbol (sy.Mark m)

abbrev pub another : Mark → Parsed Found → Parsed Bool
another last (Ok f) = cond (is_mark mk.Comma f.0) (Ok (true, f.1)) (cond (is_mark last f.0) (Ok (false, f.1)) (Err (NotAllowed f.0.place)))
another last (Err e) = Err e

-- whether a comma stands here, so that another follows, or the last mark
abbrev pub another_in : Mark → Tokens → Parsed Bool
another_in last ts = another last (symbol_in ts)

-- [ k part ] and the symbol behind it; where the symbol read last is not the keyword k, there is no part
abbrev pub optional : {X : Type 0} → Keyword → X → (Tokens → Loaded X) → Found → Tokens → Loaded (X × Found)
optional k none part f ts =
    cond (is_keyword k f)
    (then (part ts) λ x ts.
    parse (symbol_in ts) λ f ts.
    Ok ((x, f), ts))
    (Ok ((none, f), ts))

-- a row and the symbol behind it, where the symbol read last begins a row
abbrev pub row_turn : {S : Type 0} → (Found → Bool) → (Found → S → Tokens → Loaded S) → S × Found → Tokens → Loaded (Bool × (S × Found))
row_turn begins row s ts =
    cond (begins s.1)
    (then (row s.1 s.0 ts) λ t ts.
    parse (symbol_in ts) λ f ts.
    Ok ((true, (t, f)), ts))
    (Ok ((false, s), ts))
