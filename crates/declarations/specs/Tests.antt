-- What is read of a test, as a row of a draft, or the first rule that is broken.
use Rattle.std.specs.Prelude.{ℕ, Bool, List, length, Some, None, Ok, Option, nat_le}
use Rattle.text_bytes.specs.declared.kinds.Mark.TheVariants as mk
use Rattle.tokens.specs.Terminals.{Tokens}
use Rattle.grammar.specs.declared.readers.ValueStart.{ValueStart}
use Rattle.grammar.specs.declared.symbols.Symbol.TheVariants.{Mark}
use Rattle.grammar.specs.Readers.{name_in, expect_in, name_or_close_in}
use Rattle.grammar.specs.Readers.{setting_in as setting_begun}
use Rattle.plan.specs.declared.rows.Name.{Name}
use Rattle.plan.specs.Drafts.{Draft, with_test}
use Rattle.refusals.specs.declared.fault.RuleFault.TheVariants.{DeclaredBefore, TableFull}
use Rattle.productions.specs.Naming.{name_at, runnable_in}
use Rattle.refusals.specs.Steps.{Loaded, parse, then, refuse, many}
use Rattle.values.specs.Values.{value_from}

-- name name   the class, which may be any name, and the test's own
abbrev pub test_name_in : List ℕ → Draft → Tokens → Loaded Name
test_name_in text d ts =
    parse (name_in ts) λ _ ts.
    parse (name_in ts) λ n ts.
    refuse (runnable_in text d.tests d.flows n.0) (DeclaredBefore n.1)
    (Ok (name_at n, ts))

-- a name or a string, which is whole, or a value, which has begun
abbrev pub setting_on : Option ValueStart → Tokens → Loaded (Unit {0})
setting_on None ts = Ok (tt, ts)
setting_on (Some start) ts = then (value_from start ts) λ _ ts. Ok (tt, ts)

-- name | string | value
abbrev pub setting_in : Tokens → Loaded (Unit {0})
setting_in ts = parse (setting_begun ts) λ s ts. setting_on s ts

-- = (name | string | value) ;   behind the setter's name, and whether the name of another follows
abbrev pub setter_turn : Unit {0} → Tokens → Loaded (Bool × Unit {0})
setter_turn _ ts =
    parse (expect_in (Mark mk.Equals) ts) λ _ ts.
    then (setting_in ts) λ _ ts.
    parse (expect_in (Mark mk.Semicolon) ts) λ _ ts.
    parse (name_or_close_in ts) λ more ts.
    Ok ((more, tt), ts)

-- { setter+ }
abbrev pub setters_in : Tokens → Loaded (Unit {0})
setters_in ts =
    parse (expect_in (Mark mk.OpenBrace) ts) λ _ ts.
    parse (name_in ts) λ _ ts.
    many setter_turn tt ts

-- name name { setter+ }   behind a keyword at this place
unfoldable pub test_in : List ℕ → ℕ → Draft → Tokens → Loaded Draft
test_in text place d ts =
    refuse (nat_le 128 (length d.tests)) (TableFull place)
    (then (test_name_in text d ts) λ name ts.
    then (setters_in ts) λ _ ts.
    Ok (with_test (record { name = name }) d, ts))
