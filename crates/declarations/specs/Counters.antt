-- What is read of the counters, as rows of a draft, or the first rule that is broken.
use Rattle.std.specs.Prelude.{ℕ, Bool, List, length, is_some, Ok, nat_le}
use Rattle.text_bytes.specs.declared.kinds.Mark.TheVariants as mk
use Rattle.tokens.specs.Terminals.{Tokens}
use Rattle.grammar.specs.declared.symbols.Symbol.TheVariants.{Mark}
use Rattle.grammar.specs.Readers.{name_in, expect_in}
use Rattle.plan.specs.Drafts.{Draft, with_counter}
use Rattle.names.specs.Names.{found}
use Rattle.refusals.specs.declared.fault.RuleFault.TheVariants.{DeclaredBefore, TableFull}
use Rattle.refusals.specs.Steps.{Loaded, parse, refuse, many}
use Rattle.productions.specs.Naming.{name_at}
use Rattle.productions.specs.Following.{list_turn}

-- a counter's name
abbrev pub counter_in : List ℕ → Draft → Tokens → Loaded Draft
counter_in text d ts =
    parse (name_in ts) λ n ts.
    refuse (is_some (found (λ k. k.name) text d.counters n.0)) (DeclaredBefore n.1)
    (refuse (nat_le 32 (length d.counters)) (TableFull n.1)
    (Ok (with_counter (record { name = name_at n }) d, ts)))

-- a counter's name, and whether another follows
abbrev pub counter_turn : List ℕ → Draft → Tokens → Loaded (Bool × Draft)
counter_turn text = list_turn mk.CloseBrace (counter_in text)

-- { name (, name)* }   behind the keyword
unfoldable pub counters_in : List ℕ → Draft → Tokens → Loaded Draft
counters_in text d ts =
    parse (expect_in (Mark mk.OpenBrace) ts) λ _ ts.
    many (counter_turn text) d ts
