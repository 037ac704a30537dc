-- Lists and rows, as repetitions.
use Rattle.std.specs.Prelude.{ℕ, Bool, List, Ok}
use Rattle.text_bytes.specs.declared.kinds.Mark.{Mark}
use Rattle.text_bytes.specs.declared.kinds.Mark.TheVariants.{OpenBrace, CloseBrace}
use Rattle.tokens.specs.Terminals.{Tokens}
use Rattle.grammar.specs.declared.symbols.Found.{Found}
use Rattle.grammar.specs.declared.symbols.Symbol.TheVariants as sy
use Rattle.grammar.specs.Readers.{symbol_in, expect_in}
use Rattle.plan.specs.Drafts.{Draft}
use Rattle.refusals.specs.Shapes.{is_mark, another_in, row_turn}
use Rattle.refusals.specs.Steps.{Loaded, parse, then, allow, many}

-- an entry, and whether another follows
abbrev pub list_turn : {S : Type 0} → Mark → (S → Tokens → Loaded S) → S → Tokens → Loaded (Bool × S)
list_turn last entry s ts =
    then (entry s ts) λ t ts.
    parse (another_in last ts) λ more ts.
    Ok ((more, t), ts)

-- entry (, entry)* last
abbrev pub list_in : Mark → (List ℕ → Draft → Tokens → Loaded Draft) → List ℕ → Draft → Tokens → Loaded Draft
list_in last entry text d ts = many (list_turn last (entry text)) d ts

-- rows as long as one begins, and the symbol behind them
abbrev pub rows_in : (Found → Bool) → (Found → List ℕ → Draft → Tokens → Loaded Draft) → Found → List ℕ → Draft → Tokens → Loaded (Draft × Found)
rows_in begins row first text d ts = many (row_turn begins (λ next. row next text)) (d, first) ts

-- one row at least
abbrev pub some_rows_in : (Found → Bool) → (Found → List ℕ → Draft → Tokens → Loaded Draft) → Found → List ℕ → Draft → Tokens → Loaded (Draft × Found)
some_rows_in begins row first text d ts = allow (begins first) first.place (rows_in begins row first text d ts)

-- { row row .. }
abbrev pub braced_in : (Found → Bool) → (Found → List ℕ → Draft → Tokens → Loaded Draft) → List ℕ → Draft → Tokens → Loaded Draft
braced_in begins row text d ts =
    parse (expect_in (sy.Mark OpenBrace) ts) λ _ ts.
    parse (symbol_in ts) λ first ts.
    allow (begins first) first.place
    (then (rows_in begins row first text d ts) λ s ts.
    allow (is_mark CloseBrace s.1) s.1.place
    (Ok (s.0, ts)))
