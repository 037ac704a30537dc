-- What the production of a clause makes of the tokens that are left.
use Rattle.std.specs.Prelude.{ℕ, Bool, false, cond, not, ◌&&◌, List, length, drop, Some, None, Ok, codes, Option, ◌==◌, nat_le}
use Rattle.std.specs.List.{slice_get}
use Rattle.std.specs.Str.{bytes_eq}
use Rattle.keywords.specs.declared.Keyword.TheVariants as kw
use Rattle.text_bytes.specs.declared.kinds.Mark.TheVariants as mk
use Rattle.tokens.specs.Terminals.{Tokens}
use Rattle.grammar.specs.declared.readers.ValueStart.{ValueStart}
use Rattle.grammar.specs.declared.readers.ValueStart.TheVariants.{Minus, Digits}
use Rattle.grammar.specs.declared.symbols.Found.{Found}
use Rattle.grammar.specs.declared.symbols.Symbol.TheVariants as sy
use Rattle.grammar.specs.Readers.{name_in, string_in, symbol_in, expect_in, value_start_in}
use Rattle.plan.specs.declared.rows.Bin.{Bin}
use Rattle.plan.specs.declared.rows.Clause.{Clause}
use Rattle.plan.specs.declared.rows.Next.{Next}
use Rattle.plan.specs.declared.rows.Next.TheVariants.{GoTo, Return}
use Rattle.plan.specs.declared.rows.Span.{Span}
use Rattle.plan.specs.declared.rows.Verdict.{Verdict}
use Rattle.plan.specs.declared.rows.Verdict.TheVariants.{Unmarked, Pass, Fail}
use Rattle.plan.specs.Drafts.{Draft, with_value, with_mention, with_clause}
use Rattle.plan.specs.Meaning.{code_of}
use Rattle.names.specs.Names.{found}
use Rattle.refusals.specs.declared.fault.RuleFault.TheVariants.{NotDeclared, WrongKind, OutOfRange, Repeated, TableFull}
use Rattle.refusals.specs.Steps.{Loaded, parse, then, refuse, allow, many}
use Rattle.values.specs.Values.{value_from, value_in}
use Rattle.productions.specs.Following.{list_turn}
use Rattle.refusals.specs.Shapes.{have, is_keyword, optional}
use Rattle.clauses.specs.Parts.{among}

-- values

abbrev pub values_full : Draft → Bool
values_full d = nat_le 2048 (length d.values)

-- a value that begins with a minus has its row's first token there
abbrev pub room_from : Draft → ValueStart → Tokens → Loaded ValueStart
room_from d (Minus p) ts = refuse (values_full d) (TableFull p) (Ok (Minus p, ts))
room_from d (Digits n) ts = Ok (Digits n, ts)

abbrev pub start_in : Draft → Tokens → Loaded ValueStart
start_in d ts = parse (value_start_in ts) λ start ts. room_from d start ts

-- value, listed once by the item whose values begin at the row `first`
abbrev pub listed_in : ℕ → Draft → Tokens → Loaded Draft
listed_in first d ts =
    then (start_in d ts) λ start ts.
    then (value_from start ts) λ v ts.
    refuse (among code_of v.value.code (drop first d.values)) (Repeated v.place)
    (refuse (values_full d) (TableFull v.place)
    (Ok (with_value v.value d, ts)))

-- value, and whether another follows
abbrev pub value_turn : ℕ → Draft → Tokens → Loaded (Bool × Draft)
value_turn first = list_turn mk.OpenBrace (listed_in first)

-- value (, value)* {
abbrev pub values_in : ℕ → Draft → Tokens → Loaded Draft
values_in first d ts = many (value_turn first) d ts

-- the verdict

abbrev pub verdict_of : List ℕ → Option Verdict
verdict_of bs = cond (bytes_eq bs (codes "Pass")) (Some Pass) (cond (bytes_eq bs (codes "Fail")) (Some Fail) None)

-- PassFail = string ;
abbrev pub property_in : Tokens → Loaded Verdict
property_in ts =
    parse (expect_in (sy.Keyword kw.PassFail) ts) λ _ ts.
    parse (expect_in (sy.Mark mk.Equals) ts) λ _ ts.
    parse (string_in ts) λ s ts.
    have (verdict_of s.0) (OutOfRange s.1) λ verdict.
    parse (expect_in (sy.Mark mk.Semicolon) ts) λ _ ts.
    Ok (verdict, ts)

-- [Property PassFail = string ;]
abbrev pub verdict_in : Found → Tokens → Loaded (Verdict × Found)
verdict_in f ts = optional kw.Property Unmarked property_in f ts

-- the counters

-- name of a counter, named once by the clause whose mentions begin at the row `from`
abbrev pub mention_in : List ℕ → ℕ → Draft → Tokens → Loaded Draft
mention_in text from d ts =
    parse (name_in ts) λ n ts.
    have (found (λ k. k.name) text d.counters n.0) (NotDeclared n.1) λ counter.
    refuse (among (λ k. k) counter (drop from d.mentions)) (Repeated n.1)
    (refuse (nat_le 2048 (length d.mentions)) (TableFull n.1)
    (Ok (with_mention counter d, ts)))

-- name, and whether another follows
abbrev pub mention_turn : List ℕ → ℕ → Draft → Tokens → Loaded (Bool × Draft)
mention_turn text from = list_turn mk.Semicolon (mention_in text from)

-- name (, name)* ;
abbrev pub mentions_in : List ℕ → ℕ → Draft → Tokens → Loaded Draft
mentions_in text from d ts = many (mention_turn text from) d ts

-- [IncrementCounters name (, name)* ;]
abbrev pub counters_in : List ℕ → Draft → Found → Tokens → Loaded (Draft × Found)
counters_in text d f ts = optional kw.IncrementCounters d (mentions_in text (length d.mentions) d) f ts

-- the leaf bin

abbrev pub leaf_of : ℕ → Option Bin → Bool
leaf_of group (Some b) = b.leaf && b.group == group
leaf_of group None = false

-- name . name ;
abbrev pub leaf_in : List ℕ → Draft → Tokens → Loaded (Option ℕ)
leaf_in text d ts =
    parse (name_in ts) λ g ts.
    have (found (λ r. r.name) text d.groups g.0) (NotDeclared g.1) λ group.
    parse (expect_in (sy.Mark mk.FullStop) ts) λ _ ts.
    parse (name_in ts) λ b ts.
    have (found (λ r. r.name) text d.bins b.0) (NotDeclared b.1) λ bin.
    refuse (not (leaf_of group (slice_get d.bins bin))) (WrongKind b.1)
    (parse (expect_in (sy.Mark mk.Semicolon) ts) λ _ ts.
    Ok (Some bin, ts))

-- [SetBin name . name ;]
abbrev pub set_bin_in : List ℕ → Draft → Found → Tokens → Loaded (Option ℕ × Found)
set_bin_in text d f ts = optional kw.SetBin None (leaf_in text d) f ts

-- where it leads

-- name ;
abbrev pub go_to_in : Tokens → Loaded Next
go_to_in ts =
    parse (name_in ts) λ n ts.
    parse (expect_in (sy.Mark mk.Semicolon) ts) λ _ ts.
    Ok (GoTo n.1, ts)

-- value ;
abbrev pub return_in : Tokens → Loaded Next
return_in ts =
    then (value_in ts) λ v ts.
    parse (expect_in (sy.Mark mk.Semicolon) ts) λ _ ts.
    Ok (Return v.value, ts)

-- GoTo name ; | Return value ;
abbrev pub next_in : Found → Tokens → Loaded Next
next_in f ts = cond (is_keyword kw.GoTo f) (go_to_in ts) (allow (is_keyword kw.Return f) f.place (return_in ts))

-- the clause

-- [SetBin ..] (GoTo .. | Return ..) }
abbrev pub end_in : List ℕ → Draft → Found → Tokens → Loaded (Option ℕ × Next)
end_in text d f ts =
    then (set_bin_in text d f ts) λ b ts.
    then (next_in b.1 ts) λ next ts.
    parse (expect_in (sy.Mark mk.CloseBrace) ts) λ _ ts.
    Ok ((b.0, next), ts)

abbrev pub span : ℕ → ℕ → Span
span from to = record { from = from; to = to }

-- [Property ..] [IncrementCounters ..] [SetBin ..] (GoTo .. | Return ..) }, and the row of the clause that lists these values
abbrev pub body_in : List ℕ → Span → Draft → Tokens → Loaded (Draft × Clause)
body_in text values d ts =
    parse (symbol_in ts) λ f ts.
    then (verdict_in f ts) λ v ts.
    then (counters_in text d v.1 ts) λ k ts.
    then (end_in text k.0 k.1 ts) λ e ts.
    Ok ((k.0, record { values = values; verdict = v.0; counters = span (length d.mentions) (length k.0.mentions); leaf = e.0; next = e.1 }), ts)

-- value (, value)* { [Property ..] [IncrementCounters ..] [SetBin ..] (GoTo .. | Return ..) } behind the keyword Result at p,
-- for the item whose values begin at the row `first`
unfoldable pub clause_in : List ℕ → ℕ → ℕ → Draft → Tokens → Loaded Draft
clause_in text p first d ts =
    refuse (nat_le 1024 (length d.clauses)) (TableFull p)
    (then (values_in first d ts) λ listed ts.
    then (body_in text (span (length d.values) (length listed.values)) listed ts) λ b ts.
    Ok (with_clause b.1 b.0, ts))
