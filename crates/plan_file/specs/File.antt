-- What the whole of a plan text comes to: its sections in order, and nothing behind them.
use Rattle.std.specs.Prelude.{ℕ, ◌≤◌, Bool, cond, not, List, length, is_some, Some, None, Ok, Err, codes, Option, Result}
use Rattle.std.specs.Str.{bytes_eq}
use Rattle.keywords.specs.declared.Keyword.TheVariants as kw
use Rattle.text_bytes.specs.declared.kinds.Mark.TheVariants as mk
use Rattle.tokens.specs.Terminals.{Tokens}
use Rattle.grammar.specs.declared.fault.GrammarFault.{GrammarFault}
use Rattle.grammar.specs.declared.symbols.Found.{Found}
use Rattle.grammar.specs.declared.symbols.Symbol.TheVariants as sy
use Rattle.grammar.specs.Readers.{Spot, name_in, decimal_in, symbol_in, expect_in, finish_in}
use Rattle.plan.specs.declared.rows.Name.{Name}
use Rattle.plan.specs.Drafts.{Draft, with_main_flow}
use Rattle.plan.specs.Meaning.{meaning}
use Rattle.plan.specs.Rules.{Lawful, NamesOnce, DepthsTold}
use Rattle.names.specs.Names.{found}
use Rattle.refusals.specs.declared.fault.LoadFault.{LoadFault}
use Rattle.refusals.specs.declared.fault.LoadFault.TheVariants.{Grammar, Rule}
use Rattle.refusals.specs.declared.fault.RuleFault.TheVariants.{NotDeclared, WrongKind, OutOfRange}
use Rattle.refusals.specs.Told.{told}
use Rattle.refusals.specs.Steps.{Loaded, parse, then, refuse, allow, many}
use Rattle.refusals.specs.Shapes.{is_keyword, optional, row_turn}
use Rattle.bins.specs.Bins.{bins_in}
use Rattle.declarations.specs.Counters.{counters_in}
use Rattle.declarations.specs.Tests.{test_in}
use Rattle.flows.specs.Flows.{flow_in}

abbrev pub name_of : Spot → Name
name_of n = record { place = n.1; len = length n.0 }

-- Version decimal ; TestPlan name ;
abbrev pub header_in : Tokens → Loaded Name
header_in ts =
    parse (expect_in (sy.Keyword kw.Version) ts) λ _ ts.
    parse (decimal_in ts) λ v ts.
    refuse (not (bytes_eq v.0 (codes "1.0"))) (OutOfRange v.1)
    (parse (expect_in (sy.Mark mk.Semicolon) ts) λ _ ts.
    parse (expect_in (sy.Keyword kw.TestPlan) ts) λ _ ts.
    parse (name_in ts) λ n ts.
    parse (expect_in (sy.Mark mk.Semicolon) ts) λ _ ts.
    Ok (name_of n, ts))

abbrev pub test_turn : List ℕ → Draft × Found → Tokens → Loaded (Bool × (Draft × Found))
test_turn text = row_turn (is_keyword kw.Test) λ f. test_in text f.place

abbrev pub flow_turn : List ℕ → Draft × Found → Tokens → Loaded (Bool × (Draft × Found))
flow_turn text = row_turn (is_keyword kw.Flow) λ f. flow_in text f.place

-- the flow of this name; a test of this name is of the wrong kind
abbrev pub main_named : Option ℕ → Bool → ℕ → Tokens → Loaded ℕ
main_named (Some f) test p ts = Ok (f, ts)
main_named None test p ts = cond test (Err (Rule (WrongKind p))) (Err (Rule (NotDeclared p)))

abbrev pub main_name_in : List ℕ → Draft → Tokens → Loaded ℕ
main_name_in text d ts =
    parse (name_in ts) λ n ts.
    main_named (found (λ f. f.name) text d.flows n.0) (is_some (found (λ t. t.name) text d.tests n.0)) n.1 ts

-- { MainFlow = name ; }
abbrev pub main_in : List ℕ → Draft → Tokens → Loaded Draft
main_in text d ts =
    parse (expect_in (sy.Mark mk.OpenBrace) ts) λ _ ts.
    parse (expect_in (sy.Keyword kw.MainFlow) ts) λ _ ts.
    parse (expect_in (sy.Mark mk.Equals) ts) λ _ ts.
    then (main_name_in text d ts) λ f ts.
    parse (expect_in (sy.Mark mk.Semicolon) ts) λ _ ts.
    parse (expect_in (sy.Mark mk.CloseBrace) ts) λ _ ts.
    Ok (with_main_flow f d, ts)

-- flow+ FlowDefs { MainFlow = name ; }   from the symbol that was read last
abbrev pub flows_in : List ℕ → Draft × Found → Tokens → Loaded Draft
flows_in text s ts =
    allow (is_keyword kw.Flow s.1) s.1.place
    (then (many (flow_turn text) s ts) λ s ts.
    allow (is_keyword kw.FlowDefs s.1) s.1.place
    (main_in text s.0 ts))

-- [counters] test* flow+ FlowDefs { MainFlow = name ; }
abbrev pub sections_in : List ℕ → Draft → Tokens → Loaded Draft
sections_in text d ts =
    parse (symbol_in ts) λ f ts.
    then (optional kw.Counters d (counters_in text d) f ts) λ s ts.
    then (many (test_turn text) s ts) λ s ts.
    flows_in text s ts

abbrev pub finished : {X : Type 0} → X → Result (Unit {0}) GrammarFault → Result X LoadFault
finished x (Ok u) = Ok x
finished x (Err e) = Err (Grammar e)

abbrev pub closed : Loaded (Name × Draft) → Result (Name × Draft) LoadFault
closed (Ok v) = finished v.0 (finish_in v.1)
closed (Err e) = Err e

-- Version decimal ; TestPlan name ; bins [counters] test* flow+ FlowDefs { MainFlow = name ; }, and the end of the text:
-- the plan's name and its tables
unfoldable pub file_in : List ℕ → Draft → Tokens → Result (Name × Draft) LoadFault
file_in text d ts =
    closed
    (then (header_in ts) λ n ts.
    then (bins_in text d ts) λ d ts.
    then (sections_in text d ts) λ d ts.
    Ok ((n, d), ts))

-- the answer of the code, with the tables that it leaves
abbrev pub filed : Result Name LoadFault → Draft → Result (Name × Draft) LoadFault
filed (Ok n) d = Ok (n, d)
filed (Err e) d = Err e

-- where the text is accepted, the tables keep every rule of a plan, have no name twice and tell the depths of their flows
abbrev pub Kept : List ℕ → Result Name LoadFault → Draft → Type 0
Kept text (Ok n) d = ∥ Lawful (meaning d) × NamesOnce text d × DepthsTold d ∥₁
Kept text (Err e) d = Unit {0}

-- where a text of n bytes is refused, the place told lies within it or is its end
abbrev pub PlaceWithin : {X : Type 0} → ℕ → Result X LoadFault → Type 0
PlaceWithin n (Ok x) = Unit {0}
PlaceWithin n (Err e) = (told e).place ≤ n
