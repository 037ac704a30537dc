-- What the productions of an item and of a flow make of the tokens that are left.
use Rattle.std.specs.Prelude.{ℕ, ◌+◌, Bool, true, not, List, length, drop, is_some, Some, None, Ok, Err, Option, Result, nat_le}
use Rattle.std.specs.List.{slice_get}
use Rattle.keywords.specs.declared.Keyword.TheVariants as kw
use Rattle.text_bytes.specs.declared.kinds.Mark.TheVariants as mk
use Rattle.tokens.specs.Terminals.{Tokens}
use Rattle.grammar.specs.declared.symbols.Found.{Found}
use Rattle.grammar.specs.declared.symbols.Symbol.TheVariants as sy
use Rattle.grammar.specs.Readers.{Spot, name_in, symbol_in, expect_in}
use Rattle.plan.specs.declared.rows.Clause.{Clause}
use Rattle.plan.specs.declared.rows.Name.{Name}
use Rattle.plan.specs.declared.rows.Runs.{Runs}
use Rattle.plan.specs.declared.rows.Runs.TheVariants.{Test as RunsTest, Flow as RunsFlow}
use Rattle.plan.specs.declared.rows.Span.{Span}
use Rattle.plan.specs.Drafts.{Draft, with_item, with_flow, with_clauses}
use Rattle.names.specs.Names.{found}
use Rattle.refusals.specs.declared.fault.LoadFault.{LoadFault}
use Rattle.refusals.specs.declared.fault.LoadFault.TheVariants.{Rule}
use Rattle.refusals.specs.declared.fault.RuleFault.TheVariants.{DeclaredBefore, NotDeclared, TableFull, ReturnNotListed, TooDeep}
use Rattle.refusals.specs.Steps.{Loaded, parse, then, refuse, allow, ended, many}
use Rattle.refusals.specs.Shapes.{is_keyword, is_mark, row_turn}
use Rattle.productions.specs.Naming.{name_at, runnable_in}
use Rattle.clauses.specs.Clauses.{clause_in}
use Rattle.flows.specs.Checks.{item_name, items_listed, flow_items, depth_in, deepest, resolved_from}

abbrev pub name_of : Spot → Name
name_of n = name_at n

abbrev pub span : ℕ → ℕ → Span
span from to = record { from = from; to = to }

-- the clauses of an item

abbrev pub clause_turn : List ℕ → ℕ → Draft × Found → Tokens → Loaded (Bool × (Draft × Found))
clause_turn text first = row_turn (is_keyword kw.Result) λ f. clause_in text f.place first

-- { clause+ }
abbrev pub clauses_in : List ℕ → Draft → Tokens → Loaded Draft
clauses_in text d ts =
    parse (expect_in (sy.Mark mk.OpenBrace) ts) λ _ ts.
    parse (symbol_in ts) λ f ts.
    allow (is_keyword kw.Result f) f.place
    (then (many (clause_turn text (length d.values)) (d, f) ts) λ s ts.
    allow (is_mark mk.CloseBrace s.1) s.1.place
    (Ok (s.0, ts)))

-- what an item runs

-- one deeper than a flow of depth 7 is still allowed
abbrev pub flow_run : Draft → ℕ → Option ℕ → Tokens → Loaded Runs
flow_run d p None ts = Err (Rule (NotDeclared p))
flow_run d p (Some f) ts = refuse (nat_le 8 (depth_in (slice_get d.flows f))) (TooDeep p) (Ok (RunsFlow f, ts))

abbrev pub test_run : List ℕ → Draft → Spot → Option ℕ → Tokens → Loaded Runs
test_run text d n (Some t) ts = Ok (RunsTest t, ts)
test_run text d n None ts = flow_run d n.1 (found (λ f. f.name) text d.flows n.0) ts

-- name of a test, or of a flow whose closing brace came before
abbrev pub runs_in : List ℕ → Draft → Tokens → Loaded Runs
runs_in text d ts =
    parse (name_in ts) λ n ts.
    test_run text d n (found (λ t. t.name) text d.tests n.0) ts

-- every value that the flow returns which is run is among the values listed from the row `first` on
abbrev pub run_listed : Draft → ℕ → Runs → Bool
run_listed d first (RunsTest t) = true
run_listed d first (RunsFlow f) = items_listed (drop first d.values) d.clauses (flow_items d.items (slice_get d.flows f))

-- name name { clause+ }   behind a keyword at this place, in the flow whose items begin at the row `first`
abbrev pub item_in : List ℕ → ℕ → ℕ → Draft → Tokens → Loaded Draft
item_in text first place d ts =
    refuse (nat_le 512 (length d.items)) (TableFull place)
    (parse (name_in ts) λ n ts.
    refuse (is_some (found item_name text (drop first d.items) n.0)) (DeclaredBefore n.1)
    (then (runs_in text d ts) λ runs ts.
    then (clauses_in text d ts) λ e ts.
    refuse (not (run_listed e (length d.values) runs)) (ReturnNotListed n.1)
    (Ok (with_item (record { name = name_of n; runs = runs; clauses = span (length d.clauses) (length e.clauses) }) e, ts))))

-- the items of a flow

abbrev pub item_turn : List ℕ → ℕ → Draft × Found → Tokens → Loaded (Bool × (Draft × Found))
item_turn text first = row_turn (is_keyword kw.FlowItem) λ f. item_in text first f.place

-- { item+ }
abbrev pub items_in : List ℕ → Draft → Tokens → Loaded Draft
items_in text d ts =
    parse (expect_in (sy.Mark mk.OpenBrace) ts) λ _ ts.
    parse (symbol_in ts) λ f ts.
    allow (is_keyword kw.FlowItem f) f.place
    (then (many (item_turn text (length d.items)) (d, f) ts) λ s ts.
    allow (is_mark mk.CloseBrace s.1) s.1.place
    (Ok (s.0, ts)))

-- a test or a flow has this name
abbrev pub runnable : List ℕ → Draft → List ℕ → Bool
runnable text d word = runnable_in text d.tests d.flows word

abbrev pub with_targets : Name → ℕ → Draft → Result (List Clause) LoadFault → Result Draft LoadFault
with_targets n first d (Ok cs) = Ok (with_flow (record { name = n; items = span first (length d.items); depth = 1 + deepest d.flows (drop first d.items) }) (with_clauses cs d))
with_targets n first d (Err e) = Err e

-- the flow is closed: its items are those from the row `first` on, and its clauses, from the row `from` on, lead to them
abbrev pub closed : List ℕ → Name → ℕ → ℕ → Draft → Result Draft LoadFault
closed text n first from d = with_targets n first d (resolved_from text first (drop first d.items) from d.clauses)

-- name { item+ }   behind a keyword at this place
unfoldable pub flow_in : List ℕ → ℕ → Draft → Tokens → Loaded Draft
flow_in text place d ts =
    refuse (nat_le 64 (length d.flows)) (TableFull place)
    (parse (name_in ts) λ n ts.
    refuse (runnable text d n.0) (DeclaredBefore n.1)
    (then (items_in text d ts) λ e ts.
    ended (λ x. x) (closed text (name_of n) (length d.items) (length d.clauses) e) ts))
