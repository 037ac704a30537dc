-- The tables that a clause leaves alone.
use Rattle.std.proofs.Common.{◌≡◌, ℕ, Some, None, Ok, Option, refl, ◌∙◌}
use Rattle.tokens.specs.Terminals.{Tokens}
use Rattle.plan.specs.declared.rows.Clause.{Clause}
use Rattle.plan.specs.declared.rows.Value.{Value}
use Rattle.plan.specs.Drafts.{Draft, with_value, with_mention, with_clause}
use Rattle.refusals.specs.declared.fault.RuleFault.{RuleFault}
use Rattle.refusals.specs.Steps.{Loaded}
use Rattle.refusals.specs.Shapes.{have}
use Rattle.refusals.proofs.Passing.{no_fault}

-- the tables but those of values, mentions and clauses are the same
pub record Beside (d e : Draft) : Type 0 where
  pub groups : e.groups ≡ d.groups
  pub bins : e.bins ≡ d.bins
  pub counters : e.counters ≡ d.counters
  pub tests : e.tests ≡ d.tests
  pub flows : e.flows ≡ d.flows
  pub items : e.items ≡ d.items
  pub sort_group : e.sort_group ≡ d.sort_group
  pub main_flow : e.main_flow ≡ d.main_flow

pub beside : (d : Draft) → Beside d d
beside d = record { groups = refl; bins = refl; counters = refl; tests = refl; flows = refl; items = refl; sort_group = refl; main_flow = refl }

pub beside_value : (v : Value) (d : Draft) → Beside d (with_value v d)
beside_value v d = record { groups = refl; bins = refl; counters = refl; tests = refl; flows = refl; items = refl; sort_group = refl; main_flow = refl }

pub beside_mention : (k : ℕ) (d : Draft) → Beside d (with_mention k d)
beside_mention k d = record { groups = refl; bins = refl; counters = refl; tests = refl; flows = refl; items = refl; sort_group = refl; main_flow = refl }

pub beside_clause : (row : Clause) (d : Draft) → Beside d (with_clause row d)
beside_clause row d = record { groups = refl; bins = refl; counters = refl; tests = refl; flows = refl; items = refl; sort_group = refl; main_flow = refl }

pub beside_then : {c d e : Draft} → Beside c d → Beside d e → Beside c e
beside_then a b = record { groups = b.groups ∙ a.groups; bins = b.bins ∙ a.bins; counters = b.counters ∙ a.counters; tests = b.tests ∙ a.tests; flows = b.flows ∙ a.flows; items = b.items ∙ a.items; sort_group = b.sort_group ∙ a.sort_group; main_flow = b.main_flow ∙ a.main_flow }

-- something is there
pub have_passed : {X Z : Type 0} (o : Option X) (e : RuleFault) (next : X → Loaded Z) {z : Z × Tokens} → have o e next ≡ Ok z → (x : X) × (o ≡ Some x) × (next x ≡ Ok z)
have_passed (Some x) e next h = (x, refl, h)
have_passed None e next h = no_fault h
