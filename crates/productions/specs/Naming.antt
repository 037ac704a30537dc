-- Names that are declared, and names that were declared before.
use Rattle.std.specs.Prelude.{ℕ, Bool, cond, ◌||◌, List, length, is_some, Some, None, Ok, Err, Option, Result}
use Rattle.std.specs.Option.{ok_or}
use Rattle.grammar.specs.Readers.{Spot}
use Rattle.plan.specs.declared.rows.Flow.{Flow}
use Rattle.plan.specs.declared.rows.Name.{Name}
use Rattle.plan.specs.declared.rows.Test.{Test}
use Rattle.plan.specs.Drafts.{Draft}
use Rattle.names.specs.Names.{found}
use Rattle.refusals.specs.declared.fault.RuleFault.{RuleFault}
use Rattle.refusals.specs.declared.fault.RuleFault.TheVariants.{DeclaredBefore, NotDeclared}

-- the name that bytes with their place are
abbrev pub name_at : Spot → Name
name_at w = record { place = w.1; len = length w.0 }

-- a name that no row has yet
abbrev pub fresh_in : {R : Type 0} → (R → Name) → List ℕ → List R → Spot → Result Name RuleFault
fresh_in named text rows w = cond (is_some (found named text rows w.0)) (Err (DeclaredBefore w.1)) (Ok (name_at w))

-- the number of the row that has the name
abbrev pub declared_in : {R : Type 0} → (R → Name) → List ℕ → List R → Spot → Result ℕ RuleFault
declared_in named text rows w = ok_or (found named text rows w.0) (NotDeclared w.1)

-- a test or a flow has this name; they share one set of names
abbrev pub runnable_in : List ℕ → List Test → List Flow → List ℕ → Bool
runnable_in text tests flows name = is_some (found (λ t. t.name) text tests name) || is_some (found (λ f. f.name) text flows name)

-- a name that no test and no flow has yet
abbrev pub fresh_runnable_in : List ℕ → Draft → Spot → Result Name RuleFault
fresh_runnable_in text d w = cond (runnable_in text d.tests d.flows w.0) (Err (DeclaredBefore w.1)) (Ok (name_at w))
