-- What is checked of a whole item and a whole flow: returned values, depth, and the targets of GoTo.
use Rattle.std.specs.Prelude.{ℕ, ◌+◌, max, Bool, true, List, [], ◌∷◌, ◌++◌, map, take, drop, Some, None, Ok, Err, Option, Result}
use Rattle.std.specs.List.{list_all, prefix_len, slice_get}
use Rattle.text_bytes.specs.declared.kinds.ByteKind.TheVariants.{OfName}
use Rattle.text_bytes.specs.Bytes.{of_kind}
use Rattle.plan.specs.declared.rows.Clause.{Clause}
use Rattle.plan.specs.declared.rows.Flow.{Flow}
use Rattle.plan.specs.declared.rows.Item.{Item}
use Rattle.plan.specs.declared.rows.Name.{Name}
use Rattle.plan.specs.declared.rows.Next.{Next}
use Rattle.plan.specs.declared.rows.Next.TheVariants.{GoTo, Return}
use Rattle.plan.specs.declared.rows.Runs.{Runs}
use Rattle.plan.specs.declared.rows.Runs.TheVariants.{Test as RunsTest, Flow as RunsFlow}
use Rattle.plan.specs.declared.rows.Value.{Value}
use Rattle.plan.specs.Meaning.{rows_of, code_of, lists}
use Rattle.names.specs.Names.{found}
use Rattle.refusals.specs.declared.fault.LoadFault.{LoadFault}
use Rattle.refusals.specs.declared.fault.LoadFault.TheVariants.{Rule}
use Rattle.refusals.specs.declared.fault.RuleFault.TheVariants.{NotDeclared}

-- the test holds of every row
abbrev pub every : {X : Type 0} → (X → Bool) → List X → Bool
every p xs = list_all p xs

-- the value is listed, where a clause returns one
abbrev pub return_listed : List Value → Next → Bool
return_listed values (GoTo i) = true
return_listed values (Return v) = lists v.code (map code_of values)

-- every value that a clause of these returns is listed
abbrev pub clauses_listed : List Value → List Clause → Bool
clauses_listed values clauses = every (λ c. return_listed values c.next) clauses

-- every value that a clause of these items returns is listed
abbrev pub items_listed : List Value → List Clause → List Item → Bool
items_listed values clauses items = every (λ it. clauses_listed values (rows_of it.clauses clauses)) items

-- the items of a flow
abbrev pub flow_items : List Item → Option Flow → List Item
flow_items items None = []
flow_items items (Some f) = rows_of f.items items

-- how deep the flow is that is run; a test counts for nothing
abbrev pub depth_in : Option Flow → ℕ
depth_in None = 0
depth_in (Some f) = f.depth

abbrev pub depth_of : List Flow → Runs → ℕ
depth_of flows (RunsTest t) = 0
depth_of flows (RunsFlow f) = depth_in (slice_get flows f)

-- the depth of the deepest flow that an item of these runs
abbrev pub deepest : List Flow → List Item → ℕ
deepest flows [] = 0
deepest flows (it ∷ its) = max (depth_of flows it.runs) (deepest flows its)

-- the word that begins at a place of the text
abbrev pub word_at : List ℕ → ℕ → List ℕ
word_at text p = take (prefix_len (of_kind OfName) (drop p text)) (drop p text)

abbrev pub item_name : Item → Name
item_name it = it.name

-- the item that is named at a place, among the items from the first one on
abbrev pub target : ℕ → Option ℕ → ℕ → Result Next LoadFault
target first (Some k) p = Ok (GoTo (first + k))
target first None p = Err (Rule (NotDeclared p))

-- while a flow is read, a GoTo holds the place of its target's name
abbrev pub next_resolved : List ℕ → ℕ → List Item → Next → Result Next LoadFault
next_resolved text first items (GoTo p) = target first (found item_name text items (word_at text p)) p
next_resolved text first items (Return v) = Ok (Return v)

abbrev pub leading_to : Clause → Result Next LoadFault → Result Clause LoadFault
leading_to c (Ok n) = Ok (record c { next = n })
leading_to c (Err e) = Err e

abbrev pub clause_resolved : List ℕ → ℕ → List Item → Clause → Result Clause LoadFault
clause_resolved text first items c = leading_to c (next_resolved text first items c.next)

abbrev pub onto : Clause → Result (List Clause) LoadFault → Result (List Clause) LoadFault
onto c (Ok cs) = Ok (c ∷ cs)
onto c (Err e) = Err e

abbrev pub and_then : Result Clause LoadFault → Result (List Clause) LoadFault → Result (List Clause) LoadFault
and_then (Ok c) later = onto c later
and_then (Err e) later = Err e

-- the clauses with their targets, or the first target that is no item
abbrev pub clauses_resolved : List ℕ → ℕ → List Item → List Clause → Result (List Clause) LoadFault
clauses_resolved text first items [] = Ok []
clauses_resolved text first items (c ∷ cs) = and_then (clause_resolved text first items c) (clauses_resolved text first items cs)

abbrev pub behind : List Clause → Result (List Clause) LoadFault → Result (List Clause) LoadFault
behind done (Ok cs) = Ok (done ++ cs)
behind done (Err e) = Err e

-- the same for the clauses from a row on; those before it stay
abbrev pub resolved_from : List ℕ → ℕ → List Item → ℕ → List Clause → Result (List Clause) LoadFault
resolved_from text first items from clauses = behind (take from clauses) (clauses_resolved text first items (drop from clauses))

-- the answer of a call that works on something in its place, and what that has become
abbrev pub become : {X : Type 0} → Result (Unit {0}) LoadFault → X → Result X LoadFault
become (Ok u) x = Ok x
become (Err e) x = Err e
