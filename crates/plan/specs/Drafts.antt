-- The tables of a plan as lists of rows, and its two numbers.
use Rattle.std.specs.Prelude.{ℕ, List, [], ◌∷◌, ◌++◌}
use Rattle.plan.specs.declared.rows.Group.{Group}
use Rattle.plan.specs.declared.rows.Bin.{Bin}
use Rattle.plan.specs.declared.rows.Counter.{Counter}
use Rattle.plan.specs.declared.rows.Test.{Test}
use Rattle.plan.specs.declared.rows.Flow.{Flow}
use Rattle.plan.specs.declared.rows.Item.{Item}
use Rattle.plan.specs.declared.rows.Clause.{Clause}
use Rattle.plan.specs.declared.rows.Value.{Value}
use Rattle.plan.specs.declared.tables.Tables.{Tables}

pub record Draft : Type 0 where
  pub groups : List Group
  pub bins : List Bin
  pub counters : List Counter
  pub tests : List Test
  pub flows : List Flow
  pub items : List Item
  pub clauses : List Clause
  pub values : List Value
  pub mentions : List ℕ
  pub sort_group : ℕ
  pub main_flow : ℕ

abbrev pub drafted : Tables → Draft
drafted t = record {
  groups = t.groups;
  bins = t.bins;
  counters = t.counters;
  tests = t.tests;
  flows = t.flows;
  items = t.items;
  clauses = t.clauses;
  values = t.values;
  mentions = t.mentions;
  sort_group = t.sort_group;
  main_flow = t.main_flow;
}

abbrev pub blank : Draft
blank = record { groups = []; bins = []; counters = []; tests = []; flows = []; items = []; clauses = []; values = []; mentions = []; sort_group = 0; main_flow = 0 }

-- a row more in a table, and the other tables as they were
abbrev pub with_group : Group → Draft → Draft
with_group row d = record d { groups = d.groups ++ row ∷ [] }

abbrev pub with_bin : Bin → Draft → Draft
with_bin row d = record d { bins = d.bins ++ row ∷ [] }

abbrev pub with_counter : Counter → Draft → Draft
with_counter row d = record d { counters = d.counters ++ row ∷ [] }

abbrev pub with_test : Test → Draft → Draft
with_test row d = record d { tests = d.tests ++ row ∷ [] }

abbrev pub with_flow : Flow → Draft → Draft
with_flow row d = record d { flows = d.flows ++ row ∷ [] }

abbrev pub with_item : Item → Draft → Draft
with_item row d = record d { items = d.items ++ row ∷ [] }

abbrev pub with_clause : Clause → Draft → Draft
with_clause row d = record d { clauses = d.clauses ++ row ∷ [] }

abbrev pub with_value : Value → Draft → Draft
with_value row d = record d { values = d.values ++ row ∷ [] }

abbrev pub with_mention : ℕ → Draft → Draft
with_mention row d = record d { mentions = d.mentions ++ row ∷ [] }

-- the clauses replaced
abbrev pub with_clauses : List Clause → Draft → Draft
with_clauses rows d = record d { clauses = rows }

abbrev pub with_sort_group : ℕ → Draft → Draft
with_sort_group n d = record d { sort_group = n }

abbrev pub with_main_flow : ℕ → Draft → Draft
with_main_flow n d = record d { main_flow = n }
