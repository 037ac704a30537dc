-- The plan that a tree stands for: rows are numbered in the order of the text, and a name stands for the number of the
-- row that was declared with it.
use Rattle.std.specs.Prelude.{ℕ, suc, ◌+◌, ◌-◌, Bool, true, false, cond, List, [], ◌∷◌, ◌++◌, map, length, Some, None, codes, Option}
use Rattle.std.specs.Option.{option_map}
use Rattle.std.specs.List.{flat_map}
use Rattle.std.specs.Str.{bytes_eq}
use Rattle.plan.specs.declared.rows.Name.{Name}
use Rattle.plan.specs.declared.rows.Next.{Next}
use Rattle.plan.specs.declared.rows.Next.TheVariants.{GoTo, Return}
use Rattle.plan.specs.declared.rows.Runs.{Runs}
use Rattle.plan.specs.declared.rows.Runs.TheVariants.{Test as RunsTest, Flow as RunsFlow}
use Rattle.plan.specs.declared.rows.Verdict.{Verdict}
use Rattle.plan.specs.declared.rows.Verdict.TheVariants.{Unmarked, Pass, Fail}
use Rattle.plan.specs.Drafts.{Draft}
use Rattle.plan.specs.Meaning.{Meaning, PlanBin, PlanClause, PlanItem, PlanFlow, meaning}
use Rattle.plan.specs.Rules.{spelt}
use Rattle.names.specs.Names.{same_name}
use Rattle.language.specs.Trees.{Word, Several, each, ValueTree, BinTree, GroupTree, BinsTree, NextTree, go_to, return, ClauseTree, ItemTree, FlowTree, PlanTree}

-- the number of the first name that is the word; where none is, how many names there are
abbrev pub position : Word → List Word → ℕ
position word [] = 0
position word (n ∷ names) = cond (same_name n word) 0 (suc (position word names))

abbrev pub declared : Word → List Word → Bool
declared word [] = false
declared word (n ∷ names) = cond (same_name n word) true (declared word names)

-- what is declared

abbrev pub listed : {X : Type 0} → Option (Several X) → List X
listed None = []
listed (Some xs) = each xs

abbrev pub group_names : BinsTree → List Word
group_names d = map (λ g. g.name) (each d.groups)

-- the bins of the groups from number g on, each with the number of its group
abbrev pub bins_from : ℕ → List GroupTree → List (ℕ × BinTree)
bins_from g [] = []
bins_from g (x ∷ xs) = map (λ b. (g, b)) (each x.bins) ++ bins_from (suc g) xs

abbrev pub bins_of : BinsTree → List (ℕ × BinTree)
bins_of d = bins_from 0 (each d.groups)

abbrev pub bin_names : BinsTree → List Word
bin_names d = map (λ b. b.1.name) (bins_of d)

abbrev pub test_names : PlanTree → List Word
test_names f = map (λ t. t.name) f.tests

abbrev pub flow_names : PlanTree → List Word
flow_names f = map (λ x. x.name) (each f.flows)

abbrev pub item_names : FlowTree → List Word
item_names f = map (λ it. it.name) (each f.items)

-- what it means

abbrev pub bin_meant : List Word → ℕ × BinTree → PlanBin
bin_meant bins b = record {
  group = b.0;
  leaf = b.1.leaf;
  number = b.1.number;
  parent = option_map (λ parent. position parent bins) b.1.parent;
}

-- a value's code, 32768 more than the value
abbrev pub code : ValueTree → ℕ
code v = cond v.negative (32768 - v.number) (32768 + v.number)

abbrev pub verdict_meant : Option Word → Verdict
verdict_meant None = Unmarked
verdict_meant (Some s) = cond (bytes_eq s (codes "Pass")) Pass Fail

-- the names that items may mention
pub record Scope : Type 0 where
  pub bins : List Word
  pub counters : List Word
  pub tests : List Word
  pub flows : List Word

-- GoTo leads to an item of the same flow, whose items are numbered from `first` on
abbrev pub next_meant : ℕ → List Word → NextTree → Next
next_meant first items (go_to n) = GoTo (first + position n items)
next_meant first items (return v) = Return (record { code = code v })

abbrev pub clause_meant : Scope → ℕ → List Word → ClauseTree → PlanClause
clause_meant s first items c = record {
  values = map code (each c.values);
  verdict = verdict_meant c.pass_fail;
  counters = map (λ n. position n s.counters) (listed c.counters);
  leaf = option_map (λ b. position b.bin s.bins) c.leaf;
  next = next_meant first items c.next;
}

-- tests and flows share their names
abbrev pub runs_meant : Scope → Word → Runs
runs_meant s n = cond (declared n s.tests) (RunsTest (position n s.tests)) (RunsFlow (position n s.flows))

abbrev pub item_meant : Scope → ℕ → List Word → ItemTree → PlanItem
item_meant s first items it = record { runs = runs_meant s it.runs; clauses = map (clause_meant s first items) (each it.clauses) }

abbrev pub items_meant : Scope → ℕ → List FlowTree → List PlanItem
items_meant s first [] = []
items_meant s first (f ∷ fs) = map (item_meant s first (item_names f)) (each f.items) ++ items_meant s (first + length (each f.items)) fs

abbrev pub flows_meant : ℕ → List FlowTree → List PlanFlow
flows_meant first [] = []
flows_meant first (f ∷ fs) = record { first = first; count = length (each f.items) } ∷ flows_meant (first + length (each f.items)) fs

abbrev pub scope : PlanTree → Scope
scope f = record { bins = bin_names f.bins; counters = listed f.counters; tests = test_names f; flows = flow_names f }

abbrev pub meant : PlanTree → Meaning
meant f = record {
  bins = map (bin_meant (bin_names f.bins)) (bins_of f.bins);
  sort_group = Some (position f.bins.sort_group (group_names f.bins));
  counters = length (listed f.counters);
  tests = length f.tests;
  flows = flows_meant 0 (each f.flows);
  items = items_meant (scope f) 0 (each f.flows);
  main_flow = Some (position f.main_flow (flow_names f));
}

-- a plan as it is known outside: its name, the names in its tables, and what it means
pub record Known : Type 0 where
  pub title : Word
  pub groups : List Word
  pub bins : List Word
  pub counters : List Word
  pub tests : List Word
  pub flows : List Word
  pub items : List Word
  pub means : Meaning

-- what a tree stands for
abbrev pub stands_for : PlanTree → Known
stands_for f = record {
  title = f.title;
  groups = group_names f.bins;
  bins = bin_names f.bins;
  counters = listed f.counters;
  tests = test_names f;
  flows = flow_names f;
  items = flat_map item_names (each f.flows);
  means = meant f;
}

-- the words that rows are named by
abbrev pub names_in : {R : Type 0} → List ℕ → (R → Name) → List R → List Word
names_in text named rows = map (λ row. spelt text (named row)) rows

-- what tables hold, with the text that their names are parts of
abbrev pub known : List ℕ → Name → Draft → Known
known text title d = record {
  title = spelt text title;
  groups = names_in text (λ r. r.name) d.groups;
  bins = names_in text (λ r. r.name) d.bins;
  counters = names_in text (λ r. r.name) d.counters;
  tests = names_in text (λ r. r.name) d.tests;
  flows = names_in text (λ r. r.name) d.flows;
  items = names_in text (λ r. r.name) d.items;
  means = meaning d;
}
