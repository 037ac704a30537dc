-- The grammar: the tokens that write a tree, line by line.
use Rattle.std.specs.Prelude.{cond, List, [], ◌∷◌, ◌++◌, Some, None, Option}
use Rattle.std.specs.List.{flat_map}
use Rattle.text_bytes.specs.declared.kinds.Mark.TheVariants.{OpenBrace, CloseBrace, Semicolon, Colon, Comma, Equals, FullStop, Minus}
use Rattle.keywords.specs.declared.Keyword.TheVariants as kw
use Rattle.tokens.specs.Terminals.{Terminal, name, keyword, number, decimal, string, mark}
use Rattle.language.specs.Trees.{Word, Several, each, ValueTree, BinTree, GroupTree, BinsTree, SettingTree, to_name, to_string, to_value, SetterTree, TestTree, LeafTree, NextTree, go_to, return, ClauseTree, ItemTree, FlowTree, PlanTree}

-- [x]
abbrev pub option_tokens : {X : Type 0} → (X → List Terminal) → Option X → List Terminal
option_tokens one (Some x) = one x
option_tokens one None = []

-- x+
abbrev pub row_tokens : {X : Type 0} → (X → List Terminal) → Several X → List Terminal
row_tokens one xs = flat_map one (each xs)

-- x (, x)*
abbrev pub list_tokens : {X : Type 0} → (X → List Terminal) → Several X → List Terminal
list_tokens one xs = one xs.first ++ flat_map (λ x. mark Comma ∷ one x) xs.others

abbrev pub name_tokens : Word → List Terminal
name_tokens n = name n ∷ []

-- value = [-] number
abbrev pub value_tokens : ValueTree → List Terminal
value_tokens v = cond v.negative (mark Minus ∷ number v.number ∷ []) (number v.number ∷ [])

-- , name
abbrev pub parent_tokens : Word → List Terminal
parent_tokens parent = mark Comma ∷ name parent ∷ []

-- bin = (Bin | LeafBin) name number : string [, name] ;
abbrev pub bin_tokens : BinTree → List Terminal
bin_tokens b =
    keyword (cond b.leaf kw.LeafBin kw.Bin) ∷ name b.name ∷ number b.number ∷ mark Colon ∷ string b.label
    ∷ (option_tokens parent_tokens b.parent ++ mark Semicolon ∷ [])

-- group = BinGroup name { bin+ }
abbrev pub group_tokens : GroupTree → List Terminal
group_tokens g =
    keyword kw.BinGroup ∷ name g.name ∷ mark OpenBrace
    ∷ (row_tokens bin_tokens g.bins ++ mark CloseBrace ∷ [])

-- bins = BinDefs { group+ SortBinGroup = name ; }
abbrev pub bins_tokens : BinsTree → List Terminal
bins_tokens d =
    keyword kw.BinDefs ∷ mark OpenBrace
    ∷ (row_tokens group_tokens d.groups
    ++ keyword kw.SortBinGroup ∷ mark Equals ∷ name d.sort_group ∷ mark Semicolon ∷ mark CloseBrace ∷ [])

-- counters = Counters { name (, name)* }
abbrev pub counters_tokens : Several Word → List Terminal
counters_tokens names = keyword kw.Counters ∷ mark OpenBrace ∷ (list_tokens name_tokens names ++ mark CloseBrace ∷ [])

-- name | string | value
abbrev pub setting_tokens : SettingTree → List Terminal
setting_tokens (to_name n) = name n ∷ []
setting_tokens (to_string bytes) = string bytes ∷ []
setting_tokens (to_value v) = value_tokens v

-- setter = name = (name | string | value) ;
abbrev pub setter_tokens : SetterTree → List Terminal
setter_tokens s = name s.name ∷ mark Equals ∷ (setting_tokens s.setting ++ mark Semicolon ∷ [])

-- test = Test name name { setter+ }
abbrev pub test_tokens : TestTree → List Terminal
test_tokens x =
    keyword kw.Test ∷ name x.class ∷ name x.name ∷ mark OpenBrace
    ∷ (row_tokens setter_tokens x.setters ++ mark CloseBrace ∷ [])

-- Property PassFail = string ;
abbrev pub pass_fail_tokens : Word → List Terminal
pass_fail_tokens s = keyword kw.Property ∷ keyword kw.PassFail ∷ mark Equals ∷ string s ∷ mark Semicolon ∷ []

-- IncrementCounters name (, name)* ;
abbrev pub increment_tokens : Several Word → List Terminal
increment_tokens names = keyword kw.IncrementCounters ∷ (list_tokens name_tokens names ++ mark Semicolon ∷ [])

-- SetBin name . name ;
abbrev pub set_bin_tokens : LeafTree → List Terminal
set_bin_tokens b = keyword kw.SetBin ∷ name b.group ∷ mark FullStop ∷ name b.bin ∷ mark Semicolon ∷ []

-- GoTo name ; | Return value ;
abbrev pub next_tokens : NextTree → List Terminal
next_tokens (go_to n) = keyword kw.GoTo ∷ name n ∷ mark Semicolon ∷ []
next_tokens (return v) = keyword kw.Return ∷ (value_tokens v ++ mark Semicolon ∷ [])

-- clause = Result value (, value)* { [Property PassFail = string ;] [IncrementCounters name (, name)* ;]
--   [SetBin name . name ;] (GoTo name ; | Return value ;) }
abbrev pub clause_tokens : ClauseTree → List Terminal
clause_tokens c =
    keyword kw.Result
    ∷ (list_tokens value_tokens c.values
    ++ mark OpenBrace
    ∷ (option_tokens pass_fail_tokens c.pass_fail
    ++ (option_tokens increment_tokens c.counters
    ++ (option_tokens set_bin_tokens c.leaf
    ++ (next_tokens c.next ++ mark CloseBrace ∷ [])))))

-- item = FlowItem name name { clause+ }
abbrev pub item_tokens : ItemTree → List Terminal
item_tokens it =
    keyword kw.FlowItem ∷ name it.name ∷ name it.runs ∷ mark OpenBrace
    ∷ (row_tokens clause_tokens it.clauses ++ mark CloseBrace ∷ [])

-- flow = Flow name { item+ }
abbrev pub flow_tokens : FlowTree → List Terminal
flow_tokens f =
    keyword kw.Flow ∷ name f.name ∷ mark OpenBrace
    ∷ (row_tokens item_tokens f.items ++ mark CloseBrace ∷ [])

-- file = Version decimal ; TestPlan name ; bins [counters] test* flow+ FlowDefs { MainFlow = name ; }
abbrev pub file_tokens : PlanTree → List Terminal
file_tokens f =
    keyword kw.Version ∷ decimal f.version ∷ mark Semicolon ∷ keyword kw.TestPlan ∷ name f.title ∷ mark Semicolon
    ∷ (bins_tokens f.bins
    ++ (option_tokens counters_tokens f.counters
    ++ (flat_map test_tokens f.tests
    ++ (row_tokens flow_tokens f.flows
    ++ keyword kw.FlowDefs ∷ mark OpenBrace ∷ keyword kw.MainFlow ∷ mark Equals ∷ name f.main_flow ∷ mark Semicolon
    ∷ mark CloseBrace ∷ []))))
