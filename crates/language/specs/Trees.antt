-- Plan texts as trees: a record or a choice for each line of the grammar.
use Rattle.std.specs.Prelude.{ℕ, Bool, List, ◌∷◌, Option}

-- the bytes of a name, of a decimal, or between the quotes of a string
abbrev pub Word : Type 0
Word = List ℕ

-- one or more
pub record Several (X : Type 0) : Type 0 where
  pub first : X
  pub others : List X

abbrev pub each : {X : Type 0} → Several X → List X
each xs = xs.first ∷ xs.others

pub record ValueTree : Type 0 where
  pub negative : Bool
  pub number : ℕ

pub record BinTree : Type 0 where
  pub leaf : Bool
  pub name : Word
  pub number : ℕ
  pub label : Word
  pub parent : Option Word

pub record GroupTree : Type 0 where
  pub name : Word
  pub bins : Several BinTree

pub record BinsTree : Type 0 where
  pub groups : Several GroupTree
  pub sort_group : Word

pub data SettingTree : Type 0 where
  to_name : Word → SettingTree
  to_string : Word → SettingTree
  to_value : ValueTree → SettingTree

pub record SetterTree : Type 0 where
  pub name : Word
  pub setting : SettingTree

pub record TestTree : Type 0 where
  pub class : Word
  pub name : Word
  pub setters : Several SetterTree

-- a leaf bin by the name of its group and its own
pub record LeafTree : Type 0 where
  pub group : Word
  pub bin : Word

pub data NextTree : Type 0 where
  go_to : Word → NextTree
  return : ValueTree → NextTree

pub record ClauseTree : Type 0 where
  pub values : Several ValueTree
  pub pass_fail : Option Word
  pub counters : Option (Several Word)
  pub leaf : Option LeafTree
  pub next : NextTree

pub record ItemTree : Type 0 where
  pub name : Word
  pub runs : Word
  pub clauses : Several ClauseTree

pub record FlowTree : Type 0 where
  pub name : Word
  pub items : Several ItemTree

pub record PlanTree : Type 0 where
  pub version : Word
  pub title : Word
  pub bins : BinsTree
  pub counters : Option (Several Word)
  pub tests : List TestTree
  pub flows : Several FlowTree
  pub main_flow : Word
