-- When a text obeys the language: it is written as a tree is, and the tree keeps every rule.
use Rattle.std.specs.Prelude.{◌≡◌, ℕ, ◌≤◌, true, cond, ◌||◌, List, [], ◌∷◌, ◌++◌, map, length, Some, None, codes, Option}
use Rattle.std.specs.List.{flat_map, slice_get}
use Rattle.std.specs.Str.{bytes_eq}
use Rattle.tokens.specs.Terminals.{Terminal, Tokens}
use Rattle.tokens.specs.Terminals as t
use Rattle.tokens.specs.Spelling.{Reads}
use Rattle.plan.specs.Rules.{Among, Once, Lawful}
use Rattle.names.specs.Names.{same_name}
use Rattle.language.specs.Trees.{Word, each, ValueTree, BinTree, BinsTree, SettingTree, to_name, to_string, to_value, LeafTree, NextTree, go_to, return, ClauseTree, PlanTree}
use Rattle.language.specs.Grammar.{file_tokens}
use Rattle.language.specs.Standing.{declared, listed, group_names, bins_of, bin_names, test_names, flow_names, item_names, meant, Known, stands_for}

-- the tokens ts begin with these terminals, and us are behind them
pub data Starts (us : Tokens) : Tokens → List Terminal → Type 0 where
  here : Starts us us []
  next : {x : Terminal} {p : ℕ} {ts : Tokens} {ws : List Terminal} → Starts us ts ws → Starts us (t.token x p ts) (x ∷ ws)

-- the text is written with these terminals, up to its end, and with nothing else but gaps between them
pub record Spells (text : List ℕ) (ws : List Terminal) : Type 0 where
  pub tokens : Tokens
  pub reads : Reads text 0 tokens
  pub end : ℕ
  pub all : Starts (t.end end) tokens ws

-- of each in the list
abbrev pub Every : {X : Type 0} → (X → Type 0) → List X → Type 0
Every P [] = Unit {0}
Every P (x ∷ xs) = P x × Every P xs

-- the parts that rules speak of

abbrev pub clauses_of : PlanTree → List ClauseTree
clauses_of f = flat_map (λ it. each it.clauses) (flat_map (λ x. each x.items) (each f.flows))

abbrev pub settings_of : PlanTree → List SettingTree
settings_of f = flat_map (λ t. map (λ s. s.setting) (each t.setters)) f.tests

-- rules of single values and words

-- a value lies in -32768 to 32767
abbrev pub ValueFits : ValueTree → Type 0
ValueFits v = v.number ≤ cond v.negative 32768 32767

abbrev pub SettingFits : SettingTree → Type 0
SettingFits (to_name n) = Unit {0}
SettingFits (to_string s) = Unit {0}
SettingFits (to_value v) = ValueFits v

abbrev pub ReturnFits : NextTree → Type 0
ReturnFits (go_to n) = Unit {0}
ReturnFits (return v) = ValueFits v

-- a PassFail string is Pass or Fail
abbrev pub PassFailKnown : Option Word → Type 0
PassFailKnown None = Unit {0}
PassFailKnown (Some s) = (bytes_eq s (codes "Pass") || bytes_eq s (codes "Fail")) ≡ true

-- SetBin names a group, and a leaf bin of that group
pub record LeafOfGroup (d : BinsTree) (x : LeafTree) : Type 0 where
  pub group : ℕ
  pub group_name : Word
  pub group_is : slice_get (group_names d) group ≡ Some group_name
  pub group_named : same_name group_name x.group ≡ true
  pub bin : BinTree
  pub bin_is : Among (group, bin) (bins_of d)
  pub bin_named : same_name bin.name x.bin ≡ true
  pub leaf : bin.leaf ≡ true

abbrev pub LeafRight : BinsTree → Option LeafTree → Type 0
LeafRight d None = Unit {0}
LeafRight d (Some x) = LeafOfGroup d x

-- counters that a clause names are declared
abbrev pub CountersDeclared : PlanTree → ClauseTree → Type 0
CountersDeclared f c = Every (λ n. declared n (listed f.counters) ≡ true) (listed c.counters)

-- the rules of a plan text
pub record Keeps (f : PlanTree) : Type 0 where
  pub version : f.version ≡ codes "1.0"
  -- names are declared once
  pub groups_once : Once (group_names f.bins)
  pub bins_once : Once (bin_names f.bins)
  pub counters_once : Once (listed f.counters)
  pub tests_and_flows_once : Once (test_names f ++ flow_names f)
  pub items_once : Every (λ x. Once (item_names x)) (each f.flows)
  -- the group to sort by is declared, and so is the main flow
  pub sort_group_declared : declared f.bins.sort_group (group_names f.bins) ≡ true
  pub main_flow_declared : declared f.main_flow (flow_names f) ≡ true
  pub settings_fit : Every SettingFits (settings_of f)
  pub values_fit : Every (λ c. Every ValueFits (each c.values)) (clauses_of f)
  pub returns_fit : Every (λ c. ReturnFits c.next) (clauses_of f)
  pub pass_fail_known : Every (λ c. PassFailKnown c.pass_fail) (clauses_of f)
  pub counters_declared : Every (CountersDeclared f) (clauses_of f)
  pub leaves_right : Every (λ c. LeafRight f.bins c.leaf) (clauses_of f)
  -- parents, bin numbers, sort bins, what items run, depth, returned values, repeated values and counters, targets of
  -- GoTo, and how many rows there may be: the rules of what the tree means
  pub lawful : Lawful (meant f)

-- the text obeys the language, and its plan is this one
pub record Obeys (text : List ℕ) (plan : Known) : Type 0 where
  pub size : length text ≤ 65536
  pub tree : PlanTree
  pub spells : Spells text (file_tokens tree)
  pub keeps : Keeps tree
  pub stands : plan ≡ stands_for tree
