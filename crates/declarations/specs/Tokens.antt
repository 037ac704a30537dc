-- The tokens that counters and tests are written with.
use Rattle.std.specs.Prelude.{ℕ, Bool, true, false, List, [], ◌∷◌, ◌++◌}
use Rattle.std.specs.List.{flat_map}
use Rattle.text_bytes.specs.declared.kinds.Mark.TheVariants as mk
use Rattle.keywords.specs.declared.Keyword.TheVariants as kw
use Rattle.tokens.specs.Terminals.{Terminal}
use Rattle.tokens.specs.Terminals as t

pub record CountersTree : Type 0 where
  pub first : List ℕ
  pub more : List (List ℕ)

-- a value is a number, with a minus or without
pub data SettingTree : Type 0 where
  to_name : List ℕ → SettingTree
  to_string : List ℕ → SettingTree
  to_value : Bool → ℕ → SettingTree

pub record SetterTree : Type 0 where
  pub name : List ℕ
  pub setting : SettingTree

pub record TestTree : Type 0 where
  pub class : List ℕ
  pub name : List ℕ
  pub first : SetterTree
  pub more : List SetterTree

-- , name
abbrev pub next_counter_tokens : List ℕ → List Terminal
next_counter_tokens name = t.mark mk.Comma ∷ t.name name ∷ []

-- Counters { name (, name)* }
abbrev pub counters_tokens : CountersTree → List Terminal
counters_tokens c =
    t.keyword kw.Counters ∷ t.mark mk.OpenBrace ∷ t.name c.first
    ∷ (flat_map next_counter_tokens c.more ++ t.mark mk.CloseBrace ∷ [])

-- [-] number
abbrev pub value_tokens : Bool → ℕ → List Terminal
value_tokens true n = t.mark mk.Minus ∷ t.number n ∷ []
value_tokens false n = t.number n ∷ []

-- name | string | value
abbrev pub setting_tokens : SettingTree → List Terminal
setting_tokens (to_name name) = t.name name ∷ []
setting_tokens (to_string bytes) = t.string bytes ∷ []
setting_tokens (to_value negative n) = value_tokens negative n

-- name = (name | string | value) ;
abbrev pub setter_tokens : SetterTree → List Terminal
setter_tokens s = t.name s.name ∷ t.mark mk.Equals ∷ (setting_tokens s.setting ++ t.mark mk.Semicolon ∷ [])

-- Test name name { setter+ }
abbrev pub test_tokens : TestTree → List Terminal
test_tokens x =
    t.keyword kw.Test ∷ t.name x.class ∷ t.name x.name ∷ t.mark mk.OpenBrace
    ∷ (flat_map setter_tokens (x.first ∷ x.more) ++ t.mark mk.CloseBrace ∷ [])
