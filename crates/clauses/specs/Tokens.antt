-- A clause as a tree, and the tokens that write it.
use Rattle.std.specs.Prelude.{ℕ, Bool, true, false, List, [], ◌∷◌, ◌++◌, Some, None, Option}
use Rattle.std.specs.List.{flat_map}
use Rattle.keywords.specs.declared.Keyword.TheVariants as kw
use Rattle.text_bytes.specs.declared.kinds.Mark.TheVariants as mk
use Rattle.tokens.specs.Terminals.{Terminal, name, keyword, number, string, mark}

-- x (, x)*
pub record Several (X : Type 0) : Type 0 where
  pub first : X
  pub others : List X

-- [-] number
pub record ValueTree : Type 0 where
  pub negative : Bool
  pub number : ℕ

-- the names of a group and of a bin of it
pub record BinTree : Type 0 where
  pub group : List ℕ
  pub bin : List ℕ

pub data NextTree : Type 0 where
  go_to : List ℕ → NextTree
  return : ValueTree → NextTree

pub record ClauseTree : Type 0 where
  pub values : Several ValueTree
  pub verdict : Option (List ℕ)
  pub counters : Option (Several (List ℕ))
  pub bin : Option BinTree
  pub next : NextTree

abbrev pub several_tokens : {X : Type 0} → (X → List Terminal) → Several X → List Terminal
several_tokens one xs = one xs.first ++ flat_map (λ x. mark mk.Comma ∷ one x) xs.others

abbrev pub option_tokens : {X : Type 0} → (X → List Terminal) → Option X → List Terminal
option_tokens one (Some x) = one x
option_tokens one None = []

abbrev pub sign_tokens : Bool → List Terminal
sign_tokens true = mark mk.Minus ∷ []
sign_tokens false = []

-- [-] number
abbrev pub value_tokens : ValueTree → List Terminal
value_tokens v = sign_tokens v.negative ++ number v.number ∷ []

-- Property PassFail = string ;
abbrev pub verdict_tokens : List ℕ → List Terminal
verdict_tokens s = keyword kw.Property ∷ keyword kw.PassFail ∷ mark mk.Equals ∷ string s ∷ mark mk.Semicolon ∷ []

-- IncrementCounters name (, name)* ;
abbrev pub counters_tokens : Several (List ℕ) → List Terminal
counters_tokens names = keyword kw.IncrementCounters ∷ several_tokens (λ n. name n ∷ []) names ++ mark mk.Semicolon ∷ []

-- SetBin name . name ;
abbrev pub set_bin_tokens : BinTree → List Terminal
set_bin_tokens b = keyword kw.SetBin ∷ name b.group ∷ mark mk.FullStop ∷ name b.bin ∷ mark mk.Semicolon ∷ []

-- GoTo name ; | Return value ;
abbrev pub next_tokens : NextTree → List Terminal
next_tokens (go_to n) = keyword kw.GoTo ∷ name n ∷ mark mk.Semicolon ∷ []
next_tokens (return v) = keyword kw.Return ∷ value_tokens v ++ mark mk.Semicolon ∷ []

-- Result value (, value)* { [Property ..] [IncrementCounters ..] [SetBin ..] (GoTo .. | Return ..) }
abbrev pub clause_tokens : ClauseTree → List Terminal
clause_tokens c =
    keyword kw.Result
    ∷ several_tokens value_tokens c.values
    ++ (mark mk.OpenBrace
    ∷ option_tokens verdict_tokens c.verdict
    ++ (option_tokens counters_tokens c.counters
    ++ (option_tokens set_bin_tokens c.bin
    ++ (next_tokens c.next
    ++ mark mk.CloseBrace ∷ []))))
