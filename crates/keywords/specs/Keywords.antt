-- The keywords of a plan text and their spellings.
use Rattle.std.specs.Prelude.{◌≡◌, ℕ, Bool, List, [], ◌∷◌, find, Some, codes, Option, ◌==◌}
use Rattle.std.specs.Str.{bytes_eq}
use Rattle.keywords.specs.declared.Keyword.{Keyword}
use Rattle.keywords.specs.declared.Keyword.TheVariants.{Version, TestPlan, BinDefs, BinGroup, Bin, LeafBin, SortBinGroup, Counters, Test, Flow, FlowItem, Result, Property, PassFail, IncrementCounters, SetBin, GoTo, Return, FlowDefs, MainFlow}

abbrev pub spelt : Keyword → List ℕ
spelt Version = codes "Version"
spelt TestPlan = codes "TestPlan"
spelt BinDefs = codes "BinDefs"
spelt BinGroup = codes "BinGroup"
spelt Bin = codes "Bin"
spelt LeafBin = codes "LeafBin"
spelt SortBinGroup = codes "SortBinGroup"
spelt Counters = codes "Counters"
spelt Test = codes "Test"
spelt Flow = codes "Flow"
spelt FlowItem = codes "FlowItem"
spelt Result = codes "Result"
spelt Property = codes "Property"
spelt PassFail = codes "PassFail"
spelt IncrementCounters = codes "IncrementCounters"
spelt SetBin = codes "SetBin"
spelt GoTo = codes "GoTo"
spelt Return = codes "Return"
spelt FlowDefs = codes "FlowDefs"
spelt MainFlow = codes "MainFlow"

-- a word is told as a keyword exactly where it is that keyword's spelling
abbrev pub Recognised : List ℕ → Option Keyword → Type 0
Recognised word told = (k : Keyword) → (told ≡ Some k → word ≡ spelt k) × (word ≡ spelt k → told ≡ Some k)

abbrev pub keywords : List Keyword
keywords = Version ∷ TestPlan ∷ BinDefs ∷ BinGroup ∷ Bin ∷ LeafBin ∷ SortBinGroup ∷ Counters ∷ Test ∷ Flow ∷ FlowItem ∷ Result ∷ Property ∷ PassFail ∷ IncrementCounters ∷ SetBin ∷ GoTo ∷ Return ∷ FlowDefs ∷ MainFlow ∷ []

-- the first of the keywords that is spelt as the word
abbrev pub first_spelt : List Keyword → List ℕ → Option Keyword
first_spelt ks word = find (λ k. bytes_eq word (spelt k)) ks

-- the keyword that the word is, or none
unfoldable pub keyword : List ℕ → Option Keyword
keyword word = first_spelt keywords word

-- the keyword's place in the list of them all
abbrev pub rank : Keyword → ℕ
rank Version = 0
rank TestPlan = 1
rank BinDefs = 2
rank BinGroup = 3
rank Bin = 4
rank LeafBin = 5
rank SortBinGroup = 6
rank Counters = 7
rank Test = 8
rank Flow = 9
rank FlowItem = 10
rank Result = 11
rank Property = 12
rank PassFail = 13
rank IncrementCounters = 14
rank SetBin = 15
rank GoTo = 16
rank Return = 17
rank FlowDefs = 18
rank MainFlow = 19

-- whether two keywords are the same
abbrev pub same_keyword : Keyword → Keyword → Bool
same_keyword a b = rank a == rank b
