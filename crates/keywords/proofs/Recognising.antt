-- A word is told as a keyword exactly where it is that keyword's spelling.
use Rattle.std.proofs.Common.{◌≡◌, ℕ, Bool, true, false, cond, List, [], ◌∷◌, Some, refl, ap, ◌∙◌, arith}
use Rattle.std.specs.Str.{bytes_eq}
use Rattle.std.proofs.lemmas.Slice.Eq.{bytes_eq-Decides}
use Rattle.keywords.specs.declared.Keyword.{Keyword}
use Rattle.keywords.specs.declared.Keyword.TheVariants.{Version, TestPlan, BinDefs, BinGroup, Bin, LeafBin, SortBinGroup, Counters, Test, Flow, FlowItem, Result, Property, PassFail, IncrementCounters, SetBin, GoTo, Return, FlowDefs, MainFlow}
use Rattle.keywords.specs.Keywords.{spelt, keywords, first_spelt, keyword, Recognised}

-- only a spelling is told
told_spelt : (ks : List Keyword) (word : List ℕ) (k : Keyword) → first_spelt ks word ≡ Some k → word ≡ spelt k
told_spelt [] word k e = let z : ◌≡◌ {A = ℕ} 0 1 = cc in absurd (omega arith)
told_spelt (j ∷ ks) word k e = go (bytes_eq word (spelt j)) refl e (told_spelt ks word k)
  where
    go : (b : Bool) → bytes_eq word (spelt j) ≡ b → cond b (Some j) (first_spelt ks word) ≡ Some k → (first_spelt ks word ≡ Some k → word ≡ spelt k) → word ≡ spelt k
    go true h e later = let same : j ≡ k = cc in (bytes_eq-Decides word (spelt j)).0 h ∙ ap spelt same
    go false h e later = later e

-- each spelling is told
spelt_told : (k : Keyword) → keyword (spelt k) ≡ Some k
unfolding keyword
spelt_told Version = refl
spelt_told TestPlan = refl
spelt_told BinDefs = refl
spelt_told BinGroup = refl
spelt_told Bin = refl
spelt_told LeafBin = refl
spelt_told SortBinGroup = refl
spelt_told Counters = refl
spelt_told Test = refl
spelt_told Flow = refl
spelt_told FlowItem = refl
spelt_told Result = refl
spelt_told Property = refl
spelt_told PassFail = refl
spelt_told IncrementCounters = refl
spelt_told SetBin = refl
spelt_told GoTo = refl
spelt_told Return = refl
spelt_told FlowDefs = refl
spelt_told MainFlow = refl

pub recognised : (word : List ℕ) → Recognised word (keyword word)
unfolding keyword
recognised word k = (told_spelt keywords word k, λ e. ap keyword e ∙ spelt_told k)
