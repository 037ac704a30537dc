-- Tables with no rows, and the plan that they are.
use Rattle.std.proofs.Common.{◌≡◌, ℕ, List, [], sym, refl, ap, subst, inl}
use Rattle.plan.specs.Drafts.{Draft, blank}
use Rattle.plan.specs.Meaning.{meaning, nothing, depths}
use Rattle.plan.specs.Rules.{Keeps, NamesOnce, DepthsTold, Once}
use Rattle.plan.proofs.Spans.{never_some}

pub blank_means : (d : Draft) → d ≡ blank → meaning d ≡ nothing
unfolding meaning
blank_means d e = ap meaning e

pub blank_keeps : (d : Draft) → d ≡ blank → ∥ Keeps (meaning d) ∥₁
blank_keeps d e = ∣ inl (blank_means d e) ∣₁

none_once : {X : Type 0} → Once {X = X} []
none_once i j x e f = never_some x e

blank_names_once : (text : List ℕ) → NamesOnce text blank
blank_names_once text = record { groups = none_once; bins = none_once; counters = none_once; tests_and_flows = none_once; items = λ k f e. never_some f e }

pub blank_names : (text : List ℕ) (d : Draft) → d ≡ blank → ∥ NamesOnce text d ∥₁
blank_names text d e = ∣ subst (NamesOnce text) (sym e) (blank_names_once text) ∣₁

blank_depths_told : DepthsTold blank
unfolding meaning depths
blank_depths_told = refl

pub blank_depths : (d : Draft) → d ≡ blank → ∥ DepthsTold d ∥₁
blank_depths d e = ∣ subst DepthsTold (sym e) blank_depths_told ∣₁
