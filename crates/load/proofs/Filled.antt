-- What an accepted text gives: the answer of its load, and that a plan may hold its tables.
use Rattle.std.proofs.Common.{◌≡◌, ℕ, ◌≤◌, false, eqb, ltb, List, length, IfOk, Ok, Err, Result, ◌∙◌, inr, arith}
use mathlib.Core.Logic.{∥∥₁_map}
use Rattle.std.proofs.lemmas.Bool.{cond-false}
use Rattle.tokens.specs.Scanning.{tokens_from}
use Rattle.plan.specs.Drafts.{Draft, blank}
use Rattle.plan.specs.Meaning.{meaning}
use Rattle.plan.specs.Rules.{Keeps, Lawful, NamesOnce, DepthsTold}
use Rattle.refusals.specs.declared.fault.LoadFault.{LoadFault}
use Rattle.refusals.specs.declared.fault.LoadFault.TheVariants.{NoBytes, TooManyBytes}
use Rattle.plan_file.specs.File.{file_in, PlaceWithin}
use Rattle.load.specs.Loading.{loaded}

-- a text of a size that is allowed is loaded as it is read
pub read_whole : (text : List ℕ) → eqb (length text) 0 ≡ false → ltb 65536 (length text) ≡ false → loaded text ≡ file_in text blank (tokens_from text 0)
unfolding loaded
read_whole text some few = cond-false (eqb (length text) 0) (Err NoBytes) _ some ∙ cond-false (ltb 65536 (length text)) (Err TooManyBytes) _ few

-- what holds anyway holds of an accepted text
pub given_so : {X E : Type 0} {P : Type 0} (r : Result X E) → P → IfOk r (λ _. P)
given_so (Ok x) p = p
given_so (Err e) p = tt

-- a place within a text is at most what the text's length is at most
pub place_nearer : {X : Type 0} {n m : ℕ} (r : Result X LoadFault) → n ≤ m → PlaceWithin n r → PlaceWithin m r
place_nearer (Ok x) h w = tt
place_nearer (Err e) h w = omega (arith, h, w)

module _ {text : List ℕ} {d : Draft} (kept : ∥ Lawful (meaning d) × NamesOnce text d × DepthsTold d ∥₁) where
  pub plan_keeps : ∥ Keeps (meaning d) ∥₁
  plan_keeps = ∥∥₁_map kept (λ k. inr k.0)

  pub plan_names : ∥ NamesOnce text d ∥₁
  plan_names = ∥∥₁_map kept (λ k. k.1)

  pub plan_depths : ∥ DepthsTold d ∥₁
  plan_depths = ∥∥₁_map kept (λ k. k.2)
