use Rattle.std.proofs.Common.{◌≤◌, vec_items, vec_capacity, sym, ap, ◌∙◌, subst}
use Rattle.plan.specs.Drafts.{drafted}
use Rattle.plan.specs.Meaning.{meaning}
use Rattle.plan.specs.Rules.{Keeps, NamesOnce, DepthsTold}
use Rattle.load.proofs.Filled.{plan_keeps, plan_names, plan_depths}
use Rattle.load.proofs.loader.Loader.load_whole.Goals as goal

pub invariant_of-plan : goal.invariant_of-plan
invariant_of-plan c =
    let tables = c.swap.ensures.y_after in
    let bytes = c.swap-2.ensures.y_after in
    let text = sym (ap vec_items bytes ∙ c.copy_text.ensures.same) in
    let kept = c.in_ok-title.ensures.kept in
    let names = subst (λ t. ∥ NamesOnce t (drafted c.read.new.self.tables) ∥₁) text (plan_names kept) in
    record {
      room = subst (λ v. 65536 ≤ vec_capacity v) (sym bytes) c.copy_text.ensures.room;
      keeps = subst (λ t. ∥ Keeps (meaning (drafted t)) ∥₁) (sym tables) (plan_keeps kept);
      names = subst (λ t. ∥ NamesOnce (vec_items c.swap-2.new.y) (drafted t) ∥₁) (sym tables) names;
      depths = subst (λ t. ∥ DepthsTold (drafted t) ∥₁) (sym tables) (plan_depths kept);
    }
