use Rattle.std.proofs.Common.{refl}
use Rattle.plan.proofs.Blanks.{blank_means, blank_keeps, blank_names, blank_depths}
use Rattle.plan.proofs.plan.Plan.empty.Goals as goal

pub invariant_of-result : goal.invariant_of-result
invariant_of-result c =
    let e = c.in_ok-tables.ensures in
    record { room = c.in_ok-text.ensures.capacity; keeps = blank_keeps _ e; names = blank_names _ _ e; depths = blank_depths _ e }

pub returns : goal.returns
returns c = (blank_means _ c.in_ok-tables.ensures, c.in_ok-text.ensures.items, refl)
