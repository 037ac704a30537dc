use Rattle.std.proofs.Common.{◌≡◌, ◌+◌, ◌-◌, suc, length, Some, ap, ◌∙◌, arith}
use Rattle.std.specs.List.{slice_get}
use Rattle.std.proofs.lemmas.Grind.{common_steps}
use Rattle.std.proofs.lemmas.Option.{gets}
use Rattle.plan.specs.Finding.{first_of_group}
use Rattle.plan.proofs.Climbs.{climb_on}
use Rattle.plan.proofs.plan.finding.first_of_group.Goals as goal

pub loop-preserved : goal.loop-preserved
loop-preserved c =
    let bins = c.args.bins.now in
    let here : slice_get bins c.loop.at ≡ Some c.in_ok-bin.bin = grind (arith, common_steps, gets) in
    let one : suc (length bins - (c.loop.counter + 1)) ≡ length bins - c.loop.counter = omega arith in
    climb_on bins c.args.group _ _ _ c.in_ok-bin.bin here c.if-bin-group.false c.in_ok-at.was ∙ ap (λ n. first_of_group bins c.args.group n c.loop.at) one ∙ c.loop.invariant
