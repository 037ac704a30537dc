use Rattle.std.proofs.Common.{◌≡◌, ◌-◌, length}
use Rattle.plan.specs.Finding.{first_of_group}
use Rattle.plan.proofs.plan.finding.first_of_group.Given as goal

abbrev pub invariant-loop : goal.invariant-loop
invariant-loop l = first_of_group l.bins l.group (length l.bins - l.counter) l.at ≡ first_of_group l.bins l.group (length l.bins) l.from
