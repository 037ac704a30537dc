use Rattle.std.proofs.Common.{◌≤◌}
use Rattle.tokens.specs.Terminals.{count}
use Rattle.tokens.specs.Reading.{rest}
use Rattle.refusals.specs.Steps.{many}
use Rattle.refusals.proofs.Repeating.{Going}
use Rattle.declarations.specs.Tests.{setter_turn}
use Rattle.declarations.proofs.test_block.setters_on.Given as goal

abbrev pub invariant-loop : goal.invariant-loop
invariant-loop l = Going setter_turn tt (rest l.r) (many setter_turn tt (rest l.initial.r)) × (count (rest l.r) ≤ count (rest l.initial.r))

abbrev pub decreases-loop : goal.decreases-loop
decreases-loop l = count (rest l.r)
