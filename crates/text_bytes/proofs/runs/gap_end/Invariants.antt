use Rattle.std.proofs.Common.{◌≡◌, ◌+◌, ◌≤◌, false, length, drop}
use Rattle.text_bytes.specs.Bytes.{gap}
use Rattle.text_bytes.proofs.runs.gap_end.Given as goal

abbrev pub invariant-loop-rest : goal.invariant-loop-rest
invariant-loop-rest l = ((l.from + gap false (drop l.from l.text)) + length l.rest ≡ length l.text + gap false l.rest) × (length l.rest ≤ length l.text)

abbrev pub decreases-loop-rest : goal.decreases-loop-rest
decreases-loop-rest l = length l.rest
