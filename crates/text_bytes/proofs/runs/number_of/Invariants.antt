use Rattle.std.proofs.Common.{◌≡◌, ◌≤◌, drop}
use Rattle.text_bytes.specs.Bytes.{numeral}
use Rattle.text_bytes.proofs.runs.number_of.Given as goal

abbrev pub invariant-loop-d : goal.invariant-loop-d
invariant-loop-d l = (l.value ≤ 2147483647) × (numeral l.value (drop l.d-index l.digits) ≡ numeral 0 l.digits)
