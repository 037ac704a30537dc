use Rattle.std.proofs.Common.{◌≡◌, ◌+◌, true, not, drop}
use Rattle.std.specs.List.{prefix_len}
use Rattle.text_bytes.specs.Bytes.{gap}
use Rattle.text_bytes.specs.Position.{feed}
use Rattle.text_bytes.proofs.runs.comment_len.Given as goal

abbrev pub invariant-loop-i : goal.invariant-loop-i
invariant-loop-i l =
    (l.i + prefix_len (λ b. not (feed b)) (drop l.i l.bytes) ≡ prefix_len (λ b. not (feed b)) l.bytes)
    × (l.i + gap true (drop l.i l.bytes) ≡ gap true l.bytes)
