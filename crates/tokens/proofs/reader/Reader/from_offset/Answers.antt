use Rattle.std.proofs.Common.{refl, arith, length-drop}
use Rattle.tokens.proofs.Readings.{the_reading, reads_within}
use Rattle.tokens.proofs.reader.Reader.from_offset.Goals as goal

pub returns : goal.returns
returns c =
    let one = the_reading c.args.text.now c.args.at in
    record { bytes = refl; reading = one; within = reads_within _ _ _ _ one.reads (omega (arith, length-drop c.args.at c.args.text.now)) }
