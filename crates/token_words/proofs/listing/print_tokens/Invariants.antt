use Rattle.std.proofs.Common.{◌≡◌, ◌≤◌}
use Rattle.tokens.specs.Terminals.{count}
use Rattle.tokens.specs.Reading.{rest}
use Rattle.token_words.specs.Listing.{ending}
use Rattle.token_words.proofs.listing.print_tokens.Given as goal

abbrev pub invariant-loop-placed : goal.invariant-loop-placed
invariant-loop-placed g l = record { each : l.count ≤ l.reader.at; same_end : ending (rest l.reader) ≡ ending (rest l.initial.reader) }

abbrev pub decreases-loop-placed : goal.decreases-loop-placed
decreases-loop-placed g l = count (rest l.reader)
