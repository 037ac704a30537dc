use Rattle.tokens.specs.Terminals.{count}
use Rattle.tokens.specs.Reading.{rest}
use Rattle.token_cases.proofs.listing.listing.Given as goal

abbrev pub decreases-loop-placed : goal.decreases-loop-placed
decreases-loop-placed l = count (rest l.reader)
