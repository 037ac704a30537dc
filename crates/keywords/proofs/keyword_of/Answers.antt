use Rattle.std.proofs.Common.{sym, subst}
use Rattle.keywords.specs.Keywords.{keyword, Recognised}
use Rattle.keywords.proofs.Recognising.{recognised}
use Rattle.keywords.proofs.keyword_of.Goals as goal

pub returns : goal.returns
unfolding keyword
returns c = record { told = c.listed.ensures; exactly = subst (Recognised c.args.word.now) (sym c.listed.ensures) (recognised c.args.word.now) }
