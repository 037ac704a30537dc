use Rattle.std.proofs.Common.{rules}
use Rattle.std.proofs.lemmas.List.{take_more, take_all}
use Rattle.load.proofs.loader.loading.copy_text.Goals as goal

pub loop-b-preserved : goal.loop-b-preserved
loop-b-preserved c = search (rules, take_more)

pub returns : goal.returns
returns c = search (rules, take_all)
