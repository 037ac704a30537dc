use Rattle.std.proofs.Common.{rules, ◌∙◌}
use Rattle.std.proofs.lemmas.Iterator.{YieldsList-from_slice}
use Rattle.std.proofs.lemmas.Iterator.Search.{any_from_yields_List}
use borrow.Author.Tests.{tests}
use Rattle.bins.specs.Bins.{has_number}
use Rattle.bins.proofs.Scans.{any_has_number}
use Rattle.bins.proofs.bin.number_taken.Goals as goal

pub returns : goal.returns
returns c =
    any_from_yields_List (has_number c.args.group c.args.number) _ _ _ c.any.ensures.ran (YieldsList-from_slice c.args.bins.now cc) (λ x b q k. search (rules, tests))
    ∙ any_has_number c.args.group c.args.number c.args.bins.now
