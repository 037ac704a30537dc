use Rattle.std.proofs.Common.{◌∙◌, rules, tests}
use Rattle.std.proofs.lemmas.Iterator.{YieldsList-from_slice}
use Rattle.std.proofs.lemmas.Iterator.Search.{position_from_yields_List}
use Rattle.plan.specs.Rules.{spelt}
use Rattle.names.specs.Names.{same_name}
use Rattle.names.proofs.Found.{at_position}
use Rattle.names.proofs.finding.find.Goals as goal

pub returns : goal.returns
returns g c =
    let a = c.args in
    let named = g.T.Named.named in
    position_from_yields_List (λ row. same_name (spelt a.text.now (named row)) a.word.now) _ _ c.position.result c.position.ensures.ran (YieldsList-from_slice a.rows.now cc) (λ x b q k. search (rules, tests))
    ∙ at_position named a.text.now a.word.now a.rows.now
