use Rattle.std.proofs.Common.{unwrap_or, ap, ◌∙◌, rules, tests}
use Rattle.std.proofs.lemmas.Iterator.{YieldsList-from_slice, YieldsList-from_map}
use Rattle.std.proofs.lemmas.Iterator.Consumers.{reduce_from_yields_List}
use Rattle.std.proofs.lemmas.List.Folds.{max_of_map}
use Rattle.flows.specs.Checks.{depth_of}
use Rattle.flows.proofs.Rows.{deepest_folded}
use Rattle.flows.proofs.checks.deepest_run.Goals as goal

pub returns : goal.returns
returns c =
    let items = c.args.items.now in
    let flows = c.args.flows.now in
    c.unwrap_or.ensures
    ∙ (ap (λ o. unwrap_or o 0) (reduce_from_yields_List _ c.map.result _ c.max.ensures.ran (YieldsList-from_map _ (λ it. depth_of flows it.runs) (YieldsList-from_slice items cc) c.map.ensures.closure (λ x b q k. search (rules, tests))))
    ∙ (max_of_map (λ it. depth_of flows it.runs) items ∙ deepest_folded flows items))
