use Rattle.std.proofs.Common.{◌≡◌, is_some, length, rules, ◌∙◌}
use Rattle.plan.specs.Finding.{first_of_group}
use Rattle.bins.proofs.Climbing.{bin_met}
use Rattle.bins.proofs.sorting.has_sort_bin.Goals as goal

pub returns : goal.returns
returns c =
    let a = c.args in
    let met : c.is_some.result ≡ is_some (first_of_group a.bins.now a.group (length a.bins.now) a.i) = search rules in
    met ∙ bin_met a.bins.now a.group (length a.bins.now) a.i
