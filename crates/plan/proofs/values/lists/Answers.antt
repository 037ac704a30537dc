use Rattle.std.proofs.Common.{◌∙◌}
use Rattle.plan.proofs.Spans.{listed}
use Rattle.plan.proofs.values.lists.Goals as goal

pub returns : goal.returns
returns c = c.contains.ensures.value ∙ listed c.args.value.code c.args.values.now
