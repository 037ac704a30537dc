use Rattle.std.proofs.Common.{sym, ◌∙◌}
use Rattle.plan.specs.Plans.{draft_of}
use Rattle.plan.proofs.Depths.{flow_depth}
use Rattle.plan.proofs.Readings.{flow_meant}
use Rattle.plan.proofs.plan.Plan.flow.Goals as goal

pub returns : goal.returns
returns c =
    let p = c.args.self.now in
    let held = c.get.ensures in
    record {
      held = held;
      meant = flow_meant (draft_of p) c.args.i c.get.result held;
      depth = λ f e. flow_depth (draft_of p) p.keeps p.depths c.args.i f (sym e ∙ held);
    }
