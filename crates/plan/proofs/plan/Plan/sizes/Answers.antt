use Rattle.std.proofs.Common.{◌∙◌}
use Rattle.plan.specs.Plans.{draft_of}
use Rattle.plan.proofs.Readings.{bins_counted, counters_counted, tests_counted, flows_counted, items_counted}
use Rattle.plan.proofs.plan.Plan.sizes.Goals as goal

pub returns : goal.returns
returns c =
    let d = draft_of c.args.self.now in
    record {
      groups = c.len.ensures;
      bins = c.len-2.ensures ∙ bins_counted d;
      counters = c.len-3.ensures ∙ counters_counted d;
      tests = c.len-4.ensures ∙ tests_counted d;
      flows = c.len-5.ensures ∙ flows_counted d;
      items = c.len-6.ensures ∙ items_counted d;
    }
