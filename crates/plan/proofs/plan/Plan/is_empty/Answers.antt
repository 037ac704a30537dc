use Rattle.std.proofs.Common.{◌≡◌, length, sym, ◌∙◌, eqb-true}
use borrow.Author.Tests.{eqb-false}
use Rattle.plan.specs.Plans.{draft_of}
use Rattle.plan.proofs.Readings.{flows_counted}
use Rattle.plan.proofs.Laws.{no_flow_nothing, some_flow_lawful}
use Rattle.plan.proofs.plan.Plan.is_empty.Goals as goal

pub returns : goal.returns
returns c =
    let p = c.args.self.now in
    let counted : c.sizes.result.flows ≡ length (draft_of p).flows = c.sizes.ensures.flows ∙ sym (flows_counted (draft_of p)) in
    record {
      empty = λ e. no_flow_nothing (draft_of p) p.keeps (sym counted ∙ eqb-true _ _ e);
      lawful = λ e. some_flow_lawful (draft_of p) p.keeps (λ z. eqb-false _ _ e (counted ∙ z));
    }
