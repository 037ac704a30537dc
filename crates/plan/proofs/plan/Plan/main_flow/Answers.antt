use Rattle.std.proofs.Common.{◌≡◌, length, rules}
use Rattle.plan.specs.Plans.{draft_of, means}
use Rattle.plan.proofs.Laws.{main_is_flow}
use Rattle.plan.proofs.Readings.{no_main_flow, some_main_flow}
use Rattle.plan.proofs.plan.Plan.main_flow.Goals as goal

pub returns-then-len-eq0 : goal.returns-then-len-eq0
returns-then-len-eq0 c =
    let p = c.args.self.now in
    let none : length (draft_of p).flows ≡ 0 = search rules in
    let meant = no_main_flow (draft_of p) none in
    record { meant = meant; flow = main_is_flow (means p) p.keeps _ meant }

pub returns : goal.returns
returns c =
    let p = c.args.self.now in
    let some : length (draft_of p).flows ≡ 0 → ⊥ = search rules in
    let meant = some_main_flow (draft_of p) some in
    record { meant = meant; flow = main_is_flow (means p) p.keeps _ meant }
