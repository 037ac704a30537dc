use Rattle.std.proofs.Common.{rules}
use Rattle.plan_file.proofs.sections.sections.Goals as goal

pub returns-in_err-first-3 : goal.returns-in_err-first-3
returns-in_err-first-3 c =
    let tests = rw c.in_ok-first-2.ensures.same.text at c.in_err-first-3.ensures.told in
    search rules

pub returns : goal.returns
returns c =
    let tests = rw c.in_ok-first-2.ensures.same.text at c.in_ok-first-3.ensures.told in
    search rules
