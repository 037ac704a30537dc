use Rattle.std.proofs.Common.{◌<◌, length, arith}
use Rattle.std.proofs.lemmas.Result.{err_from_is_err_and}
use Rattle.flows.proofs.Resolving.{resolved_one, resolved_none, resolved_all}
use Rattle.flows.proofs.checks.Targets.resolve.Goals as goal

pub loop-i-preserved : goal.loop-i-preserved
loop-i-preserved c =
    let l : c.loop-i.i < length c.loop-i.clauses = omega arith in
    rw c.set.ensures (resolved_one _ _ _ _ _ _ _ c.loop-i.invariant _ l _ (rw c.as_slice.ensures at c.in_ok-row.ensures))

pub returns : goal.returns
returns c = resolved_all _ _ _ _ _ _ _ c.loop-i.invariant (omega arith)

pub returns-in_err-row : goal.returns-in_err-row
returns-in_err-row c =
    let p = err_from_is_err_and c.from_residual.result c.from_residual.ensures.1 in
    let l : c.loop-i.i < length c.loop-i.clauses = omega arith in
    rw (p.1, p.2) (resolved_none _ _ _ _ _ _ _ c.loop-i.invariant _ l _ (rw c.as_slice.ensures at c.in_err-row.ensures))
