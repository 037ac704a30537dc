use Rattle.flows.specs.Checks.{resolved_from}
use Rattle.flows.proofs.Resolving.{Resolving}
use Rattle.flows.proofs.checks.Targets.resolve.Given as goal

abbrev pub invariant-loop-i : goal.invariant-loop-i
invariant-loop-i l =
    let t = l.self in
    Resolving t.text.now t.first t.items.now l.initial.clauses l.clauses l.i (resolved_from t.text.now t.first t.items.now l.from l.initial.clauses)
