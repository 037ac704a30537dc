use Rattle.std.proofs.Common.{◌∙◌, arith}
use Rattle.std.proofs.lemmas.Result.{err_from_is_err_and}
use Rattle.productions.proofs.Turns.{same_on, entry_on, entry_last, entry_stops, comma_stops}
use Rattle.productions.proofs.lists.list.Goals as goal

pub loop-desk-preserved : goal.loop-desk-preserved
loop-desk-preserved g c =
    let read = c.in_ok-read.ensures.made in
    let same_clauses = c.in_ok-read.ensures.kept in
    let more = rw c.if-not-branch.false at c.in_ok-another.ensures in
    let so_far = c.loop-desk.invariant in
    record {
      going = entry_on c.args.last (g.E.Entry.production c.args.entry.now) so_far.same.text so_far.going _ _ read.told _ more.told read.on more.on;
      on = omega (arith, read.on, more.on, so_far.on);
      same = same_on so_far.same read.same.text read.same.tables;
      kept = same_clauses ∙ so_far.kept;
    }

pub returns-then-not-branch : goal.returns-then-not-branch
returns-then-not-branch g c =
    let read = c.in_ok-read.ensures.made in
    let same_clauses = c.in_ok-read.ensures.kept in
    let more = rw c.if-not-branch.true at c.in_ok-another.ensures in
    let so_far = c.loop-desk.invariant in
    record {
      made = record {
        told = entry_last c.args.last (g.E.Entry.production c.args.entry.now) so_far.same.text so_far.going _ _ read.told _ more.told;
        on = omega (arith, read.on, more.on, so_far.on);
        same = same_on so_far.same read.same.text read.same.tables;
      };
      kept = same_clauses ∙ so_far.kept;
    }

pub returns-in_err-read : goal.returns-in_err-read
returns-in_err-read g c =
    let p = err_from_is_err_and c.from_residual.result c.from_residual.ensures.1 in
    let read = c.in_err-read.ensures.made in
    let same_clauses = c.in_err-read.ensures.kept in
    let so_far = c.loop-desk.invariant in
    rw (p.1, p.2) (record {
      made = record {
        told = entry_stops c.args.last (g.E.Entry.production c.args.entry.now) so_far.same.text so_far.going _ read.told;
        on = tt;
        same = same_on so_far.same read.same.text read.same.tables;
      };
      kept = same_clauses ∙ so_far.kept;
    })

pub returns-in_err-another : goal.returns-in_err-another
returns-in_err-another g c =
    let p = err_from_is_err_and c.from_residual-in_err-another.result c.from_residual-in_err-another.ensures.1 in
    let read = c.in_ok-read.ensures.made in
    let same_clauses = c.in_ok-read.ensures.kept in
    let so_far = c.loop-desk.invariant in
    rw (p.1, p.2) (record {
      made = record {
        told = comma_stops c.args.last (g.E.Entry.production c.args.entry.now) so_far.same.text so_far.going _ _ read.told _ c.in_err-another.ensures.told;
        on = tt;
        same = same_on so_far.same read.same.text read.same.tables;
      };
      kept = same_clauses ∙ so_far.kept;
    })
