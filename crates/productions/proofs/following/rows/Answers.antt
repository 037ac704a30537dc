use Rattle.std.proofs.Common.{arith, sym, ◌∙◌}
use Rattle.std.proofs.lemmas.Result.{err_from_is_err_and}
use Rattle.productions.proofs.Turns.{same_on, row_on, row_over, row_stops, behind_stops}
use Rattle.productions.proofs.following.rows.Goals as goal

pub loop-desk-preserved : goal.loop-desk-preserved
loop-desk-preserved g c =
    let read = c.in_ok-read.ensures in
    let next = c.in_ok-next.ensures in
    let so_far = c.loop-desk.invariant in
    record {
      going = row_on (g.R.Row.begins c.args.row.now) (g.R.Row.production c.args.row.now) so_far.same.text so_far.going (sym c.begins.ensures ∙ c.loop-desk-test.true) _ _ read.told _ _ next.told read.on next.on;
      on = omega (arith, read.on, next.on, so_far.on);
      same = same_on so_far.same read.same.text read.same.tables;
    }

pub returns : goal.returns
returns g c =
    let so_far = c.loop-desk.invariant in
    record { told = row_over (g.R.Row.begins c.args.row.now) (g.R.Row.production c.args.row.now) so_far.same.text so_far.going (sym c.begins.ensures ∙ c.loop-desk-test.false); on = so_far.on; same = so_far.same }

pub returns-in_err-read : goal.returns-in_err-read
returns-in_err-read g c =
    let p = err_from_is_err_and c.from_residual.result c.from_residual.ensures.1 in
    let read = c.in_err-read.ensures in
    let so_far = c.loop-desk.invariant in
    rw (p.1, p.2) (record {
      told = row_stops (g.R.Row.begins c.args.row.now) (g.R.Row.production c.args.row.now) so_far.same.text so_far.going (sym c.begins.ensures ∙ c.loop-desk-test.true) _ read.told;
      on = tt;
      same = same_on so_far.same read.same.text read.same.tables;
    })

pub returns-in_err-next : goal.returns-in_err-next
returns-in_err-next g c =
    let p = err_from_is_err_and c.from_residual-in_err-next.result c.from_residual-in_err-next.ensures.1 in
    let read = c.in_ok-read.ensures in
    let so_far = c.loop-desk.invariant in
    rw (p.1, p.2) (record {
      told = behind_stops (g.R.Row.begins c.args.row.now) (g.R.Row.production c.args.row.now) so_far.same.text so_far.going (sym c.begins.ensures ∙ c.loop-desk-test.true) _ _ read.told _ c.in_err-next.ensures.told;
      on = tt;
      same = same_on so_far.same read.same.text read.same.tables;
    })
