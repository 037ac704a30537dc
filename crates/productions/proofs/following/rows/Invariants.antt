use Rattle.std.proofs.Common.{◌≤◌}
use Rattle.tokens.specs.Terminals.{count}
use Rattle.refusals.specs.Shapes.{row_turn}
use Rattle.refusals.proofs.Repeating.{Going}
use Rattle.productions.specs.Desks.{Same, text, rows, unread}
use Rattle.productions.specs.Following.{rows_in}
use Rattle.productions.proofs.following.rows.Given as goal

abbrev pub invariant-loop-desk : goal.invariant-loop-desk
invariant-loop-desk g l =
    let begins = g.R.Row.begins l.row in
    let row = g.R.Row.production l.row in
    let desk = l.initial.desk in
    record {
      going : Going (row_turn begins (λ next. row next (text desk))) (rows l.desk, l.next) (unread l.desk) (rows_in begins row l.initial.next (text desk) (rows desk) (unread desk));
      on : count (unread l.desk) ≤ count (unread desk);
      same : Same desk l.desk;
    }

abbrev pub decreases-loop-desk : goal.decreases-loop-desk
decreases-loop-desk g l = count (unread l.desk)
