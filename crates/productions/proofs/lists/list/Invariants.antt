use Rattle.std.proofs.Common.{◌≡◌, ◌≤◌}
use Rattle.tokens.specs.Terminals.{count}
use Rattle.refusals.proofs.Repeating.{Going}
use Rattle.productions.specs.Desks.{Same, text, rows, unread}
use Rattle.productions.specs.Following.{list_turn, list_in}
use Rattle.productions.proofs.lists.list.Given as goal

abbrev pub invariant-loop-desk : goal.invariant-loop-desk
invariant-loop-desk g l =
    let entry = g.E.Entry.production l.entry in
    let desk = l.initial.desk in
    record {
      going : Going (list_turn l.last (entry (text desk))) (rows l.desk) (unread l.desk) (list_in l.last entry (text desk) (rows desk) (unread desk));
      on : count (unread l.desk) ≤ count (unread desk);
      same : Same desk l.desk;
      kept : (rows l.desk).clauses ≡ (rows desk).clauses;
    }

abbrev pub decreases-loop-desk : goal.decreases-loop-desk
decreases-loop-desk g l = count (unread l.desk)
