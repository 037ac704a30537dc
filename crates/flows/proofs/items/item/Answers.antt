use Rattle.std.proofs.Common.{◌<◌, sym, ap, length, arith, rules}
use Rattle.tokens.specs.Reading.{rest}
use Rattle.productions.specs.Desks.{text, rows, unread}
use Rattle.flows.proofs.Keeping.{clauses_beside}
use Rattle.flows.proofs.items.item.Goals as goal

pub add-requires : goal.add-requires
add-requires c =
    let desk = c.args.desk.now in
    let read = c.clauses.new.desk in
    let beside = clauses_beside (text desk) (rows desk) (rest c.read_runs.new.r) (rows read) (unread read) (sym c.in_ok-clauses.ensures.told) in
    let room : length (rows desk).items < 512 = search rules in
    omega (arith, ap length beside.items)
