use Rattle.std.proofs.Common.{◌≡◌, ◌<◌, length, drop, sym, ap, ◌∙◌, arith, length-append, rules}
use Rattle.tokens.specs.Reading.{rest}
use Rattle.productions.specs.Desks.{text, rows, unread}
use Rattle.flows.specs.Checks.{deepest}
use Rattle.flows.proofs.Keeping.{items_added, items_behind}
use Rattle.flows.proofs.flow_block.flow.Goals as goal

pub close_flow-requires : goal.close_flow-requires
close_flow-requires c =
    let desk = c.args.desk.now in
    let read = c.items.new.desk in
    let d = rows desk in
    let e = rows read in
    let p = items_added (text desk) d (rest c.name.new.r) e (unread read) (sym c.in_ok-items.ensures.told) in
    let first : c.len-first.result ≡ length d.items = omega arith in
    let own : drop c.len-first.result e.items ≡ p.more = ap (λ n. drop n e.items) first ∙ items_behind p in
    let left : length d.flows < 64 = search rules in
    record {
      room = omega (arith, ap length p.flows);
      few = omega (arith, ap length own, first, p.few, ap length p.items, length-append d.items p.more);
      shallow = omega (arith, ap (deepest e.flows) own, ap (λ l. deepest l p.more) p.flows, p.shallow);
    }
