use Rattle.std.proofs.Common.{◌≡◌, length, ap, ◌∙◌, arith}
use Rattle.keywords.specs.declared.Keyword.TheVariants as kw
use Rattle.refusals.specs.Shapes.{is_keyword}
use Rattle.productions.specs.Desks.{text, rows, unread}
use Rattle.productions.specs.Following.{braced_in}
use Rattle.flows.specs.Flows.{item_in}
use Rattle.flows.proofs.flow_block.items.Goals as goal

pub returns : goal.returns
returns c =
    let desk = c.args.desk.now in
    let read = c.braced.ensures in
    let first : c.len-first.result ≡ length (rows desk).items = omega arith in
    record {
      told = read.told ∙ ap (λ n. braced_in (is_keyword kw.FlowItem) (λ next text. item_in text n next.place) (text desk) (rows desk) (unread desk)) first;
      on = read.on;
      same = read.same;
    }
