use Rattle.std.proofs.Common.{◌≡◌, length, ap, ◌∙◌, arith}
use Rattle.keywords.specs.declared.Keyword.TheVariants as kw
use Rattle.refusals.specs.Shapes.{is_keyword}
use Rattle.productions.specs.Desks.{text, rows, unread}
use Rattle.productions.specs.Following.{braced_in}
use Rattle.clauses.specs.Clauses.{clause_in}
use Rattle.flows.proofs.items.clauses.Goals as goal

pub returns : goal.returns
returns c =
    let desk = c.args.desk.now in
    let read = c.braced.ensures in
    let first : c.len-first.result ≡ length (rows desk).values = omega arith in
    record {
      told = read.told ∙ ap (λ n. braced_in (is_keyword kw.Result) (λ next text. clause_in text next.place n) (text desk) (rows desk) (unread desk)) first;
      on = read.on;
      same = read.same;
    }
