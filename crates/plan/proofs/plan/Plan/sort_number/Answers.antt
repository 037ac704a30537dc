use Rattle.std.proofs.Common.{◌≡◌, length, is_some, Some, None, sym, ap, ◌∙◌, rules}
use Rattle.std.specs.Option.{option_map}
use Rattle.plan.specs.declared.rows.Bin.{Bin}
use Rattle.plan.specs.Plans.{draft_of, means}
use Rattle.plan.specs.Finding.{first_of_group}
use Rattle.plan.proofs.Climbs.{sort_number_is, no_sort_number, leaf_sorted_lem, sorted_as}
use Rattle.plan.proofs.plan.Plan.sort_number.Goals as goal

pub returns-in_err-group : goal.returns-in_err-group
returns-in_err-group c =
    let p = c.args.self.now in
    let none : None ≡ (means p).sort_group = search rules in
    let meant = c.from_residual.ensures ∙ no_sort_number (draft_of p) c.args.leaf none in
    record { meant = meant; first = λ n e. sorted_as (means p) c.args.leaf n (sym meant ∙ e); sorted = λ l. ap is_some meant ∙ leaf_sorted_lem (means p) p.keeps c.args.leaf l }

pub returns : goal.returns
returns c =
    let p = c.args.self.now in
    let bins = (draft_of p).bins in
    let some : Some c.in_ok-group.group ≡ (means p).sort_group = search rules in
    let met : c.map.result ≡ option_map (λ (b : Bin). b.number) (first_of_group bins c.in_ok-group.group (length bins) c.args.leaf) = search rules in
    let meant = sort_number_is (draft_of p) c.args.leaf c.in_ok-group.group _ some met in
    record { meant = meant; first = λ n e. sorted_as (means p) c.args.leaf n (sym meant ∙ e); sorted = λ l. ap is_some meant ∙ leaf_sorted_lem (means p) p.keeps c.args.leaf l }
