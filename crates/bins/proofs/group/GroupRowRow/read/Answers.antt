use Rattle.std.proofs.Common.{◌≡◌, ℕ, List, length, ap, ◌∙◌, rules}
use Rattle.keywords.specs.declared.Keyword.TheVariants.{LeafBin}
use Rattle.tokens.specs.Terminals.{Tokens}
use Rattle.tokens.specs.Reading.{rest}
use Rattle.plan.specs.declared.rows.Group.{Group}
use Rattle.plan.specs.Drafts.{Draft}
use Rattle.refusals.specs.Shapes.{is_keyword}
use Rattle.productions.specs.Desks.{text, rows}
use Rattle.productions.specs.Following.{braced_in}
use Rattle.bins.specs.Bins.{begins_bin, bin_in, group_bins_in}
use Rattle.bins.proofs.group.GroupRowRow.read.Goals as goal

-- the bins of a group, by whatever name its number and the groups go
bins_of : (text : List ℕ) (d : Draft) (ts : Tokens) {g group : ℕ} → g ≡ group → {gs groups : List Group} → gs ≡ groups → braced_in (λ f. begins_bin f.symbol) (λ f text. bin_in text g (is_keyword LeafBin f) f.place) text (record d { groups = gs }) ts ≡ group_bins_in text group (record d { groups = groups }) ts
bins_of text d ts {group = group} e {gs = gs} f = ap (λ g. group_bins_in text g (record d { groups = gs }) ts) e ∙ ap (λ gs. group_bins_in text group (record d { groups = gs }) ts) f

pub returns : goal.returns
returns c =
    let group : c.len-group.result ≡ length (rows c.args.desk.now).groups = search rules in
    let braced = c.braced.ensures.told ∙ bins_of (text c.args.desk.now) (rows c.args.desk.now) (rest c.name.new.r) group c.add.ensures in
    record { told = search rules; on = search rules; same = search rules }
