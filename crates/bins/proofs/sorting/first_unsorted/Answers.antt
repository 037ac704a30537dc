use Rattle.std.proofs.Common.{◌≡◌, ℕ, rules, ap, ◌∙◌}
use Rattle.std.proofs.lemmas.Iterator.{YieldsList-from_slice}
use Rattle.std.proofs.lemmas.Iterator.Consumers.{YieldsList-from_enumerate}
use Rattle.std.proofs.lemmas.Iterator.Search.{find_from_yields_List}
use Rattle.std.specs.Option.{option_map}
use borrow.Author.Tests.{tests}
use Rattle.plan.specs.declared.rows.Bin.{Bin}
use Rattle.bins.specs.Sorting.{unsorted}
use Rattle.bins.proofs.Scans.{first_unsorted_found}
use Rattle.bins.proofs.sorting.first_unsorted.Goals as goal

pub returns : goal.returns
returns c =
    let bins = c.args.bins.now in
    let found = find_from_yields_List (λ (p : ℕ × Bin). unsorted bins c.args.group p.0 p.1) _ _ c.find.result c.find.ensures.ran (YieldsList-from_enumerate (YieldsList-from_slice bins cc) cc) (λ x b q k. search (rules, tests)) in
    let place = λ (p : ℕ × Bin). p.1.name.place in
    let placed : c.map.result ≡ option_map place (option_map (λ p. (p.0, p.1.now)) c.find.result) = search rules in
    placed ∙ (ap (option_map place) found ∙ first_unsorted_found bins c.args.group 0 bins)
