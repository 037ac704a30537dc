use Rattle.std.proofs.Common.{◌≡◌, ◌≤◌, false, eqb, ltb, length, sym, ◌∙◌, rules}
use Rattle.load.specs.Loading.{loaded}
use Rattle.load.proofs.Filled.{read_whole, given_so, place_nearer}
use Rattle.load.proofs.loader.Loader.read.Goals as goal

pub returns-then-text-eq0 : goal.returns-then-text-eq0
unfolding loaded
returns-then-text-eq0 c = search rules

pub returns-then-text-gt-MOST_BYTES : goal.returns-then-text-gt-MOST_BYTES
unfolding loaded
returns-then-text-gt-MOST_BYTES c = search rules

pub returns : goal.returns
returns c =
    let text = c.args.text.now in
    let some : eqb (length text) 0 ≡ false = search rules in
    let few : ltb 65536 (length text) ≡ false = search rules in
    let small : length text ≤ 65536 = search rules in
    let e = c.read_text.ensures in
    record {
      told = e.told ∙ sym (read_whole text some few);
      kept = e.kept;
      within = e.near;
      small = given_so c.read_text.result small;
      near = place_nearer c.read_text.result small e.near;
    }
