use Rattle.std.proofs.Common.{◌≡◌, sym, ap, ◌∙◌}
use Rattle.tokens.specs.Scanning.{scanned, before, tokens_from}
use Rattle.tokens.specs.Answers.{seen}
use Rattle.tokens.proofs.Readings.{the_reading, rest_step}
use Rattle.tokens.proofs.reader.Reader.next.Goals as goal

pub returns : goal.returns
unfolding scanned
returns c =
    let text = c.args.self.now.text.now in
    let at = c.args.self.now.at in
    let told : seen c.advance.result ≡ scanned text at = c.advance.ensures.found in
    record { told = told; moved = c.advance.ensures.moved; text = c.advance.ensures.text; rest = rest_step text at c.advance.new.self.at (seen c.advance.result) told c.advance.ensures.moved ∙ ap (λ x. before (seen c.advance.result) (tokens_from x.now c.advance.new.self.at)) (sym c.advance.ensures.text); reading = the_reading text at; forward = c.advance.ensures.forward }
