use Rattle.std.proofs.Common.{◌≡◌, ℕ, List, length, Ok, Err, Result, sym, ap, ◌∙◌, subst, rules}
use Rattle.tokens.specs.Reading.{rest}
use Rattle.tokens.specs.Spelling.{Within}
use Rattle.tokens.specs.Scanning.{tokens_from}
use Rattle.tokens.proofs.Readings.{the_reading}
use Rattle.plan.specs.declared.rows.Name.{Name}
use Rattle.plan.specs.Drafts.{Draft, blank}
use Rattle.refusals.specs.declared.fault.LoadFault.{LoadFault}
use Rattle.productions.specs.Desks.{rows}
use Rattle.plan_file.specs.File.{file_in, filed, Kept, PlaceWithin}
use Rattle.plan_file.proofs.Kept.{file_kept}
use Rattle.plan_file.proofs.NearFile.{file_near}
use Rattle.plan_file.proofs.whole.read_text.Goals as goal

-- an accepted answer, with the tables that it leaves
answer_kept : (text : List ℕ) (v : Result Name LoadFault) (d : Draft) → filed v d ≡ file_in text blank (tokens_from text 0) → Kept text v d
answer_kept text (Ok n) d h = ∣ file_kept text n d (sym h) ∣₁
answer_kept text (Err e) d h = tt

-- a fault, where every place of the tokens is at most n
answer_near : (n : ℕ) (text : List ℕ) (v : Result Name LoadFault) (d : Draft) → filed v d ≡ file_in text blank (tokens_from text 0) → Within n (tokens_from text 0) → PlaceWithin n v
answer_near n text (Ok m) d h w = tt
answer_near n text (Err e) d h w = subst (PlaceWithin n) (sym h) (file_near n text blank (tokens_from text 0) tt w)

pub returns : goal.returns
returns c =
    let text = c.args.text.now in
    let all : rest c.new.result ≡ tokens_from text 0 = (the_reading text 0).only _ c.new.ensures.reading.reads in
    let told : filed c.file.result (rows c.file.new.desk) ≡ file_in text blank (tokens_from text 0) = c.file.ensures.told ∙ (ap (λ d. file_in text d (rest c.new.result)) c.clear.ensures ∙ ap (λ ts. file_in text blank ts) all) in
    let within : Within (length text) (tokens_from text 0) = subst (Within (length text)) all c.new.ensures.within in
    let kept : Kept text c.file.result (rows c.file.new.desk) = answer_kept text c.file.result (rows c.file.new.desk) told in
    record {
      told = search rules;
      kept = search rules;
      near = answer_near (length text) text c.file.result (rows c.file.new.desk) told within;
    }
