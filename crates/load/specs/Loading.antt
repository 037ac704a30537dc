-- What a text is loaded as, and what that leaves of the plan that was there.
use Rattle.std.specs.Prelude.{◌≡◌, ℕ, cond, List, length, Ok, Err, Result, ◌==◌, nat_lt}
use Rattle.tokens.specs.Scanning.{tokens_from}
use Rattle.plan.specs.declared.rows.Name.{Name}
use Rattle.plan.specs.Drafts.{Draft, blank}
use Rattle.plan.specs.declared.plan.Plan.{Plan}
use Rattle.plan.specs.Plans.{draft_of, text_of}
use Rattle.refusals.specs.declared.fault.LoadFault.{LoadFault}
use Rattle.refusals.specs.declared.fault.LoadFault.TheVariants.{NoBytes, TooManyBytes}
use Rattle.plan_file.specs.File.{file_in}

-- the plan's name and its tables: a text of 1 to 65536 bytes, read from its first token to its last; or the fault
unfoldable pub loaded : List ℕ → Result (Name × Draft) LoadFault
loaded text = cond (length text == 0) (Err NoBytes) (cond (nat_lt 65536 (length text)) (Err TooManyBytes) (file_in text blank (tokens_from text 0)))

-- whether it is accepted, or the fault
abbrev pub verdict : {X : Type 0} → Result X LoadFault → Result (Unit {0}) LoadFault
verdict (Ok x) = Ok tt
verdict (Err e) = Err e

-- the text was loaded: the plan is the text's, and nothing of the plan before is left; or it was refused, and the plan
-- stands as it did
abbrev pub Loads : List ℕ → Plan → Result (Unit {0}) LoadFault → Plan → Type 0
Loads text before (Ok u) after = (loaded text ≡ Ok (after.title, draft_of after)) × (text_of after ≡ text)
Loads text before (Err e) after = (loaded text ≡ Err e) × (after ≡ before)
