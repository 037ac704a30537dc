-- A load's outcome as one number.
use Rattle.std.specs.Prelude.{ℕ, ◌+◌, ◌*◌, Ok, Err, Result}
use Rattle.refusals.specs.declared.fault.LoadFault.{LoadFault}
use Rattle.refusals.specs.Told.{told}

-- 0 where the text is accepted, else place and number of the fault; numbers are below 64
abbrev pub answer_to : {X : Type 0} → Result X LoadFault → ℕ
answer_to (Ok x) = 0
answer_to (Err e) = (told e).place * 64 + (told e).number

-- what no load answers: place 0, number 40
abbrev pub want_of_memory : ℕ
want_of_memory = 40
