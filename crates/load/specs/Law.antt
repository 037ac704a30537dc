-- That exactly the texts which obey the language are accepted, each with its one plan.
use Rattle.std.specs.Prelude.{◌≡◌, ℕ, List, Ok, Err, Result}
use Rattle.plan.specs.declared.plan.Plan.{Plan}
use Rattle.plan.specs.Plans.{draft_of, text_of}
use Rattle.refusals.specs.declared.fault.LoadFault.{LoadFault}
use Rattle.language.specs.Standing.{Known, known}
use Rattle.language.specs.Obeying.{Obeys}

-- a plan as it is known outside
abbrev pub known_of : Plan → Known
known_of p = known (text_of p) p.title (draft_of p)

-- accepted: the text obeys the language, the plan afterwards is the text's, and no other plan is; refused: the text obeys
-- the language with no plan
abbrev pub ExactlyObeying : List ℕ → Result (Unit {0}) LoadFault → Plan → Type 0
ExactlyObeying text (Ok u) after = Obeys text (known_of after) × ((plan : Known) → Obeys text plan → plan ≡ known_of after)
ExactlyObeying text (Err e) after = (plan : Known) → Obeys text plan → ⊥

-- the same of a check, which makes no plan
abbrev pub AcceptsObeying : List ℕ → Result (Unit {0}) LoadFault → Type 0
AcceptsObeying text (Ok u) = (plan : Known) × Obeys text plan
AcceptsObeying text (Err e) = (plan : Known) → Obeys text plan → ⊥
