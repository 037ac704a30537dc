-- What a plan holds, and what it means.
use Rattle.std.specs.Prelude.{ℕ, List, vec_items}
use Rattle.plan.specs.declared.plan.Plan.{Plan}
use Rattle.plan.specs.Drafts.{Draft, drafted}
use Rattle.plan.specs.Meaning.{Meaning, meaning}

abbrev pub draft_of : Plan → Draft
draft_of p = drafted p.tables

abbrev pub text_of : Plan → List ℕ
text_of p = vec_items p.text

abbrev pub means : Plan → Meaning
means p = meaning (draft_of p)
