-- The cases of the sample plan that are proved.
use Rattle.std.specs.Prelude.{◌≡◌, ℕ, List, [], ◌∷◌, Some, None, Ok, Err, codes, Option, Result}
use Rattle.refusals.specs.declared.fault.LoadFault.{LoadFault}
use Rattle.refusals.specs.Told.{told}
use Rattle.load.specs.Loading.{loaded}
use Rattle.worked.specs.Sample.{sample_with, sample}

pub data Case : Type 0 where
  accepts : List ℕ → Case
  refuses : List ℕ → ℕ → Case

-- the number by which a load is refused
abbrev pub refusal : {X : Type 0} → Result X LoadFault → Option ℕ
refusal (Ok x) = None
refusal (Err e) = Some (told e).number

abbrev pub Holds : Case → Type 0
Holds (accepts text) = refusal (loaded text) ≡ None
Holds (refuses text n) = refusal (loaded text) ≡ Some n

abbrev pub EachHolds : List Case → Type 0
EachHolds [] = Unit {0}
EachHolds (c ∷ cs) = Holds c × EachHolds cs

abbrev pub cases : List Case
cases =
    -- the sample plan is accepted
    accepts sample
    -- the item First does not list the value 1, which its flow returns
    ∷ refuses (sample_with (codes ", Shelf") (codes "")) 13
    -- AllGood has no bin of the group Crates at or above it
    ∷ refuses (sample_with (codes "") (codes "Result 1 { Return 1; }")) 15
    ∷ []
