-- Names of rows as bytes of the text, and the row that a word names.
use Rattle.std.specs.Prelude.{ℕ, ◌+◌, Bool, cond, List, [], ◌∷◌, Some, None, Option}
use Rattle.std.specs.Str.{bytes_eq}
use Rattle.plan.specs.declared.rows.Name.{Name}
use Rattle.plan.specs.Rules.{spelt}

-- whether two names are the same
abbrev pub same_name : List ℕ → List ℕ → Bool
same_name a b = bytes_eq a b

-- the number of the first row from n on that has this name
abbrev pub found_from : {R : Type 0} → ℕ → (R → Name) → List ℕ → List R → List ℕ → Option ℕ
found_from n named text [] word = None
found_from n named text (row ∷ rows) word = cond (same_name (spelt text (named row)) word) (Some n) (found_from (n + 1) named text rows word)

-- the number of the first row that has this name
abbrev pub found : {R : Type 0} → (R → Name) → List ℕ → List R → List ℕ → Option ℕ
found named text rows word = found_from 0 named text rows word
