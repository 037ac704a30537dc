-- Membership among rows.
use Rattle.std.specs.Prelude.{ℕ, Bool, List, ◌==◌}
use Rattle.std.specs.List.{list_any}

-- a row with this code stands among the rows
abbrev pub among : {R : Type 0} → (R → ℕ) → ℕ → List R → Bool
among code n rows = list_any (λ row. code row == n) rows
