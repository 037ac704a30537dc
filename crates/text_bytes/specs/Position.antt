-- The line and column of a place, both counted from 1.
use Rattle.std.specs.Prelude.{ℕ, ◌+◌, Bool, not, List, take, count_by, ◌==◌}
use Rattle.std.specs.List.{suffix_len}

abbrev pub feed : ℕ → Bool
feed b = b == 10

-- one more than the line feeds in front of the place
abbrev pub line_at : List ℕ → ℕ → ℕ
line_at text place = 1 + count_by feed (take place text)

-- one more than the bytes between the last line feed in front of the place, or the start of the text, and the place
abbrev pub column_at : List ℕ → ℕ → ℕ
column_at text place = 1 + suffix_len (λ b. not (feed b)) (take place text)
