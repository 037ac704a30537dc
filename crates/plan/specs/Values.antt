-- Result values as signed numbers.
use Rattle.std.specs.Prelude.{ℕ, ◌+◌, ◌-◌, cond, ℤ, pos, negsuc, ◌-ℤ◌, Some, None, Option, nat_lt}
use Rattle.plan.specs.declared.rows.Value.{Value}

-- the number that a value stands for
abbrev pub signed_of : Value → ℤ
signed_of v = pos v.code -ℤ pos 32768

abbrev pub of_code : ℕ → Value
of_code n = record { code = n }

-- a value for each number from -32768 to 32767 (`negsuc n` is -1 - n)
abbrev pub value_of : ℤ → Option Value
value_of (pos n) = cond (nat_lt n 32768) (Some (of_code (n + 32768))) None
value_of (negsuc n) = cond (nat_lt n 32768) (Some (of_code (32767 - n))) None
