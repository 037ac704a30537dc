-- Values: [-] number, from -32768 to 32767.
use Rattle.std.specs.Prelude.{ℕ, ◌+◌, ◌-◌, Bool, true, false, cond, Some, None, Ok, Err, Option, Result, nat_le}
use Rattle.tokens.specs.Terminals.{Tokens}
use Rattle.plan.specs.declared.rows.Value.{Value}
use Rattle.grammar.specs.declared.readers.Numeral.{Numeral}
use Rattle.grammar.specs.declared.readers.ValueStart.{ValueStart}
use Rattle.grammar.specs.declared.readers.ValueStart.TheVariants.{Minus, Digits}
use Rattle.grammar.specs.Readers.{number_in, value_start_in}
use Rattle.refusals.specs.declared.fault.LoadFault.{LoadFault}
use Rattle.refusals.specs.declared.fault.LoadFault.TheVariants.{Rule}
use Rattle.refusals.specs.declared.fault.RuleFault.TheVariants.{OutOfRange}
use Rattle.refusals.specs.Steps.{Loaded, parse}
use Rattle.values.specs.declared.ReadValue.{ReadValue}

-- the value of a number, negative or not, where it is in range; its code is 32768 more than the value
abbrev pub coded : Bool → ℕ → Option Value
coded true n = cond (nat_le n 32768) (Some (record { code = 32768 - n })) None
coded false n = cond (nat_le n 32767) (Some (record { code = 32768 + n })) None

abbrev pub placed_value : ℕ → Option Value → Result ReadValue LoadFault
placed_value p (Some v) = Ok (record { value = v; place = p })
placed_value p None = Err (Rule (OutOfRange p))

abbrev pub ranged : Bool → Numeral → Result ReadValue LoadFault
ranged negative n = placed_value n.place (coded negative n.value)

abbrev pub leaving : Result ReadValue LoadFault → Tokens → Loaded ReadValue
leaving (Ok v) ts = Ok (v, ts)
leaving (Err e) ts = Err e

-- the value that has begun so
abbrev pub value_from : ValueStart → Tokens → Loaded ReadValue
value_from (Minus p) ts = parse (number_in ts) λ n ts. leaving (ranged true n) ts
value_from (Digits n) ts = leaving (ranged false n) ts

-- [-] number
abbrev pub value_in : Tokens → Loaded ReadValue
value_in ts = parse (value_start_in ts) λ start ts. value_from start ts
