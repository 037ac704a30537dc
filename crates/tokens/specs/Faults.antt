-- What is told of a fault of the token reader.
use Rattle.std.specs.Prelude.{ℕ}
use Rattle.tokens.specs.declared.fault.TokenFault.{TokenFault}
use Rattle.tokens.specs.declared.fault.TokenFault.TheVariants.{StrayByte, ByteInString, TooLong, OpenString}

pub record Told : Type 0 where
  pub number : ℕ
  pub place : ℕ

abbrev pub told : TokenFault → Told
told (StrayByte p) = record { number = 3; place = p }
told (ByteInString p) = record { number = 3; place = p }
told (TooLong p) = record { number = 4; place = p }
told (OpenString p) = record { number = 5; place = p }
