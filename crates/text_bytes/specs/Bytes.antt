-- The bytes of a plan text: which of them are blanks, letters, digits and marks, how long a gap is, and what number digits write.
use Rattle.std.specs.Prelude.{ℕ, ◌+◌, ◌-◌, ◌*◌, Bool, true, false, cond, not, ◌&&◌, ◌||◌, List, [], ◌∷◌, Some, None, Option, ◌==◌, nat_le}
use Rattle.text_bytes.specs.declared.kinds.Mark.{Mark}
use Rattle.text_bytes.specs.declared.kinds.Mark.TheVariants.{OpenBrace, CloseBrace, Semicolon, Colon, Comma, Equals, FullStop, Minus}
use Rattle.text_bytes.specs.declared.kinds.ByteKind.{ByteKind}
use Rattle.text_bytes.specs.declared.kinds.ByteKind.TheVariants.{OfName, OfNumber, OfString}

-- space, tab, carriage return, line feed
abbrev pub blank : ℕ → Bool
blank b = b == 32 || (b == 9 || (b == 13 || b == 10))

-- an underscore or one of the letters a to z and A to Z
abbrev pub letter : ℕ → Bool
letter b = b == 95 || ((nat_le 97 b && nat_le b 122) || (nat_le 65 b && nat_le b 90))

abbrev pub digit : ℕ → Bool
digit b = nat_le 48 b && nat_le b 57

-- what may stand between the quotes of a string: 32 to 126, and no quote
abbrev pub of_kind : ByteKind → ℕ → Bool
of_kind OfName b = letter b || digit b
of_kind OfNumber b = digit b
of_kind OfString b = nat_le 32 b && (nat_le b 126 && not (b == 34))

-- { } ; : , = . -
abbrev pub mark_byte : Mark → ℕ
mark_byte OpenBrace = 123
mark_byte CloseBrace = 125
mark_byte Semicolon = 59
mark_byte Colon = 58
mark_byte Comma = 44
mark_byte Equals = 61
mark_byte FullStop = 46
mark_byte Minus = 45

-- whether two marks are the same
abbrev pub same_mark : Mark → Mark → Bool
same_mark a b = mark_byte a == mark_byte b

abbrev pub mark_of : ℕ → Option Mark
mark_of b =
    cond (b == 123) (Some OpenBrace) (cond (b == 125) (Some CloseBrace) (cond (b == 59) (Some Semicolon) (cond (b == 58) (Some Colon) (cond (b == 44) (Some Comma) (cond (b == 61) (Some Equals) (cond (b == 46) (Some FullStop) (cond (b == 45) (Some Minus) None)))))))

-- how many bytes of blanks and comments stand in front; the flag says that a comment is open
abbrev pub gap : Bool → List ℕ → ℕ
gap open_comment [] = 0
gap true (b ∷ bs) = 1 + gap (not (b == 10)) bs
gap false (b ∷ bs) = cond (b == 35) (1 + gap true bs) (cond (blank b) (1 + gap false bs) 0)

-- the number that digits write in base ten, with v already read
abbrev pub numeral : ℕ → List ℕ → ℕ
numeral v [] = v
numeral v (d ∷ ds) = numeral (v * 10 + (d - 48)) ds

-- the number that digits write, where it is at most 2147483647
abbrev pub number : List ℕ → Option ℕ
number ds = cond (nat_le (numeral 0 ds) 2147483647) (Some (numeral 0 ds)) None
