-- What stands at an offset of a text, as the reader finds it: skip the gap, look at one byte, run to the token's end, measure it.
use Rattle.std.specs.Prelude.{ℕ, zero, suc, ◌+◌, ◌-◌, false, cond, ◌&&◌, ◌||◌, List, length, drop, Some, None, Option, ◌==◌, nat_le, nat_lt, slice_index, slice_range}
use Rattle.std.specs.List.{prefix_len}
use Rattle.text_bytes.specs.declared.kinds.Mark.{Mark}
use Rattle.text_bytes.specs.declared.kinds.ByteKind.{ByteKind}
use Rattle.text_bytes.specs.declared.kinds.ByteKind.TheVariants.{OfName, OfNumber, OfString}
use Rattle.text_bytes.specs.Bytes.{letter, digit, of_kind, gap, mark_of}
use Rattle.tokens.specs.declared.fault.TokenFault.{TokenFault}
use Rattle.tokens.specs.declared.fault.TokenFault.TheVariants.{StrayByte, ByteInString, TooLong, OpenString}
use Rattle.tokens.specs.Terminals.{Terminal, Tokens}
use Rattle.tokens.specs.Terminals as t
use Rattle.tokens.specs.Spelling.{Lexeme, measured}
use Rattle.tokens.specs.Spelling as s

-- a token with its place and the offset behind it, the end of the text likewise, or a fault
pub data Scanned : Type 0 where
  found : Terminal → ℕ → ℕ → Scanned
  finished : ℕ → ℕ → Scanned
  faulty : TokenFault → Scanned

abbrev pub part : List ℕ → ℕ → ℕ → List ℕ
part text p e = slice_range text p e

-- where the blanks and comments end that begin at p
abbrev pub gap_end : List ℕ → ℕ → ℕ
gap_end text p = p + gap false (drop p text)

-- where the bytes of a kind end that begin at p
abbrev pub run_end : List ℕ → ℕ → ByteKind → ℕ
run_end text p k = p + prefix_len (of_kind k) (drop p text)

-- what a lexeme from p to e comes to once it is measured
abbrev pub judged : Option Terminal → ℕ → ℕ → Scanned
judged (Some x) p e = found x p e
judged None p e = faulty (TooLong p)

abbrev pub word_to : List ℕ → ℕ → ℕ → Scanned
word_to text p e = judged (measured (s.word (part text p e))) p e

abbrev pub number_to : List ℕ → ℕ → ℕ → Scanned
number_to text p e = judged (measured (s.digits (part text p e))) p e

abbrev pub decimal_to : List ℕ → ℕ → ℕ → Scanned
decimal_to text p e = judged (measured (s.fraction (part text p e))) p e

-- digits end at e; a full stop and a digit there make a decimal of them
abbrev pub digits_to : List ℕ → ℕ → ℕ → Scanned
digits_to text p e = cond (nat_lt (e + 1) (length text) && (slice_index text e == 46 && digit (slice_index text (e + 1)))) (decimal_to text p (run_end text (e + 1) OfNumber)) (number_to text p e)

-- the string that begins at p has good bytes up to e
abbrev pub string_to : List ℕ → ℕ → ℕ → Scanned
string_to text p e =
    cond (nat_lt 64 (e - (p + 1))) (faulty (TooLong p)) (cond (nat_le (length text) e || slice_index text e == 10) (faulty (OpenString p)) (cond (slice_index text e == 34) (found (t.string (part text (p + 1) e)) p (e + 1)) (faulty (ByteInString e))))

abbrev pub mark_at : Option Mark → ℕ → Scanned
mark_at (Some m) p = found (t.mark m) p (p + 1)
mark_at None p = faulty (StrayByte p)

-- the token that begins at p with the byte b
abbrev pub begun : List ℕ → ℕ → ℕ → Scanned
begun text p b =
    cond (letter b) (word_to text p (run_end text (p + 1) OfName)) (cond (digit b) (digits_to text p (run_end text (p + 1) OfNumber)) (cond (b == 34) (string_to text p (run_end text (p + 1) OfString)) (mark_at (mark_of b) p)))

abbrev pub token_at : List ℕ → ℕ → Scanned
token_at text p = cond (nat_lt p (length text)) (begun text p (slice_index text p)) (finished p p)

-- the first token at p or behind it
unfoldable pub scanned : List ℕ → ℕ → Scanned
scanned text p = token_at text (gap_end text p)

-- where the reader goes on from p
abbrev pub onward : ℕ → Scanned → ℕ
onward p (found x q e) = e
onward p (finished q e) = e
onward p (faulty e) = p

-- what was found, and behind it the tokens that are left
abbrev pub before : Scanned → Tokens → Tokens
before (found x p e) ts = t.token x p ts
before (finished p e) ts = t.end p
before (faulty e) ts = t.fault e

-- a token has a byte at least, so fuel that is more than the bytes left suffices
unfoldable pub tokens_by : ℕ → List ℕ → ℕ → Tokens
tokens_by zero text p = t.end p
tokens_by (suc n) text p = before (scanned text p) (tokens_by n text (onward p (scanned text p)))

-- the tokens of a text from offset p on
unfoldable pub tokens_from : List ℕ → ℕ → Tokens
tokens_from text p = tokens_by (suc (length text - p)) text p
