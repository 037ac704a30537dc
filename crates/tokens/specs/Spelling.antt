-- The law of the token reader: how bytes spell tokens. No offset is computed here but the places told.
use Rattle.std.specs.Prelude.{◌≡◌, ℕ, ◌+◌, ◌≤◌, Bool, true, false, cond, not, ◌&&◌, List, [], ◌∷◌, ◌++◌, length, Some, None, Option, ◌==◌, ◌≢◌, nat_eq, nat_le}
use Rattle.keywords.specs.declared.Keyword.{Keyword}
use Rattle.keywords.specs.Keywords as kw
use Rattle.text_bytes.specs.declared.kinds.Mark.{Mark}
use Rattle.text_bytes.specs.declared.kinds.ByteKind.TheVariants.{OfName, OfString}
use Rattle.text_bytes.specs.Bytes.{blank, letter, digit, of_kind, mark_byte, numeral}
use Rattle.tokens.specs.declared.fault.TokenFault.TheVariants.{StrayByte, ByteInString, TooLong, OpenString}
use Rattle.tokens.specs.Terminals.{Terminal, Tokens}
use Rattle.tokens.specs.Terminals as t
use Rattle.tokens.specs.Faults as f

abbrev pub Each : (ℕ → Bool) → List ℕ → Type 0
Each p [] = Unit {0}
Each p (b ∷ bs) = (p b ≡ true) × Each p bs

-- a token before it is measured, by its bytes; a string by what stands between its quotes
pub data Lexeme : Type 0 where
  word : List ℕ → Lexeme
  digits : List ℕ → Lexeme
  fraction : List ℕ → Lexeme
  quoted : List ℕ → Lexeme
  sign : Mark → Lexeme

-- how a lexeme is written, however long it is
pub data Written : Lexeme → List ℕ → Type 0 where
  a_word : (b : ℕ) (bs : List ℕ) → letter b ≡ true → Each (of_kind OfName) bs → Written (word (b ∷ bs)) (b ∷ bs)
  a_number : (b : ℕ) (bs : List ℕ) → digit b ≡ true → Each digit bs → Written (digits (b ∷ bs)) (b ∷ bs)
  a_decimal : (b : ℕ) (bs : List ℕ) (c : ℕ) (cs : List ℕ) → digit b ≡ true → Each digit bs → digit c ≡ true → Each digit cs → Written (fraction (b ∷ (bs ++ 46 ∷ c ∷ cs))) (b ∷ (bs ++ 46 ∷ c ∷ cs))
  a_string : (bs : List ℕ) → Each (of_kind OfString) bs → Written (quoted bs) (34 ∷ (bs ++ 34 ∷ []))
  a_mark : (m : Mark) → Written (sign m) (mark_byte m ∷ [])

-- the lexeme written in w is the longest that can be read where w and then r stand
abbrev pub Longest : List ℕ → List ℕ → Type 0
Longest w r = (l : Lexeme) (v u : List ℕ) → Written l v → v ++ u ≡ w ++ r → length v ≤ length w

abbrev pub named : Option Keyword → List ℕ → Terminal
named (Some k) bs = t.keyword k
named None bs = t.name bs

-- the token that a lexeme is, unless it is too long or too large
abbrev pub measured : Lexeme → Option Terminal
measured (word bs) = cond (nat_le (length bs) 32) (Some (named (kw.keyword bs) bs)) None
measured (digits bs) = cond (nat_le (length bs) 32 && nat_le (numeral 0 bs) 2147483647) (Some (t.number (numeral 0 bs))) None
measured (fraction bs) = cond (nat_le (length bs) 32) (Some (t.decimal bs)) None
measured (quoted bs) = cond (nat_le (length bs) 64) (Some (t.string bs)) None
measured (sign m) = Some (t.mark m)

abbrev pub not_feed : ℕ → Bool
not_feed b = not (b == 10)

-- blanks and comments, each comment from its # to its line feed
pub data Gap : List ℕ → Type 0 where
  none : Gap []
  blank_byte : (b : ℕ) (g : List ℕ) → blank b ≡ true → Gap g → Gap (b ∷ g)
  comment : (c g : List ℕ) → Each not_feed c → Gap g → Gap (35 ∷ (c ++ 10 ∷ g))

-- what may stand behind the last token: a gap, whose last comment the text may end
pub data LastGap : List ℕ → Type 0 where
  closed : (g : List ℕ) → Gap g → LastGap g
  open_comment : (g c : List ℕ) → Gap g → Each not_feed c → LastGap (g ++ 35 ∷ c)

-- a byte that neither a gap nor a lexeme begins with
pub record Stray (b : ℕ) : Type 0 where
  pub no_blank : blank b ≡ false
  pub no_comment : nat_eq b 35 ≡ false
  pub no_word : letter b ≡ false
  pub no_number : digit b ≡ false
  pub no_string : nat_eq b 34 ≡ false
  pub no_mark : (m : Mark) → b ≢ mark_byte m

-- a string cannot go on here: a line feed, or the end of the text
pub data Cut : List ℕ → Type 0 where
  by_end : Cut []
  by_feed : (r : List ℕ) → Cut (10 ∷ r)

-- The bytes bs, which begin at offset p, read as these tokens: gap, token, gap, token, and so on, each token the longest
-- that can be read where it begins, and only then measured; up to the last gap, or to the first fault.
pub data Reads : List ℕ → ℕ → Tokens → Type 0 where
  the_end : (p : ℕ) (g : List ℕ) → LastGap g → Reads g p (t.end (p + length g))
  a_token : (p : ℕ) (g w r : List ℕ) (l : Lexeme) (x : Terminal) (ts : Tokens) → Gap g → Written l w → Longest w r → measured l ≡ Some x → Reads r (p + length g + length w) ts → Reads (g ++ (w ++ r)) p (t.token x (p + length g) ts)
  too_long : (p : ℕ) (g w r : List ℕ) (l : Lexeme) → Gap g → Written l w → Longest w r → measured l ≡ None → Reads (g ++ (w ++ r)) p (t.fault (TooLong (p + length g)))
  long_string : (p : ℕ) (g bs r : List ℕ) → Gap g → Each (of_kind OfString) bs → length bs ≡ 65 → Reads (g ++ 34 ∷ (bs ++ r)) p (t.fault (TooLong (p + length g)))
  open_string : (p : ℕ) (g bs r : List ℕ) → Gap g → Each (of_kind OfString) bs → length bs ≤ 64 → Cut r → Reads (g ++ 34 ∷ (bs ++ r)) p (t.fault (OpenString (p + length g)))
  bad_byte : (p : ℕ) (g bs : List ℕ) (b : ℕ) (r : List ℕ) → Gap g → Each (of_kind OfString) bs → length bs ≤ 64 → of_kind OfString b ≡ false → (b == 34) ≡ false → (b == 10) ≡ false → Reads (g ++ 34 ∷ (bs ++ b ∷ r)) p (t.fault (ByteInString (p + length g + 1 + length bs)))
  stray_byte : (p : ℕ) (g : List ℕ) (b : ℕ) (r : List ℕ) → Gap g → Stray b → Reads (g ++ b ∷ r) p (t.fault (StrayByte (p + length g)))

-- the one reading of the bytes
pub record Reading (bs : List ℕ) (p : ℕ) (ts : Tokens) : Type 0 where
  pub reads : Reads bs p ts
  pub only : (us : Tokens) → Reads bs p us → us ≡ ts

-- every place told is at most n
abbrev pub Within : ℕ → Tokens → Type 0
Within n (t.end p) = p ≤ n
Within n (t.fault e) = (f.told e).place ≤ n
Within n (t.token x p ts) = (p ≤ n) × Within n ts
