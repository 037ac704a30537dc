-- What a reader of one token makes of the tokens that are left.
use Rattle.std.specs.Prelude.{◌≡◌, ℕ, ◌<◌, Bool, true, false, cond, List, Some, None, Ok, Err, Option, Result, OnOk}
use Rattle.tokens.specs.declared.reader.Reader.{Reader}
use Rattle.tokens.specs.Reading.{rest}
use Rattle.tokens.specs.Terminals.{Terminal, Tokens, count}
use Rattle.tokens.specs.Terminals as t
use Rattle.grammar.specs.declared.fault.GrammarFault.{GrammarFault}
use Rattle.grammar.specs.declared.fault.GrammarFault.TheVariants.{Token, NotAllowed}
use Rattle.grammar.specs.declared.readers.Word.{Word}
use Rattle.grammar.specs.declared.readers.Numeral.{Numeral}
use Rattle.grammar.specs.declared.symbols.Found.{Found}
use Rattle.grammar.specs.declared.symbols.Symbol.{Symbol}
use Rattle.grammar.specs.declared.symbols.Symbol.TheVariants as sy
use Rattle.grammar.specs.declared.readers.ValueStart.{ValueStart}
use Rattle.grammar.specs.declared.readers.ValueStart.TheVariants.{Minus, Digits}
use Rattle.tokens.specs.declared.token.Placed.{Placed}
use Rattle.tokens.specs.declared.token.Token.{Token as CodeToken}
use Rattle.tokens.specs.declared.token.Token.TheVariants as code
use Rattle.text_bytes.specs.declared.kinds.Mark.{Mark}
use Rattle.text_bytes.specs.declared.kinds.Mark.TheVariants as mk
use Rattle.text_bytes.specs.Bytes.{same_mark}
use Rattle.grammar.specs.Symbols.{same_symbol}

-- what was read, with the tokens left behind it, or the fault
abbrev pub Parsed : Type 0 → Type 0
Parsed X = Result (X × Tokens) GrammarFault

-- an answer of the code, seen through f, with the tokens that it leaves
abbrev pub left : {X Y : Type 0} → (X → Y) → Result X GrammarFault → Tokens → Parsed Y
left f (Ok x) ts = Ok (f x, ts)
left f (Err e) ts = Err e

-- the answer, seen so, and the tokens left are what the definition gives; a token was taken
pub record Takes {X Y : Type 0} (gives : Tokens → Parsed Y) (seen : X → Y) (before after : Reader) (answer : Result X GrammarFault) : Type 0 where
  pub told : left seen answer (rest after) ≡ gives (rest before)
  pub on : OnOk answer (count (rest after) < count (rest before))

-- bytes with their place
abbrev pub Spot : Type 0
Spot = List ℕ × ℕ

abbrev pub word : Word → Spot
word w = (w.bytes.now, w.place)

-- a kind of token: what a token of the kind holds
abbrev pub a_name : Terminal → Option (List ℕ)
a_name (t.name bs) = Some bs
a_name (t.keyword k) = None
a_name (t.number n) = None
a_name (t.decimal bs) = None
a_name (t.string bs) = None
a_name (t.mark m) = None

abbrev pub a_decimal : Terminal → Option (List ℕ)
a_decimal (t.name bs) = None
a_decimal (t.keyword k) = None
a_decimal (t.number n) = None
a_decimal (t.decimal bs) = Some bs
a_decimal (t.string bs) = None
a_decimal (t.mark m) = None

abbrev pub a_string : Terminal → Option (List ℕ)
a_string (t.name bs) = None
a_string (t.keyword k) = None
a_string (t.number n) = None
a_string (t.decimal bs) = None
a_string (t.string bs) = Some bs
a_string (t.mark m) = None

abbrev pub a_number : Terminal → Option ℕ
a_number (t.name bs) = None
a_number (t.keyword k) = None
a_number (t.number n) = Some n
a_number (t.decimal bs) = None
a_number (t.string bs) = None
a_number (t.mark m) = None

abbrev pub a_symbol : Terminal → Option Symbol
a_symbol (t.name bs) = None
a_symbol (t.keyword k) = Some (sy.Keyword k)
a_symbol (t.number n) = None
a_symbol (t.decimal bs) = None
a_symbol (t.string bs) = None
a_symbol (t.mark m) = Some (sy.Mark m)

-- this mark, taken for x
abbrev pub the_mark : {X : Type 0} → Mark → X → Mark → Option X
the_mark wanted x m = cond (same_mark m wanted) (Some x) None

-- a minus or a number, as the start of a value
abbrev pub a_value_start : ℕ → Terminal → Option ValueStart
a_value_start p (t.name bs) = None
a_value_start p (t.keyword k) = None
a_value_start p (t.number n) = Some (Digits (record { value = n; place = p }))
a_value_start p (t.decimal bs) = None
a_value_start p (t.string bs) = None
a_value_start p (t.mark m) = the_mark mk.Minus (Minus p) m

-- the same of a token of the code
abbrev pub start_by : CodeToken → ℕ → Option ValueStart
start_by (code.Name s) p = None
start_by (code.Keyword k) p = None
start_by (code.Number n) p = a_value_start p (t.number n)
start_by (code.Decimal s) p = None
start_by (code.Quoted s) p = None
start_by (code.Mark m) p = a_value_start p (t.mark m)
start_by code.End p = None

abbrev pub start_at : Placed → Option ValueStart
start_at x = start_by x.token x.place

-- a name or a string, at which no value begins, or the start of a value
abbrev pub a_setting : ℕ → Terminal → Option (Option ValueStart)
a_setting p (t.name bs) = Some None
a_setting p (t.keyword k) = None
a_setting p (t.number n) = Some (Some (Digits (record { value = n; place = p })))
a_setting p (t.decimal bs) = None
a_setting p (t.string bs) = Some None
a_setting p (t.mark m) = the_mark mk.Minus (Some (Minus p)) m

-- whether it is a name, where it is a name or a closing brace
abbrev pub a_name_or_close : Terminal → Option Bool
a_name_or_close (t.name bs) = Some true
a_name_or_close (t.keyword k) = None
a_name_or_close (t.number n) = None
a_name_or_close (t.decimal bs) = None
a_name_or_close (t.string bs) = None
a_name_or_close (t.mark m) = the_mark mk.CloseBrace false m

abbrev pub taken : {X Y : Type 0} → (X → ℕ → Y) → Option X → ℕ → Tokens → Parsed Y
taken f (Some x) p ts = Ok (f x p, ts)
taken f None p ts = Err (NotAllowed p)

-- the next token, where it is of the kind wanted
abbrev pub want : {X Y : Type 0} → (Terminal → Option X) → (X → ℕ → Y) → Tokens → Parsed Y
want kind f (t.end p) = Err (NotAllowed p)
want kind f (t.fault e) = Err (Token e)
want kind f (t.token x p ts) = taken f (kind x) p ts

abbrev pub name_in : Tokens → Parsed Spot
name_in ts = want a_name (λ bs p. (bs, p)) ts

abbrev pub decimal_in : Tokens → Parsed Spot
decimal_in ts = want a_decimal (λ bs p. (bs, p)) ts

abbrev pub string_in : Tokens → Parsed Spot
string_in ts = want a_string (λ bs p. (bs, p)) ts

abbrev pub number_in : Tokens → Parsed Numeral
number_in ts = want a_number (λ n p. record { value = n; place = p }) ts

abbrev pub symbol_in : Tokens → Parsed Found
symbol_in ts = want a_symbol (λ s p. record { symbol = s; place = p }) ts

abbrev pub wanted : Symbol → Parsed Found → Parsed (Unit {0})
wanted s (Ok f) = cond (same_symbol f.0.symbol s) (Ok (tt, f.1)) (Err (NotAllowed f.0.place))
wanted s (Err e) = Err e

abbrev pub expect_in : Symbol → Tokens → Parsed (Unit {0})
expect_in s ts = wanted s (symbol_in ts)

abbrev pub finish_in : Tokens → Result (Unit {0}) GrammarFault
finish_in (t.end p) = Ok tt
finish_in (t.fault e) = Err (Token e)
finish_in (t.token x p ts) = Err (NotAllowed p)

-- a kind of token that is told with its place
abbrev pub placed : {X : Type 0} → (ℕ → Terminal → Option X) → Tokens → Parsed X
placed kind (t.end p) = Err (NotAllowed p)
placed kind (t.fault e) = Err (Token e)
placed kind (t.token x p ts) = taken (λ y _. y) (kind p x) p ts

abbrev pub value_start_in : Tokens → Parsed ValueStart
value_start_in ts = placed a_value_start ts

abbrev pub setting_in : Tokens → Parsed (Option ValueStart)
setting_in ts = placed a_setting ts

abbrev pub name_or_close_in : Tokens → Parsed Bool
name_or_close_in ts = want a_name_or_close (λ b _. b) ts
