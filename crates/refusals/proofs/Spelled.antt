-- Names that stand in the text where their tokens are placed, and the readers that leave such tokens.
use Rattle.std.proofs.Common.{◌≡◌, ℕ, zero, suc, ◌+◌, ◌-◌, Bool, true, false, cond, ◌&&◌, ◌||◌, eqb, ltb, leb, List, [], ◌∷◌, length, get_or, take, drop, Some, None, Ok, Err, Option, Result, refl, ap, subst, arith}
use Rattle.std.proofs.lemmas.Bool.{cond_both}
use Rattle.text_bytes.specs.declared.kinds.ByteKind.TheVariants.{OfName, OfNumber, OfString}
use Rattle.text_bytes.specs.declared.kinds.Mark.{Mark}
use Rattle.text_bytes.specs.Bytes.{letter, digit, mark_of, numeral}
use Rattle.keywords.specs.declared.Keyword.{Keyword}
use Rattle.keywords.specs.Keywords as kw
use Rattle.tokens.specs.declared.fault.TokenFault.TheVariants.{TooLong, OpenString, ByteInString}
use Rattle.tokens.specs.Terminals.{Terminal, Tokens}
use Rattle.tokens.specs.Terminals as t
use Rattle.tokens.specs.Spelling.{named}
use Rattle.tokens.specs.Scanning.{Scanned, part, run_end, judged, word_to, number_to, decimal_to, digits_to, string_to, mark_at, begun, gap_end, scanned, onward, before, tokens_by, tokens_from}
use Rattle.tokens.specs.Scanning as sc
use Rattle.grammar.specs.declared.fault.GrammarFault.{GrammarFault}
use Rattle.grammar.specs.declared.fault.GrammarFault.TheVariants.{NotAllowed}
use Rattle.grammar.specs.declared.symbols.Found.{Found}
use Rattle.grammar.specs.declared.symbols.Symbol.{Symbol}
use Rattle.grammar.specs.Symbols.{same_symbol}
use Rattle.grammar.specs.Readers.{Parsed, Spot, taken, want, placed, name_in, symbol_in, wanted, expect_in}

abbrev pub NameAt : List ℕ → ℕ → Terminal → Type 0
NameAt text p (t.name bs) = take (length bs) (drop p text) ≡ bs
NameAt text p (t.keyword k) = Unit {0}
NameAt text p (t.number n) = Unit {0}
NameAt text p (t.decimal bs) = Unit {0}
NameAt text p (t.string bs) = Unit {0}
NameAt text p (t.mark m) = Unit {0}

-- each name among the tokens is what the text has at its place
abbrev pub NamesAt : List ℕ → Tokens → Type 0
NamesAt text (t.end p) = Unit {0}
NamesAt text (t.fault e) = Unit {0}
NamesAt text (t.token x p ts) = NameAt text p x × NamesAt text ts

-- a fault is nothing read
none_read : {X A : Type 0} {e : GrammarFault} {x : X} → ◌≡◌ {A = Result X GrammarFault} (Err e) (Ok x) → A
none_read h = let z : ◌≡◌ {A = ℕ} 0 1 = cc in absurd (omega arith)

read_is : {X : Type 0} {x y : X} {us vs : Tokens} → ◌≡◌ {A = Parsed X} (Ok (x, us)) (Ok (y, vs)) → (x ≡ y) × (us ≡ vs)
read_is {X} {x} {y} {us} {vs} h = let e : ◌≡◌ {A = X × Tokens} (x, us) (y, vs) = cc in (ap (λ v. v.0) e, ap (λ v. v.1) e)

module _ (text : List ℕ) where
  taken_leaves : {X Y : Type 0} (f : X → ℕ → Y) (o : Option X) (p : ℕ) (ts : Tokens) (v : Y) (us : Tokens) → taken f o p ts ≡ Ok (v, us) → NamesAt text ts → NamesAt text us
  taken_leaves f (Some x) p ts v us h n = subst (NamesAt text) (read_is h).1 n
  taken_leaves f None p ts v us h n = none_read h

  -- a reader of one token leaves the tokens behind it
  pub want_leaves : {X Y : Type 0} (kind : Terminal → Option X) (f : X → ℕ → Y) (ts : Tokens) (v : Y) (us : Tokens) → want kind f ts ≡ Ok (v, us) → NamesAt text ts → NamesAt text us
  want_leaves kind f (t.end p) v us h n = none_read h
  want_leaves kind f (t.fault e) v us h n = none_read h
  want_leaves kind f (t.token x p ts) v us h n = taken_leaves f (kind x) p ts v us h n.1

  pub placed_leaves : {X : Type 0} (kind : ℕ → Terminal → Option X) (ts : Tokens) (v : X) (us : Tokens) → placed kind ts ≡ Ok (v, us) → NamesAt text ts → NamesAt text us
  placed_leaves kind (t.end p) v us h n = none_read h
  placed_leaves kind (t.fault e) v us h n = none_read h
  placed_leaves kind (t.token x p ts) v us h n = taken_leaves (λ y _. y) (kind p x) p ts v us h n.1

  pub expect_leaves : (s : Symbol) (ts : Tokens) (v : Unit {0}) (us : Tokens) → expect_in s ts ≡ Ok (v, us) → NamesAt text ts → NamesAt text us
  expect_leaves s ts v us h n = by (symbol_in ts) refl h
    where
      tested : (f : Found) (vs : Tokens) (b : Bool) → symbol_in ts ≡ Ok (f, vs) → cond {A = Parsed (Unit {0})} b (Ok (tt, vs)) (Err (NotAllowed f.place)) ≡ Ok (v, us) → NamesAt text us
      tested f vs true e h = subst (NamesAt text) (read_is h).1 (want_leaves _ _ ts f vs e n)
      tested f vs false e h = none_read h

      by : (x : Parsed Found) → symbol_in ts ≡ x → wanted s x ≡ Ok (v, us) → NamesAt text us
      by (Ok f) e h = tested f.0 f.1 (same_symbol f.0.symbol s) e h
      by (Err e) q h = none_read h

  -- a name that was read is what the text has at its place
  pub name_at : (ts : Tokens) (v : Spot) (us : Tokens) → name_in ts ≡ Ok (v, us) → NamesAt text ts → take (length v.0) (drop v.1 text) ≡ v.0
  name_at (t.end p) v us h n = none_read h
  name_at (t.fault e) v us h n = none_read h
  name_at (t.token (t.name bs) p ts) v us h n = subst (λ (w : Spot). take (length w.0) (drop w.1 text) ≡ w.0) (read_is h).0 n.0
  name_at (t.token (t.keyword k) p ts) v us h n = none_read h
  name_at (t.token (t.number m) p ts) v us h n = none_read h
  name_at (t.token (t.decimal bs) p ts) v us h n = none_read h
  name_at (t.token (t.string bs) p ts) v us h n = none_read h
  name_at (t.token (t.mark m) p ts) v us h n = none_read h

-- the tokens of a text

short : (n : ℕ) (xs : List ℕ) → take (length (take n xs)) xs ≡ take n xs
short zero xs = refl
short (suc n) [] = refl
short (suc n) (x ∷ xs) = ap (λ ys. x ∷ ys) (short n xs)

module _ (text : List ℕ) where
  abbrev ScanAt : Scanned → Type 0
  ScanAt (sc.found x p e) = NameAt text p x
  ScanAt (sc.finished p e) = Unit {0}
  ScanAt (sc.faulty e) = Unit {0}

  word_at_lem : (p e : ℕ) → ScanAt (word_to text p e)
  word_at_lem p e = cond_both (leb (length (part text p e)) 32) _ _ (λ o. ScanAt (judged o p e)) (λ _. by (kw.keyword (part text p e))) (λ _. tt)
    where
      by : (o : Option Keyword) → NameAt text p (named o (part text p e))
      by (Some k) = tt
      by None = short (e - p) (drop p text)

  -- of two that are so, either
  either : (t : Bool) (x y : Scanned) → ScanAt x → ScanAt y → ScanAt (cond t x y)
  either true x y a b = a
  either false x y a b = b

  -- a token that is no name, if it is not too long
  other_at : (t : Bool) (x : Terminal) (p e : ℕ) → NameAt text p x → ScanAt (judged (cond t (Some x) None) p e)
  other_at true x p e a = a
  other_at false x p e a = tt

  digits_at : (p e : ℕ) → ScanAt (digits_to text p e)
  digits_at p e =
      let f = run_end text (e + 1) OfNumber in
      either (ltb (e + 1) (length text) && (eqb (get_or text e 0) 46 && digit (get_or text (e + 1) 0))) (decimal_to text p f) (number_to text p e)
      (other_at (leb (length (part text p f)) 32) (t.decimal (part text p f)) p f tt)
      (other_at (leb (length (part text p e)) 32 && leb (numeral 0 (part text p e)) 2147483647) (t.number (numeral 0 (part text p e))) p e tt)

  string_at : (p e : ℕ) → ScanAt (string_to text p e)
  string_at p e = by (ltb 64 (e - (p + 1))) (leb (length text) e || eqb (get_or text e 0) 10) (eqb (get_or text e 0) 34)
    where
      by : (long unclosed closed : Bool) → ScanAt (cond long (sc.faulty (TooLong p)) (cond unclosed (sc.faulty (OpenString p)) (cond closed (sc.found (t.string (part text (p + 1) e)) p (e + 1)) (sc.faulty (ByteInString e)))))
      by true unclosed closed = tt
      by false true closed = tt
      by false false true = tt
      by false false false = tt

  mark_at_lem : (o : Option Mark) (p : ℕ) → ScanAt (mark_at o p)
  mark_at_lem (Some m) p = tt
  mark_at_lem None p = tt

  begun_at : (p b : ℕ) → ScanAt (begun text p b)
  begun_at p b =
      let d = digits_to text p (run_end text (p + 1) OfNumber) in
      let q = string_to text p (run_end text (p + 1) OfString) in
      let m = mark_at (mark_of b) p in
      either (letter b) (word_to text p (run_end text (p + 1) OfName)) (cond (digit b) d (cond (eqb b 34) q m)) (word_at_lem p (run_end text (p + 1) OfName))
      (either (digit b) d (cond (eqb b 34) q m) (digits_at p (run_end text (p + 1) OfNumber))
      (either (eqb b 34) q m (string_at p (run_end text (p + 1) OfString)) (mark_at_lem (mark_of b) p)))

  scanned_at : (p : ℕ) → ScanAt (scanned text p)
  unfolding scanned
  scanned_at p = let q = gap_end text p in either (ltb q (length text)) (begun text q (get_or text q 0)) (sc.finished q q) (begun_at q (get_or text q 0)) tt

  before_at : (x : Scanned) (ts : Tokens) → ScanAt x → NamesAt text ts → NamesAt text (before x ts)
  before_at (sc.found x p e) ts a n = (a, n)
  before_at (sc.finished p e) ts a n = tt
  before_at (sc.faulty e) ts a n = tt

  tokens_by_at : (n p : ℕ) → NamesAt text (tokens_by n text p)
  unfolding tokens_by
  tokens_by_at zero p = tt
  tokens_by_at (suc n) p = before_at (scanned text p) (tokens_by n text (onward p (scanned text p))) (scanned_at p) (tokens_by_at n (onward p (scanned text p)))

  -- so of every name of the text
  pub names_at : (p : ℕ) → NamesAt text (tokens_from text p)
  unfolding tokens_from
  names_at p = tokens_by_at (suc (length text - p)) p
