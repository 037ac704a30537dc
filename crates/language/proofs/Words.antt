-- Each name among the tokens of a text is the word that begins at its place.
use Rattle.std.proofs.Common.{◌≡◌, ℕ, zero, suc, ◌+◌, ◌-◌, ◌<◌, Bool, true, false, cond, ◌&&◌, ◌||◌, eqb, ltb, leb, List, length, get_or, take, drop, Some, None, Option, ap, arith}
use Rattle.std.proofs.lemmas.List.Sums.{prefix_len-drop_yes}
use Rattle.std.proofs.lemmas.Bool.{cond_both, ltb-true}
use Rattle.std.specs.List.{prefix_len}
use Rattle.text_bytes.specs.declared.kinds.ByteKind.TheVariants.{OfName, OfNumber, OfString}
use Rattle.text_bytes.specs.declared.kinds.Mark.{Mark}
use Rattle.text_bytes.specs.Bytes.{letter, digit, of_kind, mark_of, numeral}
use Rattle.keywords.specs.declared.Keyword.{Keyword}
use Rattle.keywords.specs.Keywords as kw
use Rattle.tokens.specs.declared.fault.TokenFault.TheVariants.{TooLong, OpenString, ByteInString}
use Rattle.tokens.specs.Terminals.{Terminal, Tokens}
use Rattle.tokens.specs.Terminals as t
use Rattle.tokens.specs.Spelling.{named}
use Rattle.tokens.specs.Scanning.{Scanned, part, run_end, judged, word_to, digits_to, string_to, mark_at, gap_end, scanned, onward, before, tokens_by, tokens_from}
use Rattle.tokens.specs.Scanning as sc
use Rattle.plan.specs.Rules.{spelt}
use Rattle.refusals.proofs.Spelled.{NamesAt, names_at}
use Rattle.flows.specs.Checks.{word_at}

abbrev pub WordAt : List ℕ → ℕ → Terminal → Type 0
WordAt text p (t.name bs) = word_at text p ≡ bs
WordAt text p (t.keyword k) = Unit {0}
WordAt text p (t.number n) = Unit {0}
WordAt text p (t.decimal bs) = Unit {0}
WordAt text p (t.string bs) = Unit {0}
WordAt text p (t.mark m) = Unit {0}

-- each name among the tokens is the word that begins at its place
abbrev pub WordsAt : List ℕ → Tokens → Type 0
WordsAt text (t.end p) = Unit {0}
WordsAt text (t.fault e) = Unit {0}
WordsAt text (t.token x p ts) = WordAt text p x × WordsAt text ts

module _ (text : List ℕ) where
  abbrev ScanAt : Scanned → Type 0
  ScanAt (sc.found x p e) = WordAt text p x
  ScanAt (sc.finished p e) = Unit {0}
  ScanAt (sc.faulty e) = Unit {0}

  name_byte : (b : ℕ) → letter b ≡ true → of_kind OfName b ≡ true
  name_byte b h = ap (λ x. x || digit b) h

  -- a word goes on as long as bytes of names do
  whole_word : (p : ℕ) → p < length text → letter (get_or text p 0) ≡ true → word_at text p ≡ part text p (run_end text (p + 1) OfName)
  whole_word p l h =
      let n : prefix_len (of_kind OfName) (drop p text) ≡ run_end text (p + 1) OfName - p = omega (arith, prefix_len-drop_yes (of_kind OfName) text p 0 l (name_byte (get_or text p 0) h)) in
      ap (λ m. take m (drop p text)) n

  word_at_lem : (p : ℕ) → p < length text → letter (get_or text p 0) ≡ true → ScanAt (word_to text p (run_end text (p + 1) OfName))
  word_at_lem p l h =
      let e = run_end text (p + 1) OfName in
      cond_both (leb (length (part text p e)) 32) _ _ (λ o. ScanAt (judged o p e)) (λ _. by (kw.keyword (part text p e))) (λ _. tt)
    where
      by : (o : Option Keyword) → WordAt text p (named o (part text p (run_end text (p + 1) OfName)))
      by (Some k) = tt
      by None = whole_word p l h

  -- neither a number nor a decimal nor a string is a name, whatever its tests come to
  digits_at : (p e : ℕ) → ScanAt (digits_to text p e)
  digits_at p e =
      let f = run_end text (e + 1) OfNumber in
      by (ltb (e + 1) (length text) && (eqb (get_or text e 0) 46 && digit (get_or text (e + 1) 0))) (leb (length (part text p f)) 32) (leb (length (part text p e)) 32 && leb (numeral 0 (part text p e)) 2147483647)
    where
      by : (longer fits few : Bool) → ScanAt (cond longer (judged (cond fits (Some (t.decimal (part text p (run_end text (e + 1) OfNumber)))) None) p (run_end text (e + 1) OfNumber)) (judged (cond few (Some (t.number (numeral 0 (part text p e)))) None) p e))
      by true true few = tt
      by true false few = tt
      by false fits true = tt
      by false fits false = tt

  string_at : (p e : ℕ) → ScanAt (string_to text p e)
  string_at p e = by (ltb 64 (e - (p + 1))) (leb (length text) e || eqb (get_or text e 0) 10) (eqb (get_or text e 0) 34)
    where
      by : (long unclosed closed : Bool) → ScanAt (cond long (sc.faulty (TooLong p)) (cond unclosed (sc.faulty (OpenString p)) (cond closed (sc.found (t.string (part text (p + 1) e)) p (e + 1)) (sc.faulty (ByteInString e)))))
      by true unclosed closed = tt
      by false true closed = tt
      by false false true = tt
      by false false false = tt

  mark_at_lem : (o : Option Mark) (p : ℕ) → ScanAt (mark_at o p)
  mark_at_lem (Some m) p = tt
  mark_at_lem None p = tt

  scanned_at : (p : ℕ) → ScanAt (scanned text p)
  unfolding scanned
  scanned_at p =
      let q = gap_end text p in
      let b = get_or text q 0 in
      cond_both (ltb q (length text)) _ _ ScanAt
      (λ l. cond_both (letter b) _ _ ScanAt (word_at_lem q (ltb-true _ _ l))
      (λ _. cond_both (digit b) _ _ ScanAt (λ _. digits_at q (run_end text (q + 1) OfNumber))
      (λ _. cond_both (eqb b 34) _ _ ScanAt (λ _. string_at q (run_end text (q + 1) OfString)) (λ _. mark_at_lem (mark_of b) q))))
      (λ _. tt)

  before_at : (x : Scanned) (ts : Tokens) → ScanAt x → WordsAt text ts → WordsAt text (before x ts)
  before_at (sc.found x p e) ts a n = (a, n)
  before_at (sc.finished p e) ts a n = tt
  before_at (sc.faulty e) ts a n = tt

  tokens_by_at : (n p : ℕ) → WordsAt text (tokens_by n text p)
  unfolding tokens_by
  tokens_by_at zero p = tt
  tokens_by_at (suc n) p = before_at (scanned text p) (tokens_by n text (onward p (scanned text p))) (scanned_at p) (tokens_by_at n (onward p (scanned text p)))

  -- so of every name of the text
  pub words_at : (p : ℕ) → WordsAt text (tokens_from text p)
  unfolding tokens_from
  words_at p = tokens_by_at (suc (length text - p)) p

-- names of the text, by where they stand and by how far they go
abbrev pub Written : List ℕ → Tokens → Type 0
Written text ts = NamesAt text ts × WordsAt text ts

module _ (text : List ℕ) where
  pub written : (p : ℕ) → Written text (tokens_from text p)
  written p = (names_at text p, words_at text p)

  pub written_on : (x : Terminal) (p : ℕ) (ts : Tokens) → Written text (t.token x p ts) → Written text ts
  written_on x p ts h = (h.0.1, h.1.1)

  pub written_word : (n : List ℕ) (p : ℕ) (ts : Tokens) → Written text (t.token (t.name n) p ts) → word_at text p ≡ n
  written_word n p ts h = h.1.0

  pub written_name : (n : List ℕ) (p : ℕ) (ts : Tokens) → Written text (t.token (t.name n) p ts) → spelt text (record { place = p; len = length n }) ≡ n
  written_name n p ts h = h.0.0
