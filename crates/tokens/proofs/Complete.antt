-- Whatever a reading says stands at the front of the bytes is what the reader finds there.
use Rattle.std.proofs.Common.{◌≡◌, ℕ, suc, ◌+◌, ◌-◌, ◌<◌, ◌≤◌, Bool, true, false, cond, ◌&&◌, ◌||◌, eqb, ltb, leb, List, [], ◌∷◌, ◌++◌, length, get_or, drop, Some, None, sym, refl, ap, ◌∙◌, append_assoc, arith, length-append, length-drop}
use Rattle.std.specs.List.{prefix_len}
use Rattle.std.proofs.lemmas.Bool.{cond-true, cond-false, lt-ltb, le-ltb, le-leb, lt-leb, leb-true, leb-false, eqb-true, ne_eqb}
use Rattle.text_bytes.specs.declared.kinds.Mark.{Mark}
use Rattle.text_bytes.specs.declared.kinds.Mark.TheVariants.{OpenBrace, CloseBrace, Semicolon, Colon, Comma, Equals, FullStop, Minus}
use Rattle.text_bytes.specs.declared.kinds.ByteKind.TheVariants.{OfName, OfNumber, OfString}
use Rattle.text_bytes.specs.Bytes.{blank, letter, digit, of_kind, gap, mark_byte, mark_of}
use Rattle.tokens.specs.declared.fault.TokenFault.TheVariants.{StrayByte, ByteInString, TooLong, OpenString}
use Rattle.tokens.specs.Terminals as t
use Rattle.tokens.specs.Spelling.{Each, Lexeme, word, digits, fraction, quoted, Written, Longest, measured, Gap, LastGap, Stray, Cut, by_end, by_feed}
use Rattle.tokens.specs.Spelling as sp
use Rattle.tokens.specs.Scanning.{found, finished, faulty, run_end, judged, word_to, number_to, decimal_to, digits_to, string_to, mark_at, begun, token_at, scanned}
use Rattle.tokens.proofs.Runs.{Stops, run_length, run_at_least, each_append, behind, fits, first_byte, other_bytes, run_ends, whole_part, inner_part, gap_passed, last_gap_passed}
use Rattle.tokens.proofs.Fractions.{digit_not_letter, stop_digit, stop_digit_is}

-- a lexeme that ends with a run of a kind, of whatever length, is the longest only where the run does not go on
run_stops : (p : ℕ → Bool) (front : List ℕ → List ℕ) (lexeme : List ℕ → Lexeme) → ((xs ys : List ℕ) → front xs ++ ys ≡ front (xs ++ ys)) → ((xs : List ℕ) → Each p xs → Written (lexeme xs) (front xs)) → (xs r : List ℕ) → Each p xs → Longest (front xs) r → Stops p r
run_stops p front lexeme joins written xs [] e z = tt
run_stops p front lexeme joins written xs (c ∷ r) e z = go (p c) refl
  where
    go : (t : Bool) → p c ≡ t → t ≡ false
    go false k = refl
    go true k =
        let more : List ℕ = xs ++ c ∷ [] in
        let y = z (lexeme more) (front more) r (written more (each_append p xs (c ∷ []) e (k, tt))) (joins more r ∙ (ap front (append_assoc xs (c ∷ []) r) ∙ sym (joins xs (c ∷ r)))) in
        let l : length (front xs ++ c ∷ []) ≡ length (front more) = ap length (joins xs (c ∷ [])) in
        absurd (omega (arith, length-append (front xs) (c ∷ [])))

-- the digits of the longest number are not followed by a full stop and a digit
no_stop_digit : (b : ℕ) (bs r : List ℕ) → digit b ≡ true → Each digit bs → Longest (b ∷ bs) r → stop_digit r ≡ false
no_stop_digit b bs [] h e z = refl
no_stop_digit b bs (c ∷ []) h e z = refl
no_stop_digit b bs (c ∷ d ∷ r) h e z = go (eqb c 46) refl (digit d) refl
  where
    go : (t : Bool) → eqb c 46 ≡ t → (u : Bool) → digit d ≡ u → (t && u) ≡ false
    go false k u m = refl
    go true k false m = refl
    go true k true m =
        let w : List ℕ = b ∷ (bs ++ 46 ∷ d ∷ []) in
        let y = z (fraction w) w r (sp.a_decimal b bs d [] h e m tt) (ap (λ x. b ∷ x) (append_assoc bs (46 ∷ d ∷ []) r ∙ ap (λ x. bs ++ x ∷ d ∷ r) (sym (eqb-true c 46 k)))) in
        absurd (omega (arith, length-append bs (46 ∷ d ∷ [])))

-- the byte b and then bs stand at s
module _ (text : List ℕ) (s b : ℕ) (bs : List ℕ) (at : drop s text ≡ b ∷ bs) where
  begins : token_at text s ≡ begun text s b
  begins = cond-true (ltb s (length text)) _ _ (lt-ltb s (length text) (omega (arith, fits text s b [] bs at))) ∙ ap (begun text s) (first_byte text s b [] bs at)

  word_begins : letter b ≡ true → token_at text s ≡ word_to text s (run_end text (s + 1) OfName)
  word_begins h = begins ∙ cond-true (letter b) _ _ h

  digits_begin : digit b ≡ true → token_at text s ≡ digits_to text s (run_end text (s + 1) OfNumber)
  digits_begin h = begins ∙ (cond-false (letter b) _ _ (digit_not_letter b h) ∙ cond-true (digit b) _ _ h)

  stray_found : Stray b → token_at text s ≡ faulty (StrayByte s)
  stray_found k =
      begins
      ∙ (cond-false (letter b) _ _ k.no_word
      ∙ (cond-false (digit b) _ _ k.no_number
      ∙ (cond-false (eqb b 34) _ _ k.no_string
      ∙ ap (λ m. mark_at m s) no_mark_of)))
    where
      no_mark_of : mark_of b ≡ None
      no_mark_of = rw (ne_eqb b 123 (k.no_mark OpenBrace), ne_eqb b 125 (k.no_mark CloseBrace), ne_eqb b 59 (k.no_mark Semicolon), ne_eqb b 58 (k.no_mark Colon), ne_eqb b 44 (k.no_mark Comma), ne_eqb b 61 (k.no_mark Equals), ne_eqb b 46 (k.no_mark FullStop), ne_eqb b 45 (k.no_mark Minus))

-- a lexeme stands at s, and then r
module _ (text : List ℕ) (s : ℕ) (r : List ℕ) where
  word_found : (b : ℕ) (bs : List ℕ) → letter b ≡ true → Each (of_kind OfName) bs → Longest (b ∷ bs) r → drop s text ≡ b ∷ (bs ++ r) → token_at text s ≡ judged (measured (word (b ∷ bs))) s (s + length (b ∷ bs))
  word_found b bs h e z at =
      word_begins text s b (bs ++ r) at h
      ∙ (ap (word_to text s) (run_ends text s b bs r at OfName e (run_stops (of_kind OfName) (λ xs. b ∷ xs) (λ xs. word (b ∷ xs)) (λ xs ys. refl) (λ xs f. sp.a_word b xs h f) bs r e z))
      ∙ ap (λ w. judged (measured (word w)) s (s + length (b ∷ bs))) (whole_part text s b bs r at))

  number_found : (b : ℕ) (bs : List ℕ) → digit b ≡ true → Each digit bs → Longest (b ∷ bs) r → drop s text ≡ b ∷ (bs ++ r) → token_at text s ≡ judged (measured (digits (b ∷ bs))) s (s + length (b ∷ bs))
  number_found b bs h e z at =
      let w : List ℕ = b ∷ bs in
      digits_begin text s b (bs ++ r) at h
      ∙ (ap (digits_to text s) (run_ends text s b bs r at OfNumber e (run_stops digit (λ xs. b ∷ xs) (λ xs. digits (b ∷ xs)) (λ xs ys. refl) (λ xs f. sp.a_number b xs h f) bs r e z))
      ∙ (cond-false _ (decimal_to text s (run_end text (s + length w + 1) OfNumber)) (number_to text s (s + length w)) (stop_digit_is text (s + length w) r (behind text s w r at) ∙ no_stop_digit b bs r h e z)
      ∙ ap (λ v. judged (measured (digits v)) s (s + length w)) (whole_part text s b bs r at)))

  decimal_found : (b : ℕ) (bs : List ℕ) (c : ℕ) (cs : List ℕ) → digit b ≡ true → Each digit bs → digit c ≡ true → Each digit cs → Longest (b ∷ (bs ++ 46 ∷ c ∷ cs)) r → drop s text ≡ b ∷ ((bs ++ 46 ∷ c ∷ cs) ++ r) → token_at text s ≡ judged (measured (fraction (b ∷ (bs ++ 46 ∷ c ∷ cs)))) s (s + length (b ∷ (bs ++ 46 ∷ c ∷ cs)))
  decimal_found b bs c cs h e k f z at =
      let w : List ℕ = b ∷ (bs ++ 46 ∷ c ∷ cs) in
      let q : ℕ = s + length (b ∷ bs) in
      let r' : List ℕ = 46 ∷ c ∷ (cs ++ r) in
      let at' : drop s text ≡ b ∷ (bs ++ r') = at ∙ ap (λ x. b ∷ x) (append_assoc bs (46 ∷ c ∷ cs) r) in
      let stop : drop q text ≡ r' = behind text s (b ∷ bs) r' at' in
      let stops = run_stops digit (λ xs. b ∷ (bs ++ 46 ∷ c ∷ xs)) (λ xs. fraction (b ∷ (bs ++ 46 ∷ c ∷ xs))) (λ xs ys. ap (λ x. b ∷ x) (append_assoc bs (46 ∷ c ∷ xs) ys)) (λ xs f. sp.a_decimal b bs c xs h e k f) cs r f z in
      let n : prefix_len digit (drop (q + 1) text) ≡ length (c ∷ cs) = ap (prefix_len digit) (other_bytes text q 46 [] (c ∷ (cs ++ r)) stop) ∙ run_length digit (c ∷ cs) r (k, f) stops in
      let l = length-append bs (46 ∷ c ∷ cs) in
      let end : run_end text (q + 1) OfNumber ≡ s + length w = omega arith in
      digits_begin text s b (bs ++ r') at' h
      ∙ (ap (digits_to text s) (run_ends text s b bs r' at' OfNumber e refl)
      ∙ (cond-true _ (decimal_to text s (run_end text (q + 1) OfNumber)) (number_to text s q) (stop_digit_is text q r' stop ∙ k)
      ∙ (ap (decimal_to text s) end
      ∙ ap (λ v. judged (measured (fraction v)) s (s + length w)) (whole_part text s b (bs ++ 46 ∷ c ∷ cs) r at))))

-- a string cannot go on with these bytes
abbrev cut : List ℕ → Bool
cut [] = true
cut (c ∷ r) = eqb c 10

-- the test that is made at e tells so of the bytes there
cut_is : (text : List ℕ) (e : ℕ) (r : List ℕ) → drop e text ≡ r → (leb (length text) e || eqb (get_or text e 0) 10) ≡ cut r
cut_is text e [] at =
    let l = length-drop e text in
    let k : length (drop e text) ≡ 0 = ap length at in
    ap (λ t. t || eqb (get_or text e 0) 10) (le-leb (length text) e (omega arith))
cut_is text e (c ∷ r) at =
    let l = fits text e c [] r at in
    ap (λ t. t || eqb (get_or text e 0) 10) (lt-leb (length text) e (omega arith)) ∙ ap (λ x. eqb x 10) (first_byte text e c [] r at)

is_cut : (r : List ℕ) → Cut r → Stops (of_kind OfString) r × (cut r ≡ true)
is_cut r by_end = (tt, refl)
is_cut r (by_feed k) = (refl, refl)

-- a quote and the good bytes bs stand at s, and then r
module _ (text : List ℕ) (s : ℕ) (bs r : List ℕ) (e : Each (of_kind OfString) bs) (at : drop s text ≡ 34 ∷ (bs ++ r)) where
  long_string_found : 64 < length bs → token_at text s ≡ faulty (TooLong s)
  long_string_found l =
      let n = run_at_least (of_kind OfString) bs r e in
      let o : prefix_len (of_kind OfString) (drop (s + 1) text) ≡ prefix_len (of_kind OfString) (bs ++ r) = ap (prefix_len (of_kind OfString)) (other_bytes text s 34 bs r at) in
      begins text s 34 (bs ++ r) at
      ∙ cond-true (ltb 64 (run_end text (s + 1) OfString - (s + 1))) _ _ (lt-ltb 64 _ (omega arith))

  -- what stands behind the good bytes decides, where they are not too many
  string_ends : length bs ≤ 64 → Stops (of_kind OfString) r → token_at text s ≡ cond (cut r) (faulty (OpenString s)) (cond (eqb (get_or text (s + length (34 ∷ bs)) 0) 34) (found (t.string bs) s (s + length (34 ∷ bs) + 1)) (faulty (ByteInString (s + length (34 ∷ bs)))))
  string_ends l k =
      let q : ℕ = s + length (34 ∷ bs) in
      begins text s 34 (bs ++ r) at
      ∙ (ap (string_to text s) (run_ends text s 34 bs r at OfString e k)
      ∙ (cond-false (ltb 64 (q - (s + 1))) _ _ (le-ltb 64 (q - (s + 1)) (omega arith))
      ∙ λ i. cond (cut_is text q r (behind text s (34 ∷ bs) r at) i) (faulty (OpenString s)) (cond (eqb (get_or text q 0) 34) (found (t.string (inner_part text s 34 bs r at i)) s (q + 1)) (faulty (ByteInString q)))))

  open_string_found : length bs ≤ 64 → Cut r → token_at text s ≡ faulty (OpenString s)
  open_string_found l k = string_ends l (is_cut r k).0 ∙ cond-true (cut r) _ _ (is_cut r k).1

-- a byte c that is neither good nor a line feed ends the string, if it is a quote, or is a fault
string_stops : (text : List ℕ) (s : ℕ) (bs : List ℕ) (c : ℕ) (r : List ℕ) → Each (of_kind OfString) bs → length bs ≤ 64 → of_kind OfString c ≡ false → eqb c 10 ≡ false → drop s text ≡ 34 ∷ (bs ++ c ∷ r) → token_at text s ≡ cond (eqb c 34) (found (t.string bs) s (s + length (34 ∷ bs) + 1)) (faulty (ByteInString (s + length (34 ∷ bs))))
string_stops text s bs c r e l k f at =
    let q : ℕ = s + length (34 ∷ bs) in
    string_ends text s bs (c ∷ r) e at l k
    ∙ (cond-false (eqb c 10) _ _ f
    ∙ ap (λ x. cond (eqb x 34) (found (t.string bs) s (q + 1)) (faulty (ByteInString q))) (first_byte text q c [] r (behind text s (34 ∷ bs) (c ∷ r) at)))

-- a closed string is found, or is too long
string_found : (text : List ℕ) (s : ℕ) (bs r : List ℕ) → Each (of_kind OfString) bs → drop s text ≡ 34 ∷ ((bs ++ 34 ∷ []) ++ r) → token_at text s ≡ judged (measured (quoted bs)) s (s + length (34 ∷ (bs ++ 34 ∷ [])))
string_found text s bs r e at = go (leb (length bs) 64) refl
  where
    at' : drop s text ≡ 34 ∷ (bs ++ 34 ∷ r)
    at' = at ∙ ap (λ x. 34 ∷ x) (append_assoc bs (34 ∷ []) r)

    end : s + length (34 ∷ bs) + 1 ≡ s + length (34 ∷ (bs ++ 34 ∷ []))
    end = let l = length-append bs (34 ∷ []) in omega arith

    go : (u : Bool) → leb (length bs) 64 ≡ u → token_at text s ≡ judged (cond u (Some (t.string bs)) None) s (s + length (34 ∷ (bs ++ 34 ∷ [])))
    go true k = string_stops text s bs 34 r e (leb-true (length bs) 64 k) refl refl at' ∙ ap (found (t.string bs) s) end
    go false k = long_string_found text s bs (34 ∷ r) e at' (leb-false (length bs) 64 k)

-- a mark is no gap, and begins no other token
mark_alone : (text : List ℕ) (s : ℕ) (r : List ℕ) (m : Mark) → (gap false (mark_byte m ∷ r) ≡ 0) × (begun text s (mark_byte m) ≡ found (t.mark m) s (s + 1))
mark_alone text s r OpenBrace = (refl, refl)
mark_alone text s r CloseBrace = (refl, refl)
mark_alone text s r Semicolon = (refl, refl)
mark_alone text s r Colon = (refl, refl)
mark_alone text s r Comma = (refl, refl)
mark_alone text s r Equals = (refl, refl)
mark_alone text s r FullStop = (refl, refl)
mark_alone text s r Minus = (refl, refl)

-- no gap begins with a byte that is neither # nor a blank
no_gap : (b : ℕ) (bs : List ℕ) → eqb b 35 ≡ false → blank b ≡ false → gap false (b ∷ bs) ≡ 0
no_gap b bs h k = cond-false (eqb b 35) _ _ h ∙ cond-false (blank b) _ _ k

-- a lexeme begins with no gap, and is found where it stands
lexeme_found : (text : List ℕ) (s : ℕ) (w r : List ℕ) (l : Lexeme) → Written l w → Longest w r → drop s text ≡ w ++ r → (gap false (w ++ r) ≡ 0) × (token_at text s ≡ judged (measured l) s (s + length w))
lexeme_found text s w r l (sp.a_word b bs h e) z at = (no_gap b (bs ++ r) (grind arith) (grind arith), word_found text s r b bs h e z at)
lexeme_found text s w r l (sp.a_number b bs h e) z at = (no_gap b (bs ++ r) (grind arith) (grind arith), number_found text s r b bs h e z at)
lexeme_found text s w r l (sp.a_decimal b bs c cs h e k f) z at = (no_gap b ((bs ++ 46 ∷ c ∷ cs) ++ r) (grind arith) (grind arith), decimal_found text s r b bs c cs h e k f z at)
lexeme_found text s w r l (sp.a_string bs e) z at = (refl, string_found text s bs r e at)
lexeme_found text s w r l (sp.a_mark m) z at = let k = mark_alone text s r m in (k.0, begins text s (mark_byte m) r at ∙ k.1)

-- the gap is passed over, and the token read behind it
behind_gap : (text : List ℕ) (p : ℕ) (g r : List ℕ) → Gap g → gap false r ≡ 0 → drop p text ≡ g ++ r → scanned text p ≡ token_at text (p + length g)
unfolding scanned
behind_gap text p g r h k at = ap (λ n. token_at text (p + n)) (ap (gap false) at ∙ (gap_passed g r h ∙ none_more (length g) (gap false r) k))
  where
    none_more : (n k : ℕ) → k ≡ 0 → n + k ≡ n
    none_more n k e = omega arith

-- a last gap: the end of the text
pub scanned_end : (text : List ℕ) (p : ℕ) (g : List ℕ) → LastGap g → drop p text ≡ g → scanned text p ≡ finished (p + length g) (p + length g)
unfolding scanned
scanned_end text p g h at =
    let l = length-drop p text in
    let k : length (drop p text) ≡ length g = ap length at in
    ap (λ n. token_at text (p + n)) (ap (gap false) at ∙ last_gap_passed g h)
    ∙ cond-false (ltb (p + length g) (length text)) _ _ (le-ltb (p + length g) (length text) (omega arith))

-- a gap and the longest lexeme: the lexeme, measured
pub scanned_lexeme : (text : List ℕ) (p : ℕ) (g w r : List ℕ) (l : Lexeme) → Gap g → Written l w → Longest w r → drop p text ≡ g ++ (w ++ r) → scanned text p ≡ judged (measured l) (p + length g) (p + length g + length w)
scanned_lexeme text p g w r l h x z at = let k = lexeme_found text (p + length g) w r l x z (behind text p g (w ++ r) at) in behind_gap text p g (w ++ r) h k.0 at ∙ k.1

-- a string with a good byte too many
pub scanned_long_string : (text : List ℕ) (p : ℕ) (g bs r : List ℕ) → Gap g → Each (of_kind OfString) bs → length bs ≡ 65 → drop p text ≡ g ++ 34 ∷ (bs ++ r) → scanned text p ≡ faulty (TooLong (p + length g))
scanned_long_string text p g bs r h e l at = behind_gap text p g (34 ∷ (bs ++ r)) h refl at ∙ long_string_found text (p + length g) bs r e (behind text p g (34 ∷ (bs ++ r)) at) (omega arith)

-- a string that a line feed or the end of the text cuts off
pub scanned_open_string : (text : List ℕ) (p : ℕ) (g bs r : List ℕ) → Gap g → Each (of_kind OfString) bs → length bs ≤ 64 → Cut r → drop p text ≡ g ++ 34 ∷ (bs ++ r) → scanned text p ≡ faulty (OpenString (p + length g))
scanned_open_string text p g bs r h e l k at = behind_gap text p g (34 ∷ (bs ++ r)) h refl at ∙ open_string_found text (p + length g) bs r e (behind text p g (34 ∷ (bs ++ r)) at) l k

-- a string with a byte that it may not have
pub scanned_bad_byte : (text : List ℕ) (p : ℕ) (g bs : List ℕ) (b : ℕ) (r : List ℕ) → Gap g → Each (of_kind OfString) bs → length bs ≤ 64 → of_kind OfString b ≡ false → eqb b 34 ≡ false → eqb b 10 ≡ false → drop p text ≡ g ++ 34 ∷ (bs ++ b ∷ r) → scanned text p ≡ faulty (ByteInString (p + length g + 1 + length bs))
scanned_bad_byte text p g bs b r h e l k q f at =
    behind_gap text p g (34 ∷ (bs ++ b ∷ r)) h refl at
    ∙ (string_stops text (p + length g) bs b r e l k f (behind text p g (34 ∷ (bs ++ b ∷ r)) at)
    ∙ (cond-false (eqb b 34) _ _ q
    ∙ ap (λ n. faulty (ByteInString n)) (place (p + length g) (length bs))))
  where
    place : (s n : ℕ) → s + suc n ≡ s + 1 + n
    place s n = omega arith

-- a byte that begins nothing
pub scanned_stray : (text : List ℕ) (p : ℕ) (g : List ℕ) (b : ℕ) (r : List ℕ) → Gap g → Stray b → drop p text ≡ g ++ b ∷ r → scanned text p ≡ faulty (StrayByte (p + length g))
scanned_stray text p g b r h k at = behind_gap text p g (b ∷ r) h (no_gap b r k.no_comment k.no_blank) at ∙ stray_found text (p + length g) b r (behind text p g (b ∷ r) at) k
