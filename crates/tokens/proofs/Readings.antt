-- Every text has one reading, and the tokens that the reader's definition gives are that reading.
use Rattle.std.proofs.Common.{◌≡◌, ℕ, zero, suc, ◌+◌, ◌-◌, ◌<◌, ◌≤◌, ◌⊎◌, List, ◌∷◌, ◌++◌, length, drop, Some, None, Option, sym, refl, ap, ◌∙◌, subst, inl, inr, arith, length-append, length-drop}
use Rattle.tokens.specs.Terminals.{Terminal, Tokens}
use Rattle.tokens.specs.Terminals as t
use Rattle.tokens.specs.Spelling.{Lexeme, Written, measured, Reads, Reading, Within, LastGap}
use Rattle.tokens.specs.Spelling as sp
use Rattle.tokens.specs.Scanning.{Scanned, judged, scanned, onward, before, tokens_by, tokens_from}
use Rattle.tokens.proofs.Runs.{behind}
use Rattle.tokens.proofs.Gaps.{Parted, parted}
use Rattle.tokens.proofs.Fronts.{Front, front}
use Rattle.tokens.proofs.Fronts as fr
use Rattle.tokens.proofs.Complete.{scanned_end, scanned_lexeme, scanned_long_string, scanned_open_string, scanned_bad_byte, scanned_stray}

abbrev Some-reading : List ℕ → ℕ → Type 0
Some-reading bs p = (ts : Tokens) × Reads bs p ts

written_some : (l : Lexeme) (w : List ℕ) → Written l w → 0 < length w
written_some l w (sp.a_word b bs h e) = omega arith
written_some l w (sp.a_number b bs h e) = omega arith
written_some l w (sp.a_decimal b bs c cs h e k f) = omega arith
written_some l w (sp.a_string bs e) = omega arith
written_some l w (sp.a_mark m) = omega arith

-- the bytes have a reading if all shorter ones have
some_by : (bs : List ℕ) (p : ℕ) → ((r : List ℕ) (q : ℕ) → length r < length bs → Some-reading r q) → Some-reading bs p
some_by bs p shorter = by (parted bs)
  where
    told_of : (cs : List ℕ) → bs ≡ cs → (ts : Tokens) → Reads cs p ts → Some-reading bs p
    told_of cs e ts k = (ts, subst (λ z. Reads z p ts) (sym e) k)

    fronted : (k : Parted bs) → Front (k.b ∷ k.r) → Some-reading bs p
    fronted k (fr.lexeme l w r is written longest) = judge (measured l) refl
      where
        at : bs ≡ k.g ++ (w ++ r)
        at = k.is ∙ ap (λ x. k.g ++ x) is

        less : length r < length bs
        less = let n : length bs ≡ length (k.g ++ (w ++ r)) = ap length at in omega (arith, length-append k.g (w ++ r), length-append w r, written_some l w written)

        judge : (o : Option Terminal) → measured l ≡ o → Some-reading bs p
        judge (Some x) e = let i = shorter r (p + length k.g + length w) less in told_of (k.g ++ (w ++ r)) at _ (sp.a_token p k.g w r l x i.0 k.gap written longest e i.1)
        judge None e = told_of (k.g ++ (w ++ r)) at _ (sp.too_long p k.g w r l k.gap written longest e)
    fronted k (fr.long_string ss r is each n) = told_of (k.g ++ 34 ∷ (ss ++ r)) (k.is ∙ ap (λ x. k.g ++ x) is) _ (sp.long_string p k.g ss r k.gap each n)
    fronted k (fr.open_string ss r is each n cut) = told_of (k.g ++ 34 ∷ (ss ++ r)) (k.is ∙ ap (λ x. k.g ++ x) is) _ (sp.open_string p k.g ss r k.gap each n cut)
    fronted k (fr.bad_byte ss b r is each n x y z) = told_of (k.g ++ 34 ∷ (ss ++ b ∷ r)) (k.is ∙ ap (λ x. k.g ++ x) is) _ (sp.bad_byte p k.g ss b r k.gap each n x y z)
    fronted k (fr.stray b r is s) = told_of (k.g ++ b ∷ r) (k.is ∙ ap (λ x. k.g ++ x) is) _ (sp.stray_byte p k.g b r k.gap s)

    by : Parted bs ⊎ LastGap bs → Some-reading bs p
    by (inl k) = fronted k (front k.b k.r k.no_blank k.no_comment)
    by (inr l) = (t.end (p + length bs), sp.the_end p bs l)

some_reading : (n : ℕ) (bs : List ℕ) (p : ℕ) → length bs ≤ n → Some-reading bs p
some_reading zero bs p h = some_by bs p (λ r q l. absurd (omega arith))
some_reading (suc n) bs p h = some_by bs p (λ r q l. some_reading n r q (omega arith))

-- one step of the definition is one step of the reading
module _ (text : List ℕ) where
  abbrev Steps : ℕ → Tokens → (ℕ → Tokens) → Type 0
  Steps p ts later = before (scanned text p) (later (onward p (scanned text p))) ≡ ts

  stepped : (p : ℕ) (ts : Tokens) (later : ℕ → Tokens) (x : Scanned) → scanned text p ≡ x → before x (later (onward p x)) ≡ ts → Steps p ts later
  stepped p ts later x e h = ap (λ y. before y (later (onward p y))) e ∙ h

  one_step : (later : ℕ → Tokens) (bs : List ℕ) (p : ℕ) (ts : Tokens) → Reads bs p ts → drop p text ≡ bs → ((r : List ℕ) (q : ℕ) (us : Tokens) → Reads r q us → drop q text ≡ r → length r < length bs → later q ≡ us) → Steps p ts later
  one_step later bs p ts (sp.the_end q g l) at on = stepped p ts later _ (scanned_end text p g l at) refl
  one_step later bs p ts (sp.a_token q g w r l x us gap written longest e k) at on =
      let lt : length r < length (g ++ (w ++ r)) = omega (arith, length-append g (w ++ r), length-append w r, written_some l w written) in
      stepped p ts later _ (scanned_lexeme text p g w r l gap written longest at ∙ ap (λ o. judged o (p + length g) (p + length g + length w)) e) (ap (t.token x (p + length g)) (on r (p + length g + length w) us k (behind text (p + length g) w r (behind text p g (w ++ r) at)) lt))
  one_step later bs p ts (sp.too_long q g w r l gap written longest e) at on = stepped p ts later _ (scanned_lexeme text p g w r l gap written longest at ∙ ap (λ o. judged o (p + length g) (p + length g + length w)) e) refl
  one_step later bs p ts (sp.long_string q g ss r gap each n) at on = stepped p ts later _ (scanned_long_string text p g ss r gap each n at) refl
  one_step later bs p ts (sp.open_string q g ss r gap each n cut) at on = stepped p ts later _ (scanned_open_string text p g ss r gap each n cut at) refl
  one_step later bs p ts (sp.bad_byte q g ss b r gap each n x y z) at on = stepped p ts later _ (scanned_bad_byte text p g ss b r gap each n x y z at) refl
  one_step later bs p ts (sp.stray_byte q g b r gap s) at on = stepped p ts later _ (scanned_stray text p g b r gap s at) refl

  tokens_by_lem : (n : ℕ) (bs : List ℕ) (p : ℕ) (ts : Tokens) → Reads bs p ts → drop p text ≡ bs → length bs < n → tokens_by n text p ≡ ts
  unfolding tokens_by
  tokens_by_lem zero bs p ts k at h = absurd (omega arith)
  tokens_by_lem (suc n) bs p ts k at h = one_step (tokens_by n text) bs p ts k at (λ r q us j e l. tokens_by_lem n r q us j e (omega arith))

  tokens_from_lem : (bs : List ℕ) (p : ℕ) (ts : Tokens) → Reads bs p ts → drop p text ≡ bs → tokens_from text p ≡ ts
  unfolding tokens_from
  tokens_from_lem bs p ts k at = tokens_by_lem (suc (length text - p)) bs p ts k at (let n : length (drop p text) ≡ length bs = ap length at in omega (arith, length-drop p text))

  -- the tokens from an offset on are the one reading of the bytes there
  pub the_reading : (p : ℕ) → Reading (drop p text) p (tokens_from text p)
  the_reading p =
      let some = some_reading (length (drop p text)) (drop p text) p (omega arith) in
      record { reads = subst (Reads (drop p text) p) (sym (tokens_from_lem (drop p text) p some.0 some.1 refl)) some.1; only = λ us k. sym (tokens_from_lem (drop p text) p us k refl) }

  -- they are the token found there, and then the tokens from behind it on
  pub tokens_step : (p : ℕ) → tokens_from text p ≡ before (scanned text p) (tokens_from text (onward p (scanned text p)))
  tokens_step p = sym (one_step (tokens_from text) (drop p text) p (tokens_from text p) (the_reading p).reads refl (λ r q us k e l. tokens_from_lem r q us k e))

-- so are they where x tells what was found, and q is where the reader goes on
pub rest_step : (text : List ℕ) (p q : ℕ) (x : Scanned) → x ≡ scanned text p → q ≡ onward p x → tokens_from text p ≡ before x (tokens_from text q)
rest_step text p q x e on = tokens_step text p ∙ (ap (λ y. before y (tokens_from text (onward p y))) (sym e) ∙ ap (λ y. before x (tokens_from text y)) (sym on))

-- every place that a reading tells lies within the bytes
pub reads_within : (n : ℕ) (bs : List ℕ) (p : ℕ) (ts : Tokens) → Reads bs p ts → p + length bs ≤ n → Within n ts
reads_within n bs p ts (sp.the_end q g l) h = omega arith
reads_within n bs p ts (sp.a_token q g w r l x us gap written longest e k) h = (omega (arith, length-append g (w ++ r)), reads_within n r (p + length g + length w) us k (omega (arith, length-append g (w ++ r), length-append w r)))
reads_within n bs p ts (sp.too_long q g w r l gap written longest e) h = omega (arith, length-append g (w ++ r))
reads_within n bs p ts (sp.long_string q g ss r gap each m) h = omega (arith, length-append g (34 ∷ (ss ++ r)))
reads_within n bs p ts (sp.open_string q g ss r gap each m cut) h = omega (arith, length-append g (34 ∷ (ss ++ r)))
reads_within n bs p ts (sp.bad_byte q g ss b r gap each m x y z) h = omega (arith, length-append g (34 ∷ (ss ++ b ∷ r)), length-append ss (b ∷ r))
reads_within n bs p ts (sp.stray_byte q g b r gap s) h = omega (arith, length-append g (b ∷ r))
