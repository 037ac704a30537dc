-- Runs of bytes of one kind, gaps, and the parts of a text behind an offset.
use Rattle.std.proofs.Common.{◌≡◌, ℕ, suc, ◌+◌, ◌-◌, ◌≤◌, Bool, true, false, cond, eqb, List, [], ◌∷◌, ◌++◌, length, get_or, take, drop, sym, refl, ap, ◌∙◌, append-nil, arith, length-append, length-drop, get_or-drop, drop-drop}
use lib.Seq.{take-append_seam, drop-append_seam}
use Rattle.std.specs.List.{prefix_len}
use Rattle.std.proofs.lemmas.Bool.{cond-true, cond-false}
use Rattle.text_bytes.specs.declared.kinds.ByteKind.{ByteKind}
use Rattle.text_bytes.specs.Bytes.{blank, of_kind, gap}
use Rattle.tokens.specs.Spelling.{Each, Gap, none, blank_byte, comment, LastGap, closed, open_comment, not_feed}
use Rattle.tokens.specs.Scanning.{part, run_end}

-- the bytes do not go on with one of the kind
abbrev pub Stops : (ℕ → Bool) → List ℕ → Type 0
Stops p [] = Unit {0}
Stops p (b ∷ bs) = p b ≡ false

-- a run of the kind, and then other bytes: the run is what leads
pub run_length : (p : ℕ → Bool) (bs r : List ℕ) → Each p bs → Stops p r → prefix_len p (bs ++ r) ≡ length bs
run_length p [] [] e s = refl
run_length p [] (b ∷ r) e s = cond-false (p b) _ _ s
run_length p (b ∷ bs) r e s = cond-true (p b) _ _ e.0 ∙ (ap (λ n. 1 + n) (run_length p bs r e.1 s) ∙ omega arith)

pub run_at_least : (p : ℕ → Bool) (bs r : List ℕ) → Each p bs → length bs ≤ prefix_len p (bs ++ r)
run_at_least p [] r e = omega arith
run_at_least p (b ∷ bs) r e = let i = run_at_least p bs r e.1 in rw (cond-true (p b) (1 + prefix_len p (bs ++ r)) 0 e.0) (omega arith)

-- what leads is of the kind, and what is behind it does not go on
pub run_split : (p : ℕ → Bool) (bs : List ℕ) → Each p (take (prefix_len p bs) bs) × Stops p (drop (prefix_len p bs) bs)
run_split p [] = (tt, tt)
run_split p (b ∷ bs) = go (p b) refl (run_split p bs)
  where
    one_more : (n : ℕ) → 1 + n ≡ suc n
    one_more n = omega arith

    go : (t : Bool) → p b ≡ t → Each p (take (prefix_len p bs) bs) × Stops p (drop (prefix_len p bs) bs) → Each p (take (cond t (1 + prefix_len p bs) 0) (b ∷ bs)) × Stops p (drop (cond t (1 + prefix_len p bs) 0) (b ∷ bs))
    go true e k = rw (one_more (prefix_len p bs)) ((e, k.0), k.1)
    go false e k = (tt, e)

pub each_append : (p : ℕ → Bool) (bs cs : List ℕ) → Each p bs → Each p cs → Each p (bs ++ cs)
each_append p [] cs e f = f
each_append p (b ∷ bs) cs e f = (e.0, each_append p bs cs e.1 f)

-- the bytes behind w, where w and then r stand at s
pub behind : (text : List ℕ) (s : ℕ) (w r : List ℕ) → drop s text ≡ w ++ r → drop (s + length w) text ≡ r
behind text s w r at = sym (drop-drop (length w) s text) ∙ (ap (drop (length w)) at ∙ drop-append_seam w r)

-- the byte b, a run bs and then r stand at s
module _ (text : List ℕ) (s b : ℕ) (bs r : List ℕ) (at : drop s text ≡ b ∷ (bs ++ r)) where
  pub fits : s + length (b ∷ bs) ≤ length text
  fits = let l = length-drop s text in let k : length (drop s text) ≡ length (b ∷ (bs ++ r)) = ap length at in let a = length-append bs r in omega arith

  pub first_byte : get_or text s 0 ≡ b
  first_byte = ap (λ n. get_or text n 0) (plus_zero s) ∙ (sym (get_or-drop s text 0 0) ∙ ap (λ l. get_or l 0 0) at)
    where
      plus_zero : (s : ℕ) → s ≡ s + 0
      plus_zero s = omega arith

  pub other_bytes : drop (s + 1) text ≡ bs ++ r
  other_bytes = sym (drop-drop 1 s text) ∙ ap (drop 1) at

  pub run_ends : (k : ByteKind) → Each (of_kind k) bs → Stops (of_kind k) r → run_end text (s + 1) k ≡ s + length (b ∷ bs)
  run_ends k e t = let a : prefix_len (of_kind k) (drop (s + 1) text) ≡ length bs = ap (prefix_len (of_kind k)) other_bytes ∙ run_length (of_kind k) bs r e t in omega arith

  pub whole_part : part text s (s + length (b ∷ bs)) ≡ b ∷ bs
  whole_part = ap (λ n. take n (drop s text)) (less s (length (b ∷ bs))) ∙ (ap (take (length (b ∷ bs))) at ∙ take-append_seam (b ∷ bs) r)
    where
      less : (s n : ℕ) → s + n - s ≡ n
      less s n = omega arith

  pub inner_part : part text (s + 1) (s + length (b ∷ bs)) ≡ bs
  inner_part = ap (λ n. take n (drop (s + 1) text)) (less s (length bs)) ∙ (ap (take (length bs)) other_bytes ∙ take-append_seam bs r)
    where
      less : (s n : ℕ) → s + suc n - (s + 1) ≡ n
      less s n = omega arith

comment_passed : (c g r : List ℕ) → Each not_feed c → gap true ((c ++ 10 ∷ g) ++ r) ≡ suc (length c) + gap false (g ++ r)
comment_passed [] g r e = omega arith
comment_passed (b ∷ c) g r e = ap (λ t. 1 + gap t ((c ++ 10 ∷ g) ++ r)) e.0 ∙ (ap (λ n. 1 + n) (comment_passed c g r e.1) ∙ omega arith)

-- a gap is passed over whole
pub gap_passed : (g r : List ℕ) → Gap g → gap false (g ++ r) ≡ length g + gap false r
gap_passed g r none = omega arith
gap_passed g r (blank_byte b h e k) = cond-false (eqb b 35) _ _ (blank_no_hash b e) ∙ (cond-true (blank b) _ _ e ∙ (ap (λ n. 1 + n) (gap_passed h r k) ∙ omega arith))
  where
    blank_no_hash : (b : ℕ) → blank b ≡ true → eqb b 35 ≡ false
    blank_no_hash b h = grind arith
gap_passed g r (comment c h e k) =
    let a : 1 + gap true ((c ++ 10 ∷ h) ++ r) ≡ 1 + (suc (length c) + gap false (h ++ r)) = ap (λ n. 1 + n) (comment_passed c h r e) in
    let b = gap_passed h r k in
    let l = length-append c (10 ∷ h) in
    omega arith

open_comment_passed : (c : List ℕ) → Each not_feed c → gap true c ≡ length c
open_comment_passed [] e = refl
open_comment_passed (b ∷ c) e = ap (λ t. 1 + gap t c) e.0 ∙ (ap (λ n. 1 + n) (open_comment_passed c e.1) ∙ omega arith)

-- so is the last
pub last_gap_passed : (g : List ℕ) → LastGap g → gap false g ≡ length g
last_gap_passed g (closed h k) = ap (gap false) (sym (append-nil h)) ∙ (gap_passed h [] k ∙ omega arith)
last_gap_passed g (open_comment h c k e) =
    let a = gap_passed h (35 ∷ c) k in
    let b : gap false (35 ∷ c) ≡ 1 + length c = ap (λ n. 1 + n) (open_comment_passed c e) in
    let l = length-append h (35 ∷ c) in
    omega arith
