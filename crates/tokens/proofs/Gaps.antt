-- Every text begins with a gap and then a byte that begins none, or is a last gap whole.
use Rattle.std.proofs.Common.{◌≡◌, ℕ, Bool, true, false, not, eqb, ◌⊎◌, List, [], ◌∷◌, ◌++◌, sym, refl, ap, ◌∙◌, subst, inl, inr, append_assoc}
use Rattle.std.proofs.lemmas.Bool.{eqb-true}
use Rattle.text_bytes.specs.Bytes.{blank}
use Rattle.tokens.specs.Spelling.{Each, Gap, LastGap, not_feed}
use Rattle.tokens.specs.Spelling as sp

-- a gap, and a byte at which it ends
pub record Parted (bs : List ℕ) : Type 0 where
  pub g : List ℕ
  pub b : ℕ
  pub r : List ℕ
  pub is : bs ≡ g ++ b ∷ r
  pub gap : Gap g
  pub no_blank : blank b ≡ false
  pub no_comment : eqb b 35 ≡ false

-- inside a comment: it is closed, and what follows is parted in turn
record Closing (bs : List ℕ) : Type 0 where
  c : List ℕ
  h : List ℕ
  is : bs ≡ c ++ 10 ∷ h
  each : Each not_feed c
  follows : Parted h ⊎ LastGap h

last_comment : (c h : List ℕ) → Each not_feed c → LastGap h → LastGap (35 ∷ (c ++ 10 ∷ h))
last_comment c h e (sp.closed g k) = sp.closed (35 ∷ (c ++ 10 ∷ h)) (sp.comment c h e k)
last_comment c h e (sp.open_comment g d k f) = subst (λ x. LastGap (35 ∷ x)) (append_assoc c (10 ∷ g) (35 ∷ d)) (sp.open_comment (35 ∷ (c ++ 10 ∷ g)) d (sp.comment c g e k) f)

last_blank : (b : ℕ) (h : List ℕ) → blank b ≡ true → LastGap h → LastGap (b ∷ h)
last_blank b h e (sp.closed g k) = sp.closed (b ∷ h) (sp.blank_byte b h e k)
last_blank b h e (sp.open_comment g d k f) = sp.open_comment (b ∷ g) d (sp.blank_byte b g e k) f

in_comment : (b : ℕ) (bs : List ℕ) → Parted bs ⊎ LastGap bs → Closing bs ⊎ Each not_feed bs → Closing (b ∷ bs) ⊎ Each not_feed (b ∷ bs)
in_comment b bs out inn = go (eqb b 10) refl inn
  where
    go : (t : Bool) → eqb b 10 ≡ t → Closing bs ⊎ Each not_feed bs → Closing (b ∷ bs) ⊎ Each not_feed (b ∷ bs)
    go true e _ = inl (record { c = []; h = bs; is = ap (λ x. x ∷ bs) (eqb-true b 10 e); each = tt; follows = out })
    go false e (inl k) = inl (record { c = b ∷ k.c; h = k.h; is = ap (λ x. b ∷ x) k.is; each = (ap not e, k.each); follows = k.follows })
    go false e (inr k) = inr (ap not e, k)

outside : (b : ℕ) (bs : List ℕ) → Parted bs ⊎ LastGap bs → Closing bs ⊎ Each not_feed bs → Parted (b ∷ bs) ⊎ LastGap (b ∷ bs)
outside b bs out inn = go (eqb b 35) refl inn
  where
    closes : (k : Closing bs) → b ≡ 35 → Parted k.h ⊎ LastGap k.h → Parted (b ∷ bs) ⊎ LastGap (b ∷ bs)
    closes k e (inl s) = inl (record { g = 35 ∷ (k.c ++ 10 ∷ s.g); b = s.b; r = s.r; is = (λ j. e j ∷ k.is j) ∙ ap (λ x. 35 ∷ x) (ap (λ x. k.c ++ 10 ∷ x) s.is ∙ sym (append_assoc k.c (10 ∷ s.g) (s.b ∷ s.r))); gap = sp.comment k.c s.g k.each s.gap; no_blank = s.no_blank; no_comment = s.no_comment })
    closes k e (inr l) = inr (subst LastGap (sym (λ j. e j ∷ k.is j)) (last_comment k.c k.h k.each l))

    blanked : (t : Bool) → blank b ≡ t → eqb b 35 ≡ false → Parted bs ⊎ LastGap bs → Parted (b ∷ bs) ⊎ LastGap (b ∷ bs)
    blanked true e n (inl s) = inl (record { g = b ∷ s.g; b = s.b; r = s.r; is = ap (λ x. b ∷ x) s.is; gap = sp.blank_byte b s.g e s.gap; no_blank = s.no_blank; no_comment = s.no_comment })
    blanked true e n (inr l) = inr (last_blank b bs e l)
    blanked false e n _ = inl (record { g = []; b = b; r = bs; is = refl; gap = sp.none; no_blank = e; no_comment = n })

    go : (t : Bool) → eqb b 35 ≡ t → Closing bs ⊎ Each not_feed bs → Parted (b ∷ bs) ⊎ LastGap (b ∷ bs)
    go true e (inl k) = closes k (eqb-true b 35 e) k.follows
    go true e (inr k) = inr (subst (λ x. LastGap (x ∷ bs)) (sym (eqb-true b 35 e)) (sp.open_comment [] bs sp.none k))
    go false e _ = blanked (blank b) refl e out

both : (bs : List ℕ) → (Parted bs ⊎ LastGap bs) × (Closing bs ⊎ Each not_feed bs)
both [] = (inr (sp.closed [] sp.none), inr tt)
both (b ∷ bs) = let k = both bs in (outside b bs k.0 k.1, in_comment b bs k.0 k.1)

pub parted : (bs : List ℕ) → Parted bs ⊎ LastGap bs
parted bs = (both bs).0
