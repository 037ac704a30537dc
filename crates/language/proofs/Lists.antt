-- Lists: elements one after the other, each begun by a terminal that tells that another follows, up to a last terminal,
-- as turns of a repetition, both ways.
use Rattle.std.proofs.Common.{◌≡◌, ℕ, zero, suc, ◌<◌, Bool, true, false, cond, List, [], ◌∷◌, ◌++◌, Ok, sym, refl, ap, ◌∙◌, subst, append_assoc, arith, length-append}
use Rattle.std.proofs.lemmas.Bool.{cond-true, cond-false, eq-eqb}
use Rattle.std.specs.List.{flat_map}
use Rattle.text_bytes.specs.declared.kinds.Mark.{Mark}
use Rattle.text_bytes.specs.declared.kinds.Mark.TheVariants as mk
use Rattle.text_bytes.specs.Bytes.{same_mark}
use Rattle.tokens.specs.Terminals.{Terminal, Tokens, count, mark}
use Rattle.grammar.specs.Readers.{Parsed}
use Rattle.refusals.specs.Shapes.{another_in}
use Rattle.productions.specs.Following.{list_turn}
use Rattle.refusals.specs.Steps.{Loaded, parse, then, turns, many}
use Rattle.refusals.proofs.Passing.{accepted, parse_passed, then_passed}
use Rattle.refusals.proofs.Repeating.{Going, going, goes_on, ends}
use Rattle.language.specs.Trees.{Several, each}
use Rattle.language.specs.Grammar.{list_tokens}
use Rattle.language.specs.Obeying.{Starts, here, next}
use Rattle.language.proofs.Taking.{front, join, split, count_behind, another_taken}

-- S: what the turns make; X: elements; H: what stands at the beginning of an element, which the turn before has read
module _ {S X H : Type 0} (turn : S → Tokens → Loaded (Bool × S)) (head : X → H) (lead : H → Terminal) (body : X → List Terminal) (last : Terminal) where
  -- what stands behind an element: the beginning of another, or the last terminal
  abbrev pub after : Bool → H → Terminal
  after true h = lead h
  after false h = last

  -- the elements behind the beginning of the first
  abbrev pub element_tokens : X → List X → List Terminal
  element_tokens x xs = (body x ++ flat_map (λ y. lead (head y) ∷ body y) xs) ++ last ∷ []

  -- an element, and what stands behind it, before the tokens of the others
  element_before : {us vs ts : Tokens} (x : X) (ws : List Terminal) → Starts vs ts (body x) → Starts us vs (ws ++ last ∷ []) → Starts us ts ((body x ++ ws) ++ last ∷ [])
  element_before {us} {vs} {ts} x ws a b = subst (Starts us ts) (sym (append_assoc (body x) ws (last ∷ []))) (join a b)

  -- sound: P s ts xs tells that in the state s, with the tokens ts left, the elements xs are done
  module _ (P : S → Tokens → List X → Type 0) where
    -- a turn has read an element and what stands behind it
    pub record Turned (more : Bool) (ts : Tokens) (t : S) (us : Tokens) (h : H) (done : List X) : Type 0 where
      pub x : X
      pub begins : head x ≡ h
      pub ahead : H
      pub starts : Starts us ts (body x ++ after more ahead ∷ [])
      pub kept : P t us (done ++ x ∷ [])

    -- the turns have read all
    pub record Elements (ts : Tokens) (t : S) (us : Tokens) (h : H) (done : List X) : Type 0 where
      pub all : Several X
      pub begins : head all.first ≡ h
      pub starts : Starts us ts (element_tokens all.first all.others)
      pub kept : P t us (done ++ all.first ∷ all.others)

    module _ (one : (more : Bool) (s : S) (ts : Tokens) (t : S) (us : Tokens) (h : H) (done : List X) → turn s ts ≡ Ok ((more, t), us) → P s ts done → Turned more ts t us h done) where
      last_turn : (ts : Tokens) (t : S) (us : Tokens) (h : H) (done : List X) → Turned false ts t us h done → Elements ts t us h done
      last_turn ts t us h done l =
          let r = split ts (body l.x) (last ∷ []) l.starts in
          record { all = record { first = l.x; others = [] }; begins = l.begins; starts = element_before l.x [] r.before r.behind; kept = l.kept }

      another_turn : (ts : Tokens) (s : S) (vs : Tokens) (t : S) (us : Tokens) (h : H) (done : List X) (a : Turned true ts s vs h done) → Elements vs t us a.ahead (done ++ a.x ∷ []) → Elements ts t us h done
      another_turn ts s vs t us h done a e =
          let r = split ts (body a.x) (lead a.ahead ∷ []) a.starts in
          let f = e.all.first in
          let os = e.all.others in
          let behind : Starts us r.us (lead (head f) ∷ element_tokens f os) = subst (λ h. Starts us r.us (lead h ∷ element_tokens f os)) (sym e.begins) (join r.behind e.starts) in
          record {
            all = record { first = a.x; others = f ∷ os };
            begins = a.begins;
            starts = element_before a.x (flat_map (λ y. lead (head y) ∷ body y) (f ∷ os)) r.before behind;
            kept = subst (P t us) (append_assoc done (a.x ∷ []) (f ∷ os)) e.kept;
          }

      turns_sound : (n : ℕ) (s : S) (ts : Tokens) (t : S) (us : Tokens) (h : H) (done : List X) → count ts < n → turns turn n s ts ≡ Ok (t, us) → P s ts done → Elements ts t us h done
      unfolding turns
      turns_sound zero s ts t us h done few e p = absurd (omega arith)
      turns_sound (suc n) s ts t us h done few e p =
          let a = then_passed (turn s ts) e in
          on a.v.0 a.v.1 a.us a.is a.goes (turns_sound n a.v.1 a.us t us)
        where
          on : (b : Bool) (x : S) (vs : Tokens) → turn s ts ≡ Ok ((b, x), vs) → cond b (turns turn n x vs) (Ok (x, vs)) ≡ Ok (t, us) → ((h : H) (done : List X) → count vs < n → turns turn n x vs ≡ Ok (t, us) → P x vs done → Elements vs t us h done) → Elements ts t us h done
          on true x vs e g rec =
              let a = one true s ts x vs h done e p in
              let took = count_behind a.starts in
              another_turn ts x vs t us h done a (rec a.ahead (done ++ a.x ∷ []) (omega (arith, took, length-append (body a.x) (lead a.ahead ∷ []))) g a.kept)
          on false x vs e g rec =
              let q : ◌≡◌ {A = S × Tokens} (x, vs) (t, us) = cc in
              last_turn ts t us h done (subst (λ y. Turned false ts y.0 y.1 h done) q (one false s ts x vs h done e p))

      -- the elements that a repetition has read, the beginning h of the first before it
      pub elements_sound : (s : S) (ts : Tokens) (t : S) (us : Tokens) (h : H) → many turn s ts ≡ Ok (t, us) → P s ts [] → Elements ts t us h []
      elements_sound s ts t us h e p = turns_sound (suc (count ts)) s ts t us h [] (omega arith) e p

  -- complete: Q s ts xs tells that in the state s, with the tokens ts left, the elements xs are to come
  module _
      (Q : S → Tokens → List X → Type 0)
      (one : (more : Bool) (s : S) (ts us : Tokens) (x : X) (xs : List X) (ahead : H) → Starts us ts (body x ++ after more ahead ∷ []) → Q s ts (x ∷ xs) → (t : S) × (turn s ts ≡ Ok ((more, t), us)) × Q t us xs)
    where
      going_complete : (xs : List X) (x : X) (s : S) (ts us : Tokens) (whole : Loaded S) → Starts us ts (element_tokens x xs) → Q s ts (x ∷ xs) → Going turn s ts whole → (t : S) × (Ok (t, us) ≡ whole) × Q t us []
      going_complete [] x s ts us whole st q g =
          let o = one false s ts us x [] (head x) (subst (Starts us ts) (append_assoc (body x) [] (last ∷ [])) st) q in
          (o.0, ends turn g o.0 us o.1, o.2)
      going_complete (y ∷ ys) x s ts us whole st q g =
          let others = flat_map (λ y. lead (head y) ∷ body y) (y ∷ ys) in
          let r = split ts (body x) (others ++ last ∷ []) (subst (Starts us ts) (append_assoc (body x) others (last ∷ [])) st) in
          let b = split r.us (lead (head y) ∷ []) (element_tokens y ys) r.behind in
          let whole_turn = join r.before b.before in
          let o = one true s ts b.us x (y ∷ ys) (head y) whole_turn q in
          let on = goes_on turn g o.0 b.us o.1 (omega (arith, count_behind whole_turn, length-append (body x) (lead (head y) ∷ []))) in
          going_complete ys y o.0 b.us us whole b.behind o.2 on

      pub elements_complete : (xs : Several X) (s : S) (ts us : Tokens) → Starts us ts (element_tokens xs.first xs.others) → Q s ts (xs.first ∷ xs.others) → (t : S) × (many turn s ts ≡ Ok (t, us)) × Q t us []
      elements_complete xs s ts us st q =
          let r = going_complete xs.others xs.first s ts us (many turn s ts) st q (going turn s ts) in
          (r.0, sym r.1, r.2)

-- x (, x)* and a closing mark: a turn reads x and the mark behind it
module _ {S X : Type 0} (turn : S → Tokens → Loaded (Bool × S)) (body : X → List Terminal) (last : Mark) where
  abbrev behind : Bool → Terminal
  behind more = mark (cond more mk.Comma last)

  behind_is : (more : Bool) → behind more ≡ after turn (λ (x : X). tt) (λ (h : Unit {0}). mark mk.Comma) body (mark last) more tt
  behind_is true = refl
  behind_is false = refl

  pub record ListRead (P : S → Tokens → List X → Type 0) (ts : Tokens) (t : S) (us : Tokens) : Type 0 where
    pub all : Several X
    pub starts : Starts us ts (list_tokens body all ++ mark last ∷ [])
    pub kept : P t us (each all)

  pub record OneRead (P : S → Tokens → List X → Type 0) (more : Bool) (ts : Tokens) (t : S) (us : Tokens) (done : List X) : Type 0 where
    pub x : X
    pub starts : Starts us ts (body x ++ behind more ∷ [])
    pub kept : P t us (done ++ x ∷ [])

  pub list_sound : (P : S → Tokens → List X → Type 0) → ((more : Bool) (s : S) (ts : Tokens) (t : S) (us : Tokens) (done : List X) → turn s ts ≡ Ok ((more, t), us) → P s ts done → OneRead P more ts t us done) → (s : S) (ts : Tokens) (t : S) (us : Tokens) → many turn s ts ≡ Ok (t, us) → P s ts [] → ListRead P ts t us
  list_sound P one s ts t us e p =
      let r = elements_sound turn (λ (x : X). tt) (λ (h : Unit {0}). mark mk.Comma) body (mark last) P turned s ts t us tt e p in
      record { all = r.all; starts = r.starts; kept = r.kept }
    where
      turned : (more : Bool) (s : S) (ts : Tokens) (t : S) (us : Tokens) (h : Unit {0}) (done : List X) → turn s ts ≡ Ok ((more, t), us) → P s ts done → Turned turn (λ (x : X). tt) (λ (h : Unit {0}). mark mk.Comma) body (mark last) P more ts t us h done
      turned more s ts t us h done e p =
          let o = one more s ts t us done e p in
          record { x = o.x; begins = refl; ahead = tt; starts = subst (λ w. Starts us ts (body o.x ++ w ∷ [])) (behind_is more) o.starts; kept = o.kept }

  pub list_complete : (Q : S → Tokens → List X → Type 0) → ((more : Bool) (s : S) (ts us : Tokens) (x : X) (xs : List X) → Starts us ts (body x ++ behind more ∷ []) → Q s ts (x ∷ xs) → (t : S) × (turn s ts ≡ Ok ((more, t), us)) × Q t us xs) → (xs : Several X) (s : S) (ts us : Tokens) → Starts us ts (list_tokens body xs ++ mark last ∷ []) → Q s ts (each xs) → (t : S) × (many turn s ts ≡ Ok (t, us)) × Q t us []
  list_complete Q one xs s ts us st q =
      elements_complete turn (λ (x : X). tt) (λ (h : Unit {0}). mark mk.Comma) body (mark last) Q
      (λ more s ts us x xs h st q. one more s ts us x xs (subst (λ w. Starts us ts (body x ++ w ∷ [])) (sym (behind_is more)) st) q)
      xs s ts us st q

-- the same where one part of the turn reads x, and the other the mark behind it
module _ {S X : Type 0} (one : S → Tokens → Loaded S) (body : X → List Terminal) (last : Mark) where
  pub listed_sound : (P : S → List X → Type 0) → ((s : S) (ts : Tokens) (t : S) (us : Tokens) (done : List X) → one s ts ≡ Ok (t, us) → P s done → (x : X) × Starts us ts (body x) × P t (done ++ x ∷ [])) → (s : S) (ts : Tokens) (t : S) (us : Tokens) → many (list_turn last one) s ts ≡ Ok (t, us) → P s [] → ListRead (list_turn last one) body last (λ s _ xs. P s xs) ts t us
  listed_sound P step s ts t us e p = list_sound (list_turn last one) body last (λ s _ xs. P s xs) turned s ts t us e p
    where
      turned : (more : Bool) (s : S) (ts : Tokens) (t : S) (us : Tokens) (done : List X) → (list_turn last one) s ts ≡ Ok ((more, t), us) → P s done → OneRead (list_turn last one) body last (λ s _ xs. P s xs) more ts t us done
      turned more s ts t us done h p =
          let o = then_passed (one s ts) h in
          let a = parse_passed (another_in last o.us) o.goes in
          let made = accepted a.goes in
          let r = step s ts o.v o.us done o.is p in
          let q = another_taken last o.us a.v a.us a.is in
          let m = front q.1 (subst (λ z. Starts us z []) (sym made.1) here) in
          let w : Starts us o.us (mark (cond more mk.Comma last) ∷ []) = subst (λ (b : Bool × S). Starts us o.us (mark (cond b.0 mk.Comma last) ∷ [])) made.0 m in
          record { x = r.0; starts = join r.1 w; kept = subst (λ (b : Bool × S). P b.1 (done ++ r.0 ∷ [])) made.0 r.2 }

  pub listed_complete : same_mark last mk.Comma ≡ false → (Q : S → List X → Type 0) → ((s : S) (ts us : Tokens) (x : X) (xs : List X) → Starts us ts (body x) → Q s (x ∷ xs) → (t : S) × (one s ts ≡ Ok (t, us)) × Q t xs) → (xs : Several X) (s : S) (ts us : Tokens) → Starts us ts (list_tokens body xs ++ mark last ∷ []) → Q s (each xs) → (t : S) × (many (list_turn last one) s ts ≡ Ok (t, us)) × Q t []
  listed_complete apart Q step xs s ts us st q = list_complete (list_turn last one) body last (λ s _ xs. Q s xs) turned xs s ts us st q
    where
      another_read : (more : Bool) (ts us : Tokens) → Starts us ts (mark (cond more mk.Comma last) ∷ []) → another_in last ts ≡ Ok (more, us)
      another_read true ts us (next here) = refl
      another_read false ts us (next here) = cond-false (same_mark last mk.Comma) _ _ apart ∙ cond-true (same_mark last last) _ _ (eq-eqb _ _ refl)

      turned : (more : Bool) (s : S) (ts us : Tokens) (x : X) (xs : List X) → Starts us ts (body x ++ mark (cond more mk.Comma last) ∷ []) → Q s (x ∷ xs) → (t : S) × ((list_turn last one) s ts ≡ Ok ((more, t), us)) × Q t xs
      turned more s ts us x xs st q =
          let r = split ts (body x) (mark (cond more mk.Comma last) ∷ []) st in
          let o = step s ts r.us x xs r.before q in
          (o.0, ap (λ (a : Loaded S). then a λ t ts. parse (another_in last ts) λ more ts. Ok ((more, t), ts)) o.1 ∙ ap (λ (a : Parsed Bool). parse a λ more ts. Ok ((more, o.0), ts)) (another_read more r.us us r.behind), o.2)
