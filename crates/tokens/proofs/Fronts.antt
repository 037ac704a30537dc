-- What a byte that begins no gap begins: a lexeme, the longest there; a string that is too long, cut off or holds a bad byte; or nothing.
use Rattle.std.proofs.Common.{◌≡◌, ℕ, zero, suc, ◌+◌, ◌<◌, ◌≤◌, Bool, true, false, cond, eqb, leb, List, [], ◌∷◌, ◌++◌, length, take, drop, Some, None, Option, sym, refl, ap, ◌∙◌, subst, append_assoc, arith, length-append, take-append-drop, length-take-le, drop-drop}
use lib.Seq.{drop-append_seam}
use Rattle.std.specs.List.{prefix_len}
use Rattle.std.proofs.lemmas.List.Sums.{prefix_len-le-length}
use Rattle.std.proofs.lemmas.Bool.{cond-true, cond-false, eqb-true, leb-true, leb-false, and_parts}
use Rattle.text_bytes.specs.declared.kinds.Mark.{Mark}
use Rattle.text_bytes.specs.declared.kinds.Mark.TheVariants as mk
use Rattle.text_bytes.specs.declared.kinds.ByteKind.{ByteKind}
use Rattle.text_bytes.specs.declared.kinds.ByteKind.TheVariants.{OfName, OfNumber, OfString}
use Rattle.text_bytes.specs.Bytes.{blank, letter, digit, of_kind, mark_byte, mark_of}
use Rattle.tokens.specs.Spelling.{Each, Lexeme, Written, Longest, Stray, Cut}
use Rattle.tokens.specs.Spelling as sp
use Rattle.tokens.proofs.Runs.{Stops, run_length, run_at_least, run_split}
use Rattle.tokens.proofs.Fractions.{stop_digit, digit_not_letter}

-- how far digits reach behind their first, and a full stop and digits behind them
number_reach : List ℕ → ℕ
number_reach bs = cond (stop_digit (drop (prefix_len digit bs) bs)) (2 + prefix_len digit bs + prefix_len digit (drop (prefix_len digit bs + 1) bs)) (1 + prefix_len digit bs)

-- how far the longest lexeme reaches from the front
reach : List ℕ → ℕ
reach [] = 0
reach (b ∷ bs) = cond (letter b) (1 + prefix_len (of_kind OfName) bs) (cond (digit b) (number_reach bs) (cond (eqb b 34) (2 + prefix_len (of_kind OfString) bs) 1))

reach_word : (b : ℕ) (bs : List ℕ) → letter b ≡ true → reach (b ∷ bs) ≡ 1 + prefix_len (of_kind OfName) bs
unfolding reach
reach_word b bs h = cond-true (letter b) _ _ h

reach_number : (b : ℕ) (bs : List ℕ) → digit b ≡ true → reach (b ∷ bs) ≡ number_reach bs
unfolding reach
reach_number b bs h = cond-false (letter b) _ _ (digit_not_letter b h) ∙ cond-true (digit b) _ _ h

reach_string : (bs : List ℕ) → reach (34 ∷ bs) ≡ 2 + prefix_len (of_kind OfString) bs
unfolding reach
reach_string bs = refl

reach_mark : (m : Mark) (bs : List ℕ) → reach (mark_byte m ∷ bs) ≡ 1
unfolding reach
reach_mark mk.OpenBrace bs = refl
reach_mark mk.CloseBrace bs = refl
reach_mark mk.Semicolon bs = refl
reach_mark mk.Colon bs = refl
reach_mark mk.Comma bs = refl
reach_mark mk.Equals bs = refl
reach_mark mk.FullStop bs = refl
reach_mark mk.Minus bs = refl

reach_whole : (bs : List ℕ) → stop_digit (drop (prefix_len digit bs) bs) ≡ false → number_reach bs ≡ 1 + prefix_len digit bs
unfolding number_reach
reach_whole bs h = cond-false (stop_digit (drop (prefix_len digit bs) bs)) _ _ h

reach_fraction : (bs : List ℕ) → stop_digit (drop (prefix_len digit bs) bs) ≡ true → number_reach bs ≡ 2 + prefix_len digit bs + prefix_len digit (drop (prefix_len digit bs + 1) bs)
unfolding number_reach
reach_fraction bs h = cond-true (stop_digit (drop (prefix_len digit bs) bs)) _ _ h

reach_digits : (bs : List ℕ) → 1 + prefix_len digit bs ≤ number_reach bs
reach_digits bs = go (stop_digit (drop (prefix_len digit bs) bs)) refl
  where
    go : (t : Bool) → stop_digit (drop (prefix_len digit bs) bs) ≡ t → 1 + prefix_len digit bs ≤ number_reach bs
    go true h = omega (arith, reach_fraction bs h)
    go false h = omega (arith, reach_whole bs h)

-- no lexeme reaches further
written_reach : (l : Lexeme) (v u : List ℕ) → Written l v → length v ≤ reach (v ++ u)
written_reach l v u (sp.a_word b bs h e) = omega (arith, reach_word b (bs ++ u) h, run_at_least (of_kind OfName) bs u e)
written_reach l v u (sp.a_number b bs h e) = omega (arith, reach_number b (bs ++ u) h, run_at_least digit bs u e, reach_digits (bs ++ u))
written_reach l v u (sp.a_decimal b bs c cs h e k f) =
    let a : (bs ++ 46 ∷ c ∷ cs) ++ u ≡ bs ++ 46 ∷ c ∷ (cs ++ u) = append_assoc bs (46 ∷ c ∷ cs) u in
    rw a (omega (arith, reach_number b (bs ++ 46 ∷ c ∷ (cs ++ u)) h, reach_fraction (bs ++ 46 ∷ c ∷ (cs ++ u)) (ap stop_digit at_stop ∙ k), digits_behind, run_at_least digit (c ∷ cs) u (k, f), length-append bs (46 ∷ c ∷ cs), whole))
  where
    whole : prefix_len digit (bs ++ 46 ∷ c ∷ (cs ++ u)) ≡ length bs
    whole = run_length digit bs (46 ∷ c ∷ (cs ++ u)) e refl

    at_stop : drop (prefix_len digit (bs ++ 46 ∷ c ∷ (cs ++ u))) (bs ++ 46 ∷ c ∷ (cs ++ u)) ≡ 46 ∷ c ∷ (cs ++ u)
    at_stop = ap (λ n. drop n (bs ++ 46 ∷ c ∷ (cs ++ u))) whole ∙ drop-append_seam bs (46 ∷ c ∷ (cs ++ u))

    digits_behind : prefix_len digit (drop (prefix_len digit (bs ++ 46 ∷ c ∷ (cs ++ u)) + 1) (bs ++ 46 ∷ c ∷ (cs ++ u))) ≡ prefix_len digit (c ∷ (cs ++ u))
    digits_behind = ap (prefix_len digit) (sym (drop-drop 1 (prefix_len digit (bs ++ 46 ∷ c ∷ (cs ++ u))) (bs ++ 46 ∷ c ∷ (cs ++ u))) ∙ ap (drop 1) at_stop)
written_reach l v u (sp.a_string bs e) =
    let a : (bs ++ 34 ∷ []) ++ u ≡ bs ++ 34 ∷ u = append_assoc bs (34 ∷ []) u in
    rw a (omega (arith, reach_string (bs ++ 34 ∷ u), run_at_least (of_kind OfString) bs (34 ∷ u) e, length-append bs (34 ∷ [])))
written_reach l v u (sp.a_mark m) = omega (arith, reach_mark m u)

longest_by_reach : (w r : List ℕ) → reach (w ++ r) ≤ length w → Longest w r
longest_by_reach w r h l v u s e = let k : reach (v ++ u) ≡ reach (w ++ r) = ap reach e in omega (arith, written_reach l v u s)

-- what the bytes begin with
pub data Front (bs : List ℕ) : Type 0 where
  lexeme : (l : Lexeme) (w r : List ℕ) → bs ≡ w ++ r → Written l w → Longest w r → Front bs
  long_string : (ss r : List ℕ) → bs ≡ 34 ∷ (ss ++ r) → Each (of_kind OfString) ss → length ss ≡ 65 → Front bs
  open_string : (ss r : List ℕ) → bs ≡ 34 ∷ (ss ++ r) → Each (of_kind OfString) ss → length ss ≤ 64 → Cut r → Front bs
  bad_byte : (ss : List ℕ) (b : ℕ) (r : List ℕ) → bs ≡ 34 ∷ (ss ++ b ∷ r) → Each (of_kind OfString) ss → length ss ≤ 64 → of_kind OfString b ≡ false → eqb b 34 ≡ false → eqb b 10 ≡ false → Front bs
  stray : (b : ℕ) (r : List ℕ) → bs ≡ b ∷ r → Stray b → Front bs

mark_found : (b : ℕ) (m : Mark) → mark_of b ≡ Some m → b ≡ mark_byte m
mark_found b m =
    one b 123 mk.OpenBrace m _ refl (one b 125 mk.CloseBrace m _ refl (one b 59 mk.Semicolon m _ refl (one b 58 mk.Colon m _ refl
    (one b 44 mk.Comma m _ refl (one b 61 mk.Equals m _ refl (one b 46 mk.FullStop m _ refl (one b 45 mk.Minus m _ refl never)))))))
  where
    never : ◌≡◌ {A = Option Mark} None (Some m) → b ≡ mark_byte m
    never e = let z : ◌≡◌ {A = ℕ} 0 1 = cc in absurd (omega arith)

    one : (b n : ℕ) (x m : Mark) (o : Option Mark) → n ≡ mark_byte x → (o ≡ Some m → b ≡ mark_byte m) → cond (eqb b n) (Some x) o ≡ Some m → b ≡ mark_byte m
    one b n x m o e k = go (eqb b n) refl
      where
        go : (t : Bool) → eqb b n ≡ t → cond t (Some x) o ≡ Some m → b ≡ mark_byte m
        go true h z = let y : x ≡ m = cc in eqb-true b n h ∙ (e ∙ ap mark_byte y)
        go false h z = k z

mark_known : (m : Mark) → mark_of (mark_byte m) ≡ Some m
mark_known mk.OpenBrace = refl
mark_known mk.CloseBrace = refl
mark_known mk.Semicolon = refl
mark_known mk.Colon = refl
mark_known mk.Comma = refl
mark_known mk.Equals = refl
mark_known mk.FullStop = refl
mark_known mk.Minus = refl

each_take : (p : ℕ → Bool) (n : ℕ) (bs : List ℕ) → Each p bs → Each p (take n bs)
each_take p zero bs e = tt
each_take p (suc n) [] e = tt
each_take p (suc n) (b ∷ bs) e = (e.0, each_take p n bs e.1)

-- the byte b, the run of a kind behind it, and what is left
module _ (b : ℕ) (bs : List ℕ) (k : ByteKind) where
  abbrev run : List ℕ
  run = take (prefix_len (of_kind k) bs) bs

  abbrev left : List ℕ
  left = drop (prefix_len (of_kind k) bs) bs

  run_each : Each (of_kind k) run
  run_each = (run_split (of_kind k) bs).0

  left_stops : Stops (of_kind k) left
  left_stops = (run_split (of_kind k) bs).1

  run_count : length run ≡ prefix_len (of_kind k) bs
  run_count = length-take-le (prefix_len (of_kind k) bs) bs (prefix_len-le-length (of_kind k) bs)

  parts : b ∷ bs ≡ b ∷ (run ++ left)
  parts = ap (λ x. b ∷ x) (sym (take-append-drop (prefix_len (of_kind k) bs) bs))

front_word : (b : ℕ) (bs : List ℕ) → letter b ≡ true → Front (b ∷ bs)
front_word b bs h = lexeme (sp.word (b ∷ run b bs OfName)) (b ∷ run b bs OfName) (left b bs OfName) (parts b bs OfName) (sp.a_word b (run b bs OfName) h (run_each b bs OfName))
    (longest_by_reach (b ∷ run b bs OfName) (left b bs OfName) (let e : reach (b ∷ (run b bs OfName ++ left b bs OfName)) ≡ reach (b ∷ bs) = ap reach (sym (parts b bs OfName)) in omega (arith, reach_word b bs h, run_count b bs OfName)))

front_number : (b : ℕ) (bs : List ℕ) → digit b ≡ true → Front (b ∷ bs)
front_number b bs h = go (left b bs OfNumber) refl (stop_digit (left b bs OfNumber)) refl
  where
    whole : stop_digit (left b bs OfNumber) ≡ false → Front (b ∷ bs)
    whole n = lexeme (sp.digits (b ∷ run b bs OfNumber)) (b ∷ run b bs OfNumber) (left b bs OfNumber) (parts b bs OfNumber) (sp.a_number b (run b bs OfNumber) h (run_each b bs OfNumber))
        (longest_by_reach (b ∷ run b bs OfNumber) (left b bs OfNumber) (let e : reach (b ∷ (run b bs OfNumber ++ left b bs OfNumber)) ≡ reach (b ∷ bs) = ap reach (sym (parts b bs OfNumber)) in omega (arith, reach_number b bs h, reach_whole bs n, run_count b bs OfNumber)))

    fraction : (c d : ℕ) (r : List ℕ) → left b bs OfNumber ≡ c ∷ d ∷ r → c ≡ 46 → digit d ≡ true → Front (b ∷ bs)
    fraction c d r is stop k = lexeme (sp.fraction w) w rs (at_all) (sp.a_decimal b (run b bs OfNumber) d ds h (run_each b bs OfNumber) k (run_split digit r).0) (longest_by_reach w rs (omega (arith, far, reach_number b bs h, reach_fraction bs (ap stop_digit is_stop ∙ k), digits_behind, one_digit, ds_count, run_count b bs OfNumber, length-append (run b bs OfNumber) (46 ∷ d ∷ ds))))
      where
        ds : List ℕ
        ds = take (prefix_len digit r) r

        rs : List ℕ
        rs = drop (prefix_len digit r) r

        w : List ℕ
        w = b ∷ (run b bs OfNumber ++ 46 ∷ d ∷ ds)

        is_stop : left b bs OfNumber ≡ 46 ∷ d ∷ r
        is_stop = is ∙ ap (λ x. x ∷ d ∷ r) stop

        at_all : b ∷ bs ≡ w ++ rs
        at_all = parts b bs OfNumber ∙ ap (λ x. b ∷ x) (ap (λ x. run b bs OfNumber ++ x) (is_stop ∙ ap (λ x. 46 ∷ d ∷ x) (sym (take-append-drop (prefix_len digit r) r))) ∙ sym (append_assoc (run b bs OfNumber) (46 ∷ d ∷ ds) rs))

        far : reach (w ++ rs) ≡ reach (b ∷ bs)
        far = ap reach (sym at_all)

        digits_behind : prefix_len digit (drop (prefix_len digit bs + 1) bs) ≡ prefix_len digit (d ∷ r)
        digits_behind = ap (prefix_len digit) (sym (drop-drop 1 (prefix_len digit bs) bs) ∙ ap (drop 1) is_stop)

        one_digit : prefix_len digit (d ∷ r) ≡ 1 + prefix_len digit r
        one_digit = cond-true (digit d) _ _ k

        ds_count : length ds ≡ prefix_len digit r
        ds_count = length-take-le (prefix_len digit r) r (prefix_len-le-length digit r)

    go : (l : List ℕ) → left b bs OfNumber ≡ l → (t : Bool) → stop_digit (left b bs OfNumber) ≡ t → Front (b ∷ bs)
    go l is false n = whole n
    go [] is true n = let z : ◌≡◌ {A = Bool} false true = ap stop_digit (sym is) ∙ n in let y : ◌≡◌ {A = ℕ} 0 1 = cc in absurd (omega arith)
    go (c ∷ []) is true n = let z : ◌≡◌ {A = Bool} false true = ap stop_digit (sym is) ∙ n in let y : ◌≡◌ {A = ℕ} 0 1 = cc in absurd (omega arith)
    go (c ∷ d ∷ r) is true n = let p = and_parts (eqb c 46) (digit d) (ap stop_digit (sym is) ∙ n) in fraction c d r is (eqb-true c 46 p.0) p.1

front_string : (bs : List ℕ) → Front (34 ∷ bs)
front_string bs = go (leb (length (run 34 bs OfString)) 64) refl (left 34 bs OfString) refl
  where
    u : List ℕ
    u = run 34 bs OfString

    all : 34 ∷ bs ≡ 34 ∷ (u ++ left 34 bs OfString)
    all = parts 34 bs OfString

    long : 64 < length u → Front (34 ∷ bs)
    long h = long_string (take 65 u) (drop 65 u ++ left 34 bs OfString) (all ∙ ap (λ x. 34 ∷ x) (ap (λ x. x ++ left 34 bs OfString) (sym (take-append-drop 65 u)) ∙ append_assoc (take 65 u) (drop 65 u) (left 34 bs OfString))) (each_take (of_kind OfString) 65 u (run_each 34 bs OfString)) (length-take-le 65 u (omega arith))

    closed : (r : List ℕ) → 34 ∷ bs ≡ 34 ∷ (u ++ 34 ∷ r) → Front (34 ∷ bs)
    closed r is =
        let at : 34 ∷ bs ≡ 34 ∷ ((u ++ 34 ∷ []) ++ r) = is ∙ ap (λ x. 34 ∷ x) (sym (append_assoc u (34 ∷ []) r)) in
        let far : reach (34 ∷ ((u ++ 34 ∷ []) ++ r)) ≡ reach (34 ∷ bs) = ap reach (sym at) in
        lexeme (sp.quoted u) (34 ∷ (u ++ 34 ∷ [])) r at (sp.a_string u (run_each 34 bs OfString)) (longest_by_reach (34 ∷ (u ++ 34 ∷ [])) r (omega (arith, far, reach_string bs, run_count 34 bs OfString, length-append u (34 ∷ []))))

    short : length u ≤ 64 → (l : List ℕ) → left 34 bs OfString ≡ l → Front (34 ∷ bs)
    short h [] e = open_string u [] (all ∙ ap (λ x. 34 ∷ (u ++ x)) e) (run_each 34 bs OfString) h sp.by_end
    short h (b ∷ r) e = by (eqb b 34) refl (eqb b 10) refl
      where
        is : 34 ∷ bs ≡ 34 ∷ (u ++ b ∷ r)
        is = all ∙ ap (λ x. 34 ∷ (u ++ x)) e

        by : (q : Bool) → eqb b 34 ≡ q → (f : Bool) → eqb b 10 ≡ f → Front (34 ∷ bs)
        by true x f y = closed r (is ∙ ap (λ z. 34 ∷ (u ++ z ∷ r)) (eqb-true b 34 x))
        by false x true y = open_string u (10 ∷ r) (is ∙ ap (λ z. 34 ∷ (u ++ z ∷ r)) (eqb-true b 10 y)) (run_each 34 bs OfString) h (sp.by_feed r)
        by false x false y = bad_byte u b r is (run_each 34 bs OfString) h (subst (Stops (of_kind OfString)) e (left_stops 34 bs OfString)) x y

    go : (t : Bool) → leb (length u) 64 ≡ t → (l : List ℕ) → left 34 bs OfString ≡ l → Front (34 ∷ bs)
    go true h l e = short (leb-true (length u) 64 h) l e
    go false h l e = long (leb-false (length u) 64 h)

pub front : (b : ℕ) (bs : List ℕ) → blank b ≡ false → eqb b 35 ≡ false → Front (b ∷ bs)
front b bs no_blank no_comment = by_letter (letter b) refl
  where
    marked : letter b ≡ false → digit b ≡ false → eqb b 34 ≡ false → (o : Option Mark) → mark_of b ≡ o → Front (b ∷ bs)
    marked x y z (Some m) e =
        let at : b ∷ bs ≡ mark_byte m ∷ bs = ap (λ x. x ∷ bs) (mark_found b m e) in
        lexeme (sp.sign m) (mark_byte m ∷ []) bs at (sp.a_mark m) (longest_by_reach (mark_byte m ∷ []) bs (omega (arith, reach_mark m bs)))
    marked x y z None e = stray b bs refl (record { no_blank = no_blank; no_comment = no_comment; no_word = x; no_number = y; no_string = z; no_mark = λ m k. (let n : ◌≡◌ {A = Option Mark} None (Some m) = sym e ∙ (ap mark_of k ∙ mark_known m) in let w : ◌≡◌ {A = ℕ} 0 1 = cc in omega arith) })

    by_quote : letter b ≡ false → digit b ≡ false → (t : Bool) → eqb b 34 ≡ t → Front (b ∷ bs)
    by_quote x y true z = subst (λ c. Front (c ∷ bs)) (sym (eqb-true b 34 z)) (front_string bs)
    by_quote x y false z = marked x y z (mark_of b) refl

    by_digit : letter b ≡ false → (t : Bool) → digit b ≡ t → Front (b ∷ bs)
    by_digit x true y = front_number b bs y
    by_digit x false y = by_quote x y (eqb b 34) refl

    by_letter : (t : Bool) → letter b ≡ t → Front (b ∷ bs)
    by_letter true x = front_word b bs x
    by_letter false x = by_digit x (digit b) refl
