-- Rows one after the other, each behind a keyword, both ways: from the symbol read last up to a symbol that begins no row.
use Rattle.std.proofs.Common.{◌≡◌, ℕ, zero, suc, ◌<◌, Bool, true, false, cond, List, [], ◌∷◌, ◌++◌, Ok, sym, refl, ap, ◌∙◌, subst, append_assoc, append-nil, arith}
use Rattle.std.proofs.lemmas.Bool.{cond-true, cond-false}
use Rattle.std.specs.List.{flat_map}
use Rattle.keywords.specs.declared.Keyword.{Keyword}
use Rattle.text_bytes.specs.declared.kinds.Mark.TheVariants as mk
use Rattle.tokens.specs.Terminals.{Terminal, Tokens, count}
use Rattle.tokens.specs.Terminals as t
use Rattle.grammar.specs.declared.symbols.Found.{Found}
use Rattle.grammar.specs.declared.symbols.Symbol.TheVariants as sy
use Rattle.grammar.specs.Readers.{Parsed, symbol_in, expect_in}
use Rattle.refusals.specs.Shapes.{is_mark, row_turn}
use Rattle.refusals.specs.Steps.{Loaded, parse, then, allow, turns, many}
use Rattle.refusals.proofs.Passing.{accepted, then_passed, parse_passed, allow_passed}
use Rattle.refusals.proofs.Repeating.{Going, going, goes_on, ends}
use Rattle.language.specs.Trees.{Several, each}
use Rattle.language.specs.Obeying.{Starts, here, next}
use Rattle.language.proofs.Taking.{terminal, symbol_same, symbol_taken, expect_taken, front, join, split, count_behind}

-- what is read is what is told
pub read_is : {X : Type 0} {x y : X} {us vs : Tokens} → ◌≡◌ {A = Parsed X} (Ok (x, us)) (Ok (y, vs)) → (x ≡ y) × (us ≡ vs)
read_is {X} {x} {y} {us} {vs} h = let e : ◌≡◌ {A = X × Tokens} (x, us) (y, vs) = cc in (ap (λ v. v.0) e, ap (λ v. v.1) e)

-- what holds of tokens, and of those behind each
pub carried : (T : Tokens → Type 0) → ((x : Terminal) (p : ℕ) (ts : Tokens) → T (t.token x p ts) → T ts) → {us : Tokens} (ts : Tokens) (ws : List Terminal) → Starts us ts ws → T ts → T us
carried T on ts [] here h = h
carried T on ts (w ∷ ws) (next s) h = carried T on _ ws s (on _ _ _ h)

-- a keyword as the symbol that was read
abbrev pub keyword_at : Keyword → ℕ → Found
keyword_at k p = record { symbol = sy.Keyword k; place = p }

-- a keyword that was read stands in front
keyword_read : (k : Keyword) (ts : Tokens) (f : Found) (us : Tokens) → symbol_in ts ≡ Ok (f, us) → f.symbol ≡ sy.Keyword k → Starts us ts (t.keyword k ∷ [])
keyword_read k ts f us h e = front (symbol_taken ts f us h ∙ ap (λ x. t.token (terminal x) f.place us) e) here

symbol_less : (ts : Tokens) (f : Found) (us : Tokens) → symbol_in ts ≡ Ok (f, us) → count us < count ts
symbol_less ts f us h = omega (arith, ap count (symbol_taken ts f us h))

-- { row+ }
abbrev pub block_in : {S : Type 0} → (Found → Bool) → (Found → S → Tokens → Loaded S) → S → Tokens → Loaded S
block_in begins row s ts =
    parse (expect_in (sy.Mark mk.OpenBrace) ts) λ _ ts.
    parse (symbol_in ts) λ f ts.
    allow (begins f) f.place
    (then (many (row_turn begins row) (s, f) ts) λ s ts.
    allow (is_mark mk.CloseBrace s.1) s.1.place
    (Ok (s.0, ts)))

-- the rows that were read, up to the symbol g
pub record RowsRead {S X : Type 0} (one : X → List Terminal) (P : S → List X → Type 0) (done : List X) (ws : Tokens) (s : S) (g : Found) (us : Tokens) : Type 0 where
  pub rows : List X
  pub vs : Tokens
  pub starts : Starts vs ws (flat_map one rows)
  pub last : symbol_in vs ≡ Ok (g, us)
  pub holds : P s (done ++ rows)

-- and there is one at least
pub record SomeRead {S X : Type 0} (one : X → List Terminal) (P : S → List X → Type 0) (done : List X) (ws : Tokens) (s : S) (g : Found) (us : Tokens) : Type 0 where
  pub rows : Several X
  pub vs : Tokens
  pub starts : Starts vs ws (flat_map one (each rows))
  pub last : symbol_in vs ≡ Ok (g, us)
  pub holds : P s (done ++ each rows)

module _ {S X : Type 0} (begins : Found → Bool) (row : Found → S → Tokens → Loaded S) (head : X → Keyword) (rest : X → List Terminal) (T : Tokens → Type 0) (on : (x : Terminal) (p : ℕ) (ts : Tokens) → T (t.token x p ts) → T ts) (P : S → List X → Type 0) where
  abbrev one : X → List Terminal
  one x = t.keyword (head x) ∷ rest x

  abbrev turn : S × Found → Tokens → Loaded (Bool × (S × Found))
  turn = row_turn begins row

  symbol_on : (ts : Tokens) (f : Found) (us : Tokens) → symbol_in ts ≡ Ok (f, us) → T ts → T us
  symbol_on ts f us e h = on (terminal f.symbol) f.place us (subst T (symbol_taken ts f us e) h)

  -- behind a row stands the keyword of the next, or the last symbol
  next_symbol : (xs : List X) (ws vs : Tokens) (g : Found) (us : Tokens) → Starts vs ws (flat_map one xs) → symbol_in vs ≡ Ok (g, us) → (f : Found) × (ts : Tokens) × (symbol_in ws ≡ Ok (f, ts))
  next_symbol [] ws vs g us here b = (g, us, b)
  next_symbol (x ∷ xs) ws vs g us (next {p = q} {ts = ts} st) b = (keyword_at (head x) q, ts, refl)

  -- P s xs: in the state s the rows xs are still to come
  module _ (does : (x : X) (p : ℕ) → begins (keyword_at (head x) p) ≡ true) (step : (s : S) (x : X) (xs : List X) (p : ℕ) (ts us : Tokens) → P s (x ∷ xs) → T ts → Starts us ts (rest x) → (r : S) × (row (keyword_at (head x) p) s ts ≡ Ok (r, us)) × P r xs) where
    -- rows that the grammar has and the rules allow are read
    pub rows_complete : (xs : List X) (s : S) (f : Found) (ws ts vs : Tokens) (g : Found) (us : Tokens) → P s xs → T ws → symbol_in ws ≡ Ok (f, ts) → Starts vs ws (flat_map one xs) → symbol_in vs ≡ Ok (g, us) → begins g ≡ false → (r : S) × (many turn (s, f) ts ≡ Ok ((r, g), us)) × P r []
    rows_complete xs s f ws ts vs g us p h a st b stop =
        let r = go xs s f ws ts vs g us (going turn (s, f) ts) p h a st b stop in
        (r.0, sym r.1, r.2)
      where
        go : {whole : Loaded (S × Found)} (xs : List X) (s : S) (f : Found) (ws ts vs : Tokens) (g : Found) (us : Tokens) → Going turn (s, f) ts whole → P s xs → T ws → symbol_in ws ≡ Ok (f, ts) → Starts vs ws (flat_map one xs) → symbol_in vs ≡ Ok (g, us) → begins g ≡ false → (r : S) × (Ok ((r, g), us) ≡ whole) × P r []
        go {whole} [] s f ws ts vs g us k p h a here b stop =
            let e = read_is (sym a ∙ b) in
            let last : turn (s, f) ts ≡ Ok ((false, (s, f)), ts) = cond-false (begins f) _ _ (ap begins e.0 ∙ stop) in
            (s, ap {B = Loaded (S × Found)} (λ (v : Found × Tokens). Ok ((s, v.0), v.1)) (λ i. (sym e.0 i, sym e.1 i)) ∙ ends turn k (s, f) ts last, p)
        go {whole} (x ∷ xs) s f ws ts vs g us k p h a (next {p = q} {ts = ts2} st) b stop =
            let e = read_is a in
            let cut = split ts2 (rest x) (flat_map one xs) st in
            let made = step s x xs q ts2 cut.us p (on _ _ _ h) cut.before in
            let behind = next_symbol xs cut.us vs g us cut.behind b in
            let k2 : Going turn (s, keyword_at (head x) q) ts2 whole = subst (λ y. Going turn (s, keyword_at (head x) q) y whole) (sym e.1) (subst (λ y. Going turn (s, y) ts whole) (sym e.0) k) in
            let turned : turn (s, keyword_at (head x) q) ts2 ≡ Ok ((true, (made.0, behind.0)), behind.1) =
            cond-true (begins (keyword_at (head x) q)) _ _ (does x q)
            ∙ (ap (λ v. then {Y = Bool × (S × Found)} v λ r ts. parse (symbol_in ts) λ f ts. Ok ((true, (r, f)), ts)) made.1
            ∙ ap (λ v. parse {Y = Bool × (S × Found)} v λ f ts. Ok ((true, (made.0, f)), ts)) behind.2) in
            let less : count behind.1 < count ts2 = omega (arith, count_behind cut.before, symbol_less cut.us behind.0 behind.1 behind.2) in
            go xs made.0 behind.0 cut.us behind.1 vs g us (goes_on turn k2 (made.0, behind.0) behind.1 turned less) made.2 (carried T on ts2 (rest x) cut.before (on _ _ _ h)) behind.2 cut.behind b stop

    -- { row+ }
    pub block_complete : ((p : ℕ) → begins (record { symbol = sy.Mark mk.CloseBrace; place = p }) ≡ false) → (rows : Several X) (s : S) (ts us : Tokens) → P s (each rows) → T ts → Starts us ts (t.mark mk.OpenBrace ∷ (flat_map one (each rows) ++ t.mark mk.CloseBrace ∷ [])) → (r : S) × (block_in begins row s ts ≡ Ok (r, us)) × P r []
    block_complete close rows s ts us p holds (next {p = q} {ts = ws} st) = let cut = split ws (flat_map one (each rows)) (t.mark mk.CloseBrace ∷ []) st in ended ws cut.us (on _ _ _ holds) cut.before cut.behind
      where
        ended : (ws vs : Tokens) → T ws → Starts vs ws (flat_map one (each rows)) → Starts us vs (t.mark mk.CloseBrace ∷ []) → (r : S) × (block_in begins row s (t.token (t.mark mk.OpenBrace) q ws) ≡ Ok (r, us)) × P r []
        ended ws vs holds (next {p = at} {ts = ts2} before) (next {p = end} here) =
            let all = rows_complete (each rows) s (keyword_at (head rows.first) at) ws ts2 vs (record { symbol = sy.Mark mk.CloseBrace; place = end }) us p holds refl (next before) refl (close end) in
            (all.0, cond-true (begins (keyword_at (head rows.first) at)) _ _ (does rows.first at) ∙ ap (λ v. then {X = S × Found} v λ s ts. allow (is_mark mk.CloseBrace s.1) s.1.place (Ok (s.0, ts))) all.1, all.2)

  -- P s xs: in the state s the rows xs are done
  module _ (step : (f : Found) (s : S) (ts : Tokens) (r : S) (us : Tokens) (done : List X) → begins f ≡ true → row f s ts ≡ Ok (r, us) → P s done → T ts → (x : X) × (f.symbol ≡ sy.Keyword (head x)) × Starts us ts (rest x) × P r (done ++ x ∷ [])) where
    turned : (s : S) (f : Found) (ws ts : Tokens) (more : Bool) (r : S × Found) (us : Tokens) (done : List X) → begins f ≡ true → symbol_in ws ≡ Ok (f, ts) → P s done → T ws → turn (s, f) ts ≡ Ok ((more, r), us) → (more ≡ true) × (x : X) × (vs : Tokens) × Starts vs ws (one x) × (symbol_in vs ≡ Ok (r.1, us)) × P r.0 (done ++ x ∷ [])
    turned s f ws ts more r us done b a p h e =
        let made = then_passed (row f s ts) (sym (cond-true (begins f) _ _ b) ∙ e) in
        let x = step f s ts made.v made.us done b made.is p (symbol_on ws f ts a h) in
        let behind = parse_passed (symbol_in made.us) made.goes in
        let same = accepted behind.goes in (
          sym (ap (λ v. v.0) same.0),
          x.0,
          made.us,
          join (keyword_read (head x.0) ws f ts a x.1) x.2,
          behind.is ∙ ap {B = Parsed Found} (λ (v : Found × Tokens). Ok (v.0, v.1)) (λ i. ((same.0 i).1.1, same.1 i)),
          subst (λ v. P v.1.0 (done ++ x.0 ∷ [])) same.0 x.3,
        )

    -- no row more
    none_more : (s : S) (f : Found) (ws ts : Tokens) (r : S) (g : Found) (us : Tokens) (done : List X) → symbol_in ws ≡ Ok (f, ts) → P s done → ◌≡◌ {A = Loaded (S × Found)} (Ok ((s, f), ts)) (Ok ((r, g), us)) → RowsRead one P done ws r g us
    none_more s f ws ts r g us done a p e =
        let same = accepted e in
        record {
          rows = [];
          vs = ws;
          starts = here;
          last = a ∙ ap {B = Parsed Found} (λ (v : Found × Tokens). Ok (v.0, v.1)) (λ i. ((same.0 i).1, same.1 i));
          holds = subst (P r) (sym (append-nil done)) (subst (λ v. P v.0 done) same.0 p);
        }

    first_read : (n : ℕ) (s : S) (f : Found) (ws ts : Tokens) (r : S) (g : Found) (us : Tokens) (done : List X) → begins f ≡ true → symbol_in ws ≡ Ok (f, ts) → P s done → T ws → turns turn (suc n) (s, f) ts ≡ Ok ((r, g), us) → ((s : S) (f : Found) (ws ts : Tokens) (done : List X) → symbol_in ws ≡ Ok (f, ts) → P s done → T ws → turns turn n (s, f) ts ≡ Ok ((r, g), us) → RowsRead one P done ws r g us) → SomeRead one P done ws r g us
    unfolding turns
    first_read n s f ws ts r g us done b a p h e rec =
        let one_turn = then_passed (turn (s, f) ts) e in
        let x = turned s f ws ts one_turn.v.0 one_turn.v.1 one_turn.us done b a p h one_turn.is in
        let others = rec one_turn.v.1.0 one_turn.v.1.1 x.2 one_turn.us (done ++ x.1 ∷ []) x.4 x.5 (carried T on ws (one x.1) x.3 h) (sym (cond-true one_turn.v.0 _ _ x.0) ∙ one_turn.goes) in
        record {
          rows = record { first = x.1; others = others.rows };
          vs = others.vs;
          starts = join x.3 others.starts;
          last = others.last;
          holds = subst (P r) (append_assoc done (x.1 ∷ []) others.rows) others.holds;
        }

    turns_read : (n : ℕ) (s : S) (f : Found) (ws ts : Tokens) (r : S) (g : Found) (us : Tokens) (done : List X) → symbol_in ws ≡ Ok (f, ts) → P s done → T ws → turns turn n (s, f) ts ≡ Ok ((r, g), us) → RowsRead one P done ws r g us
    unfolding turns
    turns_read zero s f ws ts r g us done a p h e = none_more s f ws ts r g us done a p e
    turns_read (suc n) s f ws ts r g us done a p h e = by (begins f) refl (λ s f ws ts done. turns_read n s f ws ts r g us done)
      where
        by : (b : Bool) → begins f ≡ b → ((s : S) (f : Found) (ws ts : Tokens) (done : List X) → symbol_in ws ≡ Ok (f, ts) → P s done → T ws → turns turn n (s, f) ts ≡ Ok ((r, g), us) → RowsRead one P done ws r g us) → RowsRead one P done ws r g us
        by true b rec = let x = first_read n s f ws ts r g us done b a p h e rec in record { rows = each x.rows; vs = x.vs; starts = x.starts; last = x.last; holds = x.holds }
        by false b rec = none_more s f ws ts r g us done a p (sym (ap (λ v. then {X = Bool × (S × Found)} v λ v ts. cond v.0 (turns turn n v.1 ts) (Ok (v.1, ts))) (cond-false (begins f) _ _ b)) ∙ e)

    -- rows that were read are rows of the grammar
    pub rows_sound : (s : S) (f : Found) (ws ts : Tokens) (r : S) (g : Found) (us : Tokens) (done : List X) → symbol_in ws ≡ Ok (f, ts) → P s done → T ws → many turn (s, f) ts ≡ Ok ((r, g), us) → RowsRead one P done ws r g us
    rows_sound s f ws ts r g us done a p h e = turns_read (suc (count ts)) s f ws ts r g us done a p h e

    -- so of rows of which the symbol read last begins one
    pub some_sound : (s : S) (f : Found) (ws ts : Tokens) (r : S) (g : Found) (us : Tokens) (done : List X) → begins f ≡ true → symbol_in ws ≡ Ok (f, ts) → P s done → T ws → many turn (s, f) ts ≡ Ok ((r, g), us) → SomeRead one P done ws r g us
    some_sound s f ws ts r g us done b a p h e = first_read (count ts) s f ws ts r g us done b a p h e (λ s f ws vs done. turns_read (count ts) s f ws vs r g us done)

    -- { row+ }
    pub block_sound : (s : S) (ts : Tokens) (r : S) (us : Tokens) → block_in begins row s ts ≡ Ok (r, us) → P s [] → T ts → (rows : Several X) × Starts us ts (t.mark mk.OpenBrace ∷ (flat_map one (each rows) ++ t.mark mk.CloseBrace ∷ [])) × P r (each rows)
    block_sound s ts r us h p holds =
        let brace = parse_passed (expect_in (sy.Mark mk.OpenBrace) ts) h in
        let open_brace = expect_taken (sy.Mark mk.OpenBrace) ts brace.v brace.us brace.is in
        let f = parse_passed (symbol_in brace.us) brace.goes in
        let begun = allow_passed (begins f.v) f.v.place _ f.goes in
        let all = then_passed (many turn (s, f.v) f.us) begun.1 in
        let ended = allow_passed (is_mark mk.CloseBrace all.v.1) all.v.1.place _ all.goes in
        let made = accepted ended.1 in
        let read = some_sound s f.v brace.us f.us all.v.0 all.v.1 all.us [] begun.0 f.is p (on _ _ _ (subst T open_brace.1 holds)) all.is in
        let close : read.vs ≡ t.token (t.mark mk.CloseBrace) all.v.1.place all.us = symbol_taken read.vs all.v.1 all.us read.last ∙ ap (λ x. t.token (terminal x) all.v.1.place all.us) (symbol_same all.v.1.symbol (sy.Mark mk.CloseBrace) ended.0) in
        let last : Starts us read.vs (t.mark mk.CloseBrace ∷ []) = subst (λ x. Starts x read.vs (t.mark mk.CloseBrace ∷ [])) made.1 (front close here) in
        (read.rows, front open_brace.1 (join read.starts last), subst (λ x. P x (each read.rows)) made.0 read.holds)
