-- Optional parts behind a keyword, both ways. The symbol that was read last tells whether the part is there.
use Rattle.std.proofs.Common.{◌≡◌, ℕ, Bool, true, false, cond, List, [], ◌∷◌, Some, None, Ok, Option, sym, refl, ap, ◌∙◌, subst}
use Rattle.std.proofs.lemmas.Bool.{cond-true, cond-false, eq-eqb}
use Rattle.keywords.specs.declared.Keyword.{Keyword}
use Rattle.keywords.specs.Keywords.{same_keyword}
use Rattle.tokens.specs.Terminals.{Terminal, Tokens}
use Rattle.tokens.specs.Terminals as t
use Rattle.grammar.specs.declared.symbols.Found.{Found}
use Rattle.grammar.specs.declared.symbols.Symbol.{Symbol}
use Rattle.grammar.specs.declared.symbols.Symbol.TheVariants as sy
use Rattle.grammar.specs.Readers.{symbol_in}
use Rattle.refusals.specs.Shapes.{is_keyword, optional}
use Rattle.refusals.specs.Steps.{Loaded, parse, then}
use Rattle.refusals.proofs.Passing.{accepted, parse_passed, then_passed}
use Rattle.language.specs.Grammar.{option_tokens}
use Rattle.language.specs.Obeying.{Starts, here, next, Every}
use Rattle.language.proofs.Taking.{terminal, symbol_same, symbol_taken, front}

-- the tokens with the symbol read last before them
abbrev pub back : Found → Tokens → Tokens
back f ts = t.token (terminal f.symbol) f.place ts

pub symbol_again : (f : Found) (ts : Tokens) → symbol_in (back f ts) ≡ Ok (f, ts)
symbol_again f ts = by f.symbol f.place
  where
    by : (s : Symbol) (p : ℕ) → symbol_in (t.token (terminal s) p ts) ≡ Ok (record { symbol = s; place = p }, ts)
    by (sy.Keyword k) p = refl
    by (sy.Mark m) p = refl

-- a symbol put back is the symbol that is read
pub back_is : (f : Found) (ts : Tokens) (g : Found) (us : Tokens) → symbol_in (back f ts) ≡ Ok (g, us) → (f ≡ g) × (ts ≡ us)
back_is f ts g us h = let e : ◌≡◌ {A = Found × Tokens} (f, ts) (g, us) = cc (symbol_again f ts) in (ap (λ x. x.0) e, ap (λ x. x.1) e)

pub starts_none : {us ts : Tokens} → Starts us ts [] → ts ≡ us
starts_none here = refl

pub record Tail (us ts : Tokens) (x : Terminal) (ws : List Terminal) : Type 0 where
  pub place : ℕ
  pub behind : Tokens
  pub is : ts ≡ t.token x place behind
  pub starts : Starts us behind ws

pub starts_one : {us ts : Tokens} {x : Terminal} {ws : List Terminal} → Starts us ts (x ∷ ws) → Tail us ts x ws
starts_one (next {p = p} {ts = ts} s) = record { place = p; behind = ts; is = refl; starts = s }

-- k: the keyword; Y: trees of the part; rest: their tokens behind the keyword
module _ {X Y : Type 0} (k : Keyword) (none : X) (part : Tokens → Loaded X) (rest : Y → List Terminal) where
  abbrev pub part_tokens : Option Y → List Terminal
  part_tokens o = option_tokens (λ y. t.keyword k ∷ rest y) o

  -- sound: Is y x tells that the part is the tree y, and has made x
  module _ (Is : Option Y → X → Type 0) where
    pub record PartRead (f : Found) (ts : Tokens) (x : X) (g : Found) (us : Tokens) : Type 0 where
      pub tree : Option Y
      pub starts : Starts (back g us) (back f ts) (part_tokens tree)
      pub is : Is tree x

    pub optional_sound : (f : Found) (ts : Tokens) → Is None none → ((x : X) (us : Tokens) → part ts ≡ Ok (x, us) → (y : Y) × Starts us ts (rest y) × Is (Some y) x) → (v : X × Found) (us : Tokens) → optional k none part f ts ≡ Ok (v, us) → PartRead f ts v.0 v.1 us
    optional_sound f ts without within v us h = by (is_keyword k f) refl h
      where
        by : (b : Bool) → is_keyword k f ≡ b → cond b (then {Y = X × Found} (part ts) λ x ts. parse (symbol_in ts) λ g ts. Ok ((x, g), ts)) (Ok ((none, f), ts)) ≡ Ok (v, us) → PartRead f ts v.0 v.1 us
        by true e h =
            let one = then_passed (part ts) h in
            let next = parse_passed (symbol_in one.us) one.goes in
            let a = accepted next.goes in
            let made = within one.v one.us one.is in
            let is : one.us ≡ back v.1 us = symbol_taken one.us next.v next.us next.is ∙ (ap (λ (x : X × Found). back x.1 next.us) a.0 ∙ ap (back v.1) a.1) in
            let first : back f ts ≡ t.token (t.keyword k) f.place ts = ap (λ s. t.token (terminal s) f.place ts) (symbol_same f.symbol (sy.Keyword k) e) in
            record {
              tree = Some made.0;
              starts = front first (subst (λ z. Starts z ts (rest made.0)) is made.1);
              is = subst (Is (Some made.0)) (ap (λ (x : X × Found). x.0) a.0) made.2;
            }
        by false e h =
            let a = accepted h in
            record {
              tree = None;
              starts = subst (λ z. Starts z (back f ts) []) (ap (λ (x : X × Found). back x.1 ts) a.0 ∙ ap (back v.1) a.1) here;
              is = subst (Is None) (ap (λ (x : X × Found). x.0) a.0) without;
            }

  abbrev behind : X → Tokens → Loaded (X × Found)
  behind x ts = parse (symbol_in ts) λ g ts. Ok ((x, g), ts)

  -- complete: the part makes x of its tokens, and where it is not there, x is what there is without it
  abbrev pub Makes : Option Y → X → Tokens → Tokens → Type 0
  Makes None x ts us = none ≡ x
  Makes (Some y) x ts us = Starts us ts (rest y) → part ts ≡ Ok (x, us)

  -- the keyword was read, and the rest is to come
  rest_starts : (y : Y) (f : Found) (ts us : Tokens) → Starts us (back f ts) (t.keyword k ∷ rest y) → (is_keyword k f ≡ true) × Starts us ts (rest y)
  rest_starts y f ts us s =
      let r = starts_one s in
      let same = back_is f ts (record { symbol = sy.Keyword k; place = r.place }) r.behind (ap symbol_in r.is) in
      (ap (is_keyword k) same.0 ∙ eq-eqb _ _ refl, subst (λ z. Starts us z (rest y)) (sym same.1) r.starts)

  -- what stands behind begins with another keyword
  pub optional_complete : (o : Option Y) (x : X) (f : Found) (ts : Tokens) (g : Found) (us : Tokens) → Starts (back g us) (back f ts) (part_tokens o) → is_keyword k g ≡ false → Makes o x ts (back g us) → optional k none part f ts ≡ Ok ((x, g), us)
  optional_complete None x f ts g us s other makes =
      let same = back_is f ts g us (ap symbol_in (starts_none s) ∙ symbol_again g us) in
      let p = same.0 in
      let q = same.1 in
      cond-false (is_keyword k f) _ _ (ap (is_keyword k) p ∙ other) ∙ cc
  optional_complete (Some y) x f ts g us s other makes =
      let r = rest_starts y f ts (back g us) s in
      cond-true (is_keyword k f) _ _ r.0 ∙ (ap (λ a. then {Y = X × Found} a behind) (makes r.1) ∙ ap (λ a. parse {Y = X × Found} a λ g ts. Ok ((x, g), ts)) (symbol_again g us))

-- the tokens begin with a symbol that is none of these keywords
pub record Ahead (ks : List Keyword) (ts : Tokens) : Type 0 where
  pub symbol : Found
  pub behind : Tokens
  pub is : ts ≡ back symbol behind
  pub none : Every (λ k. is_keyword k symbol ≡ false) ks

pub ahead : (ks : List Keyword) (k : Keyword) (us ts : Tokens) (ws : List Terminal) → Every (λ j. same_keyword k j ≡ false) ks → Starts us ts (t.keyword k ∷ ws) → Ahead ks ts
ahead ks k us ts ws apart s = let r = starts_one s in record { symbol = record { symbol = sy.Keyword k; place = r.place }; behind = r.behind; is = r.is; none = apart }

-- so where an optional part stands before such tokens
pub ahead_option : {Y : Type 0} (ks : List Keyword) (k : Keyword) (rest : Y → List Terminal) (o : Option Y) (us ts : Tokens) → Every (λ j. same_keyword k j ≡ false) ks → Starts us ts (option_tokens (λ y. t.keyword k ∷ rest y) o) → Ahead ks us → Ahead ks ts
ahead_option ks k rest None us ts apart s a = subst (Ahead ks) (sym (starts_none s)) a
ahead_option ks k rest (Some y) us ts apart s a = ahead ks k us ts (rest y) apart s

pub ahead_fewer : {k : Keyword} {ks : List Keyword} {ts : Tokens} → Ahead (k ∷ ks) ts → Ahead ks ts
ahead_fewer a = record { symbol = a.symbol; behind = a.behind; is = a.is; none = a.none.1 }

-- the symbol that is read
pub ahead_read : (ks : List Keyword) (ts : Tokens) (a : Ahead ks ts) → symbol_in ts ≡ Ok (a.symbol, a.behind)
ahead_read ks ts a = ap symbol_in a.is ∙ symbol_again a.symbol a.behind

module _ {X Y : Type 0} (k : Keyword) (ks : List Keyword) (none : X) (part : Tokens → Loaded X) (rest : Y → List Terminal) where
  -- an optional part before tokens that begin with another keyword
  pub optional_goes : (o : Option Y) (x : X) (ts us : Tokens) (a : Ahead ks ts) (b : Ahead (k ∷ ks) us) → Starts us ts (option_tokens (λ y. t.keyword k ∷ rest y) o) → Makes k none part rest o x a.behind us → optional k none part a.symbol a.behind ≡ Ok ((x, b.symbol), b.behind)
  optional_goes o x ts us a b st makes =
      optional_complete k none part rest o x a.symbol a.behind b.symbol b.behind
      (subst (λ z. Starts z (back a.symbol a.behind) (option_tokens (λ y. t.keyword k ∷ rest y) o)) b.is (subst (λ z. Starts us z (option_tokens (λ y. t.keyword k ∷ rest y) o)) a.is st))
      b.none.0 (subst (Makes k none part rest o x a.behind) b.is makes)

  -- the same where what the part makes is not known before: Is o x tells what it is
  pub optional_some : (Is : Option Y → X → Type 0) (o : Option Y) (ts us : Tokens) (a : Ahead ks ts) (b : Ahead (k ∷ ks) us) → Starts us ts (option_tokens (λ y. t.keyword k ∷ rest y) o) → Is None none → ((y : Y) → o ≡ Some y → Starts us a.behind (rest y) → (x : X) × (part a.behind ≡ Ok (x, us)) × Is (Some y) x) → (x : X) × (optional k none part a.symbol a.behind ≡ Ok ((x, b.symbol), b.behind)) × Is o x
  optional_some Is None ts us a b st without within = (none, optional_goes None none ts us a b st refl, without)
  optional_some Is (Some y) ts us a b st without within =
      let s = rest_starts k none part rest y a.symbol a.behind us (subst (λ z. Starts us z (t.keyword k ∷ rest y)) a.is st) in
      let r = within y refl s.1 in
      (r.0, optional_goes (Some y) r.0 ts us a b st (λ _. r.1), r.2)
