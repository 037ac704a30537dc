-- One token, both ways: what a reader took is the token that is there. And names: the row that a word names, as its
-- number in the list of names.
use Rattle.std.proofs.Common.{◌≡◌, ℕ, zero, suc, ◌+◌, ◌<◌, Bool, true, false, cond, List, [], ◌∷◌, ◌++◌, length, is_some, Some, None, Ok, Err, Option, Result, sym, refl, ap, ◌∙◌, subst, arith}
use Rattle.std.proofs.lemmas.Slice.Eq.{bytes_eq-Decides}
use Rattle.std.proofs.lemmas.Bool.{false≢true, eqb-true}
use Rattle.std.specs.List.{slice_get}
use Rattle.text_bytes.specs.declared.kinds.Mark.{Mark}
use Rattle.text_bytes.specs.declared.kinds.Mark.TheVariants as mk
use Rattle.text_bytes.specs.Bytes.{mark_byte, same_mark, mark_of}
use Rattle.keywords.specs.declared.Keyword.{Keyword}
use Rattle.keywords.specs.declared.Keyword.TheVariants as kw
use Rattle.keywords.specs.Keywords.{keywords, rank, same_keyword}
use Rattle.tokens.specs.Terminals.{Terminal, Tokens, count}
use Rattle.tokens.specs.Terminals as t
use Rattle.grammar.specs.declared.fault.GrammarFault.{GrammarFault}
use Rattle.grammar.specs.declared.fault.GrammarFault.TheVariants.{NotAllowed}
use Rattle.grammar.specs.declared.readers.Numeral.{Numeral}
use Rattle.grammar.specs.declared.readers.ValueStart.{ValueStart}
use Rattle.grammar.specs.declared.readers.ValueStart.TheVariants.{Minus, Digits}
use Rattle.grammar.specs.declared.symbols.Found.{Found}
use Rattle.grammar.specs.declared.symbols.Symbol.{Symbol}
use Rattle.grammar.specs.declared.symbols.Symbol.TheVariants as sy
use Rattle.grammar.specs.Symbols.{same_symbol}
use Rattle.grammar.specs.Readers.{Parsed, Spot, a_name, a_decimal, a_string, a_number, a_symbol, the_mark, a_value_start, a_setting, a_name_or_close, taken, want, placed, name_in, decimal_in, string_in, number_in, symbol_in, wanted, expect_in, value_start_in, setting_in, name_or_close_in}
use Rattle.plan.specs.declared.rows.Name.{Name}
use Rattle.plan.specs.Rules.{Once, spelt}
use Rattle.plan.proofs.Added.{the_same, nth_below}
use Rattle.plan.proofs.Spans.{never_some}
use Rattle.names.specs.Names.{same_name, found_from, found}
use Rattle.refusals.specs.Shapes.{is_mark, another, another_in}
use Rattle.refusals.proofs.Spelled.{NamesAt}
use Rattle.language.specs.Trees.{Word, SettingTree, to_name, to_string}
use Rattle.language.specs.Grammar.{setting_tokens}
use Rattle.language.specs.Standing.{position, declared, names_in}
use Rattle.language.specs.Obeying.{Starts, here, next, SettingFits}

-- keywords and marks that a test finds the same

mark_again : (m : Mark) → mark_of (mark_byte m) ≡ Some m
mark_again mk.OpenBrace = refl
mark_again mk.CloseBrace = refl
mark_again mk.Semicolon = refl
mark_again mk.Colon = refl
mark_again mk.Comma = refl
mark_again mk.Equals = refl
mark_again mk.FullStop = refl
mark_again mk.Minus = refl

pub mark_same : (a b : Mark) → same_mark a b ≡ true → a ≡ b
mark_same a b e = the_same (sym (mark_again a) ∙ (ap mark_of (eqb-true (mark_byte a) (mark_byte b) e) ∙ mark_again b))

keyword_again : (k : Keyword) → slice_get keywords (rank k) ≡ Some k
keyword_again kw.Version = refl
keyword_again kw.TestPlan = refl
keyword_again kw.BinDefs = refl
keyword_again kw.BinGroup = refl
keyword_again kw.Bin = refl
keyword_again kw.LeafBin = refl
keyword_again kw.SortBinGroup = refl
keyword_again kw.Counters = refl
keyword_again kw.Test = refl
keyword_again kw.Flow = refl
keyword_again kw.FlowItem = refl
keyword_again kw.Result = refl
keyword_again kw.Property = refl
keyword_again kw.PassFail = refl
keyword_again kw.IncrementCounters = refl
keyword_again kw.SetBin = refl
keyword_again kw.GoTo = refl
keyword_again kw.Return = refl
keyword_again kw.FlowDefs = refl
keyword_again kw.MainFlow = refl

pub keyword_same : (a b : Keyword) → same_keyword a b ≡ true → a ≡ b
keyword_same a b e = the_same (sym (keyword_again a) ∙ (ap (slice_get keywords) (eqb-true (rank a) (rank b) e) ∙ keyword_again b))

pub symbol_same : (a b : Symbol) → same_symbol a b ≡ true → a ≡ b
symbol_same (sy.Keyword a) (sy.Keyword b) e = ap sy.Keyword (keyword_same a b e)
symbol_same (sy.Keyword a) (sy.Mark n) e = absurd (false≢true e)
symbol_same (sy.Mark m) (sy.Keyword b) e = absurd (false≢true e)
symbol_same (sy.Mark m) (sy.Mark n) e = ap sy.Mark (mark_same m n e)

abbrev pub terminal : Symbol → Terminal
terminal (sy.Keyword k) = t.keyword k
terminal (sy.Mark m) = t.mark m

-- one token

nothing_read : {X A : Type 0} {e : GrammarFault} {x : X} → ◌≡◌ {A = Result X GrammarFault} (Err e) (Ok x) → A
nothing_read h = let z : ◌≡◌ {A = ℕ} 0 1 = cc in absurd (omega arith)

was_read : {X : Type 0} {x y : X} {us vs : Tokens} → ◌≡◌ {A = Parsed X} (Ok (x, us)) (Ok (y, vs)) → (x ≡ y) × (us ≡ vs)
was_read {X} {x} {y} {us} {vs} h = let e : ◌≡◌ {A = X × Tokens} (x, us) (y, vs) = cc in (ap (λ v. v.0) e, ap (λ v. v.1) e)

-- a token of the kind was there, and this is what it holds
pub record Took {X Y : Type 0} (kind : ℕ → Terminal → Option X) (f : X → ℕ → Y) (ts : Tokens) (v : Y) (us : Tokens) : Type 0 where
  pub x : Terminal
  pub p : ℕ
  pub y : X
  pub is : ts ≡ t.token x p us
  pub holds : kind p x ≡ Some y
  pub gives : f y p ≡ v

module _ {X Y : Type 0} (kind : ℕ → Terminal → Option X) (f : X → ℕ → Y) where
  taken_took : (x : Terminal) (p : ℕ) (ts : Tokens) (v : Y) (us : Tokens) → taken f (kind p x) p ts ≡ Ok (v, us) → Took kind f (t.token x p ts) v us
  taken_took x p ts v us h = by (kind p x) refl h
    where
      by : (o : Option X) → kind p x ≡ o → taken f o p ts ≡ Ok (v, us) → Took kind f (t.token x p ts) v us
      by (Some y) e h = let r = was_read h in record { x = x; p = p; y = y; is = ap (t.token x p) r.1; holds = e; gives = r.0 }
      by None e h = nothing_read h

module _ {X Y : Type 0} (kind : Terminal → Option X) (f : X → ℕ → Y) where
  want_took : (ts : Tokens) (v : Y) (us : Tokens) → want kind f ts ≡ Ok (v, us) → Took (λ _. kind) f ts v us
  want_took (t.end p) v us h = nothing_read h
  want_took (t.fault e) v us h = nothing_read h
  want_took (t.token x p ts) v us h = taken_took (λ _. kind) f x p ts v us h

placed_took : {X : Type 0} (kind : ℕ → Terminal → Option X) (ts : Tokens) (v : X) (us : Tokens) → placed kind ts ≡ Ok (v, us) → Took kind (λ y _. y) ts v us
placed_took kind (t.end p) v us h = nothing_read h
placed_took kind (t.fault e) v us h = nothing_read h
placed_took kind (t.token x p ts) v us h = taken_took kind (λ y _. y) x p ts v us h

name_is : (x : Terminal) (y : List ℕ) → a_name x ≡ Some y → x ≡ t.name y
name_is (t.name bs) y e = ap t.name (the_same e)
name_is (t.keyword k) y e = never_some y e
name_is (t.number n) y e = never_some y e
name_is (t.decimal bs) y e = never_some y e
name_is (t.string bs) y e = never_some y e
name_is (t.mark m) y e = never_some y e

decimal_is : (x : Terminal) (y : List ℕ) → a_decimal x ≡ Some y → x ≡ t.decimal y
decimal_is (t.name bs) y e = never_some y e
decimal_is (t.keyword k) y e = never_some y e
decimal_is (t.number n) y e = never_some y e
decimal_is (t.decimal bs) y e = ap t.decimal (the_same e)
decimal_is (t.string bs) y e = never_some y e
decimal_is (t.mark m) y e = never_some y e

string_is : (x : Terminal) (y : List ℕ) → a_string x ≡ Some y → x ≡ t.string y
string_is (t.name bs) y e = never_some y e
string_is (t.keyword k) y e = never_some y e
string_is (t.number n) y e = never_some y e
string_is (t.decimal bs) y e = never_some y e
string_is (t.string bs) y e = ap t.string (the_same e)
string_is (t.mark m) y e = never_some y e

number_is : (x : Terminal) {y : ℕ} → a_number x ≡ Some y → x ≡ t.number y
number_is (t.name bs) {y} e = never_some y e
number_is (t.keyword k) {y} e = never_some y e
number_is (t.number n) e = ap t.number (the_same e)
number_is (t.decimal bs) {y} e = never_some y e
number_is (t.string bs) {y} e = never_some y e
number_is (t.mark m) {y} e = never_some y e

symbol_is : (x : Terminal) {y : Symbol} → a_symbol x ≡ Some y → x ≡ terminal y
symbol_is (t.name bs) {y} e = never_some y e
symbol_is (t.keyword k) e = ap terminal (the_same e)
symbol_is (t.number n) {y} e = never_some y e
symbol_is (t.decimal bs) {y} e = never_some y e
symbol_is (t.string bs) {y} e = never_some y e
symbol_is (t.mark m) e = ap terminal (the_same e)

the_mark_is : {X : Type 0} (wanted : Mark) (x : X) (m : Mark) {y : X} → the_mark wanted x m ≡ Some y → (m ≡ wanted) × (x ≡ y)
the_mark_is {X} wanted x m {y} e = by (same_mark m wanted) refl e
  where
    by : (b : Bool) → same_mark m wanted ≡ b → cond b (Some x) None ≡ Some y → (m ≡ wanted) × (x ≡ y)
    by true s e = (mark_same m wanted s, the_same e)
    by false s e = never_some y e

-- the token that a value begins with
abbrev pub start_token : ValueStart → Terminal
start_token (Minus p) = t.mark mk.Minus
start_token (Digits n) = t.number n.value

abbrev pub start_place : ValueStart → ℕ
start_place (Minus p) = p
start_place (Digits n) = n.place

start_is : (p : ℕ) (x : Terminal) {y : ValueStart} → a_value_start p x ≡ Some y → (x ≡ start_token y) × (p ≡ start_place y)
start_is p (t.name bs) {y} e = never_some y e
start_is p (t.keyword k) {y} e = never_some y e
start_is p (t.number n) e = let s = the_same e in (ap start_token s, ap start_place s)
start_is p (t.decimal bs) {y} e = never_some y e
start_is p (t.string bs) {y} e = never_some y e
start_is p (t.mark m) e = let s = the_mark_is mk.Minus (Minus p) m e in (ap t.mark s.0 ∙ ap start_token s.1, ap start_place s.1)

-- the token of a setting: a name or a string, which is all of it, or the start of a value
abbrev pub SettingToken : Option ValueStart → Terminal → Type 0
SettingToken None x = (s : SettingTree) × (setting_tokens s ≡ x ∷ []) × SettingFits s
SettingToken (Some v) x = x ≡ start_token v

setting_is : (p : ℕ) (x : Terminal) {y : Option ValueStart} → a_setting p x ≡ Some y → SettingToken y x
setting_is p (t.name bs) e = subst (λ y. SettingToken y (t.name bs)) (the_same e) (to_name bs, refl, tt)
setting_is p (t.keyword k) {y} e = never_some y e
setting_is p (t.number n) e = subst (λ y. SettingToken y (t.number n)) (the_same e) refl
setting_is p (t.decimal bs) {y} e = never_some y e
setting_is p (t.string bs) e = subst (λ y. SettingToken y (t.string bs)) (the_same e) (to_string bs, refl, tt)
setting_is p (t.mark m) e = let s = the_mark_is mk.Minus (Some (Minus p)) m e in subst (λ y. SettingToken y (t.mark m)) s.1 (ap t.mark s.0)

abbrev pub NameOrClose : Bool → Terminal → Type 0
NameOrClose true x = (n : Word) × (x ≡ t.name n)
NameOrClose false x = x ≡ t.mark mk.CloseBrace

name_or_close_is : (x : Terminal) {y : Bool} → a_name_or_close x ≡ Some y → NameOrClose y x
name_or_close_is (t.name bs) e = subst (λ y. NameOrClose y (t.name bs)) (the_same e) (bs, refl)
name_or_close_is (t.keyword k) {y} e = never_some y e
name_or_close_is (t.number n) {y} e = never_some y e
name_or_close_is (t.decimal bs) {y} e = never_some y e
name_or_close_is (t.string bs) {y} e = never_some y e
name_or_close_is (t.mark m) e = let s = the_mark_is mk.CloseBrace false m e in subst (λ y. NameOrClose y (t.mark m)) s.1 (ap t.mark s.0)

-- bytes of a kind of token, with their place
spot_taken : (kind : Terminal → Option (List ℕ)) (made : List ℕ → Terminal) → ((x : Terminal) (y : List ℕ) → kind x ≡ Some y → x ≡ made y) → (ts : Tokens) (v : Spot) (us : Tokens) → want kind (λ bs p. (bs, p)) ts ≡ Ok (v, us) → ts ≡ t.token (made v.0) v.1 us
spot_taken kind made law ts v us h =
    let a = want_took kind (λ (bs : List ℕ) (p : ℕ). (bs, p)) ts v us h in
    a.is ∙ (ap (λ x. t.token x a.p us) (law a.x a.y a.holds) ∙ ap (λ (w : Spot). t.token (made w.0) w.1 us) a.gives)

pub name_taken : (ts : Tokens) (v : Spot) (us : Tokens) → name_in ts ≡ Ok (v, us) → ts ≡ t.token (t.name v.0) v.1 us
name_taken = spot_taken a_name t.name name_is

pub decimal_taken : (ts : Tokens) (v : Spot) (us : Tokens) → decimal_in ts ≡ Ok (v, us) → ts ≡ t.token (t.decimal v.0) v.1 us
decimal_taken = spot_taken a_decimal t.decimal decimal_is

pub string_taken : (ts : Tokens) (v : Spot) (us : Tokens) → string_in ts ≡ Ok (v, us) → ts ≡ t.token (t.string v.0) v.1 us
string_taken = spot_taken a_string t.string string_is

pub number_taken_lem : (ts : Tokens) (v : Numeral) (us : Tokens) → number_in ts ≡ Ok (v, us) → ts ≡ t.token (t.number v.value) v.place us
number_taken_lem ts v us h =
    let a = want_took a_number (λ (n p : ℕ). record { value = n; place = p }) ts v us h in
    a.is ∙ (ap (λ x. t.token x a.p us) (number_is a.x a.holds) ∙ ap (λ (w : Numeral). t.token (t.number w.value) w.place us) a.gives)

pub symbol_taken : (ts : Tokens) (f : Found) (us : Tokens) → symbol_in ts ≡ Ok (f, us) → ts ≡ t.token (terminal f.symbol) f.place us
symbol_taken ts f us h =
    let a = want_took a_symbol (λ (s : Symbol) (p : ℕ). record { symbol = s; place = p }) ts f us h in
    a.is ∙ (ap (λ x. t.token x a.p us) (symbol_is a.x a.holds) ∙ ap (λ (w : Found). t.token (terminal w.symbol) w.place us) a.gives)

pub expect_taken : (s : Symbol) (ts : Tokens) (v : Unit {0}) (us : Tokens) → expect_in s ts ≡ Ok (v, us) → (p : ℕ) × (ts ≡ t.token (terminal s) p us)
expect_taken s ts v us h = by (symbol_in ts) refl h
  where
    tested : (f : Found) (vs : Tokens) (b : Bool) → symbol_in ts ≡ Ok (f, vs) → same_symbol f.symbol s ≡ b → cond {A = Parsed (Unit {0})} b (Ok (tt, vs)) (Err (NotAllowed f.place)) ≡ Ok (v, us) → (p : ℕ) × (ts ≡ t.token (terminal s) p us)
    tested f vs true e same h =
        (f.place, symbol_taken ts f vs e ∙ (ap (λ x. t.token (terminal x) f.place vs) (symbol_same f.symbol s same) ∙ ap (t.token (terminal s) f.place) (was_read h).1))
    tested f vs false e same h = nothing_read h

    by : (x : Parsed Found) → symbol_in ts ≡ x → wanted s x ≡ Ok (v, us) → (p : ℕ) × (ts ≡ t.token (terminal s) p us)
    by (Ok f) e h = tested f.0 f.1 (same_symbol f.0.symbol s) e refl h
    by (Err e) q h = nothing_read h

-- a comma, or the last mark
pub another_taken : (last : Mark) (ts : Tokens) (more : Bool) (us : Tokens) → another_in last ts ≡ Ok (more, us) → (p : ℕ) × (ts ≡ t.token (t.mark (cond more mk.Comma last)) p us)
another_taken last ts more us h = by (symbol_in ts) refl h
  where
    the : (f : Found) (vs : Tokens) (b : Bool) → symbol_in ts ≡ Ok (f, vs) → same_symbol f.symbol (sy.Mark (cond b mk.Comma last)) ≡ true → ◌≡◌ {A = Parsed Bool} (Ok (b, vs)) (Ok (more, us)) → (p : ℕ) × (ts ≡ t.token (t.mark (cond more mk.Comma last)) p us)
    the f vs b e same h =
        let r = was_read h in
        (f.place, symbol_taken ts f vs e ∙ (ap (λ x. t.token (terminal x) f.place vs) (symbol_same f.symbol (sy.Mark (cond b mk.Comma last)) same) ∙ (ap (λ x. t.token (t.mark (cond x mk.Comma last)) f.place vs) r.0 ∙ ap (t.token (t.mark (cond more mk.Comma last)) f.place) r.1)))

    tested : (f : Found) (vs : Tokens) (comma end : Bool) → symbol_in ts ≡ Ok (f, vs) → is_mark mk.Comma f ≡ comma → is_mark last f ≡ end → cond {A = Parsed Bool} comma (Ok (true, vs)) (cond end (Ok (false, vs)) (Err (NotAllowed f.place))) ≡ Ok (more, us) → (p : ℕ) × (ts ≡ t.token (t.mark (cond more mk.Comma last)) p us)
    tested f vs true end e same other h = the f vs true e same h
    tested f vs false true e other same h = the f vs false e same h
    tested f vs false false e other same h = nothing_read h

    by : (x : Parsed Found) → symbol_in ts ≡ x → another last x ≡ Ok (more, us) → (p : ℕ) × (ts ≡ t.token (t.mark (cond more mk.Comma last)) p us)
    by (Ok f) e h = tested f.0 f.1 (is_mark mk.Comma f.0) (is_mark last f.0) e refl refl h
    by (Err e) q h = nothing_read h

pub start_taken : (ts : Tokens) (v : ValueStart) (us : Tokens) → value_start_in ts ≡ Ok (v, us) → ts ≡ t.token (start_token v) (start_place v) us
start_taken ts v us h =
    let a = placed_took a_value_start ts v us h in
    let s = start_is a.p a.x a.holds in
    a.is ∙ (ap (λ x. t.token x a.p us) s.0 ∙ (ap (λ p. t.token (start_token a.y) p us) s.1 ∙ ap (λ w. t.token (start_token w) (start_place w) us) a.gives))

pub record SettingTaken (ts : Tokens) (v : Option ValueStart) (us : Tokens) : Type 0 where
  pub x : Terminal
  pub p : ℕ
  pub is : ts ≡ t.token x p us
  pub holds : SettingToken v x

pub setting_taken : (ts : Tokens) (v : Option ValueStart) (us : Tokens) → setting_in ts ≡ Ok (v, us) → SettingTaken ts v us
setting_taken ts v us h =
    let a = placed_took a_setting ts v us h in
    record { x = a.x; p = a.p; is = a.is; holds = subst (λ y. SettingToken y a.x) a.gives (setting_is a.p a.x a.holds) }

pub record NameOrCloseTaken (ts : Tokens) (v : Bool) (us : Tokens) : Type 0 where
  pub x : Terminal
  pub p : ℕ
  pub is : ts ≡ t.token x p us
  pub holds : NameOrClose v x

pub name_or_close_taken : (ts : Tokens) (v : Bool) (us : Tokens) → name_or_close_in ts ≡ Ok (v, us) → NameOrCloseTaken ts v us
name_or_close_taken ts v us h =
    let a = want_took a_name_or_close (λ (b : Bool) (_ : ℕ). b) ts v us h in
    record { x = a.x; p = a.p; is = a.is; holds = subst (λ y. NameOrClose y a.x) a.gives (name_or_close_is a.x a.holds) }

-- tokens that begin with terminals

-- one token more in front
pub front : {vs us ts : Tokens} {w : Terminal} {p : ℕ} {ws : List Terminal} → ts ≡ t.token w p us → Starts vs us ws → Starts vs ts (w ∷ ws)
front {vs} {w = w} {ws = ws} e s = subst (λ x. Starts vs x (w ∷ ws)) (sym e) (next s)

pub join : {us vs ts : Tokens} {ws xs : List Terminal} → Starts us ts ws → Starts vs us xs → Starts vs ts (ws ++ xs)
join here s = s
join (next r) s = next (join r s)

pub record Parted (vs ts : Tokens) (ws xs : List Terminal) : Type 0 where
  pub us : Tokens
  pub before : Starts us ts ws
  pub behind : Starts vs us xs

pub split : {vs : Tokens} (ts : Tokens) (ws xs : List Terminal) → Starts vs ts (ws ++ xs) → Parted vs ts ws xs
split ts [] xs s = record { us = ts; before = here; behind = s }
split ts (w ∷ ws) xs (next s) = let r = split _ ws xs s in record { us = r.us; before = next r.before; behind = r.behind }

-- the names behind are those of the text too
pub names_behind : (text : List ℕ) {us ts : Tokens} {ws : List Terminal} → Starts us ts ws → NamesAt text ts → NamesAt text us
names_behind text here n = n
names_behind text (next s) n = names_behind text s n.1

-- how many tokens are left
pub count_behind : {us ts : Tokens} {ws : List Terminal} → Starts us ts ws → count ts ≡ length ws + count us
count_behind {us} here = omega arith
count_behind (next s) = let k = count_behind s in omega arith

-- names

pub name_same : (a b : Word) → same_name a b ≡ true → a ≡ b
name_same a b e = (bytes_eq-Decides a b).0 e

pub same_name_lem : (a b : Word) → a ≡ b → same_name a b ≡ true
same_name_lem a b e = (bytes_eq-Decides a b).1 e

module _ {R : Type 0} (named : R → Name) (text word : List ℕ) where
  -- what a look-up finds, by the list of the names
  abbrev told : ℕ → List Word → Option ℕ
  told n names = cond (declared word names) (Some (n + position word names)) None

  found_from_told : (n : ℕ) (rows : List R) → found_from n named text rows word ≡ told n (names_in text named rows)
  found_from_told n [] = refl
  found_from_told n (row ∷ rows) = by (same_name (spelt text (named row)) word) (found_from_told (n + 1) rows)
    where
      later : (b : Bool) (k : ℕ) → cond b (Some (n + 1 + k)) None ≡ cond b (Some (n + suc k)) None
      later true k = let e : n + 1 + k ≡ n + suc k = omega arith in ap Some e
      later false k = refl

      by : (same : Bool) → found_from (n + 1) named text rows word ≡ told (n + 1) (names_in text named rows) → cond same (Some n) (found_from (n + 1) named text rows word) ≡ cond (cond same true (declared word (names_in text named rows))) (Some (n + cond same 0 (suc (position word (names_in text named rows))))) None
      by true e = let z : n ≡ n + 0 = omega arith in ap Some z
      by false e = e ∙ later (declared word (names_in text named rows)) (position word (names_in text named rows))

  found_told : (rows : List R) → found named text rows word ≡ cond (declared word (names_in text named rows)) (Some (position word (names_in text named rows))) None
  found_told rows = let e : 0 + position word (names_in text named rows) ≡ position word (names_in text named rows) = omega arith in found_from_told 0 rows ∙ ap (λ k. cond (declared word (names_in text named rows)) (Some k) None) e

  told_some : (b : Bool) (n k : ℕ) → cond b (Some n) None ≡ Some k → (b ≡ true) × (n ≡ k)
  told_some true n k e = (refl, the_same e)
  told_some false n k e = never_some k e

  told_none : (b : Bool) (n : ℕ) → cond b (Some n) None ≡ None → b ≡ false
  told_none true n e = never_some n (sym e)
  told_none false n e = refl

  -- a row that is found is the one whose number the word has
  pub found_position : (rows : List R) (k : ℕ) → found named text rows word ≡ Some k → (declared word (names_in text named rows) ≡ true) × (position word (names_in text named rows) ≡ k)
  found_position rows k e = told_some (declared word (names_in text named rows)) (position word (names_in text named rows)) k (sym (found_told rows) ∙ e)

  pub declared_found : (rows : List R) → declared word (names_in text named rows) ≡ true → found named text rows word ≡ Some (position word (names_in text named rows))
  declared_found rows e = found_told rows ∙ ap (λ b. cond b (Some (position word (names_in text named rows))) None) e

  -- where none is found, none has the name
  pub found_undeclared : (rows : List R) → found named text rows word ≡ None → declared word (names_in text named rows) ≡ false
  found_undeclared rows e = told_none (declared word (names_in text named rows)) (position word (names_in text named rows)) (sym (found_told rows) ∙ e)

  pub undeclared_found : (rows : List R) → declared word (names_in text named rows) ≡ false → found named text rows word ≡ None
  undeclared_found rows e = found_told rows ∙ ap (λ b. cond b (Some (position word (names_in text named rows))) None) e

-- what a name stands for, in a list of names

module _ (word : Word) where
  pub declared_at : (names : List Word) → declared word names ≡ true → slice_get names (position word names) ≡ Some word
  declared_at [] e = absurd (false≢true e)
  declared_at (n ∷ names) e = by (same_name n word) refl e (declared_at names)
    where
      by : (b : Bool) → same_name n word ≡ b → cond b true (declared word names) ≡ true → (declared word names ≡ true → slice_get names (position word names) ≡ Some word) → slice_get (n ∷ names) (cond b 0 (suc (position word names))) ≡ Some word
      by true s e rec = ap Some (name_same n word s)
      by false s e rec = rec e

  pub at_declared : (names : List Word) (k : ℕ) → slice_get names k ≡ Some word → declared word names ≡ true
  at_declared [] k e = never_some word e
  at_declared (n ∷ names) zero e = ap (λ b. cond b true (declared word names)) (same_name_lem n word (the_same e))
  at_declared (n ∷ names) (suc k) e = by (same_name n word) (at_declared names k e)
    where
      by : (b : Bool) → declared word names ≡ true → cond b true (declared word names) ≡ true
      by true h = refl
      by false h = h

  pub declared_below : (names : List Word) → declared word names ≡ true → position word names < length names
  declared_below names e = nth_below names (position word names) word (declared_at names e)

  -- a name that is declared stands for one number, whatever is declared behind it
  pub position_front : (names more : List Word) → declared word names ≡ true → (declared word (names ++ more) ≡ true) × (position word (names ++ more) ≡ position word names)
  position_front [] more e = absurd (false≢true e)
  position_front (n ∷ names) more e = by (same_name n word) e (position_front names more)
    where
      by : (b : Bool) → cond b true (declared word names) ≡ true → (declared word names ≡ true → (declared word (names ++ more) ≡ true) × (position word (names ++ more) ≡ position word names)) → (cond b true (declared word (names ++ more)) ≡ true) × (cond b 0 (suc (position word (names ++ more))) ≡ cond b 0 (suc (position word names)))
      by true e rec = (refl, refl)
      by false e rec = let r = rec e in (r.0, ap suc r.1)

  -- a number below that of those in front is declared in front
  pub position_among : (names more : List Word) → position word (names ++ more) < length names → (declared word names ≡ true) × (position word names ≡ position word (names ++ more))
  position_among [] more h = absurd (omega arith)
  position_among (n ∷ names) more h = by (same_name n word) h (position_among names more)
    where
      by : (b : Bool) → cond b 0 (suc (position word (names ++ more))) < suc (length names) → (position word (names ++ more) < length names → (declared word names ≡ true) × (position word names ≡ position word (names ++ more))) → (cond b true (declared word names) ≡ true) × (cond b 0 (suc (position word names)) ≡ cond b 0 (suc (position word (names ++ more))))
      by true h rec = (refl, refl)
      by false h rec = let r = rec (omega arith) in (r.0, ap suc r.1)

  pub below_declared : (names : List Word) → position word names < length names → declared word names ≡ true
  below_declared [] h = absurd (omega arith)
  below_declared (n ∷ names) h = by (same_name n word) h (below_declared names)
    where
      by : (b : Bool) → cond b 0 (suc (position word names)) < suc (length names) → (position word names < length names → declared word names ≡ true) → cond b true (declared word names) ≡ true
      by true h rec = refl
      by false h rec = rec (omega arith)

  -- where no name is declared twice, it stands for the number that it has
  pub position_once : (names : List Word) (k : ℕ) → Once names → slice_get names k ≡ Some word → position word names ≡ k
  position_once names k once e = once (position word names) k word (declared_at names (at_declared names k e)) e

-- what stands in front stands there still
pub nth_front : {X : Type 0} (xs ys : List X) (k : ℕ) (x : X) → slice_get xs k ≡ Some x → slice_get (xs ++ ys) k ≡ Some x
nth_front [] ys k x e = never_some x e
nth_front (y ∷ xs) ys zero x e = e
nth_front (y ∷ xs) ys (suc k) x e = nth_front xs ys k x e

-- and behind, as many on as there are in front
pub nth_behind : {X : Type 0} (xs ys : List X) (k : ℕ) → slice_get (xs ++ ys) (length xs + k) ≡ slice_get ys k
nth_behind [] ys k = let e : 0 + k ≡ k = omega arith in ap (slice_get ys) e
nth_behind (x ∷ xs) ys k = let e : suc (length xs) + k ≡ suc (length xs + k) = omega arith in ap (slice_get (x ∷ (xs ++ ys))) e ∙ nth_behind xs ys k

-- the first of those behind
pub nth_next : {X : Type 0} (xs : List X) (x : X) (ys : List X) → slice_get (xs ++ x ∷ ys) (length xs) ≡ Some x
nth_next xs x ys = let e : length xs ≡ length xs + 0 = omega arith in ap (slice_get (xs ++ x ∷ ys)) e ∙ nth_behind xs (x ∷ ys) 0

pub once_front : {X : Type 0} (xs ys : List X) → Once (xs ++ ys) → Once xs
once_front xs ys once i j x a b = once i j x (nth_front xs ys i x a) (nth_front xs ys j x b)

-- the next name is not declared yet
pub undeclared_next : (names : List Word) (word : Word) (more : List Word) → Once (names ++ word ∷ more) → declared word names ≡ false
undeclared_next names word more once = by (declared word names) refl
  where
    by : (b : Bool) → declared word names ≡ b → b ≡ false
    by true e =
        let same = once (position word names) (length names) word (nth_front names (word ∷ more) (position word names) word (declared_at word names e)) (nth_next names word more) in
        let less = declared_below word names e in
        absurd (omega arith)
    by false e = refl

-- so no row is found by it
pub next_not_found : {R : Type 0} (named : R → Name) (text : List ℕ) (rows : List R) (word : Word) (more : List Word) → Once (names_in text named rows ++ word ∷ more) → is_some (found named text rows word) ≡ false
next_not_found named text rows word more once = ap is_some (undeclared_found named text word rows (undeclared_next (names_in text named rows) word more once))
