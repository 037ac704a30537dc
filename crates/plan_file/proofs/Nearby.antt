-- Every place told is at most n: of a reader of one token, and of how productions follow one another.
use Rattle.std.proofs.Common.{ℕ, zero, suc, ◌≤◌, Bool, true, false, cond, List, Some, None, Ok, Err, Option, Result}
use Rattle.text_bytes.specs.declared.kinds.Mark.{Mark}
use Rattle.text_bytes.specs.declared.kinds.Mark.TheVariants as mk
use Rattle.text_bytes.specs.Bytes.{same_mark}
use Rattle.keywords.specs.declared.Keyword.{Keyword}
use Rattle.tokens.specs.Terminals.{Terminal, Tokens, count}
use Rattle.tokens.specs.Terminals as t
use Rattle.tokens.specs.Spelling.{Within}
use Rattle.grammar.specs.declared.readers.ValueStart.{ValueStart}
use Rattle.grammar.specs.declared.readers.ValueStart.TheVariants.{Minus, Digits}
use Rattle.grammar.specs.declared.symbols.Found.{Found}
use Rattle.grammar.specs.declared.symbols.Symbol.{Symbol}
use Rattle.grammar.specs.Symbols.{same_symbol}
use Rattle.grammar.specs.Readers.{Parsed, taken, want, placed, a_value_start, a_setting, number_in, symbol_in, wanted, expect_in, value_start_in, setting_in, name_or_close_in}
use Rattle.refusals.specs.declared.fault.RuleFault.{RuleFault}
use Rattle.refusals.specs.declared.fault.LoadFault.TheVariants.{Rule}
use Rattle.refusals.specs.Told.{grammar_told, told}
use Rattle.refusals.specs.Steps.{Loaded, parse, then, turns, many}
use Rattle.refusals.specs.Shapes.{have, is_keyword, is_mark, another, another_in, optional, row_turn}

-- what is read is so, and every place of the tokens left is at most n; or the fault's place is
pub data Answer {X E : Type 0} (place : E → ℕ) (n : ℕ) (P : X → Type 0) : Result (X × Tokens) E → Type 0 where
  made : {x : X} {ts : Tokens} → P x → Within n ts → Answer place n P (Ok (x, ts))
  failed : {e : E} → place e ≤ n → Answer place n P (Err e)

-- of one token
abbrev pub Read : {X : Type 0} → ℕ → (X → Type 0) → Parsed X → Type 0
Read n P x = Answer (λ e. (grammar_told e).place) n P x

-- of a production
abbrev pub Near : {X : Type 0} → ℕ → (X → Type 0) → Loaded X → Type 0
Near n P x = Answer (λ e. (told e).place) n P x

-- nothing is asked
abbrev pub Any : {X : Type 0} → X → Type 0
Any x = Unit {0}

-- so of what is there, if anything is
abbrev pub Given : {X : Type 0} → (X → Type 0) → Option X → Type 0
Given P (Some x) = P x
Given P None = Unit {0}

always_given : {X : Type 0} {P : X → Type 0} → ((x : X) → P x) → (o : Option X) → Given P o
always_given h (Some x) = h x
always_given h None = tt

given_where : {X : Type 0} (P : X → Type 0) (b : Bool) (x : X) → P x → Given P (cond b (Some x) None)
given_where P true x p = p
given_where P false x p = tt

-- of two answers, either: so of a rule, which is broken or not, and of a token, which is allowed or not
pub either_near : {X E : Type 0} {place : E → ℕ} {n : ℕ} {P : X → Type 0} (b : Bool) {x y : Result (X × Tokens) E} → Answer place n P x → Answer place n P y → Answer place n P (cond b x y)
either_near true p q = p
either_near false p q = q

-- one token

abbrev pub StartNear : ℕ → ValueStart → Type 0
StartNear n (Minus p) = p ≤ n
StartNear n (Digits m) = m.place ≤ n

abbrev pub SettingNear : ℕ → Option ValueStart → Type 0
SettingNear n None = Unit {0}
SettingNear n (Some start) = StartNear n start

module _ {n : ℕ} where
  taken_near : {X Y : Type 0} {P : Y → Type 0} (f : X → ℕ → Y) (o : Option X) (p : ℕ) (ts : Tokens) → Given (λ x. P (f x p)) o → p ≤ n → Within n ts → Read n P (taken f o p ts)
  taken_near f (Some x) p ts g l w = made g w
  taken_near f None p ts g l w = failed l

  want_near : {X Y : Type 0} {P : Y → Type 0} (kind : Terminal → Option X) (f : X → ℕ → Y) → ((x : X) (p : ℕ) → p ≤ n → P (f x p)) → (ts : Tokens) → Within n ts → Read n P (want kind f ts)
  want_near kind f h (t.end p) w = failed w
  want_near kind f h (t.fault e) w = failed w
  want_near kind f h (t.token x p ts) w = taken_near f (kind x) p ts (always_given (λ y. h y p w.0) (kind x)) w.0 w.1

  placed_near : {X : Type 0} {P : X → Type 0} (kind : ℕ → Terminal → Option X) → ((p : ℕ) (x : Terminal) → p ≤ n → Given P (kind p x)) → (ts : Tokens) → Within n ts → Read n P (placed kind ts)
  placed_near kind h (t.end p) w = failed w
  placed_near kind h (t.fault e) w = failed w
  placed_near kind h (t.token x p ts) w = taken_near (λ y _. y) (kind p x) p ts (h p x w.0) w.0 w.1

  -- a name, a decimal or a string
  pub spot_near : (kind : Terminal → Option (List ℕ)) (ts : Tokens) → Within n ts → Read n (λ (v : List ℕ × ℕ). v.1 ≤ n) (want kind (λ bs p. (bs, p)) ts)
  spot_near kind ts w = want_near kind (λ bs p. (bs, p)) (λ _ _ l. l) ts w

  pub number_near : (ts : Tokens) → Within n ts → Read n (λ v. v.place ≤ n) (number_in ts)
  number_near ts w = want_near _ _ (λ _ _ l. l) ts w

  pub symbol_near : (ts : Tokens) → Within n ts → Read n (λ f. f.place ≤ n) (symbol_in ts)
  symbol_near ts w = want_near _ _ (λ _ _ l. l) ts w

  pub name_or_close_near : (ts : Tokens) → Within n ts → Read n Any (name_or_close_in ts)
  name_or_close_near ts w = want_near _ _ (λ _ _ _. tt) ts w

  pub value_start_near : (ts : Tokens) → Within n ts → Read n (StartNear n) (value_start_in ts)
  value_start_near ts w = placed_near a_value_start by ts w
    where
      by : (p : ℕ) (x : Terminal) → p ≤ n → Given (StartNear n) (a_value_start p x)
      by p (t.name bs) l = tt
      by p (t.keyword k) l = tt
      by p (t.number m) l = l
      by p (t.decimal bs) l = tt
      by p (t.string bs) l = tt
      by p (t.mark m) l = given_where (StartNear n) (same_mark m mk.Minus) (Minus p) l

  pub setting_near : (ts : Tokens) → Within n ts → Read n (SettingNear n) (setting_in ts)
  setting_near ts w = placed_near a_setting by ts w
    where
      by : (p : ℕ) (x : Terminal) → p ≤ n → Given (SettingNear n) (a_setting p x)
      by p (t.name bs) l = tt
      by p (t.keyword k) l = tt
      by p (t.number m) l = l
      by p (t.decimal bs) l = tt
      by p (t.string bs) l = tt
      by p (t.mark m) l = given_where (SettingNear n) (same_mark m mk.Minus) (Some (Minus p)) l

  pub expect_near : (s : Symbol) (ts : Tokens) → Within n ts → Read n Any (expect_in s ts)
  expect_near s ts w = by (symbol_near ts w)
    where
      by : {x : Parsed Found} → Read n (λ f. f.place ≤ n) x → Read n Any (wanted s x)
      by (made {x} l w) = either_near (same_symbol x.symbol s) (made tt w) (failed l)
      by (failed l) = failed l

  pub another_near : (last : Mark) (ts : Tokens) → Within n ts → Read n Any (another_in last ts)
  another_near last ts w = by (symbol_near ts w)
    where
      by : {x : Parsed Found} → Read n (λ f. f.place ≤ n) x → Read n Any (another last x)
      by (made {x} l w) = either_near (is_mark mk.Comma x) (made tt w) (either_near (is_mark last x) (made tt w) (failed l))
      by (failed l) = failed l

-- one after the other

module _ {n : ℕ} {X Y : Type 0} {P : X → Type 0} {Q : Y → Type 0} {next : X → Tokens → Loaded Y} where
  pub parse_near : {x : Parsed X} → Read n P x → ((v : X) (ts : Tokens) → P v → Within n ts → Near n Q (next v ts)) → Near n Q (parse x next)
  parse_near (made {x} {ts} p w) k = k x ts p w
  parse_near (failed l) k = failed l

  pub then_near : {x : Loaded X} → Near n P x → ((v : X) (ts : Tokens) → P v → Within n ts → Near n Q (next v ts)) → Near n Q (then x next)
  then_near (made {x} {ts} p w) k = k x ts p w
  then_near (failed l) k = failed l

-- what is there, or a fault where nothing is
pub have_near : {n : ℕ} {X Y : Type 0} {Q : Y → Type 0} {e : RuleFault} {next : X → Loaded Y} (o : Option X) → Near n Q (Err (Rule e)) → ((x : X) → Near n Q (next x)) → Near n Q (have o e next)
have_near (Some x) l k = k x
have_near None l k = l

-- parts that may stand there, and repetitions

-- so of what is read, and the symbol behind it
abbrev pub Before : {S : Type 0} → ℕ → (S → Type 0) → S × Found → Type 0
Before n P s = P s.0 × (s.1.place ≤ n)

module _ {n : ℕ} {S : Type 0} (P : S → Type 0) where
  pub optional_near : (k : Keyword) (none : S) (part : Tokens → Loaded S) → ((ts : Tokens) → Within n ts → Near n P (part ts)) → P none → (f : Found) (ts : Tokens) → f.place ≤ n → Within n ts → Near n (Before n P) (optional k none part f ts)
  optional_near k none part h p f ts l w =
      either_near (is_keyword k f)
      (then_near (h ts w) λ x ts p w.
      parse_near (symbol_near ts w) λ g ts l w.
      made (p, l) w)
      (made (p, l) w)

  module _ (turn : S → Tokens → Loaded (Bool × S)) (h : (s : S) (ts : Tokens) → P s → Within n ts → Near n (λ v. P v.1) (turn s ts)) where
    turns_near : (k : ℕ) (s : S) (ts : Tokens) → P s → Within n ts → Near n P (turns turn k s ts)
    unfolding turns
    turns_near zero s ts p w = made p w
    turns_near (suc k) s ts p w =
        then_near (h s ts p w) λ v ts p w.
        either_near v.0 (turns_near k v.1 ts p w) (made p w)

    pub many_near : (s : S) (ts : Tokens) → P s → Within n ts → Near n P (many turn s ts)
    many_near s ts p w = turns_near (suc (count ts)) s ts p w

-- rows one after the other
pub rows_near : {n : ℕ} {S : Type 0} (P : S → Type 0) (begins : Found → Bool) (row : Found → S → Tokens → Loaded S) → ((f : Found) (s : S) (ts : Tokens) → f.place ≤ n → P s → Within n ts → Near n P (row f s ts)) → (s : S × Found) (ts : Tokens) → Before n P s → Within n ts → Near n (Before n P) (many (row_turn begins row) s ts)
rows_near {n} {S} P begins row h = many_near (Before n P) (row_turn begins row) turn
  where
    turn : (s : S × Found) (ts : Tokens) → Before n P s → Within n ts → Near n (λ v. Before n P v.1) (row_turn begins row s ts)
    turn s ts p w =
        either_near (begins s.1)
        (then_near (h s.1 s.0 ts p.1 p.0 w) λ t ts p w.
        parse_near (symbol_near ts w) λ f ts l w.
        made (p, l) w)
        (made p w)
