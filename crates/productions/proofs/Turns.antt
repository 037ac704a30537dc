-- Turns of lists and rows, as loops make them. The text on the desk, x, is the text y that it was at the start.
use Rattle.std.proofs.Common.{◌≡◌, ℕ, ◌<◌, Bool, true, false, List, Ok, Err, sym, ap, ◌∙◌, arith}
use Rattle.std.proofs.lemmas.Bool.{cond-true, cond-false}
use Rattle.text_bytes.specs.declared.kinds.Mark.{Mark}
use Rattle.tokens.specs.Terminals.{Tokens, count}
use Rattle.grammar.specs.declared.fault.GrammarFault.{GrammarFault}
use Rattle.grammar.specs.declared.symbols.Found.{Found}
use Rattle.grammar.specs.Readers.{Parsed, symbol_in}
use Rattle.refusals.specs.declared.fault.LoadFault.{LoadFault}
use Rattle.refusals.specs.declared.fault.LoadFault.TheVariants.{Grammar}
use Rattle.refusals.specs.Shapes.{another_in, row_turn}
use Rattle.refusals.specs.Steps.{Loaded, parse, then}
use Rattle.refusals.proofs.Repeating.{Going, goes_on, ends, stops}
use Rattle.productions.specs.declared.desk.Desk.{Desk}
use Rattle.productions.specs.Desks.{Same, text}
use Rattle.productions.specs.Following.{list_turn}

pub same_on : {a b c : Desk} → Same a b → text c ≡ text b → c.tables.ghost_name ≡ b.tables.ghost_name → Same a c
same_on p t n = record { text = t ∙ p.text; tables = n ∙ p.tables }

module _ {S : Type 0} (begins : Found → Bool) (row : Found → List ℕ → S → Tokens → Loaded S) {x y : List ℕ} (same : x ≡ y) {s : S} {f : Found} {ts : Tokens} {whole : Loaded (S × Found)} (h : Going (row_turn begins (λ next. row next y)) (s, f) ts whole) where
  -- a row begins
  row_begun : begins f ≡ true → (r : Loaded S) → r ≡ row f x s ts → row_turn begins (λ next. row next y) (s, f) ts ≡ (then r λ t ts. parse (symbol_in ts) λ f ts. Ok ((true, (t, f)), ts))
  row_begun b r e =
      cond-true (begins f) _ _ b
      ∙ ap (λ (r : Loaded S). then {Y = Bool × (S × Found)} r λ t ts. parse (symbol_in ts) λ f ts. Ok ((true, (t, f)), ts)) (sym (e ∙ ap (λ z. row f z s ts) same))

  -- a row, and the symbol behind it
  pub row_on : begins f ≡ true → (t : S) (us : Tokens) → Ok (t, us) ≡ row f x s ts → (g : Found) (vs : Tokens) → Ok (g, vs) ≡ symbol_in us → count us < count ts → count vs < count us → Going (row_turn begins (λ next. row next y)) (t, g) vs whole
  row_on b t us e g vs d lo less =
      goes_on _ h (t, g) vs (row_begun b (Ok (t, us)) e ∙ ap (λ (p : Parsed Found). parse {Y = Bool × (S × Found)} p λ f ts. Ok ((true, (t, f)), ts)) (sym d)) (omega arith)

  -- no row begins
  pub row_over : begins f ≡ false → Ok ((s, f), ts) ≡ whole
  row_over b = ends _ h (s, f) ts (cond-false (begins f) _ _ b)

  -- a fault in a row
  pub row_stops : begins f ≡ true → (e : LoadFault) → Err e ≡ row f x s ts → Err e ≡ whole
  row_stops b e r = stops _ h e (row_begun b (Err e) r)

  -- a fault behind a row
  pub behind_stops : begins f ≡ true → (t : S) (us : Tokens) → Ok (t, us) ≡ row f x s ts → (e : GrammarFault) → Err e ≡ symbol_in us → Err (Grammar e) ≡ whole
  behind_stops b t us r e d =
      stops _ h (Grammar e) (row_begun b (Ok (t, us)) r ∙ ap (λ (p : Parsed Found). parse {Y = Bool × (S × Found)} p λ f ts. Ok ((true, (t, f)), ts)) (sym d))

module _ {S : Type 0} (last : Mark) (entry : List ℕ → S → Tokens → Loaded S) {x y : List ℕ} (same : x ≡ y) {s : S} {ts : Tokens} {whole : Loaded S} (h : Going (list_turn last (entry y)) s ts whole) where
  entry_read : (r : Loaded S) → r ≡ entry x s ts → list_turn last (entry y) s ts ≡ (then r λ t ts. parse (another_in last ts) λ more ts. Ok ((more, t), ts))
  entry_read r e = ap (λ (r : Loaded S). then {Y = Bool × S} r λ t ts. parse (another_in last ts) λ more ts. Ok ((more, t), ts)) (sym (e ∙ ap (λ z. entry z s ts) same))

  entry_then : (t : S) (us : Tokens) → Ok (t, us) ≡ entry x s ts → (p : Parsed Bool) → p ≡ another_in last us → list_turn last (entry y) s ts ≡ (parse p λ more ts. Ok ((more, t), ts))
  entry_then t us e p d = entry_read (Ok (t, us)) e ∙ ap (λ (p : Parsed Bool). parse {Y = Bool × S} p λ more ts. Ok ((more, t), ts)) (sym d)

  -- an entry with another behind it
  pub entry_on : (t : S) (us : Tokens) → Ok (t, us) ≡ entry x s ts → (vs : Tokens) → Ok (true, vs) ≡ another_in last us → count us < count ts → count vs < count us → Going (list_turn last (entry y)) t vs whole
  entry_on t us e vs d lo less = goes_on _ h t vs (entry_then t us e (Ok (true, vs)) d) (omega arith)

  -- the last entry
  pub entry_last : (t : S) (us : Tokens) → Ok (t, us) ≡ entry x s ts → (vs : Tokens) → Ok (false, vs) ≡ another_in last us → Ok (t, vs) ≡ whole
  entry_last t us e vs d = ends _ h t vs (entry_then t us e (Ok (false, vs)) d)

  -- a fault in an entry
  pub entry_stops : (e : LoadFault) → Err e ≡ entry x s ts → Err e ≡ whole
  entry_stops e r = stops _ h e (entry_read (Err e) r)

  -- a fault behind an entry
  pub comma_stops : (t : S) (us : Tokens) → Ok (t, us) ≡ entry x s ts → (e : GrammarFault) → Err e ≡ another_in last us → Err (Grammar e) ≡ whole
  comma_stops t us r e d = stops _ h (Grammar e) (entry_then t us r (Err e) d)
