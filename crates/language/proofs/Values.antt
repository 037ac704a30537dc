-- A value, both ways.
use Rattle.std.proofs.Common.{◌≡◌, ℕ, ◌+◌, ◌-◌, ◌≤◌, Bool, true, false, cond, leb, [], Some, None, Ok, Option, sym, refl, ap, ◌∙◌, subst}
use Rattle.std.proofs.lemmas.Bool.{leb-true, le-leb}
use Rattle.tokens.specs.Terminals.{Tokens}
use Rattle.tokens.specs.Terminals as t
use Rattle.grammar.specs.declared.readers.Numeral.{Numeral}
use Rattle.grammar.specs.declared.readers.ValueStart.{ValueStart}
use Rattle.grammar.specs.declared.readers.ValueStart.TheVariants.{Minus, Digits}
use Rattle.grammar.specs.Readers.{number_in, value_start_in}
use Rattle.plan.specs.declared.rows.Value.{Value}
use Rattle.plan.proofs.Added.{the_same}
use Rattle.plan.proofs.Spans.{never_some}
use Rattle.values.specs.declared.ReadValue.{ReadValue}
use Rattle.values.specs.Values.{coded, placed_value, ranged, leaving, value_from, value_in}
use Rattle.refusals.specs.Steps.{parse}
use Rattle.refusals.proofs.Passing.{no_fault, accepted, parse_passed}
use Rattle.language.specs.Trees.{ValueTree}
use Rattle.language.specs.Grammar.{value_tokens}
use Rattle.language.specs.Standing.{code}
use Rattle.language.specs.Obeying.{Starts, here, next, ValueFits}
use Rattle.language.proofs.Taking.{start_token, start_place, front, number_taken_lem, start_taken}

-- sound

coded_sound : (negative : Bool) (n : ℕ) (v : Value) → coded negative n ≡ Some v → (n ≤ cond negative 32768 32767) × (v.code ≡ cond negative (32768 - n) (32768 + n))
coded_sound true n v e = by (leb n 32768) refl e
  where
    by : (b : Bool) → leb n 32768 ≡ b → cond b (Some (record { code = 32768 - n })) None ≡ Some v → (n ≤ 32768) × (v.code ≡ 32768 - n)
    by true l e = (leb-true n 32768 l, sym (ap (λ x. x.code) (the_same e)))
    by false l e = never_some v e
coded_sound false n v e = by (leb n 32767) refl e
  where
    by : (b : Bool) → leb n 32767 ≡ b → cond b (Some (record { code = 32768 + n })) None ≡ Some v → (n ≤ 32767) × (v.code ≡ 32768 + n)
    by true l e = (leb-true n 32767 l, sym (ap (λ x. x.code) (the_same e)))
    by false l e = never_some v e

-- a value was read
pub record ValueRead (ts : Tokens) (v : ReadValue) (us : Tokens) : Type 0 where
  pub tree : ValueTree
  pub starts : Starts us ts (value_tokens tree)
  pub fits : ValueFits tree
  pub codes : v.value.code ≡ code tree

ranged_sound : (negative : Bool) (n : Numeral) (ts : Tokens) (v : ReadValue) (us : Tokens) → leaving (ranged negative n) ts ≡ Ok (v, us) → (n.value ≤ cond negative 32768 32767) × (v.value.code ≡ cond negative (32768 - n.value) (32768 + n.value)) × (ts ≡ us)
ranged_sound negative n ts v us h = by (coded negative n.value) refl h
  where
    by : (o : Option Value) → coded negative n.value ≡ o → leaving (placed_value n.place o) ts ≡ Ok (v, us) → (n.value ≤ cond negative 32768 32767) × (v.value.code ≡ cond negative (32768 - n.value) (32768 + n.value)) × (ts ≡ us)
    by (Some x) e h =
        let a = accepted h in
        let c = coded_sound negative n.value x e in
        (c.0, sym (ap (λ (y : ReadValue). y.value.code) a.0) ∙ c.1, a.1)
    by None e h = no_fault h

-- the value that has begun so, with the token that it has begun with
pub value_from_sound : (start : ValueStart) (whole ts : Tokens) {p : ℕ} (v : ReadValue) (us : Tokens) → whole ≡ t.token (start_token start) p ts → value_from start ts ≡ Ok (v, us) → ValueRead whole v us
value_from_sound (Minus q) whole ts v us e h =
    let n = parse_passed (number_in ts) h in
    let r = ranged_sound true n.v n.us v us n.goes in
    record {
      tree = record { negative = true; number = n.v.value };
      starts = front e (front (number_taken_lem ts n.v n.us n.is) (subst (λ x. Starts us x []) (sym r.2) here));
      fits = r.0;
      codes = r.1;
    }
value_from_sound (Digits n) whole ts v us e h =
    let r = ranged_sound false n ts v us h in
    record {
      tree = record { negative = false; number = n.value };
      starts = front e (subst (λ x. Starts us x []) (sym r.2) here);
      fits = r.0;
      codes = r.1;
    }

pub value_sound : (ts : Tokens) (v : ReadValue) (us : Tokens) → value_in ts ≡ Ok (v, us) → ValueRead ts v us
value_sound ts v us h =
    let start = parse_passed (value_start_in ts) h in
    value_from_sound start.v ts start.us v us (start_taken ts start.v start.us start.is) start.goes

-- complete

-- how a value begins, and what is read then
pub record ValueBegins (w : ValueTree) (ts us : Tokens) : Type 0 where
  pub start : ValueStart
  pub behind : Tokens
  pub place : ℕ
  pub begins : ts ≡ t.token (start_token start) (start_place start) behind
  pub starts : value_start_in ts ≡ Ok (start, behind)
  pub goes : value_from start behind ≡ Ok (record { value = record { code = code w }; place = place }, us)

pub value_begins : (w : ValueTree) (ts us : Tokens) → ValueFits w → Starts us ts (value_tokens w) → ValueBegins w ts us
value_begins w ts us f s = by w.negative w.number ts f s
  where
    by : (negative : Bool) (n : ℕ) (ts : Tokens) → n ≤ cond negative 32768 32767 → Starts us ts (value_tokens (record { negative = negative; number = n })) → ValueBegins (record { negative = negative; number = n }) ts us
    by true n ts f (next {p = p} (next {p = q} here)) = record {
      start = Minus p;
      behind = t.token (t.number n) q us;
      place = q;
      begins = refl;
      starts = refl;
      goes = ap (λ b. leaving (placed_value q (cond b (Some (record { code = 32768 - n })) None)) us) (le-leb n 32768 f);
    }
    by false n ts f (next {p = p} here) = record {
      start = Digits (record { value = n; place = p });
      behind = us;
      place = p;
      begins = refl;
      starts = refl;
      goes = ap (λ b. leaving (placed_value p (cond b (Some (record { code = 32768 + n })) None)) us) (le-leb n 32767 f);
    }

pub value_complete : (w : ValueTree) (ts us : Tokens) → ValueFits w → Starts us ts (value_tokens w) → (p : ℕ) × (value_in ts ≡ Ok (record { value = record { code = code w }; place = p }, us))
value_complete w ts us f s =
    let b = value_begins w ts us f s in
    (b.place, ap (λ x. parse x (λ start ts. value_from start ts)) b.starts ∙ b.goes)
