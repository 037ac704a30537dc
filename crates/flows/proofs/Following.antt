-- Spans of rows that follow one another, and rows that stay where others are added behind them.
use Rattle.std.proofs.Common.{◌≡◌, ℕ, zero, suc, ◌+◌, ◌-◌, ◌≤◌, Bool, true, false, ◌&&◌, leb, ◌⊎◌, List, [], ◌∷◌, ◌++◌, length, take, drop, Some, None, Option, sym, refl, ap, ◌∙◌, subst, inl, inr, arith, length-append}
use Rattle.std.proofs.lemmas.List.{drop_at, drop-append-le, take-append-le, take_all, length-drop}
use Rattle.std.proofs.lemmas.Bool.{leb-true, leb-false}
use Rattle.std.specs.List.{between, slice_get}
use Rattle.plan.specs.declared.rows.Clause.{Clause}
use Rattle.plan.specs.declared.rows.Flow.{Flow}
use Rattle.plan.specs.declared.rows.Item.{Item}
use Rattle.plan.specs.declared.rows.Span.{Span}
use Rattle.plan.specs.declared.rows.Value.{Value}
use Rattle.plan.specs.Meaning.{rows_of}
use Rattle.plan.proofs.Spans.{never_some, nth_between}
use Rattle.flows.specs.Checks.{clauses_listed, items_listed, flow_items}

-- the spans follow one another from `from` and end at `to`
abbrev pub Follow : ℕ → List Span → ℕ → Type 0
Follow from [] to = from ≡ to
Follow from (s ∷ ss) to = (s.from ≡ from) × (from ≤ s.to) × Follow s.to ss to

pub follow_then : (from : ℕ) (xs : List Span) (mid : ℕ) (ys : List Span) (to : ℕ) → Follow from xs mid → Follow mid ys to → Follow from (xs ++ ys) to
follow_then from [] mid ys to a b = subst (λ n. Follow n ys to) (sym a) b
follow_then from (x ∷ xs) mid ys to a b = (a.0, a.1, follow_then x.to xs mid ys to a.2 b)

pub follow_one : (from to : ℕ) (s : Span) → s.from ≡ from → s.to ≡ to → from ≤ to → Follow from (s ∷ []) to
follow_one from to s a b l = (a, omega (arith, b, l), b)

-- what stands in a list made of two stands in one of them
pub nth_either : {X : Type 0} (xs ys : List X) (i : ℕ) (x : X) → slice_get (xs ++ ys) i ≡ Some x → (slice_get xs i ≡ Some x) ⊎ ((j : ℕ) × (slice_get ys j ≡ Some x))
nth_either [] ys i x e = inr (i, e)
nth_either (y ∷ xs) ys zero x e = inl e
nth_either (y ∷ xs) ys (suc i) x e = nth_either xs ys i x e

-- the rows of a span stay where rows are added behind
pub between_append : {X : Type 0} (i j : ℕ) (xs ys : List X) → j ≤ length xs → between i j (xs ++ ys) ≡ between i j xs
between_append {X} i j xs ys l = by (leb i (length xs)) refl
  where
    by : (t : Bool) → leb i (length xs) ≡ t → between i j (xs ++ ys) ≡ between i j xs
    by true e =
        ap (take (j - i)) (drop-append-le i xs ys (leb-true i (length xs) e))
        ∙ take-append-le (j - i) (drop i xs) ys (omega (arith, length-drop i xs, l))
    by false e =
        let z : j - i ≡ 0 = omega (arith, leb-false i (length xs) e, l) in
        ap (λ n. take n (drop i (xs ++ ys))) z ∙ ap (λ n. take n (drop i xs)) (sym z)

-- the rows that were added are those of the span from the old length to the new one
pub span_added : {X : Type 0} (xs ys more : List X) → ys ≡ xs ++ more → between (length xs) (length ys) ys ≡ more
span_added xs ys more e =
    let d : drop (length xs) ys ≡ more = ap (drop (length xs)) e ∙ drop_at xs more (length xs) refl in
    ap (take (length ys - length xs)) d ∙ take_all (length ys - length xs) more (omega (arith, ap length e, length-append xs more))

-- the items of a flow, and the values that their clauses return, are the same where rows are added behind

pub flow_items_before : (items more : List Item) (o : Option Flow) → ((flow : Flow) → o ≡ Some flow → flow.items.to ≤ length items) → flow_items (items ++ more) o ≡ flow_items items o
flow_items_before items more None held = refl
flow_items_before items more (Some f) held = between_append f.items.from f.items.to items more (held f refl)

pub flow_item : (items : List Item) (o : Option Flow) (i : ℕ) (it : Item) → slice_get (flow_items items o) i ≡ Some it → (j : ℕ) × (slice_get items j ≡ Some it)
flow_item items None i it e = never_some it e
flow_item items (Some f) i it e = (f.items.from + i, nth_between f.items.from f.items.to items i it e)

pub listed_before : (vs : List Value) (cs more : List Clause) (its : List Item) → ((i : ℕ) (it : Item) → slice_get its i ≡ Some it → it.clauses.to ≤ length cs) → items_listed vs (cs ++ more) its ≡ items_listed vs cs its
listed_before vs cs more [] held = refl
listed_before vs cs more (it ∷ its) held =
    ap (λ l. clauses_listed vs l && items_listed vs (cs ++ more) its) (between_append it.clauses.from it.clauses.to cs more (held 0 it refl))
    ∙ ap (λ b. clauses_listed vs (rows_of it.clauses cs) && b) (listed_before vs cs more its (λ i x e. held (suc i) x e))
