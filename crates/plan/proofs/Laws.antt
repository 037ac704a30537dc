-- What the rules of a plan give: a plan with no flow is the empty one, and the main flow is a flow.
use Rattle.std.proofs.Common.{◌≡◌, ℕ, ◌<◌, [], map, length, Some, None, Option, sym, refl, ap, ◌∙◌, inl, inr, arith}
use mathlib.Core.Logic.{∥∥₁_elim, ∥∥₁_map}
use native.Mathlib.Bridge.{le_prop}
use native.Mathlib.Nat.{ℕ_set}
use Rattle.std.proofs.lemmas.List.{nil_from_length}
use Rattle.plan.specs.Drafts.{Draft}
use Rattle.plan.specs.Meaning.{Meaning, meaning, nothing, bin_of, flow_of, item_of, of_some}
use Rattle.plan.specs.Rules.{Keeps, Lawful}
use Rattle.plan.proofs.Readings.{flows_counted, bins_counted, counters_counted, tests_counted, items_counted}

-- a lawful plan has a flow
has_flow : (m : Meaning) → Lawful m → 0 < length m.flows
has_flow m l = let d = l.main_declared in let h : d.0 < length m.flows = d.2 in omega arith

-- in a plan with no flow, what the empty plan has none of, it has none of
none_of : (m : Meaning) (size : Meaning → ℕ) → size nothing ≡ 0 → ∥ Keeps m ∥₁ → length m.flows ≡ 0 → size m ≡ 0
none_of m size z k e = ∥∥₁_elim k (ℕ_set (size m) 0) (λ s. elim s [ inl n ↦ ap size n ∙ z | inr l ↦ (let h = has_flow m l in let y : ⊥ = omega arith in elim y [ ]) ])

module _ (d : Draft) (k : ∥ Keeps (meaning d) ∥₁) where
  pub no_flow_nothing : length d.flows ≡ 0 → meaning d ≡ nothing
  unfolding meaning
  no_flow_nothing e =
      let f : length (meaning d).flows ≡ 0 = sym (flows_counted d) ∙ e in
      let bins : d.bins ≡ [] = nil_from_length _ (bins_counted d ∙ none_of (meaning d) (λ m. length m.bins) refl k f) in
      let items : d.items ≡ [] = nil_from_length _ (items_counted d ∙ none_of (meaning d) (λ m. length m.items) refl k f) in
      let flows : d.flows ≡ [] = nil_from_length _ e in
      let counters : length d.counters ≡ 0 = counters_counted d ∙ none_of (meaning d) (λ m. m.counters) refl k f in
      let tests : length d.tests ≡ 0 = tests_counted d ∙ none_of (meaning d) (λ m. m.tests) refl k f in
      λ j. record { bins = map bin_of (bins j); sort_group = of_some (bins j) d.sort_group; counters = counters j; tests = tests j; flows = map flow_of (flows j); items = map (item_of d) (items j); main_flow = of_some (flows j) d.main_flow }

  pub some_flow_lawful : (length d.flows ≡ 0 → ⊥) → ∥ Lawful (meaning d) ∥₁
  some_flow_lawful h = ∥∥₁_map k (λ s. elim s [ inl n ↦ (let y : ⊥ = h (flows_counted d ∙ ap (λ (m : Meaning). length m.flows) n) in elim y [ ]) | inr l ↦ l ])

pub main_is_flow : (m : Meaning) → ∥ Keeps m ∥₁ → (r : Option ℕ) → r ≡ m.main_flow → (f : ℕ) → r ≡ Some f → f < length m.flows
main_is_flow m k r e f s =
    ∥∥₁_elim k le_prop (λ c. elim c [
      | inl n ↦ (let none : m.main_flow ≡ None = ap (λ (x : Meaning). x.main_flow) n in let z : ◌≡◌ {A = ℕ} 0 1 = cc in let y : ⊥ = omega arith in elim y [ ])
      | inr l ↦ (let d = l.main_declared in let same : d.0 ≡ f = cc d.1 in let h : d.0 < length m.flows = d.2 in omega arith)
    ])
