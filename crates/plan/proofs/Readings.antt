-- What rows mean, read one by one.
use Rattle.std.proofs.Common.{◌≡◌, ℕ, zero, suc, List, [], ◌∷◌, map, length, Some, None, Option, sym, refl, ap, ◌∙◌, arith}
use lib.ListN.{length-map}
use Rattle.std.specs.Option.{option_map}
use Rattle.std.specs.List.{slice_get}
use Rattle.std.proofs.lemmas.Option.{slice_get-map}
use Rattle.plan.specs.declared.rows.Bin.{Bin}
use Rattle.plan.specs.declared.rows.Flow.{Flow}
use Rattle.plan.specs.declared.rows.Item.{Item}
use Rattle.plan.specs.Drafts.{Draft}
use Rattle.plan.specs.Meaning.{meaning, bin_of, flow_of, item_of, of_some}
use Rattle.plan.proofs.Added.{the_same}
use Rattle.plan.proofs.Spans.{never_some}

pub nth_map : {X Y : Type 0} (f : X → Y) (xs : List X) (i : ℕ) → option_map f (slice_get xs i) ≡ slice_get (map f xs) i
nth_map f xs i = sym (slice_get-map f xs i)

-- what stands in a mapped list is made of what stands in the list
pub record MadeOf {X Y : Type 0} (f : X → Y) (xs : List X) (i : ℕ) (y : Y) : Type 0 where
  pub row : X
  pub at : slice_get xs i ≡ Some row
  pub is : f row ≡ y

pub made_of : {X Y : Type 0} (f : X → Y) (xs : List X) (i : ℕ) (y : Y) → slice_get (map f xs) i ≡ Some y → MadeOf f xs i y
made_of f [] i y e = never_some y e
made_of f (x ∷ xs) zero y e = record { row = x; at = refl; is = the_same e }
made_of f (x ∷ xs) (suc i) y e = let m = made_of f xs i y e in record { row = m.row; at = m.at; is = m.is }

module _ (d : Draft) where
  pub bins_counted : length d.bins ≡ length (meaning d).bins
  unfolding meaning
  bins_counted = sym (length-map d.bins bin_of)

  pub flows_counted : length d.flows ≡ length (meaning d).flows
  unfolding meaning
  flows_counted = sym (length-map d.flows flow_of)

  pub items_counted : length d.items ≡ length (meaning d).items
  unfolding meaning
  items_counted = sym (length-map d.items (item_of d))

  pub counters_counted : length d.counters ≡ (meaning d).counters
  unfolding meaning
  counters_counted = refl

  pub tests_counted : length d.tests ≡ (meaning d).tests
  unfolding meaning
  tests_counted = refl

  pub bin_meant_lem : (i : ℕ) (r : Option Bin) → r ≡ slice_get d.bins i → option_map bin_of r ≡ slice_get (meaning d).bins i
  unfolding meaning
  bin_meant_lem i r e = ap (option_map bin_of) e ∙ nth_map bin_of d.bins i

  pub flow_meant : (i : ℕ) (r : Option Flow) → r ≡ slice_get d.flows i → option_map flow_of r ≡ slice_get (meaning d).flows i
  unfolding meaning
  flow_meant i r e = ap (option_map flow_of) e ∙ nth_map flow_of d.flows i

  pub item_meant_lem : (i : ℕ) (r : Option Item) → r ≡ slice_get d.items i → option_map (item_of d) r ≡ slice_get (meaning d).items i
  unfolding meaning
  item_meant_lem i r e = ap (option_map (item_of d)) e ∙ nth_map (item_of d) d.items i

  of_none : {X : Type 0} (xs : List X) (n : ℕ) → length xs ≡ 0 → None ≡ of_some xs n
  of_none [] n e = refl
  of_none (x ∷ xs) n e = let z : ⊥ = omega arith in elim z [ ]

  of_some_lem : {X : Type 0} (xs : List X) (n : ℕ) → (length xs ≡ 0 → ⊥) → Some n ≡ of_some xs n
  of_some_lem [] n h = elim (h refl) [ ]
  of_some_lem (x ∷ xs) n h = refl

  pub no_sort_group : length d.bins ≡ 0 → None ≡ (meaning d).sort_group
  unfolding meaning
  no_sort_group e = of_none d.bins d.sort_group e

  pub some_sort_group : (length d.bins ≡ 0 → ⊥) → Some d.sort_group ≡ (meaning d).sort_group
  unfolding meaning
  some_sort_group h = of_some_lem d.bins d.sort_group h

  pub no_main_flow : length d.flows ≡ 0 → None ≡ (meaning d).main_flow
  unfolding meaning
  no_main_flow e = of_none d.flows d.main_flow e

  pub some_main_flow : (length d.flows ≡ 0 → ⊥) → Some d.main_flow ≡ (meaning d).main_flow
  unfolding meaning
  some_main_flow h = of_some_lem d.flows d.main_flow h
