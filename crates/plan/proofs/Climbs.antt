-- Going up from a bin.
use Rattle.std.proofs.Common.{◌≡◌, ℕ, zero, suc, ◌<◌, Bool, true, false, cond, eqb, ◌==◌, List, map, length, is_some, Some, None, Option, sym, refl, ap, ◌∙◌, inl, inr, arith}
use mathlib.Core.Bool.{Bool-set}
use mathlib.Core.Logic.{∥∥₁_elim}
use lib.ListN.{length-map}
use Rattle.std.specs.Option.{option_map, option_and_then}
use Rattle.std.specs.List.{slice_get}
use Rattle.std.proofs.lemmas.Option.{slice_get-map, slice_get_within}
use Rattle.std.proofs.lemmas.Bool.{eq-eqb, ne_eqb, eqb-true, eqb-false}
use Rattle.plan.specs.declared.rows.Bin.{Bin}
use Rattle.plan.specs.Drafts.{Draft}
use Rattle.plan.specs.Meaning.{Meaning, PlanBin, meaning, bin_of, parent_in, AtOrAbove, here, up, number_in, at_parent, number_up, in_group, sort_number}
use Rattle.plan.specs.Rules.{Keeps, ParentEarlier, SortBin}
use Rattle.plan.specs.Finding.{group_at, first_of_group, LeafAt, itself, further, SortedAs}
use Rattle.plan.proofs.Spans.{never_some}

-- from a bin of another group it goes on at the parent
pub climb_on : (bins : List Bin) (g n at p : ℕ) (b : Bin) → slice_get bins at ≡ Some b → (b.group ≡ g → ⊥) → b.parent ≡ Some p → first_of_group bins g n p ≡ first_of_group bins g (suc n) at
climb_on bins g n at p b e m f = sym (ap (group_at g (first_of_group bins g n)) e ∙ rw (ne_eqb _ _ m) (rw f))

-- the number that is met is that of the first bin of the group
module _ (bins : List Bin) (g : ℕ) where
  pub number_met : (n at : ℕ) → number_up (map bin_of bins) g n at ≡ option_map (λ b. b.number) (first_of_group bins g n at)
  number_met zero at = refl
  number_met (suc n) at = ap (λ o. number_in o g (at_parent (number_up (map bin_of bins) g n))) (slice_get-map bin_of bins at) ∙ at_bin (slice_get bins at) (number_met n)
    where
      at_next : (o : Option ℕ) → ((p : ℕ) → number_up (map bin_of bins) g n p ≡ option_map (λ b. b.number) (first_of_group bins g n p)) → at_parent (number_up (map bin_of bins) g n) o ≡ option_map (λ b. b.number) (option_and_then (first_of_group bins g n) o)
      at_next None h = refl
      at_next (Some p) h = h p

      either_way : (t : Bool) (b : Bin) → ((p : ℕ) → number_up (map bin_of bins) g n p ≡ option_map (λ b. b.number) (first_of_group bins g n p)) → cond t (Some b.number) (at_parent (number_up (map bin_of bins) g n) b.parent) ≡ option_map (λ x. x.number) (cond t (Some b) (option_and_then (first_of_group bins g n) b.parent))
      either_way true b h = refl
      either_way false b h = at_next b.parent h

      at_bin : (o : Option Bin) → ((p : ℕ) → number_up (map bin_of bins) g n p ≡ option_map (λ b. b.number) (first_of_group bins g n p)) → number_in (option_map bin_of o) g (at_parent (number_up (map bin_of bins) g n)) ≡ option_map (λ b. b.number) (group_at g (first_of_group bins g n) o)
      at_bin None h = refl
      at_bin (Some b) h = either_way (b.group == g) b h

-- the number of steps suffices

either : (t : Bool) (n : ℕ) (o : Option ℕ) → is_some o ≡ true → is_some (cond t (Some n) o) ≡ true
either true n o h = refl
either false n o h = h

one_up : (o : Option PlanBin) (g p : ℕ) (on : ℕ → Option ℕ) → parent_in o ≡ Some p → is_some (on p) ≡ true → is_some (number_in o g (at_parent on)) ≡ true
one_up None g p on e h = never_some p e
one_up (Some b) g p on e h = either (eqb b.group g) b.number (at_parent on b.parent) (ap (λ q. is_some (at_parent on q)) e ∙ h)

module _ (m : Meaning) (law : ParentEarlier m) where
  earlier : (i p : ℕ) (o : Option PlanBin) → slice_get m.bins i ≡ o → parent_in o ≡ Some p → p < i
  earlier i p None e h = never_some p h
  earlier i p (Some b) e h = law i p b e h

  climbs : (i j : ℕ) → AtOrAbove m.bins i j → (b : PlanBin) → slice_get m.bins j ≡ Some b → (n : ℕ) → i < n → is_some (number_up m.bins b.group n i) ≡ true
  climbs i j a b e zero h = let y : ⊥ = omega arith in elim y [ ]
  climbs i j (here s) b e (suc n) h = ap (λ (o : Option PlanBin). is_some (number_in o b.group (at_parent (number_up m.bins b.group n)))) e ∙ rw (eq-eqb b.group b.group refl)
  climbs i j (up s p t f a) b e (suc n) h =
      let less : p < s = earlier s p (slice_get m.bins s) refl f in
      one_up (slice_get m.bins s) b.group p (number_up m.bins b.group n) f (climbs p t a b e n (omega arith))

-- a number that is met is that of the first bin of the sort group

module _ (m : Meaning) (g n : ℕ) (is_group : m.sort_group ≡ Some g) where
  no_sort_bin : (i : ℕ) (b : PlanBin) → slice_get m.bins i ≡ Some b → eqb b.group g ≡ false → SortBin m i → ⊥
  no_sort_bin i b q t s =
      let same : s.bin ≡ b = cc (s.is, q) in
      let group : s.bin.group ≡ g = cc (s.sorts, is_group) in
      eqb-false b.group g t (sym (ap (λ (x : PlanBin). x.group) same) ∙ group)

  met_above : (i : ℕ) (b : PlanBin) (on : ℕ → Option ℕ) → ((p : ℕ) → on p ≡ Some n → SortedAs m p n) → slice_get m.bins i ≡ Some b → eqb b.group g ≡ false → (o : Option ℕ) → b.parent ≡ o → at_parent on o ≡ Some n → SortedAs m i n
  met_above i b on rec q t None f e = never_some n e
  met_above i b on rec q t (Some p) f e =
      let s = rec p e in
      record { sort = s.sort; first = further i p s.sort (no_sort_bin i b q t) (ap parent_in q ∙ f) s.first; bin = s.bin; is = s.is; number = s.number }

  met_here : (i : ℕ) (b : PlanBin) (on : ℕ → Option ℕ) → ((p : ℕ) → on p ≡ Some n → SortedAs m p n) → slice_get m.bins i ≡ Some b → (t : Bool) → eqb b.group g ≡ t → cond t (Some b.number) (at_parent on b.parent) ≡ Some n → SortedAs m i n
  met_here i b on rec q true t e = record { sort = i; first = itself i (record { bin = b; is = q; sorts = is_group ∙ ap Some (sym (eqb-true b.group g t)) }); bin = b; is = q; number = cc }
  met_here i b on rec q false t e = met_above i b on rec q t b.parent refl e

  met_bin : (i : ℕ) (on : ℕ → Option ℕ) → ((p : ℕ) → on p ≡ Some n → SortedAs m p n) → (o : Option PlanBin) → slice_get m.bins i ≡ o → number_in o g (at_parent on) ≡ Some n → SortedAs m i n
  met_bin i on rec None q e = never_some n e
  met_bin i on rec (Some b) q e = met_here i b on rec q (eqb b.group g) refl e

  met : (steps i : ℕ) → number_up m.bins g steps i ≡ Some n → SortedAs m i n
  met zero i e = never_some n e
  met (suc steps) i e = met_bin i (number_up m.bins g steps) (met steps) (slice_get m.bins i) refl e

met_in : (m : Meaning) (i n : ℕ) (o : Option ℕ) → m.sort_group ≡ o → in_group (λ g. number_up m.bins g (length m.bins) i) o ≡ Some n → SortedAs m i n
met_in m i n None q e = never_some n e
met_in m i n (Some g) q e = met m g n q (length m.bins) i e

pub sorted_as : (m : Meaning) (i n : ℕ) → sort_number m i ≡ Some n → SortedAs m i n
unfolding sort_number
sorted_as m i n e = met_in m i n m.sort_group refl e

-- every leaf bin of a plan that keeps the rules has a sort number
pub leaf_sorted_lem : (m : Meaning) → ∥ Keeps m ∥₁ → (i : ℕ) → LeafAt m i → is_some (sort_number m i) ≡ true
unfolding sort_number
leaf_sorted_lem m k i leaf =
    ∥∥₁_elim k (Bool-set _ _) (λ c. elim c [
      | inl e ↦ never_some leaf.bin (sym (ap (λ (x : Meaning). slice_get x.bins i) e) ∙ leaf.is)
      | inr l ↦ (let s = l.leaf_sorted i leaf.bin leaf.is leaf.leaf in
          ap (λ (o : Option ℕ). is_some (in_group (λ g. number_up m.bins g (length m.bins) i) o)) s.2.sorts
          ∙ climbs m l.parent_earlier i s.0 s.1 s.2.bin s.2.is (length m.bins) (slice_get_within m.bins i leaf.bin leaf.is))
    ])

module _ (d : Draft) (i : ℕ) where
  pub sort_number_is : (g : ℕ) (r : Option ℕ) → Some g ≡ (meaning d).sort_group → r ≡ option_map (λ b. b.number) (first_of_group d.bins g (length d.bins) i) → r ≡ sort_number (meaning d) i
  unfolding meaning sort_number
  sort_number_is g r e s =
      s ∙ sym (number_met d.bins g (length d.bins) i) ∙ ap (λ (n : ℕ). number_up (map bin_of d.bins) g n i) (sym (length-map d.bins bin_of))
      ∙ ap (in_group (λ h. number_up (map bin_of d.bins) h (length (map bin_of d.bins)) i)) e

  pub no_sort_number : None ≡ (meaning d).sort_group → None ≡ sort_number (meaning d) i
  unfolding meaning sort_number
  no_sort_number e = ap (in_group (λ h. number_up (map bin_of d.bins) h (length (map bin_of d.bins)) i)) e
