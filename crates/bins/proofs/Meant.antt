-- The rules about bins, of what a plan means, where its rows of bins keep them.
use Rattle.std.proofs.Common.{◌≡◌, ℕ, ◌+◌, ◌<◌, ◌≤◌, true, ◌⊎◌, List, map, length, Some, sym, refl, ap, ◌∙◌, subst, arith}
use Rattle.std.specs.List.{slice_get}
use Rattle.plan.specs.declared.rows.Bin.{Bin}
use Rattle.plan.specs.Drafts.{Draft}
use Rattle.plan.specs.Meaning.{PlanBin, AtOrAbove, meaning, bin_of, parent_in}
use Rattle.plan.specs.Rules.{ParentEarlier, ParentNoLeaf, BinNumberFits, BinNumberOnce, FirstGroup, NextGroup, LeafSorted, HasBin, Once, spelt}
use Rattle.plan.proofs.Added.{nth_below}
use Rattle.plan.proofs.Readings.{MadeOf, made_of, bin_meant_lem, bins_counted, some_sort_group}
use Rattle.bins.proofs.Kept.{BinsKept}
use Rattle.bins.proofs.Rows.{RowsKept}
use Rattle.bins.proofs.Sorted.{RowAbove, here, up, SortRow}

-- every leaf has a bin of the group at or above it
abbrev pub LeavesSorted : List Bin → ℕ → Type 0
LeavesSorted bins group = (i : ℕ) (b : Bin) → slice_get bins i ≡ Some b → b.leaf ≡ true → SortRow bins group i

-- tables with the same groups, bins and sort group keep the same
pub kept_on : (text : List ℕ) (start e d : Draft) → d.groups ≡ e.groups → d.bins ≡ e.bins → d.sort_group ≡ e.sort_group → BinsKept text start e → BinsKept text d d
kept_on text start e d g b s k = record {
  rows = subst (λ x. RowsKept (length x) d.bins) (sym g) (subst (RowsKept (length e.groups)) (sym b) k.rows);
  has_bin = subst (λ x. 0 < length x) (sym b) k.has_bin;
  groups_fit = subst (λ x. length x ≤ 16) (sym g) k.groups_fit;
  group_names = subst (λ x. Once (map (λ g. spelt text g.name) x)) (sym g) k.group_names;
  bin_names = subst (λ x. Once (map (λ b. spelt text b.name) x)) (sym b) k.bin_names;
  sort_group = subst (λ x. x < length d.groups) (sym s) (subst (λ x. e.sort_group < length x) (sym g) k.sort_group);
  leaf_sorted = subst (LeavesSorted d.bins) (sym s) (subst (λ x. LeavesSorted x e.sort_group) (sym b) k.leaf_sorted);
  others = record { counters = refl; tests = refl; flows = refl; items = refl; clauses = refl; values = refl; mentions = refl; main_flow = refl };
}

module _ (d : Draft) where
  -- the row of a bin
  bin_row_lem : (i : ℕ) (b : PlanBin) → slice_get (meaning d).bins i ≡ Some b → MadeOf bin_of d.bins i b
  unfolding meaning
  bin_row_lem i b at = made_of bin_of d.bins i b at

  -- the bin of a row
  row_bin : (i : ℕ) (b : Bin) → slice_get d.bins i ≡ Some b → slice_get (meaning d).bins i ≡ Some (bin_of b)
  row_bin i b at = sym (bin_meant_lem d i (Some b) (sym at))

  module _ (reached : ℕ) (rows : RowsKept reached d.bins) where
    pub parent_earlier_lem : ParentEarlier (meaning d)
    parent_earlier_lem i p b at parent = let r = bin_row_lem i b at in rows.parent_earlier i p r.row r.at (ap (λ x. x.parent) r.is ∙ parent)

    pub parent_no_leaf_lem : ParentNoLeaf (meaning d)
    parent_no_leaf_lem i p b q at parent above =
        let r = bin_row_lem i b at in
        let s = bin_row_lem p q above in
        ap (λ x. x.leaf) (sym s.is) ∙ rows.parent_no_leaf i p r.row s.row r.at (ap (λ x. x.parent) r.is ∙ parent) s.at

    pub number_fits_lem : BinNumberFits (meaning d)
    number_fits_lem i b at = let r = bin_row_lem i b at in subst (λ x. x.number ≤ 65535) r.is (rows.number_fits i r.row r.at)

    pub number_once_lem : BinNumberOnce (meaning d)
    number_once_lem i j a b at bt group number =
        let r = bin_row_lem i a at in
        let s = bin_row_lem j b bt in
        rows.number_once i j r.row s.row r.at s.at
        (ap (λ x. x.group) r.is ∙ group ∙ ap (λ x. x.group) (sym s.is))
        (ap (λ x. x.number) r.is ∙ number ∙ ap (λ x. x.number) (sym s.is))

    pub first_group_lem : FirstGroup (meaning d)
    first_group_lem b at = let r = bin_row_lem 0 b at in ap (λ x. x.group) (sym r.is) ∙ rows.first_group r.row r.at

    pub next_group_lem : NextGroup (meaning d)
    next_group_lem i a b at bt =
        let r = bin_row_lem i a at in
        let s = bin_row_lem (i + 1) b bt in
        subst (λ x. (b.group ≡ x.group) ⊎ (b.group ≡ x.group + 1)) r.is
        (subst (λ y. (y.group ≡ r.row.group) ⊎ (y.group ≡ r.row.group + 1)) s.is
        (rows.next_group i r.row s.row r.at s.at))

    -- no more groups and bins than there may be
    pub groups_fit_lem : reached ≤ 16 → (i : ℕ) (b : PlanBin) → slice_get (meaning d).bins i ≡ Some b → b.group < 16
    groups_fit_lem fit i b at = let r = bin_row_lem i b at in subst (λ x. x.group < 16) r.is (omega (arith, rows.below i r.row r.at, fit))

    pub bins_fit : length (meaning d).bins ≤ 128
    bins_fit = subst (λ n. n ≤ 128) (bins_counted d) rows.room

  pub has_bin_lem : 0 < length d.bins → HasBin (meaning d)
  has_bin_lem h = subst (λ n. 0 < n) (bins_counted d) h

  -- going up
  row_above : {i j : ℕ} → RowAbove d.bins i j → AtOrAbove (meaning d).bins i j
  row_above (here i) = AtOrAbove.here i
  row_above (up i p j b at parent above) = AtOrAbove.up i p j (ap parent_in (row_bin i b at) ∙ parent) (row_above above)

  pub leaf_sorted_lem : LeavesSorted d.bins d.sort_group → LeafSorted (meaning d)
  leaf_sorted_lem sorted i b at leaf =
      let r = bin_row_lem i b at in
      let s = sorted i r.row r.at (ap (λ x. x.leaf) r.is ∙ leaf) in
      (s.j, row_above s.above, record { bin = bin_of s.bin; is = row_bin s.j s.bin s.is; sorts = sym (some_sort_group d (λ z. no_row s.j s.bin z s.is)) ∙ ap Some (sym s.sorts) })
    where
      no_row : (j : ℕ) (x : Bin) → length d.bins ≡ 0 → slice_get d.bins j ≡ Some x → ⊥
      no_row j x z at = omega (arith, nth_below d.bins j x at, z)
