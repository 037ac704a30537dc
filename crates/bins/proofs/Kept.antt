-- The rules that the bins of an accepted plan keep, as the rows are added one after the other.
use Rattle.std.proofs.Common.{◌≡◌, ℕ, zero, suc, ◌+◌, ◌<◌, ◌≤◌, Bool, true, false, cond, ltb, leb, ◌⊎◌, List, [], ◌∷◌, ◌++◌, map, length, is_some, Some, None, Ok, Option, sym, refl, ap, ◌∙◌, subst, inl, inr, arith, length-append}
use Rattle.std.proofs.lemmas.Bool.{leb-false, ltb-false}
use Rattle.std.specs.List.{slice_get}
use Rattle.text_bytes.specs.declared.kinds.Mark.TheVariants as mk
use Rattle.keywords.specs.declared.Keyword.TheVariants as kw
use Rattle.tokens.specs.Terminals.{Tokens}
use Rattle.grammar.specs.declared.symbols.Found.{Found}
use Rattle.grammar.specs.declared.symbols.Symbol.TheVariants.{Keyword, Mark}
use Rattle.grammar.specs.Symbols.{same_symbol}
use Rattle.grammar.specs.Readers.{name_in, number_in, string_in, symbol_in, expect_in}
use Rattle.plan.specs.declared.rows.Bin.{Bin}
use Rattle.plan.specs.declared.rows.Group.{Group}
use Rattle.plan.specs.Drafts.{Draft, with_group, with_bin, with_sort_group}
use Rattle.plan.specs.Rules.{Once, spelt}
use Rattle.plan.proofs.Added.{the_same, once_row}
use Rattle.plan.proofs.Spans.{never_some}
use Rattle.names.specs.Names.{found}
use Rattle.names.proofs.Found.{found_below, none_found}
use Rattle.refusals.specs.declared.fault.RuleFault.TheVariants.{DeclaredBefore, WrongKind, OutOfRange, Repeated, TableFull}
use Rattle.refusals.specs.Steps.{parse, allow, many}
use Rattle.refusals.proofs.Passing.{no_fault, accepted, parse_passed, then_passed, refuse_passed, allow_passed, rows_keep}
use Rattle.refusals.proofs.Spelled.{NamesAt, want_leaves, expect_leaves, name_at}
use Rattle.bins.specs.Bins.{number_taken, bin_number_in, leaf_at, parent_found, parent_in, bin_in, begins_bin, bin_turn, group_in, begins_group, group_turn, sorted_by, sort_group_found, sort_group_in, bins_in}
use Rattle.bins.specs.Sorting.{first_unsorted}
use Rattle.bins.proofs.Rows.{RowsKept, NumberFree, GoodParent, number_free, no_rows, rows_added}
use Rattle.bins.proofs.Sorted.{SortRow, leaf_sorted_lem}

-- the tables but those of groups and bins are the same, and so is the main flow
pub record OthersSame (d e : Draft) : Type 0 where
  pub counters : e.counters ≡ d.counters
  pub tests : e.tests ≡ d.tests
  pub flows : e.flows ≡ d.flows
  pub items : e.items ≡ d.items
  pub clauses : e.clauses ≡ d.clauses
  pub values : e.values ≡ d.values
  pub mentions : e.mentions ≡ d.mentions
  pub main_flow : e.main_flow ≡ d.main_flow

-- what the tables keep once groups and bins have been added to those of `start`, and the names of the tokens left
pub record SoFar (text : List ℕ) (start : Draft) (reached : ℕ) (d : Draft) (ts : Tokens) : Type 0 where
  pub rows : RowsKept reached d.bins
  pub groups_fit : length d.groups ≤ 16
  pub group_names : Once (map (λ g. spelt text g.name) d.groups)
  pub bin_names : Once (map (λ b. spelt text b.name) d.bins)
  pub others : OthersSame start d
  pub names : NamesAt text ts

-- what the bins of an accepted plan keep
pub record BinsKept (text : List ℕ) (start e : Draft) : Type 0 where
  pub rows : RowsKept (length e.groups) e.bins
  pub has_bin : 0 < length e.bins
  pub groups_fit : length e.groups ≤ 16
  pub group_names : Once (map (λ g. spelt text g.name) e.groups)
  pub bin_names : Once (map (λ b. spelt text b.name) e.bins)
  pub sort_group : e.sort_group < length e.groups
  pub leaf_sorted : (i : ℕ) (b : Bin) → slice_get e.bins i ≡ Some b → b.leaf ≡ true → SortRow e.bins e.sort_group i
  pub others : OthersSame start e

module _ (text : List ℕ) where
  -- a number that was read fits and is free
  number_read : (group : ℕ) (bins : List Bin) (ts : Tokens) (n : ℕ) (us : Tokens) → bin_number_in group bins ts ≡ Ok (n, us) → NamesAt text ts → (n ≤ 65535) × NumberFree group n bins × NamesAt text us
  number_read group bins ts n us h names =
      let m = parse_passed (number_in ts) h in
      let fits = refuse_passed (ltb 65535 m.v.value) (OutOfRange m.v.place) _ m.goes in
      let free = refuse_passed (number_taken group m.v.value bins) (Repeated m.v.place) _ fits.1 in
      let e = accepted free.1 in
      let left = want_leaves text _ _ ts m.v m.us m.is names in (
        subst (λ x. x ≤ 65535) e.0 (ltb-false 65535 m.v.value fits.0),
        subst (λ x. NumberFree group x bins) e.0 (number_free group m.v.value bins free.0),
        subst (NamesAt text) e.1 left,
      )

  -- a parent that was read is an earlier bin and no leaf
  parent_read : (bins : List Bin) (ts : Tokens) (parent : Option ℕ) (us : Tokens) → parent_in text bins ts ≡ Ok (parent, us) → NamesAt text ts → GoodParent bins parent × NamesAt text us
  parent_read bins ts parent us h names =
      let next = parse_passed (symbol_in ts) h in
      by next.v next.us (same_symbol next.v.symbol (Mark mk.Semicolon)) (want_leaves text _ _ ts next.v next.us next.is names) next.goes
    where
      known : (p : ℕ) (word : List ℕ) (o : Option ℕ) (vs : Tokens) → found (λ b. b.name) text bins word ≡ o → NamesAt text vs → parent_found bins p o vs ≡ Ok (parent, us) → GoodParent bins parent × NamesAt text us
      known p word None vs f n h = no_fault h
      known p word (Some i) vs f n h =
          let inner = refuse_passed (leaf_at bins i) (WrongKind p) _ h in
          let end = parse_passed (expect_in (Mark mk.Semicolon) vs) inner.1 in
          let e = accepted end.goes in
          let is : (q : ℕ) → parent ≡ Some q → i ≡ q = λ q r. the_same (e.0 ∙ r) in (
            (λ q r. (subst (λ x. x < length bins) (is q r) (found_below (λ b. b.name) text word bins i f), subst (λ x. leaf_at bins x ≡ false) (is q r) inner.0)),
            subst (NamesAt text) e.1 (expect_leaves text (Mark mk.Semicolon) vs end.v end.us end.is n),
          )

      by : (f : Found) (vs : Tokens) (t : Bool) → NamesAt text vs → cond t (Ok (None, vs)) (allow (same_symbol f.symbol (Mark mk.Comma)) f.place (parse (name_in vs) λ n ts. parent_found bins n.1 (found (λ b. b.name) text bins n.0) ts)) ≡ Ok (parent, us) → GoodParent bins parent × NamesAt text us
      by f vs true n h = let e = accepted h in ((λ q r. never_some q (e.0 ∙ r)), subst (NamesAt text) e.1 n)
      by f vs false n h =
          let comma = allow_passed (same_symbol f.symbol (Mark mk.Comma)) f.place _ h in
          let name = parse_passed (name_in vs) comma.1 in
          known name.v.1 name.v.0 (found (λ b. b.name) text bins name.v.0) name.us refl (want_leaves text _ _ vs name.v name.us name.is n) name.goes

  module _ (start : Draft) where
    onward : (reached : ℕ) (d : Draft) (ts us : Tokens) → NamesAt text us → SoFar text start reached d ts → SoFar text start reached d us
    onward reached d ts us n s = record { rows = s.rows; groups_fit = s.groups_fit; group_names = s.group_names; bin_names = s.bin_names; others = s.others; names = n }

    others_bin : (row : Bin) (d : Draft) → OthersSame start d → OthersSame start (with_bin row d)
    others_bin row d o = record { counters = o.counters; tests = o.tests; flows = o.flows; items = o.items; clauses = o.clauses; values = o.values; mentions = o.mentions; main_flow = o.main_flow }

    others_group : (row : Group) (d : Draft) → OthersSame start d → OthersSame start (with_group row d)
    others_group row d o = record { counters = o.counters; tests = o.tests; flows = o.flows; items = o.items; clauses = o.clauses; values = o.values; mentions = o.mentions; main_flow = o.main_flow }

    -- a bin of the group that was reached last, or of the next
    pub bin_kept : (group : ℕ) (leaf : Bool) (place reached : ℕ) (d : Draft) (ts : Tokens) (e : Draft) (us : Tokens) → (reached ≡ group) ⊎ (reached ≡ group + 1) → bin_in text group leaf place d ts ≡ Ok (e, us) → SoFar text start reached d ts → SoFar text start (group + 1) e us × (length e.groups ≡ length d.groups)
    bin_kept group leaf place reached d ts e us at h s =
        let room = refuse_passed (leb 128 (length d.bins)) (TableFull place) _ h in
        let n = parse_passed (name_in ts) room.1 in
        let new = refuse_passed (is_some (found (λ b. b.name) text d.bins n.v.0)) (DeclaredBefore n.v.1) _ n.goes in
        let number = then_passed (bin_number_in group d.bins n.us) new.1 in
        let colon = parse_passed (expect_in (Mark mk.Colon) number.us) number.goes in
        let label = parse_passed (string_in colon.us) colon.goes in
        let parent = then_passed (parent_in text d.bins label.us) label.goes in
        let made = accepted parent.goes in
        let spelled = name_at text ts n.v n.us n.is s.names in
        let numbered = number_read group d.bins n.us number.v number.us number.is (want_leaves text _ _ ts n.v n.us n.is s.names) in
        let labelled = want_leaves text _ _ colon.us label.v label.us label.is (expect_leaves text (Mark mk.Colon) number.us colon.v colon.us colon.is numbered.2) in
        let good = parent_read d.bins label.us parent.v parent.us parent.is labelled in
        let row : Bin = record { name = record { place = n.v.1; len = length n.v.0 }; group = group; leaf = leaf; number = number.v; parent = parent.v } in
        let added : SoFar text start (group + 1) (with_bin row d) parent.us = record {
          rows = rows_added reached d.bins row s.rows at (leb-false 128 (length d.bins) room.0) numbered.0 numbered.1 good.0;
          groups_fit = s.groups_fit;
          group_names = s.group_names;
          bin_names = once_row (λ b. spelt text b.name) d.bins row s.bin_names (λ i is. none_found (λ b. b.name) text n.v.0 d.bins new.0 i (is ∙ ap Some spelled));
          others = others_bin row d s.others;
          names = good.1;
        } in (
          subst (λ x. SoFar text start (group + 1) x us) made.0 (subst (SoFar text start (group + 1) (with_bin row d)) made.1 added),
          sym (ap (λ x. length x.groups) made.0),
        )

    -- the group that is reached is the last, whose rows are being read
    abbrev InGroup : ℕ → Draft → Tokens → Type 0
    InGroup group d ts = SoFar text start (group + 1) d ts × (length d.groups ≡ group + 1)

    -- every group has been reached, and there is one
    abbrev GroupsDone : Draft → Tokens → Type 0
    GroupsDone d ts = SoFar text start (length d.groups) d ts × (0 < length d.groups)

    -- the bins of a group, of which there is one at least
    pub group_bins_kept : (group : ℕ) (d : Draft) (f : Found) (ts : Tokens) (e : Draft × Found) (us : Tokens) → begins_bin f.symbol ≡ true → length d.groups ≡ group + 1 → many (bin_turn text group) (d, f) ts ≡ Ok (e, us) → SoFar text start group d ts → InGroup group e.0 us
    group_bins_kept group d f ts e us begun counted h s =
        rows_keep (λ f. begins_bin f.symbol) (λ f. bin_in text group (same_symbol f.symbol (Keyword kw.LeafBin)) f.place) (InGroup group)
        (λ x ts f us k p. (onward (group + 1) x ts us (want_leaves text _ _ ts f us k p.0.names) p.0, p.1))
        (λ f x ts y us k p. let b = bin_kept group (same_symbol f.symbol (Keyword kw.LeafBin)) f.place (group + 1) x ts y us (inr refl) k p.0 in (b.0, b.1 ∙ p.1))
        d f ts e us
        (λ x vs k. let b = bin_kept group (same_symbol f.symbol (Keyword kw.LeafBin)) f.place group d ts x vs (inl refl) k s in (b.0, b.1 ∙ counted))
        begun h

    -- a group with its bins
    pub group_kept : (place : ℕ) (d : Draft) (ts : Tokens) (e : Draft) (us : Tokens) → group_in text place d ts ≡ Ok (e, us) → SoFar text start (length d.groups) d ts → GroupsDone e us
    group_kept place d ts e us h s =
        let room = refuse_passed (leb 16 (length d.groups)) (TableFull place) _ h in
        let n = parse_passed (name_in ts) room.1 in
        let new = refuse_passed (is_some (found (λ g. g.name) text d.groups n.v.0)) (DeclaredBefore n.v.1) _ n.goes in
        let brace = parse_passed (expect_in (Mark mk.OpenBrace) n.us) new.1 in
        let next = parse_passed (symbol_in brace.us) brace.goes in
        let begun = allow_passed (begins_bin next.v.symbol) next.v.place _ next.goes in
        let row : Group = record { name = record { place = n.v.1; len = length n.v.0 } } in
        let all = then_passed (many (bin_turn text (length d.groups)) (with_group row d, next.v) next.us) begun.1 in
        let closed = allow_passed (same_symbol all.v.1.symbol (Mark mk.CloseBrace)) all.v.1.place _ all.goes in
        let made = accepted closed.1 in
        let counted : length (d.groups ++ row ∷ []) ≡ length d.groups + 1 = length-append d.groups (row ∷ []) in
        let spelled = name_at text ts n.v n.us n.is s.names in
        let left = expect_leaves text (Mark mk.OpenBrace) n.us brace.v brace.us brace.is (want_leaves text _ _ ts n.v n.us n.is s.names) in
        let added : SoFar text start (length d.groups) (with_group row d) next.us = record {
          rows = s.rows;
          groups_fit = omega (arith, counted, leb-false 16 (length d.groups) room.0);
          group_names = once_row (λ g. spelt text g.name) d.groups row s.group_names (λ i is. none_found (λ g. g.name) text n.v.0 d.groups new.0 i (is ∙ ap Some spelled));
          bin_names = s.bin_names;
          others = others_group row d s.others;
          names = want_leaves text _ _ brace.us next.v next.us next.is left;
        } in
        let kept = group_bins_kept (length d.groups) (with_group row d) next.v next.us all.v all.us begun.0 counted all.is added in
        let grouped : GroupsDone all.v.0 all.us = (subst (λ x. SoFar text start x all.v.0 all.us) (sym kept.1) kept.0, omega (arith, kept.1)) in
        subst (λ x. GroupsDone x us) made.0 (subst (GroupsDone all.v.0) made.1 grouped)

    -- the groups, of which there is one at least
    pub groups_kept : (d : Draft) (f : Found) (ts : Tokens) (e : Draft × Found) (us : Tokens) → begins_group f.symbol ≡ true → many (group_turn text) (d, f) ts ≡ Ok (e, us) → SoFar text start (length d.groups) d ts → GroupsDone e.0 us
    groups_kept d f ts e us begun h s =
        rows_keep (λ f. begins_group f.symbol) (λ f. group_in text f.place) GroupsDone
        (λ x ts f us k p. (onward (length x.groups) x ts us (want_leaves text _ _ ts f us k p.0.names) p.0, p.1))
        (λ f x ts y us k p. group_kept f.place x ts y us k p.0)
        d f ts e us
        (λ x vs k. group_kept f.place d ts x vs k s)
        begun h

    others_sort : (group : ℕ) (d : Draft) → OthersSame start d → OthersSame start (with_sort_group group d)
    others_sort group d o = record { counters = o.counters; tests = o.tests; flows = o.flows; items = o.items; clauses = o.clauses; values = o.values; mentions = o.mentions; main_flow = o.main_flow }

    -- the group to sort by, which every leaf has
    pub sort_kept : (d : Draft) (ts : Tokens) (e : Draft) (us : Tokens) → sort_group_in text d ts ≡ Ok (e, us) → GroupsDone d ts → BinsKept text start e × NamesAt text us
    sort_kept d ts e us h g =
        let equals = parse_passed (expect_in (Mark mk.Equals) ts) h in
        let n = parse_passed (name_in equals.us) equals.goes in
        known n.v.0 n.v.1 (found (λ g. g.name) text d.groups n.v.0) refl n.us (want_leaves text _ _ equals.us n.v n.us n.is (expect_leaves text (Mark mk.Equals) ts equals.v equals.us equals.is g.0.names)) n.goes
      where
        sorted : (group : ℕ) → group < length d.groups → (o : Option ℕ) → first_unsorted d.bins group ≡ o → (ws : Tokens) → NamesAt text ws → sorted_by group o d ws ≡ Ok (e, us) → BinsKept text start e × NamesAt text us
        sorted group below (Some p) f ws n h = no_fault h
        sorted group below None f ws n h =
            let semicolon = parse_passed (expect_in (Mark mk.Semicolon) ws) h in
            let brace = parse_passed (expect_in (Mark mk.CloseBrace) semicolon.us) semicolon.goes in
            let s = g.0 in
            let kept : BinsKept text start (with_sort_group group d) = record {
              rows = s.rows;
              has_bin = some_bin (length d.bins) s.rows.begun;
              groups_fit = s.groups_fit;
              group_names = s.group_names;
              bin_names = s.bin_names;
              sort_group = below;
              leaf_sorted = leaf_sorted_lem d.bins group f;
              others = others_sort group d s.others;
            } in
            let made = accepted brace.goes in
            let left = expect_leaves text (Mark mk.CloseBrace) semicolon.us brace.v brace.us brace.is (expect_leaves text (Mark mk.Semicolon) ws semicolon.v semicolon.us semicolon.is n) in
            (subst (BinsKept text start) made.0 kept, subst (NamesAt text) made.1 left)
          where
            some_bin : (n : ℕ) → (n ≡ 0 → length d.groups ≡ 0) → 0 < n
            some_bin zero begun = absurd (omega (arith, begun refl, g.1))
            some_bin (suc n) begun = omega arith

        known : (word : List ℕ) (p : ℕ) (o : Option ℕ) → found (λ g. g.name) text d.groups word ≡ o → (ws : Tokens) → NamesAt text ws → sort_group_found p o d ws ≡ Ok (e, us) → BinsKept text start e × NamesAt text us
        known word p None f ws n h = no_fault h
        known word p (Some group) f ws n h = sorted group (found_below (λ g. g.name) text word d.groups group f) (first_unsorted d.bins group) refl ws n h

  -- tables that have no groups and no bins yet
  none_yet : (d : Draft) (ts : Tokens) → d.groups ≡ [] → d.bins ≡ [] → NamesAt text ts → SoFar text d (length d.groups) d ts
  none_yet d ts g b names = record {
    rows = subst (λ x. RowsKept (length x) d.bins) (sym g) (subst (RowsKept 0) (sym b) no_rows);
    groups_fit = subst (λ x. length x ≤ 16) (sym g) (omega arith);
    group_names = subst (λ x. Once (map (λ g. spelt text g.name) x)) (sym g) (λ i j x e. never_some x e);
    bin_names = subst (λ x. Once (map (λ b. spelt text b.name) x)) (sym b) (λ i j x e. never_some x e);
    others = record { counters = refl; tests = refl; flows = refl; items = refl; clauses = refl; values = refl; mentions = refl; main_flow = refl };
    names = names;
  }

-- the bins of an accepted plan keep the rules, where the names among the tokens are those of the text; so are the names
-- among the tokens left
pub bins_kept : (text : List ℕ) (d : Draft) (ts : Tokens) (e : Draft) (us : Tokens) → NamesAt text ts → d.groups ≡ [] → d.bins ≡ [] → bins_in text d ts ≡ Ok (e, us) → BinsKept text d e × NamesAt text us
unfolding bins_in
bins_kept text d ts e us names g b h =
    let begun = parse_passed (expect_in (Keyword kw.BinDefs) ts) h in
    let brace = parse_passed (expect_in (Mark mk.OpenBrace) begun.us) begun.goes in
    let next = parse_passed (symbol_in brace.us) brace.goes in
    let first = allow_passed (begins_group next.v.symbol) next.v.place _ next.goes in
    let all = then_passed (many (group_turn text) (d, next.v) next.us) first.1 in
    let sort = allow_passed (same_symbol all.v.1.symbol (Keyword kw.SortBinGroup)) all.v.1.place _ all.goes in
    let a = expect_leaves text (Keyword kw.BinDefs) ts begun.v begun.us begun.is names in
    let c = expect_leaves text (Mark mk.OpenBrace) begun.us brace.v brace.us brace.is a in
    let n = want_leaves text _ _ brace.us next.v next.us next.is c in
    let grouped = groups_kept text d d next.v next.us all.v all.us first.0 all.is (none_yet text d next.us g b n) in
    sort_kept text d all.v.0 all.us e us sort.1 grouped
