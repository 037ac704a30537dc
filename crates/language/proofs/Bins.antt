-- Bins, groups and their definitions, both ways.
use Rattle.std.proofs.Common.{◌≡◌, ℕ, zero, suc, ◌+◌, ◌<◌, Bool, true, false, cond, not, ◌||◌, eqb, ltb, leb, List, [], ◌∷◌, ◌++◌, map, length, is_some, Some, None, Ok, Option, sym, refl, ap, ◌∙◌, subst, append_assoc, append-nil, arith}
use lib.ListN.{length-map}
use Rattle.std.proofs.lemmas.List.{map-append, length_push}
use Rattle.std.proofs.lemmas.Bool.{false≢true, cond-true, cond-false, and_parts, and_left, and_right, not_from_true, eqb-true, eq-eqb, le-ltb, lt-leb}
use Rattle.std.specs.List.{flat_map, slice_get}
use Rattle.std.specs.Option.{option_map}
use Rattle.text_bytes.specs.declared.kinds.Mark.TheVariants as mk
use Rattle.keywords.specs.declared.Keyword.{Keyword as Reserved}
use Rattle.keywords.specs.declared.Keyword.TheVariants as kw
use Rattle.tokens.specs.Terminals.{Terminal, Tokens}
use Rattle.tokens.specs.Terminals as t
use Rattle.grammar.specs.declared.symbols.Found.{Found}
use Rattle.grammar.specs.declared.symbols.Symbol.{Symbol}
use Rattle.grammar.specs.declared.symbols.Symbol.TheVariants.{Keyword, Mark}
use Rattle.grammar.specs.Symbols.{same_symbol}
use Rattle.grammar.specs.Readers.{name_in, number_in, string_in, symbol_in, expect_in}
use Rattle.plan.specs.declared.rows.Bin.{Bin}
use Rattle.plan.specs.declared.rows.Group.{Group}
use Rattle.plan.specs.Drafts.{Draft, with_group, with_bin, with_sort_group}
use Rattle.plan.specs.Meaning.{PlanBin, AtOrAbove, bin_of}
use Rattle.plan.specs.Meaning as m
use Rattle.plan.specs.Rules.{Once, LeafSorted, spelt}
use Rattle.plan.proofs.Added.{the_same, nth_below}
use Rattle.plan.proofs.Readings.{nth_map, made_of}
use Rattle.plan.proofs.Spans.{never_some}
use Rattle.names.specs.Names.{found}
use Rattle.refusals.specs.declared.fault.RuleFault.TheVariants.{DeclaredBefore, WrongKind, OutOfRange, Repeated, TableFull}
use Rattle.refusals.specs.Steps.{Loaded, parse, then, allow, many}
use Rattle.refusals.proofs.Passing.{no_fault, accepted, parse_passed, then_passed, refuse_passed, allow_passed}
use Rattle.refusals.proofs.Spelled.{NamesAt, want_leaves, expect_leaves, name_at}
use Rattle.bins.specs.Bins.{has_number, is_leaf, number_taken, bin_number_in, leaf_at, parent_found, parent_in, bin_in, begins_bin, group_in, begins_group, group_turn, sorted_by, sort_group_found, sort_group_in, bins_in}
use Rattle.bins.proofs.Rows.{NumberFree}
use Rattle.bins.specs.Sorting.{of_parent, at_or_above, sort_bin_above, unsorted, unsorted_from, first_unsorted}
use Rattle.language.specs.Trees.{Word, Several, each, BinTree, GroupTree, BinsTree, PlanTree}
use Rattle.language.specs.Grammar.{option_tokens, parent_tokens, bin_tokens, group_tokens, bins_tokens}
use Rattle.language.specs.Standing.{position, declared, names_in, group_names, bins_from, bins_of, bin_names, bin_meant, meant}
use Rattle.language.specs.Obeying.{Starts, here, next, Keeps}
use Rattle.language.proofs.Rows.{keyword_at, rows_complete, block_complete, some_sound, block_sound}
use Rattle.language.proofs.Taking.{terminal, symbol_same, front, join, split, name_taken, number_taken_lem, string_taken, symbol_taken, expect_taken, found_position, declared_found, position_front, position_among, nth_front, nth_next, next_not_found}

-- what is behind a bin's keyword
abbrev pub bin_rest : BinTree → List Terminal
bin_rest b = t.name b.name ∷ t.number b.number ∷ t.mark mk.Colon ∷ t.string b.label ∷ (option_tokens parent_tokens b.parent ++ t.mark mk.Semicolon ∷ [])

abbrev pub group_rest : GroupTree → List Terminal
group_rest g = t.name g.name ∷ t.mark mk.OpenBrace ∷ (flat_map bin_tokens (each g.bins) ++ t.mark mk.CloseBrace ∷ [])

-- what was read is in the grammar

module _ (text : List ℕ) where
  number_sound : (group : ℕ) (bins : List Bin) (ts : Tokens) (n : ℕ) (us : Tokens) → bin_number_in group bins ts ≡ Ok (n, us) → (p : ℕ) × (ts ≡ t.token (t.number n) p us)
  number_sound group bins ts n us h =
      let m = parse_passed (number_in ts) h in
      let fits = refuse_passed (ltb 65535 m.v.value) (OutOfRange m.v.place) _ m.goes in
      let free = refuse_passed (number_taken group m.v.value bins) (Repeated m.v.place) _ fits.1 in
      let e = accepted free.1 in
      (m.v.place, number_taken_lem ts m.v m.us m.is ∙ (ap (λ x. t.token (t.number x) m.v.place m.us) e.0 ∙ ap (t.token (t.number n) m.v.place) e.1))

  -- a parent as the tree has it, and the number that it stands for whatever is declared behind
  record ParentRead (bins : List Bin) (ts : Tokens) (parent : Option ℕ) (us : Tokens) : Type 0 where
    tree : Option Word
    starts : Starts us ts (option_tokens parent_tokens tree ++ t.mark mk.Semicolon ∷ [])
    stands : (more : List Word) → parent ≡ option_map (λ q. position q (names_in text (λ b. b.name) bins ++ more)) tree

  parent_sound : (bins : List Bin) (ts : Tokens) (parent : Option ℕ) (us : Tokens) → parent_in text bins ts ≡ Ok (parent, us) → ParentRead bins ts parent us
  parent_sound bins ts parent us h =
      let next = parse_passed (symbol_in ts) h in
      by next.v next.us (same_symbol next.v.symbol (Mark mk.Semicolon)) refl (symbol_taken ts next.v next.us next.is) next.goes
    where
      known : (p q : ℕ) (word : List ℕ) (o : Option ℕ) (vs : Tokens) → found (λ b. b.name) text bins word ≡ o → ts ≡ t.token (t.mark mk.Comma) p (t.token (t.name word) q vs) → parent_found bins q o vs ≡ Ok (parent, us) → ParentRead bins ts parent us
      known p q word None vs f e h = no_fault h
      known p q word (Some i) vs f e h =
          let inner = refuse_passed (leaf_at bins i) (WrongKind q) _ h in
          let end = parse_passed (expect_in (Mark mk.Semicolon) vs) inner.1 in
          let r = accepted end.goes in
          let last = expect_taken (Mark mk.Semicolon) vs end.v end.us end.is in
          let is = found_position (λ (b : Bin). b.name) text word bins i f in
          record {
            tree = Some word;
            starts = front e (Starts.next (front last.1 (subst (λ x. Starts us x []) (sym r.1) here)));
            stands = λ more. sym r.0 ∙ ap Some (sym ((position_front word (names_in text (λ b. b.name) bins) more is.0).1 ∙ is.1));
          }

      by : (f : Found) (vs : Tokens) (b : Bool) → same_symbol f.symbol (Mark mk.Semicolon) ≡ b → ts ≡ t.token (terminal f.symbol) f.place vs → cond b (Ok (None, vs)) (allow (same_symbol f.symbol (Mark mk.Comma)) f.place (parse (name_in vs) λ n ts. parent_found bins n.1 (found (λ b. b.name) text bins n.0) ts)) ≡ Ok (parent, us) → ParentRead bins ts parent us
      by f vs true same e h =
          let r = accepted h in
          let semicolon = e ∙ ap (λ x. t.token (terminal x) f.place vs) (symbol_same f.symbol (Mark mk.Semicolon) same) in
          record { tree = None; starts = front semicolon (subst (λ x. Starts us x []) (sym r.1) here); stands = λ more. sym r.0 }
      by f vs false same e h =
          let comma = allow_passed (same_symbol f.symbol (Mark mk.Comma)) f.place _ h in
          let name = parse_passed (name_in vs) comma.1 in
          let first = e ∙ ap (λ x. t.token (terminal x) f.place vs) (symbol_same f.symbol (Mark mk.Comma) comma.0) in
          known f.place name.v.1 name.v.0 (found (λ b. b.name) text bins name.v.0) name.us refl (first ∙ ap (t.token (t.mark mk.Comma) f.place) (name_taken vs name.v name.us name.is)) name.goes

  -- a bin as the tree has it, and the row that it adds
  record BinRead (group : ℕ) (leaf : Bool) (d : Draft) (ts : Tokens) (e : Draft) (us : Tokens) : Type 0 where
    tree : BinTree
    leaf_is : tree.leaf ≡ leaf
    starts : Starts us ts (bin_rest tree)
    row : Bin
    is : with_bin row d ≡ e
    named : spelt text row.name ≡ tree.name
    stands : (more : List Word) → bin_of row ≡ bin_meant (names_in text (λ b. b.name) d.bins ++ more) (group, tree)

  bin_sound : (group : ℕ) (leaf : Bool) (place : ℕ) (d : Draft) (ts : Tokens) (e : Draft) (us : Tokens) → bin_in text group leaf place d ts ≡ Ok (e, us) → NamesAt text ts → BinRead group leaf d ts e us
  bin_sound group leaf place d ts e us h names =
      let room = refuse_passed (leb 128 (length d.bins)) (TableFull place) _ h in
      let n = parse_passed (name_in ts) room.1 in
      let new = refuse_passed (is_some (found (λ b. b.name) text d.bins n.v.0)) (DeclaredBefore n.v.1) _ n.goes in
      let number = then_passed (bin_number_in group d.bins n.us) new.1 in
      let colon = parse_passed (expect_in (Mark mk.Colon) number.us) number.goes in
      let label = parse_passed (string_in colon.us) colon.goes in
      let parent = then_passed (parent_in text d.bins label.us) label.goes in
      let made = accepted parent.goes in
      let above = parent_sound d.bins label.us parent.v parent.us parent.is in
      let row : Bin = record { name = record { place = n.v.1; len = length n.v.0 }; group = group; leaf = leaf; number = number.v; parent = parent.v } in
      record {
        tree = record { leaf = leaf; name = n.v.0; number = number.v; label = label.v.0; parent = above.tree };
        leaf_is = refl;
        starts =
            front (name_taken ts n.v n.us n.is) (front (number_sound group d.bins n.us number.v number.us number.is).1 (front (expect_taken (Mark mk.Colon) number.us colon.v colon.us colon.is).1 (front (string_taken colon.us label.v label.us label.is) (subst (λ x. Starts x label.us (option_tokens parent_tokens above.tree ++ t.mark mk.Semicolon ∷ [])) made.1 above.starts))));
        row = row;
        is = made.0;
        named = name_at text ts n.v n.us n.is names;
        stands = λ more. λ i. record { group = group; leaf = leaf; number = number.v; parent = above.stands more i };
      }

-- the rows of bins that stand for these bins, each with the number of its group, and the groups
pub record BinsSoFar (text : List ℕ) (groups : List Word) (bins : List (ℕ × BinTree)) (d : Draft) : Type 0 where
  pub group_names : names_in text (λ g. g.name) d.groups ≡ groups
  pub bin_names : names_in text (λ b. b.name) d.bins ≡ map (λ b. b.1.name) bins
  pub rows : (more : List Word) → map bin_of d.bins ≡ map (bin_meant (map (λ b. b.1.name) bins ++ more)) bins

module _ (text : List ℕ) where
  -- a bin more
  bins_added : (groups : List Word) (bins : List (ℕ × BinTree)) (d : Draft) (group : ℕ) (b : BinTree) (row : Bin) → BinsSoFar text groups bins d → spelt text row.name ≡ b.name → ((more : List Word) → bin_of row ≡ bin_meant (names_in text (λ b. b.name) d.bins ++ more) (group, b)) → BinsSoFar text groups (bins ++ (group, b) ∷ []) (with_bin row d)
  bins_added groups bins d group b row s named stands = record {
    group_names = s.group_names;
    bin_names = map-append (λ r. spelt text r.name) d.bins (row ∷ []) ∙ (ap (λ l. l ++ spelt text row.name ∷ []) s.bin_names ∙ (ap (λ w. map (λ b. b.1.name) bins ++ w ∷ []) named ∙ sym (map-append (λ b. b.1.name) bins ((group, b) ∷ []))));
    rows = λ more.
        let names = map (λ (b : ℕ × BinTree). b.1.name) bins in
        let all : names ++ (b.name ∷ more) ≡ map (λ (b : ℕ × BinTree). b.1.name) (bins ++ (group, b) ∷ []) ++ more = sym (append_assoc names (b.name ∷ []) more) ∙ ap (λ l. l ++ more) (sym (map-append (λ (b : ℕ × BinTree). b.1.name) bins ((group, b) ∷ []))) in
        map-append bin_of d.bins (row ∷ [])
        ∙ (ap (λ l. l ++ bin_of row ∷ []) (s.rows (b.name ∷ more))
        ∙ (ap (λ r. map (bin_meant (names ++ (b.name ∷ more))) bins ++ r ∷ []) (stands (b.name ∷ more) ∙ ap (λ l. bin_meant (l ++ (b.name ∷ more)) (group, b)) s.bin_names)
        ∙ (sym (map-append (bin_meant (names ++ (b.name ∷ more))) bins ((group, b) ∷ []))
        ∙ ap (λ l. map (bin_meant l) (bins ++ (group, b) ∷ [])) all)));
  }

abbrev bin_head : BinTree → Reserved
bin_head b = cond b.leaf kw.LeafBin kw.Bin

-- a symbol that begins a bin is the keyword of a leaf bin or the other
begun_by : (s : Symbol) → begins_bin s ≡ true → s ≡ Keyword (cond (same_symbol s (Keyword kw.LeafBin)) kw.LeafBin kw.Bin)
begun_by s h = by (same_symbol s (Keyword kw.Bin)) (same_symbol s (Keyword kw.LeafBin)) refl refl h
  where
    by : (a b : Bool) → same_symbol s (Keyword kw.Bin) ≡ a → same_symbol s (Keyword kw.LeafBin) ≡ b → (a || b) ≡ true → s ≡ Keyword (cond b kw.LeafBin kw.Bin)
    by a true e f h = symbol_same s (Keyword kw.LeafBin) f
    by true false e f h = symbol_same s (Keyword kw.Bin) e
    by false false e f h = absurd (false≢true h)

-- rows of one group
module _ (text : List ℕ) (group : ℕ) where
  abbrev bin_row : Found → Draft → Tokens → Loaded Draft
  bin_row f = bin_in text group (same_symbol f.symbol (Keyword kw.LeafBin)) f.place

  module _ (groups : List Word) (before : List (ℕ × BinTree)) where
    abbrev InGroup : Draft → List BinTree → Type 0
    InGroup d xs = BinsSoFar text groups (before ++ map (λ b. (group, b)) xs) d

    row_sound : (f : Found) (d : Draft) (ts : Tokens) (e : Draft) (us : Tokens) (done : List BinTree) → begins_bin f.symbol ≡ true → bin_row f d ts ≡ Ok (e, us) → InGroup d done → NamesAt text ts → (x : BinTree) × (f.symbol ≡ Keyword (bin_head x)) × Starts us ts (bin_rest x) × InGroup e (done ++ x ∷ [])
    row_sound f d ts e us done b h s names =
        let r = bin_sound text group (same_symbol f.symbol (Keyword kw.LeafBin)) f.place d ts e us h names in
        let more = bins_added text groups (before ++ map (λ b. (group, b)) done) d group r.tree r.row s r.named r.stands in
        let list : (before ++ map (λ b. (group, b)) done) ++ (group, r.tree) ∷ [] ≡ before ++ map (λ b. (group, b)) (done ++ r.tree ∷ []) = append_assoc before (map (λ b. (group, b)) done) ((group, r.tree) ∷ []) ∙ ap (λ l. before ++ l) (sym (map-append (λ (b : BinTree). (group, b)) done (r.tree ∷ []))) in (
          r.tree,
          begun_by f.symbol b ∙ ap (λ l. Keyword (cond l kw.LeafBin kw.Bin)) (sym r.leaf_is),
          r.starts,
          subst (λ l. BinsSoFar text groups l e) list (subst (BinsSoFar text groups ((before ++ map (λ b. (group, b)) done) ++ (group, r.tree) ∷ [])) r.is more),
        )

-- a group as the tree has it, and the rows that it adds
record GroupRead (text : List ℕ) (groups : List Word) (bins : List (ℕ × BinTree)) (d : Draft) (ts : Tokens) (e : Draft) (us : Tokens) : Type 0 where
  tree : GroupTree
  starts : Starts us ts (group_rest tree)
  adds : BinsSoFar text (groups ++ tree.name ∷ []) (bins ++ map (λ b. (length d.groups, b)) (each tree.bins)) e

names_on : (text : List ℕ) (x : Terminal) (p : ℕ) (ts : Tokens) → NamesAt text (t.token x p ts) → NamesAt text ts
names_on text x p ts n = n.1

-- a group more, with no bin yet
group_added : (text : List ℕ) (groups : List Word) (bins : List (ℕ × BinTree)) (d : Draft) (name : Word) (row : Group) → BinsSoFar text groups bins d → spelt text row.name ≡ name → BinsSoFar text (groups ++ name ∷ []) bins (with_group row d)
group_added text groups bins d name row s named = record {
  group_names = map-append (λ r. spelt text r.name) d.groups (row ∷ []) ∙ (ap (λ l. l ++ spelt text row.name ∷ []) s.group_names ∙ ap (λ w. groups ++ w ∷ []) named);
  bin_names = s.bin_names;
  rows = s.rows;
}

group_sound : (text : List ℕ) (groups : List Word) (bins : List (ℕ × BinTree)) (place : ℕ) (d : Draft) (ts : Tokens) (e : Draft) (us : Tokens) → group_in text place d ts ≡ Ok (e, us) → BinsSoFar text groups bins d → NamesAt text ts → GroupRead text groups bins d ts e us
group_sound text groups bins place d ts e us h s names =
    let room = refuse_passed (leb 16 (length d.groups)) (TableFull place) _ h in
    let n = parse_passed (name_in ts) room.1 in
    let new = refuse_passed (is_some (found (λ g. g.name) text d.groups n.v.0)) (DeclaredBefore n.v.1) _ n.goes in
    let row : Group = record { name = record { place = n.v.1; len = length n.v.0 } } in
    let own = groups ++ n.v.0 ∷ [] in
    let added = group_added text groups bins d n.v.0 row s (name_at text ts n.v n.us n.is names) in
    let block = block_sound (λ f. begins_bin f.symbol) (bin_row text (length d.groups)) bin_head bin_rest (NamesAt text) (names_on text) (InGroup text (length d.groups) own bins) (row_sound text (length d.groups) own bins)
    (with_group row d) n.us e us new.1 (subst (λ l. BinsSoFar text own l (with_group row d)) (sym (append-nil bins)) added) (want_leaves text _ _ ts n.v n.us n.is names) in
    record { tree = record { name = n.v.0; bins = block.0 }; starts = front (name_taken ts n.v n.us n.is) block.1; adds = block.2 }

-- groups one after the other

bins_from_append : (g : ℕ) (xs ys : List GroupTree) → bins_from g (xs ++ ys) ≡ bins_from g xs ++ bins_from (g + length xs) ys
bins_from_append g [] ys = let e : g ≡ g + 0 = omega arith in ap (λ n. bins_from n ys) e
bins_from_append g (x ∷ xs) ys =
    let e : suc g + length xs ≡ g + suc (length xs) = omega arith in
    let own = map (λ (b : BinTree). (g, b)) (each x.bins) in
    ap (λ l. own ++ l) (bins_from_append (suc g) xs ys ∙ ap (λ n. bins_from (suc g) xs ++ bins_from n ys) e)
    ∙ sym (append_assoc own (bins_from (suc g) xs) (bins_from (g + suc (length xs)) ys))

bins_from_push : (xs : List GroupTree) (x : GroupTree) → bins_from 0 (xs ++ x ∷ []) ≡ bins_from 0 xs ++ map (λ b. (length xs, b)) (each x.bins)
bins_from_push xs x =
    let e : 0 + length xs ≡ length xs = omega arith in
    bins_from_append 0 xs (x ∷ []) ∙ (ap (λ n. bins_from 0 xs ++ (map (λ (b : BinTree). (n, b)) (each x.bins) ++ [])) e ∙ ap (λ l. bins_from 0 xs ++ l) (append-nil (map (λ b. (length xs, b)) (each x.bins))))

abbrev group_row : List ℕ → Found → Draft → Tokens → Loaded Draft
group_row text f = group_in text f.place

abbrev GroupsDone : List ℕ → Draft → List GroupTree → Type 0
GroupsDone text d xs = BinsSoFar text (map (λ g. g.name) xs) (bins_from 0 xs) d

groups_counted : (text : List ℕ) (names : List Word) (bins : List (ℕ × BinTree)) (d : Draft) → BinsSoFar text names bins d → length d.groups ≡ length names
groups_counted text names bins d s = sym (length-map d.groups (λ g. spelt text g.name)) ∙ ap length s.group_names

group_row_sound : (text : List ℕ) (f : Found) (d : Draft) (ts : Tokens) (e : Draft) (us : Tokens) (done : List GroupTree) → begins_group f.symbol ≡ true → group_row text f d ts ≡ Ok (e, us) → GroupsDone text d done → NamesAt text ts → (x : GroupTree) × (f.symbol ≡ Keyword kw.BinGroup) × Starts us ts (group_rest x) × GroupsDone text e (done ++ x ∷ [])
group_row_sound text f d ts e us done b h s names =
    let r = group_sound text (map (λ g. g.name) done) (bins_from 0 done) f.place d ts e us h s names in
    let count : length d.groups ≡ length done = groups_counted text (map (λ g. g.name) done) (bins_from 0 done) d s ∙ length-map done (λ g. g.name) in
    let bins : bins_from 0 done ++ map (λ b. (length d.groups, b)) (each r.tree.bins) ≡ bins_from 0 (done ++ r.tree ∷ []) = ap (λ n. bins_from 0 done ++ map (λ (b : BinTree). (n, b)) (each r.tree.bins)) count ∙ sym (bins_from_push done r.tree) in
    let names : map (λ (g : GroupTree). g.name) done ++ r.tree.name ∷ [] ≡ map (λ (g : GroupTree). g.name) (done ++ r.tree ∷ []) = sym (map-append (λ (g : GroupTree). g.name) done (r.tree ∷ [])) in
    (r.tree, symbol_same f.symbol (Keyword kw.BinGroup) b, r.starts, subst (λ l. BinsSoFar text l (bins_from 0 (done ++ r.tree ∷ [])) e) names (subst (λ l. BinsSoFar text (map (λ (g : GroupTree). g.name) done ++ r.tree.name ∷ []) l e) bins r.adds))

-- the tables of groups and bins are those of the tree
pub record BinsStand (text : List ℕ) (b : BinsTree) (d : Draft) : Type 0 where
  pub groups_named : names_in text (λ g. g.name) d.groups ≡ group_names b
  pub bins_named : names_in text (λ x. x.name) d.bins ≡ bin_names b
  pub rows : map bin_of d.bins ≡ map (bin_meant (bin_names b)) (bins_of b)
  pub sort_group : d.sort_group ≡ position b.sort_group (group_names b)

-- what was read of bins is in the grammar, and its tables are those of the tree
pub record BinsRead (text : List ℕ) (ts : Tokens) (e : Draft) (us : Tokens) : Type 0 where
  pub tree : BinsTree
  pub starts : Starts us ts (bins_tokens tree)
  pub stands : BinsStand text tree e
  pub sort_declared : declared tree.sort_group (group_names tree) ≡ true

record SortRead (text : List ℕ) (d : Draft) (ts : Tokens) (e : Draft) (us : Tokens) : Type 0 where
  name : Word
  starts : Starts us ts (t.mark mk.Equals ∷ t.name name ∷ t.mark mk.Semicolon ∷ t.mark mk.CloseBrace ∷ [])
  is : with_sort_group (position name (names_in text (λ g. g.name) d.groups)) d ≡ e
  known : declared name (names_in text (λ g. g.name) d.groups) ≡ true

sort_sound : (text : List ℕ) (d : Draft) (ts : Tokens) (e : Draft) (us : Tokens) → sort_group_in text d ts ≡ Ok (e, us) → SortRead text d ts e us
sort_sound text d ts e us h =
    let equals = parse_passed (expect_in (Mark mk.Equals) ts) h in
    let n = parse_passed (name_in equals.us) equals.goes in
    let first = expect_taken (Mark mk.Equals) ts equals.v equals.us equals.is in
    known n.v.0 n.v.1 (found (λ g. g.name) text d.groups n.v.0) refl n.us (front first.1 (front (name_taken equals.us n.v n.us n.is) here)) n.goes
  where
    sorted : (name : Word) (group : ℕ) → found (λ g. g.name) text d.groups name ≡ Some group → (o : Option ℕ) (ws : Tokens) → Starts ws ts (t.mark mk.Equals ∷ t.name name ∷ []) → sorted_by group o d ws ≡ Ok (e, us) → SortRead text d ts e us
    sorted name group f (Some p) ws st h = no_fault h
    sorted name group f None ws st h =
        let semicolon = parse_passed (expect_in (Mark mk.Semicolon) ws) h in
        let brace = parse_passed (expect_in (Mark mk.CloseBrace) semicolon.us) semicolon.goes in
        let made = accepted brace.goes in
        let is = found_position (λ (g : Group). g.name) text name d.groups group f in
        let a = expect_taken (Mark mk.Semicolon) ws semicolon.v semicolon.us semicolon.is in
        let b = expect_taken (Mark mk.CloseBrace) semicolon.us brace.v brace.us brace.is in
        record {
          name = name;
          starts = join st (front a.1 (front b.1 (subst (λ x. Starts us x []) (sym made.1) here)));
          is = ap (λ n. with_sort_group n d) is.1 ∙ made.0;
          known = is.0;
        }

    known : (name : Word) (p : ℕ) (o : Option ℕ) → found (λ g. g.name) text d.groups name ≡ o → (ws : Tokens) → Starts ws ts (t.mark mk.Equals ∷ t.name name ∷ []) → sort_group_found p o d ws ≡ Ok (e, us) → SortRead text d ts e us
    known name p None f ws st h = no_fault h
    known name p (Some group) f ws st h = sorted name group f (first_unsorted d.bins group) ws st h

-- the groups and the group to sort by, as the tables have them
bins_made : (text : List ℕ) (groups : Several GroupTree) (d : Draft) (name : Word) (e : Draft) → GroupsDone text d (each groups) → with_sort_group (position name (names_in text (λ g. g.name) d.groups)) d ≡ e → BinsStand text (record { groups = groups; sort_group = name }) e
bins_made text groups d name e s is = subst (BinsStand text (record { groups = groups; sort_group = name })) is (record {
  groups_named = s.group_names;
  bins_named = s.bin_names;
  rows = s.rows [] ∙ ap (λ l. map (bin_meant l) (bins_from 0 (each groups))) (append-nil (map (λ b. b.1.name) (bins_from 0 (each groups))));
  sort_group = ap (position name) s.group_names;
})

pub bins_sound : (text : List ℕ) (d : Draft) (ts : Tokens) (e : Draft) (us : Tokens) → d.groups ≡ [] → d.bins ≡ [] → NamesAt text ts → bins_in text d ts ≡ Ok (e, us) → BinsRead text ts e us
unfolding bins_in
bins_sound text d ts e us g b names h =
    let begun = parse_passed (expect_in (Keyword kw.BinDefs) ts) h in
    let brace = parse_passed (expect_in (Mark mk.OpenBrace) begun.us) begun.goes in
    let key = expect_taken (Keyword kw.BinDefs) ts begun.v begun.us begun.is in
    let opened = expect_taken (Mark mk.OpenBrace) begun.us brace.v brace.us brace.is in
    let left = expect_leaves text (Mark mk.OpenBrace) begun.us brace.v brace.us brace.is (expect_leaves text (Keyword kw.BinDefs) ts begun.v begun.us begun.is names) in
    inner brace.us (front key.1 (front opened.1 here)) left brace.goes
  where
    none : GroupsDone text d []
    none = record { group_names = ap (names_in text (λ (g : Group). g.name)) g; bin_names = ap (names_in text (λ (b : Bin). b.name)) b; rows = λ more. ap (map bin_of) b }

    inner : (ws : Tokens) → Starts ws ts (t.keyword kw.BinDefs ∷ t.mark mk.OpenBrace ∷ []) → NamesAt text ws → (parse (symbol_in ws) λ next ts. allow (begins_group next.symbol) next.place (then (many (group_turn text) (d, next) ts) λ s ts. allow (same_symbol s.1.symbol (Keyword kw.SortBinGroup)) s.1.place (sort_group_in text s.0 ts))) ≡ Ok (e, us) → BinsRead text ts e us
    inner ws st left h =
        let next = parse_passed (symbol_in ws) h in
        let first = allow_passed (begins_group next.v.symbol) next.v.place _ next.goes in
        let all = then_passed (many (group_turn text) (d, next.v) next.us) first.1 in
        let sort = allow_passed (same_symbol all.v.1.symbol (Keyword kw.SortBinGroup)) all.v.1.place _ all.goes in
        let r = some_sound (λ f. begins_group f.symbol) (group_row text) (λ (x : GroupTree). kw.BinGroup) group_rest (NamesAt text) (names_on text) (GroupsDone text)
        (group_row_sound text)
        d next.v ws next.us all.v.0 all.v.1 all.us [] first.0 next.is none left all.is in
        let last = symbol_taken r.vs all.v.1 all.us r.last ∙ ap (λ x. t.token (terminal x) all.v.1.place all.us) (symbol_same all.v.1.symbol (Keyword kw.SortBinGroup) sort.0) in
        let by = sort_sound text all.v.0 all.us e us sort.1 in
        record {
          tree = record { groups = r.rows; sort_group = by.name };
          starts = join st (join r.starts (front last by.starts));
          stands = bins_made text r.rows all.v.0 by.name e r.holds by.is;
          sort_declared = ap (declared by.name) (sym r.holds.group_names) ∙ by.known;
        }

-- what the grammar has and the rules allow is read

-- a parent that may stand here, and its number
abbrev ParentAllowed : List ℕ → List Bin → Option Word → Option ℕ → Type 0
ParentAllowed text bins None o = o ≡ None
ParentAllowed text bins (Some q) o = (i : ℕ) × (found (λ b. b.name) text bins q ≡ Some i) × (leaf_at bins i ≡ false) × (o ≡ Some i)

-- a bin that may stand here
record BinAllowed (text : List ℕ) (group : ℕ) (d : Draft) (x : BinTree) (parent : Option ℕ) : Type 0 where
  room : leb 128 (length d.bins) ≡ false
  new : is_some (found (λ b. b.name) text d.bins x.name) ≡ false
  fits : ltb 65535 x.number ≡ false
  free : number_taken group x.number d.bins ≡ false
  above : ParentAllowed text d.bins x.parent parent

parent_complete : (text : List ℕ) (bins : List Bin) (tree : Option Word) (o : Option ℕ) (ts us : Tokens) → ParentAllowed text bins tree o → Starts us ts (option_tokens parent_tokens tree ++ t.mark mk.Semicolon ∷ []) → parent_in text bins ts ≡ Ok (o, us)
parent_complete text bins None o ts us a (next here) = ap (λ x. Ok (x, us)) (sym a)
parent_complete text bins (Some q) o ts us a (next (next {p = p} (next {p = r} here))) = ap (λ x. parent_found bins p x (t.token (t.mark mk.Semicolon) r us)) a.1 ∙ (cond-false (leaf_at bins a.0) _ _ a.2 ∙ ap (λ x. Ok (x, us)) (sym a.3))

bin_complete : (text : List ℕ) (group : ℕ) (leaf : Bool) (place : ℕ) (d : Draft) (x : BinTree) (parent : Option ℕ) (ts us : Tokens) → BinAllowed text group d x parent → NamesAt text ts → Starts us ts (bin_rest x) → (row : Bin) × (bin_in text group leaf place d ts ≡ Ok (with_bin row d, us)) × (spelt text row.name ≡ x.name) × (bin_of row ≡ record { group = group; leaf = leaf; number = x.number; parent = parent })
bin_complete text group leaf place d x parent ts us a names (next {p = p} (next {p = q} (next (next {ts = vs} st)))) =
    let above = parent_complete text d.bins x.parent parent vs us a.above st in (
      record { name = record { place = p; len = length x.name }; group = group; leaf = leaf; number = x.number; parent = parent },
      rw (a.room, a.new, a.fits, a.free, above),
      names.0,
      refl,
    )

free_number : (group n : ℕ) (bins : List Bin) → NumberFree group n bins → number_taken group n bins ≡ false
free_number group n [] h = refl
free_number group n (b ∷ bins) h = by (has_number group n b) refl (free_number group n bins (λ i r at. h (suc i) r at))
  where
    by : (x : Bool) → has_number group n b ≡ x → number_taken group n bins ≡ false → cond x true (number_taken group n bins) ≡ false
    by true e rec = let both = and_parts (eqb b.group group) (eqb b.number n) e in absurd (h 0 b refl (eqb-true b.group group both.0) (eqb-true b.number n both.1))
    by false e rec = rec

-- the bins of a plan, and what they mean

abbrev every : PlanTree → List (ℕ × BinTree)
every f = bins_of f.bins

abbrev means : PlanTree → ℕ × BinTree → PlanBin
means f = bin_meant (bin_names f.bins)

module _ (text : List ℕ) (f : PlanTree) (k : Keeps f) where
  -- the tables hold the first bins of the plan, and these are still to come
  record ToCome (groups : List Word) (d : Draft) (more : List (ℕ × BinTree)) : Type 0 where
    done : List (ℕ × BinTree)
    groups_named : names_in text (λ g. g.name) d.groups ≡ groups
    bins_named : names_in text (λ b. b.name) d.bins ≡ map (λ b. b.1.name) done
    rows : map bin_of d.bins ≡ map (means f) done
    whole : done ++ more ≡ every f

  module _ (groups : List Word) (d : Draft) (g : ℕ) (x : BinTree) (more : List (ℕ × BinTree)) (s : ToCome groups d ((g, x) ∷ more)) where
    cut : map (means f) (every f) ≡ map bin_of d.bins ++ (means f (g, x) ∷ map (means f) more)
    cut = ap (map (means f)) (sym s.whole) ∙ (map-append (means f) s.done ((g, x) ∷ more) ∙ ap (λ l. l ++ (means f (g, x) ∷ map (means f) more)) (sym s.rows))

    names_cut : bin_names f.bins ≡ names_in text (λ b. b.name) d.bins ++ (x.name ∷ map (λ b. b.1.name) more)
    names_cut = ap (map (λ (b : ℕ × BinTree). b.1.name)) (sym s.whole) ∙ (map-append (λ (b : ℕ × BinTree). b.1.name) s.done ((g, x) ∷ more) ∙ ap (λ l. l ++ (x.name ∷ map (λ (b : ℕ × BinTree). b.1.name) more)) (sym s.bins_named))

    -- this one is the next
    at : slice_get (map (means f) (every f)) (length d.bins) ≡ Some (means f (g, x))
    at = ap (slice_get (map (means f) (every f))) (sym (length-map d.bins bin_of)) ∙ (ap (λ l. slice_get l (length (map bin_of d.bins))) cut ∙ nth_next (map bin_of d.bins) (means f (g, x)) (map (means f) more))

    -- and those in the tables are before it
    earlier : (j : ℕ) (r : Bin) → slice_get d.bins j ≡ Some r → slice_get (map (means f) (every f)) j ≡ Some (bin_of r)
    earlier j r e = ap (λ l. slice_get l j) cut ∙ nth_front (map bin_of d.bins) (means f (g, x) ∷ map (means f) more) j (bin_of r) (sym (nth_map bin_of d.bins j) ∙ ap (option_map bin_of) e)

    room : length d.bins < 128
    room = let few = k.lawful.limits.bins in omega (arith, few, nth_below (map (means f) (every f)) (length d.bins) (means f (g, x)) at)

    free : NumberFree g x.number d.bins
    free j r e same number =
        let is = k.lawful.bin_number_once j (length d.bins) (bin_of r) (means f (g, x)) (earlier j r e) at same number in
        omega (arith, is, nth_below d.bins j r e)

    new : is_some (found (λ b. b.name) text d.bins x.name) ≡ false
    new = next_not_found (λ (b : Bin). b.name) text d.bins x.name (map (λ b. b.1.name) more) (subst Once names_cut k.bins_once)

    above : (tree : Option Word) → x.parent ≡ tree → ParentAllowed text d.bins tree (option_map (λ q. position q (bin_names f.bins)) tree)
    above None e = refl
    above (Some q) e =
        let p = position q (bin_names f.bins) in
        let has : (means f (g, x)).parent ≡ Some p = ap (option_map (λ q. position q (bin_names f.bins))) e in
        let less : p < length d.bins = k.lawful.parent_earlier (length d.bins) p (means f (g, x)) at has in
        let own = names_in text (λ (b : Bin). b.name) d.bins in
        let counted : length own ≡ length d.bins = length-map d.bins (λ b. spelt text b.name) in
        let same : p ≡ position q (own ++ (x.name ∷ map (λ b. b.1.name) more)) = ap (position q) names_cut in
        let among = position_among q own (x.name ∷ map (λ b. b.1.name) more) (omega arith) in
        let is : position q own ≡ p = among.1 ∙ sym same in
        (p, declared_found (λ (b : Bin). b.name) text q d.bins among.0 ∙ ap Some is, by (slice_get d.bins p) refl has, refl)
      where
        by : (o : Option Bin) → slice_get d.bins (position q (bin_names f.bins)) ≡ o → (means f (g, x)).parent ≡ Some (position q (bin_names f.bins)) → is_leaf o ≡ false
        by None e has = refl
        by (Some r) e has = k.lawful.parent_no_leaf (length d.bins) (position q (bin_names f.bins)) (means f (g, x)) (bin_of r) at has (earlier (position q (bin_names f.bins)) r e)

    allowed : BinAllowed text g d x (option_map (λ q. position q (bin_names f.bins)) x.parent)
    allowed = record {
      room = lt-leb 128 (length d.bins) room;
      new = new;
      fits = le-ltb 65535 x.number (k.lawful.bin_number_fits (length d.bins) (means f (g, x)) at);
      free = free_number g x.number d.bins free;
      above = above x.parent refl;
    }

leaf_again : (b : Bool) → same_symbol (Keyword (cond b kw.LeafBin kw.Bin)) (Keyword kw.LeafBin) ≡ b
leaf_again true = refl
leaf_again false = refl

bin_begins : (b : Bool) → begins_bin (Keyword (cond b kw.LeafBin kw.Bin)) ≡ true
bin_begins true = refl
bin_begins false = refl

module _ (text : List ℕ) (f : PlanTree) (k : Keeps f) where
  bin_step : (groups : List Word) (g : ℕ) (later : List (ℕ × BinTree)) (d : Draft) (x : BinTree) (xs : List BinTree) (p : ℕ) (ts us : Tokens) → ToCome text f k groups d (map (λ b. (g, b)) (x ∷ xs) ++ later) → NamesAt text ts → Starts us ts (bin_rest x) → (r : Draft) × (bin_row text g (keyword_at (bin_head x) p) d ts ≡ Ok (r, us)) × ToCome text f k groups r (map (λ b. (g, b)) xs ++ later)
  bin_step groups g later d x xs p ts us s names st =
      let more = map (λ (b : BinTree). (g, b)) xs ++ later in
      let made = bin_complete text g (same_symbol (Keyword (bin_head x)) (Keyword kw.LeafBin)) p d x (option_map (λ q. position q (bin_names f.bins)) x.parent) ts us (allowed text f k groups d g x more s) names st in
      let row = made.0 in
      let means_so : bin_of row ≡ means f (g, x) = made.3 ∙ ap (λ (l : Bool). record { group = g; leaf = l; number = x.number; parent = option_map (λ q. position q (bin_names f.bins)) x.parent }) (leaf_again x.leaf) in
      let next : ToCome text f k groups (with_bin row d) more = record {
        done = s.done ++ (g, x) ∷ [];
        groups_named = s.groups_named;
        bins_named = map-append (λ (r : Bin). spelt text r.name) d.bins (row ∷ []) ∙ (ap (λ l. l ++ spelt text row.name ∷ []) s.bins_named ∙ (ap (λ w. map (λ (b : ℕ × BinTree). b.1.name) s.done ++ w ∷ []) made.2 ∙ sym (map-append (λ (b : ℕ × BinTree). b.1.name) s.done ((g, x) ∷ []))));
        rows = map-append bin_of d.bins (row ∷ []) ∙ (ap (λ l. l ++ bin_of row ∷ []) s.rows ∙ (ap (λ w. map (means f) s.done ++ w ∷ []) means_so ∙ sym (map-append (means f) s.done ((g, x) ∷ []))));
        whole = append_assoc s.done ((g, x) ∷ []) more ∙ s.whole;
      } in
      (with_bin row d, made.1, next)

-- leaf bins that the rules sort are found sorted

module _ (bins : List Bin) (group : ℕ) where
  all_sorted : (n : ℕ) (more : List Bin) → ((j : ℕ) (b : Bin) → slice_get more j ≡ Some b → unsorted bins group (n + j) b ≡ false) → unsorted_from n bins group more ≡ None
  all_sorted n [] h = refl
  all_sorted n (b ∷ more) h =
      let e : n + 0 ≡ n = omega arith in
      cond-false (unsorted bins group n b) _ _ (ap (λ m. unsorted bins group m b) (sym e) ∙ h 0 b refl) ∙ all_sorted (n + 1) more (λ j r at. let e : n + 1 + j ≡ n + suc j = omega arith in ap (λ m. unsorted bins group m r) e ∙ h (suc j) r at)

  module _ (earlier : (i p : ℕ) (b : PlanBin) → slice_get (map bin_of bins) i ≡ Some b → b.parent ≡ Some p → p < i) where
    climbs : (i j : ℕ) → AtOrAbove (map bin_of bins) i j → (b : PlanBin) → slice_get (map bin_of bins) j ≡ Some b → b.group ≡ group → (steps : ℕ) → i < steps → sort_bin_above bins group steps i ≡ true
    climbs i j (AtOrAbove.here _) b at sorts zero less = absurd (omega arith)
    climbs i j (AtOrAbove.here _) b at sorts (suc steps) less =
        let own_row = made_of bin_of bins i b at in
        let same : eqb own_row.row.group group ≡ true = eq-eqb own_row.row.group group (ap (λ x. x.group) own_row.is ∙ sorts) in
        ap (at_or_above group (sort_bin_above bins group steps)) own_row.at ∙ cond-true (eqb own_row.row.group group) true _ same
    climbs i j (AtOrAbove.up _ p _ e a) b at sorts zero less = absurd (omega arith)
    climbs i j (AtOrAbove.up _ p _ e a) b at sorts (suc steps) less = by (slice_get (map bin_of bins) i) refl e (climbs p j a b at sorts steps)
      where
        either : (x y : Bool) → y ≡ true → cond x true y ≡ true
        either true y h = refl
        either false y h = h

        by : (o : Option PlanBin) → slice_get (map bin_of bins) i ≡ o → m.parent_in o ≡ Some p → (p < steps → sort_bin_above bins group steps p ≡ true) → at_or_above group (sort_bin_above bins group steps) (slice_get bins i) ≡ true
        by None n e rec = never_some p e
        by (Some r) n e rec =
            let own_row = made_of bin_of bins i r n in
            let parent : own_row.row.parent ≡ Some p = ap (λ x. x.parent) own_row.is ∙ e in
            let less : p < steps = omega (arith, earlier i p r n e) in
            ap (at_or_above group (sort_bin_above bins group steps)) own_row.at ∙ either (eqb own_row.row.group group) (of_parent (sort_bin_above bins group steps) own_row.row.parent) (ap (of_parent (sort_bin_above bins group steps)) parent ∙ rec less)

module _ (text : List ℕ) (f : PlanTree) (k : Keeps f) where
  -- the tables hold the first groups of the plan, and these are still to come
  abbrev GroupsToCome : Draft → List GroupTree → Type 0
  GroupsToCome d xs = (done : List GroupTree) × (done ++ xs ≡ each f.bins.groups) × ToCome text f k (map (λ g. g.name) done) d (bins_from (length done) xs)

  group_step : (d : Draft) (x : GroupTree) (xs : List GroupTree) (p : ℕ) (ts us : Tokens) → GroupsToCome d (x ∷ xs) → NamesAt text ts → Starts us ts (group_rest x) → (r : Draft) × (group_row text (keyword_at kw.BinGroup p) d ts ≡ Ok (r, us)) × GroupsToCome r xs
  group_step d x xs p ts us s names (next {p = q} {ts = ws} st) =
      let done = s.0 in
      let come = s.2 in
      let row : Group = record { name = record { place = q; len = length x.name } } in
      let own = map (λ (g : GroupTree). g.name) done in
      let later = bins_from (suc (length done)) xs in
      let counted : length d.groups ≡ length done = sym (length-map d.groups (λ g. spelt text g.name)) ∙ (ap length come.groups_named ∙ length-map done (λ g. g.name)) in
      let added : ToCome text f k (own ++ x.name ∷ []) (with_group row d) (map (λ b. (length d.groups, b)) (each x.bins) ++ later) = record {
        done = come.done;
        groups_named = map-append (λ (r : Group). spelt text r.name) d.groups (row ∷ []) ∙ (ap (λ l. l ++ spelt text row.name ∷ []) come.groups_named ∙ ap (λ w. own ++ w ∷ []) names.0);
        bins_named = come.bins_named;
        rows = come.rows;
        whole = ap (λ n. come.done ++ (map (λ (b : BinTree). (n, b)) (each x.bins) ++ later)) counted ∙ come.whole;
      } in
      let inner = block_complete (λ f. begins_bin f.symbol) (bin_row text (length d.groups)) bin_head bin_rest (NamesAt text) (names_on text) (λ e xs. ToCome text f k (own ++ x.name ∷ []) e (map (λ b. (length d.groups, b)) xs ++ later)) (λ x p. bin_begins x.leaf) (bin_step text f k (own ++ x.name ∷ []) (length d.groups) later) (λ p. refl) x.bins (with_group row d) ws us added names.1 st in
      let first = at text f k own d (length done) x.bins.first (map (λ (b : BinTree). (length done, b)) x.bins.others ++ later) come in
      let few : length done < 16 = k.lawful.limits.groups (length d.bins) (means f (length done, x.bins.first)) first in
      let room : leb 16 (length d.groups) ≡ false = lt-leb 16 (length d.groups) (omega arith) in
      let once : Once (names_in text (λ (g : Group). g.name) d.groups ++ (x.name ∷ map (λ g. g.name) xs)) = subst Once (ap (map (λ (g : GroupTree). g.name)) (sym s.1) ∙ (map-append (λ (g : GroupTree). g.name) done (x ∷ xs) ∙ ap (λ l. l ++ (x.name ∷ map (λ (g : GroupTree). g.name) xs)) (sym come.groups_named))) k.groups_once in
      let new = next_not_found (λ (g : Group). g.name) text d.groups x.name (map (λ g. g.name) xs) once in
      let push : length (done ++ x ∷ []) ≡ suc (length done) = omega (arith, length_push done x) in
      let named : own ++ x.name ∷ [] ≡ map (λ (g : GroupTree). g.name) (done ++ x ∷ []) = sym (map-append (λ (g : GroupTree). g.name) done (x ∷ [])) in
      (inner.0, rw (room, new, inner.1), (done ++ x ∷ [], append_assoc done (x ∷ []) xs ∙ s.1, subst (λ n. ToCome text f k (map (λ g. g.name) (done ++ x ∷ [])) inner.0 (bins_from n xs)) (sym push) (subst (λ l. ToCome text f k l inner.0 later) named inner.2)))

  abbrev sorts_by : ℕ
  sorts_by = position f.bins.sort_group (group_names f.bins)

  -- every leaf is sorted, where the tables hold all the bins
  none_unsorted : (bins : List Bin) → map bin_of bins ≡ map (means f) (every f) → first_unsorted bins sorts_by ≡ None
  none_unsorted bins rows = all_sorted bins sorts_by 0 bins (λ j b at. let e : 0 + j ≡ j = omega arith in ap (λ m. unsorted bins sorts_by m b) e ∙ by j b at b.leaf refl)
    where
      law : LeafSorted (meant f)
      law = k.lawful.leaf_sorted

      stands : (j : ℕ) (b : Bin) → slice_get bins j ≡ Some b → slice_get (map bin_of bins) j ≡ Some (bin_of b)
      stands j b at = sym (nth_map bin_of bins j) ∙ ap (option_map bin_of) at

      climbed : (j : ℕ) (b : Bin) → slice_get bins j ≡ Some b → b.leaf ≡ true → sort_bin_above bins sorts_by (length bins) j ≡ true
      climbed j b at leaf =
          let up = law j (bin_of b) (ap (λ l. slice_get l j) (sym rows) ∙ stands j b at) leaf in
          climbs bins sorts_by (λ i p b e. k.lawful.parent_earlier i p b (ap (λ l. slice_get l i) (sym rows) ∙ e)) j up.0 (subst (λ l. AtOrAbove l j up.0) (sym rows) up.1) up.2.bin (ap (λ l. slice_get l up.0) rows ∙ up.2.is) (sym (the_same up.2.sorts)) (length bins) (nth_below bins j b at)

      by : (j : ℕ) (b : Bin) → slice_get bins j ≡ Some b → (leaf : Bool) → b.leaf ≡ leaf → unsorted bins sorts_by j b ≡ false
      by j b at true e = and_right b.leaf (not (sort_bin_above bins sorts_by (length bins) j)) (not_from_true (sort_bin_above bins sorts_by (length bins) j) (climbed j b at e))
      by j b at false e = and_left b.leaf (not (sort_bin_above bins sorts_by (length bins) j)) e

  sort_complete : (d : Draft) (ts us : Tokens) → names_in text (λ g. g.name) d.groups ≡ group_names f.bins → map bin_of d.bins ≡ map (means f) (every f) → Starts us ts (t.mark mk.Equals ∷ t.name f.bins.sort_group ∷ t.mark mk.Semicolon ∷ t.mark mk.CloseBrace ∷ []) → sort_group_in text d ts ≡ Ok (with_sort_group sorts_by d, us)
  sort_complete d ts us names rows (next (next (next (next here)))) =
      let is : found (λ (g : Group). g.name) text d.groups f.bins.sort_group ≡ Some sorts_by = declared_found (λ (g : Group). g.name) text f.bins.sort_group d.groups (ap (declared f.bins.sort_group) names ∙ k.sort_group_declared) ∙ ap (λ l. Some (position f.bins.sort_group l)) names in
      rw (is, none_unsorted d.bins rows)

  -- the tables of groups and bins are those of the tree
  all_stand : (d : Draft) → GroupsToCome d [] → (names_in text (λ g. g.name) d.groups ≡ group_names f.bins) × (names_in text (λ x. x.name) d.bins ≡ bin_names f.bins) × (map bin_of d.bins ≡ map (means f) (every f))
  all_stand d s =
      let groups : s.0 ≡ each f.bins.groups = sym (append-nil s.0) ∙ s.1 in
      let bins : s.2.done ≡ every f = sym (append-nil s.2.done) ∙ s.2.whole in
      (s.2.groups_named ∙ ap (map (λ (g : GroupTree). g.name)) groups, s.2.bins_named ∙ ap (map (λ (b : ℕ × BinTree). b.1.name)) bins, s.2.rows ∙ ap (map (means f)) bins)

  -- { group+ SortBinGroup = name ; }
  definitions_complete : (d : Draft) (ws vs us : Tokens) → GroupsToCome d (each f.bins.groups) → NamesAt text ws → Starts vs ws (flat_map group_tokens (each f.bins.groups)) → Starts us vs (t.keyword kw.SortBinGroup ∷ t.mark mk.Equals ∷ t.name f.bins.sort_group ∷ t.mark mk.Semicolon ∷ t.mark mk.CloseBrace ∷ []) → (e : Draft) × ((parse (symbol_in ws) λ next ts. allow (begins_group next.symbol) next.place (then (many (group_turn text) (d, next) ts) λ s ts. allow (same_symbol s.1.symbol (Keyword kw.SortBinGroup)) s.1.place (sort_group_in text s.0 ts))) ≡ Ok (e, us)) × BinsStand text f.bins e
  definitions_complete d ws vs us s names (next {p = q} {ts = ts} st) (next {p = r} {ts = xs} end) =
      let all = rows_complete (λ f. begins_group f.symbol) (group_row text) (λ (x : GroupTree). kw.BinGroup) group_rest (NamesAt text) (names_on text) GroupsToCome (λ x p. refl) group_step
      (each f.bins.groups) d (keyword_at kw.BinGroup q) _ ts _ (keyword_at kw.SortBinGroup r) xs s names refl (Starts.next {p = q} st) refl refl in
      let made = all_stand all.0 all.2 in
      let sorted = sort_complete all.0 xs us made.0 made.2 end in
      (with_sort_group sorts_by all.0, rw (all.1, sorted), record { groups_named = made.0; bins_named = made.1; rows = made.2; sort_group = refl })

  -- bins that the grammar has and the rules allow are read, and their tables are those of the tree
  pub bins_complete : (d : Draft) (ts us : Tokens) → d.groups ≡ [] → d.bins ≡ [] → NamesAt text ts → Starts us ts (bins_tokens f.bins) → (e : Draft) × (bins_in text d ts ≡ Ok (e, us)) × BinsStand text f.bins e
  unfolding bins_in
  bins_complete d ts us g b names (next (next {ts = ws} st)) =
      let parts = split ws (flat_map group_tokens (each f.bins.groups)) (t.keyword kw.SortBinGroup ∷ t.mark mk.Equals ∷ t.name f.bins.sort_group ∷ t.mark mk.Semicolon ∷ t.mark mk.CloseBrace ∷ []) st in
      let none : GroupsToCome d (each f.bins.groups) = ([], refl, record { done = []; groups_named = ap (names_in text (λ (g : Group). g.name)) g; bins_named = ap (names_in text (λ (b : Bin). b.name)) b; rows = ap (map bin_of) b; whole = refl }) in
      definitions_complete d ws parts.us us none names.1.1 parts.before parts.behind
