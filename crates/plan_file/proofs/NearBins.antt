-- Every place told while the bins are read is at most n; their names have such places too.
use Rattle.std.proofs.Common.{ℕ, ◌+◌, ◌≤◌, Bool, ltb, leb, List, [], ◌∷◌, length, is_some, Some, None, Option}
use Rattle.std.specs.List.{AllByRecursion as All}
use Rattle.std.proofs.ByRecursion.{All-push}
use Rattle.std.proofs.lemmas.Bool.{cond_both}
use Rattle.text_bytes.specs.declared.kinds.Mark.TheVariants as mk
use Rattle.keywords.specs.declared.Keyword.TheVariants as kw
use Rattle.tokens.specs.Terminals.{Tokens}
use Rattle.tokens.specs.Spelling.{Within}
use Rattle.grammar.specs.declared.symbols.Found.{Found}
use Rattle.grammar.specs.declared.symbols.Symbol.TheVariants.{Keyword, Mark}
use Rattle.grammar.specs.Symbols.{same_symbol}
use Rattle.plan.specs.declared.rows.Bin.{Bin}
use Rattle.plan.specs.Drafts.{Draft, with_group}
use Rattle.names.specs.Names.{found}
use Rattle.refusals.specs.Steps.{many}
use Rattle.bins.specs.Sorting.{unsorted, unsorted_from}
use Rattle.bins.specs.Bins.{number_taken, leaf_at, bin_number_in, parent_found, parent_in, bin_in, begins_bin, bin_turn, group_in, begins_group, sorted_by, sort_group_found, definitions_in, bins_in}
use Rattle.plan_file.proofs.Nearby.{Near, Any, Given, made, failed, either_near, spot_near, number_near, symbol_near, expect_near, parse_near, then_near, Before, rows_near}

abbrev BinNear : ℕ → Bin → Type 0
BinNear n b = b.name.place ≤ n

-- the names of the bins have places that are at most n
abbrev pub BinsNear : ℕ → Draft → Type 0
BinsNear n d = All (BinNear n) d.bins

-- so has the first leaf bin that cannot be sorted
unsorted_near : (n i : ℕ) (bins : List Bin) (group : ℕ) (more : List Bin) → All (BinNear n) more → Given (λ p. p ≤ n) (unsorted_from i bins group more)
unsorted_near n i bins group [] a = tt
unsorted_near n i bins group (b ∷ more) a = cond_both (unsorted bins group i b) _ _ (Given (λ p. p ≤ n)) (λ _. a.0) (λ _. unsorted_near n (i + 1) bins group more a.1)

module _ {n : ℕ} where
  bin_number_near : (group : ℕ) (bins : List Bin) (ts : Tokens) → Within n ts → Near n Any (bin_number_in group bins ts)
  bin_number_near group bins ts w =
      parse_near (number_near ts w) λ m ts l w.
      either_near (ltb 65535 m.value) (failed l)
      (either_near (number_taken group m.value bins) (failed l)
      (made tt w))

  parent_found_near : (bins : List Bin) (p : ℕ) (o : Option ℕ) (ts : Tokens) → p ≤ n → Within n ts → Near n Any (parent_found bins p o ts)
  parent_found_near bins p None ts l w = failed l
  parent_found_near bins p (Some i) ts l w =
      either_near (leaf_at bins i) (failed l)
      (parse_near (expect_near _ ts w) λ _ ts _ w.
      made tt w)

  parent_near : (text : List ℕ) (bins : List Bin) (ts : Tokens) → Within n ts → Near n Any (parent_in text bins ts)
  parent_near text bins ts w =
      parse_near (symbol_near ts w) λ f ts l w.
      either_near (same_symbol f.symbol (Mark mk.Semicolon)) (made tt w)
      (either_near (same_symbol f.symbol (Mark mk.Comma))
      (parse_near (spot_near _ ts w) λ v ts l w.
      parent_found_near bins v.1 _ ts l w)
      (failed l))

  bin_near : (text : List ℕ) (group : ℕ) (leaf : Bool) (p : ℕ) (d : Draft) (ts : Tokens) → p ≤ n → BinsNear n d → Within n ts → Near n (BinsNear n) (bin_in text group leaf p d ts)
  bin_near text group leaf p d ts l b w =
      either_near (leb 128 (length d.bins)) (failed l)
      (parse_near (spot_near _ ts w) λ v ts l w.
      either_near (is_some (found (λ b. b.name) text d.bins v.0)) (failed l)
      (then_near (bin_number_near group d.bins ts w) λ number ts _ w.
      parse_near (expect_near _ ts w) λ _ ts _ w.
      parse_near (spot_near _ ts w) λ _ ts _ w.
      then_near (parent_near text d.bins ts w) λ parent ts _ w.
      made (All-push (BinNear n) d.bins (record { name = record { place = v.1; len = length v.0 }; group = group; leaf = leaf; number = number; parent = parent }) b l) w))

  bin_rows_near : (text : List ℕ) (group : ℕ) (s : Draft × Found) (ts : Tokens) → Before n (BinsNear n) s → Within n ts → Near n (Before n (BinsNear n)) (many (bin_turn text group) s ts)
  bin_rows_near text group = rows_near (BinsNear n) (λ f. begins_bin f.symbol) _ (λ f d ts l b w. bin_near text group (same_symbol f.symbol (Keyword kw.LeafBin)) f.place d ts l b w)

  group_near : (text : List ℕ) (p : ℕ) (d : Draft) (ts : Tokens) → p ≤ n → BinsNear n d → Within n ts → Near n (BinsNear n) (group_in text p d ts)
  group_near text p d ts l b w =
      either_near (leb 16 (length d.groups)) (failed l)
      (parse_near (spot_near _ ts w) λ v ts l w.
      either_near (is_some (found (λ g. g.name) text d.groups v.0)) (failed l)
      (parse_near (expect_near _ ts w) λ _ ts _ w.
      parse_near (symbol_near ts w) λ f ts l w.
      either_near (begins_bin f.symbol)
      (then_near (bin_rows_near text (length d.groups) (with_group (record { name = record { place = v.1; len = length v.0 } }) d, f) ts (b, l) w) λ s ts b w.
      either_near (same_symbol s.1.symbol (Mark mk.CloseBrace)) (made b.0 w) (failed b.1))
      (failed l)))

  sorted_by_near : (group : ℕ) (o : Option ℕ) (d : Draft) (ts : Tokens) → Given (λ p. p ≤ n) o → BinsNear n d → Within n ts → Near n (BinsNear n) (sorted_by group o d ts)
  sorted_by_near group (Some p) d ts l b w = failed l
  sorted_by_near group None d ts l b w =
      parse_near (expect_near _ ts w) λ _ ts _ w.
      parse_near (expect_near _ ts w) λ _ ts _ w.
      made b w

  sort_group_found_near : (p : ℕ) (o : Option ℕ) (d : Draft) (ts : Tokens) → p ≤ n → BinsNear n d → Within n ts → Near n (BinsNear n) (sort_group_found p o d ts)
  sort_group_found_near p None d ts l b w = failed l
  sort_group_found_near p (Some group) d ts l b w = sorted_by_near group _ d ts (unsorted_near n 0 d.bins group d.bins b) b w

  definitions_near : (text : List ℕ) (d : Draft) (ts : Tokens) → BinsNear n d → Within n ts → Near n (BinsNear n) (definitions_in text d ts)
  definitions_near text d ts b w =
      parse_near (expect_near _ ts w) λ _ ts _ w.
      parse_near (symbol_near ts w) λ f ts l w.
      either_near (begins_group f.symbol)
      (then_near (rows_near (BinsNear n) _ _ (λ f d ts l b w. group_near text f.place d ts l b w) (d, f) ts (b, l) w) λ s ts b w.
      either_near (same_symbol s.1.symbol (Keyword kw.SortBinGroup))
      (parse_near (expect_near _ ts w) λ _ ts _ w.
      parse_near (spot_near _ ts w) λ v ts l w.
      sort_group_found_near v.1 _ s.0 ts l b.0 w)
      (failed b.1))
      (failed l)

  pub bins_near : (text : List ℕ) (d : Draft) (ts : Tokens) → BinsNear n d → Within n ts → Near n (BinsNear n) (bins_in text d ts)
  unfolding bins_in
  bins_near text d ts b w =
      parse_near (expect_near _ ts w) λ _ ts _ w.
      definitions_near text d ts b w
