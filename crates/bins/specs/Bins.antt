-- What is read of bins, groups of bins and their definitions, as rows of a draft, or the first rule that is broken.
use Rattle.std.specs.Prelude.{ℕ, Bool, true, false, cond, ◌&&◌, ◌||◌, List, [], ◌∷◌, length, is_some, Some, None, Ok, Err, Option, ◌==◌, nat_le, nat_lt}
use Rattle.std.specs.List.{slice_get}
use Rattle.text_bytes.specs.declared.kinds.Mark.TheVariants as mk
use Rattle.keywords.specs.declared.Keyword.TheVariants as kw
use Rattle.tokens.specs.Terminals.{Tokens}
use Rattle.grammar.specs.declared.symbols.Found.{Found}
use Rattle.grammar.specs.declared.symbols.Symbol.{Symbol}
use Rattle.grammar.specs.declared.symbols.Symbol.TheVariants.{Keyword, Mark}
use Rattle.grammar.specs.Symbols.{same_symbol}
use Rattle.grammar.specs.Readers.{name_in, number_in, string_in, symbol_in, expect_in}
use Rattle.plan.specs.declared.rows.Bin.{Bin}
use Rattle.plan.specs.Drafts.{Draft, with_group, with_bin, with_sort_group}
use Rattle.names.specs.Names.{found}
use Rattle.productions.specs.Naming.{name_at}
use Rattle.refusals.specs.declared.fault.LoadFault.TheVariants.{Rule}
use Rattle.refusals.specs.declared.fault.RuleFault.TheVariants.{DeclaredBefore, NotDeclared, WrongKind, OutOfRange, Repeated, TableFull, NoSortBin}
use Rattle.refusals.specs.Shapes.{row_turn}
use Rattle.refusals.specs.Steps.{Loaded, parse, then, refuse, allow, many}
use Rattle.bins.specs.Sorting.{first_unsorted}

-- a bin of the group, with this number
abbrev pub has_number : ℕ → ℕ → Bin → Bool
has_number group n b = b.group == group && b.number == n

-- some bin of the group has this number
abbrev pub number_taken : ℕ → ℕ → List Bin → Bool
number_taken group n [] = false
number_taken group n (b ∷ bins) = cond (has_number group n b) true (number_taken group n bins)

-- a number that no bin of the group has yet
abbrev pub bin_number_in : ℕ → List Bin → Tokens → Loaded ℕ
bin_number_in group bins ts =
    parse (number_in ts) λ n ts.
    refuse (nat_lt 65535 n.value) (OutOfRange n.place)
    (refuse (number_taken group n.value bins) (Repeated n.place)
    (Ok (n.value, ts)))

abbrev pub is_leaf : Option Bin → Bool
is_leaf None = false
is_leaf (Some b) = b.leaf

-- the bin of this number is a leaf bin
abbrev pub leaf_at : List Bin → ℕ → Bool
leaf_at bins i = is_leaf (slice_get bins i)

-- the bin that was named at this place, as a parent
abbrev pub parent_found : List Bin → ℕ → Option ℕ → Tokens → Loaded (Option ℕ)
parent_found bins place None ts = Err (Rule (NotDeclared place))
parent_found bins place (Some i) ts =
    refuse (leaf_at bins i) (WrongKind place)
    (parse (expect_in (Mark mk.Semicolon) ts) λ _ ts.
    Ok (Some i, ts))

-- [, name] ;
abbrev pub parent_in : List ℕ → List Bin → Tokens → Loaded (Option ℕ)
parent_in text bins ts =
    parse (symbol_in ts) λ next ts.
    cond (same_symbol next.symbol (Mark mk.Semicolon)) (Ok (None, ts))
    (allow (same_symbol next.symbol (Mark mk.Comma)) next.place
    (parse (name_in ts) λ n ts.
    parent_found bins n.1 (found (λ b. b.name) text bins n.0) ts))

-- name number : string [, name] ;   behind a keyword at this place
abbrev pub bin_in : List ℕ → ℕ → Bool → ℕ → Draft → Tokens → Loaded Draft
bin_in text group leaf place d ts =
    refuse (nat_le 128 (length d.bins)) (TableFull place)
    (parse (name_in ts) λ n ts.
    refuse (is_some (found (λ b. b.name) text d.bins n.0)) (DeclaredBefore n.1)
    (then (bin_number_in group d.bins ts) λ number ts.
    parse (expect_in (Mark mk.Colon) ts) λ _ ts.
    parse (string_in ts) λ _ ts.
    then (parent_in text d.bins ts) λ parent ts.
    Ok (with_bin (record { name = name_at n; group = group; leaf = leaf; number = number; parent = parent }) d, ts)))

-- Bin | LeafBin
abbrev pub begins_bin : Symbol → Bool
begins_bin s = same_symbol s (Keyword kw.Bin) || same_symbol s (Keyword kw.LeafBin)

abbrev pub bin_turn : List ℕ → ℕ → Draft × Found → Tokens → Loaded (Bool × (Draft × Found))
bin_turn text group = row_turn (λ f. begins_bin f.symbol) λ f. bin_in text group (same_symbol f.symbol (Keyword kw.LeafBin)) f.place

-- { bin+ }
abbrev pub group_bins_in : List ℕ → ℕ → Draft → Tokens → Loaded Draft
group_bins_in text group d ts =
    parse (expect_in (Mark mk.OpenBrace) ts) λ _ ts.
    parse (symbol_in ts) λ next ts.
    allow (begins_bin next.symbol) next.place
    (then (many (bin_turn text group) (d, next) ts) λ s ts.
    allow (same_symbol s.1.symbol (Mark mk.CloseBrace)) s.1.place
    (Ok (s.0, ts)))

-- name { bin+ }   behind a keyword at this place
abbrev pub group_in : List ℕ → ℕ → Draft → Tokens → Loaded Draft
group_in text place d ts =
    refuse (nat_le 16 (length d.groups)) (TableFull place)
    (parse (name_in ts) λ n ts.
    refuse (is_some (found (λ g. g.name) text d.groups n.0)) (DeclaredBefore n.1)
    (group_bins_in text (length d.groups) (with_group (record { name = name_at n }) d) ts))

-- BinGroup
abbrev pub begins_group : Symbol → Bool
begins_group s = same_symbol s (Keyword kw.BinGroup)

abbrev pub group_turn : List ℕ → Draft × Found → Tokens → Loaded (Bool × (Draft × Found))
group_turn text = row_turn (λ f. begins_group f.symbol) λ f. group_in text f.place

-- ; }   where every leaf bin has a bin of the group at or above it; else the first that has none is told
abbrev pub sorted_by : ℕ → Option ℕ → Draft → Tokens → Loaded Draft
sorted_by group (Some place) d ts = Err (Rule (NoSortBin place))
sorted_by group None d ts =
    parse (expect_in (Mark mk.Semicolon) ts) λ _ ts.
    parse (expect_in (Mark mk.CloseBrace) ts) λ _ ts.
    Ok (with_sort_group group d, ts)

-- the group that was named at this place, to sort by
abbrev pub sort_group_found : ℕ → Option ℕ → Draft → Tokens → Loaded Draft
sort_group_found place None d ts = Err (Rule (NotDeclared place))
sort_group_found place (Some group) d ts = sorted_by group (first_unsorted d.bins group) d ts

-- = name ; }
abbrev pub sort_group_in : List ℕ → Draft → Tokens → Loaded Draft
sort_group_in text d ts =
    parse (expect_in (Mark mk.Equals) ts) λ _ ts.
    parse (name_in ts) λ n ts.
    sort_group_found n.1 (found (λ g. g.name) text d.groups n.0) d ts

-- { group+ SortBinGroup = name ; }
abbrev pub definitions_in : List ℕ → Draft → Tokens → Loaded Draft
definitions_in text d ts =
    parse (expect_in (Mark mk.OpenBrace) ts) λ _ ts.
    parse (symbol_in ts) λ next ts.
    allow (begins_group next.symbol) next.place
    (then (many (group_turn text) (d, next) ts) λ s ts.
    allow (same_symbol s.1.symbol (Keyword kw.SortBinGroup)) s.1.place
    (sort_group_in text s.0 ts))

-- BinDefs { group+ SortBinGroup = name ; }
unfoldable pub bins_in : List ℕ → Draft → Tokens → Loaded Draft
bins_in text d ts =
    parse (expect_in (Keyword kw.BinDefs) ts) λ _ ts.
    definitions_in text d ts
