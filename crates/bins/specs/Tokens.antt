-- The tokens that bins, groups and their definitions are written with.
use Rattle.std.specs.Prelude.{ℕ, Bool, cond, List, [], ◌∷◌, ◌++◌, Some, None, Option}
use Rattle.std.specs.List.{flat_map}
use Rattle.text_bytes.specs.declared.kinds.Mark.TheVariants as mk
use Rattle.keywords.specs.declared.Keyword.TheVariants as kw
use Rattle.tokens.specs.Terminals.{Terminal}
use Rattle.tokens.specs.Terminals as t

pub record BinTree : Type 0 where
  pub leaf : Bool
  pub name : List ℕ
  pub number : ℕ
  pub label : List ℕ
  pub parent : Option (List ℕ)

pub record GroupTree : Type 0 where
  pub name : List ℕ
  pub first : BinTree
  pub more : List BinTree

pub record BinsTree : Type 0 where
  pub first : GroupTree
  pub more : List GroupTree
  pub sort_group : List ℕ

-- [, name]
abbrev pub parent_tokens : Option (List ℕ) → List Terminal
parent_tokens None = []
parent_tokens (Some parent) = t.mark mk.Comma ∷ t.name parent ∷ []

-- (Bin | LeafBin) name number : string [, name] ;
abbrev pub bin_tokens : BinTree → List Terminal
bin_tokens b =
    t.keyword (cond b.leaf kw.LeafBin kw.Bin) ∷ t.name b.name ∷ t.number b.number ∷ t.mark mk.Colon ∷ t.string b.label
    ∷ (parent_tokens b.parent ++ t.mark mk.Semicolon ∷ [])

-- BinGroup name { bin+ }
abbrev pub group_tokens : GroupTree → List Terminal
group_tokens g =
    t.keyword kw.BinGroup ∷ t.name g.name ∷ t.mark mk.OpenBrace
    ∷ (flat_map bin_tokens (g.first ∷ g.more) ++ t.mark mk.CloseBrace ∷ [])

-- BinDefs { group+ SortBinGroup = name ; }
abbrev pub bins_tokens : BinsTree → List Terminal
bins_tokens d =
    t.keyword kw.BinDefs ∷ t.mark mk.OpenBrace
    ∷ (flat_map group_tokens (d.first ∷ d.more)
    ++ t.keyword kw.SortBinGroup ∷ t.mark mk.Equals ∷ t.name d.sort_group ∷ t.mark mk.Semicolon ∷ t.mark mk.CloseBrace ∷ [])
