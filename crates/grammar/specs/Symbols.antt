-- Keywords and marks, as the grammar spells them out.
use Rattle.std.specs.Prelude.{Bool, false}
use Rattle.keywords.specs.Keywords.{same_keyword}
use Rattle.text_bytes.specs.Bytes.{same_mark}
use Rattle.grammar.specs.declared.symbols.Symbol.{Symbol}
use Rattle.grammar.specs.declared.symbols.Symbol.TheVariants.{Keyword, Mark}

abbrev pub same_symbol : Symbol → Symbol → Bool
same_symbol (Keyword a) (Keyword b) = same_keyword a b
same_symbol (Keyword a) (Mark n) = false
same_symbol (Mark m) (Keyword b) = false
same_symbol (Mark m) (Mark n) = same_mark m n
