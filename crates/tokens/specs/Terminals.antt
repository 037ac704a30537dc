-- Tokens by what they hold, and the list of them that a text is.
use Rattle.std.specs.Prelude.{ℕ, suc, List}
use Rattle.keywords.specs.declared.Keyword.{Keyword}
use Rattle.text_bytes.specs.declared.kinds.Mark.{Mark}
use Rattle.tokens.specs.declared.fault.TokenFault.{TokenFault}

pub data Terminal : Type 0 where
  name : List ℕ → Terminal
  keyword : Keyword → Terminal
  number : ℕ → Terminal
  decimal : List ℕ → Terminal
  string : List ℕ → Terminal
  mark : Mark → Terminal

-- tokens, each with its place, up to the end of the text, which has a place too, or up to a fault
pub data Tokens : Type 0 where
  end : ℕ → Tokens
  fault : TokenFault → Tokens
  token : Terminal → ℕ → Tokens → Tokens

abbrev pub count : Tokens → ℕ
count (end p) = 0
count (fault e) = 0
count (token t p ts) = suc (count ts)
