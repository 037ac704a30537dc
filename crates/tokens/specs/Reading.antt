-- What a reader has yet to read.
use Rattle.std.specs.Prelude.{ℕ, List, drop}
use Rattle.tokens.specs.declared.reader.Reader.{Reader}
use Rattle.tokens.specs.Terminals.{Tokens}
use Rattle.tokens.specs.Scanning.{tokens_from}

-- its bytes
abbrev pub unread : Reader → List ℕ
unread r = drop r.at r.text.now

-- its tokens
abbrev pub rest : Reader → Tokens
rest r = tokens_from r.text.now r.at
