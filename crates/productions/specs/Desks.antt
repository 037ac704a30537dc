-- What a production makes of what lies on a desk.
use Rattle.std.specs.Prelude.{◌≡◌, ℕ, ◌<◌, ◌≤◌, List, Result, OnOk}
use Rattle.tokens.specs.Terminals.{Tokens, count}
use Rattle.tokens.specs.Reading.{rest}
use Rattle.plan.specs.Drafts.{Draft, drafted}
use Rattle.refusals.specs.declared.fault.LoadFault.{LoadFault}
use Rattle.refusals.specs.Steps.{Loaded, ended}
use Rattle.productions.specs.declared.desk.Desk.{Desk}

abbrev pub text : Desk → List ℕ
text desk = desk.text.now

-- the rows so far
abbrev pub rows : Desk → Draft
rows desk = drafted desk.tables.now

-- the tokens that are left
abbrev pub unread : Desk → Tokens
unread desk = rest desk.reader

-- the same text, and the same tables, whatever their rows
pub record Same (before after : Desk) : Type 0 where
  pub text : text after ≡ text before
  pub tables : after.tables.ghost_name ≡ before.tables.ghost_name

-- the answer, seen so, and the tokens left are what the production gives; a token was read at least
pub record Produces {X Y : Type 0} (production : List ℕ → Draft → Tokens → Loaded Y) (seen : X → Y) (before after : Desk) (answer : Result X LoadFault) : Type 0 where
  pub told : ended seen answer (unread after) ≡ production (text before) (rows before) (unread before)
  pub on : OnOk answer (count (unread after) < count (unread before))
  pub same : Same before after

-- the same where it may be that no token was read
pub record MayProduce {X Y : Type 0} (production : List ℕ → Draft → Tokens → Loaded Y) (seen : X → Y) (before after : Desk) (answer : Result X LoadFault) : Type 0 where
  pub told : ended seen answer (unread after) ≡ production (text before) (rows before) (unread before)
  pub on : OnOk answer (count (unread after) ≤ count (unread before))
  pub same : Same before after
