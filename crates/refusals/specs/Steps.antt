-- How productions follow one another: what each reads, the tokens that it leaves, or the fault at which all stops.
use Rattle.std.specs.Prelude.{◌≡◌, ℕ, zero, suc, ◌<◌, ◌≤◌, Bool, cond, Ok, Err, Result, OnOk}
use Rattle.tokens.specs.declared.reader.Reader.{Reader}
use Rattle.tokens.specs.Reading.{rest}
use Rattle.tokens.specs.Terminals.{Tokens, count}
use Rattle.grammar.specs.declared.fault.GrammarFault.TheVariants.{NotAllowed}
use Rattle.grammar.specs.Readers.{Parsed}
use Rattle.refusals.specs.declared.fault.RuleFault.{RuleFault}
use Rattle.refusals.specs.declared.fault.LoadFault.{LoadFault}
use Rattle.refusals.specs.declared.fault.LoadFault.TheVariants.{Grammar, Rule}

abbrev pub Loaded : Type 0 → Type 0
Loaded X = Result (X × Tokens) LoadFault

-- a token of the grammar, and then what follows it
abbrev pub parse : {X Y : Type 0} → Parsed X → (X → Tokens → Loaded Y) → Loaded Y
parse (Ok v) next = next v.0 v.1
parse (Err e) next = Err (Grammar e)

-- a production, and then what follows it
abbrev pub then : {X Y : Type 0} → Loaded X → (X → Tokens → Loaded Y) → Loaded Y
then (Ok v) next = next v.0 v.1
then (Err e) next = Err e

-- a rule that is broken where the test is true
abbrev pub refuse : {X : Type 0} → Bool → RuleFault → Loaded X → Loaded X
refuse broken e next = cond broken (Err (Rule e)) next

-- a token that is allowed here only where the test is true
abbrev pub allow : {X : Type 0} → Bool → ℕ → Loaded X → Loaded X
allow ok place next = cond ok next (Err (Grammar (NotAllowed place)))

-- an answer of the code, seen through f, with the tokens that it leaves
abbrev pub ended : {X Y : Type 0} → (X → Y) → Result X LoadFault → Tokens → Loaded Y
ended f (Ok x) ts = Ok (f x, ts)
ended f (Err e) ts = Err e

-- the answer, seen so, and the tokens left are what the definition gives; a token was taken
pub record Takes {X Y : Type 0} (gives : Tokens → Loaded Y) (seen : X → Y) (before after : Reader) (answer : Result X LoadFault) : Type 0 where
  pub told : ended seen answer (rest after) ≡ gives (rest before)
  pub on : OnOk answer (count (rest after) < count (rest before))

-- the same where it may be that none was taken
pub record MayTake {X Y : Type 0} (gives : Tokens → Loaded Y) (seen : X → Y) (before after : Reader) (answer : Result X LoadFault) : Type 0 where
  pub told : ended seen answer (rest after) ≡ gives (rest before)
  pub on : OnOk answer (count (rest after) ≤ count (rest before))

-- turns until one says that it was the last; each but the last takes a token at least, so fuel that is more than the
-- tokens left suffices
unfoldable pub turns : {S : Type 0} → (S → Tokens → Loaded (Bool × S)) → ℕ → S → Tokens → Loaded S
turns turn zero s ts = Ok (s, ts)
turns turn (suc n) s ts = then (turn s ts) λ v ts. cond v.0 (turns turn n v.1 ts) (Ok (v.1, ts))

-- a repetition
abbrev pub many : {S : Type 0} → (S → Tokens → Loaded (Bool × S)) → S → Tokens → Loaded S
many turn s ts = turns turn (suc (count ts)) s ts
