-- How the reading of a text ends.
use Rattle.std.specs.Prelude.{◌≡◌, ℕ, List, Ok, Err, Result}
use Rattle.tokens.specs.declared.fault.TokenFault.{TokenFault}
use Rattle.tokens.specs.Terminals.{Tokens, end, fault, token}
use Rattle.tokens.specs.Spelling.{Reads}

-- well, or by its fault
abbrev pub ending : Tokens → Result Unit TokenFault
ending (end p) = Ok tt
ending (fault e) = Err e
ending (token t p ts) = ending ts

-- the bytes have a reading that ends so
abbrev pub EndsAs : List ℕ → Result Unit TokenFault → Type 0
EndsAs bs r = (ts : Tokens) × (Reads bs 0 ts × (r ≡ ending ts))
