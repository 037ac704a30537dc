-- The reader's answers, seen without the addresses of the parts that they borrow.
use Rattle.std.specs.Prelude.{◌≡◌, ℕ, ◌<◌, ◌≤◌, List, length, Ok, Err, Result}
use Rattle.tokens.specs.declared.fault.TokenFault.{TokenFault}
use Rattle.tokens.specs.declared.token.Token.{Token}
use Rattle.tokens.specs.declared.token.Token.TheVariants as code
use Rattle.tokens.specs.declared.token.Placed.{Placed}
use Rattle.tokens.specs.Faults.{told}
use Rattle.tokens.specs.Terminals as t
use Rattle.tokens.specs.Scanning.{Scanned, found, finished, faulty}

abbrev pub seen_token : Token → ℕ → ℕ → Scanned
seen_token (code.Name s) p e = found (t.name s.now) p e
seen_token (code.Keyword k) p e = found (t.keyword k) p e
seen_token (code.Number n) p e = found (t.number n) p e
seen_token (code.Decimal s) p e = found (t.decimal s.now) p e
seen_token (code.Quoted s) p e = found (t.string s.now) p e
seen_token (code.Mark m) p e = found (t.mark m) p e
seen_token code.End p e = finished p e

abbrev pub seen : Result Placed TokenFault → Scanned
seen (Ok x) = seen_token x.token x.place x.end
seen (Err e) = faulty e

-- from offset p of n bytes the reader goes forward, unless the text is at its end, and tells places within the text
abbrev pub Forward : ℕ → ℕ → Scanned → Type 0
Forward p n (found x q e) = (p ≤ q) × (q < e) × (e ≤ n)
Forward p n (finished q e) = (q ≡ n) × (e ≡ n)
Forward p n (faulty e) = (p ≤ (told e).place) × ((told e).place ≤ n)

-- the answer for offset p of the text is the given one, and it goes forward
pub record Scans (gives : Scanned) (text : List ℕ) (p : ℕ) (answer : Result Placed TokenFault) : Type 0 where
  pub told : seen answer ≡ gives
  pub forward : Forward p (length text) (seen answer)
