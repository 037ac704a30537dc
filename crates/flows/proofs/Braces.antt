-- Rows in braces, and what was read where they were accepted.
use Rattle.std.proofs.Common.{◌≡◌, ℕ, Bool, true, List, Ok, subst}
use Rattle.text_bytes.specs.declared.kinds.Mark.TheVariants.{OpenBrace, CloseBrace}
use Rattle.tokens.specs.Terminals.{Tokens}
use Rattle.grammar.specs.declared.symbols.Found.{Found}
use Rattle.grammar.specs.declared.symbols.Symbol.TheVariants as sy
use Rattle.grammar.specs.Readers.{symbol_in, expect_in}
use Rattle.plan.specs.Drafts.{Draft}
use Rattle.refusals.specs.Shapes.{is_mark, row_turn}
use Rattle.refusals.specs.Steps.{Loaded, parse, then, allow, many}
use Rattle.refusals.proofs.Passing.{accepted, parse_passed, then_passed, allow_passed}
use Rattle.refusals.proofs.Spelled.{NamesAt, want_leaves, expect_leaves}

-- }   behind the rows
abbrev closes : Draft × Found → Tokens → Loaded Draft
closes s ts = allow (is_mark CloseBrace s.1) s.1.place (Ok (s.0, ts))

-- { row row .. }
abbrev pub rows_braced : (Found → Bool) → (Found → Draft → Tokens → Loaded Draft) → Draft → Tokens → Loaded Draft
rows_braced begins row d ts =
    parse (expect_in (sy.Mark OpenBrace) ts) λ _ ts.
    parse (symbol_in ts) λ f ts.
    allow (begins f) f.place
    (then (many (row_turn begins row) (d, f) ts) closes)

-- rows in braces that were accepted
pub record Braced (begins : Found → Bool) (row : Found → Draft → Tokens → Loaded Draft) (d : Draft) (ts : Tokens) (e : Draft) (us : Tokens) : Type 0 where
  pub inside : Tokens
  pub opened : expect_in (sy.Mark OpenBrace) ts ≡ Ok (tt, inside)
  pub first : Found
  pub behind : Tokens
  pub is : symbol_in inside ≡ Ok (first, behind)
  pub begun : begins first ≡ true
  pub last : Found
  pub rows : many (row_turn begins row) (d, first) behind ≡ Ok ((e, last), us)

pub braced_passed : (begins : Found → Bool) (row : Found → Draft → Tokens → Loaded Draft) (d : Draft) (ts : Tokens) (e : Draft) (us : Tokens) → rows_braced begins row d ts ≡ Ok (e, us) → Braced begins row d ts e us
braced_passed begins row d ts e us h =
    let open_brace = parse_passed (expect_in (sy.Mark OpenBrace) ts) h in
    let f = parse_passed (symbol_in open_brace.us) open_brace.goes in
    let begun = allow_passed (begins f.v) f.v.place _ f.goes in
    let all = then_passed (many (row_turn begins row) (d, f.v) f.us) begun.1 in
    let ended = allow_passed (is_mark CloseBrace all.v.1) all.v.1.place _ all.goes in
    let made = accepted ended.1 in
    record {
      inside = open_brace.us;
      opened = open_brace.is;
      first = f.v;
      behind = f.us;
      is = f.is;
      begun = begun.0;
      last = all.v.1;
      rows = subst (λ x. many (row_turn begins row) (d, f.v) f.us ≡ Ok ((x, all.v.1), us)) made.0 (subst (λ vs. many (row_turn begins row) (d, f.v) f.us ≡ Ok (all.v, vs)) made.1 all.is);
    }

-- the names inside are those of the text
pub names_inside : (text : List ℕ) {begins : Found → Bool} {row : Found → Draft → Tokens → Loaded Draft} {d : Draft} {ts : Tokens} {e : Draft} {us : Tokens} (b : Braced begins row d ts e us) → NamesAt text ts → NamesAt text b.behind
names_inside text {ts = ts} b n = want_leaves text _ _ b.inside b.first b.behind b.is (expect_leaves text (sy.Mark OpenBrace) ts tt b.inside b.opened n)
