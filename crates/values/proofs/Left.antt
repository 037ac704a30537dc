-- The tokens that a value leaves, whose names are those of the text.
use Rattle.std.proofs.Common.{◌≡◌, ℕ, List, Ok, Err, Result, subst}
use Rattle.tokens.specs.Terminals.{Tokens}
use Rattle.grammar.specs.declared.readers.ValueStart.{ValueStart}
use Rattle.grammar.specs.declared.readers.ValueStart.TheVariants.{Minus, Digits}
use Rattle.grammar.specs.Readers.{number_in, value_start_in}
use Rattle.refusals.specs.declared.fault.LoadFault.{LoadFault}
use Rattle.refusals.proofs.Passing.{no_fault, accepted, parse_passed}
use Rattle.refusals.proofs.Spelled.{NamesAt, want_leaves, placed_leaves}
use Rattle.values.specs.declared.ReadValue.{ReadValue}
use Rattle.values.specs.Values.{leaving, value_from, value_in}

module _ (text : List ℕ) where
  leaving_leaves : (x : Result ReadValue LoadFault) (ts : Tokens) (v : ReadValue) (us : Tokens) → leaving x ts ≡ Ok (v, us) → NamesAt text ts → NamesAt text us
  leaving_leaves (Ok w) ts v us h n = subst (NamesAt text) (accepted h).1 n
  leaving_leaves (Err e) ts v us h n = no_fault h

  pub value_from_leaves : (start : ValueStart) (ts : Tokens) (v : ReadValue) (us : Tokens) → value_from start ts ≡ Ok (v, us) → NamesAt text ts → NamesAt text us
  value_from_leaves (Minus p) ts v us h n =
      let m = parse_passed (number_in ts) h in
      leaving_leaves _ m.us v us m.goes (want_leaves text _ _ ts m.v m.us m.is n)
  value_from_leaves (Digits m) ts v us h n = leaving_leaves _ ts v us h n

  pub value_leaves : (ts : Tokens) (v : ReadValue) (us : Tokens) → value_in ts ≡ Ok (v, us) → NamesAt text ts → NamesAt text us
  value_leaves ts v us h n =
      let start = parse_passed (value_start_in ts) h in
      value_from_leaves start.v start.us v us start.goes (placed_leaves text _ ts start.v start.us start.is n)
