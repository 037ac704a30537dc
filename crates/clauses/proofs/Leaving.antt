-- Behind a clause the names among the tokens are still what the text has at their places.
use Rattle.std.proofs.Common.{◌≡◌, ℕ, suc, Bool, true, false, cond, not, leb, List, length, drop, None, Ok, subst}
use Rattle.std.specs.List.{slice_get}
use Rattle.keywords.specs.declared.Keyword.{Keyword}
use Rattle.keywords.specs.declared.Keyword.TheVariants as kw
use Rattle.text_bytes.specs.declared.kinds.Mark.{Mark}
use Rattle.text_bytes.specs.declared.kinds.Mark.TheVariants as mk
use Rattle.tokens.specs.Terminals.{Tokens, count}
use Rattle.grammar.specs.declared.readers.ValueStart.{ValueStart}
use Rattle.grammar.specs.declared.readers.ValueStart.TheVariants.{Minus, Digits}
use Rattle.grammar.specs.declared.symbols.Found.{Found}
use Rattle.grammar.specs.declared.symbols.Symbol.TheVariants as sy
use Rattle.grammar.specs.Readers.{a_value_start, name_in, string_in, symbol_in, expect_in, value_start_in}
use Rattle.plan.specs.Drafts.{Draft}
use Rattle.plan.specs.Meaning.{code_of}
use Rattle.names.specs.Names.{found}
use Rattle.values.specs.Values.{value_from, value_in}
use Rattle.refusals.specs.declared.fault.RuleFault.TheVariants.{NotDeclared, WrongKind, OutOfRange, Repeated, TableFull}
use Rattle.refusals.specs.Steps.{Loaded, allow, many}
use Rattle.refusals.specs.Shapes.{is_keyword, optional}
use Rattle.productions.specs.Following.{list_turn}
use Rattle.productions.proofs.Leaving.{Leaves, turn_leaves}
use Rattle.refusals.proofs.Passing.{accepted, parse_passed, then_passed, refuse_passed, allow_passed, turns_keep}
use Rattle.refusals.proofs.Spelled.{NamesAt, want_leaves, expect_leaves, placed_leaves}
use Rattle.values.proofs.Left.{value_from_leaves, value_leaves}
use Rattle.clauses.specs.Parts.{among}
use Rattle.clauses.specs.Clauses.{start_in, room_from, listed_in, values_full, values_in, verdict_of, property_in, verdict_in, mention_in, mentions_in, counters_in, leaf_of, leaf_in, set_bin_in, go_to_in, return_in, next_in, end_in, body_in, clause_in, span}
use Rattle.clauses.proofs.Beside.{have_passed}
use Rattle.clauses.proofs.Kept.{optional_makes}

module _ (text : List ℕ) where
  optional_leaves : {X : Type 0} (k : Keyword) (none : X) (part : Tokens → Loaded X) → Leaves text part → (f : Found) → Leaves text (optional k none part f)
  optional_leaves k none part leaves f ts v us h n =
      optional_makes k none part (λ _. NamesAt text) (λ x ts g us s m. want_leaves text _ _ ts g us s m) f ts n (λ x us e. leaves ts x us e n) v us h

  list_leaves : {S : Type 0} (last : Mark) (entry : S → Tokens → Loaded S) → ((s : S) → Leaves text (entry s)) → (s : S) → Leaves text (many (list_turn last entry) s)
  list_leaves last entry leaves s ts e us h n =
      turns_keep (list_turn last entry) (λ _. NamesAt text) (λ s ts b t us k. turn_leaves text last entry s (leaves s) ts (b, t) us k) (suc (count ts)) s ts e us h n

  -- values

  room_leaves : (d : Draft) (start : ValueStart) → Leaves text (room_from d start)
  room_leaves d (Minus p) ts v us h n = subst (NamesAt text) (accepted (refuse_passed (values_full d) (TableFull p) _ h).1).1 n
  room_leaves d (Digits m) ts v us h n = subst (NamesAt text) (accepted h).1 n

  listed_leaves : (first : ℕ) (d : Draft) → Leaves text (listed_in first d)
  listed_leaves first d ts e us h n =
      let start = then_passed (start_in d ts) h in
      let begun = parse_passed (value_start_in ts) start.is in
      let value = then_passed (value_from start.v start.us) start.goes in
      let v = value.v in
      let once = refuse_passed (among code_of v.value.code (drop first d.values)) (Repeated v.place) _ value.goes in
      let room = refuse_passed (values_full d) (TableFull v.place) _ once.1 in
      let behind = room_leaves d begun.v begun.us start.v start.us begun.goes (placed_leaves text a_value_start ts begun.v begun.us begun.is n) in
      subst (NamesAt text) (accepted room.1).1 (value_from_leaves text start.v start.us v value.us value.is behind)

  -- the verdict

  property_leaves : Leaves text property_in
  property_leaves ts e us h n =
      let property = parse_passed (expect_in (sy.Keyword kw.PassFail) ts) h in
      let equals = parse_passed (expect_in (sy.Mark mk.Equals) property.us) property.goes in
      let s = parse_passed (string_in equals.us) equals.goes in
      let verdict = have_passed (verdict_of s.v.0) (OutOfRange s.v.1) _ s.goes in
      let end = parse_passed (expect_in (sy.Mark mk.Semicolon) s.us) verdict.2 in
      let a = expect_leaves text (sy.Keyword kw.PassFail) ts property.v property.us property.is n in
      let b = expect_leaves text (sy.Mark mk.Equals) property.us equals.v equals.us equals.is a in
      let c = want_leaves text _ _ equals.us s.v s.us s.is b in
      subst (NamesAt text) (accepted end.goes).1 (expect_leaves text (sy.Mark mk.Semicolon) s.us end.v end.us end.is c)

  -- the counters

  mention_leaves : (from : ℕ) (d : Draft) → Leaves text (mention_in text from d)
  mention_leaves from d ts e us h m =
      let n = parse_passed (name_in ts) h in
      let counter = have_passed (found (λ k. k.name) text d.counters n.v.0) (NotDeclared n.v.1) _ n.goes in
      let once = refuse_passed (among (λ k. k) counter.0 (drop from d.mentions)) (Repeated n.v.1) _ counter.2 in
      let room = refuse_passed (leb 2048 (length d.mentions)) (TableFull n.v.1) _ once.1 in
      subst (NamesAt text) (accepted room.1).1 (want_leaves text _ _ ts n.v n.us n.is m)

  -- the leaf bin

  leaf_leaves : (d : Draft) → Leaves text (leaf_in text d)
  leaf_leaves d ts e us h n =
      let g = parse_passed (name_in ts) h in
      let group = have_passed (found (λ r. r.name) text d.groups g.v.0) (NotDeclared g.v.1) _ g.goes in
      let stop = parse_passed (expect_in (sy.Mark mk.FullStop) g.us) group.2 in
      let b = parse_passed (name_in stop.us) stop.goes in
      let bin = have_passed (found (λ r. r.name) text d.bins b.v.0) (NotDeclared b.v.1) _ b.goes in
      let kind = refuse_passed (not (leaf_of group.0 (slice_get d.bins bin.0))) (WrongKind b.v.1) _ bin.2 in
      let end = parse_passed (expect_in (sy.Mark mk.Semicolon) b.us) kind.1 in
      let x = expect_leaves text (sy.Mark mk.FullStop) g.us stop.v stop.us stop.is (want_leaves text _ _ ts g.v g.us g.is n) in
      let y = want_leaves text _ _ stop.us b.v b.us b.is x in
      subst (NamesAt text) (accepted end.goes).1 (expect_leaves text (sy.Mark mk.Semicolon) b.us end.v end.us end.is y)

  -- where it leads

  next_leaves : (f : Found) → Leaves text (next_in f)
  next_leaves f ts v us h m = by (is_keyword kw.GoTo f) h
    where
      by : (t : Bool) → cond t (go_to_in ts) (allow (is_keyword kw.Return f) f.place (return_in ts)) ≡ Ok (v, us) → NamesAt text us
      by true h =
          let n = parse_passed (name_in ts) h in
          let end = parse_passed (expect_in (sy.Mark mk.Semicolon) n.us) n.goes in
          subst (NamesAt text) (accepted end.goes).1 (expect_leaves text (sy.Mark mk.Semicolon) n.us end.v end.us end.is (want_leaves text _ _ ts n.v n.us n.is m))
      by false h =
          let ok = allow_passed (is_keyword kw.Return f) f.place _ h in
          let value = then_passed (value_in ts) ok.1 in
          let end = parse_passed (expect_in (sy.Mark mk.Semicolon) value.us) value.goes in
          subst (NamesAt text) (accepted end.goes).1 (expect_leaves text (sy.Mark mk.Semicolon) value.us end.v end.us end.is (value_leaves text ts value.v value.us value.is m))

  end_leaves : (d : Draft) (f : Found) → Leaves text (end_in text d f)
  end_leaves d f ts e us h n =
      let leaf = then_passed (set_bin_in text d f ts) h in
      let next = then_passed (next_in leaf.v.1 leaf.us) leaf.goes in
      let end = parse_passed (expect_in (sy.Mark mk.CloseBrace) next.us) next.goes in
      let set = optional_leaves kw.SetBin None (leaf_in text d) (leaf_leaves d) f ts leaf.v leaf.us leaf.is n in
      let led = next_leaves leaf.v.1 leaf.us next.v next.us next.is set in
      subst (NamesAt text) (accepted end.goes).1 (expect_leaves text (sy.Mark mk.CloseBrace) next.us end.v end.us end.is led)

  pub clause_leaves : (p first : ℕ) (d : Draft) (ts : Tokens) (e : Draft) (us : Tokens) → clause_in text p first d ts ≡ Ok (e, us) → NamesAt text ts → NamesAt text us
  unfolding clause_in
  clause_leaves p first d ts e us h n =
      let room = refuse_passed (leb 1024 (length d.clauses)) (TableFull p) _ h in
      let values = then_passed (values_in first d ts) room.1 in
      let s = values.v in
      let body = then_passed (body_in text (span (length d.values) (length s.values)) s values.us) values.goes in
      let f = parse_passed (symbol_in values.us) body.is in
      let verdict = then_passed (verdict_in f.v f.us) f.goes in
      let counters = then_passed (counters_in text s verdict.v.1 verdict.us) verdict.goes in
      let end = then_passed (end_in text counters.v.0 counters.v.1 counters.us) counters.goes in
      let listed = list_leaves mk.OpenBrace (listed_in first) (listed_leaves first) d ts s values.us values.is n in
      let begun = want_leaves text _ _ values.us f.v f.us f.is listed in
      let marked = optional_leaves kw.Property _ property_in property_leaves f.v f.us verdict.v verdict.us verdict.is begun in
      let named = optional_leaves kw.IncrementCounters s (mentions_in text (length s.mentions) s) (list_leaves mk.Semicolon (mention_in text (length s.mentions)) (mention_leaves (length s.mentions)) s) verdict.v.1 verdict.us counters.v counters.us counters.is marked in
      let led = end_leaves counters.v.0 counters.v.1 counters.us end.v end.us end.is named in
      subst (NamesAt text) (accepted body.goes).1 (subst (NamesAt text) (accepted end.goes).1 led)
