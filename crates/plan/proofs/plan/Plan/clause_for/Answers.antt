use Rattle.std.proofs.Common.{◌≡◌, ℕ, List, Some, None, Option, sym, ap, ◌∙◌, rules}
use Rattle.std.specs.List.{position, slice_get}
use Rattle.plan.specs.declared.rows.Clause.{Clause}
use Rattle.plan.specs.declared.rows.Value.{Value}
use Rattle.plan.specs.Plans.{draft_of}
use Rattle.plan.specs.Finding.{clause_meant}
use Rattle.plan.specs.Meaning.{rows_of}
use Rattle.plan.proofs.Clauses.{listing, sought, number_of, no_number, number_meant}
use Rattle.plan.proofs.plan.Plan.clause_for.Goals as goal

at_place : (v : ℕ) {r : Option ℕ} {vs ws : List Value} {cs ds : List Clause} → r ≡ position (listing vs v) cs → vs ≡ ws → cs ≡ ds → r ≡ position (listing ws v) ds
at_place v {ws = ws} {cs = cs} r e f = r ∙ ap (λ l. position (listing l v) cs) e ∙ ap (position (listing ws v)) f

pub returns-in_err-span : goal.returns-in_err-span
returns-in_err-span c =
    let d = draft_of c.args.self.now in
    let v = c.args.value.code in
    let none : None ≡ slice_get d.items c.args.item = search rules in
    let number = c.from_residual.ensures ∙ no_number d v c.args.item none in
    record { number = number; meant = ap (clause_meant d) number ∙ number_meant d v c.args.item }

pub returns-in_err-k : goal.returns-in_err-k
returns-in_err-k c =
    let d = draft_of c.args.self.now in
    let v = c.args.value.code in
    let it = c.in_ok-span.field-0 in
    let cs = rows_of it.clauses d.clauses in
    let held : Some it ≡ slice_get d.items c.args.item = search rules in
    let place : c.first_listing.result ≡ position (listing d.values v) cs = at_place v c.first_listing.ensures c.as_slice-2.ensures (c.of-clauses.ensures ∙ ap (rows_of it.clauses) c.as_slice.ensures) in
    let number = c.from_residual-in_err-k.ensures ∙ number_of d v c.args.item it _ held (sought d.values v it.clauses.from cs _ (sym (c.in_err-k.was) ∙ place)) in
    record { number = number; meant = ap (clause_meant d) number ∙ number_meant d v c.args.item }

pub returns : goal.returns
returns c =
    let d = draft_of c.args.self.now in
    let v = c.args.value.code in
    let it = c.in_ok-span.field-0 in
    let cs = rows_of it.clauses d.clauses in
    let held : Some it ≡ slice_get d.items c.args.item = search rules in
    let place : c.first_listing.result ≡ position (listing d.values v) cs = at_place v c.first_listing.ensures c.as_slice-2.ensures (c.of-clauses.ensures ∙ ap (rows_of it.clauses) c.as_slice.ensures) in
    let number = number_of d v c.args.item it _ held (sought d.values v it.clauses.from cs _ (sym (c.in_ok-k.was) ∙ place)) in
    record { number = number; meant = ap (clause_meant d) number ∙ number_meant d v c.args.item }
