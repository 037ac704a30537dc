-- The clause of an item that lists a value, by its number and by what it means.
use Rattle.std.proofs.Common.{◌≡◌, ℕ, suc, ◌+◌, Bool, true, false, cond, List, [], ◌∷◌, map, Some, None, Option, sym, refl, ap, ◌∙◌, arith}
use Rattle.std.specs.Option.{option_map}
use Rattle.std.specs.List.{position, position_from, slice_get}
use Rattle.std.proofs.lemmas.Iterator.Adapters.{position_from-zero}
use Rattle.plan.specs.declared.rows.Clause.{Clause}
use Rattle.plan.specs.declared.rows.Item.{Item}
use Rattle.plan.specs.declared.rows.Value.{Value}
use Rattle.plan.specs.Drafts.{Draft}
use Rattle.plan.specs.Meaning.{meaning, code_of, rows_of, lists, clause_of, item_of, clause_for, clauses_at, clauses_in, PlanItem, PlanClause}
use Rattle.plan.specs.Finding.{seek_clause, clause_number_in, clause_number, clause_meant}
use Rattle.plan.proofs.Readings.{nth_map}
use Rattle.plan.proofs.Spans.{counted_on, nth_between}

-- the first of the clauses that lists the value, by its place among them

module _ (values : List Value) (v : ℕ) where
  abbrev pub listing : Clause → Bool
  listing c = lists v (map code_of (rows_of c.values values))

  from_place : (cs : List Clause) (k : ℕ) → seek_clause values v k cs ≡ position_from listing k cs
  from_place [] k = refl
  from_place (c ∷ cs) k = ap (cond (listing c) (Some k)) (from_place cs (k + 1))

  pub sought : (k : ℕ) (cs : List Clause) (r : Option ℕ) → r ≡ position listing cs → option_map (λ i. k + i) r ≡ seek_clause values v k cs
  sought k cs r e =
      let z : k + 0 ≡ k = omega arith in
      ap (option_map (λ i. k + i)) (e ∙ position_from-zero listing cs) ∙ sym (counted_on listing k 0 cs) ∙ ap (λ n. position_from listing n cs) z ∙ sym (from_place cs k)

-- what the clause that is found means

module _ (d : Draft) (v : ℕ) where
  found : (t : Bool) (k : ℕ) (c : Clause) (n : Option ℕ) (o : Option PlanClause) → slice_get d.clauses k ≡ Some c → clause_meant d n ≡ o → clause_meant d (cond t (Some k) n) ≡ cond t (Some (clause_of d c)) o
  found true k c n o e h = ap (option_map (clause_of d)) e
  found false k c n o e h = h

  seek_meant : (cs : List Clause) (k : ℕ) → ((j : ℕ) (c : Clause) → slice_get cs j ≡ Some c → slice_get d.clauses (k + j) ≡ Some c) → clause_meant d (seek_clause d.values v k cs) ≡ clause_for v (map (clause_of d) cs)
  seek_meant [] k h = refl
  seek_meant (c ∷ cs) k h =
      let z : k + 0 ≡ k = omega arith in
      let one : (j : ℕ) → k + suc j ≡ k + 1 + j = λ j. omega arith in
      found (lists v (map code_of (rows_of c.values d.values))) k c _ _
      (sym (ap (slice_get d.clauses) z) ∙ h 0 c refl)
      (seek_meant cs (k + 1) (λ j x e. sym (ap (slice_get d.clauses) (one j)) ∙ h (suc j) x e))

  in_meant : (o : Option Item) → clause_meant d (clause_number_in d v o) ≡ clause_for v (clauses_in (option_map (item_of d) o))
  in_meant None = refl
  in_meant (Some it) = seek_meant (rows_of it.clauses d.clauses) it.clauses.from (nth_between it.clauses.from it.clauses.to d.clauses)

  pub number_meant : (i : ℕ) → clause_meant d (clause_number d i v) ≡ clause_for v (clauses_at (meaning d) i)
  unfolding meaning clause_number
  number_meant i = in_meant (slice_get d.items i) ∙ ap (λ (o : Option PlanItem). clause_for v (clauses_in o)) (nth_map (item_of d) d.items i)

  pub number_of : (i : ℕ) (it : Item) (r : Option ℕ) → Some it ≡ slice_get d.items i → r ≡ seek_clause d.values v it.clauses.from (rows_of it.clauses d.clauses) → r ≡ clause_number d i v
  unfolding clause_number
  number_of i it r e s = s ∙ ap (clause_number_in d v) e

  pub no_number : (i : ℕ) → None ≡ slice_get d.items i → None ≡ clause_number d i v
  unfolding clause_number
  no_number i e = ap (clause_number_in d v) e
