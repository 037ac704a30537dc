-- Clauses whose targets are resolved one after the other, in their place.
use Rattle.std.proofs.Common.{◌≡◌, ℕ, ◌+◌, ◌<◌, ◌≤◌, List, [], ◌∷◌, ◌++◌, length, get_or, take, drop, set, Ok, Err, Result, sym, refl, ap, ◌∙◌, append_assoc, append-nil, arith, length-set}
use Rattle.std.proofs.lemmas.List.{at_drop_more, at_drop_all, take_more_set, take_all, drop-set-lt, drop-drop}
use Rattle.plan.specs.declared.rows.Clause.{Clause}
use Rattle.plan.specs.declared.rows.Item.{Item}
use Rattle.plan.specs.declared.rows.Next.{Next}
use Rattle.refusals.specs.declared.fault.LoadFault.{LoadFault}
use Rattle.flows.specs.Checks.{clause_resolved, onto, and_then, clauses_resolved, behind}

abbrev Answer : Type 0
Answer = Result (List Clause) LoadFault

behind_onto : (done : List Clause) (c : Clause) (x : Answer) → behind done (onto c x) ≡ behind (done ++ c ∷ []) x
behind_onto done c (Ok cs) = ap {B = Answer} (λ (l : List Clause). Ok l) (sym (append_assoc done (c ∷ []) cs))
behind_onto done c (Err e) = refl

-- the clause, leading elsewhere
abbrev pub led : Clause → Next → Clause
led c n = record c { next = n }

module _ (text : List ℕ) (first : ℕ) (items : List Item) where
  abbrev all : List Clause → Answer
  all cs = clauses_resolved text first items cs

  -- of the clauses `was`, now `are`, those before i are resolved and the others as they were, on the way to the whole answer
  pub record Resolving (was are : List Clause) (i : ℕ) (whole : Answer) : Type 0 where
    pub left : drop i are ≡ drop i was
    pub as_many : length are ≡ length was
    pub so_far : behind (take i are) (all (drop i was)) ≡ whole

  pub resolving : (was : List Clause) (from : ℕ) → Resolving was was from (behind (take from was) (all (drop from was)))
  resolving was from = record { left = refl; as_many = refl; so_far = refl }

  module _ (was are : List Clause) (i : ℕ) (whole : Answer) (h : Resolving was are i whole) where
    module _ (x : Clause) (l : i < length are) where
      one : (r : Result Clause LoadFault) → r ≡ clause_resolved text first items (get_or are i x) → all (drop i was) ≡ and_then r (all (drop (i + 1) was))
      one r e =
          ap all (sym h.left)
          ∙ (at_drop_more all are i x l
          ∙ (ap (λ y. and_then y (all (drop (i + 1) are))) (sym e)
          ∙ ap (λ y. and_then r (all y)) (sym (drop-drop 1 i are) ∙ (ap (drop 1) h.left ∙ drop-drop 1 i was))))

      -- one more is resolved
      pub resolved_one : (c : Clause) → Ok c ≡ clause_resolved text first items (get_or are i x) → Resolving was (set are i c) (i + 1) whole
      resolved_one c e = record {
        left = drop-set-lt (i + 1) are i c (omega arith) ∙ (sym (drop-drop 1 i are) ∙ (ap (drop 1) h.left ∙ drop-drop 1 i was));
        as_many = length-set are i c ∙ h.as_many;
        so_far = ap (λ y. behind y (all (drop (i + 1) was))) (take_more_set are i c l) ∙ (sym (behind_onto (take i are) c (all (drop (i + 1) was))) ∙ (ap (behind (take i are)) (sym (one (Ok c) e)) ∙ h.so_far));
      }

      -- the first that leads nowhere
      pub resolved_none : (e : LoadFault) → Err e ≡ clause_resolved text first items (get_or are i x) → Err e ≡ whole
      resolved_none f e = ap (behind (take i are)) (sym (one (Err f) e)) ∙ h.so_far

    pub resolved_all : length are ≤ i → Ok are ≡ whole
    resolved_all l =
        let none : all (drop i was) ≡ Ok [] = at_drop_all all was i (omega (arith, h.as_many)) in
        ap {B = Answer} (λ (l : List Clause). Ok l) (sym (append-nil are))
        ∙ (ap {B = Answer} (λ (l : List Clause). Ok (l ++ [])) (sym (take_all i are l))
        ∙ (ap (behind (take i are)) (sym none) ∙ h.so_far))
