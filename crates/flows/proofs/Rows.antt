-- What chains over rows give.
use Rattle.std.proofs.Common.{◌≡◌, ℕ, max, Bool, true, false, cond, ◌||◌, eqb, List, [], ◌∷◌, map, refl, ap, ◌∙◌, arith, fold}
use Rattle.std.specs.List.{list_any}
use Rattle.plan.specs.declared.rows.Value.{Value}
use Rattle.plan.specs.declared.rows.Flow.{Flow}
use Rattle.plan.specs.declared.rows.Item.{Item}
use Rattle.plan.specs.Meaning.{code_of, lists}
use Rattle.flows.specs.Checks.{depth_of, deepest}

-- any value of this code
pub any_listed : (v : ℕ) (xs : List Value) → list_any (λ x. eqb x.code v) xs ≡ lists v (map code_of xs)
any_listed v [] = refl
any_listed v (x ∷ xs) = ap (λ b. eqb x.code v || b) (any_listed v xs) ∙ or_else (eqb x.code v) (lists v (map code_of xs))
  where
    or_else : (a b : Bool) → (a || b) ≡ cond a true b
    or_else true b = refl
    or_else false b = refl

-- the deepest so far, and of the items to come
deeper : (flows : List Flow) (most : ℕ) (its : List Item) → fold (λ n it. max n (depth_of flows it.runs)) most its ≡ max most (deepest flows its)
deeper flows most [] = omega arith
deeper flows most (it ∷ its) = omega (arith, deeper flows (max most (depth_of flows it.runs)) its)

pub deepest_folded : (flows : List Flow) (its : List Item) → fold (λ n it. max n (depth_of flows it.runs)) 0 its ≡ deepest flows its
deepest_folded flows its = omega (arith, deeper flows 0 its)
