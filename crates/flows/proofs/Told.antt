-- The depths that the rows of flows tell are the depths of the flows that the plan means.
use Rattle.std.proofs.Common.{◌≡◌, ℕ, zero, suc, ◌+◌, ◌-◌, ◌≤◌, max, List, [], ◌∷◌, ◌++◌, map, length, get_or, take, Some, sym, refl, ap, ◌∙◌, subst, append_assoc, append-nil, arith}
use Rattle.std.proofs.lemmas.List.{take_at, map-append}
use Rattle.std.specs.List.{between, slice_get}
use Rattle.plan.specs.declared.rows.Flow.{Flow}
use Rattle.plan.specs.declared.rows.Item.{Item}
use Rattle.plan.specs.declared.rows.Runs.{Runs}
use Rattle.plan.specs.declared.rows.Runs.TheVariants.{Test as RunsTest, Flow as RunsFlow}
use Rattle.plan.specs.Drafts.{Draft}
use Rattle.plan.specs.Meaning.{meaning, flow_of, item_of, rows_of, items_in, depth_run, depths_from, depths}
use Rattle.plan.specs.Meaning.{deepest as deepest_run}
use Rattle.plan.specs.Rules.{DepthFits, DepthsTold}
use Rattle.plan.proofs.Readings.{made_of}
use Rattle.flows.specs.Checks.{depth_in, depth_of, deepest}
use Rattle.flows.proofs.Kept.{between_map}
use Rattle.flows.proofs.All.{FlowsKept}

depth_at_lem : (flows : List Flow) (t : ℕ) → depth_in (slice_get flows t) ≡ get_or (map (λ f. f.depth) flows) t 0
depth_at_lem [] t = refl
depth_at_lem (f ∷ flows) zero = refl
depth_at_lem (f ∷ flows) (suc t) = depth_at_lem flows t

run_depth : (flows : List Flow) (r : Runs) → depth_of flows r ≡ depth_run (map (λ f. f.depth) flows) r
run_depth flows (RunsTest t) = refl
run_depth flows (RunsFlow t) = depth_at_lem flows t

last_at : {X : Type 0} (xs : List X) (x : X) (ys : List X) → slice_get (xs ++ x ∷ ys) (length xs) ≡ Some x
last_at [] x ys = refl
last_at (y ∷ xs) x ys = last_at xs x ys

module _ (d : Draft) where
  -- the deepest flow that is run is the same by the rows and by the depths that they tell
  deepest_told : (flows : List Flow) (its : List Item) → deepest flows its ≡ deepest_run (map (λ f. f.depth) flows) (map (item_of d) its)
  deepest_told flows [] = refl
  deepest_told flows (it ∷ its) = ap (λ n. max n (deepest flows its)) (run_depth flows it.runs) ∙ ap (max (depth_run (map (λ f. f.depth) flows) it.runs)) (deepest_told flows its)

  module _ (text : List ℕ) (start : Draft) (k : FlowsKept text start d) where
    own_items_lem : (n : ℕ) (f : Flow) → slice_get d.flows n ≡ Some f → items_in (map (item_of d) d.items) (flow_of f) ≡ map (item_of d) (rows_of f.items d.items)
    own_items_lem n f at =
        let to : f.items.from + (f.items.to - f.items.from) ≡ f.items.to = omega (arith, k.has_item n f at) in
        ap (λ m. between f.items.from m (map (item_of d) d.items)) to ∙ between_map (item_of d) f.items.from f.items.to d.items

    -- flow by flow
    told_from : (done flows : List Flow) → done ++ flows ≡ d.flows → depths_from (map (item_of d) d.items) (map (λ f. f.depth) done) (map flow_of flows) ≡ map (λ f. f.depth) d.flows
    told_from done [] e = ap (map (λ f. f.depth)) (sym (append-nil done) ∙ e)
    told_from done (f ∷ flows) e =
        let items = map (item_of d) d.items in
        let earlier = map (λ f. f.depth) done in
        let at : slice_get d.flows (length done) ≡ Some f = sym (ap (λ l. slice_get l (length done)) e) ∙ last_at done f flows in
        let before : take (length done) d.flows ≡ done = sym (ap (take (length done)) e) ∙ take_at done (f ∷ flows) (length done) refl in
        let deep : 1 + deepest_run earlier (items_in items (flow_of f)) ≡ f.depth =
        ap (λ l. 1 + deepest_run earlier l) (own_items_lem (length done) f at)
        ∙ (ap (λ n. 1 + n) (sym (deepest_told done (rows_of f.items d.items)))
        ∙ (ap (λ l. 1 + deepest l (rows_of f.items d.items)) (sym before) ∙ sym (k.depth (length done) f at))) in
        ap (λ n. depths_from items (earlier ++ n ∷ []) (map flow_of flows)) deep
        ∙ (ap (λ l. depths_from items l (map flow_of flows)) (sym (map-append (λ f. f.depth) done (f ∷ [])))
        ∙ told_from (done ++ f ∷ []) flows (append_assoc done (f ∷ []) flows ∙ e))

    pub depths_told : DepthsTold d
    unfolding meaning depths
    depths_told = sym (told_from [] d.flows refl)

    pub depth_fits_lem : DepthFits (meaning d)
    depth_fits_lem n depth at =
        let m = made_of (λ f. f.depth) d.flows n depth (ap (λ l. slice_get l n) depths_told ∙ at) in
        subst (λ x. x ≤ 8) m.is (k.shallow n m.row m.at)
