-- The depth of a flow is one more than that of the deepest flow that it runs.
use Rattle.std.proofs.Common.{◌≡◌, ℕ, zero, suc, ◌+◌, ◌<◌, max, List, [], ◌∷◌, ◌++◌, map, length, get_or, Some, sym, refl, ap, ◌∙◌, arith}
use mathlib.Core.Logic.{∥∥₁_elim}
use native.Mathlib.Bridge.{le_prop}
use native.Mathlib.Nat.{ℕ_set}
use Rattle.std.specs.Option.{option_map}
use Rattle.std.specs.List.{slice_get}
use Rattle.std.proofs.lemmas.List.{get_or_append_left, get_or_push, length_push}
use Rattle.plan.specs.declared.rows.Flow.{Flow}
use Rattle.plan.specs.declared.rows.Runs.{Runs}
use Rattle.plan.specs.declared.rows.Runs.TheVariants.{Test as RunsTest, Flow as RunsFlow}
use Rattle.plan.specs.Drafts.{Draft}
use Rattle.plan.specs.Meaning.{Meaning, PlanItem, PlanFlow, meaning, flow_of, depth_run, deepest, items_in, depths_from, depths}
use Rattle.plan.specs.Rules.{Keeps, Lawful, RunsEarlierFlow, DepthsTold}
use Rattle.plan.specs.Finding.{FlowDepth}
use Rattle.plan.proofs.Laws.{some_flow_lawful}
use Rattle.plan.proofs.Readings.{nth_map, flow_meant}
use Rattle.plan.proofs.Spans.{never_some, nth_between, nth_between_lt}

-- what each of the items runs, is of one depth by both lists
abbrev Agree : List ℕ → List ℕ → List PlanItem → Type 0
Agree a b its = (j t : ℕ) (it : PlanItem) → slice_get its j ≡ Some it → it.runs ≡ RunsFlow t → get_or a t 0 ≡ get_or b t 0

run_same : (a b : List ℕ) (r : Runs) → ((t : ℕ) → r ≡ RunsFlow t → get_or a t 0 ≡ get_or b t 0) → depth_run a r ≡ depth_run b r
run_same a b (RunsTest t) h = refl
run_same a b (RunsFlow t) h = h t refl

deepest_same : (a b : List ℕ) (its : List PlanItem) → Agree a b its → deepest a its ≡ deepest b its
deepest_same a b [] h = refl
deepest_same a b (it ∷ its) h =
    let x = run_same a b it.runs (λ t e. h 0 t it refl e) in
    let y = deepest_same a b its (λ j t i n e. h (suc j) t i n e) in
    ap (λ n. max n (deepest a its)) x ∙ ap (max (depth_run b it.runs)) y

module _ (items : List PlanItem) where
  -- depths that are known stay
  known : (fs : List PlanFlow) (earlier : List ℕ) (t : ℕ) → t < length earlier → get_or earlier t 0 ≡ get_or (depths_from items earlier fs) t 0
  known [] earlier t h = refl
  known (f ∷ fs) earlier t h =
      let x = 1 + deepest earlier (items_in items f) in
      let l = length_push earlier x in
      sym (get_or_append_left earlier (x ∷ []) 0 t h) ∙ known fs (earlier ++ x ∷ []) t (omega arith)

  deep : (fs : List PlanFlow) (earlier : List ℕ) (k : ℕ) (f : PlanFlow) → slice_get fs k ≡ Some f → ((j t : ℕ) (it : PlanItem) → slice_get (items_in items f) j ≡ Some it → it.runs ≡ RunsFlow t → t < length earlier + k) → get_or (depths_from items earlier fs) (length earlier + k) 0 ≡ 1 + deepest (depths_from items earlier fs) (items_in items f)
  deep [] earlier k f e h = never_some f e
  deep (g ∷ fs) earlier zero f e h =
      let same : g ≡ f = cc in
      let x = 1 + deepest earlier (items_in items g) in
      let whole = depths_from items earlier (g ∷ fs) in
      let l = length_push earlier x in
      let z : length earlier + 0 ≡ length earlier = omega arith in
      ap (λ n. get_or whole n 0) z
      ∙ sym (known fs (earlier ++ x ∷ []) (length earlier) (omega arith))
      ∙ get_or_push earlier x 0 (length earlier) refl
      ∙ ap (λ (y : PlanFlow). 1 + deepest earlier (items_in items y)) same
      ∙ ap (λ n. 1 + n) (deepest_same earlier whole (items_in items f) (λ j t it n r. let b : t < length earlier = let b0 = h j t it n r in omega arith in known (g ∷ fs) earlier t b))
  deep (g ∷ fs) earlier (suc k) f e h =
      let x = 1 + deepest earlier (items_in items g) in
      let l = length_push earlier x in
      let z : length earlier + suc k ≡ length (earlier ++ x ∷ []) + k = omega arith in
      ap (λ n. get_or (depths_from items earlier (g ∷ fs)) n 0) z
      ∙ deep fs (earlier ++ x ∷ []) k f e (λ j t it n r. let b = h j t it n r in omega arith)

pub depth_over : (m : Meaning) → RunsEarlierFlow m → (i : ℕ) (f : PlanFlow) → slice_get m.flows i ≡ Some f → get_or (depths m) i 0 ≡ 1 + deepest (depths m) (items_in m.items f)
unfolding depths
depth_over m law i f e =
    let z : 0 + i ≡ i = omega arith in
    let earlier : (j t : ℕ) (it : PlanItem) → slice_get (items_in m.items f) j ≡ Some it → it.runs ≡ RunsFlow t → t < 0 + i = λ j t it n r.
    let here = nth_between f.first (f.first + f.count) m.items j it n in
    let below = nth_between_lt f.first (f.first + f.count) m.items j it n in
    let b = law i (f.first + j) t f it e (omega arith, below) here r in
    omega arith in
    sym (ap (λ n. get_or (depths_from m.items [] m.flows) n 0) z) ∙ deep m.items m.flows [] i f e earlier

at_nth : (xs : List ℕ) (i n : ℕ) → slice_get xs i ≡ Some n → n ≡ get_or xs i 0
at_nth [] i n e = never_some n e
at_nth (x ∷ xs) zero n e = cc
at_nth (x ∷ xs) (suc i) n e = at_nth xs i n e

not_none : {X : Type 0} (xs : List X) (i : ℕ) (x : X) → slice_get xs i ≡ Some x → length xs ≡ 0 → ⊥
not_none [] i x e z = never_some x e
not_none (y ∷ xs) i x e z = omega arith

-- what the row of a flow tells
pub flow_depth : (d : Draft) → ∥ Keeps (meaning d) ∥₁ → ∥ DepthsTold d ∥₁ → (i : ℕ) (f : Flow) → Some f ≡ slice_get d.flows i → FlowDepth (meaning d) i (flow_of f) f.depth
flow_depth d k t i f e =
    let m = meaning d in
    let law : ∥ Lawful m ∥₁ = some_flow_lawful d k (not_none d.flows i f (sym e)) in
    let row : slice_get (map (λ (x : Flow). x.depth) d.flows) i ≡ Some f.depth = sym (ap (option_map (λ (x : Flow). x.depth)) e ∙ nth_map (λ (x : Flow). x.depth) d.flows i) in
    let at : DepthsTold d → slice_get (depths m) i ≡ Some f.depth = λ q. sym (ap (λ (l : List ℕ). slice_get l i) q) ∙ row in
    let flow : slice_get m.flows i ≡ Some (flow_of f) = sym (flow_meant d i (Some f) e) in
    let told : f.depth ≡ get_or (depths m) i 0 = ∥∥₁_elim t (ℕ_set _ _) (λ q. at_nth (depths m) i f.depth (at q)) in
    record {
      told = told;
      over = told ∙ ∥∥₁_elim law (ℕ_set _ _) (λ l. depth_over m l.runs_earlier_flow i (flow_of f) flow);
      fits = ∥∥₁_elim law le_prop (λ l. ∥∥₁_elim t le_prop (λ q. l.depth_fits i f.depth (at q)));
    }
