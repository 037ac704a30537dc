-- Every place told while a flow is read, and when it is closed, is at most n.
use Rattle.std.proofs.Common.{ℕ, ◌≤◌, not, leb, List, [], ◌∷◌, length, drop, is_some, Some, None, Ok, Err, Option, Result, arith}
use lib.Seq.{drop-length}
use Rattle.std.specs.List.{AllByRecursion as All, slice_get}
use Rattle.text_bytes.specs.declared.kinds.Mark.TheVariants as mk
use Rattle.keywords.specs.declared.Keyword.TheVariants as kw
use Rattle.tokens.specs.Terminals.{Tokens}
use Rattle.tokens.specs.Spelling.{Within}
use Rattle.grammar.specs.Readers.{Spot}
use Rattle.plan.specs.declared.rows.Clause.{Clause}
use Rattle.plan.specs.declared.rows.Item.{Item}
use Rattle.plan.specs.declared.rows.Name.{Name}
use Rattle.plan.specs.declared.rows.Next.{Next}
use Rattle.plan.specs.declared.rows.Next.TheVariants.{GoTo, Return}
use Rattle.plan.specs.Drafts.{Draft}
use Rattle.refusals.specs.declared.fault.LoadFault.{LoadFault}
use Rattle.names.specs.Names.{found}
use Rattle.refusals.specs.Steps.{ended}
use Rattle.refusals.specs.Shapes.{is_keyword, is_mark}
use Rattle.flows.specs.Checks.{item_name, depth_in, target, next_resolved, leading_to, and_then, clauses_resolved, behind}
use Rattle.flows.specs.Flows.{clauses_in, flow_run, test_run, runs_in, run_listed, item_in, items_in, runnable, with_targets, closed, flow_in}
use Rattle.plan_file.specs.File.{PlaceWithin}
use Rattle.plan_file.proofs.Nearby.{Near, Any, made, failed, either_near, spot_near, symbol_near, expect_near, parse_near, then_near, rows_near}
use Rattle.plan_file.proofs.NearBins.{BinsNear}
use Rattle.plan_file.proofs.NearClauses.{NextNear, ClauseNear, FlowNear, clause_near}

-- the closing of a flow

module _ (n : ℕ) (text : List ℕ) (first : ℕ) (items : List Item) where
  next_resolved_near : (x : Next) → NextNear n x → PlaceWithin n (next_resolved text first items x)
  next_resolved_near (GoTo p) l = by _
    where
      by : (o : Option ℕ) → PlaceWithin n (target first o p)
      by (Some k) = tt
      by None = l
  next_resolved_near (Return v) l = tt

  resolved_near : (cs : List Clause) → All (ClauseNear n) cs → PlaceWithin n (clauses_resolved text first items cs)
  resolved_near [] a = tt
  resolved_near (c ∷ cs) a = by _ _ (next_resolved_near c.next a.0) (resolved_near cs a.1)
    where
      by : (x : Result Next LoadFault) (r : Result (List Clause) LoadFault) → PlaceWithin n x → PlaceWithin n r → PlaceWithin n (and_then (leading_to c x) r)
      by (Ok x) (Ok cs) l m = tt
      by (Ok x) (Err e) l m = m
      by (Err e) r l m = l

closed_near : {n : ℕ} (text : List ℕ) (name : Name) (first from : ℕ) (d : Draft) (ts : Tokens) → FlowNear n from d → Within n ts → Near n (BinsNear n) (ended (λ x. x) (closed text name first from d) ts)
closed_near {n} text name first from d ts h w = by _ _ (resolved_near n text first (drop first d.items) (drop from d.clauses) h.2)
  where
    by : (done : List Clause) (r : Result (List Clause) LoadFault) → PlaceWithin n r → Near n (BinsNear n) (ended (λ x. x) (with_targets name first d (behind done r)) ts)
    by done (Ok cs) l = made h.0 w
    by done (Err e) l = failed l

-- items and flows

module _ {n : ℕ} (text : List ℕ) where
  runs_near : (d : Draft) (ts : Tokens) → Within n ts → Near n Any (runs_in text d ts)
  runs_near d ts w =
      parse_near (spot_near _ ts w) λ v ts l w.
      of_test v _ ts l w
    where
      of_flow : (p : ℕ) (o : Option ℕ) (ts : Tokens) → p ≤ n → Within n ts → Near n Any (flow_run d p o ts)
      of_flow p None ts l w = failed l
      of_flow p (Some f) ts l w = either_near (leb 8 (depth_in (slice_get d.flows f))) (failed l) (made tt w)

      of_test : (v : Spot) (o : Option ℕ) (ts : Tokens) → v.1 ≤ n → Within n ts → Near n Any (test_run text d v o ts)
      of_test v (Some t) ts l w = made tt w
      of_test v None ts l w = of_flow v.1 _ ts l w

  module _ (from : ℕ) where
    clauses_near : (d : Draft) (ts : Tokens) → FlowNear n from d → Within n ts → Near n (FlowNear n from) (clauses_in text d ts)
    clauses_near d ts h w =
        parse_near (expect_near _ ts w) λ _ ts _ w.
        parse_near (symbol_near ts w) λ f ts l w.
        either_near (is_keyword kw.Result f)
        (then_near (rows_near (FlowNear n from) _ _ (λ f e ts l h w. clause_near text from f.place (length d.values) e ts l h w) (d, f) ts (h, l) w) λ s ts h w.
        either_near (is_mark mk.CloseBrace s.1) (made h.0 w) (failed h.1))
        (failed l)

    item_near : (first p : ℕ) (d : Draft) (ts : Tokens) → p ≤ n → FlowNear n from d → Within n ts → Near n (FlowNear n from) (item_in text first p d ts)
    item_near first p d ts l h w =
        either_near (leb 512 (length d.items)) (failed l)
        (parse_near (spot_near _ ts w) λ v ts l w.
        either_near (is_some (found item_name text (drop first d.items) v.0)) (failed l)
        (then_near (runs_near d ts w) λ runs ts _ w.
        then_near (clauses_near d ts h w) λ e ts h w.
        either_near (not (run_listed e (length d.values) runs)) (failed l)
        (made h w)))

    items_near : (d : Draft) (ts : Tokens) → FlowNear n from d → Within n ts → Near n (FlowNear n from) (items_in text d ts)
    items_near d ts h w =
        parse_near (expect_near _ ts w) λ _ ts _ w.
        parse_near (symbol_near ts w) λ f ts l w.
        either_near (is_keyword kw.FlowItem f)
        (then_near (rows_near (FlowNear n from) _ _ (λ f e ts l h w. item_near (length d.items) f.place e ts l h w) (d, f) ts (h, l) w) λ s ts h w.
        either_near (is_mark mk.CloseBrace s.1) (made h.0 w) (failed h.1))
        (failed l)

  pub flow_near : (p : ℕ) (d : Draft) (ts : Tokens) → p ≤ n → BinsNear n d → Within n ts → Near n (BinsNear n) (flow_in text p d ts)
  unfolding flow_in
  flow_near p d ts l b w =
      let begun : FlowNear n (length d.clauses) d = (b, omega arith, rw (drop-length d.clauses) tt) in
      either_near (leb 64 (length d.flows)) (failed l)
      (parse_near (spot_near _ ts w) λ v ts l w.
      either_near (runnable text d v.0) (failed l)
      (then_near (items_near (length d.clauses) d ts begun w) λ e ts h w.
      closed_near text _ (length d.items) (length d.clauses) e ts h w))
