-- What the clauses of an item, and the items of a flow, leave alone, and what they add.
use Rattle.std.proofs.Common.{◌≡◌, ℕ, ◌<◌, ◌≤◌, max, not, leb, List, [], ◌∷◌, ◌++◌, length, drop, is_some, Some, None, Ok, Option, sym, refl, ap, ◌∙◌, subst, append_assoc, append-nil, arith, length-append}
use Rattle.std.proofs.lemmas.List.{drop_at}
use Rattle.std.proofs.lemmas.Bool.{leb-false}
use Rattle.std.specs.List.{slice_get}
use Rattle.keywords.specs.declared.Keyword.TheVariants as kw
use Rattle.tokens.specs.Terminals.{Tokens}
use Rattle.grammar.specs.declared.symbols.Found.{Found}
use Rattle.grammar.specs.Readers.{Spot, name_in}
use Rattle.plan.specs.declared.rows.Flow.{Flow}
use Rattle.plan.specs.declared.rows.Item.{Item}
use Rattle.plan.specs.declared.rows.Runs.{Runs}
use Rattle.plan.specs.Drafts.{Draft, with_item}
use Rattle.names.specs.Names.{found}
use Rattle.refusals.specs.declared.fault.RuleFault.TheVariants.{DeclaredBefore, TableFull, ReturnNotListed, TooDeep}
use Rattle.refusals.specs.Shapes.{is_keyword}
use Rattle.refusals.proofs.Passing.{no_fault, accepted, parse_passed, then_passed, refuse_passed, rows_keep}
use Rattle.clauses.specs.Clauses.{clause_in}
use Rattle.clauses.proofs.Beside.{Beside, beside_then}
use Rattle.clauses.proofs.Kept.{clause_beside}
use Rattle.flows.proofs.Braces.{braced_passed}
use Rattle.flows.specs.Checks.{item_name, depth_in, depth_of, deepest}
use Rattle.flows.specs.Flows.{clauses_in, flow_run, test_run, runs_in, run_listed, item_in, items_in}

-- the clauses of an item leave alone what is not theirs
pub clauses_beside : (text : List ℕ) (d : Draft) (ts : Tokens) (e : Draft) (us : Tokens) → clauses_in text d ts ≡ Ok (e, us) → Beside d e
clauses_beside text d ts e us h =
    let row = λ (f : Found). clause_in text f.place (length d.values) in
    let b = braced_passed (is_keyword kw.Result) row d ts e us h in
    rows_keep (is_keyword kw.Result) row (λ s _. Beside d s)
    (λ s ts f us k p. p)
    (λ f s ts t us k p. beside_then p (clause_beside text f.place (length d.values) s ts t us k))
    d b.first b.behind (e, b.last) us
    (λ x vs k. clause_beside text b.first.place (length d.values) d b.behind x vs k)
    b.begun b.rows

-- a flow that is run is not too deep
runs_shallow : (text : List ℕ) (d : Draft) (ts : Tokens) (runs : Runs) (us : Tokens) → runs_in text d ts ≡ Ok (runs, us) → depth_of d.flows runs < 8
runs_shallow text d ts runs us h =
    let n = parse_passed (name_in ts) h in
    by n.v (found (λ t. t.name) text d.tests n.v.0) n.us n.goes
  where
    flow : (p : ℕ) (o : Option ℕ) (vs : Tokens) → flow_run d p o vs ≡ Ok (runs, us) → depth_of d.flows runs < 8
    flow p None vs k = no_fault k
    flow p (Some f) vs k =
        let kept = refuse_passed (leb 8 (depth_in (slice_get d.flows f))) (TooDeep p) _ k in
        subst (λ r. depth_of d.flows r < 8) (accepted kept.1).0 (leb-false 8 _ kept.0)

    by : (n : Spot) (o : Option ℕ) (vs : Tokens) → test_run text d n o vs ≡ Ok (runs, us) → depth_of d.flows runs < 8
    by n (Some t) vs k = subst (λ r. depth_of d.flows r < 8) (accepted k).0 (omega arith)
    by n None vs k = flow n.1 (found (λ f. f.name) text d.flows n.0) vs k

deepest_more : (flows : List Flow) (xs : List Item) (x : Item) → deepest flows (xs ++ x ∷ []) ≡ max (deepest flows xs) (depth_of flows x.runs)
deepest_more flows [] x = omega arith
deepest_more flows (y ∷ ys) x = omega (arith, deepest_more flows ys x)

-- what the items of a flow have added to the tables: rows of items, few enough, that run no flow that is too deep
pub record Added (d e : Draft) : Type 0 where
  pub flows : e.flows ≡ d.flows
  pub more : List Item
  pub items : e.items ≡ d.items ++ more
  pub shallow : deepest d.flows more < 8
  pub few : length e.items ≤ 512

row_added : (d s e : Draft) (row : Item) → Added d s → Beside s e → depth_of s.flows row.runs < 8 → length s.items < 512 → Added d (with_item row e)
row_added d s e row p b low room = record {
  flows = b.flows ∙ p.flows;
  more = p.more ++ row ∷ [];
  items = ap (λ l. l ++ row ∷ []) (b.items ∙ p.items) ∙ append_assoc d.items p.more (row ∷ []);
  shallow = omega (arith, deepest_more d.flows p.more row, subst (λ l. depth_of l row.runs < 8) p.flows low, p.shallow);
  few = omega (arith, length-append e.items (row ∷ []), ap length b.items, room);
}

item_added : (text : List ℕ) (first place : ℕ) (d s : Draft) (ts : Tokens) (t : Draft) (us : Tokens) → item_in text first place s ts ≡ Ok (t, us) → Added d s → Added d t
item_added text first place d s ts t us h p =
    let room = refuse_passed (leb 512 (length s.items)) (TableFull place) _ h in
    let n = parse_passed (name_in ts) room.1 in
    let new = refuse_passed (is_some (found item_name text (drop first s.items) n.v.0)) (DeclaredBefore n.v.1) _ n.goes in
    let runs = then_passed (runs_in text s n.us) new.1 in
    let clauses = then_passed (clauses_in text s runs.us) runs.goes in
    let listed = refuse_passed (not (run_listed clauses.v (length s.values) runs.v)) (ReturnNotListed n.v.1) _ clauses.goes in
    let b = clauses_beside text s runs.us clauses.v clauses.us clauses.is in
    subst (Added d) (accepted listed.1).0 (row_added d s clauses.v _ p b (runs_shallow text s n.us runs.v runs.us runs.is) (leb-false 512 _ room.0))

-- what is known of the items where the flow is closed
pub items_added : (text : List ℕ) (d : Draft) (ts : Tokens) (e : Draft) (us : Tokens) → items_in text d ts ≡ Ok (e, us) → Added d e
items_added text d ts e us h =
    let row = λ (f : Found). item_in text (length d.items) f.place in
    let b = braced_passed (is_keyword kw.FlowItem) row d ts e us h in
    rows_keep (is_keyword kw.FlowItem) row (λ s _. Added d s)
    (λ s ts f us k p. p)
    (λ f. item_added text (length d.items) f.place d)
    d b.first b.behind (e, b.last) us
    (λ x vs k.
    let room = refuse_passed (leb 512 (length d.items)) (TableFull b.first.place) _ k in
    item_added text (length d.items) b.first.place d d b.behind x vs k (record { flows = refl; more = []; items = sym (append-nil d.items); shallow = omega arith; few = omega (arith, leb-false 512 (length d.items) room.0) }))
    b.begun b.rows

-- the rows from the first item of the flow on are its items
pub items_behind : {d e : Draft} (p : Added d e) → drop (length d.items) e.items ≡ p.more
items_behind {d} p = ap (drop (length d.items)) p.items ∙ drop_at d.items p.more (length d.items) refl
