-- What a flow adds to the tables where it is closed: its row, and the targets of its clauses.
use Rattle.std.proofs.Common.{◌≡◌, ℕ, zero, suc, ◌+◌, ◌<◌, ◌≤◌, leb, ◌⊎◌, List, [], ◌∷◌, ◌++◌, map, length, take, drop, is_some, Some, None, Ok, Err, Option, Result, sym, refl, ap, ◌∙◌, subst, inl, inr, arith, length-append}
use Rattle.std.proofs.lemmas.List.{drop_at, take_at, map-append, length-map}
use Rattle.std.proofs.lemmas.Bool.{or_parts, leb-false}
use Rattle.std.specs.List.{slice_get}
use Rattle.tokens.specs.Terminals.{Tokens}
use Rattle.grammar.specs.Readers.{name_in}
use Rattle.plan.specs.declared.rows.Clause.{Clause}
use Rattle.plan.specs.declared.rows.Flow.{Flow}
use Rattle.plan.specs.declared.rows.Item.{Item}
use Rattle.plan.specs.declared.rows.Name.{Name}
use Rattle.plan.specs.declared.rows.Next.{Next}
use Rattle.plan.specs.declared.rows.Next.TheVariants.{GoTo, Return}
use Rattle.plan.specs.Drafts.{Draft, with_flow, with_clauses}
use Rattle.plan.specs.Rules.{spelt}
use Rattle.plan.proofs.Added.{Earlier, the_same, nth_added}
use Rattle.plan.proofs.Spans.{never_some}
use Rattle.names.specs.Names.{found}
use Rattle.names.proofs.Found.{found_below, none_found}
use Rattle.refusals.specs.declared.fault.LoadFault.{LoadFault}
use Rattle.refusals.specs.declared.fault.RuleFault.TheVariants.{DeclaredBefore, TableFull}
use Rattle.refusals.specs.Steps.{ended}
use Rattle.refusals.proofs.Passing.{no_fault, accepted, parse_passed, then_passed, refuse_passed}
use Rattle.refusals.proofs.Spelled.{NamesAt, want_leaves, name_at}
use Rattle.clauses.proofs.Kept.{ReturnsFit, leads}
use Rattle.flows.specs.Checks.{item_name, deepest, word_at, target, next_resolved, leading_to, and_then, clauses_resolved, behind}
use Rattle.flows.specs.Flows.{name_of, span, items_in, runnable, with_targets, flow_in}
use Rattle.flows.proofs.Following.{nth_either}
use Rattle.flows.proofs.Keeping.{items_added, items_behind}
use Rattle.flows.proofs.Resolving.{led}
use Rattle.flows.proofs.Kept.{ClauseKept, value_spans, counter_spans, Held, ItemKept, ItemsAdded, items_kept_lem, rows_length}

-- what was resolved is what is told
told : {X : Type 0} {x y : X} → ◌≡◌ {A = Result X LoadFault} (Ok x) (Ok y) → x ≡ y
told e = cc

abbrev goal : Next → ℕ
goal (GoTo i) = i
goal (Return v) = 0

-- a GoTo leads to an item from the first on
abbrev pub Stays : ℕ → ℕ → Next → Type 0
Stays first to next = (t : ℕ) → next ≡ GoTo t → (first ≤ t) × (t < to)

module _ (text : List ℕ) (first : ℕ) (items : List Item) where
  next_kept : (n m : Next) → next_resolved text first items n ≡ Ok m → ReturnsFit n → ReturnsFit m × Stays first (first + length items) m
  next_kept (Return v) m e fits =
      let is : Return v ≡ m = told e in
      (subst ReturnsFit is fits, λ t g. let z : ◌≡◌ {A = ℕ} 1 0 = ap leads (is ∙ g) in absurd (omega arith))
  next_kept (GoTo p) m e fits = by (found item_name text items (word_at text p)) refl e
    where
      by : (o : Option ℕ) → found item_name text items (word_at text p) ≡ o → target first o p ≡ Ok m → ReturnsFit m × Stays first (first + length items) m
      by (Some k) f e =
          let is : GoTo (first + k) ≡ m = told e in
          let low = found_below item_name text (word_at text p) items k f in
          ((λ v g. let z : ◌≡◌ {A = ℕ} 0 1 = ap leads (is ∙ g) in absurd (omega arith)), λ t g. let at : first + k ≡ t = ap goal (is ∙ g) in (omega (arith, at), omega (arith, at, low)))
      by None f e = let z : ◌≡◌ {A = ℕ} 0 1 = cc in absurd (omega arith)

  -- a clause that leads to its target
  pub record LedFrom (rows : List Clause) (i : ℕ) (c : Clause) : Type 0 where
    pub was : Clause
    pub at : slice_get rows i ≡ Some was
    pub next : Next
    pub is : led was next ≡ c
    pub resolved : next_resolved text first items was.next ≡ Ok next

  pub record AllLed (rows cs : List Clause) : Type 0 where
    pub values : value_spans cs ≡ value_spans rows
    pub counters : counter_spans cs ≡ counter_spans rows
    pub many : length cs ≡ length rows
    pub each : (i : ℕ) (c : Clause) → slice_get cs i ≡ Some c → LedFrom rows i c

  pub all_led : (rows cs : List Clause) → clauses_resolved text first items rows ≡ Ok cs → AllLed rows cs
  all_led [] cs e = subst (AllLed []) (told e) (record { values = refl; counters = refl; many = refl; each = λ i c at. never_some c at })
  all_led (r ∷ rows) cs e = by (next_resolved text first items r.next) refl (clauses_resolved text first items rows) e (all_led rows)
    where
      one : (n : Next) (ls : List Clause) → next_resolved text first items r.next ≡ Ok n → AllLed rows ls → (i : ℕ) (c : Clause) → slice_get (led r n ∷ ls) i ≡ Some c → LedFrom (r ∷ rows) i c
      one n ls h l zero c at = record { was = r; at = refl; next = n; is = the_same at; resolved = h }
      one n ls h l (suc i) c at = let o = l.each i c at in record { was = o.was; at = o.at; next = o.next; is = o.is; resolved = o.resolved }

      by : (x : Result Next LoadFault) → next_resolved text first items r.next ≡ x → (y : Result (List Clause) LoadFault) → and_then (leading_to r x) y ≡ Ok cs → ((ls : List Clause) → y ≡ Ok ls → AllLed rows ls) → AllLed (r ∷ rows) cs
      by (Ok n) h (Ok ls) e later =
          let l = later ls refl in
          subst (AllLed (r ∷ rows)) (told e) (record { values = ap (λ x. r.values ∷ x) l.values; counters = ap (λ x. r.counters ∷ x) l.counters; many = ap suc l.many; each = one n ls h l })
      by (Ok n) h (Err f) e later = let z : ◌≡◌ {A = ℕ} 0 1 = cc in absurd (omega arith)
      by (Err f) h y e later = let z : ◌≡◌ {A = ℕ} 0 1 = cc in absurd (omega arith)

  -- the rules of a clause stay kept, and its target is an item of the flow
  clause_led : (d : Draft) (mentions : List ℕ) (rows : List Clause) → ((i : ℕ) (c : Clause) → slice_get rows i ≡ Some c → ClauseKept d.bins (length d.counters) mentions c) → (i : ℕ) (c : Clause) → LedFrom rows i c → ClauseKept d.bins (length d.counters) mentions c × Stays first (first + length items) c.next
  clause_led d mentions rows kept i c l =
      let k = kept i l.was l.at in
      let n = next_kept l.was.next l.next l.resolved k.returns in
      subst (λ c. ClauseKept d.bins (length d.counters) mentions c × Stays first (first + length items) c.next) l.is
      (record { has_value = k.has_value; within = k.within; named_once = k.named_once; named = k.named; leaf = k.leaf; returns = n.0 }, n.1)

-- a flow that was added
pub record FlowAdded (text : List ℕ) (d e : Draft) : Type 0 where
  pub flow : Flow
  -- the tables where its closing brace was read
  pub read : Draft
  pub items : ItemsAdded text d read
  pub has_item : length d.items < length e.items
  -- its clauses with their targets
  pub targets : List Clause
  pub is : with_flow flow (with_clauses (d.clauses ++ targets) read) ≡ e
  pub led : AllLed text (length d.items) (drop (length d.items) read.items) items.rows.rows targets
  pub clauses_kept : (i : ℕ) (c : Clause) → slice_get targets i ≡ Some c → ClauseKept d.bins (length d.counters) e.mentions c × Stays (length d.items) (length e.items) c.next
  pub items_kept : (i : ℕ) (it : Item) → slice_get items.more i ≡ Some it → ItemKept d e.values (value_spans e.clauses) it
  pub flows : e.flows ≡ d.flows ++ flow ∷ []
  pub few : length e.flows ≤ 64
  pub own_items : flow.items ≡ span (length d.items) (length e.items)
  pub depth : flow.depth ≡ 1 + deepest d.flows items.more
  pub shallow : flow.depth ≤ 8
  pub new_test : (i : ℕ) → slice_get (map (λ t. spelt text t.name) d.tests) i ≡ Some (spelt text flow.name) → ⊥
  pub new_flow : (i : ℕ) → slice_get (map (λ f. spelt text f.name) d.flows) i ≡ Some (spelt text flow.name) → ⊥

abbrev flow_row : Name → ℕ → Draft → Flow
flow_row n first x = record { name = n; items = span first (length x.items); depth = 1 + deepest x.flows (drop first x.items) }

-- every target was an item
closed_passed : (n : Name) (first : ℕ) (x : Draft) (done : List Clause) (r : Result (List Clause) LoadFault) (ts : Tokens) (e : Draft) (us : Tokens) → ended (λ y. y) (with_targets n first x (behind done r)) ts ≡ Ok (e, us) → (cs : List Clause) × (r ≡ Ok cs) × (with_flow (flow_row n first x) (with_clauses (done ++ cs) x) ≡ e) × (ts ≡ us)
closed_passed n first x done (Ok cs) ts e us h = let a = accepted h in (cs, refl, a.0, a.1)
closed_passed n first x done (Err f) ts e us h = no_fault h

pub flow_kept : (text : List ℕ) (place : ℕ) (d : Draft) (ts : Tokens) (e : Draft) (us : Tokens) → Held d → flow_in text place d ts ≡ Ok (e, us) → NamesAt text ts → FlowAdded text d e × NamesAt text us
unfolding flow_in
flow_kept text place d ts e us held h m =
    let first = length d.items in
    let room = refuse_passed (leb 64 (length d.flows)) (TableFull place) _ h in
    let n = parse_passed (name_in ts) room.1 in
    let new = refuse_passed (runnable text d n.v.0) (DeclaredBefore n.v.1) _ n.goes in
    let all = then_passed (items_in text d n.us) new.1 in
    let x = all.v in
    let end = closed_passed (name_of n.v) first x (take (length d.clauses) x.clauses) _ all.us e us all.goes in
    let spelled = name_at text ts n.v n.us n.is m in
    let neither = or_parts (is_some (found (λ t. t.name) text d.tests n.v.0)) (is_some (found (λ f. f.name) text d.flows n.v.0)) new.0 in
    let kept = items_kept_lem text d held n.us x all.us all.is (want_leaves text _ _ ts n.v n.us n.is m) in
    let p = kept.0 in
    let deep = items_added text d n.us x all.us all.is in
    let own : drop first x.items ≡ p.more = ap (drop first) p.items ∙ drop_at d.items p.more first refl in
    let rows : drop (length d.clauses) x.clauses ≡ p.rows.rows = ap (drop (length d.clauses)) p.rows.clauses ∙ drop_at d.clauses p.rows.rows (length d.clauses) refl in
    let done : take (length d.clauses) x.clauses ≡ d.clauses = ap (take (length d.clauses)) p.rows.clauses ∙ take_at d.clauses p.rows.rows (length d.clauses) refl in
    let l = subst (λ r. AllLed text first (drop first x.items) r end.0) rows (all_led text first (drop first x.items) (drop (length d.clauses) x.clauses) end.0 end.1) in
    let row = flow_row (name_of n.v) first x in
    let many : first + length (drop first x.items) ≡ length x.items = omega (arith, ap length own, rows_length d.items x.items p.more p.items) in
    let spans : value_spans x.clauses ≡ value_spans (d.clauses ++ end.0) = ap value_spans p.rows.clauses ∙ (map-append (λ c. c.values) d.clauses p.rows.rows ∙ (ap (λ s. value_spans d.clauses ++ s) (sym l.values) ∙ sym (map-append (λ c. c.values) d.clauses end.0))) in
    let depth : row.depth ≡ 1 + deepest d.flows p.more = ap (λ f. 1 + deepest f (drop first x.items)) p.rows.others.flows ∙ ap (λ its. 1 + deepest d.flows its) own in
    let low : deepest d.flows p.more < 8 = subst (λ its. deepest d.flows its < 8) (sym (items_behind deep) ∙ own) deep.shallow in
    let added : FlowAdded text d (with_flow row (with_clauses (d.clauses ++ end.0) x)) = record {
      flow = row;
      read = x;
      items = p;
      has_item = kept.1;
      targets = end.0;
      is = refl;
      led = l;
      clauses_kept = λ i c at. subst (λ to. ClauseKept d.bins (length d.counters) x.mentions c × Stays first to c.next) many (clause_led text first (drop first x.items) d x.mentions p.rows.rows p.rows.kept i c (l.each i c at));
      items_kept = λ i it at. subst (λ s. ItemKept d x.values s it) spans (p.kept i it at);
      flows = ap (λ f. f ++ row ∷ []) p.rows.others.flows;
      few = omega (arith, length-append x.flows (row ∷ []), ap length p.rows.others.flows, leb-false 64 (length d.flows) room.0);
      own_items = refl;
      depth = depth;
      shallow = omega (arith, depth, low);
      new_test = λ i is. none_found (λ t. t.name) text n.v.0 d.tests neither.0 i (is ∙ ap Some spelled);
      new_flow = λ i is. none_found (λ f. f.name) text n.v.0 d.flows neither.1 i (is ∙ ap Some spelled);
    } in
    let made = ap (λ c. with_flow row (with_clauses (c ++ end.0) x)) (sym done) ∙ end.2 in
    (subst (FlowAdded text d) made added, subst (NamesAt text) end.3 kept.2)

-- before the first flow
pub held_none : (d : Draft) → d.flows ≡ [] → d.items ≡ [] → Held d
held_none d f i = record { flows = λ k flow at. never_some flow (sym (ap (λ l. slice_get l k) f) ∙ at); items = λ k it at. never_some it (sym (ap (λ l. slice_get l k) i) ∙ at) }

-- and behind each
pub flow_held : (text : List ℕ) (d e : Draft) → Held d → FlowAdded text d e → Held e
flow_held text d e held a = record {
  flows = λ k flow at. flows flow k (nth_added d.flows a.flow k flow (sym (ap (λ l. slice_get l k) a.flows) ∙ at));
  items = λ k it at. items k it (nth_either d.items a.items.more k it (sym (ap (λ l. slice_get l k) (sym (ap (λ x. x.items) a.is) ∙ a.items.items)) ∙ at));
}
  where
    flows : (flow : Flow) (k : ℕ) → Earlier d.flows a.flow k flow → flow.items.to ≤ length e.items
    flows flow k (inl at) = omega (arith, held.flows k flow at, a.has_item)
    flows flow k (inr at) = let to : flow.items.to ≡ length e.items = ap (λ f. f.items.to) at.1 ∙ ap (λ s. s.to) a.own_items in omega (arith, to)

    items : (k : ℕ) (it : Item) → (slice_get d.items k ≡ Some it) ⊎ ((j : ℕ) × (slice_get a.items.more j ≡ Some it)) → it.clauses.to ≤ length e.clauses
    items k it (inl at) = omega (arith, held.items k it at, rows_length d.clauses e.clauses a.targets (sym (ap (λ x. x.clauses) a.is)))
    items k it (inr at) = omega (arith, (a.items_kept at.0 it at.1).within, length-map e.clauses (λ c. c.values))
