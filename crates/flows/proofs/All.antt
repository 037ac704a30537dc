-- What the rows of all flows keep, one flow after the other.
use Rattle.std.proofs.Common.{◌≡◌, ℕ, zero, suc, ◌+◌, ◌<◌, ◌≤◌, true, ◌⊎◌, List, [], ◌∷◌, ◌++◌, map, length, take, drop, Some, Ok, sym, refl, ap, ◌∙◌, subst, inl, inr, append_assoc, append-nil, arith}
use Rattle.std.proofs.lemmas.List.{drop_at, take_at, take-append-le, map-append}
use Rattle.std.specs.List.{slice_get}
use Rattle.keywords.specs.declared.Keyword.TheVariants as kw
use Rattle.tokens.specs.Terminals.{Tokens}
use Rattle.grammar.specs.declared.symbols.Found.{Found}
use Rattle.plan.specs.declared.rows.Clause.{Clause}
use Rattle.plan.specs.declared.rows.Flow.{Flow}
use Rattle.plan.specs.declared.rows.Item.{Item}
use Rattle.plan.specs.declared.rows.Next.TheVariants.{GoTo}
use Rattle.plan.specs.declared.rows.Runs.{Runs}
use Rattle.plan.specs.declared.rows.Runs.TheVariants.{Test as RunsTest, Flow as RunsFlow}
use Rattle.plan.specs.declared.rows.Span.{Span}
use Rattle.plan.specs.declared.rows.Value.{Value}
use Rattle.plan.specs.Drafts.{Draft, with_main_flow}
use Rattle.plan.specs.Meaning.{rows_of}
use Rattle.plan.specs.Rules.{Once, spelt}
use Rattle.plan.proofs.Added.{Earlier, nth_added, nth_below, once_added, in_neither}
use Rattle.plan.proofs.Spans.{never_some}
use Rattle.refusals.specs.Steps.{many}
use Rattle.refusals.specs.Shapes.{is_keyword, row_turn}
use Rattle.refusals.proofs.Passing.{rows_keep}
use Rattle.refusals.proofs.Spelled.{NamesAt, want_leaves}
use Rattle.flows.specs.Checks.{items_listed, flow_items, deepest}
use Rattle.flows.specs.Flows.{flow_in}
use Rattle.flows.proofs.Following.{Follow, follow_then, follow_one, nth_either, between_append, span_added, flow_items_before, flow_item, listed_before}
use Rattle.flows.proofs.Kept.{ClauseKept, clause_later, value_spans, counter_spans, Known, Held, ItemKept, item_later, rows_length}
use Rattle.flows.proofs.Closed.{FlowAdded, flow_kept, held_none, flow_held}

-- the tables that flows add nothing to are the same
pub record OthersSame (d e : Draft) : Type 0 where
  pub groups : e.groups ≡ d.groups
  pub bins : e.bins ≡ d.bins
  pub counters : e.counters ≡ d.counters
  pub tests : e.tests ≡ d.tests
  pub sort_group : e.sort_group ≡ d.sort_group

-- the row stands in the span
abbrev pub Inside : Span → ℕ → Type 0
Inside s i = (s.from ≤ i) × (i < s.to)

-- the names of tests and flows taken together
abbrev pub runnables : List ℕ → Draft → List (List ℕ)
runnables text d = map (λ t. spelt text t.name) d.tests ++ map (λ f. spelt text f.name) d.flows

-- what the tables keep once flows have been added to those of `start`
pub record FlowsKept (text : List ℕ) (start d : Draft) : Type 0 where
  pub others : OthersSame start d
  pub held : Held d
  pub values_follow : Follow 0 (value_spans d.clauses) (length d.values)
  pub counters_follow : Follow 0 (counter_spans d.clauses) (length d.mentions)
  pub clauses_follow : Follow 0 (map (λ it. it.clauses) d.items) (length d.clauses)
  pub items_follow : Follow 0 (map (λ f. f.items) d.flows) (length d.items)
  pub flows_few : length d.flows ≤ 64
  pub items_few : length d.items ≤ 512
  pub clauses_few : length d.clauses ≤ 1024
  pub values_few : length d.values ≤ 2048
  pub mentions_few : length d.mentions ≤ 2048
  pub values_fit : (i : ℕ) (v : Value) → slice_get d.values i ≡ Some v → v.code < 65536
  pub clauses : (i : ℕ) (c : Clause) → slice_get d.clauses i ≡ Some c → ClauseKept d.bins (length d.counters) d.mentions c
  pub items : (i : ℕ) (it : Item) → slice_get d.items i ≡ Some it → ItemKept d d.values (value_spans d.clauses) it
  pub has_item : (k : ℕ) (f : Flow) → slice_get d.flows k ≡ Some f → f.items.from < f.items.to
  pub names : (k : ℕ) (f : Flow) → slice_get d.flows k ≡ Some f → Once (map (λ it. spelt text it.name) (rows_of f.items d.items))
  pub depth : (k : ℕ) (f : Flow) → slice_get d.flows k ≡ Some f → f.depth ≡ 1 + deepest (take k d.flows) (rows_of f.items d.items)
  pub shallow : (k : ℕ) (f : Flow) → slice_get d.flows k ≡ Some f → f.depth ≤ 8
  pub runs_earlier : (k i t : ℕ) (f : Flow) (it : Item) → slice_get d.flows k ≡ Some f → Inside f.items i → slice_get d.items i ≡ Some it → it.runs ≡ RunsFlow t → t < k
  pub stays : (k i j t : ℕ) (f : Flow) (it : Item) (c : Clause) → slice_get d.flows k ≡ Some f → Inside f.items i → slice_get d.items i ≡ Some it → Inside it.clauses j → slice_get d.clauses j ≡ Some c → c.next ≡ GoTo t → Inside f.items t
  pub runnables_once : Once (runnables text d)

-- what stands in a list stays where others are added behind
pub nth_before : {X : Type 0} (xs ys : List X) (i : ℕ) → i < length xs → slice_get (xs ++ ys) i ≡ slice_get xs i
nth_before [] ys i l = absurd (omega (arith, l))
nth_before (x ∷ xs) ys zero l = refl
nth_before (x ∷ xs) ys (suc i) l = nth_before xs ys i (omega (arith, l))

-- no span begins before the first
pub follow_from : {R : Type 0} (g : R → Span) (from : ℕ) (rows : List R) (to i : ℕ) (r : R) → Follow from (map g rows) to → slice_get rows i ≡ Some r → from ≤ (g r).from
follow_from g from [] to i r f at = never_some r at
follow_from g from (x ∷ rows) to zero r f at = let same : x ≡ r = cc in subst (λ y. from ≤ (g y).from) same (omega (arith, f.0))
follow_from g from (x ∷ rows) to (suc i) r f at = omega (arith, f.1, follow_from g (g x).to rows to i r f.2 at)

-- an item keeps what it keeps where rows are added behind
known_on : (d e : Draft) (fs : List Flow) → e.tests ≡ d.tests → e.flows ≡ d.flows ++ fs → (r : Runs) → Known d r → Known e r
known_on d e fs a b (RunsTest t) k = subst (λ l. t < length l) (sym a) k
known_on d e fs a b (RunsFlow f) k = omega (arith, k, rows_length d.flows e.flows fs b)

module _ (d e : Draft) (held : Held d) (fs : List Flow) (its : List Item) (cs : List Clause) (tests : e.tests ≡ d.tests) (flows : e.flows ≡ d.flows ++ fs) (items : e.items ≡ d.items ++ its) (clauses : e.clauses ≡ d.clauses ++ cs) where
  listed_on : (vs : List Value) (f : ℕ) → f < length d.flows → items_listed vs d.clauses (flow_items d.items (slice_get d.flows f)) ≡ true → items_listed vs e.clauses (flow_items e.items (slice_get e.flows f)) ≡ true
  listed_on vs f low h =
      let o = slice_get d.flows f in
      let same : slice_get e.flows f ≡ o = ap (λ l. slice_get l f) flows ∙ nth_before d.flows fs f low in
      ap (λ l. items_listed vs l (flow_items e.items (slice_get e.flows f))) clauses
      ∙ (ap (λ l. items_listed vs (d.clauses ++ cs) (flow_items l (slice_get e.flows f))) items
      ∙ (ap (λ x. items_listed vs (d.clauses ++ cs) (flow_items (d.items ++ its) x)) same
      ∙ (ap (items_listed vs (d.clauses ++ cs)) (flow_items_before d.items its o (held.flows f))
      ∙ (listed_before vs d.clauses cs (flow_items d.items o) (λ i x at. let y = flow_item d.items o i x at in held.items y.0 x y.1) ∙ h))))

  item_on : (vs : List Value) (ss : List Span) (it : Item) → ItemKept d vs ss it → ItemKept e vs ss it
  item_on vs ss it k = record {
    has_clause = k.has_clause;
    within = k.within;
    listed = k.listed;
    listed_within = k.listed_within;
    listed_follow = k.listed_follow;
    once = k.once;
    runs = known_on d e fs tests flows it.runs k.runs;
    returned = λ f is. listed_on (rows_of k.listed vs) f (subst (Known d) is k.runs) (k.returned f is);
  }

-- one flow more
module _ (text : List ℕ) (start d e : Draft) (k : FlowsKept text start d) (a : FlowAdded text d e) where
  items_is : e.items ≡ d.items ++ a.items.more
  items_is = sym (ap (λ x. x.items) a.is) ∙ a.items.items

  clauses_is : e.clauses ≡ d.clauses ++ a.targets
  clauses_is = sym (ap (λ x. x.clauses) a.is)

  values_is : e.values ≡ d.values ++ a.items.rows.listed
  values_is = sym (ap (λ x. x.values) a.is) ∙ a.items.rows.values

  mentions_is : e.mentions ≡ d.mentions ++ a.items.rows.named
  mentions_is = sym (ap (λ x. x.mentions) a.is) ∙ a.items.rows.mentions

  same_others : OthersSame d e
  same_others =
      let o = a.items.rows.others in
      record {
        groups = sym (ap (λ x. x.groups) a.is) ∙ o.groups;
        bins = sym (ap (λ x. x.bins) a.is) ∙ o.bins;
        counters = sym (ap (λ x. x.counters) a.is) ∙ o.counters;
        tests = sym (ap (λ x. x.tests) a.is) ∙ o.tests;
        sort_group = sym (ap (λ x. x.sort_group) a.is) ∙ o.sort_group;
      }

  -- as many clauses as were read
  clauses_many : length a.read.clauses ≡ length e.clauses
  clauses_many = omega (arith, rows_length d.clauses a.read.clauses a.items.rows.rows a.items.rows.clauses, rows_length d.clauses e.clauses a.targets clauses_is, a.led.many)

  spans_follow : {R : Type 0} (g : R → Span) (xs ys zs : List R) (mid to : ℕ) → zs ≡ xs ++ ys → Follow 0 (map g xs) mid → Follow mid (map g ys) to → Follow 0 (map g zs) to
  spans_follow g xs ys zs mid to e p q = subst (λ l. Follow 0 l to) (sym (ap (map g) e ∙ map-append g xs ys)) (follow_then 0 (map g xs) mid (map g ys) to p q)

  values_follow_lem : Follow 0 (value_spans e.clauses) (length e.values)
  values_follow_lem =
      spans_follow (λ c. c.values) d.clauses a.targets e.clauses (length d.values) (length e.values) clauses_is k.values_follow
      (subst (λ l. Follow (length d.values) l (length e.values)) (sym a.led.values) (subst (Follow (length d.values) (value_spans a.items.rows.rows)) (ap (λ x. length x.values) a.is) a.items.rows.values_follow))

  counters_follow_lem : Follow 0 (counter_spans e.clauses) (length e.mentions)
  counters_follow_lem =
      spans_follow (λ c. c.counters) d.clauses a.targets e.clauses (length d.mentions) (length e.mentions) clauses_is k.counters_follow
      (subst (λ l. Follow (length d.mentions) l (length e.mentions)) (sym a.led.counters) (subst (Follow (length d.mentions) (counter_spans a.items.rows.rows)) (ap (λ x. length x.mentions) a.is) a.items.rows.counters_follow))

  -- the clauses of the items that were added
  new_clauses : Follow (length d.clauses) (map (λ it. it.clauses) a.items.more) (length e.clauses)
  new_clauses = subst (Follow (length d.clauses) (map (λ it. it.clauses) a.items.more)) clauses_many a.items.follow

  clauses_follow_lem : Follow 0 (map (λ it. it.clauses) e.items) (length e.clauses)
  clauses_follow_lem = spans_follow (λ it. it.clauses) d.items a.items.more e.items (length d.clauses) (length e.clauses) items_is k.clauses_follow new_clauses

  items_follow_lem : Follow 0 (map (λ f. f.items) e.flows) (length e.items)
  items_follow_lem =
      spans_follow (λ f. f.items) d.flows (a.flow ∷ []) e.flows (length d.items) (length e.items) a.flows k.items_follow
      (follow_one (length d.items) (length e.items) a.flow.items (ap (λ s. s.from) a.own_items) (ap (λ s. s.to) a.own_items) (omega (arith, a.has_item)))

  values_fit_lem : (i : ℕ) (v : Value) → slice_get e.values i ≡ Some v → v.code < 65536
  values_fit_lem i v at = by (nth_either d.values a.items.rows.listed i v (sym (ap (λ l. slice_get l i) values_is) ∙ at))
    where
      by : (slice_get d.values i ≡ Some v) ⊎ ((j : ℕ) × (slice_get a.items.rows.listed j ≡ Some v)) → v.code < 65536
      by (inl x) = k.values_fit i v x
      by (inr x) = a.items.rows.values_fit x.0 v x.1

  -- a clause of the longer table is an earlier one, or one of the flow
  clause_either : (i : ℕ) (c : Clause) → slice_get e.clauses i ≡ Some c → (slice_get d.clauses i ≡ Some c) ⊎ ((j : ℕ) × (slice_get a.targets j ≡ Some c))
  clause_either i c at = nth_either d.clauses a.targets i c (sym (ap (λ l. slice_get l i) clauses_is) ∙ at)

  item_either : (i : ℕ) (it : Item) → slice_get e.items i ≡ Some it → (slice_get d.items i ≡ Some it) ⊎ ((j : ℕ) × (slice_get a.items.more j ≡ Some it))
  item_either i it at = nth_either d.items a.items.more i it (sym (ap (λ l. slice_get l i) items_is) ∙ at)

  flow_either : (i : ℕ) (f : Flow) → slice_get e.flows i ≡ Some f → Earlier d.flows a.flow i f
  flow_either i f at = nth_added d.flows a.flow i f (sym (ap (λ l. slice_get l i) a.flows) ∙ at)

  clauses_kept_lem : (i : ℕ) (c : Clause) → slice_get e.clauses i ≡ Some c → ClauseKept e.bins (length e.counters) e.mentions c
  clauses_kept_lem i c at =
      subst (λ l. ClauseKept l (length e.counters) e.mentions c) (sym same_others.bins)
      (subst (λ l. ClauseKept d.bins (length l) e.mentions c) (sym same_others.counters) (by (clause_either i c at)))
    where
      by : (slice_get d.clauses i ≡ Some c) ⊎ ((j : ℕ) × (slice_get a.targets j ≡ Some c)) → ClauseKept d.bins (length d.counters) e.mentions c
      by (inl x) = subst (λ m. ClauseKept d.bins (length d.counters) m c) (sym mentions_is) (clause_later d.bins (length d.counters) d.mentions a.items.rows.named c (k.clauses i c x))
      by (inr x) = (a.clauses_kept x.0 c x.1).0

  items_kept_lem : (i : ℕ) (it : Item) → slice_get e.items i ≡ Some it → ItemKept e e.values (value_spans e.clauses) it
  items_kept_lem i it at = item_on d e k.held (a.flow ∷ []) a.items.more a.targets same_others.tests a.flows items_is clauses_is e.values (value_spans e.clauses) it (by (item_either i it at))
    where
      by : (slice_get d.items i ≡ Some it) ⊎ ((j : ℕ) × (slice_get a.items.more j ≡ Some it)) → ItemKept d e.values (value_spans e.clauses) it
      by (inl x) =
          subst (λ l. ItemKept d e.values l it) (sym (ap value_spans clauses_is ∙ map-append (λ c. c.values) d.clauses a.targets))
          (subst (λ l. ItemKept d l (value_spans d.clauses ++ value_spans a.targets) it) (sym values_is)
          (item_later d d.values a.items.rows.listed (value_spans d.clauses) (value_spans a.targets) it (k.items i it x)))
      by (inr x) = a.items_kept x.0 it x.1

  has_item_lem : (i : ℕ) (f : Flow) → slice_get e.flows i ≡ Some f → f.items.from < f.items.to
  has_item_lem i f at = by (flow_either i f at)
    where
      by : Earlier d.flows a.flow i f → f.items.from < f.items.to
      by (inl x) = k.has_item i f x
      by (inr x) = subst (λ s. s.from < s.to) (sym (ap (λ y. y.items) x.1 ∙ a.own_items)) a.has_item

  -- the items of an earlier flow are the same, and those of the new one are those that were added
  old_items : (i : ℕ) (f : Flow) → slice_get d.flows i ≡ Some f → rows_of f.items d.items ≡ rows_of f.items e.items
  old_items i f at = sym (ap (λ (l : List Item). rows_of f.items l) items_is ∙ between_append f.items.from f.items.to d.items a.items.more (k.held.flows i f at))

  new_items : (f : Flow) → f ≡ a.flow → a.items.more ≡ rows_of f.items e.items
  new_items f is = sym (ap (λ (s : Span). rows_of s e.items) (ap (λ y. y.items) is ∙ a.own_items) ∙ span_added d.items e.items a.items.more items_is)

  names_kept : (i : ℕ) (f : Flow) → slice_get e.flows i ≡ Some f → Once (map (λ it. spelt text it.name) (rows_of f.items e.items))
  names_kept i f at = by (flow_either i f at)
    where
      own : drop (length d.items) a.read.items ≡ a.items.more
      own = ap (drop (length d.items)) a.items.items ∙ drop_at d.items a.items.more (length d.items) refl

      by : Earlier d.flows a.flow i f → Once (map (λ it. spelt text it.name) (rows_of f.items e.items))
      by (inl x) = subst (λ l. Once (map (λ it. spelt text it.name) l)) (old_items i f x) (k.names i f x)
      by (inr x) = subst (λ l. Once (map (λ it. spelt text it.name) l)) (own ∙ new_items f x.1) a.items.names

  depth_kept : (i : ℕ) (f : Flow) → slice_get e.flows i ≡ Some f → f.depth ≡ 1 + deepest (take i e.flows) (rows_of f.items e.items)
  depth_kept i f at = by (flow_either i f at)
    where
      by : Earlier d.flows a.flow i f → f.depth ≡ 1 + deepest (take i e.flows) (rows_of f.items e.items)
      by (inl x) =
          let before : take i d.flows ≡ take i e.flows = sym (ap (take i) a.flows ∙ take-append-le i d.flows (a.flow ∷ []) (omega (arith, nth_below d.flows i f x))) in
          k.depth i f x ∙ (ap (λ l. 1 + deepest l (rows_of f.items d.items)) before ∙ ap (λ l. 1 + deepest (take i e.flows) l) (old_items i f x))
      by (inr x) =
          let before : d.flows ≡ take i e.flows = sym (ap (take i) a.flows ∙ take_at d.flows (a.flow ∷ []) i (sym x.0)) in
          ap (λ y. y.depth) x.1 ∙ (a.depth ∙ (ap (λ l. 1 + deepest l a.items.more) before ∙ ap (λ l. 1 + deepest (take i e.flows) l) (new_items f x.1)))

  shallow_kept : (i : ℕ) (f : Flow) → slice_get e.flows i ≡ Some f → f.depth ≤ 8
  shallow_kept i f at = by (flow_either i f at)
    where
      by : Earlier d.flows a.flow i f → f.depth ≤ 8
      by (inl x) = k.shallow i f x
      by (inr x) = subst (λ y. y.depth ≤ 8) (sym x.1) a.shallow

  -- an item of an earlier flow was there before; one of the new flow was not
  old_item : (n i : ℕ) (f : Flow) (it : Item) → slice_get d.flows n ≡ Some f → Inside f.items i → slice_get e.items i ≡ Some it → slice_get d.items i ≡ Some it
  old_item n i f it at in_flow item = sym (nth_before d.items a.items.more i (omega (arith, in_flow.1, k.held.flows n f at))) ∙ (sym (ap (λ l. slice_get l i) items_is) ∙ item)

  new_item : (i : ℕ) (f : Flow) (it : Item) → f ≡ a.flow → Inside f.items i → slice_get e.items i ≡ Some it → (j : ℕ) × (slice_get a.items.more j ≡ Some it)
  new_item i f it is in_flow item = by (item_either i it item)
    where
      by : (slice_get d.items i ≡ Some it) ⊎ ((j : ℕ) × (slice_get a.items.more j ≡ Some it)) → (j : ℕ) × (slice_get a.items.more j ≡ Some it)
      by (inl x) =
          let from : f.items.from ≡ length d.items = ap (λ y. y.items.from) is ∙ ap (λ s. s.from) a.own_items in
          absurd (omega (arith, from, in_flow.0, nth_below d.items i it x))
      by (inr x) = x

  runs_earlier_lem : (n i t : ℕ) (f : Flow) (it : Item) → slice_get e.flows n ≡ Some f → Inside f.items i → slice_get e.items i ≡ Some it → it.runs ≡ RunsFlow t → t < n
  runs_earlier_lem n i t f it at in_flow item runs = by (flow_either n f at)
    where
      by : Earlier d.flows a.flow n f → t < n
      by (inl x) = k.runs_earlier n i t f it x in_flow (old_item n i f it x in_flow item) runs
      by (inr x) =
          let j = new_item i f it x.1 in_flow item in
          let known : t < length d.flows = subst (Known d) runs (a.items_kept j.0 it j.1).runs in
          omega (arith, known, x.0)

  stays_kept : (n i j t : ℕ) (f : Flow) (it : Item) (c : Clause) → slice_get e.flows n ≡ Some f → Inside f.items i → slice_get e.items i ≡ Some it → Inside it.clauses j → slice_get e.clauses j ≡ Some c → c.next ≡ GoTo t → Inside f.items t
  stays_kept n i j t f it c at in_flow item in_Item clause next = by (flow_either n f at) (clause_either j c clause)
    where
      by : Earlier d.flows a.flow n f → (slice_get d.clauses j ≡ Some c) ⊎ ((l : ℕ) × (slice_get a.targets l ≡ Some c)) → Inside f.items t
      by (inl x) y =
          let was = old_item n i f it x in_flow item in
          let low : j < length d.clauses = omega (arith, in_Item.1, k.held.items i it was) in
          k.stays n i j t f it c x in_flow was in_Item (sym (nth_before d.clauses a.targets j low) ∙ (sym (ap (λ l. slice_get l j) clauses_is) ∙ clause)) next
      by (inr x) (inl y) =
          let l = new_item i f it x.1 in_flow item in
          let from = follow_from (λ it. it.clauses) (length d.clauses) a.items.more (length e.clauses) l.0 it new_clauses l.1 in
          absurd (omega (arith, from, in_Item.0, nth_below d.clauses j c y))
      by (inr x) (inr y) = subst (λ s. Inside s t) (sym (ap (λ z. z.items) x.1 ∙ a.own_items)) ((a.clauses_kept y.0 c y.1).1 t next)

  runnables_once_lem : Once (runnables text e)
  runnables_once_lem =
      let tests = map (λ t. spelt text t.name) d.tests in
      let flows = map (λ f. spelt text f.name) d.flows in
      let name = spelt text a.flow.name in
      let more = once_added (tests ++ flows) name k.runnables_once (in_neither tests flows name a.new_test a.new_flow) in
      let in_order : (tests ++ flows) ++ name ∷ [] ≡ tests ++ map (λ f. spelt text f.name) e.flows = append_assoc tests flows (name ∷ []) ∙ ap (λ l. tests ++ l) (sym (ap (map (λ f. spelt text f.name)) a.flows ∙ map-append (λ f. spelt text f.name) d.flows (a.flow ∷ []))) in
      subst Once (in_order ∙ ap (λ l. map (λ t. spelt text t.name) l ++ map (λ f. spelt text f.name) e.flows) (sym same_others.tests)) more

  pub flow_more : FlowsKept text start e
  flow_more =
      let o = k.others in
      let p = same_others in
      let r = a.items.rows in
      record {
        others = record { groups = p.groups ∙ o.groups; bins = p.bins ∙ o.bins; counters = p.counters ∙ o.counters; tests = p.tests ∙ o.tests; sort_group = p.sort_group ∙ o.sort_group };
        held = flow_held text d e k.held a;
        values_follow = values_follow_lem;
        counters_follow = counters_follow_lem;
        clauses_follow = clauses_follow_lem;
        items_follow = items_follow_lem;
        flows_few = a.few;
        items_few = subst (λ x. length x.items ≤ 512) a.is (a.items.few k.items_few);
        clauses_few = subst (λ n. n ≤ 1024) clauses_many (r.clauses_few k.clauses_few);
        values_few = subst (λ x. length x.values ≤ 2048) a.is (r.values_few k.values_few);
        mentions_few = subst (λ x. length x.mentions ≤ 2048) a.is (r.mentions_few k.mentions_few);
        values_fit = values_fit_lem;
        clauses = clauses_kept_lem;
        items = items_kept_lem;
        has_item = has_item_lem;
        names = names_kept;
        depth = depth_kept;
        shallow = shallow_kept;
        runs_earlier = runs_earlier_lem;
        stays = stays_kept;
        runnables_once = runnables_once_lem;
      }

-- tables with no rows of flows
pub no_flows : (text : List ℕ) (d : Draft) → d.flows ≡ [] → d.items ≡ [] → d.clauses ≡ [] → d.values ≡ [] → d.mentions ≡ [] → Once (map (λ t. spelt text t.name) d.tests) → FlowsKept text d d
no_flows text d f i c v m once = record {
  others = record { groups = refl; bins = refl; counters = refl; tests = refl; sort_group = refl };
  held = held_none d f i;
  values_follow = subst (λ l. Follow 0 (value_spans l) (length d.values)) (sym c) (sym (ap length v));
  counters_follow = subst (λ l. Follow 0 (counter_spans l) (length d.mentions)) (sym c) (sym (ap length m));
  clauses_follow = subst (λ l. Follow 0 (map (λ it. it.clauses) l) (length d.clauses)) (sym i) (sym (ap length c));
  items_follow = subst (λ l. Follow 0 (map (λ f. f.items) l) (length d.items)) (sym f) (sym (ap length i));
  flows_few = omega (arith, none_of d.flows f);
  items_few = omega (arith, none_of d.items i);
  clauses_few = omega (arith, none_of d.clauses c);
  values_few = omega (arith, none_of d.values v);
  mentions_few = omega (arith, none_of d.mentions m);
  values_fit = λ n x at. no_row d.values v n x at;
  clauses = λ n x at. no_row d.clauses c n x at;
  items = λ n x at. no_row d.items i n x at;
  has_item = λ n x at. no_row d.flows f n x at;
  names = λ n x at. no_row d.flows f n x at;
  depth = λ n x at. no_row d.flows f n x at;
  shallow = λ n x at. no_row d.flows f n x at;
  runs_earlier = λ n j t x it at. no_row d.flows f n x at;
  stays = λ n j l t x it c at. no_row d.flows f n x at;
  runnables_once = subst (λ l. Once (map (λ t. spelt text t.name) d.tests ++ map (λ f. spelt text f.name) l)) (sym f) (subst Once (sym (append-nil (map (λ t. spelt text t.name) d.tests))) once);
}
  where
    none_of : {X : Type 0} (xs : List X) → xs ≡ [] → length xs ≡ 0
    none_of xs e = ap length e

    no_row : {X Y : Type 0} (xs : List X) → xs ≡ [] → (n : ℕ) (x : X) → slice_get xs n ≡ Some x → Y
    no_row xs e n x at = never_some x (sym (ap (λ l. slice_get l n) e) ∙ at)

-- one flow at least, and then the symbol behind each
pub flows_kept : (text : List ℕ) (start d : Draft) (f : Found) (ts : Tokens) (e : Draft × Found) (us : Tokens) → FlowsKept text start d → NamesAt text ts → is_keyword kw.Flow f ≡ true → many (row_turn (is_keyword kw.Flow) λ f. flow_in text f.place) (d, f) ts ≡ Ok (e, us) → FlowsKept text start e.0 × (0 < length e.0.flows) × NamesAt text us
flows_kept text start d f ts e us k n begun h =
    rows_keep (is_keyword kw.Flow) (λ f. flow_in text f.place) (λ s ts. FlowsKept text start s × (0 < length s.flows) × NamesAt text ts)
    (λ s ts f us e p. (p.0, p.1, want_leaves text _ _ ts f us e p.2))
    (λ f s ts t us e p. one f.place s ts t us e p.0 p.2)
    d f ts e us
    (λ x vs e. one f.place d ts x vs e k n)
    begun h
  where
    one : (place : ℕ) (s : Draft) (ts : Tokens) (t : Draft) (us : Tokens) → flow_in text place s ts ≡ Ok (t, us) → FlowsKept text start s → NamesAt text ts → FlowsKept text start t × (0 < length t.flows) × NamesAt text us
    one place s ts t us h k n =
        let a = flow_kept text place s ts t us k.held h n in
        (flow_more text start s t k a.0, omega (arith, rows_length s.flows t.flows (a.0.flow ∷ []) a.0.flows), a.1)

-- the main flow is named
pub main_kept : (text : List ℕ) (start d : Draft) (main : ℕ) → FlowsKept text start d → FlowsKept text start (with_main_flow main d)
main_kept text start d main k =
    let o = k.others in
    record {
      others = record { groups = o.groups; bins = o.bins; counters = o.counters; tests = o.tests; sort_group = o.sort_group };
      held = record { flows = k.held.flows; items = k.held.items };
      values_follow = k.values_follow;
      counters_follow = k.counters_follow;
      clauses_follow = k.clauses_follow;
      items_follow = k.items_follow;
      flows_few = k.flows_few;
      items_few = k.items_few;
      clauses_few = k.clauses_few;
      values_few = k.values_few;
      mentions_few = k.mentions_few;
      values_fit = k.values_fit;
      clauses = k.clauses;
      items = λ i it at. item_on d (with_main_flow main d) k.held [] [] [] refl (sym (append-nil d.flows)) (sym (append-nil d.items)) (sym (append-nil d.clauses)) d.values (value_spans d.clauses) it (k.items i it at);
      has_item = k.has_item;
      names = k.names;
      depth = k.depth;
      shallow = k.shallow;
      runs_earlier = k.runs_earlier;
      stays = k.stays;
      runnables_once = k.runnables_once;
    }
