-- An accepted plan text makes tables that keep every rule.
use Rattle.std.proofs.Common.{◌≡◌, ℕ, ◌<◌, ◌≤◌, Bool, true, false, cond, not, List, [], ◌++◌, map, length, is_some, Some, None, Ok, Err, codes, Option, Result, sym, refl, ap, ◌∙◌, subst, append-nil, arith}
use Rattle.std.specs.Str.{bytes_eq}
use Rattle.keywords.specs.declared.Keyword.{Keyword}
use Rattle.keywords.specs.declared.Keyword.TheVariants as kw
use Rattle.text_bytes.specs.declared.kinds.Mark.TheVariants as mk
use Rattle.tokens.specs.Terminals.{Tokens}
use Rattle.tokens.specs.Scanning.{tokens_from}
use Rattle.grammar.specs.declared.fault.GrammarFault.{GrammarFault}
use Rattle.grammar.specs.declared.symbols.Found.{Found}
use Rattle.grammar.specs.declared.symbols.Symbol.TheVariants as sy
use Rattle.grammar.specs.Readers.{Spot, name_in, decimal_in, symbol_in, expect_in, finish_in}
use Rattle.plan.specs.declared.rows.Name.{Name}
use Rattle.plan.specs.Drafts.{Draft, blank, with_main_flow}
use Rattle.plan.specs.Meaning.{meaning}
use Rattle.plan.specs.Rules.{Once, spelt, Lawful, NamesOnce, DepthsTold}
use Rattle.plan.proofs.Readings.{flows_counted, counters_counted, tests_counted, some_main_flow}
use Rattle.plan.proofs.Spans.{never_some}
use Rattle.names.specs.Names.{found}
use Rattle.names.proofs.Found.{found_below}
use Rattle.refusals.specs.declared.fault.RuleFault.TheVariants.{OutOfRange}
use Rattle.refusals.specs.Steps.{Loaded, parse, then, many}
use Rattle.refusals.specs.Shapes.{is_keyword, optional}
use Rattle.refusals.proofs.Passing.{no_fault, accepted, parse_passed, then_passed, refuse_passed, allow_passed, turns_keep, turn_keeps}
use Rattle.refusals.proofs.Spelled.{NamesAt, want_leaves, expect_leaves, names_at}
use Rattle.bins.specs.Bins.{bins_in}
use Rattle.bins.proofs.Kept.{BinsKept, bins_kept}
use Rattle.bins.proofs.Meant.{kept_on, parent_earlier_lem, parent_no_leaf_lem, number_fits_lem, number_once_lem, first_group_lem, next_group_lem, groups_fit_lem, bins_fit, has_bin_lem, leaf_sorted_lem}
use Rattle.declarations.specs.Counters.{counters_in}
use Rattle.declarations.specs.Tests.{test_in}
use Rattle.declarations.proofs.Kept.{CountersKept, counters_kept, none_yet, TestKept, test_kept, test_names_lem}
use Rattle.flows.proofs.All.{FlowsKept, runnables, no_flows, flows_kept, main_kept}
use Rattle.flows.proofs.Meant.{runs_declared_test_lem, runs_earlier_flow_lem, return_listed_lem, value_once_lem, value_fits_lem, return_fits_lem, counter_once_lem, counter_declared_lem, leaf_declared_lem, go_to_stays_lem, flow_has_item_lem, item_has_clause_lem, clause_has_value_lem, items_in_flows_lem, flows_fit, items_fit, clauses_fit, values_few_lem, mentions_few_lem}
use Rattle.flows.proofs.Told.{depths_told, depth_fits_lem}
use Rattle.plan_file.specs.File.{header_in, test_turn, flow_turn, main_named, main_name_in, main_in, flows_in, sections_in, finished, closed, file_in}

-- the sections

-- an optional part: what holds of the tokens without it, and what the part makes so
optional_keeps : {X : Type 0} (k : Keyword) (none : X) (part : Tokens → Loaded X) (P : X → Tokens → Type 0) → ((x : X) (ts : Tokens) (f : Found) (us : Tokens) → symbol_in ts ≡ Ok (f, us) → P x ts → P x us) → (f : Found) (ts : Tokens) → P none ts → ((x : X) (us : Tokens) → part ts ≡ Ok (x, us) → P x us) → (v : X × Found) (us : Tokens) → optional k none part f ts ≡ Ok (v, us) → P v.0 us
optional_keeps {X} k none part P on f ts p made v us h = by (is_keyword k f) h
  where
    by : (t : Bool) → cond t (then {Y = X × Found} (part ts) λ x ts. parse (symbol_in ts) λ g ts. Ok ((x, g), ts)) (Ok ((none, f), ts)) ≡ Ok (v, us) → P v.0 us
    by true h =
        let one = then_passed (part ts) h in
        let next = parse_passed (symbol_in one.us) one.goes in
        let e = accepted next.goes in
        subst (λ x. P x.0 us) e.0 (subst (P one.v) e.1 (on one.v one.us next.v next.us next.is (made one.v one.us one.is)))
    by false h = let e = accepted h in subst (λ x. P x.0 us) e.0 (subst (P none) e.1 p)

-- the bins and the counters of `start`, with tests, and with no flow yet
record TestsKept (text : List ℕ) (start d : Draft) : Type 0 where
  groups : d.groups ≡ start.groups
  bins : d.bins ≡ start.bins
  counters : d.counters ≡ start.counters
  sort_group : d.sort_group ≡ start.sort_group
  flows : d.flows ≡ []
  items : d.items ≡ []
  clauses : d.clauses ≡ []
  values : d.values ≡ []
  mentions : d.mentions ≡ []
  fit : length d.tests ≤ 128
  once : Once (runnables text d)

module _ (text : List ℕ) where
  header_leaves : (ts : Tokens) (n : Name) (us : Tokens) → header_in ts ≡ Ok (n, us) → NamesAt text ts → NamesAt text us
  header_leaves ts n us h names =
      let version = parse_passed (expect_in (sy.Keyword kw.Version) ts) h in
      let v = parse_passed (decimal_in version.us) version.goes in
      let right = refuse_passed (not (bytes_eq v.v.0 (codes "1.0"))) (OutOfRange v.v.1) _ v.goes in
      let first = parse_passed (expect_in (sy.Mark mk.Semicolon) v.us) right.1 in
      let plan = parse_passed (expect_in (sy.Keyword kw.TestPlan) first.us) first.goes in
      let name = parse_passed (name_in plan.us) plan.goes in
      let second = parse_passed (expect_in (sy.Mark mk.Semicolon) name.us) name.goes in
      let a = expect_leaves text (sy.Keyword kw.Version) ts version.v version.us version.is names in
      let b = want_leaves text _ _ version.us v.v v.us v.is a in
      let c = expect_leaves text (sy.Mark mk.Semicolon) v.us first.v first.us first.is b in
      let d = expect_leaves text (sy.Keyword kw.TestPlan) first.us plan.v plan.us plan.is c in
      let e = want_leaves text _ _ plan.us name.v name.us name.is d in
      subst (NamesAt text) (accepted second.goes).1 (expect_leaves text (sy.Mark mk.Semicolon) name.us second.v second.us second.is e)

  test_more : (start d e : Draft) → TestsKept text start d → TestKept text d e → TestsKept text start e
  test_more start d e k t = record {
    groups = ap (λ x. x.groups) t.is ∙ k.groups;
    bins = ap (λ x. x.bins) t.is ∙ k.bins;
    counters = ap (λ x. x.counters) t.is ∙ k.counters;
    sort_group = ap (λ x. x.sort_group) t.is ∙ k.sort_group;
    flows = ap (λ x. x.flows) t.is ∙ k.flows;
    items = ap (λ x. x.items) t.is ∙ k.items;
    clauses = ap (λ x. x.clauses) t.is ∙ k.clauses;
    values = ap (λ x. x.values) t.is ∙ k.values;
    mentions = ap (λ x. x.mentions) t.is ∙ k.mentions;
    fit = t.fit;
    once = test_names_lem text d e t k.once;
  }

  -- the tests
  tests_kept : (start : Draft) (s : Draft × Found) (ts : Tokens) (e : Draft × Found) (us : Tokens) → many (test_turn text) s ts ≡ Ok (e, us) → TestsKept text start s.0 → NamesAt text ts → TestsKept text start e.0 × NamesAt text us
  tests_kept start s ts e us h k n =
      turns_keep (test_turn text) (λ s ts. TestsKept text start s.0 × NamesAt text ts)
      (turn_keeps (is_keyword kw.Test) (λ f. test_in text f.place) (λ s ts. TestsKept text start s × NamesAt text ts)
      (λ s ts f us e p. (p.0, want_leaves text _ _ ts f us e p.1))
      (λ f s ts t us e p. let t = test_kept text f.place s ts t us p.1 e in (test_more start s _ p.0 t.0, t.1)))
      _ s ts e us h (k, n)

  -- the main flow, which is a flow of the plan
  main_named_lem : (d : Draft) (ts : Tokens) (e : Draft) (us : Tokens) → main_in text d ts ≡ Ok (e, us) → (f : ℕ) × (f < length d.flows) × (with_main_flow f d ≡ e)
  main_named_lem d ts e us h =
      let brace = parse_passed (expect_in (sy.Mark mk.OpenBrace) ts) h in
      let main = parse_passed (expect_in (sy.Keyword kw.MainFlow) brace.us) brace.goes in
      let equals = parse_passed (expect_in (sy.Mark mk.Equals) main.us) main.goes in
      let name = then_passed (main_name_in text d equals.us) equals.goes in
      let semicolon = parse_passed (expect_in (sy.Mark mk.Semicolon) name.us) name.goes in
      let close = parse_passed (expect_in (sy.Mark mk.CloseBrace) semicolon.us) semicolon.goes in
      let n = parse_passed (name_in equals.us) name.is in
      (name.v, known n.v name.v (found (λ f. f.name) text d.flows n.v.0) refl (is_some (found (λ t. t.name) text d.tests n.v.0)) n.us name.us n.goes, (accepted close.goes).0)
    where
      known : (n : Spot) (f : ℕ) (o : Option ℕ) → found (λ f. f.name) text d.flows n.0 ≡ o → (test : Bool) (vs ws : Tokens) → main_named o test n.1 vs ≡ Ok (f, ws) → f < length d.flows
      known n f (Some g) is test vs ws h = subst (λ x. x < length d.flows) (accepted h).0 (found_below (λ f. f.name) text n.0 d.flows g is)
      known n f None is true vs ws h = no_fault h
      known n f None is false vs ws h = no_fault h

  -- what the tables of an accepted text keep
  pub record FileKept (start d : Draft) : Type 0 where
    pub bins : BinsKept text d d
    pub counter_names : Once (map (λ k. spelt text k.name) d.counters)
    pub counters_fit : length d.counters ≤ 32
    pub tests_fit : length d.tests ≤ 128
    pub flows : FlowsKept text start d
    pub main : d.main_flow < length d.flows

  -- flow+ and the main flow
  flows_closed : (s : Draft × Found) (ts : Tokens) (e : Draft) (us : Tokens) → flows_in text s ts ≡ Ok (e, us) → FlowsKept text s.0 s.0 → NamesAt text ts → FlowsKept text s.0 e × (e.main_flow < length e.flows)
  flows_closed s ts e us h k n =
      let begun = allow_passed (is_keyword kw.Flow s.1) s.1.place _ h in
      let all = then_passed (many (flow_turn text) s ts) begun.1 in
      let ended = allow_passed (is_keyword kw.FlowDefs all.v.1) all.v.1.place _ all.goes in
      let kept = flows_kept text s.0 s.0 s.1 ts all.v all.us k n begun.0 all.is in
      let main = main_named_lem all.v.0 all.us e us ended.1 in
      subst (λ x. FlowsKept text s.0 x × (x.main_flow < length x.flows)) main.2 (main_kept text s.0 all.v.0 main.0 kept.0, main.1)

  none_once : {X : Type 0} (xs : List X) → xs ≡ [] → Once xs
  none_once xs e = subst Once (sym e) (λ i j x a. never_some x a)

  -- [counters] test* flow+ and the main flow, behind the bins
  sections_kept : (b : Draft) (ts : Tokens) (e : Draft) (us : Tokens) → sections_in text b ts ≡ Ok (e, us) → BinsKept text blank b → NamesAt text ts → (start : Draft) × FileKept start e
  sections_kept b ts e us h k n =
      let f = parse_passed (symbol_in ts) h in
      let names = want_leaves text _ _ ts f.v f.us f.is n in
      let counters = then_passed (optional kw.Counters b (counters_in text b) f.v f.us) f.goes in
      let tests = then_passed (many (test_turn text) counters.v counters.us) counters.goes in
      let none = k.others in
      let once : Once (map (λ k. spelt text k.name) b.counters) = none_once (map (λ k. spelt text k.name) b.counters) (ap (map (λ k. spelt text k.name)) none.counters) in
      let fit : length b.counters ≤ 32 = omega (arith, ap length none.counters) in
      let counted = optional_keeps kw.Counters b (counters_in text b) (λ x ts. CountersKept text b x × NamesAt text ts)
      (λ x ts f us e p. (p.0, want_leaves text _ _ ts f us e p.1))
      f.v f.us (none_yet text b once fit, names)
      (λ x us e. counters_kept text b f.us x us names once fit e)
      counters.v counters.us counters.is in
      let c = counted.0 in
      let x = counters.v.0 in
      let no_test : x.tests ≡ [] = c.tests ∙ none.tests in
      let no_flow : x.flows ≡ [] = c.flows ∙ none.flows in
      let begun : TestsKept text x x = record {
        groups = refl;
        bins = refl;
        counters = refl;
        sort_group = refl;
        flows = no_flow;
        items = c.items ∙ none.items;
        clauses = c.clauses ∙ none.clauses;
        values = c.values ∙ none.values;
        mentions = c.mentions ∙ none.mentions;
        fit = omega (arith, ap length no_test);
        once = none_once (runnables text x) (ap (λ l. map (λ t. spelt text t.name) l ++ map (λ f. spelt text f.name) x.flows) no_test ∙ ap (map (λ f. spelt text f.name)) no_flow);
      } in
      let tested = tests_kept x counters.v counters.us tests.v tests.us tests.is begun counted.1 in
      let t = tested.0 in
      let y = tests.v.0 in
      let own : Once (map (λ t. spelt text t.name) y.tests) = subst Once (ap (λ l. map (λ t. spelt text t.name) y.tests ++ map (λ f. spelt text f.name) l) t.flows ∙ append-nil (map (λ t. spelt text t.name) y.tests)) t.once in
      let all = flows_closed tests.v tests.us e us tests.goes (no_flows text y t.flows t.items t.clauses t.values t.mentions own) tested.1 in
      let o = all.0.others in
      let named : e.counters ≡ x.counters = o.counters ∙ t.counters in (
        y,
        record {
          bins = kept_on text blank b e (o.groups ∙ (t.groups ∙ c.groups)) (o.bins ∙ (t.bins ∙ c.bins)) (o.sort_group ∙ (t.sort_group ∙ c.sort_group)) k;
          counter_names = subst (λ l. Once (map (λ k. spelt text k.name) l)) (sym named) c.names;
          counters_fit = omega (arith, ap length named, c.fit);
          tests_fit = omega (arith, ap length o.tests, t.fit);
          flows = all.0;
          main = all.1;
        },
      )

  -- every rule

  file_lawful : (start d : Draft) → FileKept start d → Lawful (meaning d)
  file_lawful start d k =
      let b = k.bins in
      let f = k.flows in
      record {
        parent_earlier = parent_earlier_lem d (length d.groups) b.rows;
        parent_no_leaf = parent_no_leaf_lem d (length d.groups) b.rows;
        bin_number_fits = number_fits_lem d (length d.groups) b.rows;
        bin_number_once = number_once_lem d (length d.groups) b.rows;
        first_group = first_group_lem d (length d.groups) b.rows;
        next_group = next_group_lem d (length d.groups) b.rows;
        leaf_sorted = leaf_sorted_lem d b.leaf_sorted;
        runs_declared_test = runs_declared_test_lem d text start f;
        runs_earlier_flow = runs_earlier_flow_lem d text start f;
        depth_fits = depth_fits_lem d text start f;
        return_listed = return_listed_lem d text start f;
        value_once = value_once_lem d text start f;
        value_fits = value_fits_lem d text start f;
        return_fits = return_fits_lem d text start f;
        counter_once = counter_once_lem d text start f;
        counter_declared = counter_declared_lem d text start f;
        leaf_declared = leaf_declared_lem d text start f;
        go_to_stays = go_to_stays_lem d text start f;
        main_declared = (d.main_flow, sym (some_main_flow d (λ z. omega (arith, z, k.main))), subst (λ n. d.main_flow < n) (flows_counted d) k.main);
        has_bin = has_bin_lem d b.has_bin;
        flow_has_item = flow_has_item_lem d text start f;
        item_has_clause = item_has_clause_lem d text start f;
        clause_has_value = clause_has_value_lem d text start f;
        items_in_flows = items_in_flows_lem d text start f;
        limits = record {
          groups = groups_fit_lem d (length d.groups) b.rows b.groups_fit;
          bins = bins_fit d (length d.groups) b.rows;
          counters = subst (λ n. n ≤ 32) (counters_counted d) k.counters_fit;
          tests = subst (λ n. n ≤ 128) (tests_counted d) k.tests_fit;
          flows = flows_fit d text start f;
          items = items_fit d text start f;
          clauses = clauses_fit d text start f;
          values = values_few_lem d text start f;
          mentions = mentions_few_lem d text start f;
        };
      }

  file_names : (start d : Draft) → FileKept start d → NamesOnce text d
  file_names start d k = record { groups = k.bins.group_names; bins = k.bins.bin_names; counters = k.counter_names; tests_and_flows = k.flows.runnables_once; items = k.flows.names }

-- what was accepted has come to the end of the text
closed_passed : (x : Loaded (Name × Draft)) (n : Name) (d : Draft) → closed x ≡ Ok (n, d) → (us : Tokens) × (x ≡ Ok ((n, d), us))
closed_passed (Ok v) n d h = by (finish_in v.1) h
  where
    by : (r : Result (Unit {0}) GrammarFault) → finished v.0 r ≡ Ok (n, d) → (us : Tokens) × (◌≡◌ {A = Loaded (Name × Draft)} (Ok v) (Ok ((n, d), us)))
    by (Ok u) h = let e : v.0 ≡ (n, d) = cc in (v.1, ap (λ x. Ok (x, v.1)) e)
    by (Err e) h = no_fault h
closed_passed (Err e) n d h = no_fault h

-- the tables of an accepted text keep every rule, have no name twice, and tell the depths of their flows
pub file_kept : (text : List ℕ) (n : Name) (d : Draft) → file_in text blank (tokens_from text 0) ≡ Ok (n, d) → Lawful (meaning d) × NamesOnce text d × DepthsTold d
unfolding file_in
file_kept text n d h =
    let end = closed_passed _ n d h in
    let header = then_passed (header_in (tokens_from text 0)) end.1 in
    let bins = then_passed (bins_in text blank header.us) header.goes in
    let sections = then_passed (sections_in text bins.v bins.us) bins.goes in
    let e = accepted sections.goes in
    let names = header_leaves text (tokens_from text 0) header.v header.us header.is (names_at text 0) in
    let b = bins_kept text blank header.us bins.v bins.us names refl refl bins.is in
    let k = sections_kept text bins.v bins.us sections.v sections.us sections.is b.0 b.1 in
    subst (λ x. Lawful (meaning x.1) × NamesOnce text x.1 × DepthsTold x.1) e.0
    (file_lawful text k.0 sections.v k.1, file_names text k.0 sections.v k.1, depths_told sections.v text k.0 k.1.flows)
