-- What the counters and the tests of an accepted plan keep, and the tokens that they leave.
use Rattle.std.proofs.Common.{◌≡◌, ℕ, suc, ◌<◌, ◌≤◌, Bool, leb, List, [], ◌∷◌, ◌++◌, map, length, is_some, Some, None, Ok, Option, sym, refl, ap, ◌∙◌, subst, append_assoc, arith, length-append}
use Rattle.std.proofs.lemmas.List.{append-nil, map-append}
use Rattle.std.proofs.lemmas.Bool.{leb-false, or_parts}
use Rattle.std.specs.List.{slice_get}
use Rattle.text_bytes.specs.declared.kinds.Mark.TheVariants as mk
use Rattle.tokens.specs.Terminals.{Tokens, count}
use Rattle.grammar.specs.declared.readers.ValueStart.{ValueStart}
use Rattle.grammar.specs.declared.symbols.Symbol.TheVariants.{Mark}
use Rattle.grammar.specs.Readers.{name_in, expect_in, name_or_close_in}
use Rattle.grammar.specs.Readers.{setting_in as setting_begun}
use Rattle.plan.specs.declared.rows.Counter.{Counter}
use Rattle.plan.specs.declared.rows.Name.{Name}
use Rattle.plan.specs.declared.rows.Test.{Test}
use Rattle.plan.specs.Drafts.{Draft, with_counter, with_test}
use Rattle.plan.specs.Rules.{Once, spelt}
use Rattle.plan.proofs.Added.{once_row, once_between, in_neither}
use Rattle.names.specs.Names.{found}
use Rattle.names.proofs.Found.{none_found}
use Rattle.refusals.specs.declared.fault.RuleFault.TheVariants.{DeclaredBefore, TableFull}
use Rattle.refusals.proofs.Passing.{accepted, parse_passed, then_passed, refuse_passed, turns_keep}
use Rattle.refusals.proofs.Spelled.{NamesAt, want_leaves, placed_leaves, expect_leaves, name_at}
use Rattle.values.specs.Values.{value_from}
use Rattle.values.proofs.Left.{value_from_leaves}
use Rattle.declarations.specs.Counters.{counter_in, counter_turn, counters_in}
use Rattle.productions.specs.Naming.{runnable_in}
use Rattle.productions.proofs.Leaving.{another_leaves, entered}
use Rattle.declarations.specs.Tests.{test_name_in, setting_on, setting_in, setter_turn, setters_in, test_in}

-- counters were added to the tables of `start`, whose other tables and numbers are the same
pub record CountersKept (text : List ℕ) (start e : Draft) : Type 0 where
  pub names : Once (map (λ k. spelt text k.name) e.counters)
  pub fit : length e.counters ≤ 32
  pub added : List Counter
  pub counters : e.counters ≡ start.counters ++ added
  pub groups : e.groups ≡ start.groups
  pub bins : e.bins ≡ start.bins
  pub tests : e.tests ≡ start.tests
  pub flows : e.flows ≡ start.flows
  pub items : e.items ≡ start.items
  pub clauses : e.clauses ≡ start.clauses
  pub values : e.values ≡ start.values
  pub mentions : e.mentions ≡ start.mentions
  pub sort_group : e.sort_group ≡ start.sort_group
  pub main_flow : e.main_flow ≡ start.main_flow

-- one test was added to the tables of `start`, of a name that no test and no flow has
pub record TestKept (text : List ℕ) (start e : Draft) : Type 0 where
  pub row : Test
  pub is : e ≡ with_test row start
  pub no_test : (i : ℕ) → slice_get (map (λ t. spelt text t.name) start.tests) i ≡ Some (spelt text row.name) → ⊥
  pub no_flow : (i : ℕ) → slice_get (map (λ f. spelt text f.name) start.flows) i ≡ Some (spelt text row.name) → ⊥
  pub fit : length e.tests ≤ 128

module _ (text : List ℕ) where
  module _ (start : Draft) where
    abbrev Counted : Draft → Tokens → Type 0
    Counted d ts = CountersKept text start d × NamesAt text ts

    one_more : (row : Counter) (d : Draft) → CountersKept text start d → Once (map (λ k. spelt text k.name) (d.counters ++ row ∷ [])) → length d.counters < 32 → CountersKept text start (with_counter row d)
    one_more row d k once room = record {
      names = once;
      fit = omega (arith, length-append d.counters (row ∷ []), room);
      added = k.added ++ row ∷ [];
      counters = ap (λ x. x ++ row ∷ []) k.counters ∙ append_assoc start.counters k.added (row ∷ []);
      groups = k.groups;
      bins = k.bins;
      tests = k.tests;
      flows = k.flows;
      items = k.items;
      clauses = k.clauses;
      values = k.values;
      mentions = k.mentions;
      sort_group = k.sort_group;
      main_flow = k.main_flow;
    }

    -- a counter
    counter_kept : (d : Draft) (ts : Tokens) (more : Bool) (e : Draft) (us : Tokens) → counter_turn text d ts ≡ Ok ((more, e), us) → Counted d ts → Counted e us
    counter_kept d ts more e us h c =
        let one = entered mk.CloseBrace (counter_in text) d ts more e us h in
        let n = parse_passed (name_in ts) one.read in
        let new = refuse_passed (is_some (found (λ k. k.name) text d.counters n.v.0)) (DeclaredBefore n.v.1) _ n.goes in
        let room = refuse_passed (leb 32 (length d.counters)) (TableFull n.v.1) _ new.1 in
        let made = accepted room.1 in
        let row : Counter = record { name = record { place = n.v.1; len = length n.v.0 } } in
        let spelled = name_at text ts n.v n.us n.is c.1 in
        let once = once_row (λ k. spelt text k.name) d.counters row c.0.names (λ i is. none_found (λ k. k.name) text n.v.0 d.counters new.0 i (is ∙ ap Some spelled)) in (
          subst (CountersKept text start) made.0 (one_more row d c.0 once (leb-false 32 (length d.counters) room.0)),
          another_leaves text mk.CloseBrace one.behind more us one.next (subst (NamesAt text) made.1 (want_leaves text _ _ ts n.v n.us n.is c.1)),
        )

  pub none_yet : (d : Draft) → Once (map (λ k. spelt text k.name) d.counters) → length d.counters ≤ 32 → CountersKept text d d
  none_yet d once fit = record {
    names = once;
    fit = fit;
    added = [];
    counters = sym (append-nil d.counters);
    groups = refl;
    bins = refl;
    tests = refl;
    flows = refl;
    items = refl;
    clauses = refl;
    values = refl;
    mentions = refl;
    sort_group = refl;
    main_flow = refl;
  }

  -- the counters of an accepted plan keep the rules, where the names among the tokens are those of the text; so are the
  -- names among the tokens left
  pub counters_kept : (d : Draft) (ts : Tokens) (e : Draft) (us : Tokens) → NamesAt text ts → Once (map (λ k. spelt text k.name) d.counters) → length d.counters ≤ 32 → counters_in text d ts ≡ Ok (e, us) → CountersKept text d e × NamesAt text us
  unfolding counters_in
  counters_kept d ts e us n once fit h =
      let brace = parse_passed (expect_in (Mark mk.OpenBrace) ts) h in
      let left = expect_leaves text (Mark mk.OpenBrace) ts brace.v brace.us brace.is n in
      turns_keep (counter_turn text) (Counted d) (counter_kept d) (suc (count brace.us)) d brace.us e us brace.goes (none_yet d once fit, left)

  setting_leaves : (ts : Tokens) (v : Unit {0}) (us : Tokens) → setting_in ts ≡ Ok (v, us) → NamesAt text ts → NamesAt text us
  setting_leaves ts v us h n =
      let begun = parse_passed (setting_begun ts) h in
      by begun.v begun.us (placed_leaves text _ ts begun.v begun.us begun.is n) begun.goes
    where
      by : (s : Option ValueStart) (vs : Tokens) → NamesAt text vs → setting_on s vs ≡ Ok (v, us) → NamesAt text us
      by None vs n h = subst (NamesAt text) (accepted h).1 n
      by (Some start) vs n h =
          let value = then_passed (value_from start vs) h in
          subst (NamesAt text) (accepted value.goes).1 (value_from_leaves text start vs value.v value.us value.is n)

  setter_leaves : (s : Unit {0}) (ts : Tokens) (more : Bool) (t : Unit {0}) (us : Tokens) → setter_turn s ts ≡ Ok ((more, t), us) → NamesAt text ts → NamesAt text us
  setter_leaves s ts more t us h n =
      let equals = parse_passed (expect_in (Mark mk.Equals) ts) h in
      let setting = then_passed (setting_in equals.us) equals.goes in
      let semicolon = parse_passed (expect_in (Mark mk.Semicolon) setting.us) setting.goes in
      let next = parse_passed (name_or_close_in semicolon.us) semicolon.goes in
      let a = expect_leaves text (Mark mk.Equals) ts equals.v equals.us equals.is n in
      let b = setting_leaves equals.us setting.v setting.us setting.is a in
      let c = expect_leaves text (Mark mk.Semicolon) setting.us semicolon.v semicolon.us semicolon.is b in
      subst (NamesAt text) (accepted next.goes).1 (want_leaves text _ _ semicolon.us next.v next.us next.is c)

  setters_leave : (ts : Tokens) (v : Unit {0}) (us : Tokens) → setters_in ts ≡ Ok (v, us) → NamesAt text ts → NamesAt text us
  setters_leave ts v us h n =
      let brace = parse_passed (expect_in (Mark mk.OpenBrace) ts) h in
      let first = parse_passed (name_in brace.us) brace.goes in
      let a = expect_leaves text (Mark mk.OpenBrace) ts brace.v brace.us brace.is n in
      let b = want_leaves text _ _ brace.us first.v first.us first.is a in
      turns_keep setter_turn (λ _ vs. NamesAt text vs) setter_leaves (suc (count first.us)) tt first.us v us first.goes b

  -- no test and no flow has the name
  abbrev NewName : Draft → Name → Type 0
  NewName d name = ((i : ℕ) → slice_get (map (λ t. spelt text t.name) d.tests) i ≡ Some (spelt text name) → ⊥) × ((i : ℕ) → slice_get (map (λ f. spelt text f.name) d.flows) i ≡ Some (spelt text name) → ⊥)

  test_name_new : (d : Draft) (ts : Tokens) (name : Name) (us : Tokens) → test_name_in text d ts ≡ Ok (name, us) → NamesAt text ts → NewName d name × NamesAt text us
  test_name_new d ts name us h names =
      let class = parse_passed (name_in ts) h in
      let n = parse_passed (name_in class.us) class.goes in
      let new = refuse_passed (runnable_in text d.tests d.flows n.v.0) (DeclaredBefore n.v.1) _ n.goes in
      let free = or_parts (is_some (found (λ t. t.name) text d.tests n.v.0)) (is_some (found (λ f. f.name) text d.flows n.v.0)) new.0 in
      let made = accepted new.1 in
      let left = want_leaves text _ _ ts class.v class.us class.is names in
      let spelled = name_at text class.us n.v n.us n.is left in
      let both : NewName d (record { place = n.v.1; len = length n.v.0 }) = ((λ i is. none_found (λ t. t.name) text n.v.0 d.tests free.0 i (is ∙ ap Some spelled)), (λ i is. none_found (λ f. f.name) text n.v.0 d.flows free.1 i (is ∙ ap Some spelled))) in
      (subst (NewName d) made.0 both, subst (NamesAt text) made.1 (want_leaves text _ _ class.us n.v n.us n.is left))

  -- so of a test
  pub test_kept : (place : ℕ) (d : Draft) (ts : Tokens) (e : Draft) (us : Tokens) → NamesAt text ts → test_in text place d ts ≡ Ok (e, us) → TestKept text d e × NamesAt text us
  unfolding test_in
  test_kept place d ts e us names h =
      let room = refuse_passed (leb 128 (length d.tests)) (TableFull place) _ h in
      let name = then_passed (test_name_in text d ts) room.1 in
      let setters = then_passed (setters_in name.us) name.goes in
      let made = accepted setters.goes in
      let new = test_name_new d ts name.v name.us name.is names in
      let row : Test = record { name = name.v } in
      let fit : length (d.tests ++ row ∷ []) ≤ 128 = omega (arith, length-append d.tests (row ∷ []), leb-false 128 (length d.tests) room.0) in
      let kept : TestKept text d e = record { row = row; is = sym made.0; no_test = new.0.0; no_flow = new.0.1; fit = subst (λ x. length x.tests ≤ 128) made.0 fit } in
      (kept, subst (NamesAt text) made.1 (setters_leave name.us setters.v setters.us setters.is new.1))

  -- a name is declared once among tests and flows with the test, if it was without it
  pub test_names_lem : (d e : Draft) → TestKept text d e → Once (map (λ t. spelt text t.name) d.tests ++ map (λ f. spelt text f.name) d.flows) → Once (map (λ t. spelt text t.name) e.tests ++ map (λ f. spelt text f.name) e.flows)
  test_names_lem d e k once =
      let tests = map (λ t. spelt text t.name) d.tests in
      let flows = map (λ f. spelt text f.name) d.flows in
      let name = spelt text k.row.name in
      let more = once_between tests name flows once (in_neither tests flows name k.no_test k.no_flow) in
      let in_order : tests ++ name ∷ flows ≡ map (λ t. spelt text t.name) (d.tests ++ k.row ∷ []) ++ flows = sym (append_assoc tests (name ∷ []) flows) ∙ ap (λ x. x ++ flows) (sym (map-append (λ t. spelt text t.name) d.tests (k.row ∷ []))) in
      subst (λ x. Once (map (λ t. spelt text t.name) x.tests ++ map (λ f. spelt text f.name) x.flows)) (sym k.is) (subst Once in_order more)
