-- The counters, and a test, both ways.
use Rattle.std.proofs.Common.{◌≡◌, ℕ, ◌+◌, ◌<◌, ◌≤◌, Bool, true, false, cond, leb, List, [], ◌∷◌, ◌++◌, map, length, is_some, Some, None, Ok, Option, sym, refl, ap, ◌∙◌, subst, append_assoc, append-nil, arith, length-append}
use Rattle.std.proofs.lemmas.List.{map_push, map-append}
use Rattle.std.proofs.lemmas.Bool.{lt-leb, or_from}
use Rattle.text_bytes.specs.declared.kinds.Mark.TheVariants as mk
use Rattle.tokens.specs.Terminals.{Terminal, Tokens}
use Rattle.tokens.specs.Terminals as t
use Rattle.grammar.specs.declared.readers.ValueStart.{ValueStart}
use Rattle.grammar.specs.declared.readers.ValueStart.TheVariants.{Minus, Digits}
use Rattle.grammar.specs.declared.symbols.Symbol.TheVariants.{Mark}
use Rattle.grammar.specs.Readers.{name_in, expect_in, name_or_close_in}
use Rattle.grammar.specs.Readers.{setting_in as setting_begun}
use Rattle.plan.specs.declared.rows.Counter.{Counter}
use Rattle.plan.specs.declared.rows.Name.{Name}
use Rattle.plan.specs.declared.rows.Test.{Test}
use Rattle.plan.specs.Drafts.{Draft, with_counter, with_test}
use Rattle.plan.specs.Rules.{Once, spelt}
use Rattle.names.specs.Names.{found}
use Rattle.values.specs.Values.{value_from}
use Rattle.refusals.specs.declared.fault.RuleFault.TheVariants.{DeclaredBefore, TableFull}
use Rattle.refusals.proofs.Passing.{accepted, parse_passed, then_passed, refuse_passed}
use Rattle.refusals.proofs.Spelled.{NamesAt, name_at}
use Rattle.declarations.specs.Counters.{counter_in, counter_turn, counters_in}
use Rattle.productions.specs.Naming.{runnable_in}
use Rattle.productions.proofs.Leaving.{entered}
use Rattle.refusals.specs.Shapes.{another_in}
use Rattle.declarations.specs.Tests.{test_name_in, setting_on, setting_in, setter_turn, setters_in, test_in}
use Rattle.language.specs.Trees.{Word, Several, each, SettingTree, to_name, to_string, to_value, SetterTree, TestTree}
use Rattle.language.specs.Grammar.{list_tokens, row_tokens, name_tokens, setting_tokens, setter_tokens}
use Rattle.language.specs.Standing.{declared, names_in}
use Rattle.language.specs.Obeying.{Starts, here, next, Every, SettingFits}
use Rattle.language.proofs.Taking.{name_taken, another_taken, expect_taken, setting_taken, SettingToken, NameOrClose, name_or_close_taken, start_token, start_place, front, join, split, names_behind, undeclared_found, next_not_found}
use Rattle.language.proofs.Along.{every_then}
use Rattle.language.proofs.Onward.{expect_one, parse_on, then_on, refuse_on}
use Rattle.language.proofs.Lists.{OneRead, list_sound, list_complete, after, Turned, elements_sound, elements_complete}
use Rattle.language.proofs.Values.{value_from_sound, value_begins}
use Rattle.language.proofs.Optional.{starts_one}
use Rattle.language.proofs.ClauseLists.{map_moved}

-- counters

-- the counters replaced
abbrev with_counters : List Counter → Draft → Draft
with_counters rows d = record {
  groups = d.groups;
  bins = d.bins;
  counters = rows;
  tests = d.tests;
  flows = d.flows;
  items = d.items;
  clauses = d.clauses;
  values = d.values;
  mentions = d.mentions;
  sort_group = d.sort_group;
  main_flow = d.main_flow;
}

-- counters more, and the rest as it was
abbrev pub counting : List Counter → Draft → Draft
counting rows d = with_counters (d.counters ++ rows) d

counting_push : (rows : List Counter) (row : Counter) (d e : Draft) → e ≡ counting rows d → with_counter row e ≡ counting (rows ++ row ∷ []) d
counting_push rows row d e is = ap (with_counter row) is ∙ ap (λ l. with_counters l d) (append_assoc d.counters rows (row ∷ []))

pub counting_none : (d : Draft) → d ≡ counting [] d
counting_none d = ap (λ l. with_counters l d) (sym (append-nil d.counters))

-- counters with these names were added
pub record CountersStand (text : List ℕ) (d e : Draft) (ns : List Word) : Type 0 where
  pub rows : List Counter
  pub is : e ≡ counting rows d
  pub names : names_in text (λ k. k.name) rows ≡ ns

-- the counters behind the keyword
abbrev pub counters_rest : Several Word → List Terminal
counters_rest names = t.mark mk.OpenBrace ∷ (list_tokens name_tokens names ++ t.mark mk.CloseBrace ∷ [])

another_read : (more : Bool) (ts us : Tokens) → Starts us ts (t.mark (cond more mk.Comma mk.CloseBrace) ∷ []) → another_in mk.CloseBrace ts ≡ Ok (more, us)
another_read true ts us (next here) = refl
another_read false ts us (next here) = refl

module _ (text : List ℕ) (d : Draft) where
  abbrev Counted : Draft → Tokens → List Word → Type 0
  Counted e ts ns = CountersStand text d e ns × NamesAt text ts

  counter_sound : (more : Bool) (s : Draft) (ts : Tokens) (e : Draft) (us : Tokens) (done : List Word) → counter_turn text s ts ≡ Ok ((more, e), us) → Counted s ts done → OneRead (counter_turn text) name_tokens mk.CloseBrace Counted more ts e us done
  counter_sound more s ts e us done h c =
      let one = entered mk.CloseBrace (counter_in text) s ts more e us h in
      let n = parse_passed (name_in ts) one.read in
      let new = refuse_passed (is_some (found (λ k. k.name) text s.counters n.v.0)) (DeclaredBefore n.v.1) _ n.goes in
      let room = refuse_passed (leb 32 (length s.counters)) (TableFull n.v.1) _ new.1 in
      let made = accepted room.1 in
      let row : Counter = record { name = record { place = n.v.1; len = length n.v.0 } } in
      let spelled = name_at text ts n.v n.us n.is c.1 in
      let name = name_taken ts n.v n.us n.is in
      let mark = another_taken mk.CloseBrace one.behind more us one.next in
      let starts : Starts us ts (t.name n.v.0 ∷ t.mark (cond more mk.Comma mk.CloseBrace) ∷ []) = front name (subst (λ z. Starts us z (t.mark (cond more mk.Comma mk.CloseBrace) ∷ [])) (sym made.1) (front mark.1 here)) in
      let stands : CountersStand text d e (done ++ n.v.0 ∷ []) = record {
        rows = c.0.rows ++ row ∷ [];
        is = sym made.0 ∙ counting_push c.0.rows row d s c.0.is;
        names = map_push (λ k. spelt text k.name) c.0.rows row ∙ (ap (λ l. l ++ spelt text row.name ∷ []) c.0.names ∙ ap (λ w. done ++ w ∷ []) spelled);
      } in
      record { x = n.v.0; starts = starts; kept = (stands, names_behind text starts c.1) }

  -- counters were accepted
  pub counters_sound : (ts : Tokens) (e : Draft) (us : Tokens) → NamesAt text ts → counters_in text d ts ≡ Ok (e, us) → (ns : Several Word) × Starts us ts (counters_rest ns) × CountersStand text d e (each ns)
  unfolding counters_in
  counters_sound ts e us names h =
      let brace = parse_passed (expect_in (Mark mk.OpenBrace) ts) h in
      let begin = expect_taken (Mark mk.OpenBrace) ts brace.v brace.us brace.is in
      let r = list_sound (counter_turn text) name_tokens mk.CloseBrace Counted counter_sound d brace.us e us brace.goes (record { rows = []; is = counting_none d; names = refl }, (subst (NamesAt text) begin.1 names).1) in
      (r.all, front begin.1 r.starts, r.kept.0)

  -- these counters are to come, of the whole list
  record CountersToCome (whole : List Word) (e : Draft) (ts : Tokens) (ns : List Word) : Type 0 where
    pub rows : List Counter
    pub is : e ≡ counting rows d
    pub all : names_in text (λ k. k.name) rows ++ ns ≡ whole
    pub names : NamesAt text ts
    pub room : length e.counters + length ns ≤ 32
    pub once : Once (names_in text (λ k. k.name) e.counters ++ ns)

  counter_next : (whole : List Word) (more : Bool) (s : Draft) (ts us : Tokens) (n : Word) (ns : List Word) → Starts us ts (name_tokens n ++ t.mark (cond more mk.Comma mk.CloseBrace) ∷ []) → CountersToCome whole s ts (n ∷ ns) → (e : Draft) × (counter_turn text s ts ≡ Ok ((more, e), us)) × CountersToCome whole e us ns
  counter_next whole more s ts us n ns st q =
      let r = starts_one st in
      let row : Counter = record { name = record { place = r.place; len = length n } } in
      let spelled : spelt text row.name ≡ n = (subst (NamesAt text) r.is q.names).0 in
      let moved = λ (rows : List Counter). map_moved (λ k. spelt text k.name) rows row ns ∙ ap (λ w. names_in text (λ k. k.name) rows ++ w ∷ ns) spelled in
      let new = next_not_found (λ k. k.name) text s.counters n ns q.once in
      let room = q.room in
      let full : leb 32 (length s.counters) ≡ false = lt-leb 32 (length s.counters) (omega arith) in
      let goes : counter_turn text s ts ≡ Ok ((more, with_counter row s), us) =
      then_on (counter_in text s ts) _ (parse_on (name_in ts) _ (ap name_in r.is) (refuse_on (is_some (found (λ k. k.name) text s.counters n)) _ _ new (refuse_on (leb 32 (length s.counters)) _ _ full refl)))
      (parse_on (another_in mk.CloseBrace r.behind) _ (another_read more r.behind us r.starts) refl) in (
        with_counter row s,
        goes,
        record {
          rows = q.rows ++ row ∷ [];
          is = counting_push q.rows row d s q.is;
          all = moved q.rows ∙ q.all;
          names = names_behind text st q.names;
          room = omega (arith, length-append s.counters (row ∷ []));
          once = subst Once (sym (moved s.counters)) q.once;
        },
      )

  -- counters are accepted
  pub counters_complete : (ts us : Tokens) (ns : Several Word) → NamesAt text ts → Starts us ts (counters_rest ns) → length d.counters + length (each ns) ≤ 32 → Once (names_in text (λ k. k.name) d.counters ++ each ns) → (e : Draft) × (counters_in text d ts ≡ Ok (e, us)) × CountersStand text d e (each ns)
  unfolding counters_in
  counters_complete ts us ns names st room once =
      let b = split ts (t.mark mk.OpenBrace ∷ []) (list_tokens name_tokens ns ++ t.mark mk.CloseBrace ∷ []) st in
      let r = list_complete (counter_turn text) name_tokens mk.CloseBrace (CountersToCome (each ns)) (counter_next (each ns)) ns d b.us us b.behind (record { rows = []; is = counting_none d; all = refl; names = names_behind text b.before names; room = room; once = once }) in
      let q = r.2 in
      (r.0, parse_on (expect_in (Mark mk.OpenBrace) ts) _ (expect_one (Mark mk.OpenBrace) ts b.us b.before) r.1, record { rows = q.rows; is = q.is; names = sym (append-nil (names_in text (λ k. k.name) q.rows)) ∙ q.all })

-- a test

-- a setting was accepted
setting_sound : (ts : Tokens) (v : Unit {0}) (us : Tokens) → setting_in ts ≡ Ok (v, us) → (x : SettingTree) × Starts us ts (setting_tokens x) × SettingFits x
setting_sound ts v us h =
    let begun = parse_passed (setting_begun ts) h in
    let k = setting_taken ts begun.v begun.us begun.is in
    by begun.v begun.us k.x k.p k.is k.holds begun.goes
  where
    by : (y : Option ValueStart) (vs : Tokens) (x : Terminal) (p : ℕ) → ts ≡ t.token x p vs → SettingToken y x → setting_on y vs ≡ Ok (v, us) → (s : SettingTree) × Starts us ts (setting_tokens s) × SettingFits s
    by None vs x p is holds h = (holds.0, subst (Starts us ts) (sym holds.1) (front is (subst (λ z. Starts us z []) (sym (accepted h).1) here)), holds.2)
    by (Some start) vs x p is holds h =
        let value = then_passed (value_from start vs) h in
        let r = value_from_sound start ts vs value.v value.us (is ∙ ap (λ y. t.token y p vs) holds) value.is in
        (to_value r.tree, subst (λ z. Starts z ts (setting_tokens (to_value r.tree))) (accepted value.goes).1 r.starts, r.fits)

setting_begun_lem : (start : ValueStart) (ts : Tokens) → setting_begun (t.token (start_token start) (start_place start) ts) ≡ Ok (Some start, ts)
setting_begun_lem (Minus p) ts = refl
setting_begun_lem (Digits n) ts = refl

setting_complete : (x : SettingTree) (ts us : Tokens) → SettingFits x → Starts us ts (setting_tokens x) → setting_in ts ≡ Ok (tt, us)
setting_complete (to_name n) ts us f (next here) = refl
setting_complete (to_string s) ts us f (next here) = refl
setting_complete (to_value w) ts us f st =
    let b = value_begins w ts us f st in
    parse_on (setting_begun ts) _ (ap setting_begun b.begins ∙ setting_begun_lem b.start b.behind) (then_on (value_from b.start b.behind) _ b.goes refl)

-- setters, each behind its name
abbrev setter_name : SetterTree → Word
setter_name x = x.name

abbrev setter_rest : SetterTree → List Terminal
setter_rest x = t.mark mk.Equals ∷ (setting_tokens x.setting ++ t.mark mk.Semicolon ∷ [])

abbrev SettersFit : Unit {0} → Tokens → List SetterTree → Type 0
SettersFit _ ts xs = Every SettingFits (map (λ x. x.setting) xs)

abbrev behind_setter : Bool → Word → Terminal
behind_setter more n = after setter_turn setter_name t.name setter_rest (t.mark mk.CloseBrace) more n

ahead_is : (more : Bool) (x : Terminal) → NameOrClose more x → (n : Word) × (x ≡ behind_setter more n)
ahead_is true x h = (h.0, h.1)
ahead_is false x h = ([], h)

setter_sound : (more : Bool) (s : Unit {0}) (ts : Tokens) (v : Unit {0}) (us : Tokens) (n : Word) (done : List SetterTree) → setter_turn s ts ≡ Ok ((more, v), us) → SettersFit s ts done → Turned setter_turn setter_name t.name setter_rest (t.mark mk.CloseBrace) SettersFit more ts v us n done
setter_sound more s ts v us n done h fit =
    let equals = parse_passed (expect_in (Mark mk.Equals) ts) h in
    let setting = then_passed (setting_in equals.us) equals.goes in
    let semicolon = parse_passed (expect_in (Mark mk.Semicolon) setting.us) setting.goes in
    let last = parse_passed (name_or_close_in semicolon.us) semicolon.goes in
    let made = accepted last.goes in
    let a = expect_taken (Mark mk.Equals) ts equals.v equals.us equals.is in
    let b = setting_sound equals.us setting.v setting.us setting.is in
    let c = expect_taken (Mark mk.Semicolon) setting.us semicolon.v semicolon.us semicolon.is in
    let k = name_or_close_taken semicolon.us last.v last.us last.is in
    let more_is : last.v ≡ more = ap (λ (x : Bool × Unit {0}). x.0) made.0 in
    let d = ahead_is more k.x (subst (λ y. NameOrClose y k.x) more_is k.holds) in
    let end : Starts us semicolon.us (behind_setter more d.0 ∷ []) = front (k.is ∙ ap (λ y. t.token y k.p last.us) d.1) (subst (λ z. Starts us z []) (sym made.1) here) in
    let x : SetterTree = record { name = n; setting = b.0 } in
    let before : Starts semicolon.us ts (setter_rest x) = front a.1 (join b.1 (front c.1 here)) in
    record { x = x; begins = refl; ahead = d.0; starts = join before end; kept = subst (Every SettingFits) (sym (map-append (λ (x : SetterTree). x.setting) done (x ∷ []))) (every_then SettingFits (map (λ x. x.setting) done) (b.0 ∷ []) fit (b.2, tt)) }

close_read : (more : Bool) (n : Word) (ts us : Tokens) → Starts us ts (behind_setter more n ∷ []) → name_or_close_in ts ≡ Ok (more, us)
close_read true n ts us (next here) = refl
close_read false n ts us (next here) = refl

setter_complete : (more : Bool) (s : Unit {0}) (ts us : Tokens) (x : SetterTree) (xs : List SetterTree) (n : Word) → Starts us ts (setter_rest x ++ behind_setter more n ∷ []) → SettersFit s ts (x ∷ xs) → (v : Unit {0}) × (setter_turn s ts ≡ Ok ((more, v), us)) × SettersFit v us xs
setter_complete more s ts us x xs n st fit =
    let r = split ts (setter_rest x) (behind_setter more n ∷ []) st in
    let e = starts_one r.before in
    let q = split e.behind (setting_tokens x.setting) (t.mark mk.Semicolon ∷ []) e.starts in
    (tt, parse_on (expect_in (Mark mk.Equals) ts) _ (ap (expect_in (Mark mk.Equals)) e.is) (then_on (setting_in e.behind) _ (setting_complete x.setting e.behind q.us fit.0 q.before) (parse_on (expect_in (Mark mk.Semicolon) q.us) _ (expect_one (Mark mk.Semicolon) q.us r.us q.behind) (parse_on (name_or_close_in r.us) _ (close_read more n r.us us r.behind) refl))), fit.1)

-- the setters in braces
abbrev setters_rest : Several SetterTree → List Terminal
setters_rest xs = t.mark mk.OpenBrace ∷ (row_tokens setter_tokens xs ++ t.mark mk.CloseBrace ∷ [])

setters_sound : (ts : Tokens) (v : Unit {0}) (us : Tokens) → setters_in ts ≡ Ok (v, us) → (xs : Several SetterTree) × Starts us ts (setters_rest xs) × Every SettingFits (map (λ x. x.setting) (each xs))
setters_sound ts v us h =
    let brace = parse_passed (expect_in (Mark mk.OpenBrace) ts) h in
    let n = parse_passed (name_in brace.us) brace.goes in
    let begin = expect_taken (Mark mk.OpenBrace) ts brace.v brace.us brace.is in
    let name = name_taken brace.us n.v n.us n.is in
    let r = elements_sound setter_turn setter_name t.name setter_rest (t.mark mk.CloseBrace) SettersFit setter_sound tt n.us v us n.v.0 n.goes tt in
    (r.all, front begin.1 (front (name ∙ ap (λ w. t.token (t.name w) n.v.1 n.us) (sym r.begins)) r.starts), r.kept)

setters_complete : (xs : Several SetterTree) (ts us : Tokens) → Starts us ts (setters_rest xs) → Every SettingFits (map (λ x. x.setting) (each xs)) → setters_in ts ≡ Ok (tt, us)
setters_complete xs ts us st fit =
    let a = starts_one st in
    let b = starts_one a.starts in
    let r = elements_complete setter_turn setter_name t.name setter_rest (t.mark mk.CloseBrace) SettersFit setter_complete xs tt b.behind us b.starts fit in
    parse_on (expect_in (Mark mk.OpenBrace) ts) _ (ap (expect_in (Mark mk.OpenBrace)) a.is) (parse_on (name_in a.behind) _ (ap name_in b.is) r.1)

-- a test behind the keyword
abbrev pub test_rest : TestTree → List Terminal
test_rest x = t.name x.class ∷ t.name x.name ∷ setters_rest x.setters

-- the test was added
pub record TestStands (text : List ℕ) (d e : Draft) (x : TestTree) : Type 0 where
  pub row : Test
  pub is : e ≡ with_test row d
  pub named : spelt text row.name ≡ x.name

module _ (text : List ℕ) (place : ℕ) (d : Draft) where
  -- a test was accepted
  pub record TestRead (ts : Tokens) (e : Draft) (us : Tokens) : Type 0 where
    pub tree : TestTree
    pub starts : Starts us ts (test_rest tree)
    pub stands : TestStands text d e tree
    pub fits : Every SettingFits (map (λ x. x.setting) (each tree.setters))

  pub test_sound : (ts : Tokens) (e : Draft) (us : Tokens) → NamesAt text ts → test_in text place d ts ≡ Ok (e, us) → TestRead ts e us
  unfolding test_in
  test_sound ts e us names h =
      let room = refuse_passed (leb 128 (length d.tests)) (TableFull place) _ h in
      let name = then_passed (test_name_in text d ts) room.1 in
      let class = parse_passed (name_in ts) name.is in
      let n = parse_passed (name_in class.us) class.goes in
      let new = refuse_passed (runnable_in text d.tests d.flows n.v.0) (DeclaredBefore n.v.1) _ n.goes in
      let named = accepted new.1 in
      let setters = then_passed (setters_in name.us) name.goes in
      let made = accepted setters.goes in
      let a = name_taken ts class.v class.us class.is in
      let b = name_taken class.us n.v n.us n.is in
      let c = setters_sound name.us setters.v setters.us setters.is in
      let before : Starts n.us ts (t.name class.v.0 ∷ t.name n.v.0 ∷ []) = front a (front b here) in
      let spelled = name_at text class.us n.v n.us n.is (subst (NamesAt text) a names).1 in
      let x : TestTree = record { class = class.v.0; name = n.v.0; setters = c.0 } in
      let all : Starts setters.us ts (test_rest x) = join before (subst (λ z. Starts setters.us z (setters_rest c.0)) (sym named.1) c.1) in
      record {
        tree = x;
        starts = subst (λ z. Starts z ts (test_rest x)) made.1 all;
        stands = record { row = record { name = name.v }; is = sym made.0; named = subst (λ (y : Name). spelt text y ≡ n.v.0) named.0 spelled };
        fits = c.2;
      }

  -- a test is accepted
  pub test_complete : (ts us : Tokens) (x : TestTree) → NamesAt text ts → Starts us ts (test_rest x) → length d.tests < 128 → declared x.name (names_in text (λ r. r.name) d.tests) ≡ false → declared x.name (names_in text (λ r. r.name) d.flows) ≡ false → Every SettingFits (map (λ x. x.setting) (each x.setters)) → (e : Draft) × (test_in text place d ts ≡ Ok (e, us)) × TestStands text d e x
  unfolding test_in
  test_complete ts us x names st room no_test no_flow fits =
      let a = starts_one st in
      let b = starts_one a.starts in
      let name : Name = record { place = b.place; len = length x.name } in
      let row : Test = record { name = name } in
      let spelled : spelt text name ≡ x.name = (subst (NamesAt text) b.is (subst (NamesAt text) a.is names).1).0 in
      let full : leb 128 (length d.tests) ≡ false = lt-leb 128 (length d.tests) room in
      let new : runnable_in text d.tests d.flows x.name ≡ false = or_from _ _ (ap is_some (undeclared_found (λ r. r.name) text x.name d.tests no_test)) (ap is_some (undeclared_found (λ r. r.name) text x.name d.flows no_flow)) in
      let named : test_name_in text d ts ≡ Ok (name, b.behind) = parse_on (name_in ts) _ (ap name_in a.is) (parse_on (name_in a.behind) _ (ap name_in b.is) (refuse_on (runnable_in text d.tests d.flows x.name) _ _ new refl)) in
      (with_test row d, refuse_on (leb 128 (length d.tests)) _ _ full (then_on (test_name_in text d ts) _ named (then_on (setters_in b.behind) _ (setters_complete x.setters b.behind us b.starts fits) refl)), record { row = row; is = refl; named = spelled })
