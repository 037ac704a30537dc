-- The sections [counters] test* of a file, both ways: up to the symbol with which the flows begin.
use Rattle.std.proofs.Common.{◌≡◌, ℕ, ◌+◌, ◌≤◌, true, false, List, [], ◌∷◌, ◌++◌, map, length, Some, Ok, Option, sym, refl, ap, ◌∙◌, subst, append_assoc, append-nil, arith, length-append}
use Rattle.std.proofs.lemmas.List.{map_push}
use Rattle.std.specs.List.{flat_map}
use Rattle.keywords.specs.declared.Keyword.TheVariants as kw
use Rattle.tokens.specs.Terminals.{Terminal, Tokens}
use Rattle.grammar.specs.declared.symbols.Found.{Found}
use Rattle.grammar.specs.declared.symbols.Symbol.TheVariants as sy
use Rattle.grammar.specs.Readers.{symbol_in}
use Rattle.plan.specs.declared.rows.Counter.{Counter}
use Rattle.plan.specs.declared.rows.Test.{Test}
use Rattle.plan.specs.Drafts.{Draft, with_test}
use Rattle.plan.specs.Rules.{Once, spelt}
use Rattle.refusals.specs.Shapes.{is_keyword, optional}
use Rattle.refusals.specs.Steps.{Loaded, many}
use Rattle.refusals.proofs.Passing.{parse_passed, then_passed}
use Rattle.refusals.proofs.Spelled.{NamesAt}
use Rattle.declarations.specs.Counters.{counters_in}
use Rattle.declarations.specs.Tests.{test_in}
use Rattle.plan_file.specs.File.{test_turn, flows_in, sections_in}
use Rattle.language.specs.Trees.{Word, Several, each, SettingTree, TestTree}
use Rattle.language.specs.Grammar.{option_tokens, counters_tokens, test_tokens}
use Rattle.language.specs.Standing.{declared, listed, names_in}
use Rattle.language.specs.Obeying.{Starts, Every, SettingFits}
use Rattle.language.proofs.Taking.{symbol_same, symbol_taken, join, split, names_behind, undeclared_next}
use Rattle.language.proofs.Rows.{keyword_at, rows_sound, rows_complete}
use Rattle.language.proofs.Along.{every_then, every_front, every_behind, joined_append}
use Rattle.language.proofs.Onward.{parse_on, then_on}
use Rattle.language.proofs.Optional.{back, symbol_again, starts_none, PartRead, optional_sound, optional_some, Ahead, ahead, ahead_option, ahead_fewer, ahead_read}
use Rattle.language.proofs.ClauseLists.{map_moved}
use Rattle.language.proofs.Declarations.{counting, counting_none, counters_rest, CountersStand, counters_sound, counters_complete, test_rest, test_sound, test_complete}

-- the tests replaced
abbrev with_tests : List Test → Draft → Draft
with_tests rows d = record {
  groups = d.groups;
  bins = d.bins;
  counters = d.counters;
  tests = rows;
  flows = d.flows;
  items = d.items;
  clauses = d.clauses;
  values = d.values;
  mentions = d.mentions;
  sort_group = d.sort_group;
  main_flow = d.main_flow;
}

-- tests more, and the rest as it was
abbrev pub testing : List Test → Draft → Draft
testing rows d = with_tests (d.tests ++ rows) d

testing_push : (rows : List Test) (row : Test) (d e : Draft) → e ≡ testing rows d → with_test row e ≡ testing (rows ++ row ∷ []) d
testing_push rows row d e is = ap (with_test row) is ∙ ap (λ l. with_tests l d) (append_assoc d.tests rows (row ∷ []))

testing_none : (d : Draft) → d ≡ testing [] d
testing_none d = ap (λ l. with_tests l d) (sym (append-nil d.tests))

-- the settings of tests
abbrev settings_one : TestTree → List SettingTree
settings_one x = map (λ s. s.setting) (each x.setters)

abbrev pub settings_in : List TestTree → List SettingTree
settings_in xs = flat_map settings_one xs

module _ (text : List ℕ) (d : Draft) where
  -- these tests were added
  pub record TestsStand (e : Draft) (xs : List TestTree) : Type 0 where
    pub rows : List Test
    pub is : e ≡ testing rows d
    pub names : names_in text (λ r. r.name) rows ≡ map (λ x. x.name) xs
    pub fits : Every SettingFits (settings_in xs)

  abbrev test_row : Found → Draft → Tokens → Loaded Draft
  test_row f = test_in text f.place

  test_step : (f : Found) (s : Draft) (ts : Tokens) (e : Draft) (us : Tokens) (done : List TestTree) → is_keyword kw.Test f ≡ true → test_row f s ts ≡ Ok (e, us) → TestsStand s done → NamesAt text ts → (x : TestTree) × (f.symbol ≡ sy.Keyword kw.Test) × Starts us ts (test_rest x) × TestsStand e (done ++ x ∷ [])
  test_step f s ts e us done k h l names =
      let r = test_sound text f.place s ts e us names h in
      let x = r.tree in
      let row = r.stands.row in
      let stands : TestsStand e (done ++ x ∷ []) = record {
        rows = l.rows ++ row ∷ [];
        is = r.stands.is ∙ testing_push l.rows row d s l.is;
        names = map_push (λ r. spelt text r.name) l.rows row ∙ (ap (λ y. y ++ spelt text row.name ∷ []) l.names ∙ (ap (λ y. map (λ x. x.name) done ++ y ∷ []) r.stands.named ∙ sym (map_push (λ (x : TestTree). x.name) done x)));
        fits = subst (Every SettingFits) (sym (joined_append settings_one done (x ∷ []))) (every_then SettingFits (settings_in done) (settings_in (x ∷ [])) l.fits (subst (Every SettingFits) (sym (append-nil (settings_one x))) r.fits));
      } in
      (x, symbol_same f.symbol (sy.Keyword kw.Test) k, r.starts, stands)

  -- these tests are to come, of the whole list
  record TestsToCome (whole : List TestTree) (e : Draft) (xs : List TestTree) : Type 0 where
    pub rows : List Test
    pub is : e ≡ testing rows d
    pub all : names_in text (λ r. r.name) rows ++ map (λ x. x.name) xs ≡ map (λ x. x.name) whole
    pub fits : Every SettingFits (settings_in xs)
    pub room : length e.tests + length xs ≤ 128
    pub once : Once (names_in text (λ r. r.name) e.tests ++ map (λ x. x.name) xs)

  test_next : (whole : List TestTree) → d.flows ≡ [] → (s : Draft) (x : TestTree) (xs : List TestTree) (p : ℕ) (ts us : Tokens) → TestsToCome whole s (x ∷ xs) → NamesAt text ts → Starts us ts (test_rest x) → (e : Draft) × (test_row (keyword_at kw.Test p) s ts ≡ Ok (e, us)) × TestsToCome whole e xs
  test_next whole none s x xs p ts us q names st =
      let n = x.name in
      let others = map (λ (x : TestTree). x.name) xs in
      let room = q.room in
      let no_test = undeclared_next (names_in text (λ r. r.name) s.tests) n others q.once in
      let no_flow : declared n (names_in text (λ r. r.name) s.flows) ≡ false = ap (λ l. declared n (names_in text (λ r. r.name) l)) (ap (λ (y : Draft). y.flows) q.is ∙ none) in
      let r = test_complete text p s ts us x names st (omega arith) no_test no_flow (every_front SettingFits (settings_one x) (settings_in xs) q.fits) in
      let row = r.2.row in
      let moved = λ (rows : List Test). map_moved (λ r. spelt text r.name) rows row others ∙ ap (λ w. names_in text (λ r. r.name) rows ++ w ∷ others) r.2.named in (
        with_test row s,
        r.1 ∙ ap (λ e. Ok (e, us)) r.2.is,
        record {
          rows = q.rows ++ row ∷ [];
          is = testing_push q.rows row d s q.is;
          all = moved q.rows ∙ q.all;
          fits = every_behind SettingFits (settings_one x) (settings_in xs) q.fits;
          room = omega (arith, length-append s.tests (row ∷ []));
          once = subst Once (sym (moved s.tests)) q.once;
        },
      )

-- the counters and the tests were added
pub record SectionsStand (text : List ℕ) (d e : Draft) (counters : Option (Several Word)) (tests : List TestTree) : Type 0 where
  pub counter_rows : List Counter
  pub test_rows : List Test
  pub is : e ≡ testing test_rows (counting counter_rows d)
  pub counter_names : names_in text (λ r. r.name) counter_rows ≡ listed counters
  pub test_names : names_in text (λ r. r.name) test_rows ≡ map (λ x. x.name) tests

abbrev pub sections_tokens : Option (Several Word) → List TestTree → List Terminal
sections_tokens counters tests = option_tokens counters_tokens counters ++ flat_map test_tokens tests

module _ (text : List ℕ) (d : Draft) where
  -- the sections were accepted, and the flows from the symbol g on
  pub record SectionsRead (ts : Tokens) (z : Draft × Tokens) : Type 0 where
    pub counters : Option (Several Word)
    pub tests : List TestTree
    pub draft : Draft
    pub symbol : Found
    pub behind : Tokens
    pub left : Tokens
    pub starts : Starts left ts (sections_tokens counters tests)
    pub last : symbol_in left ≡ Ok (symbol, behind)
    pub goes : flows_in text (draft, symbol) behind ≡ Ok z
    pub stands : SectionsStand text d draft counters tests
    pub fits : Every SettingFits (settings_in tests)

  abbrev CountersAre : Option (Several Word) → Draft → Type 0
  CountersAre o e = CountersStand text d e (listed o)

  pub sections_sound : (ts : Tokens) (z : Draft × Tokens) → NamesAt text ts → sections_in text d ts ≡ Ok z → SectionsRead ts z
  sections_sound ts z names h =
      let f = parse_passed (symbol_in ts) h in
      let k = then_passed (optional kw.Counters d (counters_in text d) f.v f.us) f.goes in
      let n = then_passed (many (test_turn text) k.v k.us) k.goes in
      let first = symbol_taken ts f.v f.us f.is in
      let all = subst (NamesAt text) first names in
      let c = optional_sound kw.Counters d (counters_in text d) counters_rest CountersAre f.v f.us (record { rows = []; is = counting_none d; names = refl }) (λ x us e. counters_sound text d f.us x us all.1 e) k.v k.us k.is in
      read f.v f.us k.v k.us n.v n.us first c n.is n.goes
    where
      read : (f : Found) (fs : Tokens) (k : Draft × Found) (ks : Tokens) (n : Draft × Found) (ns : Tokens) → ts ≡ back f fs → PartRead kw.Counters d (counters_in text d) counters_rest CountersAre f fs k.0 k.1 ks → many (test_turn text) k ks ≡ Ok (n, ns) → flows_in text n ns ≡ Ok z → SectionsRead ts z
      read f fs k ks n ns first c h goes =
          let before : Starts (back k.1 ks) ts (option_tokens counters_tokens c.tree) = subst (λ y. Starts (back k.1 ks) y (option_tokens counters_tokens c.tree)) (sym first) c.starts in
          let r = rows_sound (is_keyword kw.Test) (test_row text k.0) (λ (x : TestTree). kw.Test) test_rest (NamesAt text) (λ x p ts h. h.1) (TestsStand text k.0) (test_step text k.0) k.0 k.1 (back k.1 ks) ks n.0 n.1 ns [] (symbol_again k.1 ks) (record { rows = []; is = testing_none k.0; names = refl; fits = tt }) (names_behind text before names) h in
          record {
            counters = c.tree;
            tests = r.rows;
            draft = n.0;
            symbol = n.1;
            behind = ns;
            left = r.vs;
            starts = join before r.starts;
            last = r.last;
            goes = goes;
            stands = record { counter_rows = c.is.rows; test_rows = r.holds.rows; is = r.holds.is ∙ ap (testing r.holds.rows) c.is.is; counter_names = c.is.names; test_names = r.holds.names };
            fits = r.holds.fits;
          }

  -- the tests stand before another symbol
  ahead_tests : (tests : List TestTree) (us ts : Tokens) → Starts us ts (flat_map test_tokens tests) → Ahead (kw.Counters ∷ []) us → Ahead (kw.Counters ∷ []) ts
  ahead_tests [] us ts st a = subst (Ahead (kw.Counters ∷ [])) (sym (starts_none st)) a
  ahead_tests (x ∷ xs) us ts st a = ahead (kw.Counters ∷ []) kw.Test us ts (test_rest x ++ flat_map test_tokens xs) (refl, tt) st

  -- the sections are accepted, if the flows from the symbol g on are
  pub sections_complete : (ts left : Tokens) (counters : Option (Several Word)) (tests : List TestTree) (g : Found) (behind : Tokens) → NamesAt text ts → Starts left ts (sections_tokens counters tests) → symbol_in left ≡ Ok (g, behind) → is_keyword kw.Counters g ≡ false → is_keyword kw.Test g ≡ false → d.counters ≡ [] → d.tests ≡ [] → d.flows ≡ [] → length (listed counters) ≤ 32 → Once (listed counters) → length tests ≤ 128 → Once (map (λ x. x.name) tests) → Every SettingFits (settings_in tests) → (e : Draft) × SectionsStand text d e counters tests × ((z : Draft × Tokens) → flows_in text (e, g) behind ≡ Ok z → sections_in text d ts ≡ Ok z)
  sections_complete ts left counters tests g behind names st last no_counters no_test counters0 tests0 flows0 counter_room counter_once test_room test_once fits =
      let a = split ts (option_tokens counters_tokens counters) (flat_map test_tokens tests) st in
      let a2 : Ahead (kw.Counters ∷ []) left = record { symbol = g; behind = behind; is = symbol_taken left g behind last; none = (no_counters, tt) } in
      let a1 = ahead_tests tests left a.us a.behind a2 in
      let a0 = ahead_option [] kw.Counters counters_rest counters a.us ts tt a.before (ahead_fewer a1) in
      let c = optional_some kw.Counters [] d (counters_in text d) counters_rest CountersAre counters ts a.us a0 a1 a.before (record { rows = []; is = counting_none d; names = refl }) (λ ns e. declared_counters ns e a0.behind a.us (subst (NamesAt text) a0.is names).1) in
      let r = tested c.0 c.2.rows c.2.is a.us a1 (names_behind text a.before names) a.behind in
      let stands : SectionsStand text d r.0 counters tests = record { counter_rows = c.2.rows; test_rows = r.2.rows; is = r.2.is ∙ ap (testing r.2.rows) c.2.is; counter_names = c.2.names; test_names = sym (append-nil (names_in text (λ r. r.name) r.2.rows)) ∙ r.2.all } in
      (r.0, stands, λ z h. parse_on (symbol_in ts) _ (ahead_read [] ts a0) (then_on (optional kw.Counters d (counters_in text d) a0.symbol a0.behind) _ c.1 (then_on (many (test_turn text) (c.0, a1.symbol) a1.behind) _ r.1 h)))
    where
      declared_counters : (ns : Several Word) → counters ≡ Some ns → (vs us : Tokens) → NamesAt text vs → Starts us vs (counters_rest ns) → (e : Draft) × (counters_in text d vs ≡ Ok (e, us)) × CountersStand text d e (each ns)
      declared_counters ns e vs us names st =
          let few : length (each ns) ≤ 32 = subst (λ o. length (listed o) ≤ 32) e counter_room in
          let once : Once (each ns) = subst (λ o. Once (listed o)) e counter_once in
          counters_complete text d vs us ns names st (omega (arith, ap length counters0)) (subst (λ l. Once (names_in text (λ r. r.name) l ++ each ns)) (sym counters0) once)

      tested : (e : Draft) (rows : List Counter) → e ≡ counting rows d → (vs : Tokens) (a : Ahead (kw.Counters ∷ []) vs) → NamesAt text vs → Starts left vs (flat_map test_tokens tests) → (r : Draft) × (many (test_turn text) (e, a.symbol) a.behind ≡ Ok ((r, g), behind)) × TestsToCome text e tests r []
      tested e rows is vs a names st =
          let none : e.tests ≡ [] = ap (λ (y : Draft). y.tests) is ∙ tests0 in
          let flows : e.flows ≡ [] = ap (λ (y : Draft). y.flows) is ∙ flows0 in
          let first : TestsToCome text e tests e tests = record { rows = []; is = testing_none e; all = refl; fits = fits; room = omega (arith, ap length none, test_room); once = subst (λ l. Once (names_in text (λ r. r.name) l ++ map (λ x. x.name) tests)) (sym none) test_once } in
          rows_complete (is_keyword kw.Test) (test_row text e) (λ (x : TestTree). kw.Test) test_rest (NamesAt text) (λ x p ts h. h.1) (TestsToCome text e tests) (λ x p. refl) (test_next text e tests flows) tests e a.symbol vs a.behind left g behind first names (ahead_read (kw.Counters ∷ []) vs a) st last no_test
