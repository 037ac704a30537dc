-- Items, both ways: the clauses of an item, an item, the items of a flow.
use Rattle.std.proofs.Common.{◌≡◌, ℕ, ◌+◌, ◌<◌, ◌≤◌, Bool, true, false, cond, not, leb, List, [], ◌∷◌, ◌++◌, map, length, drop, is_some, Some, None, Ok, Option, sym, refl, ap, ◌∙◌, subst, append_assoc, append-nil, arith, length-append}
use lib.ListN.{length-map}
use Rattle.std.proofs.lemmas.List.{map-append, drop_at}
use Rattle.std.proofs.lemmas.Bool.{cond-true, cond-false, true≢false, lt-leb}
use Rattle.std.specs.Option.{option_map}
use Rattle.std.specs.List.{flat_map, slice_get}
use Rattle.text_bytes.specs.declared.kinds.Mark.TheVariants as mk
use Rattle.keywords.specs.declared.Keyword.TheVariants as kw
use Rattle.tokens.specs.Terminals.{Terminal, Tokens}
use Rattle.tokens.specs.Terminals as t
use Rattle.grammar.specs.declared.symbols.Found.{Found}
use Rattle.grammar.specs.declared.symbols.Symbol.TheVariants as sy
use Rattle.grammar.specs.Readers.{Spot, name_in}
use Rattle.plan.specs.declared.rows.Clause.{Clause}
use Rattle.plan.specs.declared.rows.Item.{Item}
use Rattle.plan.specs.declared.rows.Next.{Next}
use Rattle.plan.specs.declared.rows.Runs.{Runs}
use Rattle.plan.specs.declared.rows.Runs.TheVariants.{Test as RunsTest, Flow as RunsFlow}
use Rattle.plan.specs.declared.rows.Span.{Span}
use Rattle.plan.specs.declared.rows.Value.{Value}
use Rattle.plan.specs.Drafts.{Draft, with_item}
use Rattle.plan.specs.Meaning.{rows_of, code_of, bin_of}
use Rattle.plan.specs.Rules.{Once, spelt}
use Rattle.names.specs.Names.{found}
use Rattle.refusals.specs.declared.fault.RuleFault.TheVariants.{DeclaredBefore, TableFull, ReturnNotListed, TooDeep}
use Rattle.refusals.specs.Shapes.{is_keyword}
use Rattle.refusals.specs.Steps.{Loaded, then, refuse}
use Rattle.refusals.proofs.Passing.{no_fault, accepted, parse_passed, then_passed, refuse_passed}
use Rattle.clauses.specs.Clauses.{clause_in}
use Rattle.clauses.proofs.Beside.{Beside, beside, beside_then}
use Rattle.flows.specs.Checks.{item_name, depth_in, depth_of}
use Rattle.flows.specs.Flows.{name_of, span, clauses_in, flow_run, test_run, runs_in, run_listed, item_in, items_in}
use Rattle.flows.proofs.Following.{between_append, span_added}
use Rattle.flows.proofs.Kept.{Same, rows_length}
use Rattle.language.specs.Trees.{Word, Several, each, BinsTree, NextTree, ClauseTree, ItemTree}
use Rattle.language.specs.Grammar.{row_tokens, clause_tokens, item_tokens}
use Rattle.language.specs.Standing.{position, declared, listed, group_names, bin_names, code, verdict_meant, Scope, names_in}
use Rattle.language.specs.Obeying.{Starts, next, Every}
use Rattle.language.proofs.Along.{Along, along_then, along_length, along_weaker, joined_append, every_then, every_behind}
use Rattle.language.proofs.Clauses.{clause_rest, Declared, NextStands, ClauseStands, ClauseKeeps, ClauseFits, clause_sound, clause_complete}
use Rattle.language.proofs.Rows.{block_sound, block_complete}
use Rattle.language.proofs.Taking.{symbol_same, name_taken, front, found_position, found_undeclared, declared_found, undeclared_found, once_front}
use Rattle.language.proofs.Words.{Written, written_on, written_name}

-- rows of clauses

-- what the row of a clause stands for, by the tables of values and mentions; `leads` tells what its target may be
pub record RowStands (leads : Next → NextTree → Type 0) (s : Scope) (vs : List Value) (ms : List ℕ) (row : Clause) (c : ClauseTree) : Type 0 where
  pub values : map code_of (rows_of row.values vs) ≡ map code (each c.values)
  pub values_in : row.values.to ≤ length vs
  pub counters : rows_of row.counters ms ≡ map (λ n. position n s.counters) (listed c.counters)
  pub counters_in : row.counters.to ≤ length ms
  pub verdict : row.verdict ≡ verdict_meant c.pass_fail
  pub leaf : row.leaf ≡ option_map (λ b. position b.bin s.bins) c.leaf
  pub next : leads row.next c.next

-- where values and mentions are added behind
pub row_later : (leads : Next → NextTree → Type 0) (s : Scope) (vs vs2 more : List Value) (ms ms2 named : List ℕ) → vs2 ≡ vs ++ more → ms2 ≡ ms ++ named → (row : Clause) (c : ClauseTree) → RowStands leads s vs ms row c → RowStands leads s vs2 ms2 row c
row_later leads s vs vs2 more ms ms2 named a b row c r = record {
  values = ap (λ (l : List Value). map code_of (rows_of row.values l)) a ∙ (ap (map code_of) (between_append row.values.from row.values.to vs more r.values_in) ∙ r.values);
  values_in = omega (arith, r.values_in, rows_length vs vs2 more a);
  counters = ap (λ (l : List ℕ). rows_of row.counters l) b ∙ (between_append row.counters.from row.counters.to ms named r.counters_in ∙ r.counters);
  counters_in = omega (arith, r.counters_in, rows_length ms ms2 named b);
  verdict = r.verdict;
  leaf = r.leaf;
  next = r.next;
}

abbrev pub codes_of : ClauseTree → List ℕ
codes_of c = map code (each c.values)

abbrev pub mentions_of : Scope → ClauseTree → List ℕ
mentions_of s c = map (λ n. position n s.counters) (listed c.counters)

-- the tables e are the tables d with these clauses added
pub record ClausesAdded (leads : Next → NextTree → Type 0) (s : Scope) (d e : Draft) (cs : List ClauseTree) : Type 0 where
  pub rows : List Clause
  pub clauses : e.clauses ≡ d.clauses ++ rows
  pub more : List Value
  pub values : e.values ≡ d.values ++ more
  pub codes : map code_of more ≡ flat_map codes_of cs
  pub mentions : e.mentions ≡ d.mentions ++ flat_map (mentions_of s) cs
  pub stand : Along (RowStands leads s e.values e.mentions) rows cs

-- rows added behind, and others behind these
behind : {X : Type 0} (xs ys zs a b : List X) → ys ≡ xs ++ a → zs ≡ ys ++ b → zs ≡ xs ++ (a ++ b)
behind xs ys zs a b e f = f ∙ (ap (λ l. l ++ b) e ∙ append_assoc xs a b)

module _ (text : List ℕ) (s : Scope) where
  pub none_added : (d : Draft) → ClausesAdded (NextStands text) s d d []
  none_added d = record { rows = []; clauses = sym (append-nil d.clauses); more = []; values = sym (append-nil d.values); codes = refl; mentions = sym (append-nil d.mentions); stand = tt }

  pub added_then : (c d e : Draft) (cs ds : List ClauseTree) → ClausesAdded (NextStands text) s c d cs → ClausesAdded (NextStands text) s d e ds → ClausesAdded (NextStands text) s c e (cs ++ ds)
  added_then c d e cs ds a b = record {
    rows = a.rows ++ b.rows;
    clauses = behind c.clauses d.clauses e.clauses a.rows b.rows a.clauses b.clauses;
    more = a.more ++ b.more;
    values = behind c.values d.values e.values a.more b.more a.values b.values;
    codes = map-append code_of a.more b.more ∙ (ap (λ l. l ++ map code_of b.more) a.codes ∙ (ap (λ l. flat_map codes_of cs ++ l) b.codes ∙ sym (joined_append codes_of cs ds)));
    mentions = behind c.mentions d.mentions e.mentions (flat_map (mentions_of s) cs) (flat_map (mentions_of s) ds) a.mentions b.mentions ∙ ap (λ l. c.mentions ++ l) (sym (joined_append (mentions_of s) cs ds));
    stand = along_then (RowStands (NextStands text) s e.values e.mentions) a.rows cs b.rows ds
        (along_weaker (RowStands (NextStands text) s d.values d.mentions) (RowStands (NextStands text) s e.values e.mentions) (row_later (NextStands text) s d.values e.values b.more d.mentions e.mentions (flat_map (mentions_of s) ds) b.values b.mentions) a.rows cs a.stand)
        b.stand;
  }

  -- one clause
  pub one_added : (d e : Draft) (c : ClauseTree) → ClauseStands text s d e c → ClausesAdded (NextStands text) s d e (c ∷ [])
  one_added d e c a =
      let row = a.row in
      record {
        rows = row ∷ [];
        clauses = a.clauses;
        more = a.more;
        values = a.values;
        codes = a.codes ∙ sym (append-nil (codes_of c));
        mentions = a.mentions ∙ ap (λ l. d.mentions ++ l) (sym (append-nil (mentions_of s c)));
        stand = (
          record {
            values = ap (λ (x : Span). map code_of (rows_of x e.values)) a.row_values ∙ (ap (map code_of) (span_added d.values e.values a.more a.values) ∙ a.codes);
            values_in = omega (arith, ap (λ (x : Span). x.to) a.row_values);
            counters = ap (λ (x : Span). rows_of x e.mentions) a.row_counters ∙ span_added d.mentions e.mentions (mentions_of s c) a.mentions;
            counters_in = omega (arith, ap (λ (x : Span). x.to) a.row_counters);
            verdict = a.verdict;
            leaf = a.leaf;
            next = a.next;
          },
          tt,
        );
      }

-- the clauses of an item

pub beside_same : {d e : Draft} → Beside d e → Same d e
beside_same b = record { groups = b.groups; bins = b.bins; counters = b.counters; tests = b.tests; flows = b.flows; sort_group = b.sort_group; main_flow = b.main_flow }

pub same_then : {c d e : Draft} → Same c d → Same d e → Same c e
same_then a b = record { groups = b.groups ∙ a.groups; bins = b.bins ∙ a.bins; counters = b.counters ∙ a.counters; tests = b.tests ∙ a.tests; flows = b.flows ∙ a.flows; sort_group = b.sort_group ∙ a.sort_group; main_flow = b.main_flow ∙ a.main_flow }

pub declared_same : (text : List ℕ) (bins : BinsTree) (s : Scope) (d e : Draft) → Same d e → Declared text bins s d → Declared text bins s e
declared_same text bins s d e b k = record {
  groups = ap (names_in text (λ r. r.name)) b.groups ∙ k.groups;
  bin_named = ap (names_in text (λ r. r.name)) b.bins ∙ k.bin_named;
  bin_rows = ap (map bin_of) b.bins ∙ k.bin_rows;
  bin_scope = k.bin_scope;
  counters = ap (names_in text (λ r. r.name)) b.counters ∙ k.counters;
}

parts : {A : Type 0} (f : ClauseTree → List A) (done : List ClauseTree) (c : ClauseTree) (rest all : List ClauseTree) → done ++ c ∷ rest ≡ all → flat_map f done ++ (f c ++ flat_map f rest) ≡ flat_map f all
parts f done c rest all e = sym (joined_append f done (c ∷ rest)) ∙ ap (flat_map f) e

lengths : {A : Type 0} (f : ClauseTree → List A) (done : List ClauseTree) (c : ClauseTree) (rest all : List ClauseTree) → done ++ c ∷ rest ≡ all → length (flat_map f all) ≡ length (flat_map f done) + (length (f c) + length (flat_map f rest))
lengths f done c rest all e = sym (ap length (parts f done c rest all e)) ∙ (length-append (flat_map f done) (f c ++ flat_map f rest) ∙ ap (λ n. length (flat_map f done) + n) (length-append (f c) (flat_map f rest)))

-- the tables have room for these clauses
pub record Room (s : Scope) (d : Draft) (cs : List ClauseTree) : Type 0 where
  pub clauses : length d.clauses + length cs ≤ 1024
  pub values : length d.values + length (flat_map codes_of cs) ≤ 2048
  pub mentions : length d.mentions + length (flat_map (mentions_of s) cs) ≤ 2048

module _ (text : List ℕ) (bins : BinsTree) (s : Scope) where
  -- { clause+ } was accepted
  pub record ClausesRead (d : Draft) (ts : Tokens) (e : Draft) (us : Tokens) : Type 0 where
    pub trees : Several ClauseTree
    pub starts : Starts us ts (t.mark mk.OpenBrace ∷ (row_tokens clause_tokens trees ++ t.mark mk.CloseBrace ∷ []))
    pub added : ClausesAdded (NextStands text) s d e (each trees)
    pub others : Beside d e
    pub keeps : Every (ClauseKeeps bins s) (each trees)

  pub clauses_sound : (d : Draft) (ts : Tokens) (e : Draft) (us : Tokens) → Declared text bins s d → Written text ts → clauses_in text d ts ≡ Ok (e, us) → ClausesRead d ts e us
  clauses_sound d ts e us k w h =
      let r = block_sound (is_keyword kw.Result) (λ f. clause_in text f.place (length d.values)) (λ _. kw.Result) clause_rest (Written text) (written_on text) P step d ts e us h (none_added text s d, beside d, tt) w in
      record { trees = r.0; starts = r.1; added = r.2.0; others = r.2.1; keeps = r.2.2 }
    where
      P : Draft → List ClauseTree → Type 0
      P x done = ClausesAdded (NextStands text) s d x done × Beside d x × Every (ClauseKeeps bins s) done

      step : (f : Found) (x : Draft) (ts : Tokens) (y : Draft) (us : Tokens) (done : List ClauseTree) → is_keyword kw.Result f ≡ true → clause_in text f.place (length d.values) x ts ≡ Ok (y, us) → P x done → Written text ts → (c : ClauseTree) × (f.symbol ≡ sy.Keyword kw.Result) × Starts us ts (clause_rest c) × P y (done ++ c ∷ [])
      step f x ts y us done b h p w =
          let c = clause_sound text bins s f.place (length d.values) x ts y us (declared_same text bins s d x (beside_same p.1) k) w.1 h in
          (c.tree, symbol_same f.symbol (sy.Keyword kw.Result) b, c.starts, (added_then text s d x y done (c.tree ∷ []) p.0 (one_added text s x y c.tree c.stands), beside_then p.1 c.stands.others, every_then (ClauseKeeps bins s) done (c.tree ∷ []) p.2 (c.keeps, tt)))

  -- { clause+ } is accepted
  pub clauses_complete : (d : Draft) (ts us : Tokens) (trees : Several ClauseTree) → Declared text bins s d → Once (group_names bins) → Once (bin_names bins) → Written text ts → Starts us ts (t.mark mk.OpenBrace ∷ (row_tokens clause_tokens trees ++ t.mark mk.CloseBrace ∷ [])) → Every (ClauseKeeps bins s) (each trees) → Room s d (each trees) → Once (flat_map codes_of (each trees)) → Every (λ c. Once (mentions_of s c)) (each trees) → (e : Draft) × (clauses_in text d ts ≡ Ok (e, us)) × ClausesAdded (NextStands text) s d e (each trees) × Beside d e
  clauses_complete d ts us trees k groups names w st keeps room values counters =
      let r = block_complete (is_keyword kw.Result) (λ f. clause_in text f.place (length d.values)) (λ _. kw.Result) clause_rest (Written text) (written_on text) P (λ _ _. refl) step (λ _. refl) trees d ts us ([], refl, none_added text s d, beside d) w st in
      let all : r.2.0 ≡ each trees = sym (append-nil r.2.0) ∙ r.2.1 in
      (r.0, r.1, subst (ClausesAdded (NextStands text) s d r.0) all r.2.2, r.2.3)
    where
      P : Draft → List ClauseTree → Type 0
      P x rest = (done : List ClauseTree) × (done ++ rest ≡ each trees) × ClausesAdded (NextStands text) s d x done × Beside d x

      fits : (x : Draft) (done : List ClauseTree) (c : ClauseTree) (rest : List ClauseTree) → done ++ c ∷ rest ≡ each trees → ClausesAdded (NextStands text) s d x done → ClauseFits s (length d.values) x c
      fits x done c rest e a =
          let codes = parts codes_of done c rest (each trees) e in
          let named = parts (mentions_of s) done c rest (each trees) e in
          let own : map code_of (drop (length d.values) x.values) ≡ flat_map codes_of done = ap (map code_of) (ap (drop (length d.values)) a.values ∙ drop_at d.values a.more (length d.values) refl) ∙ a.codes in
          let once : Once ((flat_map codes_of done ++ codes_of c) ++ flat_map codes_of rest) = subst Once (sym (append_assoc (flat_map codes_of done) (codes_of c) (flat_map codes_of rest) ∙ codes)) values in
          record {
            clauses = omega (arith, rows_length d.clauses x.clauses a.rows a.clauses, along_length _ a.rows done a.stand, ap length e, length-append done (c ∷ rest), room.clauses);
            values = omega (arith, rows_length d.values x.values a.more a.values, sym (length-map a.more code_of), ap length a.codes, lengths codes_of done c rest (each trees) e, length-map (each c.values) code, room.values);
            mentions = omega (arith, rows_length d.mentions x.mentions (flat_map (mentions_of s) done) a.mentions, lengths (mentions_of s) done c rest (each trees) e, length-map (listed c.counters) (λ n. position n s.counters), room.mentions);
            begun = omega (arith, rows_length d.values x.values a.more a.values);
            values_once = subst (λ l. Once (l ++ codes_of c)) (sym own) (once_front (flat_map codes_of done ++ codes_of c) (flat_map codes_of rest) once);
            counters_once = (every_behind (λ c. Once (mentions_of s c)) done (c ∷ rest) (subst (Every (λ c. Once (mentions_of s c))) (sym e) counters)).0;
          }

      step : (x : Draft) (c : ClauseTree) (rest : List ClauseTree) (p : ℕ) (ts us : Tokens) → P x (c ∷ rest) → Written text ts → Starts us ts (clause_rest c) → (y : Draft) × (clause_in text p (length d.values) x ts ≡ Ok (y, us)) × P y rest
      step x c rest p ts us (done, e, a, b) w st =
          let own : Every (ClauseKeeps bins s) (done ++ c ∷ rest) = subst (Every (ClauseKeeps bins s)) (sym e) keeps in
          let r = clause_complete text bins s p (length d.values) x ts us c (declared_same text bins s d x (beside_same b) k) groups names w.1 st (every_behind (ClauseKeeps bins s) done (c ∷ rest) own).0 (fits x done c rest e a) in
          (r.0, r.1, (done ++ c ∷ [], append_assoc done (c ∷ []) rest ∙ e, added_then text s d x r.0 done (c ∷ []) a (one_added text s x r.0 c r.2), beside_then b r.2.others))

-- what an item runs

abbrev pub runs_of : List Word → List Word → Word → Runs
runs_of tests flows n = cond (declared n tests) (RunsTest (position n tests)) (RunsFlow (position n flows))

abbrev pub tests_in : List ℕ → Draft → List Word
tests_in text d = names_in text (λ r. r.name) d.tests

abbrev pub flows_in : List ℕ → Draft → List Word
flows_in text d = names_in text (λ r. r.name) d.flows

-- a test or a flow of these has the name, and it is run
pub record RunsStand (tests flows : List Word) (r : Runs) (n : Word) : Type 0 where
  pub known : declared n tests ≡ false → declared n flows ≡ true
  pub is : r ≡ runs_of tests flows n

pub record RunsRead (text : List ℕ) (d : Draft) (ts : Tokens) (r : Runs) (us : Tokens) : Type 0 where
  pub n : Word
  pub p : ℕ
  pub token : ts ≡ t.token (t.name n) p us
  pub stands : RunsStand (tests_in text d) (flows_in text d) r n

module _ (text : List ℕ) (d : Draft) where
  pub runs_sound : (ts : Tokens) (r : Runs) (us : Tokens) → runs_in text d ts ≡ Ok (r, us) → RunsRead text d ts r us
  runs_sound ts r us h =
      let n = parse_passed (name_in ts) h in
      let token = name_taken ts n.v n.us n.is in
      let read = by n.v n.us (found (λ x. x.name) text d.tests n.v.0) refl n.goes in
      record { n = n.v.0; p = n.v.1; token = token ∙ ap (t.token (t.name n.v.0) n.v.1) read.0; stands = read.1 }
    where
      flow : (n : Spot) (vs : Tokens) (o : Option ℕ) → declared n.0 (tests_in text d) ≡ false → found (λ x. x.name) text d.flows n.0 ≡ o → flow_run d n.1 o vs ≡ Ok (r, us) → (vs ≡ us) × RunsStand (tests_in text d) (flows_in text d) r n.0
      flow n vs None un e k = no_fault k
      flow n vs (Some f) un e k =
          let kept = refuse_passed (leb 8 (depth_in (slice_get d.flows f))) (TooDeep n.1) _ k in
          let made = accepted kept.1 in
          let at = found_position (λ x. x.name) text n.0 d.flows f e in
          (made.1, record { known = λ _. at.0; is = sym made.0 ∙ (ap RunsFlow (sym at.1) ∙ sym (cond-false (declared n.0 (tests_in text d)) _ _ un)) })

      by : (n : Spot) (vs : Tokens) (o : Option ℕ) → found (λ x. x.name) text d.tests n.0 ≡ o → test_run text d n o vs ≡ Ok (r, us) → (vs ≡ us) × RunsStand (tests_in text d) (flows_in text d) r n.0
      by n vs (Some k) e h =
          let made = accepted h in
          let at = found_position (λ x. x.name) text n.0 d.tests k e in
          (made.1, record { known = λ un. absurd (true≢false (sym at.0 ∙ un)); is = sym made.0 ∙ (ap RunsTest (sym at.1) ∙ sym (cond-true (declared n.0 (tests_in text d)) _ _ at.0)) })
      by n vs None e h = flow n vs (found (λ x. x.name) text d.flows n.0) (found_undeclared (λ x. x.name) text n.0 d.tests e) refl h

  pub runs_complete : (n : Word) (p : ℕ) (us : Tokens) → (declared n (tests_in text d) ≡ false → declared n (flows_in text d) ≡ true) → depth_of d.flows (runs_of (tests_in text d) (flows_in text d) n) < 8 → runs_in text d (t.token (t.name n) p us) ≡ Ok (runs_of (tests_in text d) (flows_in text d) n, us)
  runs_complete n p us known low = by (declared n (tests_in text d)) refl
    where
      by : (b : Bool) → declared n (tests_in text d) ≡ b → runs_in text d (t.token (t.name n) p us) ≡ Ok (runs_of (tests_in text d) (flows_in text d) n, us)
      by true e =
          ap (λ o. test_run text d (n, p) o us) (declared_found (λ x. x.name) text n d.tests e)
          ∙ ap {B = Loaded Runs} (λ (r : Runs). Ok (r, us)) (sym (cond-true (declared n (tests_in text d)) _ _ e))
      by false e =
          let is : runs_of (tests_in text d) (flows_in text d) n ≡ RunsFlow (position n (flows_in text d)) = cond-false (declared n (tests_in text d)) _ _ e in
          let low2 : depth_of d.flows (RunsFlow (position n (flows_in text d))) < 8 = subst (λ r. depth_of d.flows r < 8) is low in
          ap (λ o. test_run text d (n, p) o us) (undeclared_found (λ x. x.name) text n d.tests e)
          ∙ (ap (λ o. flow_run d p o us) (declared_found (λ x. x.name) text n d.flows (known e))
          ∙ (cond-false (leb 8 (depth_in (slice_get d.flows (position n (flows_in text d))))) _ _ (lt-leb 8 _ low2)
          ∙ ap {B = Loaded Runs} (λ (r : Runs). Ok (r, us)) (sym is)))

-- an item

-- the tokens of an item behind its keyword
abbrev pub item_rest : ItemTree → List Terminal
item_rest it = t.name it.name ∷ t.name it.runs ∷ t.mark mk.OpenBrace ∷ (row_tokens clause_tokens it.clauses ++ t.mark mk.CloseBrace ∷ [])

-- the tables e are the tables d with the item added
pub record ItemStands (text : List ℕ) (s : Scope) (d e : Draft) (it : ItemTree) : Type 0 where
  pub row : Item
  pub items : e.items ≡ d.items ++ row ∷ []
  pub name : spelt text row.name ≡ it.name
  pub runs : RunsStand (tests_in text d) (flows_in text d) row.runs it.runs
  pub clauses : row.clauses ≡ span (length d.clauses) (length e.clauses)
  pub added : ClausesAdded (NextStands text) s d e (each it.clauses)
  pub others : Same d e

-- a row of an item more
with_item_lem : (text : List ℕ) (s : Scope) (d e : Draft) (it : ItemTree) (row : Item) → spelt text row.name ≡ it.name → RunsStand (tests_in text d) (flows_in text d) row.runs it.runs → row.clauses ≡ span (length d.clauses) (length e.clauses) → ClausesAdded (NextStands text) s d e (each it.clauses) → Beside d e → ItemStands text s d (with_item row e) it
with_item_lem text s d e it row name runs clauses a b = record {
  row = row;
  items = ap (λ l. l ++ row ∷ []) b.items;
  name = name;
  runs = runs;
  clauses = clauses;
  added = record { rows = a.rows; clauses = a.clauses; more = a.more; values = a.values; codes = a.codes; mentions = a.mentions; stand = a.stand };
  others = record { groups = b.groups; bins = b.bins; counters = b.counters; tests = b.tests; flows = b.flows; sort_group = b.sort_group; main_flow = b.main_flow };
}

-- behind the clauses
abbrev item_closed : Spot → Draft → Runs → Draft → Tokens → Loaded Draft
item_closed n d runs e ts =
    refuse (not (run_listed e (length d.values) runs)) (ReturnNotListed n.1)
    (Ok (with_item (record { name = name_of n; runs = runs; clauses = span (length d.clauses) (length e.clauses) }) e, ts))

-- what an item needs to be accepted, in the flow whose items begin at the row `first`
pub record ItemFits (text : List ℕ) (bins : BinsTree) (s : Scope) (first : ℕ) (d : Draft) (it : ItemTree) : Type 0 where
  pub few : length d.items < 512
  pub new : is_some (found item_name text (drop first d.items) it.name) ≡ false
  pub known : declared it.runs (tests_in text d) ≡ false → declared it.runs (flows_in text d) ≡ true
  pub shallow : depth_of d.flows (runs_of (tests_in text d) (flows_in text d) it.runs) < 8
  pub keeps : Every (ClauseKeeps bins s) (each it.clauses)
  pub room : Room s d (each it.clauses)
  pub values_once : Once (flat_map codes_of (each it.clauses))
  pub counters_once : Every (λ c. Once (mentions_of s c)) (each it.clauses)
  pub listed : (e : Draft) → ClausesAdded (NextStands text) s d e (each it.clauses) → Beside d e → run_listed e (length d.values) (runs_of (tests_in text d) (flows_in text d) it.runs) ≡ true

module _ (text : List ℕ) (bins : BinsTree) (s : Scope) where
  pub record ItemRead (d : Draft) (ts : Tokens) (e : Draft) (us : Tokens) : Type 0 where
    pub tree : ItemTree
    pub starts : Starts us ts (item_rest tree)
    pub stands : ItemStands text s d e tree
    pub keeps : Every (ClauseKeeps bins s) (each tree.clauses)

  pub item_sound : (first place : ℕ) (d : Draft) (ts : Tokens) (e : Draft) (us : Tokens) → Declared text bins s d → Written text ts → item_in text first place d ts ≡ Ok (e, us) → ItemRead d ts e us
  item_sound first place d ts e us k w h =
      let room = refuse_passed (leb 512 (length d.items)) (TableFull place) _ h in
      let n = parse_passed (name_in ts) room.1 in
      let token = name_taken ts n.v n.us n.is in
      let at = subst (Written text) token w in
      let new = refuse_passed (is_some (found item_name text (drop first d.items) n.v.0)) (DeclaredBefore n.v.1) _ n.goes in
      let runs = then_passed (runs_in text d n.us) new.1 in
      let r = runs_sound text d n.us runs.v runs.us runs.is in
      let behind = written_on text (t.name r.n) r.p runs.us (subst (Written text) r.token (written_on text (t.name n.v.0) n.v.1 n.us at)) in
      let clauses = then_passed (clauses_in text d runs.us) runs.goes in
      let c = clauses_sound text bins s d runs.us clauses.v clauses.us k behind clauses.is in
      let listed = refuse_passed (not (run_listed clauses.v (length d.values) runs.v)) (ReturnNotListed n.v.1) _ clauses.goes in
      let made = accepted listed.1 in
      let tree : ItemTree = record { name = n.v.0; runs = r.n; clauses = c.trees } in
      let row : Item = record { name = name_of n.v; runs = runs.v; clauses = span (length d.clauses) (length clauses.v.clauses) } in
      let stands = with_item_lem text s d clauses.v tree row (written_name text n.v.0 n.v.1 n.us at) r.stands refl c.added c.others in
      record {
        tree = tree;
        starts = front token (front r.token (subst (λ x. Starts x runs.us (t.mark mk.OpenBrace ∷ (row_tokens clause_tokens c.trees ++ t.mark mk.CloseBrace ∷ []))) made.1 c.starts));
        stands = subst (λ x. ItemStands text s d x tree) made.0 stands;
        keeps = c.keeps;
      }

  pub item_complete : (first place : ℕ) (d : Draft) (ts us : Tokens) (it : ItemTree) → Declared text bins s d → Once (group_names bins) → Once (bin_names bins) → Written text ts → Starts us ts (item_rest it) → ItemFits text bins s first d it → (e : Draft) × (item_in text first place d ts ≡ Ok (e, us)) × ItemStands text s d e it
  item_complete first place d ts us it k groups names w (next {p = p} (next {p = q} {ts = ws} st)) f =
      let behind = written_on text (t.name it.runs) q ws (written_on text (t.name it.name) p (t.token (t.name it.runs) q ws) w) in
      let c = clauses_complete text bins s d ws us it.clauses k groups names behind st f.keeps f.room f.values_once f.counters_once in
      let runs = runs_of (tests_in text d) (flows_in text d) it.runs in
      let row : Item = record { name = name_of (it.name, p); runs = runs; clauses = span (length d.clauses) (length c.0.clauses) } in (
        with_item row c.0,
        cond-false (leb 512 (length d.items)) _ _ (lt-leb 512 _ f.few)
            ∙ (cond-false (is_some (found item_name text (drop first d.items) it.name)) _ _ f.new
            ∙ (ap (λ x. then {X = Runs} x λ r ts. then (clauses_in text d ts) λ e ts. item_closed (it.name, p) d r e ts) (runs_complete text d it.runs q ws f.known f.shallow)
            ∙ (ap (λ x. then {X = Draft} x λ e ts. item_closed (it.name, p) d runs e ts) c.1
            ∙ cond-false (not (run_listed c.0 (length d.values) runs)) _ _ (ap not (f.listed c.0 c.2 c.3))))),
        with_item_lem text s d c.0 it row (written_name text it.name p (t.token (t.name it.runs) q ws) w) (record { known = f.known; is = refl }) refl c.2 c.3,
      )

-- the items of a flow

abbrev pub item_clauses : List ItemTree → List ClauseTree
item_clauses its = flat_map (λ it. each it.clauses) its

-- the row of an item whose clauses begin at the row `from`
pub record ItemRow (text : List ℕ) (tests flows : List Word) (from : ℕ) (row : Item) (it : ItemTree) : Type 0 where
  pub name : spelt text row.name ≡ it.name
  pub runs : RunsStand tests flows row.runs it.runs
  pub clauses : row.clauses ≡ span from (from + length (each it.clauses))

-- the rows of items whose clauses follow one another from the row `from` on
abbrev pub ItemRows : List ℕ → List Word → List Word → ℕ → List Item → List ItemTree → Type 0
ItemRows text tests flows from [] [] = Unit {0}
ItemRows text tests flows from [] (it ∷ its) = ⊥
ItemRows text tests flows from (row ∷ rows) [] = ⊥
ItemRows text tests flows from (row ∷ rows) (it ∷ its) = ItemRow text tests flows from row it × ItemRows text tests flows (from + length (each it.clauses)) rows its

module _ (text : List ℕ) (tests flows : List Word) where
  item_rows_more : (from to : ℕ) (rows : List Item) (its : List ItemTree) (row : Item) (it : ItemTree) → from + length (item_clauses its) ≡ to → ItemRows text tests flows from rows its → ItemRow text tests flows to row it → ItemRows text tests flows from (rows ++ row ∷ []) (its ++ it ∷ [])
  item_rows_more from to [] [] row it e a b = let z : to ≡ from = omega (arith, e) in (subst (λ n. ItemRow text tests flows n row it) z b, tt)
  item_rows_more from to [] (x ∷ its) row it e a b = absurd a
  item_rows_more from to (r ∷ rows) [] row it e a b = absurd a
  item_rows_more from to (r ∷ rows) (x ∷ its) row it e a b = (a.0, item_rows_more (from + length (each x.clauses)) to rows its row it (omega (arith, e, length-append (each x.clauses) (item_clauses its))) a.1 b)

  pub item_rows_named : (from : ℕ) (rows : List Item) (its : List ItemTree) → ItemRows text tests flows from rows its → names_in text item_name rows ≡ map (λ it. it.name) its
  item_rows_named from [] [] a = refl
  item_rows_named from [] (x ∷ its) a = absurd a
  item_rows_named from (r ∷ rows) [] a = absurd a
  item_rows_named from (r ∷ rows) (x ∷ its) a = ap (λ n. n ∷ names_in text item_name rows) a.0.name ∙ ap (λ l. x.name ∷ l) (item_rows_named (from + length (each x.clauses)) rows its a.1)

-- the tables e are the tables d with these items added
pub record ItemsStand (text : List ℕ) (s : Scope) (d e : Draft) (its : List ItemTree) : Type 0 where
  pub more : List Item
  pub items : e.items ≡ d.items ++ more
  pub rows : ItemRows text (tests_in text d) (flows_in text d) (length d.clauses) more its
  pub added : ClausesAdded (NextStands text) s d e (item_clauses its)
  pub others : Same d e

module _ (text : List ℕ) (s : Scope) where
  pub none_stands : (d : Draft) → ItemsStand text s d d []
  none_stands d = record { more = []; items = sym (append-nil d.items); rows = tt; added = none_added text s d; others = beside_same (beside d) }

  pub clauses_counted : (d e : Draft) (cs : List ClauseTree) → ClausesAdded (NextStands text) s d e cs → length e.clauses ≡ length d.clauses + length cs
  clauses_counted d e cs a = rows_length d.clauses e.clauses a.rows a.clauses ∙ ap (λ n. length d.clauses + n) (along_length _ a.rows cs a.stand)

  pub one_stands : (d x y : Draft) (its : List ItemTree) (it : ItemTree) → ItemsStand text s d x its → ItemStands text s x y it → ItemsStand text s d y (its ++ it ∷ [])
  one_stands d x y its it a b =
      let to : length y.clauses ≡ length x.clauses + length (each it.clauses) = clauses_counted x y (each it.clauses) b.added in
      let runs : RunsStand (tests_in text d) (flows_in text d) b.row.runs it.runs =
      subst (λ l. RunsStand (names_in text (λ r. r.name) l) (flows_in text d) b.row.runs it.runs) a.others.tests
      (subst (λ l. RunsStand (tests_in text x) (names_in text (λ r. r.name) l) b.row.runs it.runs) a.others.flows b.runs) in
      record {
        more = a.more ++ b.row ∷ [];
        items = behind d.items x.items y.items a.more (b.row ∷ []) a.items b.items;
        rows = item_rows_more text (tests_in text d) (flows_in text d) (length d.clauses) (length x.clauses) a.more its b.row it (sym (clauses_counted d x (item_clauses its) a.added)) a.rows
            (record { name = b.name; runs = runs; clauses = b.clauses ∙ ap (span (length x.clauses)) to });
        added = subst (ClausesAdded (NextStands text) s d y) (ap (λ l. item_clauses its ++ l) (sym (append-nil (each it.clauses))) ∙ sym (joined_append (λ it. each it.clauses) its (it ∷ []))) (added_then text s d x y (item_clauses its) (each it.clauses) a.added b.added);
        others = same_then a.others b.others;
      }

module _ (text : List ℕ) (bins : BinsTree) (s : Scope) where
  -- { item+ } was accepted
  pub record ItemsRead (d : Draft) (ts : Tokens) (e : Draft) (us : Tokens) : Type 0 where
    pub trees : Several ItemTree
    pub starts : Starts us ts (t.mark mk.OpenBrace ∷ (row_tokens item_tokens trees ++ t.mark mk.CloseBrace ∷ []))
    pub stand : ItemsStand text s d e (each trees)
    pub keeps : Every (ClauseKeeps bins s) (item_clauses (each trees))

  pub items_sound : (d : Draft) (ts : Tokens) (e : Draft) (us : Tokens) → Declared text bins s d → Written text ts → items_in text d ts ≡ Ok (e, us) → ItemsRead d ts e us
  items_sound d ts e us k w h =
      let r = block_sound (is_keyword kw.FlowItem) (λ f. item_in text (length d.items) f.place) (λ _. kw.FlowItem) item_rest (Written text) (written_on text) P step d ts e us h (none_stands text s d, tt) w in
      record { trees = r.0; starts = r.1; stand = r.2.0; keeps = r.2.1 }
    where
      P : Draft → List ItemTree → Type 0
      P x done = ItemsStand text s d x done × Every (ClauseKeeps bins s) (item_clauses done)

      step : (f : Found) (x : Draft) (ts : Tokens) (y : Draft) (us : Tokens) (done : List ItemTree) → is_keyword kw.FlowItem f ≡ true → item_in text (length d.items) f.place x ts ≡ Ok (y, us) → P x done → Written text ts → (it : ItemTree) × (f.symbol ≡ sy.Keyword kw.FlowItem) × Starts us ts (item_rest it) × P y (done ++ it ∷ [])
      step f x ts y us done b h p w =
          let it = item_sound text bins s (length d.items) f.place x ts y us (declared_same text bins s d x p.0.others k) w h in
          let all : item_clauses done ++ each it.tree.clauses ≡ item_clauses (done ++ it.tree ∷ []) = ap (λ l. item_clauses done ++ l) (sym (append-nil (each it.tree.clauses))) ∙ sym (joined_append (λ it. each it.clauses) done (it.tree ∷ [])) in
          (it.tree, symbol_same f.symbol (sy.Keyword kw.FlowItem) b, it.starts, (one_stands text s d x y done it.tree p.0 it.stands, subst (Every (ClauseKeeps bins s)) all (every_then (ClauseKeeps bins s) (item_clauses done) (each it.tree.clauses) p.1 it.keeps)))

  -- { item+ } is accepted
  pub items_complete : (d : Draft) (ts us : Tokens) (trees : Several ItemTree) → Declared text bins s d → Once (group_names bins) → Once (bin_names bins) → Written text ts → Starts us ts (t.mark mk.OpenBrace ∷ (row_tokens item_tokens trees ++ t.mark mk.CloseBrace ∷ [])) → ((x : Draft) (done : List ItemTree) (it : ItemTree) (rest : List ItemTree) → done ++ it ∷ rest ≡ each trees → ItemsStand text s d x done → ItemFits text bins s (length d.items) x it) → (e : Draft) × (items_in text d ts ≡ Ok (e, us)) × ItemsStand text s d e (each trees)
  items_complete d ts us trees k groups names w st fits =
      let r = block_complete (is_keyword kw.FlowItem) (λ f. item_in text (length d.items) f.place) (λ _. kw.FlowItem) item_rest (Written text) (written_on text) P (λ _ _. refl) step (λ _. refl) trees d ts us ([], refl, none_stands text s d) w st in
      let all : r.2.0 ≡ each trees = sym (append-nil r.2.0) ∙ r.2.1 in
      (r.0, r.1, subst (ItemsStand text s d r.0) all r.2.2)
    where
      P : Draft → List ItemTree → Type 0
      P x rest = (done : List ItemTree) × (done ++ rest ≡ each trees) × ItemsStand text s d x done

      step : (x : Draft) (it : ItemTree) (rest : List ItemTree) (p : ℕ) (ts us : Tokens) → P x (it ∷ rest) → Written text ts → Starts us ts (item_rest it) → (y : Draft) × (item_in text (length d.items) p x ts ≡ Ok (y, us)) × P y rest
      step x it rest p ts us (done, e, a) w st =
          let r = item_complete text bins s (length d.items) p x ts us it (declared_same text bins s d x a.others k) groups names w st (fits x done it rest e a) in
          (r.0, r.1, (done ++ it ∷ [], append_assoc done (it ∷ []) rest ∙ e, one_stands text s d x r.0 done it a r.2))
