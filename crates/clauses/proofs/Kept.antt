-- What a clause adds to the tables, and the rules that the rows keep which it adds.
use Rattle.std.proofs.Common.{◌≡◌, ℕ, zero, suc, ◌+◌, ◌-◌, ◌<◌, ◌≤◌, Bool, true, false, cond, not, ◌||◌, eqb, leb, List, [], ◌∷◌, ◌++◌, map, length, drop, Some, None, Ok, Option, sym, refl, ap, ◌∙◌, subst, inl, inr, append_assoc, append-nil, arith, length-append}
use Rattle.std.proofs.lemmas.List.{drop_at, drop_all, drop-append-le, map-id}
use Rattle.std.proofs.lemmas.Bool.{true≢false, both_ways, not-false, and_parts, eq-eqb, leb-true, leb-false}
use Rattle.std.specs.List.{slice_get}
use Rattle.keywords.specs.declared.Keyword.{Keyword}
use Rattle.keywords.specs.declared.Keyword.TheVariants as kw
use Rattle.text_bytes.specs.declared.kinds.Mark.TheVariants as mk
use Rattle.tokens.specs.Terminals.{Tokens, count}
use Rattle.grammar.specs.declared.readers.ValueStart.{ValueStart}
use Rattle.grammar.specs.declared.readers.ValueStart.TheVariants.{Minus, Digits}
use Rattle.grammar.specs.declared.symbols.Found.{Found}
use Rattle.grammar.specs.declared.symbols.Symbol.TheVariants as sy
use Rattle.grammar.specs.Readers.{name_in, number_in, symbol_in, expect_in, value_start_in}
use Rattle.plan.specs.declared.rows.Bin.{Bin}
use Rattle.plan.specs.declared.rows.Clause.{Clause}
use Rattle.plan.specs.declared.rows.Next.{Next}
use Rattle.plan.specs.declared.rows.Next.TheVariants.{GoTo, Return}
use Rattle.plan.specs.declared.rows.Value.{Value}
use Rattle.plan.specs.Drafts.{Draft, with_clause}
use Rattle.plan.specs.Meaning.{code_of}
use Rattle.plan.specs.Rules.{Once}
use Rattle.plan.proofs.Added.{Earlier, the_same, nth_added, once_row}
use Rattle.plan.proofs.Spans.{never_some}
use Rattle.names.specs.Names.{found}
use Rattle.names.proofs.Found.{found_below}
use Rattle.values.specs.declared.ReadValue.{ReadValue}
use Rattle.values.specs.Values.{coded, placed_value, leaving, value_from, value_in}
use Rattle.refusals.specs.declared.fault.RuleFault.TheVariants.{NotDeclared, WrongKind, Repeated, TableFull}
use Rattle.refusals.specs.Steps.{Loaded, parse, then, allow, turns, many}
use Rattle.refusals.specs.Shapes.{is_keyword, optional}
use Rattle.productions.proofs.Leaving.{entered}
use Rattle.refusals.proofs.Passing.{no_fault, accepted, parse_passed, then_passed, refuse_passed, allow_passed, turns_keep, many_keeps}
use Rattle.clauses.specs.Parts.{among}
use Rattle.clauses.specs.Clauses.{start_in, listed_in, values_full, value_turn, values_in, verdict_in, mention_in, mention_turn, mentions_in, counters_in, leaf_of, leaf_in, set_bin_in, go_to_in, return_in, next_in, end_in, body_in, clause_in, span}
use Rattle.clauses.proofs.Beside.{Beside, beside, beside_value, beside_mention, beside_clause, beside_then, have_passed}

-- rows that were added at the end of a table: from the row `first` on no code stands twice, if none did; the codes of the new
-- rows are below a bound, and the rows are not too many, if they were not
pub record Grown {R : Type 0} (code : R → ℕ) (first bound : ℕ) (xs ys : List R) : Type 0 where
  pub more : List R
  pub is : ys ≡ xs ++ more
  pub once : first ≤ length xs → Once (map code (drop first xs)) → Once (map code (drop first ys))
  pub fit : (i : ℕ) (r : R) → slice_get more i ≡ Some r → code r < bound
  pub few : length xs ≤ 2048 → length ys ≤ 2048

module _ {R : Type 0} (code : R → ℕ) where
  among_free : (n : ℕ) (rows : List R) → among code n rows ≡ false → (i : ℕ) → slice_get (map code rows) i ≡ Some n → ⊥
  among_free n [] e i at = never_some n at
  among_free n (x ∷ rows) e i at = by (eqb (code x) n) refl e i at (among_free n rows)
    where
      by : (t : Bool) → eqb (code x) n ≡ t → (t || among code n rows) ≡ false → (i : ℕ) → slice_get (code x ∷ map code rows) i ≡ Some n → (among code n rows ≡ false → (i : ℕ) → slice_get (map code rows) i ≡ Some n → ⊥) → ⊥
      by true same e i at later = true≢false e
      by false same e zero at later = both_ways (eqb (code x) n) same (eq-eqb _ _ (the_same at))
      by false same e (suc i) at later = later e i at

  module _ (first bound : ℕ) where
    pub grown_none : (xs : List R) → Grown code first bound xs xs
    grown_none xs = record { more = []; is = sym (append-nil xs); once = λ l o. o; fit = λ i r e. never_some r e; few = λ l. l }

    pub grown_length : (xs ys : List R) (g : Grown code first bound xs ys) → length ys ≡ length xs + length g.more
    grown_length xs ys g = ap length g.is ∙ length-append xs g.more

    -- a row more
    pub grown_more : (xs ys : List R) (row : R) → Grown code first bound xs ys → among code (code row) (drop first ys) ≡ false → code row < bound → length ys < 2048 → Grown code first bound xs (ys ++ row ∷ [])
    grown_more xs ys row g free low room = record {
      more = g.more ++ row ∷ [];
      is = ap (λ l. l ++ row ∷ []) g.is ∙ append_assoc xs g.more (row ∷ []);
      once = λ l o. subst (λ z. Once (map code z)) (sym (drop-append-le first ys (row ∷ []) (omega (arith, l, grown_length xs ys g)))) (once_row code (drop first ys) row (g.once l o) (among_free (code row) (drop first ys) free));
      fit = λ i r e. by i r (nth_added g.more row i r e);
      few = λ l. omega (arith, length-append ys (row ∷ []), room);
    }
      where
        by : (i : ℕ) (r : R) → Earlier g.more row i r → code r < bound
        by i r (inl e) = g.fit i r e
        by i r (inr e) = subst (λ x. code x < bound) (sym e.1) low

-- a repetition: what the first turn makes so, the others keep
pub many_makes : {S : Type 0} (turn : S → Tokens → Loaded (Bool × S)) (P : S → Type 0) → ((s : S) (ts : Tokens) (b : Bool) (t : S) (us : Tokens) → turn s ts ≡ Ok ((b, t), us) → P s → P t) → (s : S) (ts : Tokens) → ((b : Bool) (t : S) (us : Tokens) → turn s ts ≡ Ok ((b, t), us) → P t) → (t : S) (us : Tokens) → many turn s ts ≡ Ok (t, us) → P t
unfolding turns
many_makes {S} turn P keeps s ts made t us h =
    let a = then_passed (turn s ts) h in
    on a.v.0 a.v.1 a.us (made a.v.0 a.v.1 a.us a.is) a.goes
  where
    on : (b : Bool) (x : S) (vs : Tokens) → P x → cond b (turns turn (count ts) x vs) (Ok (x, vs)) ≡ Ok (t, us) → P t
    on true x vs p g = turns_keep turn (λ s _. P s) keeps (count ts) x vs t us g p
    on false x vs p g = subst P (accepted g).0 p

-- an optional part: what holds where it is left out, or the part makes so, if the symbol behind it keeps it
pub optional_makes : {X : Type 0} (k : Keyword) (none : X) (part : Tokens → Loaded X) (P : X → Tokens → Type 0) → ((x : X) (ts : Tokens) (f : Found) (us : Tokens) → symbol_in ts ≡ Ok (f, us) → P x ts → P x us) → (f : Found) (ts : Tokens) → P none ts → ((x : X) (us : Tokens) → part ts ≡ Ok (x, us) → P x us) → (v : X × Found) (us : Tokens) → optional k none part f ts ≡ Ok (v, us) → P v.0 us
optional_makes {X} k none part P on f ts left made v us h = by (is_keyword k f) h
  where
    by : (t : Bool) → cond t (then {Y = X × Found} (part ts) λ x ts. parse (symbol_in ts) λ g ts. Ok ((x, g), ts)) (Ok ((none, f), ts)) ≡ Ok (v, us) → P v.0 us
    by true h =
        let one = then_passed (part ts) h in
        let next = parse_passed (symbol_in one.us) one.goes in
        let e = accepted next.goes in
        subst (λ x. P x.0 us) e.0 (subst (P one.v) e.1 (on one.v one.us next.v next.us next.is (made one.v one.us one.is)))
    by false h = let e = accepted h in subst (λ x. P x.0 us) e.0 (subst (P none) e.1 left)

-- values

coded_fits : (negative : Bool) (n : ℕ) (v : Value) → coded negative n ≡ Some v → v.code < 65536
coded_fits true n v e = by (leb n 32768) e
  where
    by : (t : Bool) → cond t (Some (record { code = 32768 - n })) None ≡ Some v → v.code < 65536
    by true e = subst (λ x. x.code < 65536) (the_same e) (omega arith)
    by false e = never_some v e
coded_fits false n v e = by (leb n 32767) refl e
  where
    by : (t : Bool) → leb n 32767 ≡ t → cond t (Some (record { code = 32768 + n })) None ≡ Some v → v.code < 65536
    by true l e = subst (λ x. x.code < 65536) (the_same e) (omega (arith, leb-true n 32767 l))
    by false l e = never_some v e

placed_fits : (negative : Bool) (n p : ℕ) (ts : Tokens) (v : ReadValue) (us : Tokens) → leaving (placed_value p (coded negative n)) ts ≡ Ok (v, us) → v.value.code < 65536
placed_fits negative n p ts v us h = by (coded negative n) refl h
  where
    by : (o : Option Value) → coded negative n ≡ o → leaving (placed_value p o) ts ≡ Ok (v, us) → v.value.code < 65536
    by (Some x) e h = subst (λ y. y.value.code < 65536) (accepted h).0 (coded_fits negative n x e)
    by None e h = no_fault h

from_fits : (start : ValueStart) (ts : Tokens) (v : ReadValue) (us : Tokens) → value_from start ts ≡ Ok (v, us) → v.value.code < 65536
from_fits (Minus p) ts v us h = let n = parse_passed (number_in ts) h in placed_fits true n.v.value n.v.place n.us v us n.goes
from_fits (Digits n) ts v us h = placed_fits false n.value n.place ts v us h

-- a value that was read is a code below 65536
pub value_fits_lem : (ts : Tokens) (v : ReadValue) (us : Tokens) → value_in ts ≡ Ok (v, us) → v.value.code < 65536
value_fits_lem ts v us h = let start = parse_passed (value_start_in ts) h in from_fits start.v start.us v us start.goes

-- values were listed, and nothing else was added
pub record Listed (first : ℕ) (d e : Draft) : Type 0 where
  pub values : Grown code_of first 65536 d.values e.values
  pub mentions : e.mentions ≡ d.mentions
  pub clauses : e.clauses ≡ d.clauses
  pub others : Beside d e

module _ (first : ℕ) (d : Draft) where
  abbrev Longer : Draft → Type 0
  Longer e = Listed first d e × (length d.values < length e.values)

  listed_one : (s : Draft) (ts : Tokens) (e : Draft) (us : Tokens) → listed_in first s ts ≡ Ok (e, us) → Listed first d s → Longer e
  listed_one s ts e us h l =
      let start = then_passed (start_in s ts) h in
      let value = then_passed (value_from start.v start.us) start.goes in
      let v = value.v in
      let once = refuse_passed (among code_of v.value.code (drop first s.values)) (Repeated v.place) _ value.goes in
      let room = refuse_passed (values_full s) (TableFull v.place) _ once.1 in
      let fits = from_fits start.v start.us v value.us value.is in
      let grown = grown_more code_of first 65536 d.values s.values v.value l.values once.0 fits (leb-false 2048 (length s.values) room.0) in
      let was = grown_length code_of first 65536 d.values s.values l.values in
      subst Longer (accepted room.1).0 (record { values = grown; mentions = l.mentions; clauses = l.clauses; others = beside_then l.others (beside_value v.value s) }, omega (arith, was, length-append s.values (v.value ∷ [])))

  value_turn_listed : (s : Draft) (ts : Tokens) (more : Bool) (e : Draft) (us : Tokens) → value_turn first s ts ≡ Ok ((more, e), us) → Listed first d s → Longer e
  value_turn_listed s ts more e us h l =
      let one = entered mk.OpenBrace (listed_in first) s ts more e us h in
      listed_one s ts e one.behind one.read l

  -- one value at least was listed
  pub values_listed : (ts : Tokens) (e : Draft) (us : Tokens) → values_in first d ts ≡ Ok (e, us) → Listed first d e × (length d.values < length e.values)
  values_listed ts e us h =
      many_makes (value_turn first) Longer
      (λ s ts more t us k p. value_turn_listed s ts more t us k p.0)
      d ts
      (λ more t us k. value_turn_listed d ts more t us k (record { values = grown_none code_of first 65536 d.values; mentions = refl; clauses = refl; others = beside d }))
      e us h

-- counters

-- counters were named, and nothing else was added
pub record Mentioned (d e : Draft) : Type 0 where
  pub mentions : Grown (λ (k : ℕ). k) (length d.mentions) (length d.counters) d.mentions e.mentions
  pub values : e.values ≡ d.values
  pub clauses : e.clauses ≡ d.clauses
  pub others : Beside d e

mentioned_none : (d : Draft) → Mentioned d d
mentioned_none d = record { mentions = grown_none (λ (k : ℕ). k) (length d.mentions) (length d.counters) d.mentions; values = refl; clauses = refl; others = beside d }

module _ (text : List ℕ) (d : Draft) where
  abbrev from : ℕ
  from = length d.mentions

  mentioned_one : (s : Draft) (ts : Tokens) (e : Draft) (us : Tokens) → mention_in text from s ts ≡ Ok (e, us) → Mentioned d s → Mentioned d e
  mentioned_one s ts e us h m =
      let n = parse_passed (name_in ts) h in
      let counter = have_passed (found (λ k. k.name) text s.counters n.v.0) (NotDeclared n.v.1) _ n.goes in
      let once = refuse_passed (among (λ k. k) counter.0 (drop from s.mentions)) (Repeated n.v.1) _ counter.2 in
      let room = refuse_passed (leb 2048 (length s.mentions)) (TableFull n.v.1) _ once.1 in
      let low = found_below (λ k. k.name) text n.v.0 s.counters counter.0 counter.1 in
      let declared : counter.0 < length d.counters = subst (λ l. counter.0 < length l) m.others.counters low in
      let grown = grown_more (λ (k : ℕ). k) from (length d.counters) d.mentions s.mentions counter.0 m.mentions once.0 declared (leb-false 2048 (length s.mentions) room.0) in
      subst (Mentioned d) (accepted room.1).0 (record { mentions = grown; values = m.values; clauses = m.clauses; others = beside_then m.others (beside_mention counter.0 s) })

  mention_turn_mentioned : (s : Draft) (ts : Tokens) (more : Bool) (e : Draft) (us : Tokens) → mention_turn text from s ts ≡ Ok ((more, e), us) → Mentioned d s → Mentioned d e
  mention_turn_mentioned s ts more e us h m =
      let one = entered mk.Semicolon (mention_in text from) s ts more e us h in
      mentioned_one s ts e one.behind one.read m

  pub counters_mentioned : (f : Found) (ts : Tokens) (k : Draft × Found) (us : Tokens) → counters_in text d f ts ≡ Ok (k, us) → Mentioned d k.0
  counters_mentioned f ts k us h =
      optional_makes kw.IncrementCounters d (mentions_in text from d) (λ e _. Mentioned d e) (λ e ts g us s m. m) f ts (mentioned_none d)
      (λ x us e. many_keeps (mention_turn text from) (Mentioned d) mention_turn_mentioned d ts x us e (mentioned_none d))
      k us h

-- the leaf bin

-- a leaf that is set is a leaf bin
abbrev pub LeafSet : List Bin → Option ℕ → Type 0
LeafSet bins leaf = (l : ℕ) → leaf ≡ Some l → (b : Bin) × (slice_get bins l ≡ Some b) × (b.leaf ≡ true)

leaf_bin : (bins : List Bin) (group l : ℕ) → leaf_of group (slice_get bins l) ≡ true → (b : Bin) × (slice_get bins l ≡ Some b) × (b.leaf ≡ true)
leaf_bin bins group l h = by (slice_get bins l) refl h
  where
    by : (o : Option Bin) → slice_get bins l ≡ o → leaf_of group o ≡ true → (b : Bin) × (slice_get bins l ≡ Some b) × (b.leaf ≡ true)
    by (Some b) e h = (b, e, (and_parts b.leaf (eqb b.group group) h).0)
    by None e h = absurd (true≢false (sym h))

module _ (text : List ℕ) (d : Draft) where
  leaf_set : (ts : Tokens) (leaf : Option ℕ) (us : Tokens) → leaf_in text d ts ≡ Ok (leaf, us) → LeafSet d.bins leaf
  leaf_set ts leaf us h =
      let g = parse_passed (name_in ts) h in
      let group = have_passed (found (λ r. r.name) text d.groups g.v.0) (NotDeclared g.v.1) _ g.goes in
      let stop = parse_passed (expect_in (sy.Mark mk.FullStop) g.us) group.2 in
      let b = parse_passed (name_in stop.us) stop.goes in
      let bin = have_passed (found (λ r. r.name) text d.bins b.v.0) (NotDeclared b.v.1) _ b.goes in
      let kind = refuse_passed (not (leaf_of group.0 (slice_get d.bins bin.0))) (WrongKind b.v.1) _ bin.2 in
      let end = parse_passed (expect_in (sy.Mark mk.Semicolon) b.us) kind.1 in
      let is = leaf_bin d.bins group.0 bin.0 (not-false _ kind.0) in
      subst (LeafSet d.bins) (accepted end.goes).0 (λ l e. subst (λ x. (b : Bin) × (slice_get d.bins x ≡ Some b) × (b.leaf ≡ true)) (the_same e) is)

  pub set_bin_leaf : (f : Found) (ts : Tokens) (v : Option ℕ × Found) (us : Tokens) → set_bin_in text d f ts ≡ Ok (v, us) → LeafSet d.bins v.0
  set_bin_leaf f ts v us h = optional_makes kw.SetBin None (leaf_in text d) (λ leaf _. LeafSet d.bins leaf) (λ leaf ts g us s l. l) f ts (λ l e. never_some l e) (leaf_set ts) v us h

-- where it leads

-- a value that is returned is a code below 65536
abbrev pub ReturnsFit : Next → Type 0
ReturnsFit next = (v : Value) → next ≡ Return v → v.code < 65536

abbrev pub leads : Next → ℕ
leads (GoTo i) = 0
leads (Return v) = 1

abbrev carried : Next → ℕ
carried (GoTo i) = 0
carried (Return v) = v.code

next_fits : (f : Found) (ts : Tokens) (next : Next) (us : Tokens) → next_in f ts ≡ Ok (next, us) → ReturnsFit next
next_fits f ts next us h = by (is_keyword kw.GoTo f) h
  where
    by : (t : Bool) → cond t (go_to_in ts) (allow (is_keyword kw.Return f) f.place (return_in ts)) ≡ Ok (next, us) → ReturnsFit next
    by true h =
        let n = parse_passed (name_in ts) h in
        let end = parse_passed (expect_in (sy.Mark mk.Semicolon) n.us) n.goes in
        λ v e. let z : ◌≡◌ {A = ℕ} 0 1 = ap leads ((accepted end.goes).0 ∙ e) in absurd (omega arith)
    by false h =
        let ok = allow_passed (is_keyword kw.Return f) f.place _ h in
        let value = then_passed (value_in ts) ok.1 in
        let end = parse_passed (expect_in (sy.Mark mk.Semicolon) value.us) value.goes in
        λ v e. subst (λ n. n < 65536) (ap carried ((accepted end.goes).0 ∙ e)) (value_fits_lem ts value.v value.us value.is)

pub end_fits : (text : List ℕ) (d : Draft) (f : Found) (ts : Tokens) (e : Option ℕ × Next) (us : Tokens) → end_in text d f ts ≡ Ok (e, us) → LeafSet d.bins e.0 × ReturnsFit e.1
end_fits text d f ts e us h =
    let leaf = then_passed (set_bin_in text d f ts) h in
    let next = then_passed (next_in leaf.v.1 leaf.us) leaf.goes in
    let end = parse_passed (expect_in (sy.Mark mk.CloseBrace) next.us) next.goes in
    subst (λ (x : Option ℕ × Next). LeafSet d.bins x.0 × ReturnsFit x.1) (accepted end.goes).0
    (set_bin_leaf text d f ts leaf.v leaf.us leaf.is, next_fits leaf.v.1 leaf.us next.v next.us next.is)

-- the clause

-- what a clause has added for the item whose values begin at the row `first`
pub record ClauseAdded (first : ℕ) (d e : Draft) : Type 0 where
  pub clause : Clause
  pub clauses : e.clauses ≡ d.clauses ++ clause ∷ []
  pub few : length e.clauses ≤ 1024
  pub listed : Grown code_of first 65536 d.values e.values
  pub has_value : 0 < length listed.more
  pub values : clause.values ≡ span (length d.values) (length e.values)
  pub named : Grown (λ (k : ℕ). k) (length d.mentions) (length d.counters) d.mentions e.mentions
  pub named_once : Once named.more
  pub counters : clause.counters ≡ span (length d.mentions) (length e.mentions)
  pub leaf : LeafSet d.bins clause.leaf
  pub returns : ReturnsFit clause.next
  pub others : Beside d e

-- what was named from the end of the table on was named once
named_once_lem : (bound : ℕ) (xs ys : List ℕ) (g : Grown (λ (k : ℕ). k) (length xs) bound xs ys) → Once g.more
named_once_lem bound xs ys g =
    let none : drop (length xs) xs ≡ [] = drop_all (length xs) xs (omega arith) in
    let before : Once (map (λ (k : ℕ). k) (drop (length xs) xs)) = subst (λ l. Once (map (λ (k : ℕ). k) l)) (sym none) (λ i j x e. never_some x e) in
    subst Once (map-id (drop (length xs) ys) ∙ (ap (drop (length xs)) g.is ∙ drop_at xs g.more (length xs) refl)) (g.once (omega arith) before)

-- the row of a clause behind its values and its counters
row_added : (first : ℕ) (d s e : Draft) (row : Clause) → length d.clauses < 1024 → Listed first d s → length d.values < length s.values → Mentioned s e → row.values ≡ span (length d.values) (length s.values) → row.counters ≡ span (length s.mentions) (length e.mentions) → LeafSet e.bins row.leaf → ReturnsFit row.next → ClauseAdded first d (with_clause row e)
row_added first d s e row room l some m values counters leaf returns =
    let clauses = m.clauses ∙ l.clauses in
    let all = beside_then l.others m.others in
    let listed = subst (Grown code_of first 65536 d.values) (sym m.values) l.values in
    let named : Grown (λ (k : ℕ). k) (length d.mentions) (length d.counters) d.mentions e.mentions =
    subst (λ (n : List ℕ). Grown (λ (k : ℕ). k) (length n) (length d.counters) n e.mentions) l.mentions (subst (λ n. Grown (λ (k : ℕ). k) (length s.mentions) n s.mentions e.mentions) (ap length l.others.counters) m.mentions) in
    record {
      clause = row;
      clauses = ap (λ x. x ++ row ∷ []) clauses;
      few = omega (arith, length-append e.clauses (row ∷ []), ap length clauses, room);
      listed = listed;
      has_value = omega (arith, grown_length code_of first 65536 d.values e.values listed, ap length m.values, some);
      values = values ∙ ap (λ (x : List Value). span (length d.values) (length x)) (sym m.values);
      named = named;
      named_once = named_once_lem (length d.counters) d.mentions e.mentions named;
      counters = counters ∙ ap (λ (x : List ℕ). span (length x) (length e.mentions)) l.mentions;
      leaf = subst (λ x. LeafSet x row.leaf) all.bins leaf;
      returns = returns;
      others = beside_then all (beside_clause row e);
    }

pub clause_added : (text : List ℕ) (p first : ℕ) (d : Draft) (ts : Tokens) (e : Draft) (us : Tokens) → clause_in text p first d ts ≡ Ok (e, us) → ClauseAdded first d e
unfolding clause_in
clause_added text p first d ts e us h =
    let room = refuse_passed (leb 1024 (length d.clauses)) (TableFull p) _ h in
    let values = then_passed (values_in first d ts) room.1 in
    let s = values.v in
    let body = then_passed (body_in text (span (length d.values) (length s.values)) s values.us) values.goes in
    let f = parse_passed (symbol_in values.us) body.is in
    let verdict = then_passed (verdict_in f.v f.us) f.goes in
    let counters = then_passed (counters_in text s verdict.v.1 verdict.us) verdict.goes in
    let end = then_passed (end_in text counters.v.0 counters.v.1 counters.us) counters.goes in
    let listed = values_listed first d ts s values.us values.is in
    let mentioned = counters_mentioned text s verdict.v.1 verdict.us counters.v counters.us counters.is in
    let ends = end_fits text counters.v.0 counters.v.1 counters.us end.v end.us end.is in
    subst (ClauseAdded first d) (ap (λ (x : Draft × Clause). with_clause x.1 x.0) (accepted end.goes).0 ∙ (accepted body.goes).0)
    (row_added first d s counters.v.0 _ (leb-false 1024 (length d.clauses) room.0) listed.0 listed.1 mentioned refl refl ends.0 ends.1)

pub clause_beside : (text : List ℕ) (p first : ℕ) (d : Draft) (ts : Tokens) (e : Draft) (us : Tokens) → clause_in text p first d ts ≡ Ok (e, us) → Beside d e
clause_beside text p first d ts e us h = (clause_added text p first d ts e us h).others
