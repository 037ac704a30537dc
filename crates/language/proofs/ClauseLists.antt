-- The values and the counters of a clause, both ways.
use Rattle.std.proofs.Common.{◌≡◌, ℕ, suc, ◌+◌, ◌≤◌, Bool, true, false, ◌||◌, eqb, leb, List, [], ◌∷◌, ◌++◌, map, length, drop, Some, Ok, sym, refl, ap, ◌∙◌, subst, append_assoc, append-nil, arith, length-append}
use Rattle.std.proofs.lemmas.List.{map_push, map-append, map-id, drop-append-le, drop_at}
use Rattle.std.proofs.lemmas.Bool.{false≢true, eqb-true, lt-leb}
use Rattle.std.specs.List.{slice_get}
use Rattle.text_bytes.specs.declared.kinds.Mark.TheVariants as mk
use Rattle.tokens.specs.Terminals.{Tokens}
use Rattle.tokens.specs.Terminals as t
use Rattle.grammar.specs.declared.readers.ValueStart.{ValueStart}
use Rattle.grammar.specs.declared.readers.ValueStart.TheVariants.{Minus, Digits}
use Rattle.grammar.specs.Readers.{name_in, value_start_in}
use Rattle.plan.specs.declared.rows.Value.{Value}
use Rattle.plan.specs.Drafts.{Draft, with_value, with_mention}
use Rattle.plan.specs.Meaning.{code_of}
use Rattle.plan.specs.Rules.{Once}
use Rattle.plan.proofs.Added.{nth_below}
use Rattle.names.specs.Names.{found}
use Rattle.values.specs.declared.ReadValue.{ReadValue}
use Rattle.values.specs.Values.{value_from}
use Rattle.refusals.specs.declared.fault.RuleFault.TheVariants.{NotDeclared, Repeated, TableFull}
use Rattle.refusals.proofs.Passing.{accepted, parse_passed, then_passed, refuse_passed}
use Rattle.clauses.specs.Parts.{among}
use Rattle.clauses.specs.Clauses.{values_full, room_from, start_in, listed_in, values_in, mention_in, mentions_in}
use Rattle.clauses.proofs.Beside.{have_passed}
use Rattle.language.specs.Trees.{Word, Several, each, ValueTree}
use Rattle.language.specs.Grammar.{list_tokens, name_tokens, value_tokens}
use Rattle.language.specs.Standing.{position, declared, code, names_in}
use Rattle.language.specs.Obeying.{Starts, here, Every, ValueFits}
use Rattle.language.proofs.Taking.{front, name_taken, start_taken, start_token, start_place, found_position, declared_found, nth_front, nth_next}
use Rattle.language.proofs.Along.{every_then}
use Rattle.language.proofs.Onward.{parse_on, then_on, refuse_on, have_on}
use Rattle.language.proofs.Optional.{starts_none, starts_one}
use Rattle.language.proofs.Values.{ValueRead, value_from_sound, value_begins}
use Rattle.language.proofs.Lists.{listed_sound, listed_complete}

-- a test of membership passes where nothing is repeated

among_at : {R : Type 0} (code : R → ℕ) (n : ℕ) (rows : List R) → among code n rows ≡ true → (i : ℕ) × (slice_get (map code rows) i ≡ Some n)
among_at code n [] e = absurd (false≢true e)
among_at code n (x ∷ rows) e = by (eqb (code x) n) refl e (among_at code n rows)
  where
    by : (b : Bool) → eqb (code x) n ≡ b → (b || among code n rows) ≡ true → (among code n rows ≡ true → (i : ℕ) × (slice_get (map code rows) i ≡ Some n)) → (i : ℕ) × (slice_get (code x ∷ map code rows) i ≡ Some n)
    by true s e rec = (0, ap Some (eqb-true (code x) n s))
    by false s e rec = let r = rec e in (suc r.0, r.1)

pub among_none : {R : Type 0} (code : R → ℕ) (n : ℕ) (rows : List R) (more : List ℕ) → Once (map code rows ++ n ∷ more) → among code n rows ≡ false
among_none code n rows more once = by (among code n rows) refl
  where
    by : (b : Bool) → among code n rows ≡ b → b ≡ false
    by true e =
        let r = among_at code n rows e in
        let same = once r.0 (length (map code rows)) n (nth_front (map code rows) (n ∷ more) r.0 n r.1) (nth_next (map code rows) n more) in
        let less = nth_below (map code rows) r.0 n r.1 in
        absurd (omega arith)
    by false e = refl

-- one more in front, or one less behind
pub map_moved : {R X : Type 0} (f : R → X) (rows : List R) (row : R) (ys : List X) → map f (rows ++ row ∷ []) ++ ys ≡ map f rows ++ f row ∷ ys
map_moved f rows row ys = ap (λ l. l ++ ys) (map_push f rows row) ∙ append_assoc (map f rows) (f row ∷ []) ys

-- values

-- the values replaced
abbrev with_values : List Value → Draft → Draft
with_values vs d = record {
  groups = d.groups;
  bins = d.bins;
  counters = d.counters;
  tests = d.tests;
  flows = d.flows;
  items = d.items;
  clauses = d.clauses;
  values = vs;
  mentions = d.mentions;
  sort_group = d.sort_group;
  main_flow = d.main_flow;
}

-- values more, and the rest as it was
abbrev pub listing : List Value → Draft → Draft
listing vs d = with_values (d.values ++ vs) d

listing_push : (vs : List Value) (v : Value) (d e : Draft) → e ≡ listing vs d → with_value v e ≡ listing (vs ++ v ∷ []) d
listing_push vs v d e is = ap (with_value v) is ∙ ap (λ l. with_values l d) (append_assoc d.values vs (v ∷ []))

room_from_sound : (d : Draft) (start : ValueStart) (ts : Tokens) (v : ValueStart) (us : Tokens) → room_from d start ts ≡ Ok (v, us) → (start ≡ v) × (ts ≡ us)
room_from_sound d (Minus p) ts v us h = accepted (refuse_passed (values_full d) (TableFull p) _ h).1
room_from_sound d (Digits n) ts v us h = accepted h

-- a value was listed
listed_value : (first : ℕ) (d : Draft) (ts : Tokens) (e : Draft) (us : Tokens) → listed_in first d ts ≡ Ok (e, us) → (v : ReadValue) × ValueRead ts v us × (e ≡ with_value v.value d)
listed_value first d ts e us h =
    let start = then_passed (start_in d ts) h in
    let begun = parse_passed (value_start_in ts) start.is in
    let value = then_passed (value_from start.v start.us) start.goes in
    let v = value.v in
    let once = refuse_passed (among code_of v.value.code (drop first d.values)) (Repeated v.place) _ value.goes in
    let room = refuse_passed (values_full d) (TableFull v.place) _ once.1 in
    let made = accepted room.1 in
    let same = room_from_sound d begun.v begun.us start.v start.us begun.goes in
    let taken : ts ≡ t.token (start_token start.v) (start_place start.v) start.us =
    start_taken ts begun.v begun.us begun.is ∙ (ap (λ s. t.token (start_token s) (start_place s) begun.us) same.0 ∙ ap (t.token (start_token start.v) (start_place start.v)) same.1) in
    (v, subst (ValueRead ts v) made.1 (value_from_sound start.v ts start.us v value.us taken value.is), sym made.0)

module _ (first : ℕ) (d : Draft) where
  -- these values were listed
  pub record ValuesListed (e : Draft) (xs : List ValueTree) : Type 0 where
    pub more : List Value
    pub is : e ≡ listing more d
    pub codes : map code_of more ≡ map code xs
    pub fits : Every ValueFits xs

  value_step : (s : Draft) (ts : Tokens) (e : Draft) (us : Tokens) (done : List ValueTree) → listed_in first s ts ≡ Ok (e, us) → ValuesListed s done → (x : ValueTree) × Starts us ts (value_tokens x) × ValuesListed e (done ++ x ∷ [])
  value_step s ts e us done h l =
      let r = listed_value first s ts e us h in
      let v = r.0.value in
      let x = r.1.tree in
      let a = map_push code_of l.more v in
      let b = map_push code done x in
      let both = l.codes in
      let one = r.1.codes in
      let codes : map code_of (l.more ++ v ∷ []) ≡ map code (done ++ x ∷ []) = a ∙ (ap (λ ys. ys ++ v.code ∷ []) both ∙ (ap (λ y. map code done ++ y ∷ []) one ∙ sym b)) in
      (x, r.1.starts, record { more = l.more ++ v ∷ []; is = r.2 ∙ listing_push l.more v d s l.is; codes = codes; fits = every_then ValueFits done (x ∷ []) l.fits (r.1.fits, tt) })

  pub values_sound : (ts : Tokens) (e : Draft) (us : Tokens) → values_in first d ts ≡ Ok (e, us) → (xs : Several ValueTree) × Starts us ts (list_tokens value_tokens xs ++ t.mark mk.OpenBrace ∷ []) × ValuesListed e (each xs)
  values_sound ts e us h =
      let none : ValuesListed d [] = record { more = []; is = ap (λ l. with_values l d) (sym (append-nil d.values)); codes = refl; fits = tt } in
      let r = listed_sound (listed_in first) value_tokens mk.OpenBrace ValuesListed value_step d ts e us h none in
      (r.all, r.starts, r.kept)

  -- these values are to come, of the whole list
  pub record ValuesToCome (whole : List ValueTree) (e : Draft) (xs : List ValueTree) : Type 0 where
    pub more : List Value
    pub is : e ≡ listing more d
    pub codes : map code_of more ++ map code xs ≡ map code whole
    pub fits : Every ValueFits xs
    pub begun : first ≤ length e.values
    pub room : length e.values + length xs ≤ 2048
    pub once : Once (map code_of (drop first e.values) ++ map code xs)

  room_from_lem : (s : Draft) (start : ValueStart) (ts : Tokens) → values_full s ≡ false → room_from s start ts ≡ Ok (start, ts)
  room_from_lem s (Minus p) ts e = refuse_on (values_full s) (TableFull p) (Ok (Minus p, ts)) e refl
  room_from_lem s (Digits n) ts e = refl

  value_next : (whole : List ValueTree) (s : Draft) (ts us : Tokens) (x : ValueTree) (xs : List ValueTree) → Starts us ts (value_tokens x) → ValuesToCome whole s (x ∷ xs) → (e : Draft) × (listed_in first s ts ≡ Ok (e, us)) × ValuesToCome whole e xs
  value_next whole s ts us x xs st q =
      let v : Value = record { code = code x } in
      let b = value_begins x ts us q.fits.0 st in
      let fits = q.room in
      let full : values_full s ≡ false = lt-leb 2048 (length s.values) (omega arith) in
      let new = among_none code_of (code x) (drop first s.values) (map code xs) q.once in
      let start : start_in s ts ≡ Ok (b.start, b.behind) = parse_on (value_start_in ts) _ b.starts (room_from_lem s b.start b.behind full) in
      let goes : listed_in first s ts ≡ Ok (with_value v s, us) = then_on (start_in s ts) _ start (then_on (value_from b.start b.behind) _ b.goes (refuse_on (among code_of (code x) (drop first s.values)) _ _ new (refuse_on (values_full s) _ _ full refl))) in (
        with_value v s,
        goes,
        record {
          more = q.more ++ v ∷ [];
          is = listing_push q.more v d s q.is;
          codes = map_moved code_of q.more v (map code xs) ∙ q.codes;
          fits = q.fits.1;
          begun = omega (arith, q.begun, length-append s.values (v ∷ []));
          room = omega (arith, length-append s.values (v ∷ []));
          once = subst Once (sym (ap (λ l. map code_of l ++ map code xs) (drop-append-le first s.values (v ∷ []) q.begun) ∙ map_moved code_of (drop first s.values) v (map code xs))) q.once;
        },
      )

  pub values_complete : (ts us : Tokens) (xs : Several ValueTree) → Starts us ts (list_tokens value_tokens xs ++ t.mark mk.OpenBrace ∷ []) → Every ValueFits (each xs) → first ≤ length d.values → length d.values + length (each xs) ≤ 2048 → Once (map code_of (drop first d.values) ++ map code (each xs)) → (more : List Value) × (values_in first d ts ≡ Ok (listing more d, us)) × (map code_of more ≡ map code (each xs))
  values_complete ts us xs st fits begun room once =
      let none : ValuesToCome (each xs) d (each xs) = record { more = []; is = ap (λ l. with_values l d) (sym (append-nil d.values)); codes = refl; fits = fits; begun = begun; room = room; once = once } in
      let r = listed_complete (listed_in first) value_tokens mk.OpenBrace refl (ValuesToCome (each xs)) (value_next (each xs)) xs d ts us st none in
      let q = r.2 in
      (q.more, r.1 ∙ ap (λ e. Ok (e, us)) q.is, sym (append-nil (map code_of q.more)) ∙ q.codes)

-- counters

-- the mentions replaced
abbrev with_mentions : List ℕ → Draft → Draft
with_mentions ms d = record {
  groups = d.groups;
  bins = d.bins;
  counters = d.counters;
  tests = d.tests;
  flows = d.flows;
  items = d.items;
  clauses = d.clauses;
  values = d.values;
  mentions = ms;
  sort_group = d.sort_group;
  main_flow = d.main_flow;
}

-- mentions more, and the rest as it was
abbrev pub mentioning : List ℕ → Draft → Draft
mentioning ms d = with_mentions (d.mentions ++ ms) d

mentioning_push : (ms : List ℕ) (m : ℕ) (d e : Draft) → e ≡ mentioning ms d → with_mention m e ≡ mentioning (ms ++ m ∷ []) d
mentioning_push ms m d e is = ap (with_mention m) is ∙ ap (λ l. with_mentions l d) (append_assoc d.mentions ms (m ∷ []))

pub mentioning_none : (d : Draft) → d ≡ mentioning [] d
mentioning_none d = ap (λ l. with_mentions l d) (sym (append-nil d.mentions))

module _ (text : List ℕ) (counters : List Word) (d : Draft) (named : names_in text (λ k. k.name) d.counters ≡ counters) where
  abbrev from : ℕ
  from = length d.mentions

  abbrev numbers : List Word → List ℕ
  numbers ns = map (λ n. position n counters) ns

  -- these counters were named
  pub record CountersNamed (e : Draft) (ns : List Word) : Type 0 where
    pub is : e ≡ mentioning (numbers ns) d
    pub known : Every (λ n. declared n counters ≡ true) ns

  counters_same : (ms : List ℕ) (e : Draft) → e ≡ mentioning ms d → names_in text (λ k. k.name) e.counters ≡ counters
  counters_same ms e is = ap (λ x. names_in text (λ k. k.name) x.counters) is ∙ named

  mention_step : (s : Draft) (ts : Tokens) (e : Draft) (us : Tokens) (done : List Word) → mention_in text from s ts ≡ Ok (e, us) → CountersNamed s done → (n : Word) × Starts us ts (name_tokens n) × CountersNamed e (done ++ n ∷ [])
  mention_step s ts e us done h l =
      let n = parse_passed (name_in ts) h in
      let w = n.v.0 in
      let counter = have_passed (found (λ k. k.name) text s.counters w) (NotDeclared n.v.1) _ n.goes in
      let once = refuse_passed (among (λ k. k) counter.0 (drop from s.mentions)) (Repeated n.v.1) _ counter.2 in
      let room = refuse_passed (leb 2048 (length s.mentions)) (TableFull n.v.1) _ once.1 in
      let made = accepted room.1 in
      let same = counters_same (numbers done) s l.is in
      let at = found_position (λ k. k.name) text w s.counters counter.0 counter.1 in
      let number : counter.0 ≡ position w counters = sym at.1 ∙ ap (position w) same in
      let is : e ≡ mentioning (numbers (done ++ w ∷ [])) d = sym made.0 ∙ (ap (λ k. with_mention k s) number ∙ (mentioning_push (numbers done) (position w counters) d s l.is ∙ ap (λ l. mentioning l d) (sym (map_push (λ n. position n counters) done w)))) in
      (w, front (name_taken ts n.v n.us n.is) (subst (λ z. Starts us z []) (sym made.1) here), record { is = is; known = every_then (λ n. declared n counters ≡ true) done (w ∷ []) l.known (sym (ap (declared w) same) ∙ at.0, tt) })

  pub mentions_sound : (ts : Tokens) (e : Draft) (us : Tokens) → mentions_in text from d ts ≡ Ok (e, us) → (ns : Several Word) × Starts us ts (list_tokens name_tokens ns ++ t.mark mk.Semicolon ∷ []) × CountersNamed e (each ns)
  mentions_sound ts e us h =
      let r = listed_sound (mention_in text from) name_tokens mk.Semicolon CountersNamed mention_step d ts e us h (record { is = mentioning_none d; known = tt }) in
      (r.all, r.starts, r.kept)

  -- these counters are to come, of the whole list
  pub record CountersToCome (whole : List Word) (e : Draft) (ns : List Word) : Type 0 where
    pub done : List Word
    pub is : e ≡ mentioning (numbers done) d
    pub all : done ++ ns ≡ whole
    pub known : Every (λ n. declared n counters ≡ true) ns
    pub room : length e.mentions + length ns ≤ 2048

  mention_next : (whole : List Word) → Once (numbers whole) → (s : Draft) (ts us : Tokens) (n : Word) (ns : List Word) → Starts us ts (name_tokens n) → CountersToCome whole s (n ∷ ns) → (e : Draft) × (mention_in text from s ts ≡ Ok (e, us)) × CountersToCome whole e ns
  mention_next whole once s ts us n ns st q =
      let k = position n counters in
      let same = counters_same (numbers q.done) s q.is in
      let there : found (λ k. k.name) text s.counters n ≡ Some k = declared_found (λ k. k.name) text n s.counters (ap (declared n) same ∙ q.known.0) ∙ ap (λ l. Some (position n l)) same in
      let rows : drop from s.mentions ≡ numbers q.done = ap (λ x. drop from x.mentions) q.is ∙ drop_at d.mentions (numbers q.done) from refl in
      let parts : numbers whole ≡ map (λ k. k) (numbers q.done) ++ numbers (n ∷ ns) = sym (ap numbers q.all) ∙ (map-append (λ n. position n counters) q.done (n ∷ ns) ∙ ap (λ l. l ++ numbers (n ∷ ns)) (sym (map-id (numbers q.done)))) in
      let new : among (λ k. k) k (drop from s.mentions) ≡ false = ap (among (λ k. k) k) rows ∙ among_none (λ k. k) k (numbers q.done) (numbers ns) (subst Once parts once) in
      let room = q.room in
      let full : leb 2048 (length s.mentions) ≡ false = lt-leb 2048 (length s.mentions) (omega arith) in
      let r = starts_one st in
      let read : name_in ts ≡ Ok ((n, r.place), us) = ap name_in r.is ∙ ap (λ z. Ok ((n, r.place), z)) (starts_none r.starts) in
      let goes : mention_in text from s ts ≡ Ok (with_mention k s, us) = parse_on (name_in ts) _ read (have_on (found (λ k. k.name) text s.counters n) _ _ there (refuse_on (among (λ k. k) k (drop from s.mentions)) _ _ new (refuse_on (leb 2048 (length s.mentions)) _ _ full refl))) in (
        with_mention k s,
        goes,
        record {
          done = q.done ++ n ∷ [];
          is = mentioning_push (numbers q.done) k d s q.is ∙ ap (λ l. mentioning l d) (sym (map_push (λ n. position n counters) q.done n));
          all = append_assoc q.done (n ∷ []) ns ∙ q.all;
          known = q.known.1;
          room = omega (arith, length-append s.mentions (k ∷ []));
        },
      )

  pub mentions_complete : (ts us : Tokens) (ns : Several Word) → Starts us ts (list_tokens name_tokens ns ++ t.mark mk.Semicolon ∷ []) → Every (λ n. declared n counters ≡ true) (each ns) → length d.mentions + length (each ns) ≤ 2048 → Once (numbers (each ns)) → mentions_in text from d ts ≡ Ok (mentioning (numbers (each ns)) d, us)
  mentions_complete ts us ns st known room once =
      let r = listed_complete (mention_in text from) name_tokens mk.Semicolon refl (CountersToCome (each ns)) (mention_next (each ns) once) ns d ts us st (record { done = []; is = mentioning_none d; all = refl; known = known; room = room }) in
      let q = r.2 in
      r.1 ∙ ap (λ e. Ok (e, us)) (q.is ∙ ap (λ l. mentioning (numbers l) d) (sym (append-nil q.done) ∙ q.all))
