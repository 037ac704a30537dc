-- A clause, both ways: what is accepted is the tokens of a tree that keeps the rules of a clause, and the other way round.
use Rattle.std.proofs.Common.{◌≡◌, ℕ, ◌+◌, ◌<◌, ◌≤◌, Bool, true, false, cond, not, ◌||◌, eqb, leb, List, [], ◌∷◌, ◌++◌, map, length, drop, Some, None, Ok, codes, Option, sym, refl, ap, ◌∙◌, subst, append_assoc}
use Rattle.std.proofs.lemmas.Bool.{false≢true, not-false, not_from_true, and_parts, and_from, eqb-true, eq-eqb, lt-leb}
use Rattle.std.specs.Option.{option_map}
use Rattle.std.specs.List.{slice_get}
use Rattle.std.specs.Str.{bytes_eq}
use Rattle.text_bytes.specs.declared.kinds.Mark.TheVariants as mk
use Rattle.keywords.specs.declared.Keyword.{Keyword}
use Rattle.keywords.specs.declared.Keyword.TheVariants as kw
use Rattle.tokens.specs.Terminals.{Terminal, Tokens}
use Rattle.tokens.specs.Terminals as t
use Rattle.grammar.specs.declared.symbols.Found.{Found}
use Rattle.grammar.specs.declared.symbols.Symbol.TheVariants as sy
use Rattle.grammar.specs.Readers.{name_in, string_in, symbol_in, expect_in}
use Rattle.plan.specs.declared.rows.Bin.{Bin}
use Rattle.plan.specs.declared.rows.Clause.{Clause}
use Rattle.plan.specs.declared.rows.Name.{Name}
use Rattle.plan.specs.declared.rows.Next.{Next}
use Rattle.plan.specs.declared.rows.Next.TheVariants.{GoTo, Return}
use Rattle.plan.specs.declared.rows.Span.{Span}
use Rattle.plan.specs.declared.rows.Value.{Value}
use Rattle.plan.specs.declared.rows.Verdict.{Verdict}
use Rattle.plan.specs.declared.rows.Verdict.TheVariants.{Unmarked, Pass, Fail}
use Rattle.plan.specs.Drafts.{Draft, with_clause}
use Rattle.plan.specs.Meaning.{code_of, bin_of, PlanBin}
use Rattle.plan.specs.Rules.{Once}
use Rattle.plan.proofs.Added.{the_same}
use Rattle.plan.proofs.Readings.{nth_map, MadeOf, made_of}
use Rattle.plan.proofs.Spans.{never_some}
use Rattle.names.specs.Names.{found}
use Rattle.values.specs.Values.{value_in}
use Rattle.refusals.specs.declared.fault.RuleFault.TheVariants.{NotDeclared, WrongKind, OutOfRange, TableFull}
use Rattle.refusals.specs.Shapes.{is_keyword}
use Rattle.refusals.specs.Steps.{allow}
use Rattle.refusals.proofs.Passing.{accepted, parse_passed, then_passed, refuse_passed, allow_passed}
use Rattle.clauses.specs.Clauses.{values_in, verdict_of, property_in, verdict_in, mentions_in, counters_in, leaf_of, leaf_in, set_bin_in, go_to_in, return_in, next_in, end_in, body_in, clause_in, span}
use Rattle.clauses.proofs.Beside.{Beside, have_passed}
use Rattle.flows.specs.Checks.{word_at}
use Rattle.language.specs.Trees.{Word, Several, each, ValueTree, BinTree, BinsTree, LeafTree, NextTree, go_to, return, ClauseTree}
use Rattle.language.specs.Grammar.{option_tokens, list_tokens, name_tokens, value_tokens, pass_fail_tokens, increment_tokens, set_bin_tokens, next_tokens}
use Rattle.language.specs.Standing.{position, declared, listed, group_names, bins_of, bin_names, bin_meant, code, verdict_meant, Scope, names_in}
use Rattle.language.specs.Obeying.{Starts, here, next, Every, ValueFits, ReturnFits, PassFailKnown, LeafOfGroup, LeafRight}
use Rattle.language.proofs.Taking.{terminal, name_taken, string_taken, symbol_same, symbol_taken, expect_taken, front, join, split, name_same, same_name_lem, found_position, declared_found, declared_at, at_declared, position_once}
use Rattle.language.proofs.Rows.{carried}
use Rattle.language.proofs.Words.{WordsAt}
use Rattle.language.proofs.Onward.{expect_one, parse_on, then_on, refuse_on, have_on}
use Rattle.language.proofs.Values.{value_sound, value_complete}
use Rattle.language.proofs.Optional.{back, PartRead, optional_sound, Makes, optional_goes, Ahead, ahead_option, ahead_fewer, ahead_read}
use Rattle.language.proofs.ClauseLists.{listing, mentioning, mentioning_none, ValuesListed, values_sound, values_complete, CountersNamed, mentions_sound, mentions_complete}

-- the tokens of a clause behind the keyword Result
abbrev pub clause_rest : ClauseTree → List Terminal
clause_rest c =
    list_tokens value_tokens c.values
    ++ t.mark mk.OpenBrace
    ∷ (option_tokens pass_fail_tokens c.pass_fail
    ++ (option_tokens increment_tokens c.counters
    ++ (option_tokens set_bin_tokens c.leaf
    ++ (next_tokens c.next ++ t.mark mk.CloseBrace ∷ []))))

-- the groups, bins and counters of a draft are those that the tree declares
pub record Declared (text : List ℕ) (bins : BinsTree) (s : Scope) (d : Draft) : Type 0 where
  pub groups : names_in text (λ r. r.name) d.groups ≡ group_names bins
  pub bin_named : names_in text (λ r. r.name) d.bins ≡ bin_names bins
  pub bin_rows : map bin_of d.bins ≡ map (bin_meant (bin_names bins)) (bins_of bins)
  pub bin_scope : s.bins ≡ bin_names bins
  pub counters : names_in text (λ r. r.name) d.counters ≡ s.counters

-- where a row leads while its flow is read: the place of the name that it goes to, or the value that it returns
abbrev pub NextStands : List ℕ → Next → NextTree → Type 0
NextStands text (GoTo p) (go_to n) = word_at text p ≡ n
NextStands text (GoTo p) (return w) = ⊥
NextStands text (Return v) (go_to n) = ⊥
NextStands text (Return v) (return w) = v.code ≡ code w

-- the tables e are the tables d with the clause added
pub record ClauseStands (text : List ℕ) (s : Scope) (d e : Draft) (c : ClauseTree) : Type 0 where
  pub row : Clause
  pub more : List Value
  pub clauses : e.clauses ≡ d.clauses ++ row ∷ []
  pub values : e.values ≡ d.values ++ more
  pub mentions : e.mentions ≡ d.mentions ++ map (λ n. position n s.counters) (listed c.counters)
  pub others : Beside d e
  pub row_values : row.values ≡ span (length d.values) (length e.values)
  pub row_counters : row.counters ≡ span (length d.mentions) (length e.mentions)
  pub codes : map code_of more ≡ map code (each c.values)
  pub verdict : row.verdict ≡ verdict_meant c.pass_fail
  pub leaf : row.leaf ≡ option_map (λ b. position b.bin s.bins) c.leaf
  pub next : NextStands text row.next c.next

-- the rules of a clause by itself
pub record ClauseKeeps (bins : BinsTree) (s : Scope) (c : ClauseTree) : Type 0 where
  pub values_fit : Every ValueFits (each c.values)
  pub return_fits : ReturnFits c.next
  pub pass_fail_known : PassFailKnown c.pass_fail
  pub counters_declared : Every (λ n. declared n s.counters ≡ true) (listed c.counters)
  pub leaf_right : LeafRight bins c.leaf

-- the tables have room for the clause, and no value and no counter is repeated; the values of the item begin at the row `first`
pub record ClauseFits (s : Scope) (first : ℕ) (d : Draft) (c : ClauseTree) : Type 0 where
  pub clauses : length d.clauses < 1024
  pub values : length d.values + length (each c.values) ≤ 2048
  pub mentions : length d.mentions + length (listed c.counters) ≤ 2048
  pub begun : first ≤ length d.values
  pub values_once : Once (map code_of (drop first d.values) ++ map code (each c.values))
  pub counters_once : Once (map (λ n. position n s.counters) (listed c.counters))

-- the verdict

abbrev VerdictIs : Option Word → Verdict → Type 0
VerdictIs o v = (v ≡ verdict_meant o) × PassFailKnown o

-- a PassFail string behind the keyword Property
abbrev pass_fail_rest : Word → List Terminal
pass_fail_rest s = t.keyword kw.PassFail ∷ t.mark mk.Equals ∷ t.string s ∷ t.mark mk.Semicolon ∷ []

verdict_of_lem : (s : Word) (v : Verdict) → verdict_of s ≡ Some v → VerdictIs (Some s) v
verdict_of_lem s v e = by (bytes_eq s (codes "Pass")) (bytes_eq s (codes "Fail")) e
  where
    by : (pass fail : Bool) → cond pass (Some Pass) (cond fail (Some Fail) None) ≡ Some v → (v ≡ cond pass Pass Fail) × ((pass || fail) ≡ true)
    by true fail e = (sym (the_same e), refl)
    by false true e = (sym (the_same e), refl)
    by false false e = never_some v e

property_sound : (ts : Tokens) (v : Verdict) (us : Tokens) → property_in ts ≡ Ok (v, us) → (s : Word) × Starts us ts (pass_fail_rest s) × VerdictIs (Some s) v
property_sound ts v us h =
    let property = parse_passed (expect_in (sy.Keyword kw.PassFail) ts) h in
    let equals = parse_passed (expect_in (sy.Mark mk.Equals) property.us) property.goes in
    let s = parse_passed (string_in equals.us) equals.goes in
    let verdict = have_passed (verdict_of s.v.0) (OutOfRange s.v.1) _ s.goes in
    let end = parse_passed (expect_in (sy.Mark mk.Semicolon) s.us) verdict.2 in
    let made = accepted end.goes in
    let a = expect_taken (sy.Keyword kw.PassFail) ts property.v property.us property.is in
    let b = expect_taken (sy.Mark mk.Equals) property.us equals.v equals.us equals.is in
    let c = string_taken equals.us s.v s.us s.is in
    let d = expect_taken (sy.Mark mk.Semicolon) s.us end.v end.us end.is in
    (s.v.0, front a.1 (front b.1 (front c (front d.1 (subst (λ z. Starts us z []) (sym made.1) here)))), subst (VerdictIs (Some s.v.0)) made.0 (verdict_of_lem s.v.0 verdict.0 verdict.1))

verdict_makes : (o : Option Word) (ts us : Tokens) → PassFailKnown o → Makes kw.Property Unmarked property_in pass_fail_rest o (verdict_meant o) ts us
verdict_makes None ts us k = refl
verdict_makes (Some s) ts us k = λ st. goes us ts st
  where
    known : (pass fail : Bool) → (pass || fail) ≡ true → cond pass (Some Pass) (cond fail (Some Fail) None) ≡ Some (cond pass Pass Fail)
    known true fail k = refl
    known false true k = refl
    known false false k = absurd (false≢true k)

    goes : (us ts : Tokens) → Starts us ts (pass_fail_rest s) → property_in ts ≡ Ok (verdict_meant (Some s), us)
    goes us ts (next (next (next (next here)))) = have_on (verdict_of s) _ _ (known (bytes_eq s (codes "Pass")) (bytes_eq s (codes "Fail")) k) refl

-- the leaf bin

-- rows and trees that mean the same, one by one
same_at : {X Y Z : Type 0} (f : X → Z) (g : Y → Z) (xs : List X) (ys : List Y) → map f xs ≡ map g ys → (k : ℕ) (y : Y) → slice_get ys k ≡ Some y → MadeOf f xs k (g y)
same_at f g xs ys e k y at = made_of f xs k (g y) (ap (λ l. slice_get l k) e ∙ (sym (nth_map g ys k) ∙ ap (option_map g) at))

-- the row that a word names, by the names that the rows have
module _ {R : Type 0} (named : R → Name) (text : List ℕ) (rows : List R) (names : List Word) (are : names_in text named rows ≡ names) (w : Word) (k : ℕ) where
  found_at : found named text rows w ≡ Some k → (slice_get names k ≡ Some w) × (position w names ≡ k)
  found_at e =
      let f = found_position named text w rows k e in
      let p : position w names ≡ k = ap (position w) (sym are) ∙ f.1 in
      (ap (slice_get names) (sym p) ∙ declared_at w names (ap (declared w) (sym are) ∙ f.0), p)

  at_found : Once names → slice_get names k ≡ Some w → found named text rows w ≡ Some k
  at_found once e = declared_found named text w rows (ap (declared w) are ∙ at_declared w names k e) ∙ ap Some (ap (position w) are ∙ position_once w names k once e)

-- a leaf bin behind the keyword SetBin
abbrev leaf_rest : LeafTree → List Terminal
leaf_rest x = t.name x.group ∷ t.mark mk.FullStop ∷ t.name x.bin ∷ t.mark mk.Semicolon ∷ []

leaf_there : (g : ℕ) (r : Option Bin) → leaf_of g r ≡ true → (b : Bin) × (r ≡ Some b) × (b.leaf ≡ true) × (b.group ≡ g)
leaf_there g (Some b) e = let a = and_parts b.leaf (eqb b.group g) e in (b, refl, a.0, eqb-true b.group g a.1)
leaf_there g None e = absurd (false≢true e)

module _ (text : List ℕ) (bins : BinsTree) (s : Scope) (d : Draft) (are : Declared text bins s d) where
  abbrev LeafIs : Option LeafTree → Option ℕ → Type 0
  LeafIs o leaf = (leaf ≡ option_map (λ b. position b.bin s.bins) o) × LeafRight bins o

  -- the bin that is found is a leaf bin of the group
  leaf_right_lem : (x : LeafTree) (g k : ℕ) → found (λ r. r.name) text d.groups x.group ≡ Some g → found (λ r. r.name) text d.bins x.bin ≡ Some k → leaf_of g (slice_get d.bins k) ≡ true → LeafIs (Some x) (Some k)
  leaf_right_lem x g k a b l =
      let group = found_at (λ r. r.name) text d.groups (group_names bins) are.groups x.group g a in
      let bin = found_at (λ r. r.name) text d.bins (bin_names bins) are.bin_named x.bin k b in
      let tree = made_of (λ (b : ℕ × BinTree). b.1.name) (bins_of bins) k x.bin bin.0 in
      let row = same_at bin_of (bin_meant (bin_names bins)) d.bins (bins_of bins) are.bin_rows k tree.row tree.at in
      let leaf = leaf_there g (slice_get d.bins k) l in
      let the : row.row ≡ leaf.0 = the_same (sym row.at ∙ leaf.1) in
      let in_group : tree.row.0 ≡ g = sym (ap (λ (b : PlanBin). b.group) row.is) ∙ (ap (λ (b : Bin). b.group) the ∙ leaf.3) in
      let is_leaf : tree.row.1.leaf ≡ true = sym (ap (λ (b : PlanBin). b.leaf) row.is) ∙ (ap (λ (b : Bin). b.leaf) the ∙ leaf.2) in (
        ap Some (sym bin.1 ∙ ap (position x.bin) (sym are.bin_scope)),
        record {
          group = g;
          group_name = x.group;
          group_is = group.0;
          group_named = same_name_lem x.group x.group refl;
          bin = tree.row.1;
          bin_is = (k, tree.at ∙ ap (λ n. Some (n, tree.row.1)) in_group);
          bin_named = same_name_lem tree.row.1.name x.bin tree.is;
          leaf = is_leaf;
        },
      )

  leaf_sound : (ts : Tokens) (leaf : Option ℕ) (us : Tokens) → leaf_in text d ts ≡ Ok (leaf, us) → (x : LeafTree) × Starts us ts (leaf_rest x) × LeafIs (Some x) leaf
  leaf_sound ts leaf us h =
      let g = parse_passed (name_in ts) h in
      let group = have_passed (found (λ r. r.name) text d.groups g.v.0) (NotDeclared g.v.1) _ g.goes in
      let stop = parse_passed (expect_in (sy.Mark mk.FullStop) g.us) group.2 in
      let b = parse_passed (name_in stop.us) stop.goes in
      let bin = have_passed (found (λ r. r.name) text d.bins b.v.0) (NotDeclared b.v.1) _ b.goes in
      let kind = refuse_passed (not (leaf_of group.0 (slice_get d.bins bin.0))) (WrongKind b.v.1) _ bin.2 in
      let end = parse_passed (expect_in (sy.Mark mk.Semicolon) b.us) kind.1 in
      let made = accepted end.goes in
      let x : LeafTree = record { group = g.v.0; bin = b.v.0 } in
      let right = leaf_right_lem x group.0 bin.0 group.1 bin.1 (not-false _ kind.0) in
      let last = expect_taken (sy.Mark mk.Semicolon) b.us end.v end.us end.is in
      let dot = expect_taken (sy.Mark mk.FullStop) g.us stop.v stop.us stop.is in
      let starts = front (name_taken ts g.v g.us g.is) (front dot.1 (front (name_taken stop.us b.v b.us b.is) (front last.1 (subst (λ z. Starts us z []) (sym made.1) here)))) in
      (x, starts, subst (LeafIs (Some x)) made.0 right)

  leaf_goes : Once (group_names bins) → Once (bin_names bins) → (x : LeafTree) (us ts : Tokens) → LeafOfGroup bins x → Starts us ts (leaf_rest x) → leaf_in text d ts ≡ Ok (Some (position x.bin s.bins), us)
  leaf_goes groups_once bins_once x us ts r (next (next (next (next here)))) =
      let k = r.bin_is.0 in
      let group_at : slice_get (group_names bins) r.group ≡ Some x.group = r.group_is ∙ ap Some (name_same r.group_name x.group r.group_named) in
      let bin_at : slice_get (bin_names bins) k ≡ Some x.bin = sym (nth_map (λ (b : ℕ × BinTree). b.1.name) (bins_of bins) k) ∙ (ap (option_map (λ (b : ℕ × BinTree). b.1.name)) r.bin_is.1 ∙ ap Some (name_same r.bin.name x.bin r.bin_named)) in
      let group = at_found (λ r. r.name) text d.groups (group_names bins) are.groups x.group r.group groups_once group_at in
      let bin = at_found (λ r. r.name) text d.bins (bin_names bins) are.bin_named x.bin k bins_once bin_at in
      let row = same_at bin_of (bin_meant (bin_names bins)) d.bins (bins_of bins) are.bin_rows k (r.group, r.bin) r.bin_is.1 in
      let kind : leaf_of r.group (slice_get d.bins k) ≡ true = ap (leaf_of r.group) row.at ∙ and_from row.row.leaf (eqb row.row.group r.group) (ap (λ (b : PlanBin). b.leaf) row.is ∙ r.leaf) (eq-eqb row.row.group r.group (ap (λ (b : PlanBin). b.group) row.is)) in
      let number : k ≡ position x.bin s.bins = sym (position_once x.bin (bin_names bins) k bins_once bin_at) ∙ ap (position x.bin) (sym are.bin_scope) in
      have_on (found (λ r. r.name) text d.groups x.group) _ _ group (have_on (found (λ r. r.name) text d.bins x.bin) _ _ bin (refuse_on (not (leaf_of r.group (slice_get d.bins k))) _ _ (not_from_true _ kind) (ap (λ n. Ok (Some n, us)) number)))

  leaf_makes : Once (group_names bins) → Once (bin_names bins) → (o : Option LeafTree) (ts us : Tokens) → LeafRight bins o → Makes kw.SetBin None (leaf_in text d) leaf_rest o (option_map (λ b. position b.bin s.bins) o) ts us
  leaf_makes groups_once bins_once None ts us r = refl
  leaf_makes groups_once bins_once (Some x) ts us r = λ st. leaf_goes groups_once bins_once x us ts r st

-- where it leads

-- the keyword that was read last
keyword_back : (k : Keyword) (f : Found) (ts : Tokens) → is_keyword k f ≡ true → back f ts ≡ t.token (t.keyword k) f.place ts
keyword_back k f ts e = ap (λ s. t.token (terminal s) f.place ts) (symbol_same f.symbol (sy.Keyword k) e)

abbrev before_next : List Keyword
before_next = kw.SetBin ∷ kw.IncrementCounters ∷ kw.Property ∷ []

module _ (text : List ℕ) where
  next_sound : (f : Found) (ts : Tokens) (x : Next) (us : Tokens) → WordsAt text ts → next_in f ts ≡ Ok (x, us) → (n : NextTree) × Starts us (back f ts) (next_tokens n) × NextStands text x n × ReturnFits n
  next_sound f ts x us w h = by (is_keyword kw.GoTo f) refl h
    where
      by : (b : Bool) → is_keyword kw.GoTo f ≡ b → cond b (go_to_in ts) (allow (is_keyword kw.Return f) f.place (return_in ts)) ≡ Ok (x, us) → (n : NextTree) × Starts us (back f ts) (next_tokens n) × NextStands text x n × ReturnFits n
      by true k h =
          let n = parse_passed (name_in ts) h in
          let end = parse_passed (expect_in (sy.Mark mk.Semicolon) n.us) n.goes in
          let made = accepted end.goes in
          let name = name_taken ts n.v n.us n.is in
          let last = expect_taken (sy.Mark mk.Semicolon) n.us end.v end.us end.is in
          let stands : word_at text n.v.1 ≡ n.v.0 = (subst (WordsAt text) name w).0 in
          (go_to n.v.0, front (keyword_back kw.GoTo f ts k) (front name (front last.1 (subst (λ z. Starts us z []) (sym made.1) here))), subst (λ y. NextStands text y (go_to n.v.0)) made.0 stands, tt)
      by false k h =
          let ok = allow_passed (is_keyword kw.Return f) f.place _ h in
          let value = then_passed (value_in ts) ok.1 in
          let end = parse_passed (expect_in (sy.Mark mk.Semicolon) value.us) value.goes in
          let made = accepted end.goes in
          let v = value_sound ts value.v value.us value.is in
          let last = expect_taken (sy.Mark mk.Semicolon) value.us end.v end.us end.is in
          (return v.tree, front (keyword_back kw.Return f ts ok.0) (join v.starts (front last.1 (subst (λ z. Starts us z []) (sym made.1) here))), subst (λ y. NextStands text y (return v.tree)) made.0 v.codes, v.fits)

  -- the row leads where the tree does
  record NextGoes (n : NextTree) (ts us : Tokens) : Type 0 where
    pub begins : Ahead before_next ts
    pub next : Next
    pub goes : next_in begins.symbol begins.behind ≡ Ok (next, us)
    pub stands : NextStands text next n

  next_goes : (n : NextTree) (ts us : Tokens) → WordsAt text ts → ReturnFits n → Starts us ts (next_tokens n) → NextGoes n ts us
  next_goes (go_to n) ts us w fits (next {p = p} (next {p = q} (next {p = r} here))) = record {
    begins = record { symbol = record { symbol = sy.Keyword kw.GoTo; place = p }; behind = t.token (t.name n) q (t.token (t.mark mk.Semicolon) r us); is = refl; none = (refl, (refl, (refl, tt))) };
    next = GoTo q;
    goes = refl;
    stands = w.1.0;
  }
  next_goes (return v) ts us w fits (next {p = p} {ts = ts'} st) =
      let r = split ts' (value_tokens v) (t.mark mk.Semicolon ∷ []) st in
      let value = value_complete v ts' r.us fits r.before in
      record {
        begins = record { symbol = record { symbol = sy.Keyword kw.Return; place = p }; behind = ts'; is = refl; none = (refl, (refl, (refl, tt))) };
        next = Return (record { code = code v });
        goes = then_on (value_in ts') _ value.1 (parse_on (expect_in (sy.Mark mk.Semicolon) r.us) _ (expect_one (sy.Mark mk.Semicolon) r.us us r.behind) refl);
        stands = refl;
      }

-- the clause

abbrev counters_rest : Several Word → List Terminal
counters_rest ns = list_tokens name_tokens ns ++ t.mark mk.Semicolon ∷ []

-- the tokens of the parts behind the values
abbrev end_rest : Option LeafTree → NextTree → List Terminal
end_rest leaf n = option_tokens set_bin_tokens leaf ++ (next_tokens n ++ t.mark mk.CloseBrace ∷ [])

abbrev body_rest : Option Word → Option (Several Word) → Option LeafTree → NextTree → List Terminal
body_rest pass_fail counters leaf n = option_tokens pass_fail_tokens pass_fail ++ (option_tokens increment_tokens counters ++ end_rest leaf n)

words_behind : (text : List ℕ) {us ts : Tokens} (ws : List Terminal) → Starts us ts ws → WordsAt text ts → WordsAt text us
words_behind text {ts = ts} ws st w = carried (WordsAt text) (λ x p ts h. h.1) ts ws st w

module _ (text : List ℕ) (bins : BinsTree) (s : Scope) where
  declared_mentioning : (ms : List ℕ) (d : Draft) → Declared text bins s d → Declared text bins s (mentioning ms d)
  declared_mentioning ms d are = record { groups = are.groups; bin_named = are.bin_named; bin_rows = are.bin_rows; bin_scope = are.bin_scope; counters = are.counters }

  declared_listing : (vs : List Value) (d : Draft) → Declared text bins s d → Declared text bins s (listing vs d)
  declared_listing vs d are = record { groups = are.groups; bin_named = are.bin_named; bin_rows = are.bin_rows; bin_scope = are.bin_scope; counters = are.counters }

  abbrev numbers : Option (Several Word) → List ℕ
  numbers ns = map (λ n. position n s.counters) (listed ns)

  module _ (d : Draft) (are : Declared text bins s d) where
    record EndRead (f : Found) (ts : Tokens) (e : Option ℕ × Next) (us : Tokens) : Type 0 where
      pub leaf : Option LeafTree
      pub next : NextTree
      pub starts : Starts us (back f ts) (end_rest leaf next)
      pub leaf_is : LeafIs text bins s d are leaf e.0
      pub next_is : NextStands text e.1 next
      pub fits : ReturnFits next

    end_sound : (f : Found) (ts : Tokens) (e : Option ℕ × Next) (us : Tokens) → WordsAt text (back f ts) → end_in text d f ts ≡ Ok (e, us) → EndRead f ts e us
    end_sound f ts e us w h =
        let leaf = then_passed (set_bin_in text d f ts) h in
        let n = then_passed (next_in leaf.v.1 leaf.us) leaf.goes in
        let end = parse_passed (expect_in (sy.Mark mk.CloseBrace) n.us) n.goes in
        let made = accepted end.goes in
        let l = optional_sound kw.SetBin None (leaf_in text d) leaf_rest (LeafIs text bins s d are) f ts (refl, tt) (leaf_sound text bins s d are ts) leaf.v leaf.us leaf.is in
        let x = next_sound text leaf.v.1 leaf.us n.v n.us (words_behind text _ l.starts w).1 n.is in
        let last = expect_taken (sy.Mark mk.CloseBrace) n.us end.v end.us end.is in
        record {
          leaf = l.tree;
          next = x.0;
          starts = join l.starts (join x.1 (front last.1 (subst (λ z. Starts us z []) (sym made.1) here)));
          leaf_is = subst (λ (y : Option ℕ × Next). LeafIs text bins s d are l.tree y.0) made.0 l.is;
          next_is = subst (λ (y : Option ℕ × Next). NextStands text y.1 x.0) made.0 x.2;
          fits = x.3;
        }

  module _ (d : Draft) (are : Declared text bins s d) where
    record BodyRead (values : Span) (ts : Tokens) (e : Draft × Clause) (us : Tokens) : Type 0 where
      pub pass_fail : Option Word
      pub counters : Option (Several Word)
      pub leaf : Option LeafTree
      pub next : NextTree
      pub starts : Starts us ts (body_rest pass_fail counters leaf next)
      pub is : e.0 ≡ mentioning (numbers counters) d
      pub row_values : e.1.values ≡ values
      pub row_counters : e.1.counters ≡ span (length d.mentions) (length e.0.mentions)
      pub verdict : VerdictIs pass_fail e.1.verdict
      pub known : Every (λ n. declared n s.counters ≡ true) (listed counters)
      pub leaf_is : LeafIs text bins s d are leaf e.1.leaf
      pub next_is : NextStands text e.1.next next
      pub fits : ReturnFits next

    abbrev CountersIs : Option (Several Word) → Draft → Type 0
    CountersIs o e = CountersNamed text s.counters d are.counters e (listed o)

    body_sound : (values : Span) (ts : Tokens) (e : Draft × Clause) (us : Tokens) → WordsAt text ts → body_in text values d ts ≡ Ok (e, us) → BodyRead values ts e us
    body_sound values ts e us w h =
        let f = parse_passed (symbol_in ts) h in
        let v = then_passed (verdict_in f.v f.us) f.goes in
        let k = then_passed (counters_in text d v.v.1 v.us) v.goes in
        let n = then_passed (end_in text k.v.0 k.v.1 k.us) k.goes in
        let made = accepted n.goes in
        let first = symbol_taken ts f.v f.us f.is in
        let verdict = optional_sound kw.Property Unmarked property_in pass_fail_rest VerdictIs f.v f.us (refl, tt) (property_sound f.us) v.v v.us v.is in
        let counters = optional_sound kw.IncrementCounters d (mentions_in text (length d.mentions) d) counters_rest CountersIs v.v.1 v.us (record { is = mentioning_none d; known = tt }) (mentions_sound text s.counters d are.counters v.us) k.v k.us k.is in
        ended f.v f.us v.v v.us k.v k.us n.v n.us first verdict counters n.is made.0 made.1
      where
        ended : (f : Found) (fs : Tokens) (v : Verdict × Found) (vs : Tokens) (k : Draft × Found) (ks : Tokens) (n : Option ℕ × Next) (ns : Tokens) → ts ≡ back f fs → PartRead kw.Property Unmarked property_in pass_fail_rest VerdictIs f fs v.0 v.1 vs → PartRead kw.IncrementCounters d (mentions_in text (length d.mentions) d) counters_rest CountersIs v.1 vs k.0 k.1 ks → end_in text k.0 k.1 ks ≡ Ok (n, ns) → (k.0, record { values = values; verdict = v.0; counters = span (length d.mentions) (length k.0.mentions); leaf = n.0; next = n.1 }) ≡ e → ns ≡ us → BodyRead values ts e us
        ended f fs v vs k ks n ns first verdict counters h made left =
            let there : Declared text bins s k.0 = subst (Declared text bins s) (sym counters.is.is) (declared_mentioning (numbers counters.tree) d are) in
            let before : Starts (back k.1 ks) ts (option_tokens pass_fail_tokens verdict.tree ++ option_tokens increment_tokens counters.tree) = subst (λ z. Starts (back k.1 ks) z (option_tokens pass_fail_tokens verdict.tree ++ option_tokens increment_tokens counters.tree)) (sym first) (join verdict.starts counters.starts) in
            let end = end_sound k.0 there k.1 ks n ns (words_behind text _ before w) h in
            let all : Starts us ts (body_rest verdict.tree counters.tree end.leaf end.next) = subst (λ z. Starts z ts (body_rest verdict.tree counters.tree end.leaf end.next)) left (subst (Starts ns ts) (append_assoc (option_tokens pass_fail_tokens verdict.tree) (option_tokens increment_tokens counters.tree) (end_rest end.leaf end.next)) (join before end.starts)) in
            subst (λ y. BodyRead values ts y us) made (record {
              pass_fail = verdict.tree;
              counters = counters.tree;
              leaf = end.leaf;
              next = end.next;
              starts = all;
              is = counters.is.is;
              row_values = refl;
              row_counters = refl;
              verdict = verdict.is;
              known = counters.is.known;
              leaf_is = end.leaf_is;
              next_is = end.next_is;
              fits = end.fits;
            })

  -- the tables with the clause
  clause_stands : (d : Draft) (more : List Value) (c : ClauseTree) (row : Clause) → row.values ≡ span (length d.values) (length (d.values ++ more)) → row.counters ≡ span (length d.mentions) (length (d.mentions ++ numbers c.counters)) → map code_of more ≡ map code (each c.values) → row.verdict ≡ verdict_meant c.pass_fail → row.leaf ≡ option_map (λ b. position b.bin s.bins) c.leaf → NextStands text row.next c.next → ClauseStands text s d (with_clause row (mentioning (numbers c.counters) (listing more d))) c
  clause_stands d more c row a b codes verdict leaf n = record {
    row = row;
    more = more;
    clauses = refl;
    values = refl;
    mentions = refl;
    others = record { groups = refl; bins = refl; counters = refl; tests = refl; flows = refl; items = refl; sort_group = refl; main_flow = refl };
    row_values = a;
    row_counters = b;
    codes = codes;
    verdict = verdict;
    leaf = leaf;
    next = n;
  }

  -- a clause was accepted
  pub record ClauseRead (d : Draft) (ts : Tokens) (e : Draft) (us : Tokens) : Type 0 where
    pub tree : ClauseTree
    pub starts : Starts us ts (clause_rest tree)
    pub stands : ClauseStands text s d e tree
    pub keeps : ClauseKeeps bins s tree

  pub clause_sound : (p first : ℕ) (d : Draft) (ts : Tokens) (e : Draft) (us : Tokens) → Declared text bins s d → WordsAt text ts → clause_in text p first d ts ≡ Ok (e, us) → ClauseRead d ts e us
  unfolding clause_in
  clause_sound p first d ts e us are w h =
      let room = refuse_passed (leb 1024 (length d.clauses)) (TableFull p) _ h in
      let values = then_passed (values_in first d ts) room.1 in
      let body = then_passed (body_in text (span (length d.values) (length values.v.values)) values.v values.us) values.goes in
      let made = accepted body.goes in
      let v = values_sound first d ts values.v values.us values.is in
      read values.v values.us body.v body.us v.0 v.1 v.2 body.is made.0 made.1
    where
      read : (x : Draft) (vs : Tokens) (b : Draft × Clause) (bs : Tokens) (xs : Several ValueTree) → Starts vs ts (list_tokens value_tokens xs ++ t.mark mk.OpenBrace ∷ []) → ValuesListed first d x (each xs) → body_in text (span (length d.values) (length x.values)) x vs ≡ Ok (b, bs) → with_clause b.1 b.0 ≡ e → bs ≡ us → ClauseRead d ts e us
      read x vs b bs xs before l h made left =
          let there = listing l.more d in
          let body = body_sound there (declared_listing l.more d are) (span (length d.values) (length there.values)) vs b bs (words_behind text _ before w) (subst (λ y. body_in text (span (length d.values) (length y.values)) y vs ≡ Ok (b, bs)) l.is h) in
          let c : ClauseTree = record { values = xs; pass_fail = body.pass_fail; counters = body.counters; leaf = body.leaf; next = body.next } in
          let starts : Starts bs ts (clause_rest c) = subst (Starts bs ts) (append_assoc (list_tokens value_tokens xs) (t.mark mk.OpenBrace ∷ []) (body_rest body.pass_fail body.counters body.leaf body.next)) (join before body.starts) in
          let same : with_clause b.1 (mentioning (numbers body.counters) there) ≡ e = ap (with_clause b.1) (sym body.is) ∙ made in
          record {
            tree = c;
            starts = subst (λ z. Starts z ts (clause_rest c)) left starts;
            stands = subst (λ z. ClauseStands text s d z c) same (clause_stands d l.more c b.1 body.row_values (body.row_counters ∙ ap (λ (y : Draft). span (length d.mentions) (length y.mentions)) body.is) l.codes body.verdict.0 body.leaf_is.0 body.next_is);
            keeps = record { values_fit = l.fits; return_fits = body.fits; pass_fail_known = body.verdict.1; counters_declared = body.known; leaf_right = body.leaf_is.1 };
          }

  abbrev row_of : Draft → List Value → ClauseTree → Next → Clause
  row_of d more c x = record {
    values = span (length d.values) (length (d.values ++ more));
    verdict = verdict_meant c.pass_fail;
    counters = span (length d.mentions) (length (d.mentions ++ numbers c.counters));
    leaf = option_map (λ b. position b.bin s.bins) c.leaf;
    next = x;
  }

  counters_makes : (d : Draft) (are : Declared text bins s d) (o : Option (Several Word)) (ts us : Tokens) → Every (λ n. declared n s.counters ≡ true) (listed o) → length d.mentions + length (listed o) ≤ 2048 → Once (numbers o) → Makes kw.IncrementCounters d (mentions_in text (length d.mentions) d) counters_rest o (mentioning (numbers o) d) ts us
  counters_makes d are None ts us known room once = mentioning_none d
  counters_makes d are (Some ns) ts us known room once = λ st. mentions_complete text s.counters d are.counters ts us ns st known room once

  module _ (groups_once : Once (group_names bins)) (bins_once : Once (bin_names bins)) where
    end_complete : (d : Draft) → Declared text bins s d → (c : ClauseTree) (ts vs us : Tokens) (a : Ahead (kw.IncrementCounters ∷ kw.Property ∷ []) ts) → ClauseKeeps bins s c → Starts vs ts (option_tokens set_bin_tokens c.leaf) → (n : NextGoes text c.next vs us) → (ws : Tokens) → Starts ws us (t.mark mk.CloseBrace ∷ []) → end_in text d a.symbol a.behind ≡ Ok ((option_map (λ b. position b.bin s.bins) c.leaf, n.next), ws)
    end_complete d are c ts vs us a keeps st n ws last =
        let leaf : set_bin_in text d a.symbol a.behind ≡ Ok ((option_map (λ b. position b.bin s.bins) c.leaf, n.begins.symbol), n.begins.behind) = optional_goes kw.SetBin (kw.IncrementCounters ∷ kw.Property ∷ []) None (leaf_in text d) leaf_rest c.leaf _ ts vs a n.begins st (leaf_makes text bins s d are groups_once bins_once c.leaf a.behind vs keeps.leaf_right) in
        then_on (set_bin_in text d a.symbol a.behind) _ leaf (then_on (next_in n.begins.symbol n.begins.behind) _ n.goes (parse_on (expect_in (sy.Mark mk.CloseBrace) us) _ (expect_one (sy.Mark mk.CloseBrace) us ws last) refl))

    body_complete : (d : Draft) (more : List Value) (c : ClauseTree) (ts us : Tokens) → Declared text bins s d → WordsAt text ts → Starts us ts (body_rest c.pass_fail c.counters c.leaf c.next) → ClauseKeeps bins s c → length d.mentions + length (listed c.counters) ≤ 2048 → Once (numbers c.counters) → (x : Next) × (body_in text (span (length d.values) (length (d.values ++ more))) (listing more d) ts ≡ Ok ((mentioning (numbers c.counters) (listing more d), row_of d more c x), us)) × NextStands text x c.next
    body_complete d more c ts us are w st keeps room once =
        let a = split ts (option_tokens pass_fail_tokens c.pass_fail) (option_tokens increment_tokens c.counters ++ end_rest c.leaf c.next) st in
        let b = split a.us (option_tokens increment_tokens c.counters) (end_rest c.leaf c.next) a.behind in
        let l = split b.us (option_tokens set_bin_tokens c.leaf) (next_tokens c.next ++ t.mark mk.CloseBrace ∷ []) b.behind in
        let n = split l.us (next_tokens c.next) (t.mark mk.CloseBrace ∷ []) l.behind in
        let wl = words_behind text _ l.before (words_behind text _ b.before (words_behind text _ a.before w)) in
        let goes = next_goes text c.next l.us n.us wl keeps.return_fits n.before in
        let a2 = ahead_option (kw.IncrementCounters ∷ kw.Property ∷ []) kw.SetBin leaf_rest c.leaf l.us b.us (refl, (refl, tt)) l.before (ahead_fewer goes.begins) in
        let a1 = ahead_option (kw.Property ∷ []) kw.IncrementCounters counters_rest c.counters b.us a.us (refl, tt) b.before (ahead_fewer a2) in
        let a0 = ahead_option [] kw.Property pass_fail_rest c.pass_fail a.us ts tt a.before (ahead_fewer a1) in
        let there = listing more d in
        let are_there = declared_listing more d are in
        let last = mentioning (numbers c.counters) there in
        let verdict = optional_goes kw.Property [] Unmarked property_in pass_fail_rest c.pass_fail (verdict_meant c.pass_fail) ts a.us a0 a1 a.before (verdict_makes c.pass_fail a0.behind a.us keeps.pass_fail_known) in
        let counters = optional_goes kw.IncrementCounters (kw.Property ∷ []) there (mentions_in text (length there.mentions) there) counters_rest c.counters last a.us b.us a1 a2 b.before (counters_makes there are_there c.counters a1.behind b.us keeps.counters_declared room once) in
        let end = end_complete last (declared_mentioning (numbers c.counters) there are_there) c b.us l.us n.us a2 keeps l.before goes us n.behind in
        (goes.next, parse_on (symbol_in ts) _ (ahead_read [] ts a0) (then_on (verdict_in a0.symbol a0.behind) _ verdict (then_on (counters_in text there a1.symbol a1.behind) _ counters (then_on (end_in text last a2.symbol a2.behind) _ end refl))), goes.stands)

  pub clause_complete : (p first : ℕ) (d : Draft) (ts us : Tokens) (c : ClauseTree) → Declared text bins s d → Once (group_names bins) → Once (bin_names bins) → WordsAt text ts → Starts us ts (clause_rest c) → ClauseKeeps bins s c → ClauseFits s first d c → (e : Draft) × (clause_in text p first d ts ≡ Ok (e, us)) × ClauseStands text s d e c
  unfolding clause_in
  clause_complete p first d ts us c are groups_once bins_once w st keeps fits =
      let body = body_rest c.pass_fail c.counters c.leaf c.next in
      let v = split ts (list_tokens value_tokens c.values ++ t.mark mk.OpenBrace ∷ []) body (subst (Starts us ts) (sym (append_assoc (list_tokens value_tokens c.values) (t.mark mk.OpenBrace ∷ []) body)) st) in
      let values = values_complete first d ts v.us c.values v.before keeps.values_fit fits.begun fits.values fits.values_once in
      let b = body_complete groups_once bins_once d values.0 c v.us us are (words_behind text _ v.before w) v.behind keeps fits.mentions fits.counters_once in
      let there = listing values.0 d in
      let row = row_of d values.0 c b.0 in
      (with_clause row (mentioning (numbers c.counters) there), refuse_on (leb 1024 (length d.clauses)) _ _ (lt-leb 1024 (length d.clauses) fits.clauses) (then_on (values_in first d ts) _ values.1 (then_on (body_in text (span (length d.values) (length there.values)) there v.us) _ b.1 refl)), clause_stands d values.0 c row refl refl values.2 refl refl b.2)
