-- Every place told while values, counters, tests and clauses are read is at most n.
use Rattle.std.proofs.Common.{ℕ, ◌≤◌, not, leb, List, length, drop, is_some, Some, None, Option, arith, length-append}
use Rattle.std.specs.List.{slice_get, AllByRecursion as All}
use Rattle.std.proofs.ByRecursion.{All-push}
use Rattle.std.proofs.lemmas.List.{drop-append-le}
use Rattle.keywords.specs.declared.Keyword.TheVariants as kw
use Rattle.tokens.specs.Terminals.{Tokens}
use Rattle.tokens.specs.Spelling.{Within}
use Rattle.grammar.specs.declared.readers.ValueStart.{ValueStart}
use Rattle.grammar.specs.declared.readers.ValueStart.TheVariants.{Minus, Digits}
use Rattle.grammar.specs.declared.symbols.Found.{Found}
use Rattle.plan.specs.declared.rows.Clause.{Clause}
use Rattle.plan.specs.declared.rows.Next.{Next}
use Rattle.plan.specs.declared.rows.Next.TheVariants.{GoTo, Return}
use Rattle.plan.specs.declared.rows.Span.{Span}
use Rattle.plan.specs.declared.rows.Value.{Value}
use Rattle.plan.specs.Drafts.{Draft, with_clause}
use Rattle.plan.specs.Meaning.{code_of}
use Rattle.names.specs.Names.{found}
use Rattle.refusals.specs.Shapes.{is_keyword}
use Rattle.values.specs.Values.{placed_value, leaving, value_from, value_in}
use Rattle.declarations.specs.Counters as c
use Rattle.productions.specs.Naming.{runnable_in}
use Rattle.declarations.specs.Tests.{test_name_in, setting_on, setter_turn, setters_in, test_in}
use Rattle.clauses.specs.Clauses.{values_full, room_from, listed_in, value_turn, verdict_of, property_in, mention_in, mention_turn, mentions_in, leaf_of, leaf_in, next_in, end_in, body_in, clause_in}
use Rattle.clauses.specs.Parts.{among}
use Rattle.plan_file.proofs.Nearby.{Near, Any, made, failed, either_near, StartNear, SettingNear, spot_near, number_near, symbol_near, name_or_close_near, value_start_near, setting_near, expect_near, another_near, parse_near, then_near, have_near, optional_near, many_near}
use Rattle.plan_file.proofs.NearBins.{BinsNear}

-- values

module _ {n : ℕ} where
  placed_value_near : (p : ℕ) (o : Option Value) (ts : Tokens) → p ≤ n → Within n ts → Near n (λ v. v.place ≤ n) (leaving (placed_value p o) ts)
  placed_value_near p (Some v) ts l w = made l w
  placed_value_near p None ts l w = failed l

  value_from_near : (start : ValueStart) (ts : Tokens) → StartNear n start → Within n ts → Near n (λ v. v.place ≤ n) (value_from start ts)
  value_from_near (Minus p) ts l w =
      parse_near (number_near ts w) λ m ts l w.
      placed_value_near m.place _ ts l w
  value_from_near (Digits m) ts l w = placed_value_near m.place _ ts l w

  value_near : (ts : Tokens) → Within n ts → Near n (λ v. v.place ≤ n) (value_in ts)
  value_near ts w =
      parse_near (value_start_near ts w) λ start ts l w.
      value_from_near start ts l w

  -- counters

  counter_near : (text : List ℕ) (d : Draft) (ts : Tokens) → BinsNear n d → Within n ts → Near n (BinsNear n) (c.counter_in text d ts)
  counter_near text d ts b w =
      parse_near (spot_near _ ts w) λ v ts l w.
      either_near (is_some (found (λ k. k.name) text d.counters v.0)) (failed l)
      (either_near (leb 32 (length d.counters)) (failed l)
      (made b w))

  counter_turn_near : (text : List ℕ) (d : Draft) (ts : Tokens) → BinsNear n d → Within n ts → Near n (λ v. BinsNear n v.1) (c.counter_turn text d ts)
  counter_turn_near text d ts b w =
      then_near (counter_near text d ts b w) λ d ts b w.
      parse_near (another_near _ ts w) λ more ts _ w.
      made b w

  pub counters_near : (text : List ℕ) (d : Draft) (ts : Tokens) → BinsNear n d → Within n ts → Near n (BinsNear n) (c.counters_in text d ts)
  unfolding c.counters_in
  counters_near text d ts b w =
      parse_near (expect_near _ ts w) λ _ ts _ w.
      many_near (BinsNear n) (c.counter_turn text) (counter_turn_near text) d ts b w

  -- tests

  test_name_near : (text : List ℕ) (d : Draft) (ts : Tokens) → Within n ts → Near n Any (test_name_in text d ts)
  test_name_near text d ts w =
      parse_near (spot_near _ ts w) λ _ ts _ w.
      parse_near (spot_near _ ts w) λ v ts l w.
      either_near (runnable_in text d.tests d.flows v.0) (failed l)
      (made tt w)

  setting_on_near : (s : Option ValueStart) (ts : Tokens) → SettingNear n s → Within n ts → Near n Any (setting_on s ts)
  setting_on_near None ts l w = made tt w
  setting_on_near (Some start) ts l w =
      then_near (value_from_near start ts l w) λ _ ts _ w.
      made tt w

  setter_turn_near : (u : Unit {0}) (ts : Tokens) → Any u → Within n ts → Near n Any (setter_turn u ts)
  setter_turn_near u ts _ w =
      parse_near (expect_near _ ts w) λ _ ts _ w.
      then_near
      (parse_near (setting_near ts w) λ s ts l w.
      setting_on_near s ts l w) λ _ ts _ w.
      parse_near (expect_near _ ts w) λ _ ts _ w.
      parse_near (name_or_close_near ts w) λ more ts _ w.
      made tt w

  setters_near : (ts : Tokens) → Within n ts → Near n Any (setters_in ts)
  setters_near ts w =
      parse_near (expect_near _ ts w) λ _ ts _ w.
      parse_near (spot_near _ ts w) λ _ ts _ w.
      many_near Any setter_turn setter_turn_near tt ts tt w

  pub test_near : (text : List ℕ) (p : ℕ) (d : Draft) (ts : Tokens) → p ≤ n → BinsNear n d → Within n ts → Near n (BinsNear n) (test_in text p d ts)
  unfolding test_in
  test_near text p d ts l b w =
      either_near (leb 128 (length d.tests)) (failed l)
      (then_near (test_name_near text d ts w) λ name ts _ w.
      then_near (setters_near ts w) λ _ ts _ w.
      made b w)

-- clauses

-- a target that is held as a place is at most n
abbrev pub NextNear : ℕ → Next → Type 0
NextNear n (GoTo p) = p ≤ n
NextNear n (Return v) = Unit {0}

abbrev pub ClauseNear : ℕ → Clause → Type 0
ClauseNear n c = NextNear n c.next

-- while a flow is read, so of the targets of its clauses, which are those from the row `from` on
abbrev pub FlowNear : ℕ → ℕ → Draft → Type 0
FlowNear n from d = BinsNear n d × (from ≤ length d.clauses) × All (ClauseNear n) (drop from d.clauses)

-- one clause more
with_clause_lem : (n from : ℕ) (row : Clause) (d : Draft) → FlowNear n from d → ClauseNear n row → FlowNear n from (with_clause row d)
with_clause_lem n from row d h l =
    let all = All-push (ClauseNear n) (drop from d.clauses) row h.2 l in
    (h.0, simp length-append (omega (arith, h.1)), rw (drop-append-le from d.clauses _ h.1) all)

module _ {n : ℕ} where
  room_near : (d : Draft) (start : ValueStart) (ts : Tokens) → StartNear n start → Within n ts → Near n (StartNear n) (room_from d start ts)
  room_near d (Minus p) ts l w = either_near (values_full d) (failed l) (made l w)
  room_near d (Digits m) ts l w = made l w

  property_near : (ts : Tokens) → Within n ts → Near n Any (property_in ts)
  property_near ts w =
      parse_near (expect_near _ ts w) λ _ ts _ w.
      parse_near (expect_near _ ts w) λ _ ts _ w.
      parse_near (spot_near _ ts w) λ s ts l w.
      have_near (verdict_of s.0) (failed l) λ verdict.
      parse_near (expect_near _ ts w) λ _ ts _ w.
      made tt w

  leaf_near : (text : List ℕ) (d : Draft) (ts : Tokens) → Within n ts → Near n Any (leaf_in text d ts)
  leaf_near text d ts w =
      parse_near (spot_near _ ts w) λ g ts l w.
      have_near (found (λ r. r.name) text d.groups g.0) (failed l) λ group.
      parse_near (expect_near _ ts w) λ _ ts _ w.
      parse_near (spot_near _ ts w) λ b ts l w.
      have_near (found (λ r. r.name) text d.bins b.0) (failed l) λ bin.
      either_near (not (leaf_of group (slice_get d.bins bin))) (failed l)
      (parse_near (expect_near _ ts w) λ _ ts _ w.
      made tt w)

  next_near : (f : Found) (ts : Tokens) → f.place ≤ n → Within n ts → Near n (NextNear n) (next_in f ts)
  next_near f ts l w =
      either_near (is_keyword kw.GoTo f)
      (parse_near (spot_near _ ts w) λ v ts l w.
      parse_near (expect_near _ ts w) λ _ ts _ w.
      made l w)
      (either_near (is_keyword kw.Return f)
      (then_near (value_near ts w) λ v ts _ w.
      parse_near (expect_near _ ts w) λ _ ts _ w.
      made tt w)
      (failed l))

  end_near : (text : List ℕ) (d : Draft) (f : Found) (ts : Tokens) → f.place ≤ n → Within n ts → Near n (λ v. NextNear n v.1) (end_in text d f ts)
  end_near text d f ts l w =
      then_near (optional_near Any _ _ (leaf_in text d) (leaf_near text d) tt f ts l w) λ b ts p w.
      then_near (next_near b.1 ts p.1 w) λ next ts l w.
      parse_near (expect_near _ ts w) λ _ ts _ w.
      made l w

  module _ (text : List ℕ) (from : ℕ) where
    listed_near : (first : ℕ) (d : Draft) (ts : Tokens) → FlowNear n from d → Within n ts → Near n (FlowNear n from) (listed_in first d ts)
    listed_near first d ts h w =
        then_near
        (parse_near (value_start_near ts w) λ start ts l w.
        room_near d start ts l w) λ start ts l w.
        then_near (value_from_near start ts l w) λ v ts l w.
        either_near (among code_of v.value.code (drop first d.values)) (failed l)
        (either_near (values_full d) (failed l)
        (made h w))

    mention_near : (first : ℕ) (d : Draft) (ts : Tokens) → FlowNear n from d → Within n ts → Near n (FlowNear n from) (mention_in text first d ts)
    mention_near first d ts h w =
        parse_near (spot_near _ ts w) λ v ts l w.
        have_near (found (λ k. k.name) text d.counters v.0) (failed l) λ counter.
        either_near (among (λ k. k) counter (drop first d.mentions)) (failed l)
        (either_near (leb 2048 (length d.mentions)) (failed l)
        (made h w))

    -- one of a list, and whether another follows
    value_turn_near : (first : ℕ) (d : Draft) (ts : Tokens) → FlowNear n from d → Within n ts → Near n (λ v. FlowNear n from v.1) (value_turn first d ts)
    value_turn_near first d ts h w =
        then_near (listed_near first d ts h w) λ d ts h w.
        parse_near (another_near _ ts w) λ more ts _ w.
        made h w

    mention_turn_near : (first : ℕ) (d : Draft) (ts : Tokens) → FlowNear n from d → Within n ts → Near n (λ v. FlowNear n from v.1) (mention_turn text first d ts)
    mention_turn_near first d ts h w =
        then_near (mention_near first d ts h w) λ d ts h w.
        parse_near (another_near _ ts w) λ more ts _ w.
        made h w

    body_near : (values : Span) (d : Draft) (ts : Tokens) → FlowNear n from d → Within n ts → Near n (λ v. FlowNear n from v.0 × ClauseNear n v.1) (body_in text values d ts)
    body_near values d ts h w =
        parse_near (symbol_near ts w) λ f ts l w.
        then_near (optional_near Any _ _ property_in property_near tt f ts l w) λ v ts p w.
        then_near (optional_near (FlowNear n from) _ d (mentions_in text (length d.mentions) d) (λ ts w. many_near (FlowNear n from) _ (mention_turn_near (length d.mentions)) d ts h w) h v.1 ts p.1 w) λ k ts p w.
        then_near (end_near text k.0 k.1 ts p.1 w) λ e ts l w.
        made (p.0, l) w

    pub clause_near : (p first : ℕ) (d : Draft) (ts : Tokens) → p ≤ n → FlowNear n from d → Within n ts → Near n (FlowNear n from) (clause_in text p first d ts)
    unfolding clause_in
    clause_near p first d ts l h w =
        either_near (leb 1024 (length d.clauses)) (failed l)
        (then_near (many_near (FlowNear n from) _ (value_turn_near first) d ts h w) λ listed ts h w.
        then_near (body_near _ listed ts h w) λ b ts h w.
        made (with_clause_lem n from b.1 b.0 h.0 h.1) w)
