-- Every place told of a plan text is at most n.
use Rattle.std.proofs.Common.{ℕ, ◌≤◌, Bool, not, List, is_some, Some, None, codes, Option}
use Rattle.std.specs.Str.{bytes_eq}
use Rattle.keywords.specs.declared.Keyword.TheVariants as kw
use Rattle.tokens.specs.Terminals.{Tokens}
use Rattle.tokens.specs.Terminals as t
use Rattle.tokens.specs.Spelling.{Within}
use Rattle.grammar.specs.declared.symbols.Found.{Found}
use Rattle.grammar.specs.Readers.{finish_in}
use Rattle.plan.specs.declared.rows.Name.{Name}
use Rattle.plan.specs.Drafts.{Draft}
use Rattle.names.specs.Names.{found}
use Rattle.refusals.specs.Steps.{Loaded}
use Rattle.refusals.specs.Shapes.{is_keyword}
use Rattle.declarations.specs.Counters.{counters_in}
use Rattle.plan_file.specs.File.{header_in, main_named, main_in, flows_in, sections_in, finished, closed, file_in, PlaceWithin}
use Rattle.plan_file.proofs.Nearby.{Near, Any, made, failed, either_near, spot_near, symbol_near, expect_near, parse_near, then_near, Before, optional_near, rows_near}
use Rattle.plan_file.proofs.NearBins.{BinsNear, bins_near}
use Rattle.plan_file.proofs.NearClauses.{counters_near, test_near}
use Rattle.plan_file.proofs.NearFlows.{flow_near}

module _ (n : ℕ) where
  header_near : (ts : Tokens) → Within n ts → Near n Any (header_in ts)
  header_near ts w =
      parse_near (expect_near _ ts w) λ _ ts _ w.
      parse_near (spot_near _ ts w) λ v ts l w.
      either_near (not (bytes_eq v.0 (codes "1.0"))) (failed l)
      (parse_near (expect_near _ ts w) λ _ ts _ w.
      parse_near (expect_near _ ts w) λ _ ts _ w.
      parse_near (spot_near _ ts w) λ _ ts _ w.
      parse_near (expect_near _ ts w) λ _ ts _ w.
      made tt w)

  finished_near : {X : Type 0} (x : X) (ts : Tokens) → Within n ts → PlaceWithin n (finished x (finish_in ts))
  finished_near x (t.end p) w = tt
  finished_near x (t.fault e) w = w
  finished_near x (t.token y p ts) w = w.0

  module _ (text : List ℕ) where
    main_near : (d : Draft) (ts : Tokens) → BinsNear n d → Within n ts → Near n (BinsNear n) (main_in text d ts)
    main_near d ts b w =
        parse_near (expect_near _ ts w) λ _ ts _ w.
        parse_near (expect_near _ ts w) λ _ ts _ w.
        parse_near (expect_near _ ts w) λ _ ts _ w.
        then_near
        (parse_near (spot_near _ ts w) λ v ts l w.
        named (found (λ f. f.name) text d.flows v.0) (is_some (found (λ t. t.name) text d.tests v.0)) v.1 ts l w) λ f ts _ w.
        parse_near (expect_near _ ts w) λ _ ts _ w.
        parse_near (expect_near _ ts w) λ _ ts _ w.
        made b w
      where
        named : (o : Option ℕ) (test : Bool) (p : ℕ) (ts : Tokens) → p ≤ n → Within n ts → Near n Any (main_named o test p ts)
        named (Some f) test p ts l w = made tt w
        named None test p ts l w = either_near test (failed l) (failed l)

    flows_near : (s : Draft × Found) (ts : Tokens) → Before n (BinsNear n) s → Within n ts → Near n (BinsNear n) (flows_in text s ts)
    flows_near s ts b w =
        either_near (is_keyword kw.Flow s.1)
        (then_near (rows_near (BinsNear n) _ _ (λ f d ts l b w. flow_near text f.place d ts l b w) s ts b w) λ s ts b w.
        either_near (is_keyword kw.FlowDefs s.1) (main_near s.0 ts b.0 w) (failed b.1))
        (failed b.1)

    sections_near : (d : Draft) (ts : Tokens) → BinsNear n d → Within n ts → Near n (BinsNear n) (sections_in text d ts)
    sections_near d ts b w =
        parse_near (symbol_near ts w) λ f ts l w.
        then_near (optional_near (BinsNear n) _ d (counters_in text d) (λ ts w. counters_near text d ts b w) b f ts l w) λ s ts b w.
        then_near (rows_near (BinsNear n) _ _ (λ f d ts l b w. test_near text f.place d ts l b w) s ts b w) λ s ts b w.
        flows_near s ts b w

    -- a fault of the whole text has such a place
    pub file_near : (d : Draft) (ts : Tokens) → BinsNear n d → Within n ts → PlaceWithin n (file_in text d ts)
    unfolding file_in
    file_near d ts b w =
        told
        (then_near (header_near ts w) λ name ts _ w.
        then_near (bins_near text d ts b w) λ d ts b w.
        then_near (sections_near d ts b w) λ d ts _ w.
        made tt w)
      where
        told : {x : Loaded (Name × Draft)} → Near n Any x → PlaceWithin n (closed x)
        told (made {x} {ts} _ w) = finished_near x ts w
        told (failed l) = l
