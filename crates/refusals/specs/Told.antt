-- What is told of a fault of a load: its number, its place, and who found it.
use Rattle.std.specs.Prelude.{ℕ}
use Rattle.tokens.specs.Faults as t
use Rattle.grammar.specs.declared.fault.GrammarFault.{GrammarFault}
use Rattle.grammar.specs.declared.fault.GrammarFault.TheVariants.{Token, NotAllowed}
use Rattle.refusals.specs.declared.fault.RuleFault.{RuleFault}
use Rattle.refusals.specs.declared.fault.RuleFault.TheVariants.{DeclaredBefore, NotDeclared, WrongKind, OutOfRange, Repeated, TableFull, ReturnNotListed, TooDeep, NoSortBin}
use Rattle.refusals.specs.declared.fault.LoadFault.{LoadFault}
use Rattle.refusals.specs.declared.fault.LoadFault.TheVariants as load
use Rattle.refusals.specs.declared.telling.Finder.{Finder}
use Rattle.refusals.specs.declared.telling.Finder.TheVariants as by

pub record Told : Type 0 where
  pub number : ℕ
  pub place : ℕ
  pub finder : Finder

abbrev pub rule_told : RuleFault → Told
rule_told (DeclaredBefore p) = record { number = 7; place = p; finder = by.PlanRules }
rule_told (NotDeclared p) = record { number = 8; place = p; finder = by.PlanRules }
rule_told (WrongKind p) = record { number = 9; place = p; finder = by.PlanRules }
rule_told (OutOfRange p) = record { number = 10; place = p; finder = by.PlanRules }
rule_told (Repeated p) = record { number = 11; place = p; finder = by.PlanRules }
rule_told (TableFull p) = record { number = 12; place = p; finder = by.PlanRules }
rule_told (ReturnNotListed p) = record { number = 13; place = p; finder = by.PlanRules }
rule_told (TooDeep p) = record { number = 14; place = p; finder = by.PlanRules }
rule_told (NoSortBin p) = record { number = 15; place = p; finder = by.PlanRules }

abbrev pub grammar_told : GrammarFault → Told
grammar_told (Token e) = record { number = (t.told e).number; place = (t.told e).place; finder = by.TokenReader }
grammar_told (NotAllowed p) = record { number = 6; place = p; finder = by.Grammar }

abbrev pub told : LoadFault → Told
told load.NoBytes = record { number = 1; place = 0; finder = by.SizeCheck }
told load.TooManyBytes = record { number = 2; place = 0; finder = by.SizeCheck }
told (load.Grammar e) = grammar_told e
told (load.Rule e) = rule_told e
