use Rattle.std.proofs.Common.{refl}
use Rattle.keywords.specs.Keywords.{keyword}
use Rattle.tokens.specs.Scanning.{scanned, tokens_by, tokens_from}
use Rattle.refusals.specs.Steps.{turns}
use Rattle.bins.specs.Bins.{bins_in}
use Rattle.declarations.specs.Counters.{counters_in}
use Rattle.declarations.specs.Tests.{test_in}
use Rattle.clauses.specs.Clauses.{clause_in}
use Rattle.flows.specs.Flows.{flow_in}
use Rattle.plan_file.specs.File.{file_in}
use Rattle.load.specs.Loading.{loaded}
use Rattle.worked.proofs.marked_cases_hold.Goals as goal

pub returns : goal.returns
unfolding keyword scanned tokens_by tokens_from turns bins_in counters_in test_in clause_in flow_in file_in loaded
returns c = record { counted = refl; hold = (refl, (refl, (refl, tt))) }
