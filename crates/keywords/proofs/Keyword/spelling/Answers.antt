use Rattle.keywords.proofs.Keyword.spelling.Goals as goal

pub returns-in-SortBinGroup : goal.returns-in-SortBinGroup
returns-in-SortBinGroup c = rw c.in-SortBinGroup.is

pub returns-in-IncrementCounters : goal.returns-in-IncrementCounters
returns-in-IncrementCounters c = rw c.in-IncrementCounters.is
