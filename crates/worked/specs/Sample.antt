-- The sample plan.
use Rattle.std.specs.Prelude.{ℕ, List, ◌++◌, codes}

-- its text, with what stands behind the label of the bin AllGood, and with the second clause of the item First
abbrev pub sample_with : List ℕ → List ℕ → List ℕ
sample_with parent clause =
    codes "Version 1.0; TestPlan Bench;\n"
    ++ codes "BinDefs {\n"
    ++ codes " BinGroup Ends { Bin Good 0: \"\"; Bin Bad 1: \"\"; }\n"
    ++ codes " BinGroup Crates { Bin Shelf 10: \"\", Good; Bin Repair 11: \"\", Bad; }\n"
    ++ codes " BinGroup Causes { LeafBin AllGood 20: \"\""
    ++ parent
    ++ codes ";\n"
    ++ codes "  LeafBin ProbeDead 21: \"probe\", Repair; }\n"
    ++ codes " SortBinGroup = Crates; }\n"
    ++ codes "Counters { Passed, Failed }\n"
    ++ codes "Test Reading ProbeTest { Limit = 7; }\n"
    ++ codes "Test Reading PumpTest { Limit = 3; }\n"
    ++ codes "Flow Probe { FlowItem Low ProbeTest {\n"
    ++ codes " Result 0 { Property PassFail = \"Pass\"; IncrementCounters Passed; Return 0; }\n"
    ++ codes " Result 1, 2 { Property PassFail = \"Fail\"; IncrementCounters Failed;\n"
    ++ codes "  SetBin Causes.ProbeDead; Return 1; } } }\n"
    ++ codes "Flow Main { FlowItem First Probe {\n"
    ++ codes " Result 0 { GoTo Second; } "
    ++ clause
    ++ codes " }\n"
    ++ codes " FlowItem Second PumpTest {\n"
    ++ codes " Result 0 { IncrementCounters Passed; SetBin Causes.AllGood; Return 0; }\n"
    ++ codes " Result 3 { GoTo First; } } }\n"
    ++ codes "FlowDefs { MainFlow = Main; }\n"

-- the plan as it is
abbrev pub sample : List ℕ
sample = sample_with (codes ", Shelf") (codes "Result 1 { Return 1; }")
