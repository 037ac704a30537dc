use Rattle.std.proofs.Common.{◌≡◌, ℕ, ◌+◌, ◌-◌, ◌*◌, ◌<◌, ◌≤◌, List, [], ◌∷◌, length, get_or, drop, arith, rules}
use Rattle.std.proofs.lemmas.List.{at_drop_more, at_drop_all}
use Rattle.text_bytes.specs.Bytes.{numeral}
use Rattle.text_bytes.proofs.runs.number_of.Goals as goal

never_falls : (v : ℕ) (ds : List ℕ) → v ≤ numeral v ds
never_falls v [] = omega arith
never_falls v (d ∷ ds) = let h : v * 10 + (d - 48) ≤ numeral (v * 10 + (d - 48)) ds = never_falls (v * 10 + (d - 48)) ds in omega arith

one_on : (v : ℕ) (xs : List ℕ) (i : ℕ) → i < length xs → numeral v (drop i xs) ≡ numeral (v * 10 + (get_or xs i 0 - 48)) (drop (i + 1) xs)
one_on v xs i h = at_drop_more (numeral v) xs i 0 h

none_left : (v : ℕ) (xs : List ℕ) (i : ℕ) → length xs ≤ i → numeral v (drop i xs) ≡ v
none_left v xs i h = at_drop_all (numeral v) xs i h

pub loop-d-preserved : goal.loop-d-preserved
loop-d-preserved c = search (rules, one_on)

pub returns-then-next-from : goal.returns-then-next-from
returns-then-next-from c = search (rules, one_on, never_falls)

pub returns : goal.returns
returns c = search (rules, none_left)
