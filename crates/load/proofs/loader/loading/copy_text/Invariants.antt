use Rattle.std.proofs.Common.{◌≡◌, ◌≤◌, take, vec_items, vec_len, vec_capacity}
use Rattle.load.proofs.loader.loading.copy_text.Given as goal

-- the bytes before this one are there
abbrev pub invariant-loop-b : goal.invariant-loop-b
invariant-loop-b l = (vec_items l.to ≡ take l.b-index l.text) × (vec_len l.to ≡ l.b-index) × (65536 ≤ vec_capacity l.to)
