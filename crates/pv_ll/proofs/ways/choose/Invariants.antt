use Rattle.std.proofs.Common.{◌≡◌, ℕ, ◌<◌}
use Rattle.std.specs.Int.{bit_at}
use Rattle.pv_ll.specs.declared.table.Alternative.{Alternative}
use Rattle.pv_ll.specs.Facts.{Selects}
use Rattle.pv_ll.proofs.ways.choose.Given as goal

-- the alternatives before k don't take the token
abbrev pub invariant-loop-k : goal.invariant-loop-k
invariant-loop-k l = (j : ℕ) (a : Alternative) → Selects l.language j a → a.name ≡ l.name → bit_at a.when l.token ≡ 1 → j < l.k → ⊥
