use Rattle.std.proofs.Common.{◌≡◌, ℕ, drop, map}
use Rattle.pv_parse.specs.LookUps.{look_up, entry_of}
use Rattle.pv_parse.proofs.look_up.meaning_of.Given as goal

abbrev pub invariant-loop-entry : goal.invariant-loop-entry
invariant-loop-entry l =
    (other : ℕ) → look_up (drop l.entry-index (map entry_of l.entries)) l.text other ≡ look_up (map entry_of l.entries) l.text other
