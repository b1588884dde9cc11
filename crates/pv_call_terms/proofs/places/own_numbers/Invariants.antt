use Rattle.std.proofs.Common.{◌≡◌, ℕ, ◌<◌, length}
use Rattle.std.specs.Prelude.{slice_index_or}
use Rattle.pv_call_terms.proofs.places.own_numbers.Given as goal

abbrev pub invariant-loop-x : goal.invariant-loop-x
invariant-loop-x l = record {
  long : length l.made.items ≡ l.x;
  each : (y : ℕ) → y < l.x → slice_index_or l.made.items y 0 ≡ y;
}
