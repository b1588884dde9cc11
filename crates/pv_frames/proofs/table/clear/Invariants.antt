use Rattle.std.proofs.Common.{◌≡◌, ℕ, ◌<◌, length, get_or, None}
use Rattle.pv_frames.proofs.table.clear.Given as goal

abbrev pub invariant-loop-i : goal.invariant-loop-i
invariant-loop-i l = record {
  cleared : (m : ℕ) → m < l.i → get_or l.begins m None ≡ None;
  long : length l.begins ≡ length l.fn.begins;
}
