use Rattle.std.proofs.Common.{◌≡◌, ℕ, ◌+◌, ◌<◌, ◌≤◌, length, get_or, Option, Some, None}
use Rattle.pv_frames.specs.Queries.{own_below, numbered}
use Rattle.pv_frames.proofs.table.number.Given as goal

-- places before i have their literals, and the others are as they were
abbrev pub invariant-loop-i : goal.invariant-loop-i
invariant-loop-i l = record {
  done : (given : ℕ → Option ℕ) → ((m : ℕ) → m < length l.fn.begins → get_or l.fn.begins m None ≡ given (2 + m))
      → (m : ℕ) → m < l.i → get_or l.begins m None ≡ Some (numbered given l.first (2 + m));
  left : (m : ℕ) → l.i ≤ m → get_or l.begins m None ≡ get_or l.fn.begins m None;
  next : (given : ℕ → Option ℕ) → ((m : ℕ) → m < length l.fn.begins → get_or l.fn.begins m None ≡ given (2 + m))
      → l.next ≡ l.first + own_below given (2 + l.i);
  room : l.next ≤ l.first + l.i;
  long : length l.begins ≡ length l.fn.begins;
}
