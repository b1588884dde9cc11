use Rattle.std.proofs.Common.{◌≡◌, ℕ, ◌+◌, ◌<◌, length, take, get_or, None}
use Rattle.pv_frames.specs.Queries.{given_for}
use Rattle.pv_frames.proofs.table.place.Given as goal

-- the literals of the first k nodes stand at their places
abbrev pub invariant-loop-k : goal.invariant-loop-k
invariant-loop-k l = record {
  placed : (i : ℕ) → i < length l.begins → get_or l.begins i None ≡ given_for None (take l.k l.nodes) (take l.k l.given) (2 + i);
  long : length l.begins ≡ length l.fn.begins;
}
