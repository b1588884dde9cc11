use Rattle.std.proofs.Common.{◌≡◌, map, take}
use Rattle.pv_frames.specs.Queries.{first_of}
use Rattle.pv_frames.proofs.query.first_given.Given as goal

abbrev pub invariant-loop-s : goal.invariant-loop-s
invariant-loop-s l = l.given.items ≡ map (first_of l.query) (take l.s-index l.start)
