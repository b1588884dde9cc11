use Rattle.std.proofs.Common.{◌≡◌, take}
use Rattle.std.specs.List.{count_by}
use Rattle.std.specs.Option.{is_some}
use Rattle.pv_frames.specs.Queries.{first_of}
use Rattle.pv_frames.proofs.query.constants.Given as goal

abbrev pub invariant-loop-s : goal.invariant-loop-s
invariant-loop-s l = l.count ≡ count_by (λ s. is_some (first_of l.query s)) (take l.s-index l.start)
