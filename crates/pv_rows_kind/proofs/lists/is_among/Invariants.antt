use Rattle.std.proofs.Common.{◌≡◌, false, take}
use Rattle.pv_kind.specs.Refinements.{is_among}
use Rattle.pv_rows_kind.proofs.lists.is_among.Given as goal

abbrev pub invariant-loop-other : goal.invariant-loop-other
invariant-loop-other l = is_among (take l.other-index l.cells) l.cell ≡ false
