use Rattle.std.proofs.Common.{◌≡◌, drop}
use Rattle.pv_inline.specs.Seen.{copy_seen, making_seen}
use Rattle.pv_inline.specs.Walking.{all_drawn}
use Rattle.pv_inline.proofs.copying.draw_all.Given as goal

abbrev pub invariant-loop-e : goal.invariant-loop-e
invariant-loop-e l = all_drawn (copy_seen l.copy) (drop l.e-index l.numbers) (making_seen l.making)
    ≡ all_drawn (copy_seen l.copy) l.numbers (making_seen l.fn.making)
