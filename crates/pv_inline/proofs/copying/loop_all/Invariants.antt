use Rattle.std.proofs.Common.{◌≡◌, drop}
use Rattle.pv_inline.specs.Seen.{copy_seen, making_seen}
use Rattle.pv_inline.specs.Walking.{all_looped}
use Rattle.pv_inline.proofs.copying.loop_all.Given as goal

abbrev pub invariant-loop-i : goal.invariant-loop-i
invariant-loop-i l = all_looped (copy_seen l.copy) (drop l.i-index l.numbers) (making_seen l.making)
    ≡ all_looped (copy_seen l.copy) l.numbers (making_seen l.fn.making)
