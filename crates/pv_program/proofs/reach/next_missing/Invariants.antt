use Rattle.pv_program.specs.Reached.{AreMade}
use Rattle.pv_program.proofs.reach.next_missing.Given as goal

abbrev pub invariant-loop-i : goal.invariant-loop-i
invariant-loop-i l = AreMade l.codes l.calls l.fn.from → AreMade l.codes l.calls l.i
