use Rattle.std.proofs.Common.{ℕ, List, subst, arith}
use Rattle.pv_log.specs.Assignment.{Agree}
use Rattle.pv_log.proofs.AssignmentLaws.{Agree-unset}
use Rattle.pv_log.proofs.assignment.Assignment.clear.Goals as goal

pub loop-lit-preserved : goal.loop-lit-preserved
loop-lit-preserved c =
    let a = subst (λ (t : List ℕ). Agree c.loop-lit.self-inside.variables c.loop-lit.self-inside.marks.items t) c.in-Some.ensures.items c.loop-lit.invariant.agree in
    record {
      agree = Agree-unset c.loop-lit.self-inside.variables c.loop-lit.self-inside.marks.items c.pop.new.self.items c.in-Some.lit a;
      room = omega (arith, c.in-Some.ensures.capacity);
      same = c.loop-lit.invariant.same;
    }
