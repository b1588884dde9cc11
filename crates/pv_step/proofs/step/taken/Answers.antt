use Rattle.std.proofs.Common.{rules, arith, ap, ◌∙◌, Vec, Global, ℤ}
use Rattle.pv_bool.specs.Roles.{is_input}
use Rattle.pv_step.proofs.Beginning.{pushed}
use Rattle.pv_step.proofs.Picks.{picked_on, passed_over}
use Rattle.pv_step.proofs.step.taken.Goals.{else-is_input-via-then-is_input+else-is_err, else-is_input-via-else-is_input}
use Rattle.pv_step.proofs.step.taken.Goals as goal

pub loop-number-preserved : goal.loop-number-preserved
loop-number-preserved c =
    elim c.else-is_input.branch [
      | else-is_input-via-then-is_input+else-is_err w ↦
          picked_on is_input c.args.bits.now c.args.literals.now c.loop-number.number _
          (omega arith) c.requires c.loop-number.found.items c.else-is_input.found.items c.is_input.result
          c.is_input.ensures w.if-is_input.true c.loop-number.invariant
          (ap (λ (v : Vec ℤ Global). v.items) w.found-is ∙ pushed c.loop-number.found.items w.push.new.self.items _ _ _
          w.push.ensures.items w.is_err.ensures.negation w.if-is_err.false (search rules))
      | else-is_input-via-else-is_input w ↦
          passed_over is_input c.args.bits.now c.args.literals.now c.loop-number.number _
          (omega arith) c.requires c.loop-number.found.items c.else-is_input.found.items c.is_input.result
          c.is_input.ensures w.if-is_input.false c.loop-number.invariant (ap (λ (v : Vec ℤ Global). v.items) w.found-is)
    ]
