use Rattle.std.proofs.Common.{rules, arith, ap, ◌∙◌, Vec, Global, ℤ}
use Rattle.pv_bool.specs.Roles.{is_kept}
use Rattle.pv_step.proofs.Beginning.{pushed}
use Rattle.pv_step.proofs.Picks.{picked_on, passed_over}
use Rattle.pv_step.proofs.step.kept.Goals.{else-is_kept-via-then-is_kept+else-is_err, else-is_kept-via-else-is_kept}
use Rattle.pv_step.proofs.step.kept.Goals as goal

pub loop-number-preserved : goal.loop-number-preserved
loop-number-preserved c =
    elim c.else-is_kept.branch [
      | else-is_kept-via-then-is_kept+else-is_err w ↦
          picked_on is_kept c.args.bits.now c.args.literals.now c.loop-number.number _
          (omega arith) c.requires c.loop-number.found.items c.else-is_kept.found.items c.is_kept.result
          c.is_kept.ensures w.if-is_kept.true c.loop-number.invariant
          (ap (λ (v : Vec ℤ Global). v.items) w.found-is ∙ pushed c.loop-number.found.items w.push.new.self.items _ _ _
          w.push.ensures.items w.is_err.ensures.negation w.if-is_err.false (search rules))
      | else-is_kept-via-else-is_kept w ↦
          passed_over is_kept c.args.bits.now c.args.literals.now c.loop-number.number _
          (omega arith) c.requires c.loop-number.found.items c.else-is_kept.found.items c.is_kept.result
          c.is_kept.ensures w.if-is_kept.false c.loop-number.invariant (ap (λ (v : Vec ℤ Global). v.items) w.found-is)
    ]
