use Rattle.std.proofs.Common.{refl, ap, ◌∙◌, List}
use Rattle.pv_bool.specs.declared.program.Bit.{Bit}
use Rattle.pv_step.specs.Circuits.{kept_literals, taken_literals}
use Rattle.pv_step.proofs.Growth.{passed, passed_complement}
use Rattle.pv_step.proofs.Outcome.{kept_parts}
use Rattle.pv_step.proofs.step.judged.Goals as goal

pub invariant_of-result : goal.invariant_of-result
invariant_of-result c = record {
  kept = ∣ kept_parts c.args.gates.nodes _ _ _ _ _ _ _ _ _ _ c.requires.circuit
      (c.in_ok-kept.ensures.literals ∙ ap (λ (bs : List Bit). kept_literals bs c.args.begin.now) c.deref.ensures.value)
      (c.in_ok-taken.ensures.literals ∙ ap (λ (bs : List Bit). taken_literals bs c.args.begin.now) c.deref-2.ensures.value)
      (c.in_ok-kept-2.ensures.literals ∙ ap (λ (bs : List Bit). kept_literals bs c.args.end.now) c.deref-3.ensures.value)
      (passed c.args.ok c.args.ok c.ranges.ok refl) (passed_complement c.complement-fail.result c.args.ok
      (record { sfits = c.complement-fail.type_inv }) c.ranges.ok c.complement-fail.ensures.complement) ∣₁;
}
