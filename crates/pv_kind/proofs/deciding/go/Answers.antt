use Rattle.std.proofs.Common.{◌+◌, ◌∙◌, subst, Option}
use Rattle.pv_machine.specs.Machines.{Machine}
use Rattle.pv_kind.specs.declared.decision.End.{End}
use Rattle.pv_kind.specs.Oracles.{Encoding}
use Rattle.pv_kind.specs.Asking.{AfterStep, AfterBase}
use Rattle.pv_kind.proofs.Going.{refined_from, refined_twice, base_next, step_next}
use Rattle.pv_kind.proofs.deciding.go.Goals as goal

pub returns-in_err-end-clause-refined : goal.returns-in_err-end-clause-refined
returns-in_err-end-clause-refined g c =
    refined_from g.O.Oracle.Fixed (λ x. g.O.Oracle.encoding x) _ _ c.loop-k.invariant.fixed _ _ _ c.loop-k.invariant.refined
    c.ask_step.ensures.refined

pub returns-in-Some-clause-refined : goal.returns-in-Some-clause-refined
returns-in-Some-clause-refined g c =
    refined_from g.O.Oracle.Fixed (λ x. g.O.Oracle.encoding x) _ _ c.loop-k.invariant.fixed _ _ _ c.loop-k.invariant.refined
    c.ask_step.ensures.refined

pub returns-in_err-end-2-clause-refined : goal.returns-in_err-end-2-clause-refined
returns-in_err-end-2-clause-refined g c =
    refined_twice g.O.Oracle.Fixed (λ x. g.O.Oracle.encoding x) _ _ _ c.loop-k.invariant.fixed c.ask_step.ensures.fixed_kept _ _ _ _
    c.loop-k.invariant.refined c.ask_step.ensures.refined c.ask_base.ensures.refined

pub returns-in-Some-2-clause-refined : goal.returns-in-Some-2-clause-refined
returns-in-Some-2-clause-refined g c =
    refined_twice g.O.Oracle.Fixed (λ x. g.O.Oracle.encoding x) _ _ _ c.loop-k.invariant.fixed c.ask_step.ensures.fixed_kept _ _ _ _
    c.loop-k.invariant.refined c.ask_step.ensures.refined c.ask_base.ensures.refined

pub returns-clause-refined : goal.returns-clause-refined
returns-clause-refined g c =
    refined_from g.O.Oracle.Fixed (λ x. g.O.Oracle.encoding x) _ _ c.loop-k.invariant.fixed _ _ _ c.loop-k.invariant.refined
    c.ask_last.ensures.refined

pub loop-k-preserved : goal.loop-k-preserved
loop-k-preserved g c =
    let f0 = g.O.Oracle.fixed c.args.oracle.now in
    let f1 = g.O.Oracle.fixed c.loop-k.oracle in
    let f2 = g.O.Oracle.fixed c.ask_step.new.oracle in
    let s0 = g.O.Oracle.stage c.args.oracle.now in
    let s1 = g.O.Oracle.stage c.loop-k.oracle in
    let s2 = g.O.Oracle.stage c.ask_step.new.oracle in
    let s3 = g.O.Oracle.stage c.ask_base.new.oracle in
    let mach : g.O.Oracle.Fixed → Machine = λ x. g.O.Source.Machine.machine (g.O.Oracle.source x) in
    let enc : g.O.Oracle.Fixed → Encoding = λ x. g.O.Oracle.encoding x in
    let limits = c.args.limits in
    let base = base_next g.O.Oracle.Fixed mach enc f0 f1 c.loop-k.invariant.fixed s0 s1 s2 limits c.loop-k.proofs c.ask_step.new.proofs c.loop-k.k c.loop-k.invariant.turn
    (λ turn. subst (λ (o : Option End). AfterStep (mach f1) (enc f1) s0 s2 limits c.loop-k.k c.ask_step.new.proofs o) c.in-None.is (c.in_ok-end.ensures.after s0 turn)) in
    record {
      fixed = c.ask_base.ensures.fixed_kept ∙ (c.ask_step.ensures.fixed_kept ∙ c.loop-k.invariant.fixed);
      refined = refined_twice g.O.Oracle.Fixed enc _ _ _ c.loop-k.invariant.fixed c.ask_step.ensures.fixed_kept _ _ _ _
          c.loop-k.invariant.refined c.ask_step.ensures.refined c.ask_base.ensures.refined;
      turn = step_next g.O.Oracle.Fixed mach enc f0 f2 (c.ask_step.ensures.fixed_kept ∙ c.loop-k.invariant.fixed) s0 s2 s3 limits c.ask_step.new.proofs c.ask_base.new.proofs (c.loop-k.k + 1) base
          (λ turn. subst (λ (o : Option End). AfterBase (mach f2) (enc f2) s0 s3 limits (c.loop-k.k + 1) c.ask_base.new.proofs o) c.in-None-2.is (c.in_ok-end-2.ensures.after s0 turn));
    }
