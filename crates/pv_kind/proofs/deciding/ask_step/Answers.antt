use Rattle.std.proofs.Common.{arith}
use Rattle.pv_cert.specs.declared.proof.Query.TheVariants.{Step}
use Rattle.pv_kind.proofs.Replied.{step_is_met, step_is_refuted, lemmas_are_spent, words_are_spent}
use Rattle.pv_kind.proofs.deciding.ask_step.Goals as goal

pub returns-in-Met-clause-after : goal.returns-in-Met-clause-after
returns-in-Met-clause-after g c = λ first turn.
    step_is_met _ _ first _ _ _ _ _ c.args.k c.in-Met.trace _ c.in-Met.is (g.met.O.Oracle.sound c.args.oracle.now).shown turn
    c.in_ok-trace.ensures.refined c.in_ok-trace.ensures.replies

pub returns-in-Refuted-clause-after : goal.returns-in-Refuted-clause-after
returns-in-Refuted-clause-after g c = λ first turn.
    step_is_refuted _ _ first _ _ _ _ _ c.args.k _ c.in-Refuted.is (let less = c.requires.within in omega arith) turn c.in_ok-trace.ensures.refined c.in_ok-trace.ensures.replies

pub returns-in-SpentLemmas-clause-after : goal.returns-in-SpentLemmas-clause-after
returns-in-SpentLemmas-clause-after g c = λ first turn.
    lemmas_are_spent _ _ first _ _ _ _ _ (Step c.args.k) _ c.in-SpentLemmas.is (let less = c.requires.within in omega arith) turn c.in_ok-trace.ensures.refined c.in_ok-trace.ensures.replies

pub returns-in-SpentRegion-clause-after : goal.returns-in-SpentRegion-clause-after
returns-in-SpentRegion-clause-after g c = λ first turn.
    words_are_spent _ _ first _ _ _ _ _ (Step c.args.k) c.in-SpentRegion.need c.in-SpentRegion.next _ c.in-SpentRegion.is (let less = c.requires.within in omega arith) turn
    c.in_ok-trace.ensures.refined c.in_ok-trace.ensures.replies
