use Rattle.std.proofs.Common.{arith}
use Rattle.pv_cert.specs.declared.proof.Query.TheVariants.{Step}
use Rattle.pv_kind.proofs.Replied.{step_is_refuted, is_met, lemmas_are_spent, words_are_spent}
use Rattle.pv_kind.proofs.deciding.ask_last.Goals as goal

pub returns-in-Met-clause-decides : goal.returns-in-Met-clause-decides
returns-in-Met-clause-decides g c = λ first turn.
    is_met _ _ first _ _ _ _ _ (Step c.args.limits.depth) c.in-Met.trace _ c.in-Met.is (omega arith) turn
    c.in_ok-trace.ensures.refined c.in_ok-trace.ensures.replies

pub returns-in-Refuted-clause-decides : goal.returns-in-Refuted-clause-decides
returns-in-Refuted-clause-decides g c = λ first turn.
    step_is_refuted _ _ first _ _ _ _ _ c.args.limits.depth _ c.in-Refuted.is (omega arith) turn c.in_ok-trace.ensures.refined c.in_ok-trace.ensures.replies

pub returns-in-SpentLemmas-clause-decides : goal.returns-in-SpentLemmas-clause-decides
returns-in-SpentLemmas-clause-decides g c = λ first turn.
    lemmas_are_spent _ _ first _ _ _ _ _ (Step c.args.limits.depth) _ c.in-SpentLemmas.is (omega arith) turn c.in_ok-trace.ensures.refined c.in_ok-trace.ensures.replies

pub returns-in-SpentRegion-clause-decides : goal.returns-in-SpentRegion-clause-decides
returns-in-SpentRegion-clause-decides g c = λ first turn.
    words_are_spent _ _ first _ _ _ _ _ (Step c.args.limits.depth) c.in-SpentRegion.need c.in-SpentRegion.next _ c.in-SpentRegion.is (omega arith) turn
    c.in_ok-trace.ensures.refined c.in_ok-trace.ensures.replies
