use Rattle.pv_cert.specs.declared.proof.Query.TheVariants.{Base}
use Rattle.pv_kind.proofs.Replied.{base_is_refuted, is_met, lemmas_are_spent, words_are_spent}
use Rattle.pv_kind.proofs.deciding.ask_base.Goals as goal

pub returns-in-Met-clause-after : goal.returns-in-Met-clause-after
returns-in-Met-clause-after g c = λ first turn.
    is_met _ _ first _ _ _ _ _ (Base c.args.n) c.in-Met.trace _ c.in-Met.is (c.requires.from_one, c.requires.within) turn
    c.in_ok-trace.ensures.refined c.in_ok-trace.ensures.replies

pub returns-in-Refuted-clause-after : goal.returns-in-Refuted-clause-after
returns-in-Refuted-clause-after g c = λ first turn.
    base_is_refuted _ _ first _ _ _ _ _ c.args.n _ c.in-Refuted.is c.requires.from_one turn c.in_ok-trace.ensures.refined c.in_ok-trace.ensures.replies

pub returns-in-SpentLemmas-clause-after : goal.returns-in-SpentLemmas-clause-after
returns-in-SpentLemmas-clause-after g c = λ first turn.
    lemmas_are_spent _ _ first _ _ _ _ _ (Base c.args.n) _ c.in-SpentLemmas.is (c.requires.from_one, c.requires.within) turn c.in_ok-trace.ensures.refined c.in_ok-trace.ensures.replies

pub returns-in-SpentRegion-clause-after : goal.returns-in-SpentRegion-clause-after
returns-in-SpentRegion-clause-after g c = λ first turn.
    words_are_spent _ _ first _ _ _ _ _ (Base c.args.n) c.in-SpentRegion.need c.in-SpentRegion.next _ c.in-SpentRegion.is (c.requires.from_one, c.requires.within) turn
    c.in_ok-trace.ensures.refined c.in_ok-trace.ensures.replies
