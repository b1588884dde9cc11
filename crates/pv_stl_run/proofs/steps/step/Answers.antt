use Rattle.pv_stl_run.specs.Views.{frame_in}
use Rattle.pv_stl_run.proofs.EffectLaws.{at_word_on, at_word_stop}
use Rattle.pv_stl_run.proofs.steps.step.Goals as goal

pub returns-in-Ok-clause-same : goal.returns-in-Ok-clause-same
returns-in-Ok-clause-same c = λ source block room i types fits p may does.
    at_word_on i c.in-Ok.next c.effect.new.r (frame_in c.effect.new.visible c.effect.new.own) _
    (c.in-Ok.ensures.same source block room i types fits p may does)

pub returns-in-Err-clause-same : goal.returns-in-Err-clause-same
returns-in-Err-clause-same c = λ source block room i types fits p may does.
    at_word_stop i c.in-Err.trap c.args.instr.now.place c.effect.new.r (frame_in c.effect.new.visible c.effect.new.own) _ p
    (c.in-Err.ensures.same source block room i types fits p may does)
