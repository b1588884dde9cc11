use Rattle.pv_inline.specs.Blocks.{codes_in}
use Rattle.pv_inline.proofs.Whole.{copied_is, sound_copy, not_there}
use Rattle.pv_inline.proofs.inlining.copied_within.Goals as goal

pub returns-in-Ok-clause-copies : goal.returns-in-Ok-clause-copies
returns-in-Ok-clause-copies c =
    copied_is (codes_in c.args.blocks.now) c.args.entry c.in-Some.parts.now _ c.in-Some.ensures c.in-Ok.ensures.made

pub returns-in-Ok-clause-sound : goal.returns-in-Ok-clause-sound
returns-in-Ok-clause-sound c =
    sound_copy (codes_in c.args.blocks.now) c.args.entry c.in-Some.parts.now _ c.in-Some.ensures c.in-Ok.ensures.made

pub returns-in-None-clause-copies : goal.returns-in-None-clause-copies
returns-in-None-clause-copies c can = absurd (not_there (codes_in c.args.blocks.now) c.args.entry c.in-None.ensures can)

pub returns-in-None-clause-sound : goal.returns-in-None-clause-sound
returns-in-None-clause-sound c can = absurd (not_there (codes_in c.args.blocks.now) c.args.entry c.in-None.ensures can)
