use Rattle.pv_flow.specs.View.{parts_of}
use Rattle.pv_inline.proofs.Whole.{memory_alone}
use Rattle.pv_inline.proofs.inlining.built.Goals as goal

pub wanting-requires : goal.wanting-requires
wanting-requires c = memory_alone (parts_of c.args.parts) c.in-Err.fault c.requires.parts.faultless c.in-Err.ensures.fault
