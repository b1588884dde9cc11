use Rattle.std.proofs.Common.{ap, ◌∙◌}
use Rattle.pv_flow.specs.AutomatonView.{code_of}
use Rattle.pv_flow.specs.View.{parts_of}
use Rattle.pv_unroll.proofs.Conditions.{memory_alone}
use Rattle.pv_unroll.proofs.unrolling.made.Goals as goal

pub wanting-requires : goal.wanting-requires
wanting-requires c = memory_alone (parts_of c.args.parts) c.in-Err.fault c.requires.faultless c.in-Err.ensures.fault

pub returns-in-Ok-clause-code : goal.returns-in-Ok-clause-code
returns-in-Ok-clause-code c = ap code_of c.acyclic.ensures.automaton ∙ c.in-Ok.ensures.parts
