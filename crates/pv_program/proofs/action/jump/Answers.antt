use Rattle.pv_tree.specs.View.{instr_tree}
use Rattle.pv_program.proofs.Actions.{jumps-by}
use Rattle.std.proofs.Common.{◌∙◌}
use Rattle.std.proofs.lemmas.Option.{none-some}
use Rattle.pv_program.proofs.action.jump.Goals as goal

pub returns-in-Some-clause-is : goal.returns-in-Some-clause-is
returns-in-Some-clause-is c = λ source block targets room h.
    jumps-by source block targets room (instr_tree c.args.instr.now) c.args.test c.goal_of-goal.result h

pub returns-in-None-clause-room : goal.returns-in-None-clause-room
returns-in-None-clause-room c = λ l. absurd (none-some l.0 (c.in-None.ensures ∙ l.1))
