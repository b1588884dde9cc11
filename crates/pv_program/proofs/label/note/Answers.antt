use Rattle.std.proofs.Common.{sym}
use Rattle.std.proofs.lemmas.Result.{on_ok_weaker}
use Rattle.pv_tree.specs.View.{instr_tree}
use Rattle.pv_program.specs.Labels.{label_tree}
use Rattle.pv_program.proofs.Labelled.{label-noted, no-jump-noted}
use Rattle.pv_program.proofs.label.note.Goals as goal

pub returns-in-Some : goal.returns-in-Some
returns-in-Some c = λ all at h.
    on_ok_weaker c.push.result
    (λ step. label-noted c.args.last.now c.push.new.self all c.args.k (instr_tree c.args.instr.now) (label_tree c.in-Some.label) at
    (sym c.in-Some.ensures) step h)
    c.push.ensures

pub returns-in-None : goal.returns-in-None
returns-in-None c = λ all at h. no-jump-noted c.args.last.now all c.args.k (instr_tree c.args.instr.now) at (sym c.in-None.ensures) h
