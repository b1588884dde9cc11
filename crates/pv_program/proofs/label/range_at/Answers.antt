use Rattle.std.proofs.Common.{sym, ap, ◌∙◌, true, false}
use Rattle.std.specs.Prelude.{option_map}
use Rattle.pv_tree.specs.View.{instr_tree}
use Rattle.pv_program.proofs.Labelled.{range-here, no-range}
use Rattle.pv_program.proofs.label.range_at.Goals as goal

pub returns-then-begins_range : goal.returns-then-begins_range
returns-then-begins_range c = λ all at h.
    range-here c.args.labels.now.last all c.args.k (instr_tree c.args.instr.now) c.in-Some.label.now true at (sym c.label.ensures ∙ ap (option_map (λ l. l.now)) c.in-Some.is)
    (sym c.if-begins_range.true ∙ c.begins_range.ensures) h

pub returns-else-begins_range : goal.returns-else-begins_range
returns-else-begins_range c = λ all at h.
    range-here c.args.labels.now.last all c.args.k (instr_tree c.args.instr.now) c.in-Some.label.now false at (sym c.label.ensures ∙ ap (option_map (λ l. l.now)) c.in-Some.is)
    (sym c.if-begins_range.false ∙ c.begins_range.ensures) h

pub returns-in-None : goal.returns-in-None
returns-in-None c = λ all at h. no-range all c.args.k (instr_tree c.args.instr.now) at (sym c.label.ensures ∙ ap (option_map (λ l. l.now)) c.in-None.is)
