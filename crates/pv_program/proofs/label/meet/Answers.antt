use Rattle.std.proofs.Common.{sym, ap, ◌∙◌}
use Rattle.std.specs.Prelude.{option_map}
use Rattle.pv_tree.specs.View.{instr_tree}
use Rattle.pv_program.proofs.Labelled.{met-some, met-none, met-twice, unmet}
use Rattle.pv_program.proofs.label.meet.Goals as goal

pub returns-in_ok-push-in-Some-clause-finds : goal.returns-in_ok-push-in-Some-clause-finds
returns-in_ok-push-in-Some-clause-finds c = λ before long h.
    met-some c.args.at.now c.push.new.self before (instr_tree c.args.instr.now) c.in-Some.label.now c.args.k (sym c.label.ensures ∙ ap (option_map (λ l. l.now)) c.in-Some.is) long
    (unmet c.find.result _ c.is_some.result c.is_some.ensures c.if-is_some.false c.find.ensures) c.in_ok-push-in-Some.ensures h

pub returns-in-None-clause-finds : goal.returns-in-None-clause-finds
returns-in-None-clause-finds c = λ before long h. met-none c.args.at.now before (instr_tree c.args.instr.now) (sym c.label.ensures ∙ ap (option_map (λ l. l.now)) c.in-None.is) h

pub returns-then-is_some-clause-room : goal.returns-then-is_some-clause-room
returns-then-is_some-clause-room c = λ before h free.
    absurd (met-twice c.args.at.now before (instr_tree c.args.instr.now) c.in-Some.label.now c.find.result c.is_some.result
    (sym c.label.ensures ∙ ap (option_map (λ l. l.now)) c.in-Some.is) c.is_some.ensures c.if-is_some.true c.find.ensures h free)
