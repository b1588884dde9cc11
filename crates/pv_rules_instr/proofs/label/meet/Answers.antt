use Rattle.std.proofs.Common.{sym, ap, ◌∙◌}
use Rattle.std.specs.Prelude.{option_map}
use Rattle.pv_tree.specs.View.{instr_tree}
use Rattle.pv_rules_instr.proofs.Meetings.{met_none, met_some, near_some}
use Rattle.pv_rules_instr.proofs.label.meet.Goals as goal

pub returns-in_ok-push-in-Some-clause-near : goal.returns-in_ok-push-in-Some-clause-near
returns-in_ok-push-in-Some-clause-near c = λ before h.
    near_some c.args.table.now before (instr_tree c.args.instr.now) c.in-Some.label.now c.args.nearest c.where_is-found.result
    c.nearer_of.result c.find.result c.is_some.result (sym c.label.ensures ∙ ap (option_map (λ l. l.now)) c.in-Some.is) c.find.ensures c.is_some.ensures c.where_is-found.ensures c.nearer_of.ensures h

pub returns-in_ok-push-in-Some-clause-met : goal.returns-in_ok-push-in-Some-clause-met
returns-in_ok-push-in-Some-clause-met c = λ before h long.
    met_some c.args.table.now c.push.new.self before (instr_tree c.args.instr.now) c.in-Some.label.now c.args.number (sym c.label.ensures ∙ ap (option_map (λ l. l.now)) c.in-Some.is) long
    c.in_ok-push-in-Some.ensures h

pub returns-in-None-clause-met : goal.returns-in-None-clause-met
returns-in-None-clause-met c = λ before h long. met_none c.args.table.now before (instr_tree c.args.instr.now) (sym c.label.ensures ∙ ap (option_map (λ l. l.now)) c.in-None.is) h
