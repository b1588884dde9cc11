use Rattle.std.proofs.Common.{sym, ap, subst, ◌∙◌}
use Rattle.std.specs.Prelude.{option_map}
use Rattle.pv_tree.specs.Parts.{site}
use Rattle.pv_tree.specs.View.{instr_tree, call_tree}
use Rattle.pv_names.specs.Callees.{how_tree}
use Rattle.pv_resolve.specs.Contexts.{block_in}
use Rattle.pv_resolve.proofs.ForCallers.{failed}
use Rattle.pv_laws_room.specs.Bodies.{FitsCallOption}
use Rattle.pv_program.specs.Led.{RunsLed}
use Rattle.pv_program.specs.Ready.{is_nesting}
use Rattle.pv_program.proofs.Actions.{made-alone, made-call}
use Rattle.pv_program.proofs.Leading.{led_same}
use Rattle.pv_program.proofs.action.action_of.Goals as goal

pub returns-in_ok-made-in-Some : goal.returns-in_ok-made-in-Some
returns-in_ok-made-in-Some c = record {
  grows = c.in_ok-made-in-Some.ensures.grows;
  made = λ source all is finds short.
      made-call (instr_tree c.args.instr.now) (call_tree c.in-Some.call.now) (how_tree c.how_of.result) (sym c.call.ensures ∙ ap (option_map (λ x. call_tree x.now)) c.in-Some.is)
      c.how_of.ensures (c.in_ok-made-in-Some.ensures.means source is);
  suits = λ called. ap is_nesting (called (call_tree c.in-Some.call.now) (sym c.call.ensures ∙ ap (option_map (λ x. call_tree x.now)) c.in-Some.is));
  room = λ source is h ready. tt;
  led = λ source is ready before.
      c.in_ok-made-in-Some.ensures.led source is
      (subst (λ x. RunsLed source (block_in c.args.context.now) (site x (call_tree c.in-Some.call.now))) (sym c.how_of.ensures)
      (ready.called (call_tree c.in-Some.call.now) (sym c.call.ensures ∙ ap (option_map (λ x. call_tree x.now)) c.in-Some.is)).1)
      before;
}

pub returns-in_ok-action-in-None : goal.returns-in_ok-action-in-None
returns-in_ok-action-in-None c = record {
  grows = c.in_ok-action-in-None.ensures.grows;
  made = λ source all is finds short.
      made-alone (sym c.call.ensures ∙ ap (option_map (λ x. call_tree x.now)) c.in-None.is) (c.in_ok-action-in-None.ensures.is source is)
      (c.in_ok-action-in-None.ensures.leads all finds short);
  suits = λ called. c.in_ok-action-in-None.ensures.suits;
  room = λ source is h ready. tt;
  led = λ source is ready before. led_same c.in_ok-action-in-None.ensures.calls before;
}

pub returns-in_err-made-in-Some-clause-room : goal.returns-in_err-made-in-Some-clause-room
returns-in_err-made-in-Some-clause-room c = λ source is h ready.
    failed _ _ c.from_residual.ensures.1 (c.in_err-made-in-Some.ensures.room source is h
    (subst FitsCallOption (sym c.call.ensures ∙ ap (option_map (λ x. call_tree x.now)) c.in-Some.is) ready.fits.call)
    (subst (λ x. RunsLed source (block_in c.args.context.now) (site x (call_tree c.in-Some.call.now))) (sym c.how_of.ensures)
    (ready.called (call_tree c.in-Some.call.now) (sym c.call.ensures ∙ ap (option_map (λ x. call_tree x.now)) c.in-Some.is)).1))

pub returns-in_err-action-in-None-clause-room : goal.returns-in_err-action-in-None-clause-room
returns-in_err-action-in-None-clause-room c = λ source is h ready.
    failed _ _ c.from_residual-in_err-action-in-None.ensures.1
    (c.in_err-action-in-None.ensures.room source is h.own ready (sym c.call.ensures ∙ ap (option_map (λ x. call_tree x.now)) c.in-None.is))
