use Rattle.std.proofs.Common.{refl, sym, ap, subst, ◌∙◌}
use Rattle.std.specs.Prelude.{IfSome, is_some}
use Rattle.std.proofs.lemmas.Bool.{false≢true}
use Rattle.pv_tree.specs.InstructionGroups.{group_of}
use Rattle.pv_tree.specs.View.{instr_tree}
use Rattle.pv_resolve.specs.Contexts.{block_in}
use Rattle.pv_resolve.proofs.ForCallers.{failed}
use Rattle.pv_stl_run.specs.Code.{changes}
use Rattle.pv_program.specs.Ready.{ChangeSuits}
use Rattle.pv_program.specs.Rows.{ChangesBy}
use Rattle.pv_program.proofs.Growing.{extends-same}
use Rattle.pv_program.proofs.Readying.{variable_fits}
use Rattle.pv_program.proofs.action.other_action.Goals as goal

pub returns-in-Some : goal.returns-in-Some
returns-in-Some c = record {
  grows = extends-same c.args.program.now;
  is = λ source is. changes (subst (λ o. IfSome o (λ x. ChangesBy (instr_tree c.args.instr.now) x)) c.in-Some.is c.in_ok-made.ensures.by
      source (block_in c.args.context.now));
  leads = λ all k i. tt;
  suits = subst (λ o. IfSome o (λ x. ChangeSuits x (group_of c.args.instr.now.op))) c.in-Some.is c.in_ok-made.ensures.suits;
  calls = refl;
  room = λ source is h ready none jumps ends. tt;
}

pub returns-in_ok-action-in-None : goal.returns-in_ok-action-in-None
returns-in_ok-action-in-None c = record {
  grows = c.in_ok-action-in-None.ensures.grows;
  is = c.in_ok-action-in-None.ensures.is;
  leads = c.in_ok-action-in-None.ensures.leads;
  suits = c.in_ok-action-in-None.ensures.suits;
  calls = c.in_ok-action-in-None.ensures.calls;
  room = λ source is h ready none jumps ends. tt;
}

pub returns-in_err-made-clause-room : goal.returns-in_err-made-clause-room
returns-in_err-made-clause-room c = λ source is h ready none jumps ends.
    absurd (false≢true (c.in_err-made.ensures.fits ready.fits.literal ready.count))

pub returns-in_err-action-in-None-clause-room : goal.returns-in_err-action-in-None-clause-room
returns-in_err-action-in-None-clause-room c = λ source is h ready none jumps ends.
    let w = ready.works none jumps ends (sym c.in_ok-made.ensures.each ∙ ap is_some c.in-None.is) in
    failed _ _ c.from_residual-in_err-action-in-None.ensures.1 (c.in_err-action-in-None.ensures.room source w.0 is h w.1
    (variable_fits (instr_tree c.args.instr.now) w.0 jumps w.1 ready.fits.variable) w.2)
