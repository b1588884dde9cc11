use Rattle.std.proofs.Common.{refl, sym}
use Rattle.pv_tree.specs.InstructionGroups.{group_of}
use Rattle.pv_tree.specs.View.{instr_tree}
use Rattle.pv_resolve.specs.Contexts.{block_in}
use Rattle.pv_resolve.proofs.ForCallers.{failed}
use Rattle.pv_program.proofs.Growing.{extends-same}
use Rattle.pv_program.proofs.Words.{jumps_so}
use Rattle.pv_program.proofs.action.action_alone.Goals as goal

pub returns-in-Some : goal.returns-in-Some
returns-in-Some c = record {
  grows = extends-same c.args.program.now;
  is = λ source is. c.in_ok-jumping.ensures.is source (block_in c.args.context.now) _ _ c.in-Some.ensures.row;
  leads = c.in_ok-jumping.ensures.leads;
  suits = c.in_ok-jumping.ensures.suits (jumps_so (group_of c.args.instr.now.op) (sym c.in-Some.ensures.each));
  calls = refl;
  room = λ source is h ready none. tt;
}

pub returns-in-Some-end : goal.returns-in-Some-end
returns-in-Some-end c = record {
  grows = extends-same c.args.program.now;
  is = λ source is. c.in-Some-end.ensures.row source (block_in c.args.context.now) _ _ (instr_tree c.args.instr.now) refl;
  leads = λ all finds short. c.in-Some-end.ensures.leads all c.args.k (instr_tree c.args.instr.now);
  suits = c.in-Some-end.ensures.suits;
  calls = refl;
  room = λ source is h ready none. tt;
}

pub returns : goal.returns
returns c = record {
  grows = c.in_ok-action.ensures.grows;
  is = c.in_ok-action.ensures.is;
  leads = λ all finds short. c.in_ok-action.ensures.leads all c.args.k (instr_tree c.args.instr.now);
  suits = c.in_ok-action.ensures.suits;
  calls = c.in_ok-action.ensures.calls;
  room = λ source is h ready none. tt;
}

pub returns-in_err-jumping-clause-room : goal.returns-in_err-jumping-clause-room
returns-in_err-jumping-clause-room c = λ source is h ready none.
    failed _ _ c.from_residual.ensures.1 (c.in_err-jumping.ensures.room (ready.label (sym c.in-Some.ensures.each)))

pub returns-in_err-action-clause-room : goal.returns-in_err-action-clause-room
returns-in_err-action-clause-room c = λ source is h ready none.
    failed _ _ c.from_residual-in_err-action.ensures.1
    (c.in_err-action.ensures.room source is h ready none (sym c.in_default.ensures.each) (sym c.in_default-end.ensures.each))
