use Rattle.std.proofs.Common.{sym}
use Rattle.pv_tree.specs.View.{instr_tree, operand_tree}
use Rattle.pv_tree.specs.InstructionGroups.{group_of}
use Rattle.pv_resolve.proofs.ForCallers.{failed}
use Rattle.pv_program.proofs.Words.{joined_stays, taken_stays, edge_stays, moved_left}
use Rattle.pv_program.proofs.Actions.{taken-of, joins-by, writes-by, edges-by}
use Rattle.pv_program.proofs.action.on_operand.Goals as goal

pub returns-in-Some : goal.returns-in-Some
returns-in-Some c = record {
  grows = c.in_ok-n.ensures.grows;
  is = λ source is e.
      joins-by (instr_tree c.args.instr.now) (operand_tree c.args.operand.now) c.in-Some.junction c.in-Some.ensures.row e
      (taken-of (c.in_ok-n.ensures.means source is));
  leads = λ all k i. tt;
  suits = joined_stays (group_of c.args.instr.now.op) (sym c.in-Some.ensures.each);
  calls = c.in_ok-n.ensures.calls;
  room = λ source is h fits on. tt;
}

pub returns-in-Some-written : goal.returns-in-Some-written
returns-in-Some-written c = record {
  grows = c.in_ok-n.ensures.grows;
  is = λ source is e.
      writes-by (instr_tree c.args.instr.now) (operand_tree c.args.operand.now) c.in-Some-written.what c.in-Some-written.ensures.row e
      (taken-of (c.in_ok-n.ensures.means source is));
  leads = λ all k i. tt;
  suits = taken_stays c.args.instr.now.op (sym c.in-Some-written.ensures.each);
  calls = c.in_ok-n.ensures.calls;
  room = λ source is h fits on. tt;
}

pub returns-in-Some-edge : goal.returns-in-Some-edge
returns-in-Some-edge c = record {
  grows = c.in_ok-n.ensures.grows;
  is = λ source is e.
      edges-by (instr_tree c.args.instr.now) (operand_tree c.args.operand.now) c.in-Some-edge.rising c.in-Some-edge.ensures.row e
      (taken-of (c.in_ok-n.ensures.means source is));
  leads = λ all k i. tt;
  suits = edge_stays c.args.instr.now.op (sym c.in-Some-edge.ensures.each);
  calls = c.in_ok-n.ensures.calls;
  room = λ source is h fits on. tt;
}

pub returns : goal.returns
returns c = record {
  grows = c.in_ok-n.ensures.grows;
  is = λ source is e. c.in_ok-action.ensures.is source _ _ is e (taken-of (c.in_ok-n.ensures.means source is));
  leads = c.in_ok-action.ensures.leads;
  suits = c.in_ok-action.ensures.suits;
  calls = c.in_ok-n.ensures.calls;
  room = λ source is h fits on. tt;
}

pub returns-in_err-n-clause-room : goal.returns-in_err-n-clause-room
returns-in_err-n-clause-room c = λ source is h fits on. failed _ _ c.from_residual.ensures.1 (c.in_err-n.ensures.room source is h fits)

pub returns-in_err-action-clause-room : goal.returns-in_err-action-clause-room
returns-in_err-action-clause-room c = λ source is h fits on.
    failed _ _ c.from_residual-in_err-action.ensures.1 (c.in_err-action.ensures.room
    (moved_left (instr_tree c.args.instr.now) c.in_default.ensures.each c.in_default-written.ensures.each c.in_default-edge.ensures.each on))
