use Rattle.std.proofs.Common.{◌+◌, refl, sym, subst, arith}
use Rattle.std.proofs.lemmas.Bool.{false≢true}
use Rattle.pv_tree.specs.View.{instr_tree}
use Rattle.pv_program.proofs.Instructing.{longer-by-one, nested-more, made-more}
use Rattle.pv_tree.specs.InstructionGroups.{group_of}
use Rattle.pv_resolve.proofs.ForCallers.{failed}
use Rattle.pv_program.specs.Ready.{MayStand}
use Rattle.pv_program.proofs.Nestings.{may_do, opens_as}
use Rattle.pv_program.proofs.instr.add_instr.Goals as goal

pub returns : goal.returns
returns c = record {
  grows = c.in_ok-action.ensures.grows;
  more = longer-by-one c.args.made.now.items c.push.new.self.items _ c.in_ok-push.ensures.items;
  nested = λ same. nested-more c.args.made.now.items c.push.new.self.items _ c.args.depth c.in_ok-behind.behind c.in_ok-push.ensures.items
      c.in_ok-behind.ensures.opened same;
  are = λ source all is finds jumps short here count same before.
      made-more all c.args.made.now.items c.push.new.self.items c.args.k c.args.depth _ (instr_tree c.args.instr.now) c.in_ok-action.ensures.grows
      c.in_ok-push.ensures.items count here (c.in_ok-action.ensures.made source all is finds short) refl (c.range_at-range.ensures all here jumps)
      c.in_ok-behind.ensures.may c.in_ok-behind.ensures.outside same before;
  depth = λ source all ready here same.
      opens_as c.in_ok-action.action all c.args.k c.args.depth c.in_ok-behind.behind (c.args.k + 1) (instr_tree c.args.instr.now) here
      (c.in_ok-action.ensures.suits (λ call e. ((ready.each c.args.k (instr_tree c.args.instr.now) here).called call e).0))
      c.in_ok-behind.ensures.opened (omega arith) same;
  room = λ source all is h ready here same. tt;
  led = λ source all is ready here before.
      c.in_ok-action.ensures.led source is (ready.each c.args.k (instr_tree c.args.instr.now) here) before;
}

pub returns-in_err-action-clause-room : goal.returns-in_err-action-clause-room
returns-in_err-action-clause-room c = λ source all is h ready here same.
    failed _ _ c.from_residual.ensures.1
    (c.in_err-action.ensures.room source is h (ready.each c.args.k (instr_tree c.args.instr.now) here))

pub returns-in_err-behind-clause-room : goal.returns-in_err-behind-clause-room
returns-in_err-behind-clause-room c = λ source all is h ready here same.
    let i = instr_tree c.args.instr.now in
    let w = may_do c.in_ok-action.action (group_of i.op) c.args.depth
    (c.in_ok-action.ensures.suits (λ call e. ((ready.each c.args.k i here).called call e).0))
    (subst (MayStand (group_of i.op)) (sym same) (ready.nests c.args.k i here)) in
    absurd (false≢true (c.in_err-behind.ensures.fits w.0 w.1))
