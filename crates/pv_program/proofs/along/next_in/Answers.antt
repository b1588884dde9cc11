use Rattle.std.proofs.Common.{arith, refl, take}
use Rattle.pv_types.specs.View.{var_tree}
use Rattle.pv_tree.specs.View.{call_tree}
use Rattle.pv_tree.specs.Parts.{site}
use Rattle.pv_names.specs.Callees.{how_tree}
use Rattle.pv_resolve.specs.Contexts.{block_in}
use Rattle.pv_resolve.proofs.ForCallers.{failed}
use Rattle.pv_program.specs.Handed.{goes_in, handed_of, AreGiven}
use Rattle.pv_program.proofs.Parameters.{var_among}
use Rattle.pv_program.proofs.Passing.{given-over}
use Rattle.pv_program.proofs.Seeking.{var-at}
use Rattle.pv_program.proofs.Skipping.{one-handed, skip-between}
use Rattle.pv_program.proofs.along.next_in.Goals as goal

pub returns-clause-given : goal.returns-clause-given
returns-clause-given c = λ source numbers is inner all rise before.
    let at = site (how_tree c.args.how) (call_tree c.args.call.now) in
    let block = block_in c.args.context.now in
    let callee = block_in c.args.inner.now in
    one-handed source callee goes_in (λ hs. AreGiven source block c.hand_in.new.program at callee c.hand_in.new.made.items hs)
    c.args.number _ (var_tree c.index-vars-number.result)
    (var-at callee.vars c.vars-vars.result.now c.args.number c.index-vars-number.result c.vars-vars.ensures (omega arith) c.index-vars-number.is) refl
    (c.in_ok-hand_in.ensures.given source (handed_of source callee goes_in (take c.args.number callee.vars)) is inner
    (skip-between source callee goes_in (λ hs. AreGiven source block c.args.program.now at callee c.args.made.now.items hs) at
    (λ h hs none are. given-over h none are) c.args.next c.args.number numbers all rise (omega arith) before))

pub returns-in_err-hand_in-clause-room : goal.returns-in_err-hand_in-clause-room
returns-in_err-hand_in-clause-room c = λ source is inner h k fits.
    failed _ _ c.from_residual.ensures.1 (c.in_err-hand_in.ensures.room source is inner h k fits
    (var_among (block_in c.args.inner.now) c.vars-vars.result.now c.args.number c.index-vars-number.result _ c.vars-vars.ensures
    (omega arith) c.index-vars-number.is))
