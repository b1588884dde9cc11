use Rattle.std.proofs.Common.{sym, subst, ◌∙◌}
use Rattle.std.proofs.lemmas.Result.{IfOk-weaker}
use Rattle.pv_resolve.specs.Contexts.{block_in}
use Rattle.pv_resolve.specs.Rooms.{BeginsRoomy}
use Rattle.pv_resolve.proofs.ForCallers.{root_roomy}
use Rattle.pv_variables.specs.Origins.{placed}
use Rattle.pv_variables.proofs.Roomy.{ok_and}
use Rattle.pv_variables.proofs.Placing.{names_are_placed}
use Rattle.pv_variables.proofs.Finding.{begins_told}
use Rattle.pv_variables.proofs.begun.placed.Goals as goal

pub returns-clause-value : goal.returns-clause-value
returns-clause-value c = λ source is.
    begins_told c.root.result (placed source (block_in c.args.context.now) c.args.root.now)
    (λ first. IfOk-weaker c.root.result _ _
    (λ b e. e ∙ sym (names_are_placed source (block_in c.args.context.now) first c.args.root.now))
    (c.root.ensures.value source first is))

pub returns-clause-room : goal.returns-clause-room
returns-clause-room c = λ source is h fits.
    ok_and c.root.result _ (c.root.ensures.room source is h fits)
    (IfOk-weaker c.root.result _ _
    (λ b e. subst (BeginsRoomy source.project 0) (sym e) (root_roomy source (block_in c.args.context.now) h c.args.root.now))
    (c.root.ensures.value source 0 is))
