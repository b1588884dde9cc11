use Rattle.std.proofs.Common.{◌∙◌, sym, ap, subst}
use Rattle.std.proofs.lemmas.Result.{IfOk-weaker}
use Rattle.pv_tree.specs.Scopes.{first_var}
use Rattle.pv_mean.specs.Statements.{choice_value}
use Rattle.pv_eval.specs.Means.{activation}
use Rattle.pv_resolve.specs.Contexts.{block_in}
use Rattle.pv_resolve.proofs.ForCallers.{declared_fits}
use Rattle.pv_laws_room.specs.Bodies.{FitsChoice}
use Rattle.pv_program.proofs.Making.{constant-value, no-constant}
use Rattle.pv_program.proofs.choice.choice_value.Goals as goal

pub returns-in-Lit-clause-value : goal.returns-in-Lit-clause-value
returns-in-Lit-clause-value c = λ first.
    IfOk-weaker c.number_of.result _ _
    (λ v e. e ∙ ap (choice_value (activation (block_in c.args.context.now) first)) (sym c.in-Lit.is)) c.number_of.ensures.value

pub returns-in-Some-clause-value : goal.returns-in-Some-clause-value
returns-in-Some-clause-value c = λ first.
    IfOk-weaker c.start_of.result _ _
    (λ v e. e ∙ constant-value c.in-Some.var (first_var (block_in c.args.context.now).vars c.in-Const.name.key) c.in-Some.ensures
    ∙ ap (choice_value (activation (block_in c.args.context.now) first)) (sym c.in-Const.is))
    c.start_of.ensures.value

pub returns-in-None-clause-value : goal.returns-in-None-clause-value
returns-in-None-clause-value c = λ first.
    no-constant (first_var (block_in c.args.context.now).vars c.in-Const.name.key) c.in-None.ensures
    ∙ ap (choice_value (activation (block_in c.args.context.now) first)) (sym c.in-Const.is)

pub returns-in-Lit-clause-room : goal.returns-in-Lit-clause-room
returns-in-Lit-clause-room c = λ source h fits. c.number_of.ensures.fits (subst FitsChoice c.in-Lit.is fits)

pub returns-in-Some-clause-room : goal.returns-in-Some-clause-room
returns-in-Some-clause-room c = λ source h fits.
    c.start_of.ensures.fits
    (declared_fits source (block_in c.args.context.now) h c.in-Const.name.key c.in-Some.var c.in-Some.ensures)
