use Rattle.std.proofs.Common.{◌∙◌, rules}
use Rattle.std.specs.Prelude.{FitsSigned}
use Rattle.std.specs.Int.{w64}
use Rattle.std.proofs.lemmas.Int.{to_z-of_z}
use Rattle.std.proofs.lemmas.Result.{IfOk-weaker}
use Rattle.pv_resolve.specs.Contexts.{block_in}
use Rattle.pv_eval.specs.Means.{activation}
use Rattle.pv_resolve.specs.Begins.{begin_at}
use Rattle.pv_resolve.proofs.Naming.{constant_begins, variable_cells}
use Rattle.std.proofs.lemmas.Bool.{false≢true}
use Rattle.pv_resolve.proofs.context.Context.variable.Goals as goal

pub returns-in_ok-value-clause-value : goal.returns-in_ok-value-clause-value
returns-in_ok-value-clause-value c =
    let fits : FitsSigned w64 c.in_ok-value.value = search rules in
    λ source first is. constant_begins source (activation (block_in c.args.self.now) first) c.args.name.now.key c.args.var
    _ c.is_const.result c.is_const.ensures c.if-is_const.true (to_z-of_z w64 c.in_ok-value.value fits ∙ c.in_ok-value.ensures.value)

pub returns-else-is_const-clause-value : goal.returns-else-is_const-clause-value
returns-else-is_const-clause-value c =
    λ source first is. IfOk-weaker c.cells_of.result _ _ (λ b e.
    variable_cells source (activation (block_in c.args.self.now) first) c.args.name.now.key c.args.var (begin_at b first) c.is_const.result
    c.is_const.ensures c.if-is_const.false e)
    (c.cells_of.ensures.value source first is)

pub returns-in_err-value-clause-room : goal.returns-in_err-value-clause-room
returns-in_err-value-clause-room c =
    λ source is h fits. absurd (false≢true (c.in_err-value.ensures.fits fits))

pub returns-else-is_const-clause-room : goal.returns-else-is_const-clause-room
returns-else-is_const-clause-room c =
    λ source is h fits. c.cells_of.ensures.room source is h
