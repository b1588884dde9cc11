use Rattle.std.proofs.Common.{◌<◌, ap, sym, subst, ◌∙◌}
use Rattle.std.specs.Prelude.{IfSome}
use Rattle.pv_types.specs.Tree.{plain}
use Rattle.pv_mean.specs.Activations.{spot_of}
use Rattle.pv_resolve.specs.Begins.{begins_in, begins_behind, address_value}
use Rattle.pv_resolve.proofs.walk.cell_at.Goals as goal

pub returns-in-None-clause-value : goal.returns-in-None-clause-value
returns-in-None-clause-value c =
    λ begin values. c.cell.ensures.value begin values
    ∙ ap (λ x. spot_of (begins_behind x (address_value x values) (begins_in c.args.part begin (record { ty = plain c.args.ty; first = c.args.first }))))
    (sym c.in-None.is)

pub returns-in-Some-clause-value : goal.returns-in-Some-clause-value
returns-in-Some-clause-value c =
    λ begin values. c.cell_behind.ensures.value begin values
    ∙ ap (λ x. spot_of (begins_behind x (address_value x values) (begins_in c.args.part begin (record { ty = plain c.args.ty; first = c.args.first }))))
    (sym c.in-Some.is)

pub returns-in-None-clause-within : goal.returns-in-None-clause-within
returns-in-None-clause-within c =
    λ n h. c.cell.ensures.within n

pub returns-in-Some-clause-within : goal.returns-in-Some-clause-within
returns-in-Some-clause-within c =
    λ n h. c.cell_behind.ensures.within n (subst (λ x. IfSome x (λ a. a < n)) c.in-Some.is h)
