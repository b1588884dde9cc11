use Rattle.std.proofs.Common.{ap, ◌∙◌, arith}
use Rattle.pv_types.specs.View.{type_tree}
use Rattle.pv_mean.specs.Layout.{size_in}
use Rattle.pv_mean.specs.Counts.{capped}
use Rattle.pv_resolve.proofs.ForCallers.{exact_number, stride_beyond}
use Rattle.pv_variables.proofs.count.size_of.Goals as goal

pub returns-clause-value : goal.returns-clause-value
returns-clause-value c = λ source is.
    exact_number c.of_type-size.result (size_in source.project (type_tree c.args.ty.now))
    (c.of_type-size.ensures ∙ ap (λ p. capped (size_in p (type_tree c.args.ty.now))) is.sizes) (omega arith)

pub returns-then-size-ge-BEYOND-clause-room : goal.returns-then-size-ge-BEYOND-clause-room
returns-then-size-ge-BEYOND-clause-room c = λ source is near.
    absurd (stride_beyond c.args.context.now source (type_tree c.args.ty.now) c.of_type-size.result is c.of_type-size.ensures (omega arith) near)
