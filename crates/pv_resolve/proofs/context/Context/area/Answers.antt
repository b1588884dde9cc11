use Rattle.std.proofs.Common.{ap, ◌∙◌}
use Rattle.pv_resolve.specs.Contexts.{area_spot}
use Rattle.pv_mean.specs.Activations.{at}
use Rattle.std.proofs.lemmas.Bool.{false≢true}
use Rattle.pv_resolve.proofs.context.Context.area.Goals as goal

pub returns-clause-value : goal.returns-clause-value
returns-clause-value c =
    λ source first is. ap (λ s. at s) (c.in_ok-spot.ensures.value source is ∙ ap (λ ty. area_spot source ty c.args.root.now) c.type_of_bits.ensures)

pub returns-in_err-spot-clause-room : goal.returns-in_err-spot-clause-room
returns-in_err-spot-clause-room c =
    λ source is h fits. absurd (false≢true (c.in_err-spot.ensures.room source is h fits))
