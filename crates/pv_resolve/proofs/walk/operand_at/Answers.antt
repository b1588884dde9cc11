use Rattle.std.proofs.Common.{ap, sym, subst, ◌∙◌}
use Rattle.pv_mean.specs.Activations.{spot_of}
use Rattle.pv_resolve.specs.Begins.{begin_at, begins_behind, address_value, HasSpot}
use Rattle.pv_resolve.proofs.Fields.{spot_stays}
use Rattle.pv_resolve.proofs.walk.operand_at.Goals as goal

pub returns-in-In-clause-value : goal.returns-in-In-clause-value
returns-in-In-clause-value c =
    λ first values. c.part_at.ensures.value first values
    ∙ ap (λ x. spot_of (begins_behind c.args.walk.address (address_value c.args.walk.address values) (begin_at x first))) (sym c.in-In.is)

pub returns-in-At-clause-value : goal.returns-in-At-clause-value
returns-in-At-clause-value c =
    λ first values. spot_stays c.args.walk.begin c.in-At.spot first c.args.walk.address (address_value c.args.walk.address values) c.in-At.is

pub returns-in-At-clause-within : goal.returns-in-At-clause-within
returns-in-At-clause-within c =
    λ n h. subst HasSpot c.in-At.is c.requires
