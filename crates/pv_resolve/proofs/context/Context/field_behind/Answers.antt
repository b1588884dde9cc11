use Rattle.std.specs.Prelude.{option_map}
use Rattle.pv_resolve.specs.Laying.{laid_tree}
use Rattle.pv_resolve.specs.Begins.{begin_at, HoldsBlock}
use Rattle.pv_resolve.proofs.Fields.{field_leads, spot_leads}
use Rattle.std.proofs.lemmas.Bool.{false≢true}
use Rattle.std.proofs.Common.{subst}
use Rattle.pv_resolve.specs.Rooms.{BeginsRoomy}
use Rattle.pv_resolve.proofs.Nears.{field_near}
use Rattle.pv_resolve.proofs.context.Context.field_behind.Goals as goal

pub returns-in_ok-found-in-In-clause-value : goal.returns-in_ok-found-in-In-clause-value
returns-in_ok-found-in-In-clause-value c =
    λ source is holds address a first. field_leads source c.args.begin c.in-In.part c.in-In.laid c.args.name.now.key
    (option_map laid_tree c.in_ok-found-in-In.found) address a first (begin_at c.begin_with.result first) c.in-In.is
    (c.in_ok-found-in-In.ensures.value source c.in-In.part is (subst (λ b. HoldsBlock source.project b c.args.block) c.in-In.is holds)) (c.begin_with.ensures.value first)

pub returns-in-At-clause-value : goal.returns-in-At-clause-value
returns-in-At-clause-value c =
    λ source is holds address a first. spot_leads source c.args.begin _ c.args.name.now.key address a first c.in-At.is

pub returns-in_err-found-in-In-clause-room : goal.returns-in_err-found-in-In-clause-room
returns-in_err-found-in-In-clause-room c =
    λ source more is holds keeps h. absurd (false≢true (c.in_err-found-in-In.ensures.near source c.in-In.part is
    (subst (λ b. HoldsBlock source.project b c.args.block) c.in-In.is holds)
    (field_near source.project keeps more c.in-In.part (laid_tree c.in-In.laid) c.args.name.now.key
    (subst (λ b. BeginsRoomy source.project more (begin_at b 0)) c.in-In.is h))))
