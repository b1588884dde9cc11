use Rattle.std.proofs.Common.{◌≡◌, ◌<◌, [], ◌∷◌, ◌++◌, length, rules, sym, ap, subst, ◌∙◌}
use Rattle.std.specs.Prelude.{FitsSigned}
use Rattle.std.specs.Int.{w128}
use Rattle.std.proofs.lemmas.Int.{to_z-of_z}
use Rattle.pv_claims.proofs.ValueLaws.{SoFar, so_far-more, stops-values, ends-whole}
use Rattle.pv_claims.proofs.values.values.Goals as goal

pub returns-in_default : goal.returns-in_default
returns-in_default c =
    let some : 0 < length c.loop-rest.rest.now = search rules in
    stops-values c.args.text.now c.loop-rest.rest.now c.loop-rest.values c.loop-rest.invariant some c.in_default.ensures.none

pub loop-rest-preserved : goal.loop-rest-preserved
loop-rest-preserved c =
    let found = c.in-Some.ensures.found in
    let fits : FitsSigned w128 c.in-Some.v = search rules in
    let pushed = c.in_ok-push.ensures.ok ∙ ap (λ z. c.loop-rest.values ++ z ∷ []) (to_z-of_z w128 c.in-Some.v fits) in
    subst (λ vs. SoFar c.args.text.now c.in-Some.after.now vs) (sym pushed)
    (so_far-more c.args.text.now c.loop-rest.rest.now c.in-Some.after.now c.loop-rest.values c.in-Some.v c.loop-rest.invariant fits found.0 found.1)

pub returns : goal.returns
returns c =
    let none : length c.loop-rest.rest.now ≡ 0 = search rules in
    ends-whole c.args.text.now c.loop-rest.rest.now c.loop-rest.values c.loop-rest.invariant none
