use Rattle.std.proofs.Common.{◌≡◌, pos, ◌+◌, suc, ◌++◌, ◌∷◌, [], rules, arith, sym, ap, subst, ◌∙◌, take, drop, get_or, take_all}
use Rattle.std.proofs.Math.Seq.{take-suc}
use Rattle.std.specs.List.{AllByRecursion}
use Rattle.pv_trace.specs.TraceText.{AreBetween, IsRange}
use Rattle.pv_trace.proofs.Words.{HasValues, stops, stays, more-values, around, one-more, wide, range-at}
use Rattle.pv_trace.proofs.values.values_at.Goals as goal

pub returns-in_default : goal.returns-in_default
returns-in_default c =
    let i = c.loop-bounds.bounds-index in
    let ranges = c.args.ranges.now in
    let cut : ranges ≡ take i ranges ++ get_or ranges i (pos 0, pos 0) ∷ drop (suc i) ranges = around i ranges (pos 0, pos 0) (omega (arith, c.loop-bounds-test.true)) in
    λ values are e.
    stops c.args.text.now (take i ranges) (drop (suc i) ranges) (get_or ranges i (pos 0, pos 0)) c.loop-bounds.values c.loop-bounds.rest.now
    (subst (AllByRecursion IsRange) cut c.requires) c.loop-bounds.invariant c.in_default.ensures.none values (subst (λ r. AreBetween r values) cut are) e

pub loop-bounds-preserved : goal.loop-bounds-preserved
loop-bounds-preserved c =
    let i = c.loop-bounds.bounds-index in
    let ranges = c.args.ranges.now in
    let range = get_or ranges i (pos 0, pos 0) in
    let within : IsRange range = range-at i ranges (pos 0, pos 0) c.requires (omega (arith, c.loop-bounds-test.true)) in
    let next : take (i + 1) ranges ≡ take i ranges ++ get_or ranges i (pos 0, pos 0) ∷ [] = ap (λ n. take n ranges) (one-more i) ∙ take-suc ranges i (pos 0, pos 0) (omega (arith, c.loop-bounds-test.true)) in
    let value : c.push.new.self ≡ c.loop-bounds.values ++ c.in-Some.value ∷ [] =
    c.in_ok-push.ensures.ok ∙ ap (λ z. c.loop-bounds.values ++ z ∷ []) (wide range c.in-Some.value within c.in-Some.ensures.found.0) in
    let more = more-values c.args.text.now (take i ranges) c.loop-bounds.values c.loop-bounds.rest.now c.in-Some.after.now (get_or ranges i (pos 0, pos 0)) c.in-Some.value
    c.loop-bounds.invariant c.in-Some.ensures.found.0 c.in-Some.ensures.found.1 c.in-Some.ensures.found.2 in
    subst (λ r. HasValues c.args.text.now r c.push.new.self c.in-Some.after.now) (sym next)
    (subst (λ vs. HasValues c.args.text.now (take i ranges ++ get_or ranges i (pos 0, pos 0) ∷ []) vs c.in-Some.after.now) (sym value) more)

pub returns-else-is_empty : goal.returns-else-is_empty
returns-else-is_empty c =
    stays c.args.text.now c.args.ranges.now c.loop-bounds.values c.loop-bounds.rest.now c.requires
    (subst (λ r. HasValues c.args.text.now r c.loop-bounds.values c.loop-bounds.rest.now) (take_all c.loop-bounds.bounds-index c.args.ranges.now (omega (arith, c.loop-bounds-test.false))) c.loop-bounds.invariant)
    (λ e. search rules)
