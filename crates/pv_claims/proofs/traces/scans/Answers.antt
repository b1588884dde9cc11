use Rattle.std.proofs.Common.{◌∷◌, [], ◌<◌, length-append, arith, rules}
use Rattle.pv_claims.proofs.PartLaws.{at-none, at-some}
use Rattle.pv_claims.proofs.TraceLaws.{scans-stuck, scans-more, scans-fit}
use Rattle.pv_claims.proofs.traces.scans.Goals as goal

pub returns-in_default-clause-stuck : goal.returns-in_default-clause-stuck
returns-in_default-clause-stuck c =
    let some : 0 < c.loop-left.left = search rules in
    let never = at-none _ _ c.in_ok-values.field-0 c.in_default.is c.in_ok-values.ensures in
    scans-stuck c.args.count c.loop-left.left c.args.text.now c.loop-left.rest.now c.loop-left.scans c.loop-left.invariant.split c.loop-left.invariant.fit c.loop-left.invariant.sum some never

pub loop-left-preserved : goal.loop-left-preserved
loop-left-preserved c =
    let found = at-some _ _ c.in_ok-values.field-0 (c.in-Some.values, c.in-Some.after) c.in-Some.is c.in_ok-values.ensures in
    let size = length-append c.loop-left.scans (c.in-Some.values ∷ []) in
    let some : 0 < c.loop-left.left = search rules in
    rw c.in_ok-push.ensures.ok record {
      split = scans-more c.args.text.now c.loop-left.rest.now c.in-Some.after.now c.loop-left.scans c.in-Some.values c.loop-left.invariant.split found.1;
      fit = scans-fit c.loop-left.scans c.in-Some.values c.loop-left.invariant.fit found.0;
      sum = omega (arith, size, c.loop-left.invariant.sum, some);
    }
