use Rattle.std.proofs.Common.{◌∷◌, [], ◌<◌, length-append, arith, rules}
use Rattle.pv_claims.proofs.ForCallers.{at-none, at-some}
use Rattle.pv_cert.proofs.ProofLaws.{log-stuck, log-more, log-fit}
use Rattle.pv_cert.proofs.logs.log_lines.Goals as goal

pub returns-in_default-clause-stuck : goal.returns-in_default-clause-stuck
returns-in_default-clause-stuck c =
    let some : 0 < c.loop-left.left = search rules in
    let never = at-none _ _ c.in_ok-line.field-0 c.in_default.is c.in_ok-line.ensures in
    log-stuck c.args.count c.loop-left.left c.args.text.now c.loop-left.rest.now c.loop-left.log c.loop-left.invariant.split c.loop-left.invariant.fit c.loop-left.invariant.sum some never

pub loop-left-preserved : goal.loop-left-preserved
loop-left-preserved c =
    let found = at-some _ _ c.in_ok-line.field-0 (c.in-Some.line, c.in-Some.after) c.in-Some.is c.in_ok-line.ensures in
    let size = length-append c.loop-left.log (c.in-Some.line ∷ []) in
    let some : 0 < c.loop-left.left = search rules in
    rw c.in_ok-push.ensures.ok record {
      split = log-more c.args.text.now c.loop-left.rest.now c.in-Some.after.now c.loop-left.log c.in-Some.line c.loop-left.invariant.split found.1;
      fit = log-fit c.loop-left.log c.in-Some.line c.loop-left.invariant.fit found.0;
      sum = omega (arith, size, c.loop-left.invariant.sum, some);
    }
