use Rattle.std.proofs.Common.{◌≡◌, rules, arith, subst}
use Rattle.std.specs.Prelude.{FitsSigned}
use Rattle.std.specs.Int.{w64}
use Rattle.std.proofs.lemmas.Int.{to_z-of_z}
use Rattle.pv_mean.specs.Endings.{ended, end_of}
use Rattle.pv_mean.specs.Spots.{read_spot}
use Rattle.pv_mean.specs.Calls.{hand_over}
use Rattle.pv_eval.specs.Means.{activation}
use Rattle.pv_run.specs.Ends.{stop_end}
use Rattle.pv_run.specs.Code.{slot_spot}
use Rattle.pv_run.specs.Runs.{frame_in, linked_in}
use Rattle.pv_run.proofs.Lists.{missing_at, found_at}
use Rattle.pv_run.proofs.Passing.{out_missing, out_unread, out_stops, out_goes_on, out_over}
use Rattle.pv_run.proofs.program.Program.hand_out.Goals as goal

pub returns-in_default : goal.returns-in_default
returns-in_default c =
    λ source block site callee handed types at are. absurd (out_missing
    (c.loop-i.invariant source block site callee handed types at are) c.loop-i-test.true
    (missing_at c.deref.result.now c.args.self.now.outward.items c.loop-i.i c.deref.ensures.value (omega
    (arith, c.in_default.ensures.lookup.3))))

pub returns-in-Err : goal.returns-in-Err
returns-in-Err c =
    λ source block site callee handed types at are. out_unread (c.loop-i.invariant source block site callee handed types at are)
    c.loop-i-test.true
    c.in-Some.outward.now
    (found_at c.deref.result.now c.args.self.now.outward.items c.loop-i.i c.in-Some.outward.now c.deref.ensures.value (search rules)
    (search rules))
    c.in-Err.stop
    (subst (λ p. stop_end c.in-Err.stop ≡ end_of (read_spot (frame_in c.loop-i.visible c.args.inner.now) p
    (slot_spot c.args.first c.in-Some.outward.now.from)))
    at c.in-Err.ensures)

pub returns-in-Err-hand_over : goal.returns-in-Err-hand_over
returns-in-Err-hand_over c =
    λ source block site callee handed types at are.
    let now = linked_in c.loop-i.visible c.loop-i.outer c.args.inner.now in
    let fits : FitsSigned w64 c.in-Ok.v = search rules in
    out_stops (c.loop-i.invariant source block site callee handed types at are) c.loop-i-test.true c.in-Some.outward.now
    (found_at c.deref.result.now c.args.self.now.outward.items c.loop-i.i c.in-Some.outward.now c.deref.ensures.value (search rules)
    (search rules))
    c.in-Ok.v
    (subst (λ p. ended c.in-Ok.v ≡ end_of (read_spot (frame_in c.loop-i.visible c.args.inner.now) p
    (slot_spot c.args.first c.in-Some.outward.now.from)))
    at c.in-Ok.ensures)
    c.in-Err-hand_over.stop
    (λ o goes. subst (λ x. stop_end c.in-Err-hand_over.stop ≡ end_of (hand_over source (activation block c.args.caller_first) o x now))
    (to_z-of_z w64 c.in-Ok.v fits) (c.in-Err-hand_over.ensures source block o types goes))

pub loop-i-preserved : goal.loop-i-preserved
loop-i-preserved c =
    λ source block site callee handed types at are.
    let now = linked_in c.loop-i.visible c.loop-i.outer c.args.inner.now in
    let after = linked_in c.hand_over.new.visible c.hand_over.new.outer c.args.inner.now in
    let fits : FitsSigned w64 c.in-Ok.v = search rules in
    out_goes_on (c.loop-i.invariant source block site callee handed types at are) c.loop-i-test.true c.in-Some.outward.now
    (found_at c.deref.result.now c.args.self.now.outward.items c.loop-i.i c.in-Some.outward.now c.deref.ensures.value (search rules)
    (search rules))
    c.in-Ok.v
    (subst (λ p. ended c.in-Ok.v ≡ end_of (read_spot (frame_in c.loop-i.visible c.args.inner.now) p
    (slot_spot c.args.first c.in-Some.outward.now.from)))
    at c.in-Ok.ensures)
    after
    (λ o goes. subst (λ x. ended after ≡ end_of (hand_over source (activation block c.args.caller_first) o x now))
    (to_z-of_z w64 c.in-Ok.v fits) (c.in-Ok-hand_over.ensures source block o types goes))

pub returns : goal.returns
returns c =
    λ source block site callee handed types at are. out_over (c.loop-i.invariant source block site callee handed types at are)
    (λ lt. omega arith)
