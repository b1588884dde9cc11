use Rattle.std.proofs.Common.{rules, arith, sym, ap, ◌∙◌, subst}
use Rattle.std.specs.Prelude.{FitsSigned}
use Rattle.std.specs.Int.{w64}
use Rattle.std.proofs.lemmas.Int.{to_z-of_z}
use Rattle.pv_mean.specs.Spots.{write_spot}
use Rattle.pv_mean.specs.Calls.{inside, with_inside}
use Rattle.pv_eval.specs.Writes.{TypesOf}
use Rattle.pv_eval.specs.Operands.{spot_of}
use Rattle.pv_run.specs.Runs.{linked_in}
use Rattle.pv_run.proofs.Lists.{missing_at, found_at}
use Rattle.pv_run.proofs.Passing.{in_missing, in_stops, in_goes_on, in_over}
use Rattle.pv_run.proofs.program.Program.hand_in.Goals as goal

pub returns-in_default : goal.returns-in_default
returns-in_default c =
    λ source block site callee handed types are. absurd (in_missing
    (c.loop-i.invariant source block site callee handed types are) c.loop-i-test.true
    (missing_at c.deref.result.now c.args.self.now.inward.items c.loop-i.i c.deref.ensures.value (omega
    (arith, c.in_default.ensures.lookup.3))))

pub returns-in-Err : goal.returns-in-Err
returns-in-Err c =
    λ source block site callee handed types are. in_stops (c.loop-i.invariant source block site callee handed types are) c.loop-i-test.true
    c.in-Some.inward.now
    (found_at c.deref.result.now c.args.self.now.inward.items c.loop-i.i c.in-Some.inward.now c.deref.ensures.value (search rules)
    (search rules))
    c.in-Err.stop (λ e is. c.in-Err.ensures source block e is)

pub loop-i-preserved : goal.loop-i-preserved
loop-i-preserved c =
    λ source block site callee handed types are.
    let now = linked_in c.loop-i.visible c.args.outer.now c.loop-i.inner in
    let ts = subst (λ xs. TypesOf source xs) (sym c.as_slice.ensures.value) types in
    let fits : FitsSigned w64 c.in-Ok.v = search rules in
    in_goes_on (c.loop-i.invariant source block site callee handed types are) c.loop-i-test.true c.in-Some.inward.now
    (found_at c.deref.result.now c.args.self.now.inward.items c.loop-i.i c.in-Some.inward.now c.deref.ensures.value (search rules)
    (search rules))
    c.in-Ok.v (λ e is. c.in-Ok.ensures source block e is) (linked_in c.write_spot.new.visible c.args.outer.now c.write_spot.new.brief)
    (ap (λ f. with_inside now f) (ap (λ s. write_spot source (inside now) s c.in-Ok.v) (sym c.slot_spot-spot.ensures.value)
    ∙ ap (λ x. write_spot source (inside now) (spot_of c.slot_spot-spot.result) x) (sym (to_z-of_z w64 c.in-Ok.v fits))
    ∙ c.write_spot.ensures source ts))

pub returns : goal.returns
returns c = λ source block site callee handed types are. in_over (c.loop-i.invariant source block site callee handed types are)
    (λ lt. omega arith)
