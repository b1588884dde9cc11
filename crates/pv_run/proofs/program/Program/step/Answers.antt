use Rattle.std.proofs.Common.{rules, sym, ap, ◌∙◌, subst, to_z, of_z, ◌+ℤ◌}
use Rattle.std.specs.Prelude.{FitsSigned}
use Rattle.std.specs.Int.{w64, w128}
use Rattle.std.proofs.lemmas.Int.{to_z-of_z}
use Rattle.pv_eval.specs.Operands.{spot_of}
use Rattle.pv_eval.specs.Writes.{TypesOf}
use Rattle.pv_run.specs.Runs.{frame_in}
use Rattle.pv_run.proofs.Stepping.{stepped}
use Rattle.pv_run.proofs.program.Program.step.Goals as goal

pub returns-in-Ok : goal.returns-in-Ok
returns-in-Ok c =
    λ source types.
    let ts = subst (λ xs. TypesOf source xs) (sym c.as_slice.ensures.value) types in
    let wrote = c.write_spot.ensures source ts in
    let fits : FitsSigned w64 c.in-Ok.v = search rules in
    let big : FitsSigned w128 c.next_count-count.result = search rules in
    let small : FitsSigned w64 c.narrowed.result = search rules in
    let of_by : FitsSigned w64 c.args.counting.now.by = search rules in
    stepped source c.args.counting.now.variable_place c.args.counting.now.by c.in-Ok.v _ _ (spot_of c.args.begun.now.spot)
    (frame_in c.args.visible.now c.args.brief.now)
    (frame_in c.write_spot.new.visible c.write_spot.new.brief) c.in-Ok.ensures
    (to_z-of_z w128 c.next_count-count.result big ∙ c.next_count-count.ensures
    ∙ ap (λ x. x +ℤ to_z w64 (of_z w64 c.args.counting.now.by)) (to_z-of_z w64 c.in-Ok.v fits)
    ∙ ap (λ x. c.in-Ok.v +ℤ x) (to_z-of_z w64 c.args.counting.now.by of_by))
    (to_z-of_z w64 c.narrowed.result small ∙ c.narrowed.ensures) wrote
