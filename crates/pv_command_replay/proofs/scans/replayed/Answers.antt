use Rattle.std.proofs.Common.{None, ap, sym, subst, ◌∙◌}
use Rattle.std.specs.List.{AllByRecursion}
use Rattle.pv_place.specs.Ranges.{AreWithin}
use Rattle.pv_mean.specs.Frames.{input_ranges, param_ranges}
use Rattle.pv_mean.specs.Runs.{start, run_from}
use Rattle.pv_stretch.specs.Stretches.{stretch_of}
use Rattle.pv_command_replay.proofs.Starts.{replayed_is}
use Rattle.pv_command_replay.proofs.scans.replayed.Goals as goal

pub returns : goal.returns
returns c = λ source p is starts pattern values.
    let of = c.in_ok-replay.ensures.of source is.of_project is.entry is.bytes is.cells is.bound starts in
    let params = subst (AreWithin (param_ranges source.cells)) (sym c.as_slice.ensures) values.params in
    let inputs = subst (AllByRecursion (AreWithin (input_ranges source.cells))) (sym c.as_slice-2.ensures) values.inputs in
    replayed_is source p c.args.trace.now.params c.args.trace.now.inputs c.asks_for_goal.result c.run_stretch-stretch.result c.ended.result
    (c.asks_for_goal.ensures source p pattern)
    (c.run_stretch-stretch.ensures.stretch source p of pattern params inputs
    ∙ ap (λ ps. stretch_of source p None (run_from source (start source ps) c.as_slice-2.result.now)) c.as_slice.ensures
    ∙ ap (λ ins. stretch_of source p None (run_from source (start source c.args.trace.now.params) ins)) c.as_slice-2.ensures)
    c.ended.ensures
