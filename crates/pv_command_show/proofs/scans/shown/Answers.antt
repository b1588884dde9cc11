use Rattle.std.proofs.Common.{sym, ap, subst, ◌∙◌}
use Rattle.std.specs.List.{AllByRecursion}
use Rattle.pv_place.specs.Ranges.{AreWithin}
use Rattle.pv_mean.specs.Frames.{param_ranges, input_ranges}
use Rattle.pv_command_show.specs.Texts.{told_inputs}
use Rattle.pv_command_show.proofs.Telling.{told_within, shown_are}
use Rattle.pv_command_show.proofs.scans.shown.Goals as goal

pub returns : goal.returns
returns c = λ source p is starts pattern values.
    let of = c.in_ok-replay.ensures.of source is.of_project is.entry is.bytes is.cells is.bound starts in
    let params = subst (AreWithin (param_ranges source.cells)) (sym c.as_slice.ensures) values.params in
    let inputs = subst (AllByRecursion (AreWithin (input_ranges source.cells)))
    (sym (c.told.ensures ∙ ap (λ l. told_inputs c.args.end l) c.as_slice-2.ensures))
    (told_within (AreWithin (input_ranges source.cells)) c.args.end _ values.inputs) in
    shown_are source p c.args.trace.now c.args.end _ _ _ _ _ _ (c.start.ensures.image source of params) c.as_slice.ensures
    c.told.ensures c.as_slice-2.ensures c.new-text.ensures.items
    (c.in_ok-push_scans.ensures source p (c.start.ensures.of source of) c.start.ensures.ready pattern inputs)
