use Rattle.std.proofs.Common.{rules, ap, ◌∙◌}
use Rattle.std.proofs.lemmas.List.{with_items_is}
use Rattle.std.specs.Vec.{with_items}
use Rattle.pv_mean.specs.Cells.{most_calls}
use Rattle.pv_mean.specs.Scans.{scan_from}
use Rattle.pv_replay.specs.Images.{left_of}
use Rattle.pv_replay.proofs.ReplayLaws.{scanned_done, scanned_stop, range_scanned, stays_ready, not_ready}
use Rattle.pv_replay.proofs.replay.Replay.scan.Goals as goal

pub returns-in-Ok-clause-scan : goal.returns-in-Ok-clause-scan
returns-in-Ok-clause-scan c =
    let r = c.args.self.now in
    let begun = with_items_is r.values c.begin.new.values (search rules) in
    let ran = with_items_is (with_items r.values c.begin.new.values) c.run-ran.new.visible (search rules) in
    λ source is ready within. scanned_done source r _ c.args.input.now c.begin.new.values c.run-ran.new.visible is within (search rules)
    (c.in-Ok.ensures source is.program ∙ ap (λ vs. (scan_from source most_calls vs).end) (c.deref_mut-3.ensures.value ∙ begun))
    (with_items_is r.begin c.widen.new.to (search rules) ∙ c.widen.ensures.same ∙ c.deref-3.ensures.value ∙ begun)
    (with_items_is r.end c.widen-in-Ok.new.to (search rules) ∙ c.widen-in-Ok.ensures.same ∙ c.deref-in-Ok.ensures.value ∙ ran)
    (with_items_is r.image c.keep.new.image (search rules) ∙ c.keep.ensures
    ∙ ap (λ rs. left_of rs c.deref_mut-in-Ok-2.result.now c.deref-in-Ok-3.result.now) c.deref-in-Ok-2.ensures.value
    ∙ ap (λ im. left_of r.roles.items im c.deref-in-Ok-3.result.now) c.deref_mut-in-Ok-2.ensures.value
    ∙ ap (λ vs. left_of r.roles.items r.image.items vs) (c.deref-in-Ok-3.ensures.value ∙ ran))

pub returns-in-Err-clause-scan : goal.returns-in-Err-clause-scan
returns-in-Err-clause-scan c =
    let r = c.args.self.now in
    let begun = with_items_is r.values c.begin.new.values (search rules) in
    λ source is ready within. scanned_stop source r _ c.args.input.now c.begin.new.values c.of.result c.in-Err.stop is within (search rules)
    (c.in-Err.ensures source is.program ∙ ap (λ vs. (scan_from source most_calls vs).end) (c.deref_mut-3.ensures.value ∙ begun))
    c.of.ensures
    (with_items_is r.begin c.widen.new.to (search rules) ∙ c.widen.ensures.same ∙ c.deref-3.ensures.value ∙ begun)

pub returns-in-Ok-clause-range : goal.returns-in-Ok-clause-range
returns-in-Ok-clause-range c =
    let r = c.args.self.now in
    let begun = with_items_is r.values c.begin.new.values (search rules) in
    λ source is imaged within. range_scanned source r c.args.input.now c.begin.new.values _ is imaged within (search rules)
    (with_items_is r.begin c.widen.new.to (search rules) ∙ c.widen.ensures.same ∙ c.deref-3.ensures.value ∙ begun)

pub returns-in-Err-clause-range : goal.returns-in-Err-clause-range
returns-in-Err-clause-range c =
    let r = c.args.self.now in
    let begun = with_items_is r.values c.begin.new.values (search rules) in
    λ source is imaged within. range_scanned source r c.args.input.now c.begin.new.values _ is imaged within (search rules)
    (with_items_is r.begin c.widen.new.to (search rules) ∙ c.widen.ensures.same ∙ c.deref-3.ensures.value ∙ begun)

pub returns-in-Ok-clause-ready : goal.returns-in-Ok-clause-ready
returns-in-Ok-clause-ready c = stays_ready c.args.self.now.ready

pub returns-in-Err-clause-ready : goal.returns-in-Err-clause-ready
returns-in-Err-clause-ready c = not_ready c.args.self.now.ready c.of.result c.in-Err.stop c.of.ensures
