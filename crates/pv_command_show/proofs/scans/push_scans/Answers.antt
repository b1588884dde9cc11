use Rattle.std.proofs.Common.{◌+◌, ◌∷◌, drop, ap, sym, subst, ◌∙◌, arith}
use Rattle.pv_mean.specs.Frames.{Input}
use Rattle.pv_replay.specs.Replays.{image_of}
use Rattle.pv_command_show.specs.Steps.{seen_in, GoesSo}
use Rattle.pv_command_show.proofs.Telling.{all_remains, split, next_within, goes_on, stops_there, all_told}
use Rattle.pv_command_show.proofs.scans.push_scans.Goals as goal

pub loop-done-init : goal.loop-done-init
loop-done-init c = λ source p of ready is within.
    all_remains source p c.args.inputs.now c.args.text.now.items c.args.replay.now of ready within

pub loop-done-preserved : goal.loop-done-preserved
loop-done-preserved c =
    let l = c.loop-done in
    λ source p of ready is within.
    (let all = c.args.inputs.now in
    let begun = image_of c.args.replay.now in
    let first = c.args.text.now.items in
    let left = l.invariant source p of ready is within in
    let e = split l.done all c.index-inputs-done.result c.loop-done-test.true
    ∙ ap (λ (x : Input). x ∷ drop (l.done + 1) all) (sym (c.as_slice.ensures ∙ c.index-inputs-done.is)) in
    let fits = next_within source p begun all first l.done (seen_in l.before) l.replay l.text.items c.as_slice.result.now left e in
    goes_on source p begun all first l.done (seen_in l.before) l.replay l.text.items c.as_slice.result.now c.push_scan.new.replay
    (seen_in c.push_scan.new.before) c.push_scan.new.text.items left e
    (c.in_ok-goes_on.ensures.told source p left.of left.ready is fits)
    (subst (λ b. GoesSo b source l.replay c.push_scan.new.replay (seen_in c.push_scan.new.before) c.as_slice.result.now) c.if-not-goes_on.false
    (c.in_ok-goes_on.ensures.on source left.of left.ready fits))
    (c.push_scan.ensures.of source left.of))

pub returns-then-not-goes_on : goal.returns-then-not-goes_on
returns-then-not-goes_on c =
    let l = c.loop-done in
    λ source p of ready is within.
    (let all = c.args.inputs.now in
    let begun = image_of c.args.replay.now in
    let first = c.args.text.now.items in
    let left = l.invariant source p of ready is within in
    let e = split l.done all c.index-inputs-done.result c.loop-done-test.true
    ∙ ap (λ (x : Input). x ∷ drop (l.done + 1) all) (sym (c.as_slice.ensures ∙ c.index-inputs-done.is)) in
    let fits = next_within source p begun all first l.done (seen_in l.before) l.replay l.text.items c.as_slice.result.now left e in
    stops_there source p begun all first l.done (seen_in l.before) l.replay l.text.items c.as_slice.result.now c.push_scan.new.replay
    (seen_in c.push_scan.new.before) c.push_scan.new.text.items left e
    (c.in_ok-goes_on.ensures.told source p left.of left.ready is fits)
    (subst (λ b. GoesSo b source l.replay c.push_scan.new.replay (seen_in c.push_scan.new.before) c.as_slice.result.now) c.if-not-goes_on.true
    (c.in_ok-goes_on.ensures.on source left.of left.ready fits)))

pub returns : goal.returns
returns c = λ source p of ready is within.
    let l = c.loop-done in
    all_told source p (image_of c.args.replay.now) c.args.inputs.now c.args.text.now.items l.done (seen_in l.before) l.replay l.text.items
    (l.invariant source p of ready is within) (omega (arith, c.loop-done-test.false))
