use Rattle.std.proofs.Common.{◌+◌, ◌∷◌, drop, refl, ap, sym, ◌∙◌, arith}
use Rattle.pv_mean.specs.Frames.{Input}
use Rattle.pv_pattern.specs.Patterns.{mark}
use Rattle.pv_replay.specs.Replays.{image_of}
use Rattle.pv_stretch.proofs.Scanning.{all_remains, split, next_within, one_good, ends_there, all_good}
use Rattle.pv_stretch.proofs.scans.scanned.Goals as goal

pub loop-done-preserved : goal.loop-done-preserved
loop-done-preserved c =
    let l = c.loop-done in (
      λ source p of ready is within.
          let all = c.args.inputs.now in
          let start = image_of c.args.replay.now in
          let left = l.invariant.0 source p of ready is within in
          let e = split l.done all c.index-inputs-done.result c.loop-done-test.true
          ∙ ap (λ (x : Input). x ∷ drop (l.done + 1) all) (sym (c.as_slice.ensures ∙ c.index-inputs-done.is)) in
          let fits = next_within source p c.args.first start all l.done l.prev l.replay c.as_slice.result.now left e in
          one_good source p c.args.first start all l.done l.prev l.replay c.as_slice.result.now c.ended_by.new.replay c.mark.result left e
          (c.in_default.ensures.ends source p left.of left.ready is fits) (c.in_default.ensures.on source left.of left.ready fits refl)
          (c.ended_by.ensures.of source left.of) (c.mark.ensures source p is ∙ ap (λ v. mark source p v) c.end.ensures.told),
      c.ended_by.ensures.lent.0 ∙ l.invariant.1,
      c.ended_by.ensures.lent.1 ∙ l.invariant.2,
      λ source of. c.ended_by.ensures.of source (l.invariant.3 source of),
    )

pub returns-clause-stretch : goal.returns-clause-stretch
returns-clause-stretch c = λ source p of ready is within.
    let l = c.loop-done in
    all_good source p c.args.first (image_of c.args.replay.now) c.args.inputs.now l.done l.prev l.replay
    (l.invariant.0 source p of ready is within) (omega (arith, c.loop-done-test.false, l.auto.done-end))

pub loop-done-init : goal.loop-done-init
loop-done-init c = (
  λ source p of ready is within. all_remains source p c.args.first c.args.inputs.now c.args.replay.now of ready within,
  refl,
  refl,
  λ source of. of,
)

pub returns-clause-lent : goal.returns-clause-lent
returns-clause-lent c = (c.loop-done.invariant.1, c.loop-done.invariant.2)

pub returns-clause-of : goal.returns-clause-of
returns-clause-of c = c.loop-done.invariant.3

pub returns-in-Some-clause-lent : goal.returns-in-Some-clause-lent
returns-in-Some-clause-lent c =
    (c.ended_by.ensures.lent.0 ∙ c.loop-done.invariant.1, c.ended_by.ensures.lent.1 ∙ c.loop-done.invariant.2)

pub returns-in-Some-clause-of : goal.returns-in-Some-clause-of
returns-in-Some-clause-of c = λ source of. c.ended_by.ensures.of source (c.loop-done.invariant.3 source of)

pub returns-in-Some-clause-stretch : goal.returns-in-Some-clause-stretch
returns-in-Some-clause-stretch c = λ source p of ready is within.
    let l = c.loop-done in
    let all = c.args.inputs.now in
    let start = image_of c.args.replay.now in
    let left = l.invariant.0 source p of ready is within in
    let e = split l.done all c.index-inputs-done.result c.loop-done-test.true
    ∙ ap (λ (x : Input). x ∷ drop (l.done + 1) all) (sym (c.as_slice.ensures ∙ c.index-inputs-done.is)) in
    let fits = next_within source p c.args.first start all l.done l.prev l.replay c.as_slice.result.now left e in
    ends_there source p c.args.first start all l.done l.prev l.replay c.as_slice.result.now c.in-Some.end left e
    (c.in-Some.ensures.ends source p left.of left.ready is fits)
