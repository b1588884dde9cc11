use Rattle.std.proofs.Common.{◌∙◌, ◌<◌, length, rules, refl, []}
use Rattle.pv_edge.specs.Sink.{Offered}
use Rattle.pv_edge.proofs.Taking.{takes-none, takes-step, takes-end, takes-zero, offered, offered-more, stops-failed, stops-stalled}
use Rattle.pv_edge.proofs.offer.write_all.Goals as goal

pub returns-in-Ok-eq0-clause-err : goal.returns-in-Ok-eq0-clause-err
returns-in-Ok-eq0-clause-err g c =
    let more : 0 < length c.loop-rest.rest.now = search rules in
    takes-end _ _ _ _ _ more c.loop-rest.invariant.front (takes-zero _ _ _ _ c.in-Ok-eq0.field-0-test c.in-Ok-eq0.ensures.ok)

pub loop-rest-preserved : goal.loop-rest-preserved
loop-rest-preserved g c =
    let inv = c.loop-rest.invariant in
    let more : 0 < length c.loop-rest.rest.now = search rules in
    record {
      front = takes-step _ inv.front.0 _ _ _ _ _ inv.front.1 inv.front.2 c.in-Ok.ensures.ok _ c.split_at.ensures.back;
      calls = offered-more g.S.Sink.call _ _ _ _ _ _ _ more (λ none. absurd (c.in-Ok.n-test.1 none)) inv.calls c.in-Ok.ensures.called c.split_at.ensures.back;
      faults = c.in-Ok.ensures.only_faults (λ none. absurd (c.in-Ok.n-test.1 none)) ∙ inv.faults;
      idle = λ none. offered _ inv.front.0 _ more inv.front.1 none;
    }

pub returns-in-Err-clause-err : goal.returns-in-Err-clause-err
returns-in-Err-clause-err g c =
    let more : 0 < length c.loop-rest.rest.now = search rules in
    takes-end _ _ _ _ _ more c.loop-rest.invariant.front c.in-Err.ensures.err

pub returns-in-Ok-eq0-clause-stops : goal.returns-in-Ok-eq0-clause-stops
returns-in-Ok-eq0-clause-stops g c =
    let more : 0 < length c.loop-rest.rest.now = search rules in
    stops-stalled g.S.Sink.call _ _ _ _ _ _ more c.loop-rest.invariant.calls c.in-Ok-eq0.ensures.called c.in-Ok-eq0.field-0-test

pub returns-in-Err-clause-stops : goal.returns-in-Err-clause-stops
returns-in-Err-clause-stops g c =
    let more : 0 < length c.loop-rest.rest.now = search rules in
    stops-failed g.S.Sink.call _ _ _ _ _ _ more c.loop-rest.invariant.calls c.in-Err.ensures.called

pub loop-rest-init : goal.loop-rest-init
loop-rest-init g c = record { front = ([], refl, takes-none (g.S.Sink.taken c.args.out.now)); calls = Offered.none; faults = refl; idle = λ _. refl }
