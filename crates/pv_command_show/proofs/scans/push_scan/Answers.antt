use Rattle.std.proofs.Common.{ap, ◌∙◌, ◌&&◌, true}
use Rattle.pv_mean.specs.Scans.{scan}
use Rattle.pv_replay.specs.Replays.{image_of, cells_of, begin_of, end_of}
use Rattle.pv_command_show.specs.Steps.{seen_in}
use Rattle.pv_command_show.proofs.Telling.{done_told, stopped_told, is_on, trap_off, over_off, trap_none, over_none}
use Rattle.pv_command_show.proofs.scans.push_scan.Goals as goal

pub returns-in_ok-keep-in-Done-clause-told : goal.returns-in_ok-keep-in-Done-clause-told
returns-in_ok-keep-in-Done-clause-told c = λ source p of ready is within.
    let scanned = c.in-Done.ensures.scan source of ready within in
    let later = c.scan.new.self in
    done_told source p c.args.number (seen_in c.args.before.now) (scan source (image_of c.args.replay.now) c.args.input.now)
    (cells_of later) (begin_of later) c.args.pattern.now (end_of later) c.args.text.now.items c.push_number.new.text.items
    c.push_whole.new.text.items c.in_ok-push_number.ensures c.in_ok-push_whole-in-Done.ensures (c.in-Done.ensures.of source of).cells
    scanned.beginning scanned.ends is

pub returns-in_ok-keep-in-Done-clause-on : goal.returns-in_ok-keep-in-Done-clause-on
returns-in_ok-keep-in-Done-clause-on c = λ source of ready within.
    is_on source c.args.replay.now c.scan.new.self c.args.input.now _ c.begin.result.now c.end.result.now
    (c.in-Done.ensures.scan source of ready within) (c.in-Done.ensures.ready ∙ ap (λ b. b && true) ready) c.begin.ensures.told c.end.ensures.told c.in_ok-keep-in-Done.ensures

pub returns-in_ok-push_given-in-Trap-clause-told : goal.returns-in_ok-push_given-in-Trap-clause-told
returns-in_ok-push_given-in-Trap-clause-told c = λ source p of ready is within.
    let scanned = c.in-Trap.ensures.scan source of ready within in
    let later = c.scan.new.self in
    stopped_told source p c.args.number (seen_in c.args.before.now) (scan source (image_of c.args.replay.now) c.args.input.now)
    (cells_of later) (begin_of later) c.args.text.now.items c.push_number.new.text.items c.push_given.new.text.items
    c.in_ok-push_number.ensures c.in_ok-push_given-in-Trap.ensures (c.in-Trap.ensures.of source of).cells scanned.beginning
    (trap_none source c.args.replay.now later c.args.input.now p (seen_in c.args.before.now) _ _ scanned)

pub returns-in_ok-push_given-in-Trap-clause-on : goal.returns-in_ok-push_given-in-Trap-clause-on
returns-in_ok-push_given-in-Trap-clause-on c = λ source of ready within.
    trap_off source c.args.replay.now c.scan.new.self c.args.input.now _ _ (c.in-Trap.ensures.scan source of ready within) (seen_in c.args.before.now)

pub returns-in_ok-push_given-in-Over-clause-told : goal.returns-in_ok-push_given-in-Over-clause-told
returns-in_ok-push_given-in-Over-clause-told c = λ source p of ready is within.
    let scanned = c.in-Over.ensures.scan source of ready within in
    let later = c.scan.new.self in
    stopped_told source p c.args.number (seen_in c.args.before.now) (scan source (image_of c.args.replay.now) c.args.input.now)
    (cells_of later) (begin_of later) c.args.text.now.items c.push_number.new.text.items c.push_given-in-Over.new.text.items
    c.in_ok-push_number.ensures c.in_ok-push_given-in-Over.ensures (c.in-Over.ensures.of source of).cells scanned.beginning
    (over_none source c.args.replay.now later c.args.input.now p (seen_in c.args.before.now) _ scanned)

pub returns-in_ok-push_given-in-Over-clause-on : goal.returns-in_ok-push_given-in-Over-clause-on
returns-in_ok-push_given-in-Over-clause-on c = λ source of ready within.
    over_off source c.args.replay.now c.scan.new.self c.args.input.now _ (c.in-Over.ensures.scan source of ready within) (seen_in c.args.before.now)
