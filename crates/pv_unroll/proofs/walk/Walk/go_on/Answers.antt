use Rattle.std.proofs.Common.{rules, ◌≡◌, true}
use Rattle.pv_unroll.specs.Seen.{table_seen, state_seen}
use Rattle.pv_unroll.proofs.Stepping.{turned_back}
use Rattle.pv_unroll.proofs.walk.Walk.go_on.Goals as goal

pub returns-then-branch : goal.returns-then-branch
returns-then-branch c =
    let on : c.in_ok-turn.field-0 ≡ true = search rules in
    turned_back (table_seen c.args.table.now) (state_seen c.loop-last.self c.loop-last.laid) (state_seen c.turn.new.self c.turn.new.laid) _
    c.in-Some.last c.ending.result c.in_ok-turn.field-0 c.ending.ensures c.in-Some.is c.in_ok-turn.ensures.back c.in_ok-turn.ensures.state on
    c.loop-last.invariant
