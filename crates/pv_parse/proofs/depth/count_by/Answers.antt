use Rattle.std.proofs.Common.{ℕ, ◌+◌, Err, List, drop, ap, ◌∙◌}
use Rattle.std.proofs.lemmas.Result.{err_from_is_err_and}
use Rattle.pv_ll.specs.declared.turn.Turn.{Turn}
use Rattle.pv_parse.specs.declared.stack.Stop.{Stop}
use Rattle.pv_parse.specs.Levels.{table_making, level_at, levels_in}
use Rattle.pv_parse.specs.Building.{Makes}
use Rattle.pv_parse.proofs.Taking.{begun, stopped, ended}
use Rattle.pv_parse.proofs.depth.count_by.Goals as goal

pub returns-in_err-take_levels : goal.returns-in_err-take_levels
returns-in_err-take_levels c = λ behind h.
    let p = err_from_is_err_and c.from_residual.result c.from_residual.ensures.1 in
    stopped _ (level_at behind) c.in_err-take_levels.field-0.0 c.from_residual.result (p.1 ∙ ap (λ (z : Stop). Err z) p.2)
    (c.in_err-take_levels.ensures (drop (c.loop-turn.turn-index + 1) c.args.turns.now) behind
    (begun (λ (z : List Turn). Makes (table_making c.args.table.now) z (levels_in c.loop-turn.stack) behind)
    c.args.turns.now c.loop-turn.turn-index _ c.loop-turn-test.true (c.loop-turn.invariant behind h)))

pub loop-turn-preserved : goal.loop-turn-preserved
loop-turn-preserved c = λ behind h.
    c.in_ok-take_levels.ensures (drop (c.loop-turn.turn-index + 1) c.args.turns.now) behind
    (begun (λ (z : List Turn). Makes (table_making c.args.table.now) z (levels_in c.loop-turn.stack) behind)
    c.args.turns.now c.loop-turn.turn-index _ c.loop-turn-test.true (c.loop-turn.invariant behind h))

pub returns : goal.returns
returns c = λ behind h.
    let here = c.loop-turn.invariant behind h in
    c.top.ensures ∙ ap (λ (s : List ℕ). level_at s)
    (ended (table_making c.args.table.now) c.args.turns.now c.loop-turn.turn-index here.0 (levels_in c.loop-turn.stack) behind c.loop-turn-test.false here.1)
