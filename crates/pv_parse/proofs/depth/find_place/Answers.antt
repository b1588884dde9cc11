use Rattle.std.proofs.Common.{◌+◌, Err, List, drop, ap, ◌∙◌}
use Rattle.std.proofs.lemmas.Result.{err_from_is_err_and}
use Rattle.pv_ll.specs.declared.turn.Turn.{Turn}
use Rattle.pv_tree.specs.Lexemes.{lexemes_of}
use Rattle.pv_tree.specs.Nesting.{most_levels}
use Rattle.pv_parse.specs.declared.stack.Stop.{Stop}
use Rattle.pv_parse.specs.Deeds.{kinded}
use Rattle.pv_parse.specs.Shades.{Shade, shades_of, place_at}
use Rattle.pv_parse.specs.ItemShades.{shade_making}
use Rattle.pv_parse.specs.Building.{Plays}
use Rattle.pv_parse.proofs.Taking.{begun, stopped, ended}
use Rattle.pv_parse.proofs.depth.find_place.Goals as goal

pub returns-in_err-rest : goal.returns-in_err-rest
returns-in_err-rest c = λ text behind h.
    let p = err_from_is_err_and c.from_residual.result c.from_residual.ensures.1 in
    stopped _ (place_at most_levels behind) c.in_err-rest.field-0.0 c.from_residual.result (p.1 ∙ ap (λ (z : Stop). Err z) p.2)
    (c.in_err-rest.ensures text (drop (c.loop-turn.turn-index + 1) c.args.turns.now) behind
    (begun (λ (z : List Turn). Plays (shade_making c.args.actions.now) z (lexemes_of text c.loop-turn.rest.now) (shades_of c.loop-turn.stack) behind)
    c.args.turns.now c.loop-turn.turn-index _ c.loop-turn-test.true (c.loop-turn.invariant text behind h)))

pub loop-turn-preserved : goal.loop-turn-preserved
loop-turn-preserved c = λ text behind h.
    c.in_ok-rest.ensures text (drop (c.loop-turn.turn-index + 1) c.args.turns.now) behind
    (begun (λ (z : List Turn). Plays (shade_making c.args.actions.now) z (lexemes_of text c.loop-turn.rest.now) (shades_of c.loop-turn.stack) behind)
    c.args.turns.now c.loop-turn.turn-index _ c.loop-turn-test.true (c.loop-turn.invariant text behind h))

pub returns : goal.returns
returns c = λ text behind h.
    let here = c.loop-turn.invariant text behind h in
    c.too_deep.ensures ∙ ap (λ (s : List Shade). place_at most_levels s)
    (ended (shade_making c.args.actions.now) c.args.turns.now c.loop-turn.turn-index (kinded here.0 (lexemes_of text c.loop-turn.rest.now))
    (shades_of c.loop-turn.stack) behind c.loop-turn-test.false here.1)
