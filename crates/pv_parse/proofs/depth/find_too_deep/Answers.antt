use Rattle.std.proofs.Common.{◌≡◌, ◌≤◌, ℕ, Err, map, ap, ◌∙◌, sym, subst}
use Rattle.std.proofs.lemmas.Result.{err_from_is_err_and}
use Rattle.pv_tree.specs.Lexemes.{lexemes_of}
use Rattle.pv_tree.specs.Nesting.{most_levels}
use Rattle.pv_parse.specs.declared.stack.Stop.{Stop}
use Rattle.pv_parse.specs.Shades.{place_at}
use Rattle.pv_parse.specs.Levels.{levels_of, level_at}
use Rattle.pv_parse.proofs.LevelLaws.{makes_levels, shallow}
use Rattle.pv_parse.proofs.Taking.{stopped}
use Rattle.pv_parse.proofs.depth.find_too_deep.Goals as goal

pub returns-in_err-levels : goal.returns-in_err-levels
returns-in_err-levels c = λ text behind h.
    let p = err_from_is_err_and c.from_residual.result c.from_residual.ensures.1 in
    stopped _ (place_at most_levels behind) c.in_err-levels.field-0.0 c.from_residual.result (p.1 ∙ ap (λ (z : Stop). Err z) p.2)
    (c.in_err-levels.ensures (map levels_of behind)
    (makes_levels c.args.actions.now c.args.turns.now (lexemes_of text c.args.tokens.now) behind h))

pub returns-then-levels-le-MOST_LEVELS : goal.returns-then-levels-le-MOST_LEVELS
returns-then-levels-le-MOST_LEVELS c = λ text behind h.
    let same : c.in_ok-levels.levels ≡ level_at (map levels_of behind) =
    c.in_ok-levels.ensures (map levels_of behind) (makes_levels c.args.actions.now c.args.turns.now (lexemes_of text c.args.tokens.now) behind h) in
    sym (shallow behind (subst (λ (z : ℕ). z ≤ most_levels) same c.if-levels-le-MOST_LEVELS.true))
