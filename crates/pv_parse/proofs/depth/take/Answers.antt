use Rattle.std.proofs.Common.{◌∷◌, List, ap, ◌∙◌, sym}
use Rattle.pv_lex.specs.declared.token.Token.{Token}
use Rattle.pv_tree.specs.Lexemes.{lexeme_of, lexemes_of}
use Rattle.pv_parse.specs.declared.action.Action.{Action}
use Rattle.pv_parse.specs.declared.shade.Shading.{Shading}
use Rattle.pv_parse.specs.Shades.{Shade, shade_of_token, sink, shades_of}
use Rattle.pv_parse.specs.ItemShades.{shading_of, shade_by}
use Rattle.pv_parse.proofs.Taking.{passed, left}
use Rattle.pv_parse.proofs.depth.take.Goals as goal

pub returns-in_ok-push-in-Pass : goal.returns-in_ok-push-in-Pass
returns-in_ok-push-in-Pass c = λ text.
    passed shade_of_token (shade_by c.args.actions.now) c.args.turn (lexeme_of text c.in-Some.token.now)
    (lexemes_of text c.in-Some.others.now) (lexemes_of text c.args.tokens.now) (shades_of c.args.stack.now)
    (shades_of c.push.new.stack) c.in-Pass.is
    (ap (λ (z : List Token). lexemes_of text z) c.in-Some.ensures.cases.0)
    (c.in_ok-push-in-Pass.ensures ∙ ap (λ (z : Shade). z ∷ shades_of c.args.stack.now) (c.token_shade.ensures text))

pub returns-in_ok-sink-in-Leave : goal.returns-in_ok-sink-in-Leave
returns-in_ok-sink-in-Leave c = λ text.
    left shade_of_token (shade_by c.args.actions.now) c.args.turn c.in-Leave.k (lexemes_of text c.args.tokens.now) (shades_of c.args.stack.now)
    (shades_of c.sink.new.stack) c.in-Leave.is
    (ap (λ (z : Action). sink (shading_of z) (shades_of c.args.stack.now)) (sym c.action_at.ensures)
    ∙ ap (λ (z : Shading). sink z (shades_of c.args.stack.now)) (sym c.shading.ensures) ∙ c.in_ok-sink-in-Leave.ensures)
