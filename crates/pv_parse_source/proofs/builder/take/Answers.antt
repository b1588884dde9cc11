use Rattle.std.proofs.Common.{◌∷◌, List, ap, ◌∙◌, sym}
use Rattle.pv_lex.specs.declared.token.Token.{Token}
use Rattle.pv_tree.specs.Lexemes.{Lexeme, lexeme_of, lexemes_of}
use Rattle.pv_parse.specs.declared.action.Action.{Action}
use Rattle.pv_parse.specs.Items.{stack_of, token}
use Rattle.pv_parse.specs.Deeds.{deed, reduce_by}
use Rattle.pv_parse.proofs.ForCallers.{passed, left}
use Rattle.pv_parse_source.proofs.builder.take.Goals as goal

pub returns-in_ok-push-in-Pass : goal.returns-in_ok-push-in-Pass
returns-in_ok-push-in-Pass c =
    passed token (reduce_by c.args.actions.now) c.args.turn (lexeme_of c.args.text.now c.in-Some.token.now)
    (lexemes_of c.args.text.now c.in-Some.others.now) (lexemes_of c.args.text.now c.args.tokens.now) (stack_of c.args.stack.now)
    (stack_of c.push.new.stack) c.in-Pass.is
    (ap (λ (z : List Token). lexemes_of c.args.text.now z) c.in-Some.ensures.cases.0)
    (c.in_ok-push-in-Pass.ensures ∙ ap (λ (z : Lexeme). token z ∷ stack_of c.args.stack.now) c.sliced.ensures)

pub returns-in_ok-act-in-Leave : goal.returns-in_ok-act-in-Leave
returns-in_ok-act-in-Leave c =
    left token (reduce_by c.args.actions.now) c.args.turn c.in-Leave.k (lexemes_of c.args.text.now c.args.tokens.now) (stack_of c.args.stack.now)
    (stack_of c.act.new.stack) c.in-Leave.is
    (ap (λ (z : Action). deed z (stack_of c.args.stack.now)) (sym c.action_at.ensures) ∙ c.in_ok-act-in-Leave.ensures)
