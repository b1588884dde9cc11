use Rattle.std.proofs.Common.{Err, subst}
use Rattle.pv_lex.specs.declared.token.Language.TheVariants.{Scl}
use Rattle.pv_tree.specs.View.{expr_tree}
use Rattle.pv_tree.specs.Lexemes.{lexemes_of}
use Rattle.pv_parse.specs.ExprAnswers.{AnswersExpression}
use Rattle.pv_parse_source.proofs.ForCallers.{ends, kinds_before, order_before}
use Rattle.pv_scl_parse.proofs.Endings.{only_expression, fault_at, too_deep}
use Rattle.pv_scl_parse.proofs.Starts.{reads_expressions}
use Rattle.pv_scl_parse.proofs.reading.expression.Goals as goal

pub read_expression-requires-clause-grammar : goal.read_expression-requires-clause-grammar
read_expression-requires-clause-grammar c =
    reads_expressions c.scl_expression-language.result c.scl_actions.result.now c.scl_expression-language.ensures.grammar c.scl_expression-language.ensures.start
    c.scl_actions.ensures

pub read_expression-requires-clause-tokens : goal.read_expression-requires-clause-tokens
read_expression-requires-clause-tokens c =
    let text = c.args.text.now in
    let inner = c.split_at.result.0.now in
    kinds_before Scl c.requires.0 text c.args.tokens.now inner c.requires.1 (ends Scl c.requires.0 text c.args.tokens.now inner c.requires.1 c.split_at.ensures.front)

pub read_expression-requires-clause-order : goal.read_expression-requires-clause-order
read_expression-requires-clause-order c =
    let text = c.args.text.now in
    let inner = c.split_at.result.0.now in
    order_before Scl c.requires.0 text c.args.tokens.now inner c.requires.1 (ends Scl c.requires.0 text c.args.tokens.now inner c.requires.1 c.split_at.ensures.front)

pub returns-in-Ok : goal.returns-in-Ok
returns-in-Ok c =
    let text = c.args.text.now in
    let inner = c.split_at.result.0.now in
    only_expression text c.args.tokens.now inner (expr_tree c.in-Ok.expression)
    (ends Scl c.requires.0 text c.args.tokens.now inner c.requires.1 c.split_at.ensures.front) c.in_default.ensures.none
    (subst (λ answer. AnswersExpression (lexemes_of text inner) answer) c.in-Ok.is c.in_ok-expression.ensures)

pub returns-in-Syntax : goal.returns-in-Syntax
returns-in-Syntax c =
    let text = c.args.text.now in
    let inner = c.split_at.result.0.now in
    fault_at text c.args.tokens.now inner c.in-Syntax.at _
    (ends Scl c.requires.0 text c.args.tokens.now inner c.requires.1 c.split_at.ensures.front) c.in_default.ensures.none
    (subst (λ fault. AnswersExpression (lexemes_of text inner) (Err fault)) c.in-Syntax.is
    (subst (λ answer. AnswersExpression (lexemes_of text inner) answer) c.in-Err.is c.in_ok-expression.ensures))

pub returns-in-Deep : goal.returns-in-Deep
returns-in-Deep c =
    let text = c.args.text.now in
    let inner = c.split_at.result.0.now in
    too_deep text c.args.tokens.now inner c.in-Deep.place
    (ends Scl c.requires.0 text c.args.tokens.now inner c.requires.1 c.split_at.ensures.front) c.in_default.ensures.none
    (subst (λ fault. AnswersExpression (lexemes_of text inner) (Err fault)) c.in-Deep.is
    (subst (λ answer. AnswersExpression (lexemes_of text inner) answer) c.in-Err.is c.in_ok-expression.ensures))
