use Rattle.std.proofs.Common.{subst}
use Rattle.pv_scl_parse.specs.Answers.{AnswersExpression}
use Rattle.pv_pattern_read.proofs.Telling.{outside_unread, syntax_unread, deep_unread}
use Rattle.pv_pattern_read.proofs.text.expression_among.Goals as goal

pub expression-requires : goal.expression-requires
expression-requires c = (0, c.requires)

pub returns-in-Ok-clause-found : goal.returns-in-Ok-clause-found
returns-in-Ok-clause-found c =
    (subst (AnswersExpression c.args.text.now c.args.tokens.now) c.in-Ok.is c.expression.ensures).reads

pub returns-in-Err-Outside-clause-none : goal.returns-in-Err-Outside-clause-none
returns-in-Err-Outside-clause-none c = λ e.
    outside_unread c.args.text.now c.args.tokens.now c.in-Err-Outside.field-0 c.in-Err-Outside.field-0-0 c.in-Err-Outside.field-0-1 e
    c.in-Err-Outside.field-0-is (subst (AnswersExpression c.args.text.now c.args.tokens.now) c.in-Err-Outside.is c.expression.ensures)

pub returns-in-Err-Syntax-clause-none : goal.returns-in-Err-Syntax-clause-none
returns-in-Err-Syntax-clause-none c = λ e.
    syntax_unread c.args.text.now c.args.tokens.now c.in-Err-Syntax.field-0 c.in-Err-Syntax.field-0-0 e c.in-Err-Syntax.field-0-is
    (subst (AnswersExpression c.args.text.now c.args.tokens.now) c.in-Err-Syntax.is c.expression.ensures)

pub returns-in-Err-Deep-clause-none : goal.returns-in-Err-Deep-clause-none
returns-in-Err-Deep-clause-none c = λ e.
    deep_unread c.tokens_read_as_one_expression.ensures c.args.text.now c.args.tokens.now c.in-Err-Deep.field-0 c.in-Err-Deep.field-0-0 e
    c.in-Err-Deep.field-0-is (subst (AnswersExpression c.args.text.now c.args.tokens.now) c.in-Err-Deep.is c.expression.ensures)
