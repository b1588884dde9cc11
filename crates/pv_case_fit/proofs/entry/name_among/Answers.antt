use Rattle.std.proofs.Common.{subst, arith}
use Rattle.pv_tree.specs.View.{expr_tree}
use Rattle.pv_scl_parse.specs.Answers.{AnswersExpression}
use Rattle.pv_case_fit.proofs.NameLaws.{outside_unnamed, syntax_unnamed, deep_unnamed, found_of, none_of}
use Rattle.pv_case_fit.proofs.entry.name_among.Goals as goal

pub expression-requires : goal.expression-requires
expression-requires c = (0, c.requires)

pub returns-in-Ok-clause-found : goal.returns-in-Ok-clause-found
returns-in-Ok-clause-found c =
    found_of c.args.text.now c.args.tokens.now (expr_tree c.in-Ok.tree) c.name_of.result c.requires
    (subst (AnswersExpression c.args.text.now c.args.tokens.now) c.in-Ok.is c.expression.ensures) c.name_of.ensures

pub returns-in-Ok-clause-none : goal.returns-in-Ok-clause-none
returns-in-Ok-clause-none c =
    none_of c.args.text.now c.args.tokens.now (expr_tree c.in-Ok.tree) c.name_of.result
    (subst (AnswersExpression c.args.text.now c.args.tokens.now) c.in-Ok.is c.expression.ensures) c.name_of.ensures

pub returns-in-Err-Outside-clause-none : goal.returns-in-Err-Outside-clause-none
returns-in-Err-Outside-clause-none c = λ name.
    outside_unnamed c.args.text.now c.args.tokens.now c.in-Err-Outside.field-0 c.in-Err-Outside.field-0-0 c.in-Err-Outside.field-0-1 name
    c.in-Err-Outside.field-0-is (subst (AnswersExpression c.args.text.now c.args.tokens.now) c.in-Err-Outside.is c.expression.ensures)

pub returns-in-Err-Syntax-clause-none : goal.returns-in-Err-Syntax-clause-none
returns-in-Err-Syntax-clause-none c = λ name.
    syntax_unnamed c.args.text.now c.args.tokens.now c.in-Err-Syntax.field-0 c.in-Err-Syntax.field-0-0 name c.in-Err-Syntax.field-0-is
    (subst (AnswersExpression c.args.text.now c.args.tokens.now) c.in-Err-Syntax.is c.expression.ensures)

pub returns-in-Err-Deep-clause-none : goal.returns-in-Err-Deep-clause-none
returns-in-Err-Deep-clause-none c = λ name h.
    deep_unnamed c.args.text.now c.args.tokens.now c.in-Err-Deep.field-0 c.in-Err-Deep.field-0-0 (omega arith) c.in-Err-Deep.field-0-is
    (subst (AnswersExpression c.args.text.now c.args.tokens.now) c.in-Err-Deep.is c.expression.ensures)
