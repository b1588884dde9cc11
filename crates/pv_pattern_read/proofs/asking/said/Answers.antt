use Rattle.std.proofs.Common.{subst}
use Rattle.pv_tree.specs.View.{expr_tree}
use Rattle.pv_names.specs.InScope.{scope_of}
use Rattle.pv_pattern_read.specs.Answers.{AnswersExpr}
use Rattle.pv_pattern_read.proofs.TextLaws.{of_expr, none_is, some_is}
use Rattle.pv_pattern_read.proofs.asking.said.Goals as goal

pub returns-in_default : goal.returns-in_default
returns-in_default c = none_is c.args.text.now _ c.in_default.is c.in_ok-e.ensures.none

pub returns-in-Ok : goal.returns-in-Ok
returns-in-Ok c =
    subst (AnswersExpr (scope_of c.args.scope.now) (expr_tree c.in-Some.e)) c.in-Ok.is c.asked.ensures c.args.text.now
    (some_is c.args.text.now _ c.in-Some.e c.in-Some.is c.in_ok-e.ensures.found)

pub returns-in-Err : goal.returns-in-Err
returns-in-Err c =
    of_expr (scope_of c.args.scope.now) c.args.text.now (expr_tree c.in-Some.e) c.in-Err.fault
    (some_is c.args.text.now _ c.in-Some.e c.in-Some.is c.in_ok-e.ensures.found)
    (subst (AnswersExpr (scope_of c.args.scope.now) (expr_tree c.in-Some.e)) c.in-Err.is c.asked.ensures)
