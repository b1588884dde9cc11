-- Expressions, operands and steps of the code as plain data, form by form: what `fold` gives of each.
use Rattle.std.proofs.Common.{◌≡◌, map, sym, ap, ◌∙◌, List}
use Rattle.pv_place.specs.declared.place.Place.{Place}
use Rattle.pv_types.specs.declared.name.Name.{Name}
use Rattle.pv_tree.specs.declared.expr.Expr.{Expr, fold-roll-Expr}
use Rattle.pv_tree.specs.declared.expr.Expr.TheViews as form
use Rattle.pv_tree.specs.declared.expr.Expr.TheVariants.{rolls-Read, rolls-Paren, rolls-Unary, rolls-Binary, rolls-Std}
use Rattle.pv_tree.specs.declared.expr.Expr.TheOpen.{Expr-F, Step-F}
use Rattle.pv_tree.specs.declared.expr.Expr.TheFolds.{fold_out-Operand}
use Rattle.pv_tree.specs.declared.expr.Operand.{Operand}
use Rattle.pv_tree.specs.declared.expr.Step.{Step, fold-roll-Step}
use Rattle.pv_tree.specs.declared.expr.Step.TheVariants as step
use Rattle.pv_tree.specs.declared.expr.Step.TheVariants.{rolls-Field, rolls-Index}
use Rattle.pv_tree.specs.Tree.{ExprTree, StepTree, OperandTree, read, paren, operand, field, index, unary, binary, std}
use Rattle.pv_tree.specs.Things.{place_of_operand}
use Rattle.pv_tree.specs.View.{expr_step, step_step, operand_step, expr_tree, operand_tree, step_tree, steps_of, exprs_of}
use Rattle.pv_tree.specs.declared.expr.UnaryOp.{UnaryOp}
use Rattle.pv_tree.specs.declared.expr.BinaryOp.{BinaryOp}
use Rattle.pv_tree.specs.declared.expr.StdFunction.{StdFunction}

pub operand_seen : (o : Operand) → operand_tree o ≡ operand o.root.value (steps_of (map step_tree o.steps.items)) o.place
operand_seen o = fold_out-Operand ExprTree StepTree OperandTree expr_step step_step operand_step o

pub place_seen : (o : Operand) → o.place ≡ place_of_operand (operand_tree o)
place_seen o = sym (ap place_of_operand (operand_seen o))

expr-read : (o : Operand) → expr_tree (form.Read o) ≡ read (operand_tree o)
expr-read o = ap expr_tree (sym (rolls-Read o))
    ∙ fold-roll-Expr ExprTree StepTree OperandTree expr_step step_step operand_step (Expr-F.Read o)

pub read_seen : (e : Expr) (o : Operand) → e ≡ form.Read o → expr_tree e ≡ read (operand_tree o)
read_seen e o is = ap expr_tree is ∙ expr-read o

expr-paren : (place : Place) (inner : _) → expr_tree (form.Paren place inner) ≡ paren place (expr_tree inner.value)
expr-paren place inner = ap expr_tree (sym (rolls-Paren place inner))
    ∙ fold-roll-Expr ExprTree StepTree OperandTree expr_step step_step operand_step (Expr-F.Paren place inner)

pub paren_seen : (e : Expr) (place : Place) (inner : _) (x : Expr) → e ≡ form.Paren place inner → x ≡ inner.value
    → expr_tree e ≡ paren place (expr_tree x)
paren_seen e place inner x is same = ap expr_tree is ∙ expr-paren place inner ∙ ap (λ y. paren place (expr_tree y)) (sym same)

step-field : (name : Name) (place : Place) → step_tree (step.Field name place) ≡ field name place
step-field name place = ap step_tree (sym (rolls-Field name place))
    ∙ fold-roll-Step ExprTree StepTree OperandTree expr_step step_step operand_step (Step-F.Field name place)

pub field_seen : (s : Step) (name : Name) (place : Place) → s ≡ step.Field name place → step_tree s ≡ field name place
field_seen s name place is = ap step_tree is ∙ step-field name place

step-index : (e : _) (place : Place) → step_tree (step.Index e place) ≡ index (expr_tree e.value) place
step-index e place = ap step_tree (sym (rolls-Index e place))
    ∙ fold-roll-Step ExprTree StepTree OperandTree expr_step step_step operand_step (Step-F.Index e place)

pub index_seen : (s : Step) (e : _) (place : Place) (x : Expr) → s ≡ step.Index e place → x ≡ e.value → step_tree s ≡ index (expr_tree x) place
index_seen s e place x is same = ap step_tree is ∙ step-index e place ∙ ap (λ y. index (expr_tree y) place) (sym same)

expr-unary : (op : UnaryOp) (place : Place) (arg : _) → expr_tree (form.Unary op place arg) ≡ unary op place (expr_tree arg.value)
expr-unary op place arg = ap expr_tree (sym (rolls-Unary op place arg))
    ∙ fold-roll-Expr ExprTree StepTree OperandTree expr_step step_step operand_step (Expr-F.Unary op place arg)

expr-std : (function : StdFunction) (place : Place) (args : _)
    → expr_tree (form.Std function place args) ≡ std function place (exprs_of (map expr_tree args.items))
expr-std function place args = ap expr_tree (sym (rolls-Std function place args))
    ∙ fold-roll-Expr ExprTree StepTree OperandTree expr_step step_step operand_step (Expr-F.Std function place args)

pub unary_seen : (e : Expr) (op : UnaryOp) (place : Place) (arg : _) (inner : Expr) → e ≡ form.Unary op place arg → inner ≡ arg.value
    → expr_tree e ≡ unary op place (expr_tree inner)
unary_seen e op place arg inner is same = ap expr_tree is ∙ expr-unary op place arg ∙ ap (λ x. unary op place (expr_tree x)) (sym same)

pub std_seen : (e : Expr) (function : StdFunction) (place : Place) (args : _) (all : List Expr) → e ≡ form.Std function place args
    → all ≡ args.items
    → expr_tree e ≡ std function place (exprs_of (map expr_tree all))
std_seen e function place args all is same =
    ap expr_tree is ∙ expr-std function place args ∙ ap (λ l. std function place (exprs_of (map expr_tree l))) (sym same)

expr-binary : (op : BinaryOp) (place : Place) (left right : _)
    → expr_tree (form.Binary op place left right) ≡ binary op place (expr_tree left.value) (expr_tree right.value)
expr-binary op place left right = ap expr_tree (sym (rolls-Binary op place left right))
    ∙ fold-roll-Expr ExprTree StepTree OperandTree expr_step step_step operand_step (Expr-F.Binary op place left right)

pub binary_seen : (e : Expr) (op : BinaryOp) (place : Place) (left right : _) (l r : Expr) → e ≡ form.Binary op place left right → l ≡ left.value
    → r ≡ right.value
    → expr_tree e ≡ binary op place (expr_tree l) (expr_tree r)
binary_seen e op place left right l r is here there =
    ap expr_tree is ∙ expr-binary op place left right
    ∙ ap (λ x. binary op place (expr_tree x) (expr_tree right.value)) (sym here)
    ∙ ap (λ x. binary op place (expr_tree l) (expr_tree x)) (sym there)
