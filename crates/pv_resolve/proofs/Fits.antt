-- Literals, and the parts of what fits, one by one.
use Rattle.std.proofs.Common.{◌≡◌, ℕ, zero, suc, ◌<◌, ℤ, List, [], ◌∷◌, length, map, get_or, Some, None, sym, ap, subst, ◌∙◌, arith}
use Rattle.std.specs.Prelude.{Option, FitsSigned, Result, Ok, Err, IfOk, IfErr, IsErrAnd}
use Rattle.std.specs.Int.{w64}
use Rattle.std.proofs.lemmas.Option.{none-some}
use Rattle.pv_word.specs.declared.types.Ty.{Ty}
use Rattle.pv_place.specs.declared.place.Place.{Place}
use Rattle.pv_tree.specs.declared.expr.Expr.{Expr, fold-roll-Expr}
use Rattle.pv_tree.specs.declared.expr.Expr.TheVariants.{Lit, rolls-Lit}
use Rattle.pv_tree.specs.declared.expr.Expr.TheOpen.{Expr-F}
use Rattle.pv_tree.specs.declared.expr.Step.{Step}
use Rattle.pv_tree.specs.declared.expr.UnaryOp.{UnaryOp}
use Rattle.pv_tree.specs.Tree.{ExprTree, lit, read, unary, binary, std, paren, OperandTree, StepTree}
use Rattle.pv_tree.specs.Types.{Written, signed, literal_of}
use Rattle.pv_tree.specs.View.{expr_step, step_step, operand_step, expr_tree, step_tree, exprs_of, steps_of}
use Rattle.pv_resolve.specs.declared.fault.ResolveFault.{ResolveFault}
use Rattle.pv_resolve.specs.declared.fault.ResolveFault.TheVariants.{NoMemory}
use Rattle.pv_resolve.specs.Rooms.{FitsWhere, FitsExpr, FitsArgs, FitsSteps, FitsStep}

-- ---- literals

where_fits : (o : Option Written) (w : Written) (rest : Type 0) → o ≡ Some w → FitsWhere o rest → FitsSigned w64 w.value
where_fits None w rest is h = absurd (none-some w is)
where_fits (Some x) w rest is h = let same : x ≡ w = cc in subst (λ (y : Written). FitsSigned w64 y.value) same h

pub literal_fits : (e : ExprTree) (w : Written) → literal_of e ≡ Some w → FitsExpr e → FitsSigned w64 w.value
literal_fits (lit ty value place) w is h =
    let same : (record { ty = ty; value = value }) ≡ w = cc in subst (λ (x : Written). FitsSigned w64 x.value) same h
literal_fits (read o) w is h = absurd (none-some w is)
literal_fits (unary op place arg) w is h = where_fits (signed op (literal_of arg)) w (FitsExpr arg) is h
literal_fits (binary op place left right) w is h = absurd (none-some w is)
literal_fits (std function place args) w is h = absurd (none-some w is)
literal_fits (paren place inner) w is h = literal_fits inner w is h

-- what is written as one is a literal
pub lit_seen : (e : Expr) (ty : Option Ty) (value : ℤ) (place : Place) → e ≡ Lit ty value place → expr_tree e ≡ lit ty value place
lit_seen e ty value place is =
    ap expr_tree is ∙ (ap expr_tree (sym (rolls-Lit ty value place))
    ∙ fold-roll-Expr ExprTree StepTree OperandTree expr_step step_step operand_step (Expr-F.Lit ty value place))

pub no_lit : (e : ExprTree) (ty : Option Ty) (value : ℤ) (place : Place) → e ≡ lit ty value place → None ≡ literal_of e → ⊥
no_lit e ty value place is none =
    none-some (record { ty = ty; value = value }) (none ∙ ap literal_of is)

-- ---- the parts of what fits

arg_fits : (e arg : ExprTree) (op : UnaryOp) (place : Place) (o : Option Written) → o ≡ None → FitsWhere o (FitsExpr arg) → FitsExpr arg
arg_fits e arg op place None is h = h
arg_fits e arg op place (Some w) is h = absurd (none-some w (sym is))

pub unary_fits : (e arg : ExprTree) (op : UnaryOp) (place : Place) → e ≡ unary op place arg → None ≡ literal_of e → FitsExpr e → FitsExpr arg
unary_fits e arg op place is none h =
    arg_fits e arg op place (signed op (literal_of arg)) (sym (none ∙ ap literal_of is)) (subst FitsExpr is h)

pub each_arg_fits : (items : List Expr) (i : ℕ) (x : Expr) → i < length items → x ≡ get_or items i x → FitsArgs (exprs_of (map expr_tree items))
    → FitsExpr (expr_tree x)
each_arg_fits [] i x lt is h = absurd (omega (arith, lt))
each_arg_fits (y ∷ ys) zero x lt is h = subst (λ z. FitsExpr (expr_tree z)) (sym is) h.0
each_arg_fits (y ∷ ys) (suc i) x lt is h = each_arg_fits ys i x (omega (arith, lt)) is h.1

pub each_step_fits : (items : List Step) (i : ℕ) (x : Step) → i < length items → x ≡ get_or items i x → FitsSteps (steps_of (map step_tree items))
    → FitsStep (step_tree x)
each_step_fits [] i x lt is h = absurd (omega (arith, lt))
each_step_fits (y ∷ ys) zero x lt is h = subst (λ z. FitsStep (step_tree z)) (sym is) h.0
each_step_fits (y ∷ ys) (suc i) x lt is h = each_step_fits ys i x (omega (arith, lt)) is h.1

-- ---- what stops for want of memory stops so

pub failed : {T : Type 0} (r : Result T ResolveFault) (stop : ResolveFault) → IsErrAnd r (λ e. e ≡ stop) → stop ≡ NoMemory
    → IfErr r (λ e. e ≡ NoMemory)
failed (Ok x) stop is same = tt
failed (Err e) stop is same = is ∙ same

pub failed_both : {T : Type 0} (r : Result T ResolveFault) (stop : ResolveFault) (Q : T → Type 0) → IsErrAnd r (λ e. e ≡ stop) → stop ≡ NoMemory
    → IfErr r (λ e. e ≡ NoMemory) × IfOk r Q
failed_both (Ok x) stop Q is same = absurd is
failed_both (Err e) stop Q is same = (is ∙ same, tt)
