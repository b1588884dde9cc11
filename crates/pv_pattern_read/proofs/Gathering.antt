-- Operands gathered one behind the other.
use Rattle.std.proofs.Common.{◌≡◌, ℕ, suc, ◌+◌, ◌<◌, ◌≤◌, List, [], ◌∷◌, ◌++◌, map, drop, get_or, length, sym, ap, ◌∙◌, append_assoc, arith}
use Rattle.std.proofs.Math.Seq.{drop-cons}
use Rattle.std.proofs.lemmas.List.{append-nil, drop_all}
use Rattle.pv_tree.specs.declared.expr.Expr.{Expr}
use Rattle.pv_tree.specs.declared.expr.Step.{Step}
use Rattle.pv_tree.specs.declared.expr.Operand.{Operand}
use Rattle.pv_tree.specs.Tree.{read, OperandTree}
use Rattle.pv_tree.specs.View.{exprs_of, expr_tree, operand_tree, step_tree, steps_of}
use Rattle.pv_tree.specs.Operands.{operands_in, operands_in_args, operands_in_steps, operands_in_step}
use Rattle.pv_tree.proofs.ForCallers.{operand_seen}

-- two parts, one behind the other
pub gathered_both : (old mid new xs ys all : List OperandTree) → mid ≡ old ++ xs → new ≡ mid ++ ys → all ≡ xs ++ ys → new ≡ old ++ all
gathered_both old mid new xs ys all e f g =
    f ∙ ap (λ l. l ++ ys) e ∙ append_assoc old xs ys ∙ ap (λ l. old ++ l) (sym g)

-- one part more of those that are left
pub gathered_next : (now new part rest left total : List OperandTree) → new ≡ now ++ part → left ≡ part ++ rest → now ++ left ≡ total
    → new ++ rest ≡ total
gathered_next now new part rest left total e f h =
    ap (λ l. l ++ rest) e ∙ append_assoc now part rest ∙ ap (λ l. now ++ l) (sym f) ∙ h

pub args_left : (es : List Expr) (i j : ℕ) (e : Expr) → i < length es → e ≡ get_or es i e → j ≡ i + 1
    → operands_in_args (exprs_of (map expr_tree (drop i es)))
    ≡ operands_in (expr_tree e) ++ operands_in_args (exprs_of (map expr_tree (drop j es)))
args_left es i j e inside is next =
    let k : j ≡ suc i = omega (arith, next) in
    ap (λ l. operands_in_args (exprs_of (map expr_tree l))) (drop-cons es i e inside ∙ ap (λ y. y ∷ drop (suc i) es) (sym is))
    ∙ ap (λ n. operands_in (expr_tree e) ++ operands_in_args (exprs_of (map expr_tree (drop n es)))) (sym k)

pub steps_left : (ss : List Step) (i j : ℕ) (s : Step) → i < length ss → s ≡ get_or ss i s → j ≡ i + 1
    → operands_in_steps (steps_of (map step_tree (drop i ss)))
    ≡ operands_in_step (step_tree s) ++ operands_in_steps (steps_of (map step_tree (drop j ss)))
steps_left ss i j s inside is next =
    let k : j ≡ suc i = omega (arith, next) in
    ap (λ l. operands_in_steps (steps_of (map step_tree l))) (drop-cons ss i s inside ∙ ap (λ y. y ∷ drop (suc i) ss) (sym is))
    ∙ ap (λ n. operands_in_step (step_tree s) ++ operands_in_steps (steps_of (map step_tree (drop n ss)))) (sym k)

-- an operand, and those in its steps
pub operand_first : (o : Operand) → operands_in (read (operand_tree o)) ≡ operand_tree o ∷ operands_in_steps (steps_of (map step_tree o.steps.items))
operand_first o =
    ap (λ t. operands_in (read t)) (operand_seen o) ∙ ap (λ t. t ∷ operands_in_steps (steps_of (map step_tree o.steps.items))) (sym (operand_seen o))

pub gathered_last : (now rest total : List OperandTree) → rest ≡ [] → now ++ rest ≡ total → now ≡ total
gathered_last now rest total none h = sym (append-nil now) ∙ ap (λ l. now ++ l) (sym none) ∙ h

pub no_args_left : (es : List Expr) (i : ℕ) → length es ≤ i → operands_in_args (exprs_of (map expr_tree (drop i es))) ≡ []
no_args_left es i h = ap (λ l. operands_in_args (exprs_of (map expr_tree l))) (drop_all i es h)

pub no_steps_left : (ss : List Step) (i : ℕ) → length ss ≤ i → operands_in_steps (steps_of (map step_tree (drop i ss))) ≡ []
no_steps_left ss i h = ap (λ l. operands_in_steps (steps_of (map step_tree l))) (drop_all i ss h)
