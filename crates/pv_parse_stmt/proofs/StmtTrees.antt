-- What a statement of the code is as plain data, for those that hold lists of pairs with statements.
use Rattle.std.proofs.Common.{◌≡◌, List, [], ◌∷◌, map, Option, Some, None, refl, ap, sym, ◌∙◌}
use Rattle.std.specs.Prelude.{Vec, Box}
use Rattle.std.specs.declared.alloc.Global.{Global}
use Rattle.pv_place.specs.declared.place.Place.{Place}
use Rattle.pv_tree.specs.declared.expr.Expr.{Expr}
use Rattle.pv_tree.specs.declared.stmt.Stmt.{Stmt, fold-roll-Stmt}
use Rattle.pv_tree.specs.declared.stmt.Stmt.TheVariants as form
use Rattle.pv_tree.specs.declared.stmt.Stmt.TheVariants.{rolls-If, rolls-Case}
use Rattle.pv_tree.specs.declared.stmt.Stmt.TheOpen.{Stmt-F}
use Rattle.pv_tree.specs.Tree.{StmtTree, if_, case_, no_else, else_}
use Rattle.pv_tree.specs.View.{expr_tree, stmt_tree, stmt_trees, stmt_step, arms_of, branches_of, else_of}
use Rattle.pv_parse.specs.CodeItems.{ChoiceVec, arm_list, branch_list, else_list}

fused : {X Y Z : Type 0} (f : Y → Z) (g : X → Y) (xs : List X) → map f (map g xs) ≡ map (λ x. f (g x)) xs
fused f g [] = refl
fused f g (x ∷ xs) = ap (λ l. f (g x) ∷ l) (fused f g xs)

pub tree-case : (selector : Box Expr Global) (all : Vec (ChoiceVec × Vec Stmt Global) Global) (other : Option (Box (Vec Stmt Global) Global)) (place : Place)
    → stmt_tree (form.Case selector all other place) ≡ case_ (expr_tree selector.value) (branches_of (branch_list all)) (else_of (else_list other)) place
tree-case selector all None place = ap stmt_tree (sym (rolls-Case selector all None place))
    ∙ fold-roll-Stmt StmtTree stmt_step (Stmt-F.Case selector all None place)
    ∙ ap (λ l. case_ (expr_tree selector.value) (branches_of l) no_else place) (fused _ _ all.items)
tree-case selector all (Some body) place = ap stmt_tree (sym (rolls-Case selector all (Some body) place))
    ∙ fold-roll-Stmt StmtTree stmt_step (Stmt-F.Case selector all (Some body) place)
    ∙ ap (λ l. case_ (expr_tree selector.value) (branches_of l) (else_ (stmt_trees body.value.items)) place) (fused _ _ all.items)

pub tree-if : (all : Vec (Expr × Vec Stmt Global) Global) (other : Option (Box (Vec Stmt Global) Global)) (place : Place)
    → stmt_tree (form.If all other place) ≡ if_ (arms_of (arm_list all)) (else_of (else_list other)) place
tree-if all None place = ap stmt_tree (sym (rolls-If all None place)) ∙ fold-roll-Stmt StmtTree stmt_step (Stmt-F.If all None place)
    ∙ ap (λ l. if_ (arms_of l) no_else place) (fused _ _ all.items)
tree-if all (Some body) place = ap stmt_tree (sym (rolls-If all (Some body) place))
    ∙ fold-roll-Stmt StmtTree stmt_step (Stmt-F.If all (Some body) place)
    ∙ ap (λ l. if_ (arms_of l) (else_ (stmt_trees body.value.items)) place) (fused _ _ all.items)
