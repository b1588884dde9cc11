-- Statements of the code as plain data, form by form.
use Rattle.std.proofs.Common.{◌≡◌, sym, ap, ◌∙◌, map, None, Some}
use Rattle.std.specs.Prelude.{option_map}
use Rattle.std.proofs.lemmas.Simd.{map-map}
use Rattle.pv_place.specs.declared.place.Place.{Place}
use Rattle.pv_tree.specs.declared.stmt.Stmt.{fold-roll-Stmt}
use Rattle.pv_tree.specs.declared.stmt.Stmt.TheViews as form
use Rattle.pv_tree.specs.declared.stmt.Stmt.TheVariants.{rolls-If, rolls-Case, rolls-For}
use Rattle.pv_tree.specs.declared.stmt.Stmt.TheOpen.{Stmt-F}
use Rattle.pv_tree.specs.Tree.{StmtTree, if_, case_, for_, no_else, else_}
use Rattle.pv_tree.specs.View.{expr_tree, stmt_tree, stmt_step, stmts_of, arms_of, branches_of, else_of}

pub stmt-for : (head : _) (body : _) (place : Place) → stmt_tree (form.For head body place)
    ≡ for_ head.value.var head.value.var_place (expr_tree head.value.first) (expr_tree head.value.last) head.value.by
    (stmts_of (map stmt_tree body.items)) place
stmt-for head body place =
    ap stmt_tree (sym (rolls-For head body place)) ∙ fold-roll-Stmt StmtTree stmt_step (Stmt-F.For head body place)

pub stmt-if : (all : _) (other : _) (place : Place) → stmt_tree (form.If all other place)
    ≡ if_ (arms_of (map (λ a. (expr_tree a.0, stmts_of (map stmt_tree a.1.items))) all.items))
    (else_of (option_map (λ o. stmts_of (map stmt_tree o.value.items)) other)) place
stmt-if all None place =
    ap stmt_tree (sym (rolls-If all None place)) ∙ fold-roll-Stmt StmtTree stmt_step (Stmt-F.If all None place)
    ∙ ap (λ l. if_ (arms_of l) no_else place) (map-map _ _ all.items)
stmt-if all (Some o) place =
    ap stmt_tree (sym (rolls-If all (Some o) place)) ∙ fold-roll-Stmt StmtTree stmt_step (Stmt-F.If all (Some o) place)
    ∙ ap (λ l. if_ (arms_of l) (else_ (stmts_of (map stmt_tree o.value.items))) place) (map-map _ _ all.items)

pub stmt-case : (selector : _) (all : _) (other : _) (place : Place) → stmt_tree (form.Case selector all other place)
    ≡ case_ (expr_tree selector.value) (branches_of (map (λ b. (b.0.items, stmts_of (map stmt_tree b.1.items))) all.items))
    (else_of (option_map (λ o. stmts_of (map stmt_tree o.value.items)) other)) place
stmt-case selector all None place =
    ap stmt_tree (sym (rolls-Case selector all None place)) ∙ fold-roll-Stmt StmtTree stmt_step (Stmt-F.Case selector all None place)
    ∙ ap (λ l. case_ (expr_tree selector.value) (branches_of l) no_else place) (map-map _ _ all.items)
stmt-case selector all (Some o) place =
    ap stmt_tree (sym (rolls-Case selector all (Some o) place)) ∙ fold-roll-Stmt StmtTree stmt_step (Stmt-F.Case selector all (Some o) place)
    ∙ ap (λ l. case_ (expr_tree selector.value) (branches_of l) (else_ (stmts_of (map stmt_tree o.value.items))) place) (map-map _ _ all.items)
