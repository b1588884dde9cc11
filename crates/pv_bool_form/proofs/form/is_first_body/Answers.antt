use Rattle.std.proofs.Common.{List, subst, sym}
use Rattle.pv_bool_form.specs.Wording.{words_of}
use Rattle.pv_tree.specs.declared.stmt.Stmt.{Stmt}
use Rattle.pv_tree.specs.declared.block.Body.{Body}
use Rattle.pv_tree.specs.View.{body_tree, stmt_trees}
use Rattle.pv_bool_form.specs.FirstForm.{AreFirstStmts, IsFirstBody}
use Rattle.pv_bool_form.proofs.Places.{stmts_seen}
use Rattle.pv_bool_form.proofs.form.is_first_body.Goals as goal

pub returns-in-Scl : goal.returns-in-Scl
returns-in-Scl c =
    let vars = words_of c.args.words.now in
    let seen = stmts_seen vars c.as_slice.result.now in
    let P : List Stmt → Type 0 = λ ss. AreFirstStmts vars (stmt_trees ss) in
    let Q : Body → Type 0 = λ b. IsFirstBody vars (body_tree b) in (
      λ h. subst Q (sym c.in-Scl.is) (subst P c.as_slice.ensures.value (seen.0 (c.are_first_statements.ensures.0 h))),
      λ h. c.are_first_statements.ensures.1 (seen.1 (subst P (sym c.as_slice.ensures.value) (subst Q c.in-Scl.is h))),
    )
