use Rattle.std.proofs.Common.{ap, ◌∙◌, sym, map}
use Rattle.pv_tree.specs.Tree.{scl, stl}
use Rattle.pv_tree.specs.View.{body_tree, instr_tree, stmt_trees}
use Rattle.pv_names.specs.InScope.{scope_of}
use Rattle.pv_rules_code.proofs.Meeting.{on_ok}
use Rattle.pv_rules_code.proofs.Nears.{scl_body, stl_body}
use Rattle.pv_rules_code.proofs.on_statements.add_body.Goals as goal

pub returns-in-Scl : goal.returns-in-Scl
returns-in-Scl c =
    on_ok c.walk_all.result (λ has. scl_body (scope_of c.args.scope.now) (stmt_trees c.as_slice.result.now) c.args.near.now c.walk_all.new.near
    (ap body_tree c.in-Scl.is ∙ ap (λ l. scl (stmt_trees l)) (sym c.as_slice.ensures.value)) has) c.walk_all.ensures

pub returns-in-Stl : goal.returns-in-Stl
returns-in-Stl c =
    on_ok c.add_instrs.result (λ has. stl_body (scope_of c.args.scope.now) (map instr_tree c.as_slice-in-Stl.result.now) c.args.near.now c.add_instrs.new.near
    (ap body_tree c.in-Stl.is ∙ ap (λ l. stl (map instr_tree l)) (sym c.as_slice-in-Stl.ensures.value)) has) c.add_instrs.ensures
