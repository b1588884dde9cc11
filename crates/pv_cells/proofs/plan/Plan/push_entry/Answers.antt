use Rattle.std.proofs.Common.{sym, ap, ◌∙◌, ◌++◌, map}
use Rattle.pv_types.specs.declared.layout.TheConstants.{MAX_LEAVES}
use Rattle.pv_types.specs.View.{var_trees}
use Rattle.pv_tree.specs.View.{block_tree}
use Rattle.pv_tree.specs.Scopes.{is_fb, is_of_instance}
use Rattle.pv_cells.specs.declared.variables.Form.TheVariants.{Visible}
use Rattle.pv_cells.specs.Forms.{formed, leaves_among}
use Rattle.pv_cells.specs.Planned.{planned}
use Rattle.pv_cells.proofs.Results.{on_ok}
use Rattle.pv_cells.proofs.OwnCells.{entry-formed, entry-few}
use Rattle.pv_cells.proofs.plan.Plan.push_entry.Goals as goal

pub push_variables-requires : goal.push_variables-requires
push_variables-requires c =
    record {
      plan = c.requires.plan;
      few = entry-few (planned c.args.self.now) (block_tree c.args.block.now) (ap is_fb c.in-Fb.is) (var_trees c.as_slice-vars.result.now)
          (ap var_trees c.as_slice-vars.ensures.value) MAX_LEAVES c.requires.few;
    }

pub returns-in-Fb : goal.returns-in-Fb
returns-in-Fb c =
    on_ok c.push_variables.result _ _
    (λ e. e ∙ ap (λ l. c.args.cells.now.items ++ map (formed Visible) (leaves_among (planned c.args.self.now) is_of_instance l))
    (ap var_trees c.as_slice-vars.ensures.value)
    ∙ ap (λ l. c.args.cells.now.items ++ l) (sym (entry-formed (planned c.args.self.now) (block_tree c.args.block.now) (ap is_fb c.in-Fb.is))))
    c.push_variables.ensures
