use Rattle.std.proofs.Common.{refl, ap, ◌∙◌, ◌++◌, map, subst, ◌≤◌, length, sym}
use Rattle.pv_types.specs.declared.layout.TheConstants.{MAX_LEAVES}
use Rattle.pv_types.specs.View.{var_trees}
use Rattle.pv_tree.specs.View.{block_tree}
use Rattle.pv_mean.specs.LaidOut.{test_of}
use Rattle.pv_cells.specs.Forms.{formed, leaves_among}
use Rattle.pv_cells.specs.Planned.{planned}
use Rattle.pv_cells.proofs.Results.{on_ok}
use Rattle.pv_cells.proofs.OwnCells.{own-few, own-pushed}
use Rattle.pv_cells.proofs.plan.Plan.push_own.Goals as goal

pub push_variables-requires : goal.push_variables-requires
push_variables-requires c =
    let p = planned c.args.self.now in
    let b = block_tree c.args.block.now in
    let t = test_of c.activation_part-part.result in
    record {
      plan = c.requires.plan;
      few = subst (λ vs. length (leaves_among p t (var_trees vs)) ≤ MAX_LEAVES) (sym c.as_slice-vars.ensures.value)
          (own-few p b t (λ s. c.activation_part-part.ensures b s refl) MAX_LEAVES c.requires.few);
    }

pub returns : goal.returns
returns c =
    let p = planned c.args.self.now in
    let b = block_tree c.args.block.now in
    let form = c.args.form in
    let t = test_of c.activation_part-part.result in
    let old = c.args.cells.now.items in
    on_ok c.push_stl.result _ _
    (λ stl. own-pushed form p b t (λ s. c.activation_part-part.ensures b s refl) old c.push_variables.new.cells.items c.push_value.new.cells.items
    c.push_stl.new.cells.items
    (c.in_ok-push_variables.ensures ∙ ap (λ vs. old ++ map (formed form) (leaves_among p t (var_trees vs))) c.as_slice-vars.ensures.value)
    c.in_ok-push_value.ensures stl)
    c.push_stl.ensures
