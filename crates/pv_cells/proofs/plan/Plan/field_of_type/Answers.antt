use Rattle.std.proofs.Common.{ap, ◌∙◌}
use Rattle.pv_types.specs.View.{var_trees}
use Rattle.pv_mean.specs.Sized.{sized_project}
use Rattle.pv_names.specs.Entries.{block_of}
use Rattle.pv_names.specs.Tables.{project_of}
use Rattle.pv_cells.specs.Planned.{planned}
use Rattle.pv_cells.proofs.DataFields.{field-found, field-missing}
use Rattle.pv_cells.proofs.plan.Plan.field_of_type.Goals as goal

pub returns-in-Some : goal.returns-in-Some
returns-in-Some c =
    c.variable.ensures
    ∙ field-found (planned c.args.self.now) (project_of c.args.self.now.tables.now) (sized_project c.args.self.now.sizes) c.requires.named
    c.requires.sized (block_of c.in-Some.found.now) (var_trees c.as_slice-vars.result.now) c.args.type_name.now.key c.args.name.now.key
    c.in-Some.ensures (ap var_trees c.as_slice-vars.ensures.value ∙ ap (λ b. b.vars) c.block.ensures)

pub returns-in-None : goal.returns-in-None
returns-in-None c =
    field-missing (planned c.args.self.now) (project_of c.args.self.now.tables.now) (sized_project c.args.self.now.sizes) c.requires.named
    c.requires.sized c.args.type_name.now.key c.args.name.now.key c.in-None.ensures
