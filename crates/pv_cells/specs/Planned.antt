-- Of which project a plan is, and what it has to be.
use Rattle.std.specs.Prelude.{◌≡◌}
use Rattle.pv_types.specs.Named.{types_of}
use Rattle.pv_tree.specs.Scopes.{ProjectTree}
use Rattle.pv_tree.specs.NamedTypes.{types_of_project}
use Rattle.pv_mean.specs.ProjectSizes.{project_tree}
use Rattle.pv_mean.specs.Sized.{sized_project}
use Rattle.pv_names.specs.Tables.{project_of}
use Rattle.pv_cells.specs.declared.plan.Plan.{Plan}

abbrev pub planned : Plan → ProjectTree
planned p = project_tree p.project.now

-- its named types, its tables and its sizes are those of its project
pub record IsPlan (p : Plan) : Type 0 where
  pub typed : types_of p.types ≡ types_of_project (planned p)
  pub named : project_of p.tables.now ≡ planned p
  pub sized : sized_project p.sizes ≡ planned p
