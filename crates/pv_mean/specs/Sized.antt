-- Of which project sizes are.
use Rattle.pv_tree.specs.Scopes.{ProjectTree}
use Rattle.pv_mean.specs.declared.sizes.Sizes.{Sizes}
use Rattle.pv_mean.specs.ProjectSizes.{project_tree}

abbrev pub sized_project : Sizes → ProjectTree
sized_project s = project_tree s.project.now
