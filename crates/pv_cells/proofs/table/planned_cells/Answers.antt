use Rattle.std.proofs.Common.{map, ap}
use Rattle.pv_tree.specs.View.{operand_tree}
use Rattle.pv_mean.specs.AreaBytes.{bytes_of}
use Rattle.pv_mean.specs.ProjectSizes.{project_tree}
use Rattle.pv_cells.specs.Planned.{planned}
use Rattle.pv_cells.proofs.TableParts.{tabled-of}
use Rattle.pv_cells.proofs.table.planned_cells.Goals as goal

pub returns : goal.returns
returns c =
    let named = map operand_tree c.args.named.now in
    tabled-of (planned c.in_ok-plan.plan) (project_tree c.args.project.now) c.args.entry (bytes_of (planned c.in_ok-plan.plan) named)
    (bytes_of (project_tree c.args.project.now) named) c.drawn_cells.result c.in_ok-plan.ensures.project
    (ap (λ p. bytes_of p named) c.in_ok-plan.ensures.project) c.drawn_cells.ensures
