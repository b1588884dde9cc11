use Rattle.std.proofs.Common.{option_map, ap, ◌∙◌}
use Rattle.pv_mean.specs.Layout as layout
use Rattle.pv_mean.specs.Cells.{started_from}
use Rattle.pv_mean.specs.LaidOut.{laid_tree, capped_laid}
use Rattle.pv_names.specs.Entries.{block_of}
use Rattle.pv_cells.specs.Planned.{planned}
use Rattle.pv_cells.proofs.DataFields.{started-made}
use Rattle.pv_cells.proofs.plan.Plan.started.Goals as goal

pub returns : goal.returns
returns c =
    started-made (planned c.args.self.now) (layout.data_type (block_of c.args.entry.now)) c.args.operand.now (option_map laid_tree c.all_behind.result)
    (option_map laid_tree c.root_of_start-root.result) c.as_slice.result.now
    (c.root_of_start-root.ensures ∙ ap (λ r. option_map capped_laid (started_from (planned c.args.self.now)
    (layout.data_type (block_of c.args.entry.now)) r)) c.deref.ensures) c.as_slice.ensures.value c.all_behind.ensures
