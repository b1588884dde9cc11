use Rattle.std.proofs.Common.{option_map, ap, sym, ◌∙◌}
use Rattle.pv_types.specs.View.{vars_tree}
use Rattle.pv_tree.specs.View.{block_tree}
use Rattle.pv_names.specs.Entries.{block_of}
use Rattle.pv_cells.specs.Planned.{planned}
use Rattle.pv_cells.proofs.DataCells.{held-there, none-there, no-data}
use Rattle.pv_cells.proofs.plan.Plan.data_cells.Goals as goal

pub held_cells-requires : goal.held_cells-requires
held_cells-requires c =
    let e = held-there (block_tree c.block.result.now) (block_of c.args.entry.now) (vars_tree c.in-Some.held) c.block.ensures
    (sym (ap (option_map vars_tree) c.in-Some.is) ∙ c.in_ok-found.ensures) in
    record { plan = c.requires.plan; kind = e.0; held = e.1; few = c.requires.few }

pub returns-in-None : goal.returns-in-None
returns-in-None c =
    c.new.ensures.items ∙ no-data (planned c.args.self.now) (block_of c.args.entry.now)
    (none-there (block_tree c.block.result.now) (block_of c.args.entry.now) c.block.ensures
    (sym (ap (option_map vars_tree) c.in-None.is) ∙ c.in_ok-found.ensures))
