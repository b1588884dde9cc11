use Rattle.pv_names.specs.Callees.{callee_tree}
use Rattle.pv_names.specs.Entries.{block_of}
use Rattle.pv_names.specs.Tables.{project_of}
use Rattle.pv_cells.specs.Calls.{made_tree}
use Rattle.pv_cells.specs.Planned.{planned}
use Rattle.pv_cells.proofs.Results.{on_ok}
use Rattle.pv_cells.proofs.CallNumbers.{number-pushed, number-none}
use Rattle.pv_cells.proofs.plan.Plan.push_callee.Goals as goal

pub returns-in-Some : goal.returns-in-Some
returns-in-Some c =
    on_ok c.push_number.result _ _
    (number-pushed (planned c.args.self.now) (project_of c.args.self.now.tables.now) c.requires.named (block_of c.args.entry.now) (made_tree c.args.made.now)
    (callee_tree c.callee_of-callee.result) c.number_of_callee.result c.callee_of-callee.ensures c.number_of_callee.ensures c.args.numbers.now.items
    c.push_number.new.numbers.items c.in-Some.number c.in-Some.is)
    c.push_number.ensures

pub returns-in-None : goal.returns-in-None
returns-in-None c =
    number-none (planned c.args.self.now) (project_of c.args.self.now.tables.now) c.requires.named (block_of c.args.entry.now) (made_tree c.args.made.now)
    (callee_tree c.callee_of-callee.result) c.number_of_callee.result c.callee_of-callee.ensures c.number_of_callee.ensures c.args.numbers.now.items c.in-None.is
