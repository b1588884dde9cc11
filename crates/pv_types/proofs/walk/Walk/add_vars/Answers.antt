use Rattle.std.proofs.Common.{subst, OnOk, List}
use Rattle.pv_types.specs.Tree.{VarTree}
use Rattle.pv_types.specs.View.{listed}
use Rattle.pv_types.specs.Leaves.{leaves_of_vars, leaves_of_named}
use Rattle.pv_types.specs.Walk.{Adds, around_view, work_of_vars, work_of_named}
use Rattle.pv_types.proofs.Trees.{from_start}
use Rattle.pv_types.proofs.walk.Walk.add_vars.Goals as goal

pub returns-clause-adds : goal.returns-clause-adds
returns-clause-adds c = λ types.
    subst (λ (l : List VarTree). OnOk c.add_frame.result (Adds types c.args.self.now c.add_frame.new.self
    (leaves_of_vars (leaves_of_named types c.args.levels) (around_view c.args.around) c.args.self.now.path.items (listed l))
    (work_of_vars (work_of_named types c.args.levels) (listed l))))
    (from_start c.args.vars.now) (c.add_frame.ensures.adds types)
