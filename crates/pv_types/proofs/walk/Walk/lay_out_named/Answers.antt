use Rattle.std.proofs.Common.{subst, OnOk, ℕ, List}
use Rattle.pv_types.specs.declared.leaf.Leaf.{Leaf}
use Rattle.pv_types.specs.Named.{types_of}
use Rattle.pv_types.specs.View.{var_trees, listed}
use Rattle.pv_types.specs.Leaves.{leaves_of_named}
use Rattle.pv_types.specs.Walk.{Adds, work_of_vars, work_of_named}
use Rattle.pv_types.proofs.Trees.{named_found}
use Rattle.pv_types.proofs.walk.Walk.lay_out_named.Goals as goal

pub returns-clause-adds : goal.returns-clause-adds
returns-clause-adds c =
    let types = types_of c.args.named.now in
    let vars = var_trees c.in-Some-find.vars.now in
    let same = named_found types c.args.levels c.in-Some.below c.args.name.now.key c.args.self.now.path.items c.args.section vars
    c.in-Some.ensures.0 c.in-Some.ensures.1 c.in-Some-find.ensures in
    subst (λ (w : ℕ). OnOk c.add_vars.result (Adds types c.args.self.now c.add_vars.new.self
    (leaves_of_named types c.args.levels c.args.name.now.key c.args.self.now.path.items c.args.section) w)) same.1
    (subst (λ (ls : List Leaf). OnOk c.add_vars.result
    (Adds types c.args.self.now c.add_vars.new.self ls (work_of_vars (work_of_named types c.in-Some.below) (listed vars)))) same.0
    (c.add_vars.ensures.adds types))
