use Rattle.std.proofs.Common.{ap, arith}
use Rattle.pv_names.specs.Views.{held_tree}
use Rattle.pv_mean.specs.Activations.{Begins, in_visible}
use Rattle.pv_resolve.proofs.Naming.{data_begins}
use Rattle.pv_resolve.proofs.Nears.{data_beyond}
use Rattle.pv_resolve.proofs.context.Context.data_block.Goals as goal

pub returns-clause-value : goal.returns-clause-value
returns-clause-value c =
    λ source first is. ap (λ n. let b : Begins = in_visible (record { ty = held_tree c.args.ty; first = n }) in b)
    (data_begins c.args.self.now source c.args.block.now.name.key c.data_first-first.result is c.data_first-first.ensures (omega arith))

pub returns-then-first-ge-BEYOND-clause-room : goal.returns-then-first-ge-BEYOND-clause-room
returns-then-first-ge-BEYOND-clause-room c =
    λ source is h. absurd (data_beyond c.args.self.now source c.args.block.now.name.key c.data_first-first.result is h c.data_first-first.ensures (omega arith))
