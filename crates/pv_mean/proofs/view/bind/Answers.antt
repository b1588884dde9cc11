use Rattle.std.proofs.Common.{◌∙◌, ap, set, get_or, ℤ}
use Rattle.std.specs.Int.{w128}
use Rattle.std.proofs.lemmas.Int.{to_z-of_z}
use Rattle.pv_mean.specs.Cells.{as_bound}
use Rattle.pv_mean.proofs.Changes.{set-changed}
use Rattle.pv_mean.proofs.view.bind.Goals as goal

pub returns : goal.returns
returns c =
    ap (λ (v : ℤ). set c.args.cells.now c.args.n (as_bound v (get_or c.args.cells.now c.args.n c.index-cells-n.result)))
    (to_z-of_z w128 c.args.v c.ranges.v)
    ∙ set-changed (as_bound c.args.v) c.args.cells.now c.args.n c.index-cells-n.result c.requires.within
