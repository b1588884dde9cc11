use Rattle.pv_mean.specs.Cells.{as_param}
use Rattle.pv_mean.proofs.Changes.{set-changed}
use Rattle.pv_mean.proofs.view.make_param.Goals as goal

pub returns : goal.returns
returns c = set-changed as_param c.args.cells.now c.args.n c.index-cells-n.result c.requires.within
