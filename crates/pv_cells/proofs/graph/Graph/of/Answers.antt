use Rattle.std.proofs.Common.{refl, sym, subst}
use Rattle.pv_cells.specs.Graphs.{NodesAre}
use Rattle.pv_cells.specs.Planned.{planned}
use Rattle.pv_cells.proofs.graph.Graph.of.Goals as goal

pub returns : goal.returns
returns c = record {
  graph = record {
    plan = c.requires;
    are = c.in_ok-nodes.ensures;
    counted = c.in_ok-below.ensures (planned c.args.plan.now) (subst (NodesAre (planned c.args.plan.now)) (sym c.as_slice.ensures.value) c.in_ok-nodes.ensures);
  };
  project = refl;
}
