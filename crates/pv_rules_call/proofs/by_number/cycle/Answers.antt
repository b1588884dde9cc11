use Rattle.std.proofs.Common.{◌≡◌, arith, length}
use Rattle.std.specs.Prelude.{None}
use Rattle.pv_rules_expr.proofs.ForCallers.{near_none}
use Rattle.pv_graph.specs.Steps.{steps_of}
use Rattle.pv_rules_call.specs.ByNumber.{links_graph}
use Rattle.pv_rules_call.proofs.Linking.{more_links, no_links, all_links, node_here}
use Rattle.pv_rules_call.proofs.by_number.cycle.Goals as goal

pub loop-i-init : goal.loop-i-init
loop-i-init c = no_links (links_graph c.args.all.now) c.args.all.now None (near_none None)

pub loop-i-preserved : goal.loop-i-preserved
loop-i-preserved c =
    more_links (steps_of c.in_ok-graph.graph) (links_graph c.args.all.now) c.args.all.now c.loop-i.i c.index-all-i.result c.as_slice.result.now None c.loop-i.nearest
    c.in_ok-nearest.nearest c.in_ok-graph.ensures c.loop-i-test.true c.index-all-i.is c.as_slice.ensures.value c.loop-i.invariant c.in_ok-nearest.ensures

pub returns : goal.returns
returns c =
    let is : c.loop-i.i ≡ length c.args.all.now = omega arith in
    all_links (links_graph c.args.all.now) c.args.all.now c.loop-i.i c.loop-i.nearest is c.loop-i.invariant

pub back_links-requires : goal.back_links-requires
back_links-requires c =
    node_here (steps_of c.in_ok-graph.graph) c.args.all.now c.loop-i.i c.in_ok-graph.ensures c.loop-i-test.true
