use Rattle.pv_graph.specs.Graphs.{lists_of}
use Rattle.pv_graph.proofs.Turning.{turned}
use Rattle.pv_graph.proofs.cycles.leading_to_roots.Goals as goal

pub returns : goal.returns
returns c =
    turned (lists_of c.args.next.now) c.in_ok-back.back.items c.as_slice.result.now c.args.roots.now c.led_by_roots.result
    c.as_slice.ensures.value c.in_ok-back.ensures c.led_by_roots.ensures
