use Rattle.pv_graph.specs.Graphs.{lists_of}
use Rattle.pv_graph.proofs.Turning.{shown}
use Rattle.pv_graph.proofs.cycles.Around.shows.Goals as goal

pub returns-then-flag_at : goal.returns-then-flag_at
returns-then-flag_at c = λ around so.
    shown (lists_of c.args.next.now) c.args.roots.now c.args.self.now.led.items c.args.self.now.leading.items c.as_slice.result.now
    c.as_slice-then-flag_at.result.now c.targets_of.result.now c.args.node c.number_at.result c.flag_at.result
    c.is_any_marked.result around.led around.leading c.as_slice.ensures.value c.flag_at.ensures c.if-flag_at.true
    c.as_slice-then-flag_at.ensures.value c.number_at.ensures c.targets_of.ensures
    c.is_any_marked.ensures so
