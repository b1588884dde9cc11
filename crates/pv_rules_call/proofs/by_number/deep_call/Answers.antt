use Rattle.std.proofs.Common.{◌≡◌, ap, ◌∙◌, arith, length}
use Rattle.std.specs.Prelude.{None}
use Rattle.pv_rules_expr.proofs.ForCallers.{near_none}
use Rattle.pv_graph.specs.Graphs.{lists_of}
use Rattle.pv_rules_call.specs.ByNumber.{links_graph}
use Rattle.pv_rules_call.proofs.Linking.{more_deep, no_deep, all_deep}
use Rattle.pv_rules_call.proofs.by_number.deep_call.Goals as goal

pub loop-i-init : goal.loop-i-init
loop-i-init c = no_deep (links_graph c.args.all.now) c.args.all.now 7 None (near_none None)

pub loop-i-preserved : goal.loop-i-preserved
loop-i-preserved c =
    more_deep (links_graph c.args.all.now) c.args.all.now 7 (lists_of c.as_slice.result.now) c.in_ok-ends.ends.items c.as_slice-in-loop-i.result.now c.loop-i.i
    c.index-all-i.result c.as_slice-in-loop-i-2.result.now c.is_marked-test.result None c.loop-i.nearest c.calls_where-nearest.result
    (ap lists_of c.as_slice.ensures.value ∙ c.in_ok-next.ensures) c.in_ok-ends.ensures c.as_slice-in-loop-i.ensures.value c.is_marked-test.ensures
    c.loop-i-test.true c.index-all-i.is c.as_slice-in-loop-i-2.ensures.value c.loop-i.invariant c.calls_where-nearest.ensures

pub returns : goal.returns
returns c =
    let is : c.loop-i.i ≡ length c.args.all.now = omega arith in
    all_deep (links_graph c.args.all.now) c.args.all.now 7 c.loop-i.i c.loop-i.nearest is c.loop-i.invariant
