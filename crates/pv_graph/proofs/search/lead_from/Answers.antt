use Rattle.pv_graph.specs.Searches.{marks_of}
use Rattle.std.proofs.Common.{rules, ◌≡◌, [], replicate, length, false}
use Rattle.pv_graph.proofs.Searching.{begun_at, stepped_at, fewer_at, ended_at}
use Rattle.pv_graph.proofs.search.lead_from.Goals as goal

pub loop-node-init : goal.loop-node-init
loop-node-init c =
    let fresh : c.in_ok-vec.field-0.items ≡ replicate (length c.args.next.now) false = search rules in
    begun_at c.args.next.now c.args.starts.now _ _ _ fresh c.new.ensures.items c.in_ok-mark_all.ensures

pub loop-node-smaller : goal.loop-node-smaller
loop-node-smaller c =
    fewer_at (marks_of c.loop-node.search) (marks_of c.mark_all-in-Some.new.self) c.pop.new.self.items c.targets_of.result.now c.in-Some.node c.in-Some.ensures.items c.in_ok-mark_all-2.ensures

pub loop-node-preserved : goal.loop-node-preserved
loop-node-preserved c =
    stepped_at c.args.next.now c.args.starts.now (marks_of c.loop-node.search) _ c.pop.new.self.items c.targets_of.result.now c.in-Some.node c.loop-node.invariant c.in-Some.ensures.items
    c.targets_of.ensures c.in_ok-mark_all-2.ensures

pub returns : goal.returns
returns c =
    let empty : c.loop-node.search.work.items ≡ [] = search rules in
    ended_at c.args.next.now c.args.starts.now (marks_of c.loop-node.search) c.args.to c.loop-node.invariant empty c.requires c.index.result.now c.index.ensures
