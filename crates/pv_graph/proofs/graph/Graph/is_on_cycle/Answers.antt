use Rattle.std.proofs.lemmas.Bool.{true≢false}
use Rattle.std.proofs.Common.{sym, ap, ◌∙◌}
use Rattle.pv_graph.specs.Graphs.{lists_of, next_of}
use Rattle.pv_graph.proofs.Searching.{never_back, lead_same}
use Rattle.pv_graph.proofs.graph.Graph.is_on_cycle.Goals as goal

pub returns-then-all_below : goal.returns-then-all_below
returns-then-all_below c = (
  (λ t. absurd (true≢false (sym t))),
  (λ l. absurd (never_back (lists_of c.args.self.now.next.items) c.args.self.now.order.items c.as_slice-order.result.now c.targets_of-targets.result.now
      (next_of (lists_of c.args.self.now.next.items) c.args.node) c.args.node c.number_at.result c.all_below.result c.args.self.now.falls
      c.as_slice-order.ensures.value (c.targets_of-targets.ensures ∙ ap (λ t. next_of (lists_of t) c.args.node) c.as_slice.ensures.value) c.number_at.ensures
      c.all_below.ensures c.if-all_below.true l)),
)

pub returns : goal.returns
returns c =
    lead_same c.lead_from.result _ c.args.self.now.next.items _ (next_of (lists_of c.args.self.now.next.items) c.args.node) c.args.node c.as_slice-2.ensures.value
    (c.targets_of-targets.ensures ∙ ap (λ t. next_of (lists_of t) c.args.node) c.as_slice.ensures.value) c.lead_from.ensures
