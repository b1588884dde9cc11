use Rattle.std.proofs.lemmas.Bool.{true≢false}
use Rattle.std.proofs.Common.{sym}
use Rattle.pv_graph.specs.Graphs.{lists_of}
use Rattle.pv_graph.proofs.Searching.{never_leads}
use Rattle.pv_graph.proofs.graph.Graph.leads.Goals as goal

pub returns-then-number_at : goal.returns-then-number_at
returns-then-number_at c = (
  (λ t. absurd (true≢false (sym t))),
  (λ l. absurd (never_leads (lists_of c.args.self.now.next.items) c.args.self.now.order.items c.as_slice-order.result.now c.args.from c.args.to c.number_at.result
      c.number_at-2.result c.args.self.now.falls c.as_slice-order.ensures.value c.number_at.ensures c.number_at-2.ensures c.if-number_at.true l)),
)
