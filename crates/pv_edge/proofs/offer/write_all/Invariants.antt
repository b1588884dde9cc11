use Rattle.std.proofs.Common.{◌≡◌, List, ℕ, [], ◌++◌, length}
use Rattle.pv_edge.specs.Sink.{Offered, Takes}
use Rattle.pv_edge.proofs.offer.write_all.Given as goal

-- what was offered is what was taken and the rest, by calls that were offered all that was left each, no fault came, and without bytes the sink is as it was
abbrev pub invariant-loop-rest : goal.invariant-loop-rest
invariant-loop-rest g l = record {
  front : (front : List ℕ) × (l.bytes ≡ front ++ l.rest) × Takes front (g.S.Sink.taken l.fn.out) (g.S.Sink.taken l.out);
  calls : Offered g.S.Sink.call l.bytes l.fn.out l.rest l.out;
  faults : g.S.Sink.faults l.out ≡ g.S.Sink.faults l.fn.out;
  idle : l.bytes ≡ [] → l.out ≡ l.fn.out;
}

abbrev pub decreases-loop-rest : goal.decreases-loop-rest
decreases-loop-rest g l = length l.rest
