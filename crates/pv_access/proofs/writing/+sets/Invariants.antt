use Rattle.std.proofs.Common.{◌≡◌, ◌+◌, ◌*◌, List, length}
use Rattle.pv_flow.specs.Terms.{Term}
use Rattle.pv_terms.specs.Pushed.{IsTable}
use Rattle.pv_access.specs.Accesses.{Move, Writing, each_below}
use Rattle.pv_access.specs.Given.{IsMove, AreMoves, IsWriting}
use Rattle.pv_access.specs.Pushed.{AreAt, Sets}
use Rattle.pv_access.proofs.Steps.{sets_at}
use Rattle.pv_access.proofs.writing.+sets.Given as goal

abbrev pub decreases-set_elements : goal.decreases-set_elements
decreases-set_elements l = 3 * length l.moves.now

abbrev pub decreases-set_each : goal.decreases-set_each
decreases-set_each l = 3 * length l.more.now + 2

abbrev pub decreases-set_element : goal.decreases-set_element
decreases-set_element l = 3 * length l.more.now + 1

abbrev pub invariant-set_each-loop-k : goal.invariant-set_each-loop-k
invariant-set_each-loop-k l = record {
  same : l.conditions.items ≡ l.fn.conditions.items;
  sets : (w : Writing) (cs : List Term) (first : Move) (ms : List Move) → IsTable l.fn.nodes.items → IsWriting l.fn.nodes.items l.target.writing w
      → AreAt l.fn.nodes.items l.fn.conditions.items cs → IsMove l.fn.nodes.items l.m first → AreMoves l.fn.nodes.items l.more ms
      → Sets l.fn.nodes.items l.nodes.items l.fn.sets.items l.sets.items
      (each_below (sets_at l.target.paired l.target.ty w cs first ms l.n) l.k);
}
