use Rattle.std.proofs.Common.{◌+◌, ◌*◌, List, length}
use Rattle.pv_terms.specs.Pushed.{IsTable, Puts}
use Rattle.pv_access.specs.Accesses.{Move, chosen_up}
use Rattle.pv_access.specs.Given.{IsMove, AreMoves}
use Rattle.pv_access.proofs.Steps.{element_of}
use Rattle.pv_access.proofs.elements.+elements.Given as goal

abbrev pub decreases-push_element : goal.decreases-push_element
decreases-push_element l = 3 * length l.moves.now

abbrev pub decreases-push_choices : goal.decreases-push_choices
decreases-push_choices l = 3 * length l.more.now + 2

abbrev pub decreases-push_choice : goal.decreases-push_choice
decreases-push_choice l = 3 * length l.more.now + 1

abbrev pub invariant-push_choices-loop-k : goal.invariant-push_choices-loop-k
invariant-push_choices-loop-k l = (first : Move) (ms : List Move) → IsTable l.fn.nodes.items → IsMove l.fn.nodes.items l.m first
    → AreMoves l.fn.nodes.items l.more ms
    → Puts l.fn.nodes.items l.nodes.items l.found (chosen_up l.cells.ty first (element_of l.cells.ty l.cells.width first ms l.n) l.k)
