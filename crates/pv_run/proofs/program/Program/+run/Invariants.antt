use Rattle.std.proofs.Common.{◌≡◌, ◌+◌, ◌-◌, ◌*◌, ◌^◌, ◌≤◌, List, length}
use Rattle.pv_tree.specs.Tree.{ExprTree, StmtTrees, InstrTree, BlockTree}
use Rattle.pv_mean.specs.Sources.{Source}
use Rattle.pv_mean.specs.Values.{value}
use Rattle.pv_mean.specs.Statements.{while_turns, repeat_turns, for_turns}
use Rattle.pv_mean.specs.Calls.{calls_within}
use Rattle.pv_eval.specs.Means.{activation}
use Rattle.pv_stl_run.specs.Going.{most_left}
use Rattle.pv_run.specs.Code.{IsProgram, IsValue, AreStmts, HasInstrs, statements_end}
use Rattle.pv_run.specs.Runs.{frame_in, HasRoom, body_of, counting_of}
use Rattle.pv_run.proofs.Instrs.{AtWork, whole_of}
use Rattle.pv_run.proofs.Left.{StmtsLeft}
use Rattle.pv_run.proofs.program.Program.+run.Given as goal

abbrev pub decreases-run_block : goal.decreases-run_block
decreases-run_block l = l.at.calls * 2 ^ 70 + 1

abbrev pub decreases-run_body : goal.decreases-run_body
decreases-run_body l = l.at.calls * 2 ^ 70 + 8 * statements_end l.body + 4

abbrev pub decreases-run_instrs : goal.decreases-run_instrs
decreases-run_instrs l = l.at.calls * 2 ^ 70 + 3

abbrev pub decreases-run_call : goal.decreases-run_call
decreases-run_call l = l.at.calls * 2 ^ 70 + 2

abbrev pub decreases-run_for : goal.decreases-run_for
decreases-run_for l = l.at.calls * 2 ^ 70 + 8 * l.body.end + 1

abbrev pub decreases-run_list : goal.decreases-run_list
decreases-run_list l = l.at.calls * 2 ^ 70 + 8 * l.list.end

abbrev pub decreases-run_repeat : goal.decreases-run_repeat
decreases-run_repeat l = l.at.calls * 2 ^ 70 + 8 * l.body.end + 1

abbrev pub decreases-run_stmt : goal.decreases-run_stmt
decreases-run_stmt l = l.at.calls * 2 ^ 70 + 8 * l.k + 5

abbrev pub decreases-run_other : goal.decreases-run_other
decreases-run_other l = l.at.calls * 2 ^ 70 + 8 * l.k + 4

abbrev pub decreases-run_called : goal.decreases-run_called
decreases-run_called l = l.at.calls * 2 ^ 70 + 3

abbrev pub decreases-run_assigned : goal.decreases-run_assigned
decreases-run_assigned l = l.at.calls * 2 ^ 70 + 3

abbrev pub decreases-run_if : goal.decreases-run_if
decreases-run_if l = l.at.calls * 2 ^ 70 + 8 * l.k + 3

abbrev pub decreases-run_case : goal.decreases-run_case
decreases-run_case l = l.at.calls * 2 ^ 70 + 8 * l.k + 3

abbrev pub decreases-run_counted : goal.decreases-run_counted
decreases-run_counted l = l.at.calls * 2 ^ 70 + 8 * l.k + 3

abbrev pub decreases-run_while : goal.decreases-run_while
decreases-run_while l = l.at.calls * 2 ^ 70 + 8 * l.body.end + 1

-- the turns that are left, in the frame as it is now
abbrev pub invariant-run_for-loop-turn : goal.invariant-run_for-loop-turn
invariant-run_for-loop-turn l = (source : Source) (block : BlockTree) (trees : StmtTrees) → IsProgram source l.self
    → AreStmts source block l.self l.body.first l.body.end trees
    → for_turns source (counting_of l.begun l.counting.variable_place l.counting.by l.place) (body_of source l.at block trees) source.bound
    l.begun.count (frame_in l.fn.visible l.fn.own)
    ≡ for_turns source (counting_of l.begun l.counting.variable_place l.counting.by l.place) (body_of source l.at block trees)
    (l.self.bound - l.turn)
    l.count (frame_in l.visible l.own)

abbrev pub invariant-run_list-loop-k : goal.invariant-run_list-loop-k
invariant-run_list-loop-k l = (source : Source) (block : BlockTree) (trees : StmtTrees) → IsProgram source l.self
    → AreStmts source block l.self l.fn.list.first l.fn.list.end trees
    → StmtsLeft source (calls_within source l.at.calls) block l.self l.at.first l.k l.fn.list.end trees
    (frame_in l.fn.visible l.fn.own) (frame_in l.visible l.own)

abbrev pub invariant-run_repeat-loop-turn : goal.invariant-run_repeat-loop-turn
invariant-run_repeat-loop-turn l = (source : Source) (block : BlockTree) (e : ExprTree) (trees : StmtTrees) → IsProgram source l.self
    → IsValue source block l.self l.condition e → AreStmts source block l.self l.body.first l.body.end trees
    → repeat_turns (λ f. value source (activation block l.at.first) f e) (body_of source l.at block trees) l.place source.bound
    (frame_in l.fn.visible l.fn.own)
    ≡ repeat_turns (λ f. value source (activation block l.at.first) f e) (body_of source l.at block trees) l.place (l.self.bound - l.turn)
    (frame_in l.visible l.own)

abbrev pub invariant-run_while-loop-turn : goal.invariant-run_while-loop-turn
invariant-run_while-loop-turn l = (source : Source) (block : BlockTree) (e : ExprTree) (trees : StmtTrees) → IsProgram source l.self
    → IsValue source block l.self l.condition e → AreStmts source block l.self l.body.first l.body.end trees
    → while_turns (λ f. value source (activation block l.at.first) f e) (body_of source l.at block trees) l.place source.bound
    (frame_in l.fn.visible l.fn.own)
    ≡ while_turns (λ f. value source (activation block l.at.first) f e) (body_of source l.at block trees) l.place (l.self.bound - l.turn)
    (frame_in l.visible l.own)

-- so many instructions may still be made, and as many calls
abbrev pub decreases-run_instrs-loop-call : goal.decreases-run_instrs-loop-call
decreases-run_instrs-loop-call l = most_left l.self.bound l.code l.going.at l.its l.going.entered

-- what is left of the run is what it was at the start
abbrev pub invariant-run_instrs-loop-call : goal.invariant-run_instrs-loop-call
invariant-run_instrs-loop-call l = record {
  within : l.going.entered ≤ length l.its;
  enough : l.self.ranges ≤ length l.its;
  room : HasRoom l.self l.at (length l.below) (length l.rest) (length l.scratch);
  work : (source : Source) (block : BlockTree) (all : List InstrTree) → IsProgram source l.self → HasInstrs source block l.self l.fn.span all
      → AtWork source (calls_within source l.at.calls) (activation block l.at.first) all l.code l.its l.going.entered l.going.at
      l.going.registers (frame_in l.visible l.own)
      (whole_of source (calls_within source l.at.calls) (activation block l.at.first) all (frame_in l.fn.visible l.fn.own));
}
