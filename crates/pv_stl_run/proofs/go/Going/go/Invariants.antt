use Rattle.std.proofs.Common.{◌≡◌, ℕ, suc, ◌≤◌, List, length}
use Rattle.pv_tree.specs.Tree.{InstrTree, BlockTree}
use Rattle.pv_mean.specs.Sources.{Source}
use Rattle.pv_mean.specs.Statements.{Calls}
use Rattle.pv_eval.specs.Means.{activation}
use Rattle.pv_eval.specs.Writes.{TypesOf}
use Rattle.pv_stl_run.specs.Views.{frame_in}
use Rattle.pv_stl_run.specs.Code.{working}
use Rattle.pv_stl_run.specs.Going.{AreInstrs, Nested, ranges_in, nested_at, left_of, most_left}
use Rattle.pv_stl_run.proofs.AtWork.{GoesOn}
use Rattle.pv_stl_run.proofs.go.Going.go.Given as goal

-- so many instructions are made at most from here on
abbrev pub decreases-loop-instr : goal.decreases-loop-instr
decreases-loop-instr l = most_left l.bound l.code l.self.at l.turns l.self.entered

-- what is left of the run is what it was
abbrev pub invariant-loop-instr : goal.invariant-loop-instr
invariant-loop-instr l = record {
  within : l.self.entered ≤ length l.turns;
  room : length l.turns ≡ length l.fn.turns;
  scratch : length l.scratch ≡ length l.fn.scratch;
  most : most_left l.bound l.code l.self.at l.turns l.self.entered ≤ most_left l.bound l.code l.fn.self.at l.fn.turns l.fn.self.entered;
  same : (source : Source) (calls : Calls) (block : BlockTree) (room : ℕ)
      (all : List InstrTree) → source.bound ≡ l.bound → TypesOf source l.types → room ≤ length l.fn.scratch
      → AreInstrs source block l.targets room l.code all
      → Nested l.code l.fn.turns l.fn.self.entered (suc l.fn.self.at) → ranges_in l.code ≤ length l.fn.turns
      → l.fn.self.registers.depth ≤ nested_at l.code l.fn.self.at
      → GoesOn source calls (activation block l.first) all l.code l.turns l.self.entered l.self.at (working l.self.registers (frame_in l.visible l.own))
      l.self.registers.depth
      (left_of source calls (activation block l.first) all l.fn.turns l.fn.self.entered l.fn.self.at
      (working l.fn.self.registers (frame_in l.fn.visible l.fn.own)));
}
