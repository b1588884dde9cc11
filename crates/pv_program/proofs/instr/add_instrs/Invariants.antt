use Rattle.std.proofs.Common.{◌≡◌, length, map}
use Rattle.pv_tree.specs.View.{instr_tree}
use Rattle.pv_mean.specs.Sources.{Source}
use Rattle.pv_stl_run.specs.Going.{nested_behind}
use Rattle.pv_resolve.specs.Contexts.{IsContext, block_in}
use Rattle.pv_program.specs.Growth.{Extends}
use Rattle.pv_program.specs.Bodies.{AreMadeInstrs}
use Rattle.pv_program.specs.Led.{AreLed}
use Rattle.pv_program.specs.Ready.{AreReady, IsOpenAt}
use Rattle.pv_program.proofs.instr.add_instrs.Given as goal

abbrev pub invariant-loop-k : goal.invariant-loop-k
invariant-loop-k l = record {
  grows : Extends l.fn.program l.program;
  long : length l.made.items ≡ l.k;
  nested : l.depth ≡ nested_behind l.made.items 0;
  are : (source : Source) → IsContext l.context source
      → AreMadeInstrs source (block_in l.context) l.program (map instr_tree l.instrs) l.made.items;
  depth : (source : Source) → AreReady source (block_in l.context) (map instr_tree l.instrs) → IsOpenAt (map instr_tree l.instrs) l.k l.depth;
  led : (source : Source) → IsContext l.context source → AreReady source (block_in l.context) (map instr_tree l.instrs)
      → AreLed source l.fn.program.calls.items → AreLed source l.program.calls.items;
}
