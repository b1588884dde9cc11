use Rattle.std.proofs.Common.{◌≡◌, [], take, drop}
use Rattle.pv_tree.specs.View.{call_tree}
use Rattle.pv_tree.specs.Parts.{site}
use Rattle.pv_names.specs.Callees.{how_tree}
use Rattle.pv_mean.specs.Sources.{Source}
use Rattle.pv_resolve.specs.Contexts.{IsContext, block_in}
use Rattle.pv_program.specs.Growth.{Extends}
use Rattle.pv_program.specs.Handed.{goes_out, handed_of, AreTaken}
use Rattle.pv_program.specs.Sought.{HaveAll}
use Rattle.pv_program.proofs.along.sought_out.Given as goal

abbrev pub invariant-loop-number : goal.invariant-loop-number
invariant-loop-number l = record {
  grows : Extends l.fn.program l.program;
  calls : l.program.calls ≡ l.fn.program.calls;
  are : (source : Source) → IsContext l.context source → IsContext l.inner source → l.fn.made.items ≡ []
      → AreTaken source (block_in l.context) l.program (site (how_tree l.how) (call_tree l.call)) (block_in l.inner) l.made.items
      (handed_of source (block_in l.inner) goes_out (take l.next (block_in l.inner).vars));
  left : HaveAll (how_tree l.how) (block_in l.inner) (call_tree l.call).args l.next (drop l.number-index l.numbers);
}
