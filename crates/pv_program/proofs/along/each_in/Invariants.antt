use Rattle.std.proofs.Common.{◌≡◌, [], map, take}
use Rattle.pv_types.specs.View.{var_tree}
use Rattle.pv_tree.specs.View.{call_tree}
use Rattle.pv_tree.specs.Parts.{site}
use Rattle.pv_names.specs.Callees.{how_tree}
use Rattle.pv_mean.specs.Sources.{Source}
use Rattle.pv_resolve.specs.Contexts.{IsContext, block_in}
use Rattle.pv_program.specs.Growth.{Extends}
use Rattle.pv_program.specs.Handed.{goes_in, handed_of, AreGiven}
use Rattle.pv_program.proofs.along.each_in.Given as goal

abbrev pub invariant-loop-var : goal.invariant-loop-var
invariant-loop-var l = record {
  grows : Extends l.fn.program l.program;
  calls : l.program.calls ≡ l.fn.program.calls;
  are : (source : Source) → IsContext l.context source → IsContext l.inner source → l.fn.made.items ≡ []
      → AreGiven source (block_in l.context) l.program (site (how_tree l.how) (call_tree l.call)) (block_in l.inner) l.made.items
      (handed_of source (block_in l.inner) goes_in (map var_tree (take l.var-index l.vars)));
}
