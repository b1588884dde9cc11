use Rattle.std.proofs.Common.{◌≡◌, length}
use Rattle.pv_names.specs.Tables.{blocks_of}
use Rattle.pv_mean.specs.Sources.{Source}
use Rattle.pv_resolve.specs.Contexts.{IsContext}
use Rattle.pv_program.specs.Growth.{Coded, Extends}
use Rattle.pv_program.specs.Led.{IsLed, AreLed}
use Rattle.pv_program.specs.Ready.{IsReached}
use Rattle.pv_program.specs.Reached.{AreCodes, AreMade, count_without}
use Rattle.pv_program.proofs.reach.reached.Given as goal

abbrev pub invariant-loop-call : goal.invariant-loop-call
invariant-loop-call l = record {
  grows : Extends l.fn.program l.program;
  long : length l.codes.items ≡ length (blocks_of l.context.scope.tables.now);
  are : (source : Source) → IsContext l.context source → AreCodes source l.program l.codes.items;
  entered : Coded l.codes.items l.fn.program.entry;
  led : (source : Source) → IsContext l.context source → IsReached source → IsLed source l.fn.program.entry
      → AreLed source l.fn.program.calls.items → AreLed source l.program.calls.items;
  made : AreMade l.codes.items l.program.calls.items l.next;
}

abbrev pub decreases-loop-call : goal.decreases-loop-call
decreases-loop-call l = count_without l.codes.items
