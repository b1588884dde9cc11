use Rattle.std.proofs.Common.{◌∙◌}
use Rattle.pv_resolve.specs.Contexts.{block_in}
use Rattle.pv_resolve.proofs.ForCallers.{failed}
use Rattle.pv_program.proofs.Growing.{extends-then}
use Rattle.pv_program.proofs.Passing.{given-whole, all-in}
use Rattle.pv_program.proofs.Standing.{are-inward}
use Rattle.pv_program.proofs.call.add_inward.Goals as goal

pub returns : goal.returns
returns c = record {
  grows = extends-then _ _ _ c.in_ok-all_in.ensures.grows c.in_ok-span.ensures.grows;
  are = λ source is inner.
      are-inward
      (given-whole c.all_in.new.made.items _ _ _ c.in_ok-span.ensures.grows c.as_slice.ensures.value
      (all-in source (block_in c.args.inner.now))
      (c.in_ok-all_in.ensures.given source is inner c.new-made.ensures.items))
      c.in_ok-span.ensures.stands;
  calls = c.in_ok-span.ensures.calls ∙ c.in_ok-all_in.ensures.calls;
  room = λ source is inner h k fits. tt;
}

pub returns-in_err-all_in-clause-room : goal.returns-in_err-all_in-clause-room
returns-in_err-all_in-clause-room c = λ source is inner h k fits.
    failed _ _ c.from_residual.ensures.1 (c.in_err-all_in.ensures.room source is inner h k fits)

pub returns-in_err-span-clause-room : goal.returns-in_err-span-clause-room
returns-in_err-span-clause-room c = λ source is inner h k fits. failed _ _ c.from_residual-in_err-span.ensures.1 c.in_err-span.ensures.memory
