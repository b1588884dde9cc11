use Rattle.std.proofs.Common.{◌∙◌}
use Rattle.pv_names.specs.Callees.{how_tree}
use Rattle.pv_resolve.specs.Contexts.{block_in}
use Rattle.pv_program.specs.Handed.{goes_out, handed_of}
use Rattle.pv_resolve.proofs.ForCallers.{failed}
use Rattle.pv_program.proofs.Growing.{extends-then}
use Rattle.pv_program.proofs.Passing.{taken-end, all-out}
use Rattle.pv_program.proofs.Standing.{are-outward}
use Rattle.pv_program.proofs.call.add_outward.Goals as goal

pub returns : goal.returns
returns c =
    let before = extends-then _ _ _ c.in_ok-all_out.ensures.grows c.in_ok-hand_any_value.ensures.grows in
    record {
      grows = extends-then _ _ _ before c.in_ok-span.ensures.grows;
      are = λ source is inner.
          let callee = block_in c.args.inner.now in
          are-outward
          (taken-end c.hand_any_value.new.made.items _ _ _ c.in_ok-span.ensures.grows c.as_slice.ensures.value
          (all-out source (how_tree c.args.how) callee)
          (c.in_ok-hand_any_value.ensures.taken source (handed_of source callee goes_out callee.vars) is inner
          (c.in_ok-all_out.ensures.taken source is inner c.new-made.ensures.items)))
          c.in_ok-span.ensures.stands;
      calls = c.in_ok-span.ensures.calls ∙ (c.in_ok-hand_any_value.ensures.calls ∙ c.in_ok-all_out.ensures.calls);
      room = λ source is inner h k fits. tt;
    }

pub returns-in_err-all_out-clause-room : goal.returns-in_err-all_out-clause-room
returns-in_err-all_out-clause-room c = λ source is inner h k fits.
    failed _ _ c.from_residual.ensures.1 (c.in_err-all_out.ensures.room source is inner h k fits)

pub returns-in_err-span-clause-room : goal.returns-in_err-span-clause-room
returns-in_err-span-clause-room c = λ source is inner h k fits. failed _ _ c.from_residual-in_err-span.ensures.1 c.in_err-span.ensures.memory

pub returns-in_err-hand_any_value-clause-room : goal.returns-in_err-hand_any_value-clause-room
returns-in_err-hand_any_value-clause-room c = λ source is inner h k fits.
    failed _ _ c.from_residual-in_err-hand_any_value.ensures.1 (c.in_err-hand_any_value.ensures.room source is inner h k fits)
