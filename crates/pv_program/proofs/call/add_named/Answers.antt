use Rattle.std.proofs.Common.{refl, ◌∙◌}
use Rattle.std.proofs.lemmas.Bool.{false≢true}
use Rattle.pv_tree.specs.View.{call_tree}
use Rattle.pv_tree.specs.Parts.{site}
use Rattle.pv_names.specs.Callees.{how_tree}
use Rattle.pv_resolve.specs.Contexts.{block_in}
use Rattle.pv_resolve.proofs.ForCallers.{failed}
use Rattle.pv_program.proofs.Growing.{extends-then}
use Rattle.pv_program.proofs.Keeping.{inward-kept, outward-kept}
use Rattle.pv_program.proofs.Leading.{led_same, led_more, runs_led}
use Rattle.pv_program.proofs.Making.{call-running}
use Rattle.pv_tree.proofs.ForCallers.{run_block}
use Rattle.pv_program.proofs.call.add_named.Goals as goal

pub returns : goal.returns
returns c =
    let at = site (how_tree c.args.how) (call_tree c.args.call.now) in
    let pushed = extends-then _ _ _ c.in_ok-made.ensures.grows c.in_ok-see_code.ensures.grows in
    let behind = extends-then _ _ _ c.in_ok-outward.ensures.grows pushed in
    record {
      grows = extends-then _ _ _ c.in_ok-inward.ensures.grows behind;
      means = λ source is inner called.
          call-running c.in_ok-made.made _ c.number_of_block-block.result at (block_in c.args.inner.now)
          (c.in_ok-see_code.ensures.grows.calls.at _ _ c.in_ok-made.ensures.at) refl called
          (record {
            number = c.number_of_block-block.ensures source is
                (run_block (record { project = source.project; block = block_in c.args.context.now }) at (block_in c.args.inner.now) called);
            made = c.in_ok-see_code.ensures.coded;
            first = λ k. c.in_ok-first.ensures.first source k is;
            inward = inward-kept behind (c.in_ok-inward.ensures.are source is inner);
            outward = outward-kept pushed (c.in_ok-outward.ensures.are source is inner);
            place = refl;
          });
      room = λ source is inner h k fits. tt;
      led = λ source is called led before.
          led_same c.in_ok-see_code.ensures.calls
          (led_more source _ _ _ c.in_ok-made.ensures.pushed
          (λ n same. runs_led (block_in c.args.context.now) (block_in c.args.inner.now) at c.number_of_block-block.result n
          (c.number_of_block-block.ensures source is
          (run_block (record { project = source.project; block = block_in c.args.context.now }) at (block_in c.args.inner.now) called))
          called led same)
          (led_same (c.in_ok-outward.ensures.calls ∙ c.in_ok-inward.ensures.calls) before));
    }

pub returns-in_err-first-clause-room : goal.returns-in_err-first-clause-room
returns-in_err-first-clause-room c = λ source is inner h k fits. absurd (false≢true (c.in_err-first.ensures.room source is h))

pub returns-in_err-inward-clause-room : goal.returns-in_err-inward-clause-room
returns-in_err-inward-clause-room c = λ source is inner h k fits.
    failed _ _ c.from_residual-in_err-inward.ensures.1 (c.in_err-inward.ensures.room source is inner h k fits)

pub returns-in_err-outward-clause-room : goal.returns-in_err-outward-clause-room
returns-in_err-outward-clause-room c = λ source is inner h k fits.
    failed _ _ c.from_residual-in_err-outward.ensures.1 (c.in_err-outward.ensures.room source is inner h k fits)

pub returns-in_err-made-clause-room : goal.returns-in_err-made-clause-room
returns-in_err-made-clause-room c = λ source is inner h k fits.
    failed _ _ c.from_residual-in_err-made.ensures.1 c.in_err-made.ensures.memory

pub returns-in_err-see_code-clause-room : goal.returns-in_err-see_code-clause-room
returns-in_err-see_code-clause-room c = λ source is inner h k fits.
    failed _ _ c.from_residual-in_err-see_code.ensures.1 c.in_err-see_code.ensures.memory
