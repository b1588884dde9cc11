use Rattle.std.proofs.Common.{arith, refl, subst, drop, ◌∙◌, ◌+◌}
use Rattle.std.proofs.lemmas.List.{drop_all}
use Rattle.pv_tree.specs.View.{call_tree}
use Rattle.pv_tree.specs.Parts.{site}
use Rattle.pv_names.specs.Callees.{how_tree}
use Rattle.pv_resolve.specs.Contexts.{block_in}
use Rattle.pv_program.specs.Handed.{goes_out, AreTaken}
use Rattle.pv_program.specs.Sought.{HaveAll}
use Rattle.pv_program.proofs.Growing.{extends-same, extends-then}
use Rattle.pv_program.proofs.Passing.{taken-over, taken-begun}
use Rattle.pv_program.proofs.Skipping.{skip-rest, number-front, rise-front}
use Rattle.pv_program.proofs.along.sought_out.Goals as goal

pub loop-number-init : goal.loop-number-init
loop-number-init c = record {
  grows = extends-same c.args.program.now;
  calls = refl;
  are = λ source is inner none. taken-begun c.args.made.now.items none;
  left = c.requires.sought.all;
}

pub loop-number-preserved : goal.loop-number-preserved
loop-number-preserved c =
    let numbers = c.args.numbers.now in
    let i = c.loop-number.number-index in
    let left = subst (λ l. HaveAll (how_tree c.args.how) (block_in c.args.inner.now) (call_tree c.args.call.now).args c.loop-number.next l)
    (number-front numbers i (i + 1) c.loop-number-test.true refl) c.loop-number.invariant.left in
    record {
      grows = extends-then _ _ _ c.loop-number.invariant.grows c.in_ok-next.ensures.grows;
      calls = c.in_ok-next.ensures.calls ∙ c.loop-number.invariant.calls;
      are = λ source is inner none.
          c.in_ok-next.ensures.taken source (drop (i + 1) numbers) is inner left
          (rise-front numbers i (i + 1) c.loop-number-test.true refl c.requires.sought.rise) (c.loop-number.invariant.are source is inner none);
      left = c.in_ok-next.ensures.left (drop (i + 1) numbers) left;
    }

pub returns-clause-taken : goal.returns-clause-taken
returns-clause-taken c = λ source is inner none.
    let at = site (how_tree c.args.how) (call_tree c.args.call.now) in
    let callee = block_in c.args.inner.now in
    skip-rest source callee goes_out (λ hs. AreTaken source (block_in c.args.context.now) c.loop-number.program at callee c.loop-number.made.items hs) at
    (λ h hs without are. taken-over h without are) c.loop-number.next
    (subst (λ l. HaveAll (how_tree c.args.how) callee (call_tree c.args.call.now).args c.loop-number.next l)
    (drop_all c.loop-number.number-index c.args.numbers.now (omega arith)) c.loop-number.invariant.left)
    (c.loop-number.invariant.are source is inner none)
