use Rattle.std.proofs.Common.{refl, subst, arith}
use Rattle.std.proofs.lemmas.Bool.{false≢true}
use Rattle.pv_resolve.specs.Contexts.{block_in}
use Rattle.pv_run.specs.Code.{AreChoices}
use Rattle.pv_program.specs.Made.{IsRange}
use Rattle.pv_program.proofs.Pairing.{pairs-none, pairs-grown, gathered, map-same}
use Rattle.pv_program.proofs.Standing.{are-choices}
use Rattle.pv_resolve.proofs.ForCallers.{failed}
use Rattle.pv_program.proofs.Choosing.{each_choice}
use Rattle.pv_program.proofs.choice.add_choices.Goals as goal

pub loop-choice-init : goal.loop-choice-init
loop-choice-init c = pairs-none (IsRange (block_in c.args.context.now)) (λ t. t) c.args.choices.now c.new-made.result.items c.new-made.ensures.items

pub loop-choice-preserved : goal.loop-choice-preserved
loop-choice-preserved c =
    pairs-grown (IsRange (block_in c.args.context.now)) (λ t. t) c.args.choices.now c.loop-choice.choice-index _ c.choice-item.result
    c.loop-choice.made.items c.push.new.self.items c.in_ok-range.range c.loop-choice-test.true c.choice-item.is refl c.in_ok-push.ensures.items
    c.in_ok-range.ensures.is c.loop-choice.invariant

pub returns : goal.returns
returns c = record {
  grows = c.in_ok-span.ensures.grows;
  are = subst (λ l. AreChoices (block_in c.args.context.now) c.append_choices.new.program c.in_ok-span.span.first c.in_ok-span.span.end l)
      (map-same c.args.choices.now)
      (are-choices c.in_ok-span.ensures.stands
      (gathered (IsRange (block_in c.args.context.now)) (λ t. t) c.args.choices.now c.args.choices.now c.loop-choice.choice-index
      c.loop-choice.made.items _ (omega arith) refl c.as_slice.ensures.value c.loop-choice.invariant));
  calls = c.in_ok-span.ensures.calls;
  room = λ source h fits. tt;
}

pub returns-in_err-range-clause-room : goal.returns-in_err-range-clause-room
returns-in_err-range-clause-room c = λ source h fits.
    let mine = each_choice c.args.choices.now c.loop-choice.choice-index c.choice-item.result c.loop-choice-test.true c.choice-item.is fits in
    absurd (false≢true (c.in_err-range.ensures.room source h mine.0 mine.1))

pub returns-in_err-span-clause-room : goal.returns-in_err-span-clause-room
returns-in_err-span-clause-room c = λ source h fits.
    failed _ _ c.from_residual-in_err-span.ensures.1 c.in_err-span.ensures.memory
