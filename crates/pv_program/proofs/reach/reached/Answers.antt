use Rattle.std.proofs.Common.{◌≡◌, ◌∙◌, length, replicate, Option, None, sym, ap, subst, rules}
use Rattle.std.proofs.lemmas.List.{length-map, length-replicate}
use Rattle.std.specs.Prelude.{slice_index_or}
use Rattle.pv_names.specs.Entries.{block_of}
use Rattle.pv_names.specs.Tables.{blocks_of}
use Rattle.pv_run.specs.declared.program.Code.{Code}
use Rattle.pv_program.specs.Reached.{AreCodes}
use Rattle.pv_program.proofs.Growing.{extends-then}
use Rattle.pv_program.proofs.Failing.{passed}
use Rattle.pv_program.proofs.Leading.{called_led}
use Rattle.pv_program.proofs.Reaching.{no-codes, none-at-first, made-none, made-stepped, made-ended}
use Rattle.pv_program.proofs.reach.reached.Goals as goal

pub loop-call-init : goal.loop-call-init
loop-call-init c =
    let fresh : c.in_ok-codes.codes.items ≡ replicate (length c.entries.result.now) (let o : Option Code = None in o) = search rules in
    let long : length c.in_ok-codes.codes.items ≡ length (blocks_of c.args.context.now.scope.tables.now)
    = ap length fresh ∙ length-replicate (length c.entries.result.now) _ ∙ sym (length-map c.entries.result.now block_of)
    ∙ ap length c.entries.ensures in
    record {
      grows = c.in_ok-add_block.ensures.grows;
      long = c.in_ok-add_block.ensures.adds.long ∙ long;
      are = λ source is.
          c.in_ok-add_block.ensures.are source is
          (subst (AreCodes source c.args.program.now) (sym fresh) (no-codes _ (none-at-first (length c.entries.result.now))));
      entered = c.in_ok-add_block.ensures.adds.now;
      made = made-none _ _;
      led = λ source is ready led before. c.in_ok-add_block.ensures.led source is ready led before;
    }

pub add_block-requires-in-Some : goal.add_block-requires-in-Some
add_block-requires-in-Some c = c.loop-call.invariant.long

pub loop-call-smaller : goal.loop-call-smaller
loop-call-smaller c =
    c.in_ok-add_block-2.ensures.adds.fewer
    (subst (λ l. slice_index_or l c.in-Some.block None ≡ None) c.as_slice-in-loop-call.ensures.value c.in-Some.ensures.missing)

pub loop-call-preserved : goal.loop-call-preserved
loop-call-preserved c = record {
  grows = extends-then _ _ _ c.loop-call.invariant.grows c.in_ok-add_block-2.ensures.grows;
  long = c.in_ok-add_block-2.ensures.adds.long ∙ c.loop-call.invariant.long;
  are = λ source is. c.in_ok-add_block-2.ensures.are source is (c.loop-call.invariant.are source is);
  entered = c.in_ok-add_block-2.ensures.adds.kept _ c.loop-call.invariant.entered;
  made = made-stepped c.loop-call.codes.items _ _ c.loop-call.program.calls.items _ _ c.loop-call.next c.in-Some.call c.in-Some.block
      c.as_slice-in-loop-call.ensures.value c.as_slice.ensures.value c.in-Some.ensures.inside c.in_ok-add_block-2.ensures.grows.calls
      c.in_ok-add_block-2.ensures.adds c.in-Some.ensures.some c.loop-call.invariant.made;
  led = λ source is ready led before. c.in_ok-add_block-2.ensures.led source is ready
      (called_led c.loop-call.program.calls.items _ c.in-Some.call c.in-Some.block c.as_slice.ensures.value c.in-Some.ensures.runs
      (c.loop-call.invariant.led source is ready led before)) (c.loop-call.invariant.led source is ready led before);
}

pub returns : goal.returns
returns c = record {
  grows = c.loop-call.invariant.grows;
  are = c.loop-call.invariant.are;
  entered = c.loop-call.invariant.entered;
  made = made-ended _ c.loop-call.codes.items _ c.loop-call.program.calls.items c.loop-call.next c.as_slice-in-loop-call.ensures.value
      c.as_slice.ensures.value c.in_default.ensures.none c.loop-call.invariant.made;
  room = λ source is ready led before. tt;
}

pub returns-in_err-add_block-clause-room : goal.returns-in_err-add_block-clause-room
returns-in_err-add_block-clause-room c = λ source is ready led before.
    passed _ _ c.from_residual-in_err-add_block.ensures.1 (c.in_err-add_block.ensures.room source is ready led)

pub returns-in_err-add_block-2-clause-room : goal.returns-in_err-add_block-2-clause-room
returns-in_err-add_block-2-clause-room c = λ source is ready led before.
    passed _ _ c.from_residual-in_err-add_block-2.ensures.1 (c.in_err-add_block-2.ensures.room source is ready
    (called_led c.loop-call.program.calls.items _ c.in-Some.call c.in-Some.block c.as_slice.ensures.value c.in-Some.ensures.runs
    (c.loop-call.invariant.led source is ready led before)))
