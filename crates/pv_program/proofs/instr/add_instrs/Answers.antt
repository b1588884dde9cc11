use Rattle.std.proofs.Common.{arith, ap, sym, ◌∙◌, length, map}
use Rattle.std.proofs.lemmas.List.{length-map}
use Rattle.pv_tree.specs.View.{instr_tree}
use Rattle.pv_stl_run.specs.Going.{nested_behind, ranges_in}
use Rattle.pv_program.proofs.Growing.{extends-same, extends-then}
use Rattle.pv_program.proofs.Instructing.{tree-at, none-made, body-made}
use Rattle.pv_resolve.proofs.ForCallers.{failed}
use Rattle.pv_program.proofs.Leading.{led_same}
use Rattle.pv_program.proofs.Nestings.{none_open}
use Rattle.pv_program.proofs.instr.add_instrs.Goals as goal

pub loop-k-init : goal.loop-k-init
loop-k-init c = record {
  grows = extends-same c.args.program.now;
  long = ap length c.new-made.ensures.items;
  nested = sym (ap (λ l. nested_behind l 0) c.new-made.ensures.items);
  are = λ source is. none-made c.new-made.result.items c.new-made.ensures.items;
  depth = λ source ready. none_open (map instr_tree c.args.instrs.now);
  led = λ source is ready before. before;
}

pub loop-k-preserved : goal.loop-k-preserved
loop-k-preserved c = record {
  grows = extends-then _ _ _ c.loop-k.invariant.grows c.in_ok-depth.ensures.grows;
  long = omega (arith, c.in_ok-depth.ensures.more, c.loop-k.invariant.long);
  nested = c.in_ok-depth.ensures.nested c.loop-k.invariant.nested;
  are = λ source is.
      c.in_ok-depth.ensures.are source (map instr_tree c.args.instrs.now) is c.in_ok-labels.ensures.at c.in_ok-labels.ensures.last
      (omega (arith, length-map c.args.instrs.now instr_tree))
      (tree-at instr_tree c.args.instrs.now c.loop-k.k c.index-instrs-k.result c.loop-k-test.true c.index-instrs-k.is)
      (sym c.loop-k.invariant.long) c.loop-k.invariant.nested (c.loop-k.invariant.are source is);
  depth = λ source ready.
      c.in_ok-depth.ensures.depth source (map instr_tree c.args.instrs.now) ready
      (tree-at instr_tree c.args.instrs.now c.loop-k.k c.index-instrs-k.result c.loop-k-test.true c.index-instrs-k.is)
      (c.loop-k.invariant.depth source ready);
  led = λ source is ready before.
      c.in_ok-depth.ensures.led source (map instr_tree c.args.instrs.now) is ready
      (tree-at instr_tree c.args.instrs.now c.loop-k.k c.index-instrs-k.result c.loop-k-test.true c.index-instrs-k.is)
      (c.loop-k.invariant.led source is ready before);
}

pub returns : goal.returns
returns c =
    let behind = extends-then _ _ _ c.make_ranges.ensures.grows c.in_ok-span.ensures.grows in
    record {
      grows = extends-then _ _ _ c.loop-k.invariant.grows behind;
      has = λ source is.
          body-made (map instr_tree c.args.instrs.now) c.loop-k.made.items c.as_slice-list.result.now c.in_ok-span.span behind
          c.as_slice-list.ensures.value c.in_ok-span.ensures.are c.in_ok-span.ensures.ordered c.in_ok-span.ensures.within
          (omega (arith, c.loop-k.invariant.long, length-map c.args.instrs.now instr_tree))
          (omega (
            arith,
            c.count_ranges.ensures,
            c.make_ranges.ensures.room,
            c.in_ok-span.ensures.grows.ranges,
            ap ranges_in c.as_slice-list.ensures.value,
          ))
          (c.loop-k.invariant.are source is);
      room = λ source is h ready. tt;
      led = λ source is ready before.
          led_same (c.in_ok-span.ensures.calls ∙ c.make_ranges.ensures.calls) (c.loop-k.invariant.led source is ready before);
    }

pub returns-in_err-labels-clause-room : goal.returns-in_err-labels-clause-room
returns-in_err-labels-clause-room c = λ source is h ready.
    failed _ _ c.from_residual.ensures.1 (c.in_err-labels.ensures.room ready.labels)

pub returns-in_err-depth-clause-room : goal.returns-in_err-depth-clause-room
returns-in_err-depth-clause-room c = λ source is h ready.
    failed _ _ c.from_residual-in_err-depth.ensures.1
    (c.in_err-depth.ensures.room source (map instr_tree c.args.instrs.now) is h ready
    (tree-at instr_tree c.args.instrs.now c.loop-k.k c.index-instrs-k.result c.loop-k-test.true c.index-instrs-k.is)
    (c.loop-k.invariant.depth source ready))

pub returns-in_err-span-clause-room : goal.returns-in_err-span-clause-room
returns-in_err-span-clause-room c = λ source is h ready. failed _ _ c.from_residual-in_err-span.ensures.1 c.in_err-span.ensures.memory
