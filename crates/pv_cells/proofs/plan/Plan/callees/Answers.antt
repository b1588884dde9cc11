use Rattle.std.proofs.Common.{refl, map, ap, ◌∙◌, ◌++◌}
use Rattle.pv_cells.specs.Below.{at_numbers}
use Rattle.pv_tree.specs.Parts.{calls_of}
use Rattle.pv_names.specs.Entries.{block_of}
use Rattle.pv_cells.specs.Calls.{made_tree}
use Rattle.pv_cells.specs.Planned.{planned}
use Rattle.pv_cells.proofs.CallNumbers.{runs_of, made-left, made-done}
use Rattle.pv_cells.proofs.plan.Plan.callees.Goals as goal

pub loop-made-init : goal.loop-made-init
loop-made-init c =
    let p = planned c.args.self.now in
    let b = block_of c.args.entry.now in
    ap (λ l. at_numbers p.blocks l ++ runs_of p b (map made_tree c.deref-made-items.result.now)) c.new-numbers.ensures.items
    ∙ ap (λ l. runs_of p b (map made_tree l)) c.deref-made-items.ensures.value ∙ ap (runs_of p b) (c.in_ok-calls.ensures ∙ ap calls_of c.block.ensures)

pub loop-made-preserved : goal.loop-made-preserved
loop-made-preserved c =
    made-left (planned c.args.self.now) (block_of c.args.entry.now) c.deref-made-items.result.now c.loop-made.made-index _ c.made-item.result
    c.loop-made-test.true c.made-item.is refl c.loop-made.numbers.items c.push_callee.new.numbers.items _ c.in_ok-push_callee.ensures c.loop-made.invariant

pub returns : goal.returns
returns c =
    made-done (planned c.args.self.now) (block_of c.args.entry.now) c.deref-made-items.result.now c.loop-made.made-index c.loop-made.numbers.items _
    c.loop-made-test.false c.loop-made.invariant
