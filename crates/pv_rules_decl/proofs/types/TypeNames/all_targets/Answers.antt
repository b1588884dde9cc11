use Rattle.std.proofs.Common.{[], map, length, ◌≤◌, arith, subst, sym}
use Rattle.pv_tree.specs.View.{block_tree}
use Rattle.pv_graph.specs.Graphs.{lists_of}
use Rattle.pv_rules_expr.proofs.ForCallers.{all_taken}
use Rattle.pv_rules_decl.specs.TypeNumbers.{targets_in}
use Rattle.pv_rules_decl.specs.TypeNames.{LeadToTheSame}
use Rattle.pv_rules_decl.proofs.Sharing.{lead_next}
use Rattle.pv_rules_decl.proofs.types.TypeNames.all_targets.Goals as goal

pub loop-block-init : goal.loop-block-init
loop-block-init c = λ bs are. subst (λ l. LeadToTheSame (lists_of l) []) (sym c.new-next.ensures.items) tt

pub loop-block-preserved : goal.loop-block-preserved
loop-block-preserved c = λ bs are.
    lead_next bs c.args.blocks.now c.loop-block.block-index c.block-item.result c.loop-block.next.items _ _ c.loop-block-test.true c.block-item.is
    c.in_ok-push.ensures.items (c.loop-block.invariant bs are) (c.in_ok-targets_in.ensures bs are)

pub returns : goal.returns
returns c = λ bs are.
    let le : length c.args.blocks.now ≤ c.loop-block.block-index = omega arith in
    subst (λ l. LeadToTheSame (lists_of c.loop-block.next.items) (map (targets_in bs) (map block_tree l)))
    (all_taken c.args.blocks.now c.loop-block.block-index le) (c.loop-block.invariant bs are)
