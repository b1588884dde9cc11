use Rattle.std.proofs.Common.{ap, sym, ◌∙◌, map}
use Rattle.std.specs.Prelude.{flat_map, option_to_list}
use Rattle.std.proofs.lemmas.List.Folds.{flat_map-map}
use Rattle.pv_tree.specs.Parts.{target_of}
use Rattle.pv_tree.specs.View.{stmt_tree, block_tree}
use Rattle.pv_bytes.specs.Operands.{operands_in_stmt}
use Rattle.pv_bytes.proofs.Marking.{also_same}
use Rattle.pv_bytes.proofs.Gathering.{block-marked}
use Rattle.pv_bytes.proofs.marks.Marks.mark_block.Goals as goal

pub returns : goal.returns
returns c = λ project.
    let area = c.args.area in
    let a1 = c.args.self.now.flags.items in
    let a2 = c.mark_stmts.new.self.flags.items in
    let a3 = c.mark_body.new.self.flags.items in
    let a4 = c.mark_targets.new.self.flags.items in
    let a5 = c.mark_operands_of.new.self.flags.items in
    let first = ap (map (λ s. stmt_tree s.now)) c.as_slice.ensures.value ∙ c.in_ok-stmts.ensures in
    let second = ap (map (λ s. stmt_tree s.now)) c.as_slice-2.ensures.value ∙ c.in_ok-stmts.ensures in
    block-marked project (block_tree c.args.block.now) area a1 a2 a3 a4 a5
    (also_same area a1 a2 _ _ (sym (flat_map-map operands_in_stmt (λ s. stmt_tree s.now) c.as_slice.result.now)
    ∙ ap (flat_map operands_in_stmt) first) c.mark_stmts.ensures)
    c.mark_body.ensures
    (also_same area a3 a4 _ _ (sym (flat_map-map (λ s. option_to_list (target_of s)) (λ s. stmt_tree s.now) c.as_slice-2.result.now)
    ∙ ap (flat_map (λ s. option_to_list (target_of s))) second) c.mark_targets.ensures)
    c.mark_operands_of.ensures
