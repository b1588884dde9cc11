use Rattle.std.proofs.Common.{◌≡◌, ap, sym, ◌∙◌, ◌∷◌, [], map}
use Rattle.std.proofs.lemmas.Simd.{map-map}
use Rattle.std.specs.Prelude.{flat_map}
use Rattle.std.proofs.lemmas.List.Concat.{flat_map_single}
use Rattle.std.proofs.lemmas.List.Folds.{flat_map-map}
use Rattle.pv_tree.specs.Parts.{operands_of}
use Rattle.pv_tree.specs.View.{operand_tree, block_tree}
use Rattle.pv_mean.specs.AreaBytes as areas
use Rattle.pv_mean.specs.AreaBytes.{bytes_of_operand, all_operands}
use Rattle.pv_mean.specs.ProjectSizes.{project_tree}
use Rattle.pv_bytes.proofs.Marking.{also_same}
use Rattle.pv_bytes.proofs.Rising.{marked_rising}
use Rattle.pv_bytes.proofs.Gathering.{if_ok, all-marked}
use Rattle.pv_bytes.proofs.named.named_bytes.Goals as goal

pub returns : goal.returns
returns c =
    let project = project_tree c.args.project.now in
    let area = c.args.area in
    let a1 = c.in_ok-marks.marks.flags.items in
    let a2 = c.mark_blocks.new.self.flags.items in
    let a3 = c.mark_symbols.new.self.flags.items in
    let a4 = c.mark_operands.new.self.flags.items in
    let named = map operand_tree c.args.named.now in
    if_ok c.numbers.result _ (λ v. v.items ≡ areas.named_bytes project named area)
    (λ v is. is ∙ marked_rising a4 (flat_map (bytes_of_operand area) (all_operands project named))
    (all-marked project area a1 a2 a3 a4 (flat_map (λ s. operand_tree s.1 ∷ []) c.symbols.result.now) named c.in_ok-marks.ensures
    (also_same area a1 a2 _ _ (sym (flat_map-map (operands_of project) block_tree c.as_slice.result.now)
    ∙ ap (λ bs. flat_map (operands_of project) (map block_tree bs)) (c.as_slice.ensures.value ∙ ap (λ b. b.list.items) c.blocks-2.ensures))
    (c.in_ok-mark_blocks.ensures project))
    c.mark_symbols.ensures
    (also_same area a3 a4 _ _ (flat_map_single operand_tree c.args.named.now) c.mark_operands.ensures)
    (flat_map_single (λ s. operand_tree s.1) c.symbols.result.now ∙ ap (map (λ s. operand_tree s.1)) c.symbols.ensures ∙ sym
    (map-map _ _ _))))
    c.numbers.ensures
