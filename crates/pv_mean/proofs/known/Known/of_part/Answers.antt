use Rattle.std.proofs.Common.{◌*◌, length, ap, sym, ◌∙◌}
use Rattle.pv_types.specs.View.{type_tree, vars_tree}
use Rattle.pv_types.proofs.ForCallers.{counted}
use Rattle.pv_types.specs.Sizes.{size_of_type}
use Rattle.pv_mean.specs.Counts.{capped, size_known}
use Rattle.pv_mean.proofs.Capping.{product_of_capped}
use Rattle.pv_mean.proofs.Countings.{part_there, part_lacking}
use Rattle.pv_mean.proofs.known.Known.of_part.Goals as goal

pub returns-then-is_of_instance : goal.returns-then-is_of_instance
returns-then-is_of_instance c =
    let v = c.args.of.now in
    let size = size_of_type (size_known c.args.self.now) (type_tree v.ty) in
    product_of_capped c.product.result c.count_of.result c.of_type.result (length (vars_tree v)) size c.product.ensures (c.count_of.ensures ∙ ap capped (sym (counted v)))
    c.of_type.ensures
    ∙ ap (λ n. capped (length (vars_tree v) * n)) (sym (part_there v.section size (sym c.is_of_instance.ensures ∙ c.if-is_of_instance.true)))

pub returns-else-is_of_instance : goal.returns-else-is_of_instance
returns-else-is_of_instance c =
    let v = c.args.of.now in
    ap capped (part_lacking v.section (size_of_type (size_known c.args.self.now) (type_tree v.ty)) (length (vars_tree v))
    (sym c.is_of_instance.ensures ∙ c.if-is_of_instance.false))
