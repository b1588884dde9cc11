use Rattle.std.proofs.Common.{◌≡◌, ◌*◌, length, ap, sym, ◌∙◌, arith}
use Rattle.pv_types.specs.View.{type_tree, vars_tree}
use Rattle.pv_types.proofs.ForCallers.{counted}
use Rattle.pv_mean.specs.Layout.{size_in}
use Rattle.pv_mean.specs.Counts.{capped}
use Rattle.pv_mean.specs.Sized.{sized_project}
use Rattle.pv_mean.specs.LaidOut.{size_where}
use Rattle.pv_mean.proofs.Capping.{product_of_capped}
use Rattle.pv_mean.proofs.sizes.Sizes.of_declared.Goals as goal

pub returns-then-has : goal.returns-then-has
returns-then-has c =
    let v = c.args.of.now in
    let size = size_in (sized_project c.args.self.now) (type_tree v.ty) in
    product_of_capped c.product.result c.count_of.result c.of_type.result (length (vars_tree v)) size c.product.ensures (c.count_of.ensures ∙ ap capped (sym (counted v)))
    c.of_type.ensures
    ∙ ap (λ b. capped (length (vars_tree v) * size_where b size)) (sym (sym c.has.ensures ∙ c.if-has.true))

pub returns-else-has : goal.returns-else-has
returns-else-has c =
    let v = c.args.of.now in
    let size = size_in (sized_project c.args.self.now) (type_tree v.ty) in
    let none : 0 ≡ length (vars_tree v) * 0 = omega arith in
    ap capped none ∙ ap (λ b. capped (length (vars_tree v) * size_where b size)) (sym (sym c.has.ensures ∙ c.if-has.false))
