use Rattle.std.proofs.Common.{rules, arith, to_z, of_z, ◌≡◌, ap, sym, ◌∙◌, slice_set}
use mir.Syntax.{w128}
use Rattle.pv_cells.proofs.Starting.{start-past, start-set}
use Rattle.pv_cells.proofs.data.set_at.Goals as goal

pub returns-then-n-cells : goal.returns-then-n-cells
returns-then-n-cells c =
    let cells = c.args.cells.now in
    let n = c.args.n in
    let cell = c.index-cells-n.result in
    let same : to_z w128 (of_z w128 c.args.value) ≡ c.args.value = search rules in
    ap (λ y. slice_set cells n (record y { start = to_z w128 (of_z w128 c.args.value) })) (sym c.index-cells-n.is)
    ∙ ap (λ s. slice_set cells n (record cell { start = s })) same
    ∙ sym (start-set cells n c.args.value cell c.if-n-cells.true c.index-cells-n.is)

pub returns-else-n-cells : goal.returns-else-n-cells
returns-else-n-cells c = sym (start-past c.args.cells.now c.args.n c.args.value (omega (arith, c.if-n-cells.false)))
