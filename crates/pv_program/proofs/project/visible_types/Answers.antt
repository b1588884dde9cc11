use Rattle.std.proofs.Common.{[], ◌∷◌, refl, sym, ap, ◌∙◌, ◌++◌, map, arith}
use Rattle.std.proofs.lemmas.List.{take_all}
use Rattle.pv_mean.specs.Frames.{visible_cells}
use Rattle.pv_mean.specs.declared.cell.Cell.{Cell}
use Rattle.pv_program.proofs.Making.{visible-grown}
use Rattle.pv_program.proofs.project.visible_types.Goals as goal

pub loop-cell-preserved : goal.loop-cell-preserved
loop-cell-preserved c =
    c.in_ok-push_visible.ensures
    ∙ ap (λ l. l ++ map (λ (x : Cell). x.ty) (visible_cells (c.cell-item.result ∷ []))) c.loop-cell.invariant
    ∙ sym (visible-grown c.args.cells.now c.loop-cell.cell-index _ c.cell-item.result c.loop-cell-test.true c.cell-item.is refl)

pub returns : goal.returns
returns c =
    c.loop-cell.invariant
    ∙ ap (λ l. map (λ (x : Cell). x.ty) (visible_cells l)) (take_all c.loop-cell.cell-index c.args.cells.now (omega arith))
