use Rattle.std.proofs.Common.{List, ◌+◌, refl, ap, ◌∙◌, arith}
use Rattle.std.specs.Prelude.{not, if◌then◌else◌}
use Rattle.std.proofs.lemmas.Bool.{false≢true}
use Rattle.std.proofs.lemmas.List.{drop_all}
use Rattle.pv_mean.specs.declared.cell.Cell.{Cell}
use Rattle.pv_mean.specs.Frames.{is_brief, visible_len}
use Rattle.pv_variables.proofs.Filling.{visible_from}
use Rattle.pv_variables.proofs.count.visible_in.Goals as goal

pub loop-cell-preserved : goal.loop-cell-preserved
loop-cell-preserved c =
    visible_from c.args.cells.now c.loop-cell.cell-index c.loop-cell.n c.in_ok-n.n c.cell-item.result c.loop-cell-test.true
    c.cell-item.is (c.in_ok-n.ensures.value ∙ ap (λ s. c.loop-cell.n + s) c.shown.ensures) c.loop-cell.invariant

pub returns-clause-value : goal.returns-clause-value
returns-clause-value c =
    let none = ap (λ (l : List Cell). visible_len l) (drop_all c.loop-cell.cell-index c.args.cells.now c.loop-cell-test.false) in
    let whole = c.loop-cell.invariant in
    omega (arith, none, whole)

pub returns-in_err-n-clause-room : goal.returns-in_err-n-clause-room
returns-in_err-n-clause-room c = λ few.
    let next = visible_from c.args.cells.now c.loop-cell.cell-index c.loop-cell.n
    (c.loop-cell.n + (if not (is_brief c.cell-item.result.role) then 1 else 0)) c.cell-item.result c.loop-cell-test.true
    c.cell-item.is refl c.loop-cell.invariant in
    let one = c.shown.ensures in
    absurd (false≢true (c.in_err-n.ensures.room (omega (arith, few, next, one))))
