use Rattle.std.proofs.Common.{ℕ, ℤ, List, ◌+◌, true, false, arith, rules, sym, subst, ◌∙◌}
use Rattle.pv_replay.proofs.ImageLaws.{IsStarted, start-one, start-none}
use Rattle.pv_replay.proofs.image.start.Goals.{then-is_stored+then-is_open, then-is_stored+else-is_open, else-is_stored}
use Rattle.pv_replay.proofs.image.start.Goals as goal

pub loop-cell-preserved : goal.loop-cell-preserved
loop-cell-preserved c =
    let l = c.loop-cell in
    let m = c.if-is_stored in
    let S : ℕ → Type 0 = λ k. IsStarted c.args.cells.now c.args.params.now (l.cell-index + 1) k m.given m.image in
    let G : ℕ → Type 0 = λ k. IsStarted c.args.cells.now c.args.params.now (l.cell-index + 1) l.stored k m.image in
    let I : List ℤ → Type 0 = λ xs. IsStarted c.args.cells.now c.args.params.now (l.cell-index + 1) l.stored l.given xs in
    elim m.branch [
      | then-is_stored+then-is_open w ↦ start-one c.args.cells.now c.args.params.now l.cell-index l.stored l.given (l.cell-index + 1) m.stored m.given l.image m.image
          c.cell-item.result true _ c.loop-cell-test.true c.cell-item.is (sym c.is_stored.ensures ∙ (search rules)) (sym w.is_open.ensures ∙ (search rules)) (omega arith) (omega (arith, w.stored-is)) (omega (arith, w.given-is)) w.image-is
          (omega (arith, m.auto.image, l.auto.image)) (λ starts long. (search rules)) l.invariant
      | then-is_stored+else-is_open w ↦ start-one c.args.cells.now c.args.params.now l.cell-index l.stored l.given (l.cell-index + 1) m.stored m.given l.image m.image
          c.cell-item.result false _ c.loop-cell-test.true c.cell-item.is (sym c.is_stored.ensures ∙ (search rules)) (sym w.is_open.ensures ∙ (search rules)) (omega arith) (omega (arith, w.stored-is)) (omega (arith, w.given-is)) w.image-is
          (omega (arith, m.auto.image, l.auto.image)) (λ starts long. (search rules)) l.invariant
      | else-is_stored w ↦ subst S (sym w.stored-is) (subst G (sym w.given-is) (subst I (sym w.image-is) (start-none c.args.cells.now c.args.params.now l.cell-index l.stored l.given (l.cell-index + 1) l.image
          c.cell-item.result c.loop-cell-test.true c.cell-item.is (sym c.is_stored.ensures ∙ (search rules)) (omega arith) l.invariant)))
    ]
