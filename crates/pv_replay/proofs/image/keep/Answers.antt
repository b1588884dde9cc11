use Rattle.std.proofs.Common.{ℕ, ℤ, List, ◌+◌, arith, rules, sym, subst, ◌∙◌}
use Rattle.pv_replay.proofs.ImageLaws.{IsKept, keep-input, keep-stored}
use Rattle.pv_replay.proofs.image.keep.Goals.{then-is_stored, else-is_stored}
use Rattle.pv_replay.proofs.image.keep.Goals as goal

pub loop-number-preserved : goal.loop-number-preserved
loop-number-preserved c =
    let l = c.loop-number in
    let m = c.if-is_stored in
    let S : ℕ → Type 0 = λ k. IsKept c.args.roles.now c.args.image.now c.args.values.now (l.number + 1) k m.image in
    let I : List ℤ → Type 0 = λ xs. IsKept c.args.roles.now c.args.image.now c.args.values.now (l.number + 1) l.stored xs in
    elim m.branch [
      | then-is_stored w ↦ keep-stored c.args.roles.now c.args.image.now c.args.values.now l.number l.stored (l.number + 1) m.stored l.image m.image
          _ _ c.loop-number-test.true (search rules) (sym c.is_stored.ensures ∙ (search rules)) (omega arith) (omega (arith, w.stored-is)) w.image-is
          (omega (arith, m.auto.image, l.auto.image)) (search rules) l.invariant
      | else-is_stored w ↦ subst S (sym w.stored-is) (subst I (sym w.image-is) (keep-input c.args.roles.now c.args.image.now c.args.values.now l.number l.stored (l.number + 1) l.image
          _ c.loop-number-test.true (search rules) (sym c.is_stored.ensures ∙ (search rules)) (omega arith) l.invariant))
    ]
