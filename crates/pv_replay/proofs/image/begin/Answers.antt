use Rattle.std.proofs.Common.{ℕ, ◌+◌, arith, rules, sym, subst, ◌∙◌}
use Rattle.pv_replay.proofs.ImageLaws.{IsBegun, begin-input, begin-stored}
use Rattle.pv_replay.proofs.image.begin.Goals.{then-is_stored, else-is_stored}
use Rattle.pv_replay.proofs.image.begin.Goals as goal

pub loop-number-preserved : goal.loop-number-preserved
loop-number-preserved c =
    let l = c.loop-number in
    let m = c.if-is_stored in
    let S : ℕ → Type 0 = λ k. IsBegun c.args.roles.now c.args.image.now c.args.input.now (l.number + 1) k m.given m.values in
    let G : ℕ → Type 0 = λ k. IsBegun c.args.roles.now c.args.image.now c.args.input.now (l.number + 1) m.stored k m.values in
    elim m.branch [
      | else-is_stored w ↦ subst S (sym w.stored-is) (begin-input c.args.roles.now c.args.image.now c.args.input.now l.number l.stored l.given (l.number + 1) m.given l.values m.values
          _ _ (omega (arith, c.requires, l.auto.values)) c.loop-number-test.true (search rules) (sym c.is_stored.ensures ∙ (search rules)) (omega arith) (omega (arith, w.given-is)) w.values-is
          (λ long. (search rules)) (search rules))
      | then-is_stored w ↦ subst G (sym w.given-is) (begin-stored c.args.roles.now c.args.image.now c.args.input.now l.number l.stored l.given (l.number + 1) m.stored l.values m.values
          _ _ (omega (arith, c.requires, l.auto.values)) c.loop-number-test.true (search rules) (sym c.is_stored.ensures ∙ (search rules)) (omega arith) (omega (arith, w.stored-is)) w.values-is
          (search rules) (search rules))
    ]
