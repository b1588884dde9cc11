use Rattle.std.proofs.Common.{ℕ, ap, ◌∙◌, List}
use Rattle.std.proofs.lemmas.List.{take_all}
use Rattle.pv_log.specs.Propagation.{is_false}
use Rattle.pv_watch.proofs.visit.other_free.Goals as goal

pub returns : goal.returns
returns c = λ x own ne.
    c.loop-lit.invariant x (ap (λ (xs : List ℕ). is_false xs x) (take_all c.loop-lit.lit-index c.args.clause.now c.loop-lit-test.false) ∙ own) ne
