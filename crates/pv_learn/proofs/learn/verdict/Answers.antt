use Rattle.std.proofs.Common.{◌∷◌, [], subst}
use Rattle.pv_log.specs.declared.line.Line.{Line}
use Rattle.pv_log.specs.Follows.{Follows, IsAccepted, LacksEmpty}
use Rattle.pv_region.specs.Stored.{all_lits}
use Rattle.pv_learn.proofs.Counts.{line-is}
use Rattle.pv_learn.proofs.learn.verdict.Goals as goal

pub returns-clause-follows : goal.returns-clause-follows
returns-clause-follows c = λ e.
    let s = c.args.propagator.now.stored in
    subst (λ (line : Line). LacksEmpty (Follows s.variables) (all_lits s) (line ∷ []))
    (line-is _ _ _ _ _ _ c.next_id.ensures.id c.as_slice.ensures.value c.as_slice-2.ensures.value) ((c.check.ensures.no_empty).0 e)

pub returns-clause-accepted : goal.returns-clause-accepted
returns-clause-accepted c = λ e.
    let s = c.args.propagator.now.stored in
    subst (λ (line : Line). IsAccepted (Follows s.variables) (all_lits s) (line ∷ []))
    (line-is _ _ _ _ _ _ c.next_id.ensures.id c.as_slice.ensures.value c.as_slice-2.ensures.value) ((c.check.ensures.accepted).0 e)
