-- Each way through the tests is the case of the definition with the same tests.
use Rattle.std.proofs.Common.{sym, ◌∙◌, ap, int_eq, ◌||◌, neg_ℤ}
use Rattle.std.proofs.lemmas.Bool.{or_left, or_right, or_from, cond-true, cond-false}
use Rattle.pv_gate.specs.Node.{true_literal, false_literal}
use Rattle.pv_gate.specs.Build.{and_gate, share}
use Rattle.pv_gate.proofs.Given.{gives_present, gives_same}
use Rattle.pv_gate.proofs.sharing.Gates.and_gate.Goals as goal
use Rattle.pv_gate.proofs.sharing.Gates.and_gate.Goals.{then-eq-via-then-eq, then-eq-via-else-eq+then-eq-2, then-eq-via-else-eq+else-eq-2+then-eq-3, then-eq-5-via-then-eq-5, then-eq-5-via-else-eq-5+then-eq-6}

pub returns-then-eq : goal.returns-then-eq
unfolding and_gate
returns-then-eq c =
    gives_present _ _ _ c.requires.within (cond-true (int_eq c.args.a.code false_literal || (int_eq c.args.b.code false_literal || int_eq c.args.a.code (neg_ℤ c.args.b.code))) _ _ (elim c.then-eq.branch [
      | then-eq-via-then-eq w ↦ or_left (int_eq c.args.a.code false_literal) _ (sym c.eq.ensures ∙ w.if-eq.true)
      | then-eq-via-else-eq+then-eq-2 w ↦ or_right (int_eq c.args.a.code false_literal) _ (or_left (int_eq c.args.b.code false_literal) _ (sym w.eq-else-eq.ensures ∙ w.if-eq-2.true))
      | then-eq-via-else-eq+else-eq-2+then-eq-3 w ↦ or_right (int_eq c.args.a.code false_literal) _ (or_right (int_eq c.args.b.code false_literal) _ (ap (int_eq c.args.a.code) (sym w.complement.ensures) ∙ (sym w.eq-else-eq-2.ensures ∙ w.if-eq-3.true)))
    ]))

pub returns-then-eq-4 : goal.returns-then-eq-4
unfolding and_gate
returns-then-eq-4 c =
    gives_present _ _ _ c.requires.within
    (cond-false _ _ _ (or_from _ _ (sym c.eq.ensures ∙ c.if-eq.false) (or_from _ _ (sym c.eq-else-eq.ensures ∙ c.if-eq-2.false) (ap (int_eq c.args.a.code) (sym c.complement.ensures) ∙ (sym c.eq-else-eq-2.ensures ∙ c.if-eq-3.false))))
    ∙ cond-true _ _ _ (sym c.eq-2.ensures ∙ c.if-eq-4.true))

pub returns-then-eq-5 : goal.returns-then-eq-5
unfolding and_gate
returns-then-eq-5 c =
    gives_present _ _ _ c.requires.within
    (cond-false _ _ _ (or_from _ _ (sym c.eq.ensures ∙ c.if-eq.false) (or_from _ _ (sym c.eq-else-eq.ensures ∙ c.if-eq-2.false) (ap (int_eq c.args.a.code) (sym c.complement.ensures) ∙ (sym c.eq-else-eq-2.ensures ∙ c.if-eq-3.false))))
    ∙ (cond-false _ _ _ (sym c.eq-2.ensures ∙ c.if-eq-4.false)
    ∙ cond-true (int_eq c.args.b.code true_literal || int_eq c.args.a.code c.args.b.code) _ _ (elim c.then-eq-5.branch [
      | then-eq-5-via-then-eq-5 w ↦ or_left (int_eq c.args.b.code true_literal) _ (sym c.eq-3.ensures ∙ w.if-eq-5.true)
      | then-eq-5-via-else-eq-5+then-eq-6 w ↦ or_right (int_eq c.args.b.code true_literal) _ (sym w.eq-else-eq-5.ensures ∙ w.if-eq-6.true)
    ])))

pub returns : goal.returns
unfolding and_gate
returns c =
    gives_same _ _ _ _ _
    (cond-false _ _ _ (or_from _ _ (sym c.eq.ensures ∙ c.if-eq.false) (or_from _ _ (sym c.eq-else-eq.ensures ∙ c.if-eq-2.false) (ap (int_eq c.args.a.code) (sym c.complement.ensures) ∙ (sym c.eq-else-eq-2.ensures ∙ c.if-eq-3.false))))
    ∙ (cond-false _ _ _ (sym c.eq-2.ensures ∙ c.if-eq-4.false)
    ∙ (cond-false _ _ _ (or_from _ _ (sym c.eq-3.ensures ∙ c.if-eq-5.false) (sym c.eq-else-eq-5.ensures ∙ c.if-eq-6.false))
    ∙ ap (share c.args.self.now.nodes) (sym c.and_node.ensures))))
    c.share.ensures
