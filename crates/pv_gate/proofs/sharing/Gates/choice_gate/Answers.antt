-- Each way through the tests is the case of the definition with the same tests.
use Rattle.std.proofs.Common.{sym, ◌∙◌, ap, int_eq}
use Rattle.std.proofs.lemmas.Bool.{cond-true, cond-false}
use Rattle.pv_gate.specs.Build.{choice_gate, and_gate, or_gate}
use Rattle.pv_gate.proofs.Given.{gives_same, gives_complemented}
use Rattle.pv_gate.proofs.sharing.Gates.choice_gate.Goals as goal

pub returns-then-eq : goal.returns-then-eq
unfolding choice_gate
returns-then-eq c = gives_same _ _ _ _ _ (cond-true _ _ _ (sym c.eq.ensures ∙ c.if-eq.true)) c.or_gate.ensures

pub returns-then-eq-2 : goal.returns-then-eq-2
unfolding choice_gate
returns-then-eq-2 c =
    gives_same _ _ _ _ _
    (cond-false _ _ _ (sym c.eq.ensures ∙ c.if-eq.false)
    ∙ (cond-true _ _ _ (sym c.eq-2.ensures ∙ c.if-eq-2.true)
    ∙ ap (λ s. and_gate c.args.self.now.nodes s c.args.b.code) (sym c.complement.ensures)))
    c.and_gate.ensures

pub returns-then-eq-3 : goal.returns-then-eq-3
unfolding choice_gate
returns-then-eq-3 c =
    gives_same _ _ _ _ _
    (cond-false _ _ _ (sym c.eq.ensures ∙ c.if-eq.false)
    ∙ (cond-false _ _ _ (sym c.eq-2.ensures ∙ c.if-eq-2.false)
    ∙ (cond-true _ _ _ (sym c.eq-3.ensures ∙ c.if-eq-3.true)
    ∙ ap (λ s. or_gate c.args.self.now.nodes s c.args.a.code) (sym c.complement-then-eq-3.ensures))))
    c.or_gate-then-eq-3.ensures

pub returns-then-eq-4 : goal.returns-then-eq-4
unfolding choice_gate
returns-then-eq-4 c =
    gives_same _ _ _ _ _
    (cond-false _ _ _ (sym c.eq.ensures ∙ c.if-eq.false)
    ∙ (cond-false _ _ _ (sym c.eq-2.ensures ∙ c.if-eq-2.false)
    ∙ (cond-false _ _ _ (sym c.eq-3.ensures ∙ c.if-eq-3.false)
    ∙ cond-true _ _ _ (sym c.eq-4.ensures ∙ c.if-eq-4.true))))
    c.and_gate-then-eq-4.ensures

pub returns-then-eq-5 : goal.returns-then-eq-5
unfolding choice_gate
returns-then-eq-5 c =
    gives_same _ _ _ _ _
    (cond-false _ _ _ (sym c.eq.ensures ∙ c.if-eq.false)
    ∙ (cond-false _ _ _ (sym c.eq-2.ensures ∙ c.if-eq-2.false)
    ∙ (cond-false _ _ _ (sym c.eq-3.ensures ∙ c.if-eq-3.false)
    ∙ (cond-false _ _ _ (sym c.eq-4.ensures ∙ c.if-eq-4.false)
    ∙ cond-true _ _ _ (ap (int_eq c.args.b.code) (sym c.complement-2.ensures) ∙ (sym c.eq-5.ensures ∙ c.if-eq-5.true))))))
    (gives_complemented _ _ _ _ _ c.complemented.ensures c.xor_gate.ensures)

pub returns : goal.returns
unfolding choice_gate
returns c =
    gives_same _ _ _ _ _
    (cond-false _ _ _ (sym c.eq.ensures ∙ c.if-eq.false)
    ∙ (cond-false _ _ _ (sym c.eq-2.ensures ∙ c.if-eq-2.false)
    ∙ (cond-false _ _ _ (sym c.eq-3.ensures ∙ c.if-eq-3.false)
    ∙ (cond-false _ _ _ (sym c.eq-4.ensures ∙ c.if-eq-4.false)
    ∙ cond-false _ _ _ (ap (int_eq c.args.b.code) (sym c.complement-2.ensures) ∙ (sym c.eq-5.ensures ∙ c.if-eq-5.false))))))
    c.mux_made.ensures
