-- Each way through the tests is the case of the definition with the same tests.
use Rattle.std.proofs.Common.{sym, ◌∙◌, ap}
use Rattle.std.proofs.lemmas.Bool.{cond-true, cond-false}
use Rattle.pv_gate.specs.Build.{mux_gate, choice_gate}
use Rattle.pv_gate.proofs.Given.{gives_present, gives_same}
use Rattle.pv_gate.proofs.sharing.Gates.mux_gate.Goals as goal

pub returns-then-eq : goal.returns-then-eq
unfolding mux_gate
returns-then-eq c = gives_present _ _ _ c.requires.within (cond-true _ _ _ (sym c.eq.ensures ∙ c.if-eq.true))

pub returns-then-eq-2 : goal.returns-then-eq-2
unfolding mux_gate
returns-then-eq-2 c =
    gives_present _ _ _ c.requires.within
    (cond-false _ _ _ (sym c.eq.ensures ∙ c.if-eq.false) ∙ cond-true _ _ _ (sym c.eq-2.ensures ∙ c.if-eq-2.true))

pub returns-then-eq-3 : goal.returns-then-eq-3
unfolding mux_gate
returns-then-eq-3 c =
    gives_present _ _ _ c.requires.within
    (cond-false _ _ _ (sym c.eq.ensures ∙ c.if-eq.false)
    ∙ (cond-false _ _ _ (sym c.eq-2.ensures ∙ c.if-eq-2.false)
    ∙ cond-true _ _ _ (sym c.eq-3.ensures ∙ c.if-eq-3.true)))

pub returns-then-is_complement : goal.returns-then-is_complement
unfolding mux_gate
returns-then-is_complement c =
    gives_same _ _ _ _ _
    (cond-false _ _ _ (sym c.eq.ensures ∙ c.if-eq.false)
    ∙ (cond-false _ _ _ (sym c.eq-2.ensures ∙ c.if-eq-2.false)
    ∙ (cond-false _ _ _ (sym c.eq-3.ensures ∙ c.if-eq-3.false)
    ∙ (cond-true _ _ _ (sym c.is_complement.ensures ∙ c.if-is_complement.true)
    ∙ ap (λ s. choice_gate c.args.self.now.nodes s c.args.b.code c.args.a.code) (sym c.complement.ensures)))))
    c.choice_gate.ensures

pub returns : goal.returns
unfolding mux_gate
returns c =
    gives_same _ _ _ _ _
    (cond-false _ _ _ (sym c.eq.ensures ∙ c.if-eq.false)
    ∙ (cond-false _ _ _ (sym c.eq-2.ensures ∙ c.if-eq-2.false)
    ∙ (cond-false _ _ _ (sym c.eq-3.ensures ∙ c.if-eq-3.false)
    ∙ cond-false _ _ _ (sym c.is_complement.ensures ∙ c.if-is_complement.false))))
    c.choice_gate-2.ensures
