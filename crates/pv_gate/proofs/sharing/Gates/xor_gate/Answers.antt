-- Each way through the tests is the case of the definition with the same tests.
use Rattle.std.proofs.Common.{sym, ◌∙◌, ap, int_eq}
use Rattle.std.proofs.lemmas.Bool.{cond-true, cond-false}
use Rattle.pv_gate.specs.Build.{xor_gate, present}
use Rattle.pv_gate.proofs.Given.{gives_present, gives_same}
use Rattle.pv_gate.proofs.sharing.Gates.xor_gate.Goals as goal

pub returns-then-eq : goal.returns-then-eq
unfolding xor_gate
returns-then-eq c = gives_present _ _ _ c.requires.within (cond-true _ _ _ (sym c.eq.ensures ∙ c.if-eq.true))

pub returns-then-eq-2 : goal.returns-then-eq-2
unfolding xor_gate
returns-then-eq-2 c =
    gives_present _ _ _ c.requires.within
    (cond-false _ _ _ (sym c.eq.ensures ∙ c.if-eq.false)
    ∙ (cond-true _ _ _ (sym c.eq-2.ensures ∙ c.if-eq-2.true) ∙ ap (present c.args.self.now.nodes) (sym c.complement.ensures)))

pub returns-then-eq-3 : goal.returns-then-eq-3
unfolding xor_gate
returns-then-eq-3 c =
    gives_present _ _ _ c.requires.within
    (cond-false _ _ _ (sym c.eq.ensures ∙ c.if-eq.false)
    ∙ (cond-false _ _ _ (sym c.eq-2.ensures ∙ c.if-eq-2.false)
    ∙ cond-true _ _ _ (sym c.eq-3.ensures ∙ c.if-eq-3.true)))

pub returns-then-eq-4 : goal.returns-then-eq-4
unfolding xor_gate
returns-then-eq-4 c =
    gives_present _ _ _ c.requires.within
    (cond-false _ _ _ (sym c.eq.ensures ∙ c.if-eq.false)
    ∙ (cond-false _ _ _ (sym c.eq-2.ensures ∙ c.if-eq-2.false)
    ∙ (cond-false _ _ _ (sym c.eq-3.ensures ∙ c.if-eq-3.false)
    ∙ (cond-true _ _ _ (sym c.eq-4.ensures ∙ c.if-eq-4.true) ∙ ap (present c.args.self.now.nodes) (sym c.complement-then-eq-4.ensures)))))

pub returns-then-eq-5 : goal.returns-then-eq-5
unfolding xor_gate
returns-then-eq-5 c =
    gives_present _ _ _ c.requires.within
    (cond-false _ _ _ (sym c.eq.ensures ∙ c.if-eq.false)
    ∙ (cond-false _ _ _ (sym c.eq-2.ensures ∙ c.if-eq-2.false)
    ∙ (cond-false _ _ _ (sym c.eq-3.ensures ∙ c.if-eq-3.false)
    ∙ (cond-false _ _ _ (sym c.eq-4.ensures ∙ c.if-eq-4.false)
    ∙ cond-true _ _ _ (sym c.eq-5.ensures ∙ c.if-eq-5.true)))))

pub returns-then-eq-6 : goal.returns-then-eq-6
unfolding xor_gate
returns-then-eq-6 c =
    gives_present _ _ _ c.requires.within
    (cond-false _ _ _ (sym c.eq.ensures ∙ c.if-eq.false)
    ∙ (cond-false _ _ _ (sym c.eq-2.ensures ∙ c.if-eq-2.false)
    ∙ (cond-false _ _ _ (sym c.eq-3.ensures ∙ c.if-eq-3.false)
    ∙ (cond-false _ _ _ (sym c.eq-4.ensures ∙ c.if-eq-4.false)
    ∙ (cond-false _ _ _ (sym c.eq-5.ensures ∙ c.if-eq-5.false)
    ∙ cond-true _ _ _ (ap (int_eq c.args.a.code) (sym c.complement-2.ensures) ∙ (sym c.eq-6.ensures ∙ c.if-eq-6.true)))))))

pub returns : goal.returns
unfolding xor_gate
returns c =
    gives_same _ _ _ _ _
    (cond-false _ _ _ (sym c.eq.ensures ∙ c.if-eq.false)
    ∙ (cond-false _ _ _ (sym c.eq-2.ensures ∙ c.if-eq-2.false)
    ∙ (cond-false _ _ _ (sym c.eq-3.ensures ∙ c.if-eq-3.false)
    ∙ (cond-false _ _ _ (sym c.eq-4.ensures ∙ c.if-eq-4.false)
    ∙ (cond-false _ _ _ (sym c.eq-5.ensures ∙ c.if-eq-5.false)
    ∙ cond-false _ _ _ (ap (int_eq c.args.a.code) (sym c.complement-2.ensures) ∙ (sym c.eq-6.ensures ∙ c.if-eq-6.false)))))))
    c.xor_made.ensures
