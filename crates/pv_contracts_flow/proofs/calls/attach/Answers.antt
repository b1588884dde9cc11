use Rattle.std.proofs.Common.{◌≡◌, true, IfSome, length, sym, subst, ap, ◌∙◌}
use Rattle.pv_flow.specs.declared.parts.Parts.{Parts as CodeParts}
use Rattle.pv_flow.specs.Automata.{Parts}
use Rattle.pv_flow.specs.Machines.{IsAcyclic, IsAttached}
use Rattle.pv_flow.specs.Tables.{is_tabled}
use Rattle.pv_flow.specs.View.{parts_of, terms_of}
use Rattle.pv_flow.specs.AutomatonView.{automaton_of, attached_of}
use Rattle.pv_contracts_flow.proofs.calls.attach.Goals as goal

pub acyclic-requires-clause-acyclic : goal.acyclic-requires-clause-acyclic
acyclic-requires-clause-acyclic c = subst (λ (q : Parts). IsAcyclic q) (sym c.in_ok-automaton.ensures.ok) c.requires.acyclic

pub acyclic-requires-clause-fits : goal.acyclic-requires-clause-fits
acyclic-requires-clause-fits c =
    subst (λ (q : CodeParts). IfSome (attached_of (terms_of q.nodes.items) c.args.attached) (IsAttached (parts_of q))) (sym c.in_ok-automaton.ensures.parts)
    c.requires.fits

pub acyclic-requires-clause-tabled : goal.acyclic-requires-clause-tabled
acyclic-requires-clause-tabled c =
    subst (λ (q : CodeParts). is_tabled (length q.nodes.items) c.args.attached ≡ true) (sym c.in_ok-automaton.ensures.parts) c.requires.terms

pub returns : goal.returns
returns c = ap automaton_of c.acyclic.ensures.automaton ∙ c.in_ok-automaton.ensures.ok
