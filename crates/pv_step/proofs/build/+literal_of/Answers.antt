use Rattle.std.proofs.Common.{ap, Err}
use Rattle.pv_gate.specs.Build.{and_gate, or_gate}
use Rattle.pv_bool.specs.Tree.{term_tree}
use Rattle.pv_step.specs.Circuits.{term_gate}
use Rattle.pv_step.proofs.Growth.{at_fault, beyond_left, beyond_right, both_and, both_or}
use Rattle.pv_step.proofs.build.+literal_of.Goals as goal

pub returns-in_err-left-in-And-clause-made : goal.returns-in_err-left-in-And-clause-made
returns-in_err-left-in-And-clause-made t c =
    at_fault c.args.gates.now c.literal_of-in-And.new.gates _ c.from_residual-in_err-left-in-And.result _
    c.from_residual-in_err-left-in-And.ensures.1
    (λ e. beyond_left and_gate both_and c.args.gates.now c.args.literals.now (term_tree c.deref-in-And.result.now)
    (term_tree c.in-And.left.value) (term_tree c.in-And.right.value) _
    (ap term_tree c.deref-in-And.ensures) (ap (λ u. term_gate c.args.literals.now c.args.gates.now.nodes (term_tree u)) c.in-And.is)
    (c.in_err-left-in-And.ensures.made.limit (ap Err e)))

pub returns-in_err-right-in-And-clause-made : goal.returns-in_err-right-in-And-clause-made
returns-in_err-right-in-And-clause-made t c =
    at_fault c.args.gates.now c.literal_of-in-And-2.new.gates _ c.from_residual-in_err-right-in-And.result _
    c.from_residual-in_err-right-in-And.ensures.1
    (λ e. beyond_right and_gate both_and c.args.gates.now c.args.literals.now c.literal_of-in-And.new.gates
    (term_tree c.deref-in-And.result.now) (term_tree c.in-And.left.value)
    (term_tree c.deref-in-And-2.result.now) (term_tree c.in-And.right.value) _ (ap term_tree c.deref-in-And.ensures)
    (ap term_tree c.deref-in-And-2.ensures) c.in_ok-left-in-And.ensures.made.nodes
    (ap (λ u. term_gate c.args.literals.now c.args.gates.now.nodes (term_tree u)) c.in-And.is)
    (c.in_err-right-in-And.ensures.made.limit (ap Err e)))

pub returns-in_err-left-in-Or-clause-made : goal.returns-in_err-left-in-Or-clause-made
returns-in_err-left-in-Or-clause-made t c =
    at_fault c.args.gates.now c.literal_of-in-Or.new.gates _ c.from_residual-in_err-left-in-Or.result _
    c.from_residual-in_err-left-in-Or.ensures.1
    (λ e. beyond_left or_gate both_or c.args.gates.now c.args.literals.now (term_tree c.deref-in-Or.result.now)
    (term_tree c.in-Or.left.value) (term_tree c.in-Or.right.value) _
    (ap term_tree c.deref-in-Or.ensures) (ap (λ u. term_gate c.args.literals.now c.args.gates.now.nodes (term_tree u)) c.in-Or.is)
    (c.in_err-left-in-Or.ensures.made.limit (ap Err e)))

pub returns-in_err-right-in-Or-clause-made : goal.returns-in_err-right-in-Or-clause-made
returns-in_err-right-in-Or-clause-made t c =
    at_fault c.args.gates.now c.literal_of-in-Or-2.new.gates _ c.from_residual-in_err-right-in-Or.result _
    c.from_residual-in_err-right-in-Or.ensures.1
    (λ e. beyond_right or_gate both_or c.args.gates.now c.args.literals.now c.literal_of-in-Or.new.gates
    (term_tree c.deref-in-Or.result.now) (term_tree c.in-Or.left.value)
    (term_tree c.deref-in-Or-2.result.now) (term_tree c.in-Or.right.value) _ (ap term_tree c.deref-in-Or.ensures)
    (ap term_tree c.deref-in-Or-2.ensures) c.in_ok-left-in-Or.ensures.made.nodes
    (ap (λ u. term_gate c.args.literals.now c.args.gates.now.nodes (term_tree u)) c.in-Or.is)
    (c.in_err-right-in-Or.ensures.made.limit (ap Err e)))
