use Rattle.std.proofs.Common.{sym, ◌∙◌, ap, pos, unsigned_abs}
use Rattle.std.proofs.lemmas.Bool.{cond-true, cond-false}
use Rattle.pv_gate.specs.declared.netlist.Node.TheVariants.{Xor}
use Rattle.pv_gate.specs.Build.{xor_made, share, lower, higher}
use Rattle.pv_gate.proofs.Given.{gives_same, gives_complemented, xor_from_tests}
use Rattle.pv_gate.proofs.sharing.Gates.xor_made.Goals as goal

pub returns-then-is_complement : goal.returns-then-is_complement
unfolding xor_made
returns-then-is_complement c =
    gives_same _ _ _ _ _ (cond-true _ _ _ (xor_from_tests _ _ _ _ _ c.is_complement.ensures c.is_complement-2.ensures c.if-is_complement.true))
    (gives_complemented _ _ _ _ _ c.complemented.ensures
    (gives_same _ _ _ _ _
    (ap (λ a. share c.args.self.now.nodes (Xor (lower a (pos (unsigned_abs c.args.b.code))) (higher a (pos (unsigned_abs c.args.b.code))))) (sym c.node.ensures)
    ∙ (ap (λ b. share c.args.self.now.nodes (Xor (lower c.node.result.code b) (higher c.node.result.code b))) (sym c.node-2.ensures)
    ∙ ap (share c.args.self.now.nodes) (sym c.xor_node.ensures)))
    c.share-made.ensures))

pub returns : goal.returns
unfolding xor_made
returns c =
    gives_same _ _ _ _ _
    (cond-false _ _ _ (xor_from_tests _ _ _ _ _ c.is_complement.ensures c.is_complement-2.ensures c.if-is_complement.false)
    ∙ (ap (λ a. share c.args.self.now.nodes (Xor (lower a (pos (unsigned_abs c.args.b.code))) (higher a (pos (unsigned_abs c.args.b.code))))) (sym c.node.ensures)
    ∙ (ap (λ b. share c.args.self.now.nodes (Xor (lower c.node.result.code b) (higher c.node.result.code b))) (sym c.node-2.ensures)
    ∙ ap (share c.args.self.now.nodes) (sym c.xor_node.ensures))))
    c.share-made.ensures
