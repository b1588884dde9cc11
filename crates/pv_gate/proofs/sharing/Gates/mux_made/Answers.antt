use Rattle.std.proofs.Common.{sym, ◌∙◌, ap, neg_ℤ}
use Rattle.std.proofs.lemmas.Bool.{cond-true, cond-false}
use Rattle.pv_gate.specs.declared.netlist.Node.TheVariants.{Mux}
use Rattle.pv_gate.specs.Build.{mux_made, share}
use Rattle.pv_gate.proofs.Given.{gives_same, gives_complemented}
use Rattle.pv_gate.proofs.sharing.Gates.mux_made.Goals as goal

pub returns-then-is_complement : goal.returns-then-is_complement
unfolding mux_made
returns-then-is_complement c =
    gives_same _ _ _ _ _ (cond-true _ _ _ (sym c.is_complement.ensures ∙ c.if-is_complement.true))
    (gives_complemented _ _ _ _ _ c.complemented.ensures
    (gives_same _ _ _ _ _
    (ap (λ a. share c.args.self.now.nodes (Mux c.args.s.code a (neg_ℤ c.args.b.code))) (sym c.complement.ensures)
    ∙ (ap (λ b. share c.args.self.now.nodes (Mux c.args.s.code c.complement.result.code b)) (sym c.complement-then-is_complement.ensures)
    ∙ ap (share c.args.self.now.nodes) (sym c.mux_node.ensures)))
    c.share.ensures))

pub returns : goal.returns
unfolding mux_made
returns c =
    gives_same _ _ _ _ _
    (cond-false _ _ _ (sym c.is_complement.ensures ∙ c.if-is_complement.false)
    ∙ ap (share c.args.self.now.nodes) (sym c.mux_node-2.ensures))
    c.share-2.ensures
