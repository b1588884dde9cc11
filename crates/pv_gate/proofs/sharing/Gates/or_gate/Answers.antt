use Rattle.std.proofs.Common.{sym, ◌∙◌, ap, neg_ℤ}
use Rattle.pv_gate.specs.Build.{or_gate, and_gate}
use Rattle.pv_gate.proofs.Given.{gives_same, gives_complemented}
use Rattle.pv_gate.proofs.sharing.Gates.or_gate.Goals as goal

pub returns : goal.returns
unfolding or_gate
returns c =
    gives_complemented _ _ _ _ _ c.complemented.ensures
    (gives_same _ _ _ _ _
    (ap (λ a. and_gate c.args.self.now.nodes a (neg_ℤ c.args.b.code)) (sym c.complement.ensures)
    ∙ ap (and_gate c.args.self.now.nodes c.complement.result.code) (sym c.complement-2.ensures))
    c.and_gate.ensures)
