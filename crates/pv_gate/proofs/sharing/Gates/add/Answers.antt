use Rattle.std.proofs.Common.{sym, ◌∙◌, ap, not, pos, suc, length}
use Rattle.std.proofs.lemmas.Bool.{cond-true}
use Rattle.pv_gate.specs.Netlist.{Netlist}
use Rattle.pv_gate.proofs.Order.{derived_cmp}
use Rattle.pv_gate.proofs.Kept.{kept_gate_at, kept_as, found_says, on_ok_at}
use Rattle.pv_gate.proofs.sharing.Gates.add.Goals as goal

pub invariant_of-self-2 : goal.invariant_of-self-2
invariant_of-self-2 c =
    kept_as _ _ _ _ _ _
    (c.push.ensures.items ∙ cond-true _ _ _ (c.is_err.ensures.negation ∙ ap not c.if-is_err.false))
    (kept_gate_at c.args.self.now _ _ _ _ _ _ c.args.node c.self.view_is c.self.invariant c.requires.gate c.requires.follows c.requires.new c.requires.room
    (found_says _ derived_cmp c.self.inside.index c.insert.new.self c.args.node c.next_literal-literal.result _
    (c.next_literal-literal.ensures ∙ ap (λ (n : Netlist). pos (suc (length n.nodes))) (sym c.self.view_is))
    (on_ok_at _ _ (sym c.is_err-2.ensures.value ∙ c.if-is_err-2.false) c.insert.ensures.updates).0))
