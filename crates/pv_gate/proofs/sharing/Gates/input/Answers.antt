use Rattle.std.proofs.Common.{◌∙◌, ap, not, to_z, of_z, w32}
use Rattle.std.proofs.lemmas.Bool.{cond-true}
use Rattle.std.proofs.lemmas.Int.{to_z-of_z}
use Rattle.pv_gate.specs.Node.{input_count}
use Rattle.pv_gate.proofs.Building.{Told, told_input}
use Rattle.pv_gate.proofs.Kept.{kept_input_at, kept_as}
use Rattle.pv_gate.proofs.sharing.Gates.input.Goals as goal

pub invariant_of-self-2 : goal.invariant_of-self-2
invariant_of-self-2 c =
    kept_as _ _ _ _ _ _
    (c.push.ensures.items ∙ cond-true _ _ _ (c.is_err.ensures.negation ∙ ap not c.if-is_err.false))
    (kept_input_at c.args.self.now _ _ _ _ _ c.self.view_is c.self.invariant c.requires)

known : (c : goal.After-code) → Told c.args.self.now (record { nodes = c.push.new.self.items; limit = c.self.inside.limit }) (λ inputs. inputs (input_count c.args.self.now.nodes)) (to_z w32 (of_z w32 c.code.result))
known c =
    told_input c.args.self.now c.self.inside.nodes.items c.push.new.self.items c.self.inside.limit c.self.inside.inputs c.self.view_is c.self.invariant.netlist
    (c.push.ensures.items ∙ cond-true _ _ _ (c.is_err.ensures.negation ∙ ap not c.if-is_err.false))
    c.self.invariant.inputs_are _
    (to_z-of_z w32 c.code.result (record { sfits = c.code.type_inv }) ∙ (c.code.ensures ∙ c.next_literal-literal.ensures))

pub returns-clause-value : goal.returns-clause-value
returns-clause-value c = (known c).value

pub returns-clause-longer : goal.returns-clause-longer
returns-clause-longer c = (known c).longer

pub returns-clause-older : goal.returns-clause-older
returns-clause-older c = (known c).older
