use Rattle.std.proofs.Common.{◌≡◌, ap, ◌∙◌, to_z, of_z, w32, neg_ℤ, length}
use Rattle.std.proofs.lemmas.Int.{to_z-of_z}
use Rattle.pv_gate.specs.Value.{value_of}
use Rattle.pv_gate.proofs.Building.{value_of-neg}
use Rattle.pv_gate.proofs.sharing.Gates.complement.Goals as goal

pub returns-clause-value : goal.returns-clause-value
returns-clause-value c =
    let is : to_z w32 (of_z w32 c.code.result) ≡ neg_ℤ c.args.literal =
    to_z-of_z w32 c.code.result (record { sfits = c.code.type_inv })
    ∙ (c.code.ensures ∙ (c.complement.ensures ∙ ap neg_ℤ (c.literal.ensures.code ∙ to_z-of_z w32 c.args.literal c.ranges.literal))) in
    λ inputs. ap (value_of inputs c.args.self.now.nodes) is ∙ value_of-neg inputs c.args.self.now.nodes (length c.args.self.now.nodes) c.args.literal c.requires
