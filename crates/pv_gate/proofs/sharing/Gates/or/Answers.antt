-- The literal has the value that the law on lists of nodes says.
use Rattle.std.proofs.Common.{◌∙◌, ◌||◌, to_z, of_z, w32}
use Rattle.std.proofs.lemmas.Int.{to_z-of_z}
use Rattle.pv_gate.specs.Value.{value_of}
use Rattle.pv_gate.specs.Build.{or_gate}
use Rattle.pv_gate.specs.Building.{make_or}
use Rattle.pv_gate.proofs.Again.{made_or}
use Rattle.pv_gate.proofs.Building.{Told, told_given, builds_same}
use Rattle.pv_gate.proofs.Calls.{built_ok, built_err, of_two}
use Rattle.pv_gate.proofs.OperationValues.{or_builds, or_is}
use Rattle.pv_gate.proofs.sharing.Gates.or.Goals as goal

known : (c : goal.After-code) → Told c.args.self.now c.or_gate.new.self (λ inputs. value_of inputs c.args.self.now.nodes c.args.a || value_of inputs c.args.self.now.nodes c.args.b) (to_z w32 (of_z w32 c.code.result))
known c =
    told_given _ _ _ (or_gate c.args.self.now.nodes c.args.a c.args.b) _ _ _
    (builds_same _ _ _ _ (λ inputs. or_is (value_of inputs c.args.self.now.nodes c.args.a) (value_of inputs c.args.self.now.nodes c.args.b))
    (or_builds c.args.self.now.nodes c.args.a c.args.b c.literal-a.ensures.netlist c.requires.first c.requires.second))
    (of_two (or_gate c.args.self.now.nodes) _ _ _ _
    (c.literal-a.ensures.code ∙ to_z-of_z w32 c.args.a c.ranges.a)
    (c.literal-b.ensures.code ∙ to_z-of_z w32 c.args.b c.ranges.b))
    c.in_ok-or_gate.ensures
    (to_z-of_z w32 c.code.result (record { sfits = c.code.type_inv }) ∙ c.code.ensures)

pub returns-in_err-or_gate-clause-built : goal.returns-in_err-or_gate-clause-built
unfolding make_or
returns-in_err-or_gate-clause-built c =
    built_err _ _ (λ ns. or_gate ns c.args.a c.args.b) _ _ _ c.from_residual.ensures.1 (of_two (or_gate c.args.self.now.nodes) _ _ _ _
    (c.literal-a.ensures.code ∙ to_z-of_z w32 c.args.a c.ranges.a)
    (c.literal-b.ensures.code ∙ to_z-of_z w32 c.args.b c.ranges.b)) c.in_err-or_gate.ensures

pub returns-clause-built : goal.returns-clause-built
unfolding make_or
returns-clause-built c =
    built_ok _ _ (λ ns. or_gate ns c.args.a c.args.b) _ _ _ (made_or c.args.a c.args.b) (of_two (or_gate c.args.self.now.nodes) _ _ _ _
    (c.literal-a.ensures.code ∙ to_z-of_z w32 c.args.a c.ranges.a)
    (c.literal-b.ensures.code ∙ to_z-of_z w32 c.args.b c.ranges.b)) c.in_ok-or_gate.ensures
    (to_z-of_z w32 c.code.result (record { sfits = c.code.type_inv }) ∙ c.code.ensures)

pub returns-clause-value : goal.returns-clause-value
returns-clause-value c = (known c).value

pub returns-clause-names : goal.returns-clause-names
returns-clause-names c = (known c).names

pub returns-clause-extends : goal.returns-clause-extends
returns-clause-extends c = (known c).extends

pub returns-clause-longer : goal.returns-clause-longer
returns-clause-longer c = (known c).longer

pub returns-clause-older : goal.returns-clause-older
returns-clause-older c = (known c).older
