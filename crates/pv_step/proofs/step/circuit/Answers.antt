use Rattle.std.proofs.Common.{◌≡◌, ap, arith}
use Rattle.std.proofs.lemmas.Result.{on_ok_weaker, IfOk-at_ok}
use Rattle.pv_gate.specs.Netlist.{Netlist}
use Rattle.pv_bool.specs.Programs.{program_tree}
use Rattle.pv_step.proofs.Outcome.{nodes-circuit, on_ok}
use Rattle.pv_step.proofs.ScanLaws.{is_circuit}
use Rattle.pv_step.proofs.step.circuit.Goals as goal

pub returns-clause-few : goal.returns-clause-few
returns-clause-few c =
    let limit : c.in_ok-gates.gates.limit ≡ c.args.limit = ap (λ (g : Netlist). g.limit)
    (IfOk-at_ok _ c.in_ok-gates.ensures.made c.make.ensures.made) in
    on_ok_weaker c.build.result (λ within. omega (arith, within, limit, nodes-circuit (program_tree c.args.program.now)))
    c.build.ensures.within

pub returns-clause-kept : goal.returns-clause-kept
returns-clause-kept c = on_ok c.build.result (is_circuit (program_tree c.args.program.now) c.args.program.now.own)
