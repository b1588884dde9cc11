use Rattle.std.proofs.Common.{◌≡◌, ◌∙◌, sym, ap, length, rules, neg_ℤ, refl}
use Rattle.std.proofs.lemmas.List.{take_at}
use Rattle.std.proofs.lemmas.Result.{err_from_is_err_and, IfOk-at_ok}
use Rattle.pv_gate.specs.declared.fault.GateFault.TheVariants.{Limit}
use Rattle.pv_gate.specs.Netlist.{Netlist}
use Rattle.pv_bool.specs.Programs.{program_tree}
use Rattle.pv_circuit.specs.Circuits.{begin_nodes, input_literals}
use Rattle.pv_step.specs.Circuits.{begin_literals}
use Rattle.pv_step.proofs.Beginning.{length-begin_literals}
use Rattle.pv_step.proofs.Outcome.{Scanned, scanned, judged_is, within-scanned, beyond_circuit, length-body, on_ok, from_fault, as_passed}
use Rattle.pv_step.proofs.Growth.{passed}
use Rattle.pv_step.proofs.ScanLaws.{circuit_scanned, names_copy}
use Rattle.pv_step.proofs.step.build.Goals.{After-deref_mut, After-deref-3}
use Rattle.pv_step.proofs.step.build.Goals as goal

-- the nodes and the literals before the scan are those of the program
nodes_are : (c : After-deref_mut) → c.inputs.new.gates ≡ record c.args.gates { nodes = begin_nodes (length c.args.program.now.bits.items) }
nodes_are c = c.in_ok-begin.ensures.nodes ∙ ap (λ n. let g : Netlist = record c.args.gates { nodes = begin_nodes n } in g) (c.len.ensures ∙ c.args.program.now.bits.ok.0)

begin_are : (c : After-deref_mut) → c.in_ok-begin.begin.items ≡ begin_literals c.args.program.now.bits.items
begin_are c = c.in_ok-begin.ensures.literals ∙ ap (input_literals 0) (c.len.ensures ∙ c.args.program.now.bits.ok.0)

-- the literals that the scan begins with are a copy
copied : (c : After-deref_mut) → c.deref_mut.result.now ≡ c.in_ok-begin.begin.items
copied c = c.deref_mut.ensures.value ∙ (IfOk-at_ok _ c.in_ok-end.ensures.made c.from_slice.ensures.items ∙ c.deref.ensures.value)

copy_length : (c : After-deref_mut) → length c.deref_mut.result.now ≡ length c.args.program.now.bits.items
copy_length c = ap length (copied c ∙ begin_are c) ∙ length-begin_literals c.args.program.now.bits.items

pub scan-requires-clause-bits : goal.scan-requires-clause-bits
scan-requires-clause-bits c = copy_length c

pub scan-requires-clause-literals : goal.scan-requires-clause-literals
scan-requires-clause-literals c = names_copy c.args.program.now.bits.items c.inputs.new.gates c.args.gates c.deref_mut.result.now
    (nodes_are c) (copied c ∙ begin_are c)

pub returns-in_err-ok-clause-limit : goal.returns-in_err-ok-clause-limit
returns-in_err-ok-clause-limit c =
    let p = err_from_is_err_and c.from_residual-in_err-ok.result c.from_residual-in_err-ok.ensures.1 in
    let at = (goal.at.returns-in_err-ok-clause-limit c).After-deref_mut in
    λ e. beyond_circuit (program_tree c.args.program.now) c.args.gates c.inputs.new.gates c.scan.new.gates c.deref_mut.result.now
    (nodes_are at) (copied at ∙ begin_are at) c.in_err-ok.field-0.0 c.in_err-ok.ensures.made
    (from_fault c.in_err-ok.field-0.0 Limit p.0 c.from_residual-in_err-ok.result (sym p.2) p.1 e)

-- the literals that the scan leaves
ended : (c : After-deref-3) → c.deref-3.result.now ≡ c.scan.new.literals
ended c =
    let kept : length c.scan.new.literals ≡ length c.in_ok-end.end.items =
    ap length c.in_ok-ok.ensures.end ∙ (length-body (program_tree c.args.program.now).body
    (record { nodes = c.inputs.new.gates.nodes; literals = c.deref_mut.result.now }) ∙ ap length c.deref_mut.ensures.value) in
    c.deref-3.ensures.value ∙ take_at c.scan.new.literals _ c.in_ok-end.end.len (kept ∙ sym c.in_ok-end.end.ok.0)

pub judged-requires-clause-begin : goal.judged-requires-clause-begin
judged-requires-clause-begin c = ap length (c.deref-2.ensures.value ∙ begin_are (goal.at.judged-requires-clause-begin c).After-deref_mut)
    ∙ length-begin_literals c.args.program.now.bits.items

pub judged-requires-clause-end : goal.judged-requires-clause-end
judged-requires-clause-end c =
    ap length (ended c)
    ∙ (ap length c.in_ok-ok.ensures.end
    ∙ (length-body (program_tree c.args.program.now).body (record { nodes = c.inputs.new.gates.nodes; literals = c.deref_mut.result.now })
    ∙ copy_length (goal.at.judged-requires-clause-end c).After-deref_mut))

scan_made : (c : After-deref-3) → Scanned (program_tree c.args.program.now) c.args.gates.limit c.deref-2.result.now c.deref-3.result.now
    c.scan.new.gates c.in_ok-ok.ok
scan_made c =
    let at = (goal.at-After-deref-3 c).After-deref_mut in
    scanned (program_tree c.args.program.now) c.args.gates c.inputs.new.gates c.scan.new.gates c.deref-2.result.now c.deref_mut.result.now
    c.deref-3.result.now c.in_ok-ok.ok
    (nodes_are at) (c.deref-2.ensures.value ∙ begin_are at) (copied at ∙ sym c.deref-2.ensures.value)
    (ended c ∙ c.in_ok-ok.ensures.end) c.in_ok-ok.ensures.made

pub judged-requires-clause-circuit : goal.judged-requires-clause-circuit
judged-requires-clause-circuit c =
    circuit_scanned (program_tree c.args.program.now) c.args.gates.limit c.deref-2.result.now c.deref-3.result.now c.scan.new.gates
    c.in_ok-ok.ok _ (passed c.in_ok-ok.ok c.in_ok-ok.ok (search rules) refl) c.args.program.now.own
    (scan_made (goal.at.judged-requires-clause-circuit c).After-deref-3)

pub returns-clause-made : goal.returns-clause-made
returns-clause-made c =
    judged_is (program_tree c.args.program.now) c.args.gates.limit c.deref-2.result.now c.deref-3.result.now c.scan.new.gates
    c.in_ok-ok.ok c.judged.result
    (scan_made (goal.at.returns-clause-made c).After-deref-3) c.judged.ensures.gates c.judged.ensures.state_in c.judged.ensures.input
    c.judged.ensures.state_out
    (as_passed c.judged.result c.in_ok-ok.ok (λ r. r.ok) (λ z. z) c.judged.ensures.ok (search rules))
    (as_passed c.judged.result c.in_ok-ok.ok (λ r. r.fail) neg_ℤ c.judged.ensures.fail (search rules))

pub returns-clause-within : goal.returns-clause-within
returns-clause-within c =
    on_ok c.judged.result (within-scanned (program_tree c.args.program.now) c.args.gates.limit c.deref-2.result.now c.deref-3.result.now
    c.scan.new.gates c.in_ok-ok.ok (scan_made (goal.at.returns-clause-within c).After-deref-3) c.judged.ensures.within)
