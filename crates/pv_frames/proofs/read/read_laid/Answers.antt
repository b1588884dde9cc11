use Rattle.std.proofs.Common.{arith, ◌∙◌, ap, map}
use Rattle.pv_cnf.specs.Literal.{literal_value, is_outside}
use Rattle.pv_frames.specs.Frames.{literal_in}
use Rattle.pv_circuit.specs.Made.{circuit_seen}
use Rattle.pv_frames.specs.Tables.{table_frame}
use Rattle.pv_frames.proofs.FromCircuit.{some-frames}
use Rattle.pv_frames.proofs.Inside.{table-inside}
use Rattle.pv_frames.proofs.Reading.{run-read}
use Rattle.pv_frames.proofs.read.read_laid.Goals as goal

pub read_bits-requires-clause-few : goal.read_bits-requires-clause-few
read_bits-requires-clause-few g c = omega (arith, c.requires.fit.few 0 (omega arith), c.requires.table.next)

pub read_bits-requires-clause-inside : goal.read_bits-requires-clause-inside
read_bits-requires-clause-inside g c =
    let seen = circuit_seen c.args.c.now in
    let v = g.V.Values.assigned c.args.values.now in
    let room = c.requires.fit.inside 0 (omega (arith, some-frames c.args.query c.requires.query)) in
    let all = table-inside seen c.args.start.now c.args.query c.requires.fit.state_in c.requires.fit.state_out 0 v (omega (arith, room, c.requires.values)) in
    λ n one le. ap (is_outside v) (c.requires.table.same n one le) ∙ all n one le

pub returns : goal.returns
returns g c =
    run-read (circuit_seen c.args.c.now) c.args.start.now c.args.query (g.V.Values.truth c.args.values.now) (table_frame c.args.begins.now c.args.first)
    c.in_ok-state.state c.in_ok-inputs.inputs c.requires.table.same c.requires.fit.state_in
    (c.in_ok-state.ensures ∙ ap (map (λ z. literal_value (g.V.Values.truth c.args.values.now) (literal_in (table_frame c.args.begins.now c.args.first) z))) c.deref.ensures.value)
    c.in_ok-inputs.ensures
