use Rattle.std.proofs.Common.{arith, ◌∙◌, ap, length, map}
use Rattle.pv_cnf.specs.Literal.{literal_value, is_outside}
use Rattle.pv_circuit.specs.Made.{circuit_seen}
use Rattle.pv_frames.specs.Frames.{literal_in}
use Rattle.pv_frames.specs.Queries.{table}
use Rattle.pv_frames.specs.Tables.{table_frame}
use Rattle.pv_frames.proofs.Inside.{table-inside}
use Rattle.pv_frames.proofs.Reading.{bits-same, inputs-more}
use Rattle.pv_frames.proofs.read.read_inputs.Goals as goal

pub read_bits-requires-clause-few : goal.read_bits-requires-clause-few
read_bits-requires-clause-few g c =
    omega (arith, c.requires.fit.few c.loop-j._j (omega (arith, c.loop-j-test.true, c.frame_count-j-end.ensures)), c.loop-j.invariant.table.next)

pub read_bits-requires-clause-inside : goal.read_bits-requires-clause-inside
read_bits-requires-clause-inside g c =
    let seen = circuit_seen c.args.c.now in
    let v = g.V.Values.assigned c.args.values.now in
    let room = c.requires.fit.inside c.loop-j._j (omega (arith, c.loop-j-test.true, c.frame_count-j-end.ensures)) in
    let all = table-inside seen c.args.start.now c.args.query c.requires.fit.state_in c.requires.fit.state_out c.loop-j._j v (omega (arith, room, c.requires.values)) in
    λ n one le. ap (is_outside v) (c.loop-j.invariant.table.same n one le) ∙ all n one le

pub next_table-gates-requires-clause-few : goal.next_table-gates-requires-clause-few
next_table-gates-requires-clause-few g c =
    omega (arith, c.requires.fit.few c.loop-j._j (omega (arith, c.loop-j-test.true, c.frame_count-j-end.ensures)), c.loop-j.invariant.table.next)

pub loop-j-preserved : goal.loop-j-preserved
loop-j-preserved g c =
    let seen = circuit_seen c.args.c.now in
    let j = c.loop-j._j in
    let truth = g.V.Values.truth c.args.values.now in
    let same = bits-same truth (table_frame c.loop-j.begins c.loop-j.gates) (table seen c.args.start.now c.args.query j) (length c.args.c.now.gates.nodes)
    c.args.c.now.input.items c.loop-j.invariant.table.same c.requires.fit.input in
    record {
      inputs = inputs-more seen c.args.start.now c.args.query truth c.loop-j.inputs c.push.new.self c.in_ok-bits.bits j
          (c.in_ok-bits.ensures ∙ (ap (map (λ z. literal_value truth (literal_in (table_frame c.loop-j.begins c.loop-j.gates) z))) c.deref.ensures.value ∙ same)) c.loop-j.invariant.inputs c.in_ok-push.ensures.ok;
      table = c.next_table-gates.ensures.next c.args.query j c.loop-j.invariant.table;
      long_begins = c.next_table-gates.ensures.long_begins ∙ c.loop-j.invariant.long_begins;
      long_given = c.next_table-gates.ensures.long_given ∙ c.loop-j.invariant.long_given;
    }
