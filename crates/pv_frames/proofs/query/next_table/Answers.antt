use Rattle.std.proofs.Common.{arith, ◌≡◌, ◌+◌, ◌-◌, ℕ, suc, length, All, sym, ◌∙◌, subst}
use Rattle.pv_circuit.specs.Made.{circuit_seen}
use Rattle.pv_frames.specs.Queries.{frame_at}
use Rattle.pv_frames.specs.Tables.{IsBegin, IsTable}
use Rattle.pv_frames.proofs.Scanning.{table-next}
use Rattle.pv_frames.proofs.query.next_table.Goals as goal

pub returns-clause-next : goal.returns-clause-next
returns-clause-next c = λ q j was.
    let seen = circuit_seen c.args.c.now in
    let long : length c.lay.new.begins ≡ length c.args.c.now.state_in.items + length c.args.c.now.input.items =
    c.lay.ensures.long ∙ c.requires.begins in
    let next : suc j ≡ j + 1 = omega arith in
    subst (λ (n : ℕ). IsTable seen c.lay.new.begins c.lay.result (frame_at seen c.args.start.now q n)) next
    (table-next seen c.args.start.now q j c.args.begins.now c.args.gates c.deref.result.now c.advance.new.given c.lay.new.begins
    (c.args.gates + (c.nodes.result - (1 + length c.args.begins.now))) c.lay.result (length c.args.begins.now)
    was c.requires.state_in c.requires.state_out c.advance.ensures
    (omega (arith, c.nodes.ensures.count))
    (subst (λ (n : ℕ). All (IsBegin n) c.args.c.now.state_in.items) (sym long) c.requires.state_begins)
    (omega (arith, long, c.requires.inputs)) c.deref.ensures.value c.lay.ensures.long
    c.lay.ensures.laid c.lay.ensures.next)
