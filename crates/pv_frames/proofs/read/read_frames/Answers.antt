use Rattle.std.proofs.Common.{arith, ◌≡◌, ◌+◌, ℕ, List, Option, length, All, sym, ◌∙◌, subst}
use Rattle.std.proofs.lemmas.Grind.{common_steps}
use Rattle.std.proofs.lemmas.List.{with_items_is}
use Rattle.pv_circuit.specs.Made.{circuit_seen}
use Rattle.pv_frames.specs.Queries.{frame_at}
use Rattle.pv_frames.specs.Tables.{IsBegin, IsTable}
use Rattle.pv_frames.proofs.Scanning.{table-first}
use Rattle.pv_frames.proofs.read.read_frames.Goals as goal

pub read_laid-requires-clause-table : goal.read_laid-requires-clause-table
read_laid-requires-clause-table g c =
    let long : length c.lay-gates.new.begins ≡ length c.args.c.now.state_in.items + length c.args.c.now.input.items =
    omega (arith, c.lay-gates.ensures.long, c.in_ok-begins.ensures.len, c.len.ensures, c.len-2.ensures) in
    let back : c.deref_mut-2.result.now ≡ c.lay-gates.new.begins =
    c.deref_mut-2.ensures.value ∙ with_items_is c.in_ok-begins.begins c.lay-gates.new.begins (grind (arith, common_steps, c.lay-gates.ensures.long, c.deref_mut.ensures.len)) in
    subst (λ (bs : List (Option ℕ)). IsTable (circuit_seen c.args.c.now) bs c.lay-gates.result (frame_at (circuit_seen c.args.c.now) c.args.start.now c.args.query 0)) (sym back)
    (table-first (circuit_seen c.args.c.now) c.args.start.now c.args.query c.deref.result.now _ c.lay-gates.new.begins c.lay-gates.result _
    (c.deref-2.ensures.value ∙ c.in_ok-given.ensures) (subst (λ (n : ℕ). All (IsBegin n) c.args.c.now.state_in.items) (sym long) c.fit.ensures.begins)
    (omega (arith, long, c.fit.ensures.inputs)) c.deref.ensures.value c.lay-gates.ensures.long c.lay-gates.ensures.laid c.lay-gates.ensures.next)
