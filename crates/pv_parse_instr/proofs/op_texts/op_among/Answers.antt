use Rattle.std.proofs.Common.{◌<◌, length, sym, ◌∙◌, arith, add-one}
use Rattle.pv_parse_instr.proofs.OpTables.{among-here, among-later}
use Rattle.pv_parse_instr.proofs.op_texts.op_among.Goals as goal

pub returns-then-is_text : goal.returns-then-is_text
returns-then-is_text c =
    let h : c.loop-entry.entry-index < length c.args.entries.now = omega arith in
    sym (among-here c.args.bytes.now c.args.entries.now c.loop-entry.entry-index _ h (sym c.is_text.ensures ∙ c.if-is_text.true))
    ∙ c.loop-entry.invariant

pub loop-entry-preserved : goal.loop-entry-preserved
loop-entry-preserved c =
    let h : c.loop-entry.entry-index < length c.args.entries.now = omega arith in
    rw add-one (sym (among-later c.args.bytes.now c.args.entries.now c.loop-entry.entry-index _ h (sym c.is_text.ensures ∙ c.if-is_text.false))
    ∙ c.loop-entry.invariant)
