use Rattle.std.proofs.Common.{◌≡◌, drop, map}
use Rattle.pv_parse.specs.OpTexts.{op_among}
use Rattle.pv_parse_instr.specs.Entries.{entry_of}
use Rattle.pv_parse_instr.proofs.op_texts.op_among.Given as goal

abbrev pub invariant-loop-entry : goal.invariant-loop-entry
invariant-loop-entry l = op_among (drop l.entry-index (map entry_of l.entries)) l.bytes ≡ op_among (map entry_of l.entries) l.bytes
