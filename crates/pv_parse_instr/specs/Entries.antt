-- An entry of the code's table of instructions.
use Rattle.pv_parse.specs.OpTexts.{OpEntry}
use Rattle.pv_parse_instr.specs.declared.op_texts.Entry.{Entry}

abbrev pub entry_of : Entry → OpEntry
entry_of e = (e.spelling.now, e.op)
