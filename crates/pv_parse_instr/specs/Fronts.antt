-- What stands before an instruction's operand, in the code.
use Rattle.std.specs.Prelude.{map, option_map}
use Rattle.pv_tree.specs.View.{instr_tree}
use Rattle.pv_parse.specs.Items.{lexeme_of_slice}
use Rattle.pv_parse.specs.InstrStack.{FrontTree}
use Rattle.pv_parse_instr.specs.declared.parts.Front.{Front}

abbrev pub front_tree : Front → FrontTree
front_tree f = record {
  token = lexeme_of_slice f.token;
  label = option_map (λ l. l.value) f.label;
  list = map instr_tree f.list.items;
}
