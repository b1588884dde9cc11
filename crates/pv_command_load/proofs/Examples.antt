-- Places and fault lines as they are printed, found by hand.
use Rattle.std.proofs.Common.{◌≡◌, codes, refl, [], ◌∷◌}
use Rattle.std.specs.Fmt.{digits}
use Rattle.pv_case.specs.declared.fault.Kind.TheVariants.{MissingField, UnknownField}
use Rattle.pv_lex.specs.declared.fault.FaultKind.TheVariants.{NumberTooWide}
use Rattle.pv_tree.specs.Rules.{out_of_range}
use Rattle.pv_command_load.specs.Positions.{FileText, position_text}
use Rattle.pv_command_load.specs.Refusals.{not_json, broken, too_large, lex, outside, syntax, deep, rule, no_entry, too_many_cells, bound_range, pattern_text, brief_cell, read_line, case_refusal_line, source_line, project_line, table_line, fit_line}

-- ---- places

-- a line feed ends a line, and a carriage return is a byte of it
abbrev short : FileText
short = record { file = codes "a.scl"; bytes = codes "FUNCTION_BLOCK Demo\nVAR x : REAL;\r\n\nEND" }

first_byte : position_text short 0 ≡ codes "a.scl:1:1"
unfolding digits
first_byte = refl

-- a line feed stands at its own line's end
at_feed : position_text short 19 ≡ codes "a.scl:1:20"
unfolding digits
at_feed = refl

behind_feed : position_text short 20 ≡ codes "a.scl:2:1"
unfolding digits
behind_feed = refl

at_word : position_text short 28 ≡ codes "a.scl:2:9"
unfolding digits
at_word = refl

-- behind CR LF, and behind an empty line
behind_both : position_text short 35 ≡ codes "a.scl:3:1"
unfolding digits
behind_both = refl

at_end : position_text short 39 ≡ codes "a.scl:4:4"
unfolding digits
at_end = refl

-- a byte is a column: a letter of two bytes between two quotes, and `;` behind them
wide : position_text (record { file = codes "b.scl"; bytes = 34 ∷ 195 ∷ 164 ∷ 34 ∷ 59 ∷ [] }) 4 ≡ codes "b.scl:1:5"
unfolding digits
wide = refl

-- ---- lines

unread_file : read_line (codes "b.scl") ≡ codes "plcv: read b.scl\n"
unread_file = refl

no_json : case_refusal_line not_json ≡ codes "plcv: case: NotJson\n"
no_json = refl

no_version : case_refusal_line (broken MissingField (codes "version")) ≡ codes "plcv: case: MissingField version\n"
no_version = refl

-- a name of three lines, of which the first is told, and one whose first line is empty
many_lines : case_refusal_line (broken UnknownField (codes "a\nb\n")) ≡ codes "plcv: case: UnknownField a\n"
many_lines = refl

no_line : case_refusal_line (broken UnknownField (codes "\nb")) ≡ codes "plcv: case: UnknownField \n"
no_line = refl

wide_number : source_line (lex NumberTooWide (codes "a.scl:7:6")) ≡ codes "plcv: a.scl:7:6: Lex NumberTooWide\n"
wide_number = refl

outside_word : source_line (outside (codes "Real") (codes "a.scl:2:15")) ≡ codes "plcv: a.scl:2:15: Outside Real\n"
outside_word = refl

cut_short : source_line (syntax (codes "a.scl:7:7")) ≡ codes "plcv: a.scl:7:7: Syntax\n"
cut_short = refl

nested : source_line (deep (codes "a.scl:7:6")) ≡ codes "plcv: a.scl:7:6: Deep\n"
nested = refl

long_source : source_line too_large ≡ codes "plcv: TooLarge bytes 4194304\n"
unfolding digits
long_source = refl

start_value : project_line (rule out_of_range (codes "a.scl:4:16")) ≡ codes "plcv: a.scl:4:16: Rule 6\n"
unfolding digits
start_value = refl

unnamed_entry : table_line no_entry ≡ codes "plcv: case: NoEntry entry\n"
unnamed_entry = refl

large_table : table_line too_many_cells ≡ codes "plcv: TooLarge cells 20000\n"
unfolding digits
large_table = refl

wrong_bound : fit_line (bound_range (codes "arr[3]")) ≡ codes "plcv: case: BoundRange arr[3]\n"
wrong_bound = refl

brief_first : fit_line (brief_cell 0) ≡ codes "plcv: case: BriefCell a\n"
brief_first = refl

unread_third : fit_line (pattern_text 2) ≡ codes "plcv: case: PatternText c\n"
unread_third = refl
