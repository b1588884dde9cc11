-- Why what is read is refused, stage by stage, with what is told of it: places and words as they are printed, and names of files
-- and of members of the case. Each refusal has a status and a fault line.
use Rattle.std.specs.Prelude.{ℕ, List, [], ◌++◌, codes, decimal, slice_get, unwrap_or}
use Rattle.std.specs.List.{before_first}
use Rattle.pv_types.specs.declared.layout.TheConstants.{MAX_LEAVES}
use Rattle.pv_lex.specs.declared.fault.FaultKind.{FaultKind}
use Rattle.pv_lex.specs.declared.lex.TheConstants.{MAX_SOURCE}
use Rattle.pv_tree.specs.Rules.{Rule, number_of}
use Rattle.pv_case.specs.declared.fault.Kind.{Kind}
use Rattle.pv_case.specs.Fields.{expression_names}
use Rattle.pv_command_load.specs.Positions.{is_feed}
use Rattle.pv_command_load.specs.Words.{kind_word, lex_word}

-- ---- the refusals

-- of the case by itself: it is no JSON object, or breaks this rule first, by this member
pub data CaseRefusal : Type 0 where
  not_json : CaseRefusal
  broken : Kind → List ℕ → CaseRefusal

-- of a source: too many bytes; no token; a word outside the profile; syntax; nesting
pub data SourceRefusal : Type 0 where
  too_large : SourceRefusal
  lex : FaultKind → List ℕ → SourceRefusal
  outside : List ℕ → List ℕ → SourceRefusal
  syntax : List ℕ → SourceRefusal
  deep : List ℕ → SourceRefusal

-- of all sources together: this rule is broken there
pub data ProjectRefusal : Type 0 where
  rule : Rule → List ℕ → ProjectRefusal

-- of the entry, and of the cells: there are too many
pub data TableRefusal : Type 0 where
  no_entry : TableRefusal
  too_many_cells : TableRefusal

-- of the inputs that the case lists, by their paths, and of the requirement's expressions, by their numbers from 0
pub data FitRefusal : Type 0 where
  not_an_input : List ℕ → FitRefusal
  bound_range : List ℕ → FitRefusal
  pattern_text : ℕ → FitRefusal
  pattern_rule : ℕ → FitRefusal
  brief_cell : ℕ → FitRefusal
  not_bool : ℕ → FitRefusal

-- of what a command works on
pub data Refusal : Type 0 where
  of_case : CaseRefusal → Refusal
  of_source : SourceRefusal → Refusal
  of_project : ProjectRefusal → Refusal
  of_table : TableRefusal → Refusal
  of_fit : FitRefusal → Refusal

-- ---- their statuses: 3 where a source is refused or a count passes its limit, 4 where the case is

abbrev pub table_status : TableRefusal → ℕ
table_status no_entry = 4
table_status too_many_cells = 3

abbrev pub refusal_status : Refusal → ℕ
refusal_status (of_case r) = 4
refusal_status (of_source r) = 3
refusal_status (of_project r) = 3
refusal_status (of_table r) = table_status r
refusal_status (of_fit r) = 4

-- ---- their lines

-- of a file that can't be read, and of one that isn't of the form
abbrev pub read_line : List ℕ → List ℕ
read_line file = codes "plcv: read " ++ (file ++ codes "\n")

abbrev pub form_line : List ℕ → List ℕ
form_line file = codes "plcv: form " ++ (file ++ codes "\n")

-- a text up to its first line feed, or all of it where it has none
abbrev pub first_line : List ℕ → List ℕ
first_line text = before_first is_feed text

-- of a rule on cases, with the member that breaks it; of a name of several lines the first is told
abbrev pub case_line : List ℕ → List ℕ → List ℕ
case_line word field =
    codes "plcv: case: " ++ (word ++ (codes " " ++ (first_line field ++ codes "\n")))

-- of what is at fault at a place of a source
abbrev pub place_line : List ℕ → List ℕ → List ℕ
place_line at what = codes "plcv: " ++ (at ++ (codes ": " ++ (what ++ codes "\n")))

-- of a count that passes its limit
abbrev pub limit_line : List ℕ → ℕ → List ℕ
limit_line what limit = codes "plcv: TooLarge " ++ (what ++ (codes " " ++ (decimal limit ++ codes "\n")))

abbrev pub case_refusal_line : CaseRefusal → List ℕ
case_refusal_line not_json = codes "plcv: case: NotJson\n"
case_refusal_line (broken kind field) = case_line (kind_word kind) field

abbrev pub source_line : SourceRefusal → List ℕ
source_line too_large = limit_line (codes "bytes") MAX_SOURCE
source_line (lex kind at) = place_line at (codes "Lex " ++ lex_word kind)
source_line (outside word at) = place_line at (codes "Outside " ++ word)
source_line (syntax at) = place_line at (codes "Syntax")
source_line (deep at) = place_line at (codes "Deep")

abbrev pub project_line : ProjectRefusal → List ℕ
project_line (rule r at) = place_line at (codes "Rule " ++ decimal (number_of r))

abbrev pub table_line : TableRefusal → List ℕ
table_line no_entry = case_line (codes "NoEntry") (codes "entry")
table_line too_many_cells = limit_line (codes "cells") MAX_LEAVES

-- the member that has the requirement's expression of this number
abbrev pub expression_name : ℕ → List ℕ
expression_name n = unwrap_or (slice_get expression_names n) []

abbrev pub fit_line : FitRefusal → List ℕ
fit_line (not_an_input path) = case_line (codes "NotAnInput") path
fit_line (bound_range path) = case_line (codes "BoundRange") path
fit_line (pattern_text n) = case_line (codes "PatternText") (expression_name n)
fit_line (pattern_rule n) = case_line (codes "PatternRule") (expression_name n)
fit_line (brief_cell n) = case_line (codes "BriefCell") (expression_name n)
fit_line (not_bool n) = case_line (codes "NotBool") (expression_name n)

abbrev pub refusal_line : Refusal → List ℕ
refusal_line (of_case r) = case_refusal_line r
refusal_line (of_source r) = source_line r
refusal_line (of_project r) = project_line r
refusal_line (of_table r) = table_line r
refusal_line (of_fit r) = fit_line r
