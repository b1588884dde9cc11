-- What private contracts cite: a stop that a stage passes on, and what a fault of tokens or of reading is as a stop.
use Rattle.std.specs.Prelude.{ℕ, ◌+◌, ◌≤◌, List, length, take, drop, string_bytes, IsAscii}
use Rattle.pv_place.specs.declared.place.Place.{Place}
use Rattle.pv_lex.specs.declared.token.Language.{Language}
use Rattle.pv_lex.specs.declared.fault.LexFault.{LexFault}
use Rattle.pv_lex.specs.declared.fault.LexFault.TheVariants as lex_fault
use Rattle.pv_parse.specs.declared.fault.ParseFault.{ParseFault}
use Rattle.pv_parse.specs.declared.fault.ParseFault.TheVariants as parse_fault
use Rattle.pv_case.specs.Cases.{SourceData}
use Rattle.pv_command_load.specs.declared.position.SourceText.{SourceText}
use Rattle.pv_command_load.specs.declared.reading.ReadStop.{ReadStop}
use Rattle.pv_command_load.specs.declared.reading.ReadStop.TheVariants as read_stop
use Rattle.pv_command_load.specs.declared.case.CaseStop.{CaseStop}
use Rattle.pv_command_load.specs.declared.case.CaseStop.TheVariants as case_stop
use Rattle.pv_command_load.specs.declared.source.SourceStop.{SourceStop}
use Rattle.pv_command_load.specs.declared.source.SourceStop.TheVariants as source_stop
use Rattle.pv_command_load.specs.Positions.{FileText, position_text}
use Rattle.pv_command_load.specs.Refusals.{SourceRefusal, lex, outside, syntax, deep}
use Rattle.pv_command_load.specs.Stopped.{Stopped, refused, no_memory}

abbrev pub unread_case : ReadStop → CaseStop
unread_case (read_stop.Unread file) = case_stop.Unread file
unread_case read_stop.NoMemory = case_stop.NoMemory

abbrev pub unread_source : ReadStop → SourceStop
unread_source (read_stop.Unread file) = source_stop.Unread file
unread_source read_stop.NoMemory = source_stop.NoMemory

-- a source as the case names it
abbrev pub source_named : SourceText → Language → SourceData
source_named text language = record { file = string_bytes text.file; language = language }

-- so many bytes stand there, and they are ASCII
pub record IsWordAt (bytes : List ℕ) (place : Place) (len : ℕ) : Type 0 where
  pub within : place.offset + len ≤ length bytes
  pub ascii : IsAscii (take len (drop place.offset bytes))

-- a source without tokens
abbrev pub lex_stopped : FileText → LexFault → Stopped SourceRefusal
lex_stopped text (lex_fault.NoToken kind place) = refused (lex kind (position_text text place.offset))
lex_stopped text lex_fault.NoMemory = no_memory

-- a source that doesn't read
abbrev pub parse_stopped : FileText → ParseFault → Stopped SourceRefusal
parse_stopped text (parse_fault.Outside place len) =
    refused (outside (take len (drop place.offset text.bytes)) (position_text text place.offset))
parse_stopped text (parse_fault.Syntax place) = refused (syntax (position_text text place.offset))
parse_stopped text (parse_fault.Deep place) = refused (deep (position_text text place.offset))
parse_stopped text parse_fault.NoMemory = no_memory
