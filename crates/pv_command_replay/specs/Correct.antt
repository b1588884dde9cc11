-- What laws say of a replay's end, of its trace, and of the places in its report.
use Rattle.std.specs.Prelude.{◌≡◌, ◌≤◌, ℕ, List, length, map, Option, Some, IfSome, slice_get}
use Rattle.pv_edge.specs.Files.{FileMap}
use Rattle.pv_place.specs.declared.place.Place.{Place}
use Rattle.pv_mean.specs.Sources.{Source}
use Rattle.pv_mean.specs.Frames.{Input, Params}
use Rattle.pv_mean.specs.Runs.{run}
use Rattle.pv_pattern.specs.Patterns.{Pattern}
use Rattle.pv_claims.specs.declared.trace.Trace.{Trace}
use Rattle.pv_report.specs.Places as lines
use Rattle.pv_report.specs.Places.{Lines, line_starts}
use Rattle.pv_command_load.specs.Positions.{FileText, place_text}
use Rattle.pv_command_load.specs.Subjects.{texts_of, SubjectData, source_in}
use Rattle.pv_command_load.specs.Reads.{Reads}
use Rattle.pv_command_replay.specs.declared.end.End.{End}
use Rattle.pv_command_replay.specs.Ends.{IsEnd}
use Rattle.pv_command_replay.specs.Located.{EndLies}
use Rattle.pv_command_replay.specs.Traces.{HoldsTrace, HoldsNoTrace}

-- each run ends in one way
pub record RunsEndInOneWay (source : Source) (p : Pattern) (params : Params) (inputs : List Input) : Type 0 where
  pub some : (end : End) × IsEnd source p (run source params inputs) end
  pub one : (end other : End) → IsEnd source p (run source params inputs) end
      → IsEnd source p (run source params inputs) other → end ≡ other

-- where the files hold what a command works on, each place of a run's end lies in one of the sources
abbrev pub EndsLie : Option FileMap → List ℕ → SubjectData → Type 0
EndsLie told file s = (params : Params) (inputs : List Input) (end : End) → Reads told file s
    → IsEnd (source_in s) s.pattern (run (source_in s) params inputs) end → EndLies (texts_of s.given) end

-- where the files tell what they hold, a trace's file holds one trace of the source at most, or has one line at fault at most, and not both
pub record FilesDecideOneTrace (files : FileMap) (file : List ℕ) (source : Source) : Type 0 where
  pub one_trace : (t u : Trace) → HoldsTrace (Some files) file source t → HoldsTrace (Some files) file source u → t ≡ u
  pub one_line : (n m : ℕ) → HoldsNoTrace (Some files) file source n → HoldsNoTrace (Some files) file source m → n ≡ m
  pub apart : (t : Trace) (n : ℕ) → HoldsTrace (Some files) file source t → HoldsNoTrace (Some files) file source n → ⊥

-- a source by where its lines begin
abbrev pub lines_of : FileText → Lines
lines_of text = record { file = text.file; starts = line_starts text.bytes }

-- a place that doesn't lie behind the end of its source has one text in all reports
abbrev pub PlaceHasOneText : List FileText → Place → Type 0
PlaceHasOneText texts place =
    IfSome (slice_get texts place.file) (λ text. place.offset ≤ length text.bytes)
    → place_text texts place ≡ lines.place_text (map lines_of texts) place
