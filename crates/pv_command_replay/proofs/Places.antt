-- Places by the bytes of sources, and by where their lines begin.
use Rattle.std.proofs.Common.{◌≡◌, ℕ, ◌+◌, ◌-◌, ◌≤◌, List, length, take, option_map, Option, Some, None, refl, sym, ap, ◌∙◌}
use Rattle.std.specs.Prelude.{IfSome, slice_get}
use Rattle.std.proofs.lemmas.Option.{slice_get-map}
use Rattle.pv_place.specs.declared.place.Place.{Place}
use Rattle.pv_report.specs.Places as lines
use Rattle.pv_report.specs.Places.{Lines, line_starts, begun_at, last_of, printed}
use Rattle.pv_report.proofs.ForCallers.{at_offset}
use Rattle.pv_command_load.specs.Positions.{FileText, line_behind, position_text, position_where}
use Rattle.pv_command_replay.specs.Correct.{lines_of, PlaceHasOneText}

one_position : (text : FileText) (offset : ℕ) → offset ≤ length text.bytes → position_text text offset ≡ lines.position_text (lines_of text) offset
one_position text offset le =
    let at = at_offset text.bytes offset le in
    sym (ap (λ n. printed text.file n (offset - last_of (begun_at offset (line_starts text.bytes)) + 1)) at.line
    ∙ ap (λ n. printed text.file (line_behind (take offset text.bytes)) n) at.column)

one_where : (o : Option FileText) (offset : ℕ) → IfSome o (λ text. offset ≤ length text.bytes)
    → position_where o offset ≡ lines.position_where (option_map lines_of o) offset
one_where None offset near = refl
one_where (Some text) offset near = one_position text offset near

pub one_text : (texts : List FileText) (place : Place) → PlaceHasOneText texts place
one_text texts place near =
    one_where (slice_get texts place.file) place.offset near
    ∙ ap (λ o. lines.position_where o place.offset) (sym (slice_get-map lines_of texts place.file))
