use Rattle.std.proofs.Common.{length, map, sym, arith}
use Rattle.std.proofs.lemmas.Bool.{ltb-false}
use Rattle.std.proofs.lemmas.List.{length-map}
use Rattle.std.proofs.lemmas.Option.{slice_get_within}
use Rattle.pv_report.specs.Places.{file_lines}
use Rattle.pv_report.proofs.places.push_place.Goals as goal

pub unreachable-requires : goal.unreachable-requires
unreachable-requires c =
    let files = c.args.files.now in
    let within = slice_get_within (map file_lines files) c.args.place.file c.requires.lines c.requires.there in
    let past = ltb-false c.args.place.file (length files) (sym c.in-None.ensures.lookup.0) in
    omega (arith, within, past, length-map files file_lines)
