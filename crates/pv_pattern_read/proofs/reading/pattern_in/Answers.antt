use Rattle.std.proofs.Common.{map, ◌∙◌}
use Rattle.std.specs.Prelude.{string_bytes}
use Rattle.std.proofs.lemmas.List.{length-map}
use Rattle.pv_pattern_read.proofs.Wanted.{as_many_texts}
use Rattle.pv_pattern_read.proofs.reading.pattern_in.Goals as goal

pub pattern_of-requires : goal.pattern_of-requires
pattern_of-requires c =
    as_many_texts c.args.context.now c.in-Ok.terms.items (map string_bytes c.args.texts.now) c.in-Ok.ensures.found
    ∙ length-map c.args.texts.now string_bytes ∙ c.requires.count

pub returns-in-Ok : goal.returns-in-Ok
returns-in-Ok c = c.pattern_of.ensures c.args.context.now (map string_bytes c.args.texts.now) c.in-Ok.ensures.found
