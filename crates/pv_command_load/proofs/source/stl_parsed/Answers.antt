use Rattle.pv_lex.specs.declared.token.Language.TheVariants.{Stl}
use Rattle.pv_command_load.proofs.SourceLaws.{word_told}
use Rattle.pv_command_load.proofs.source.stl_parsed.Goals as goal

pub of_parse-requires : goal.of_parse-requires
of_parse-requires c =
    word_told Stl c.args.number c.args.source.now.bytes.items c.as_slice.result.now c.args.tokens.now c.as_slice.ensures.value c.requires.cut
    c.in-Err.fault c.in-Err.ensures
