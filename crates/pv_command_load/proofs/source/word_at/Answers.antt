use Rattle.std.proofs.Common.{ap, sym, subst, ◌∙◌, take, drop}
use Rattle.std.specs.Prelude.{IsAscii}
use Rattle.std.proofs.lemmas.Str.{IsUtf8-from_ascii}
use Rattle.pv_command_load.proofs.source.word_at.Goals as goal

pub unreachable-requires : goal.unreachable-requires
unreachable-requires c =
    let same = c.split_at-2.ensures.front ∙ ap (take c.args.len) (c.split_at.ensures.back ∙ ap (drop c.args.place.offset) c.as_slice.ensures.value) in
    c.in-Err.ensures.cases.0 (IsUtf8-from_ascii _ (subst IsAscii (sym same) c.requires.ascii))
