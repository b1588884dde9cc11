use Rattle.std.proofs.Common.{Err, map, ap, ◌∙◌}
use Rattle.std.specs.Prelude.{string_bytes}
use Rattle.pv_tree.specs.Rules.Chains.{here}
use Rattle.pv_names.specs.Entries.{block_of}
use Rattle.pv_names.specs.declared.scope.Scope.{Scope}
use Rattle.pv_pattern_read.proofs.Wanted.{few_cells, too_many}
use Rattle.pv_pattern_read.proofs.PatternLaws.{in_source}
use Rattle.pv_pattern_read.proofs.reading.pattern_at.Goals as goal

pub pattern_in-requires-clause-entered : goal.pattern_in-requires-clause-entered
pattern_in-requires-clause-entered c =
    let h = c.requires.entered in
    record {
      source = h.source;
      context = c.in-Ok.ensures.context h.source h.same h.sizes (c.block.ensures ∙ h.at) h.bytes_are;
      at = ap (λ (s : Scope). block_of s.entry.now) c.in-Ok.ensures.scope ∙ h.at;
      is = h.is;
    }

pub unreachable-requires : goal.unreachable-requires
unreachable-requires c =
    let h = c.requires.entered in
    few_cells h.source (c.reached_blocks_have_room.ensures h.source h.source.entry h.is.run here)
    (too_many _ h.source.project _ h.source.entry h.sizes (c.block.ensures ∙ h.at)
    (c.context_of.ensures.too_large.0 (c.in-Err.is ∙ ap (λ e. Err e) c.in-Err.ensures.fault)))

pub returns : goal.returns
returns c = λ source project sized entry bytes.
    in_source c.in-Ok.context source c.args.kind (map string_bytes c.args.texts.now) c.pattern_in.result
    (c.in-Ok.ensures.context source project sized (c.block.ensures ∙ entry) bytes)
    (ap (λ (s : Scope). block_of s.entry.now) c.in-Ok.ensures.scope ∙ entry) c.pattern_in.ensures
