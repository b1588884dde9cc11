use Rattle.std.proofs.Common.{◌≡◌, ◌∙◌, sym, ap, length, arith}
use Rattle.std.proofs.lemmas.List.{length-map}
use Rattle.std.proofs.lemmas.Option.{slice_get_within}
use Rattle.std.proofs.lemmas.Bool.{ltb-true}
use Rattle.std.specs.Prelude.{slice_get, map}
use Rattle.pv_tree.specs.Scopes.{ProjectTree}
use Rattle.pv_names.specs.Entries.{block_of}
use Rattle.pv_pattern_read.proofs.PatternLaws.{entered-is}
use Rattle.pv_pattern_read.proofs.reading.read_among.Goals as goal

pub pattern_at-requires-clause-entered : goal.pattern_at-requires-clause-entered
pattern_at-requires-clause-entered c =
    let h = c.requires.entered in
    let made = c.requires.tables ∙ h.same in
    record {
      source = h.source;
      same = made;
      sizes = c.in_ok-sizes.ensures ∙ h.same;
      at = entered-is block_of c.entries.result.now c.args.entry c.in-Some.entered.now h.source.entry
          (ltb-true c.args.entry (length c.entries.result.now) (sym c.in-Some.ensures.lookup.0)) c.in-Some.ensures.lookup.1
          (ap (λ l. slice_get l c.args.entry) (c.entries.ensures ∙ ap (λ (p : ProjectTree). p.blocks) made) ∙ h.at);
      bytes_are = h.bytes_are;
      is = h.is;
    }

pub unreachable-requires : goal.unreachable-requires
unreachable-requires c =
    let h = c.requires.entered in
    let made = c.requires.tables ∙ h.same in
    let within = slice_get_within h.source.project.blocks c.args.entry h.source.entry h.at in
    let all : length (map block_of c.entries.result.now) ≡ length h.source.project.blocks =
    ap length (c.entries.ensures ∙ ap (λ (p : ProjectTree). p.blocks) made) in
    let counted = length-map c.entries.result.now block_of in
    omega (arith, within, all, counted, c.in-None.ensures.lookup)

pub returns : goal.returns
returns c = λ source project entry bytes.
    let made = c.requires.tables ∙ project in
    c.pattern_at.ensures source made (c.in_ok-sizes.ensures ∙ project)
    (entered-is block_of c.entries.result.now c.args.entry c.in-Some.entered.now source.entry
    (ltb-true c.args.entry (length c.entries.result.now) (sym c.in-Some.ensures.lookup.0)) c.in-Some.ensures.lookup.1
    (ap (λ l. slice_get l c.args.entry) (c.entries.ensures ∙ ap (λ (p : ProjectTree). p.blocks) made) ∙ entry))
    bytes
