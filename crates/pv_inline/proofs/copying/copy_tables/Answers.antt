use Rattle.std.proofs.Common.{rules, ◌≡◌, length, refl, ◌∙◌}
use Rattle.pv_inline.specs.Seen.{copy_seen, making_seen}
use Rattle.pv_inline.proofs.Coding.{tables_are}
use Rattle.pv_inline.proofs.copying.copy_tables.Goals as goal

pub returns-clause-copied : goal.returns-clause-copied
returns-clause-copied c =
    let long : c.len.result ≡ length c.args.making.now.nodes.items = search rules in
    tables_are (copy_seen c.args.copy.now) (making_seen c.args.making.now) _ c.in_ok-after.after
    c.as_slice-nodes.result.now c.as_slice-deeds.result.now (c.in_ok-after.ensures.number ∙ long) c.as_slice-nodes.ensures.value
    c.as_slice-deeds.ensures.value c.in_ok-add_terms.ensures c.in_ok-add_deeds.ensures refl refl
