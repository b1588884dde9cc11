use Rattle.std.proofs.Common.{◌∙◌, ◌-◌, ap, arith}
use Rattle.std.proofs.lemmas.Grind.{get_or_default_zero}
use Rattle.pv_region.specs.Links.{watch_at}
use Rattle.pv_region.proofs.Linking.{links-behind}
use Rattle.pv_region.proofs.Seen.{inside-seen, first-seen, list-short}
use Rattle.pv_region.proofs.Blocks.{block_of}
use Rattle.pv_region.proofs.region.Region.first_watch.Goals as goal

pub returns-clause-first : goal.returns-clause-first
returns-clause-first c =
    let b = block_of c.self.inside in
    let inside = inside-seen b c.self.invariant c.args.self.now c.self.view_is c.args.lit c.requires in
    let f = links-behind b c.self.invariant in
    c.watch_at.ensures
    ∙ ap watch_at (c.index.ensures ∙ get_or_default_zero c.self.inside.words.items (c.args.lit - 2) c.index.result.now (omega
    (arith, f.heads, f.room, inside.1)))
    ∙ first-seen b c.self.invariant c.args.self.now c.self.view_is c.args.lit inside.1

pub returns-clause-few : goal.returns-clause-few
returns-clause-few c =
    let b = block_of c.self.inside in
    let inside = inside-seen b c.self.invariant c.args.self.now c.self.view_is c.args.lit c.requires in
    list-short b c.self.invariant c.args.self.now c.self.view_is c.args.lit inside.1
