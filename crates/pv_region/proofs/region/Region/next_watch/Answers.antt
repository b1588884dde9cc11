use Rattle.std.proofs.Common.{◌≡◌, ℕ, ◌<◌, ◌∙◌, List, length, ap, arith, slice_index}
use Rattle.std.proofs.lemmas.Grind.{get_or_default_zero}
use Rattle.pv_region.specs.Links.{watch_at, link_at}
use Rattle.pv_region.proofs.Seen.{linked-slot, slot-link, link-inside, next-seen}
use Rattle.pv_region.proofs.Blocks.{block_of}
use Rattle.pv_region.proofs.region.Region.next_watch.Goals as goal

pub link_at-requires : goal.link_at-requires
link_at-requires c =
    let b = block_of c.self.inside in
    let slot = linked-slot b c.self.invariant c.args.self.now c.self.view_is c.args.watch c.requires in
    let link = slot-link b c.self.invariant c.args.self.now c.self.view_is c.args.watch slot in
    let same : length c.deref.result.now ≡ length c.self.inside.words.items = ap length c.deref.ensures.value in
    record { id = omega (arith, link.inside, same) }

at-link : (c : goal.After-link_at) → c.link_at.result ≡ link_at c.self.inside.words.items c.args.watch
at-link c = c.link_at.ensures ∙ ap (λ (ws : List ℕ). link_at ws c.args.watch) c.deref.ensures.value

inside : (c : goal.After-link_at) → c.link_at.result < length c.self.inside.words.items
inside c =
    let b = block_of c.self.inside in
    let slot = linked-slot b c.self.invariant c.args.self.now c.self.view_is c.args.watch c.requires in
    let within = link-inside b c.self.invariant c.args.self.now c.self.view_is c.args.watch slot in
    omega (arith, within, at-link c)

pub index-requires : goal.index-requires
index-requires c = omega (arith, inside c)

at-now : (c : goal.After-watch_at) → c.link_at.result ≡ link_at c.self.inside.words.items c.args.watch
at-now c = c.link_at.ensures ∙ ap (λ (ws : List ℕ). link_at ws c.args.watch) c.deref.ensures.value

read : (c : goal.After-watch_at) → c.index.result.now ≡ slice_index c.self.inside.words.items
    (link_at c.self.inside.words.items c.args.watch)
read c =
    let b = block_of c.self.inside in
    let slot = linked-slot b c.self.invariant c.args.self.now c.self.view_is c.args.watch c.requires in
    let within = link-inside b c.self.invariant c.args.self.now c.self.view_is c.args.watch slot in
    c.index.ensures
    ∙ get_or_default_zero c.self.inside.words.items c.link_at.result c.index.result.now (omega (arith, within, at-now c))
    ∙ ap (slice_index c.self.inside.words.items) (at-now c)

pub returns : goal.returns
returns c = λ lit front rest e.
    c.watch_at.ensures ∙ ap watch_at (read c)
    ∙ next-seen (block_of c.self.inside) c.self.invariant c.args.self.now c.self.view_is c.args.watch lit front rest e
