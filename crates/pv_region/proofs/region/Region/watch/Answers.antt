use Rattle.std.proofs.Common.{◌≡◌, ℕ, ◌-◌, ◌∙◌, List, ◌∷◌, length, sym, ap, subst, arith}
use Rattle.std.specs.Vec.{with_items}
use Rattle.std.proofs.lemmas.Grind.{common_steps}
use Rattle.std.proofs.lemmas.List.{with_items_is}
use Rattle.pv_region.specs.Stored.{list_of, with_list}
use Rattle.pv_region.specs.Layout.{Block, stored_of, IsLaidOut}
use Rattle.pv_region.specs.Writes.{linked}
use Rattle.pv_region.proofs.Linking.{block_with}
use Rattle.pv_region.proofs.Seen.{id-fits, inside-seen, watched-seen}
use Rattle.pv_region.proofs.Blocks.{block_of}
use Rattle.pv_region.proofs.region.Region.watch.Goals as goal

pub link_in-requires-clause-id : goal.link_in-requires-clause-id
link_in-requires-clause-id c =
    let fits = id-fits (block_of c.self.inside) c.self.invariant c.args.self.now c.self.view_is c.args.id c.requires.to_last in
    omega (arith, fits, ap length c.deref_mut.ensures.value)

new-words : (c : goal.After-self-1) → (with_items c.self.inside.words c.link_in.new.words).items ≡ linked c.self.inside.words.items
    (c.args.lit - 2) (record { id = c.args.id; slot = c.args.slot })
new-words c =
    with_items_is c.self.inside.words c.link_in.new.words (grind (arith, common_steps, c.link_in.auto.words, c.deref_mut.ensures.len))
    ∙ c.link_in.ensures
    ∙ ap (λ (ws : List ℕ). linked ws (c.args.lit - 2) (record { id = c.args.id; slot = c.args.slot })) c.deref_mut.ensures.value

abbrev now_block : goal.After-self-1 → List ℕ → Block
now_block c words = block_with (block_of c.self.inside) words

abbrev Both : goal.After-self-1 → List ℕ → Type 0
Both c words =
    (stored_of (now_block c words) ≡ with_list c.args.self.now c.args.lit (record { id = c.args.id; slot = c.args.slot } ∷ list_of
    c.args.self.now c.args.lit))
    × IsLaidOut (now_block c words)

both : (c : goal.After-self-1) → Both c (with_items c.self.inside.words c.link_in.new.words).items
both c =
    let b = block_of c.self.inside in
    let inside = inside-seen b c.self.invariant c.args.self.now c.self.view_is c.args.lit c.requires.literal in
    subst (Both c) (sym (new-words c))
    (watched-seen b c.self.invariant c.args.self.now c.self.view_is c.args.lit (record { id = c.args.id; slot = c.args.slot }) inside.1
    c.requires.from_one c.requires.to_last c.requires.slot c.requires.free)

pub invariant_of-self : goal.invariant_of-self
invariant_of-self c = (both c).1

pub returns : goal.returns
returns c = (both c).0
