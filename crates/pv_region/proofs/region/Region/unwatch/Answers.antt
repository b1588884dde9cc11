use Rattle.std.proofs.Common.{◌≡◌, ℕ, ◌*◌, ◌<◌, ◌≤◌, ◌∙◌, false, List, length, sym, ap, subst, arith, slice_index, IfSome, Option}
use Rattle.std.specs.Vec.{with_items}
use Rattle.std.proofs.lemmas.Grind.{common_steps}
use Rattle.std.proofs.lemmas.List.{with_items_is}
use Rattle.pv_cnf.specs.Literal.{is_outside}
use Rattle.pv_region.specs.declared.watch.Watch.{Watch}
use Rattle.pv_region.specs.Stored.{Stored, list_of, with_list, IsLinked, Without, HasNext}
use Rattle.pv_region.specs.Links.{link_before, watch_of}
use Rattle.pv_region.specs.Layout.{Block, stored_of, IsLaidOut}
use Rattle.pv_region.specs.Writes.{HasLink, unlinked}
use Rattle.pv_region.proofs.Linking.{block_with}
use Rattle.pv_region.proofs.Seen.{TakesOut, inside-seen, unwatched-seen, gone-free}
use Rattle.pv_region.proofs.Blocks.{block_of}
use Rattle.pv_region.proofs.region.Region.unwatch.Goals as goal

some_out : (b : Block) (laid : IsLaidOut b) (now : Stored) → stored_of b ≡ now → (lit : ℕ) (before : Option Watch)
    → is_outside now.variables lit ≡ false
    → HasNext before (list_of now lit) → (left : List Watch) × TakesOut b now lit before left
some_out b laid now seen lit before inside h =
    (h.left, unwatched-seen b laid now seen lit before h.gone h.left (inside-seen b laid now seen lit inside).1 h.without)

pub link_before-at-requires-clause-inside : goal.link_before-at-requires-clause-inside
link_before-at-requires-clause-inside c =
    let (left, out) = some_out (block_of c.self.inside) c.self.invariant c.args.self.now c.self.view_is c.args.lit c.args.before
    c.requires.literal c.requires.follows in
    subst (λ (ws : List ℕ). IfSome c.args.before (λ w. 3 * w.id ≤ length ws)) (sym c.deref.ensures.value) out.inside

at-is : (c : goal.After-deref_mut) → c.link_before-at.result ≡ link_before c.self.inside.words.items c.args.lit c.args.before
at-is c = c.link_before-at.ensures ∙ ap (λ (ws : List ℕ). link_before ws c.args.lit c.args.before) c.deref.ensures.value

pub take_out-requires-clause-at : goal.take_out-requires-clause-at
take_out-requires-clause-at c =
    let (left, out) = some_out (block_of c.self.inside) c.self.invariant c.args.self.now c.self.view_is c.args.lit c.args.before
    c.requires.literal c.requires.follows in
    omega (arith, out.at, at-is c, ap length c.deref_mut.ensures.value)

pub take_out-requires-clause-some : goal.take_out-requires-clause-some
take_out-requires-clause-some c =
    let (left, out) = some_out (block_of c.self.inside) c.self.invariant c.args.self.now c.self.view_is c.args.lit c.args.before
    c.requires.literal c.requires.follows in
    subst (λ (ws : List ℕ). 0 < slice_index ws c.link_before-at.result) (sym c.deref_mut.ensures.value)
    (subst (λ (i : ℕ). 0 < slice_index c.self.inside.words.items i) (sym (at-is c)) out.some)

pub take_out-requires-clause-slot : goal.take_out-requires-clause-slot
take_out-requires-clause-slot c =
    let (left, out) = some_out (block_of c.self.inside) c.self.invariant c.args.self.now c.self.view_is c.args.lit c.args.before
    c.requires.literal c.requires.follows in
    subst (λ (ws : List ℕ). HasLink ws (watch_of (slice_index ws c.link_before-at.result))) (sym c.deref_mut.ensures.value)
    (subst (λ (i : ℕ). HasLink c.self.inside.words.items (watch_of (slice_index c.self.inside.words.items i))) (sym (at-is c)) out.slot)

at-now : (c : goal.After-self-1) → c.link_before-at.result ≡ link_before c.self.inside.words.items c.args.lit c.args.before
at-now c = c.link_before-at.ensures ∙ ap (λ (ws : List ℕ). link_before ws c.args.lit c.args.before) c.deref.ensures.value

new-words : (c : goal.After-self-1) → (with_items c.self.inside.words c.take_out.new.words).items ≡ unlinked c.self.inside.words.items
    (link_before c.self.inside.words.items c.args.lit c.args.before)
new-words c =
    with_items_is c.self.inside.words c.take_out.new.words (grind (arith, common_steps, c.take_out.auto.words, c.deref_mut.ensures.len))
    ∙ c.take_out.ensures
    ∙ ap (λ (ws : List ℕ). unlinked ws c.link_before-at.result) c.deref_mut.ensures.value
    ∙ ap (unlinked c.self.inside.words.items) (at-now c)

pub invariant_of-self : goal.invariant_of-self
invariant_of-self c =
    let (left, out) = some_out (block_of c.self.inside) c.self.invariant c.args.self.now c.self.view_is c.args.lit c.args.before
    c.requires.literal c.requires.follows in
    subst (λ (ws : List ℕ). IsLaidOut (block_with (block_of c.self.inside) ws)) (sym (new-words c)) out.laid_out

seen-out : (c : goal.After-self-1) (gone : Watch) (left : List Watch) → Without c.args.before gone (list_of c.args.self.now c.args.lit) left
    → stored_of (block_with (block_of c.self.inside) (with_items c.self.inside.words c.take_out.new.words).items) ≡ with_list
    c.args.self.now c.args.lit left
seen-out c gone left w =
    let b = block_of c.self.inside in
    let inside = inside-seen b c.self.invariant c.args.self.now c.self.view_is c.args.lit c.requires.literal in
    let out = unwatched-seen b c.self.invariant c.args.self.now c.self.view_is c.args.lit c.args.before gone left inside.1 w in
    ap (λ (ws : List ℕ). stored_of (block_with b ws)) (new-words c) ∙ out.stored

pub returns-clause-out : goal.returns-clause-out
returns-clause-out c = λ gone left w. seen-out c gone left w

pub returns-clause-free : goal.returns-clause-free
returns-clause-free c = λ gone left w linked.
    let b = block_of c.self.inside in
    let inside = inside-seen b c.self.invariant c.args.self.now c.self.view_is c.args.lit c.requires.literal in
    gone-free b c.self.invariant c.args.self.now c.self.view_is c.args.lit c.args.before gone left inside.1 w
    (subst (λ (s : Stored). IsLinked s gone) (seen-out c gone left w) linked)
