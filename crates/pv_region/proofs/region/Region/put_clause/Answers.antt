use Rattle.std.proofs.Common.{◌≡◌, ℕ, ◌+◌, ◌*◌, ◌≤◌, ◌∙◌, List, length, refl, sym, ap, subst, arith}
use Rattle.std.specs.Vec.{with_items}
use Rattle.std.proofs.lemmas.Grind.{common_steps}
use Rattle.std.proofs.lemmas.List.{with_items_is}
use Rattle.pv_region.specs.Stored.{Stored, with_clause}
use Rattle.pv_region.specs.Layout.{Block, stored_of, IsLaidOut}
use Rattle.pv_region.specs.Writes.{Puts}
use Rattle.pv_region.proofs.Laid.{stored-clause, laid-clause}
use Rattle.pv_region.proofs.Seen.{no-lemma, count-seen, room-seen}
use Rattle.pv_region.proofs.Blocks.{block_of}
use Rattle.pv_region.proofs.region.Region.put_clause.Goals as goal

new-words : (c : goal.After-self-4-1) → (with_items c.self.inside.words c.write_clause.new.words).items ≡ c.write_clause.new.words
new-words c = with_items_is c.self.inside.words c.write_clause.new.words (grind
    (arith, common_steps, c.write_clause.auto.words, c.deref_mut.ensures.len))

none : (c : goal.After-self-4-1) → c.self.inside.lemmas ≡ 0
none c = no-lemma (block_of c.self.inside) c.self.invariant c.args.self.now c.self.view_is c.requires

room : (c : goal.After-self-4-1) → c.self.inside.end + length c.args.lits.now + 3 *
    (c.self.inside.clauses + c.self.inside.lemmas + 1) ≤ length c.self.inside.words.items
room c =
    let le = room-seen (block_of c.self.inside) c.self.invariant c.args.self.now c.self.view_is c.used.result c.capacity.result
    (3 + length c.args.lits.now) c.used.ensures.value c.capacity.ensures.value (omega arith) in
    omega (arith, le)

puts : (c : goal.After-self-4-1) → Puts c.self.inside.end (c.self.inside.clauses + c.self.inside.lemmas + 1) c.self.inside.words.items
    c.write_clause.new.words
puts c =
    let id : c.self.inside.clauses + 1 ≡ c.self.inside.clauses + c.self.inside.lemmas + 1 = omega (arith, none c) in
    subst (λ (ws : List ℕ). Puts c.self.inside.end (c.self.inside.clauses + c.self.inside.lemmas + 1) ws c.write_clause.new.words)
    c.deref_mut.ensures.value
    (subst (λ (i : ℕ). Puts c.self.inside.end i c.deref_mut.result.now c.write_clause.new.words) id c.write_clause.ensures.put)

abbrev after : goal.After-self-4-1 → List ℕ → Block
after c words = record {
  variables = c.self.inside.variables;
  clauses = c.self.inside.clauses + 1;
  lemmas = c.self.inside.lemmas;
  clauses_end = c.self.inside.end + length c.args.lits.now;
  end = c.self.inside.end + length c.args.lits.now;
  words = words;
}

pub invariant_of-self : goal.invariant_of-self
invariant_of-self c =
    let b = block_of c.self.inside in
    subst (λ (ws : List ℕ). IsLaidOut (after c ws)) (sym (new-words c))
    (laid-clause b c.write_clause.new.words c.args.lits.now (c.self.inside.end + length c.args.lits.now) c.self.invariant (none c)
    (puts c) c.write_clause.ensures.lits refl (room c))

pub returns-clause-id : goal.returns-clause-id
returns-clause-id c =
    let count = count-seen (block_of c.self.inside) c.self.invariant c.args.self.now c.self.view_is in
    omega (arith, count, none c)

pub returns-clause-ok : goal.returns-clause-ok
returns-clause-ok c =
    let b = block_of c.self.inside in
    ap (λ (ws : List ℕ). stored_of (after c ws)) (new-words c)
    ∙ stored-clause b c.write_clause.new.words c.args.lits.now (c.self.inside.end + length c.args.lits.now) c.self.invariant (none c)
    (puts c) c.write_clause.ensures.lits refl (room c)
    ∙ ap (λ (s : Stored). with_clause s c.args.lits.now) c.self.view_is
