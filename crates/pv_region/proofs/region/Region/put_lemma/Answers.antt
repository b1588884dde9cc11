use Rattle.std.proofs.Common.{◌≡◌, ℕ, ◌+◌, ◌*◌, ◌≤◌, ◌∙◌, List, length, sym, ap, subst, arith}
use Rattle.std.specs.Vec.{with_items}
use Rattle.std.proofs.lemmas.Grind.{common_steps}
use Rattle.std.proofs.lemmas.List.{with_items_is}
use Rattle.pv_region.specs.Stored.{Stored, with_lemma}
use Rattle.pv_region.specs.Layout.{lemma_in, Block, stored_of, IsLaidOut}
use Rattle.pv_region.specs.Writes.{Puts}
use Rattle.pv_region.proofs.Laid.{stored-lemma, laid-lemma}
use Rattle.pv_region.proofs.Seen.{count-seen, room-seen}
use Rattle.pv_region.proofs.Blocks.{block_of}
use Rattle.pv_region.proofs.region.Region.put_lemma.Goals as goal

new-words : (c : goal.After-self-3-1) → (with_items c.self.inside.words c.write_lemma.new.words).items ≡ c.write_lemma.new.words
new-words c = with_items_is c.self.inside.words c.write_lemma.new.words (grind (
  arith,
  common_steps,
  c.write_lemma.auto.words,
  c.deref_mut.ensures.len,
))

abbrev stop : goal.After-self-3-1 → ℕ
stop c = c.self.inside.end + (1 + length c.args.lits.now + length c.args.hints.now)

stop-is : (c : goal.After-self-3-1) → c.self.inside.end + 1 + length c.args.lits.now + length c.args.hints.now ≡ stop c
stop-is c = omega arith

room : (c : goal.After-self-3-1) → stop c + 3 * (c.self.inside.clauses + c.self.inside.lemmas + 1) ≤ length c.self.inside.words.items
room c =
    let le = room-seen (block_of c.self.inside) c.self.invariant c.args.self.now c.self.view_is c.used.result c.capacity.result
    (4 + length c.args.lits.now + length c.args.hints.now) c.used.ensures.value c.capacity.ensures.value (omega arith) in
    omega (arith, le)

puts : (c : goal.After-self-3-1) → Puts c.self.inside.end (c.self.inside.clauses + c.self.inside.lemmas + 1) c.self.inside.words.items
    c.write_lemma.new.words
puts c =
    subst (λ (ws : List ℕ). Puts c.self.inside.end (c.self.inside.clauses + c.self.inside.lemmas + 1) ws c.write_lemma.new.words)
    c.deref_mut.ensures.value c.write_lemma.ensures.put

put-there : (c : goal.After-self-3-1) → lemma_in c.write_lemma.new.words c.self.inside.end
    (stop c) ≡ record { lits = c.args.lits.now; hints = c.args.hints.now }
put-there c = ap (lemma_in c.write_lemma.new.words c.self.inside.end) (sym (stop-is c)) ∙ c.write_lemma.ensures.lemma

abbrev after : goal.After-self-3-1 → List ℕ → Block
after c words = record {
  variables = c.self.inside.variables;
  clauses = c.self.inside.clauses;
  lemmas = c.self.inside.lemmas + 1;
  clauses_end = c.self.inside.clauses_end;
  end = stop c;
  words = words;
}

pub invariant_of-self : goal.invariant_of-self
invariant_of-self c =
    let b = block_of c.self.inside in
    subst (λ (ws : List ℕ). IsLaidOut (after c ws)) (sym (new-words c))
    (laid-lemma b c.write_lemma.new.words c.args.lits.now c.args.hints.now (stop c) c.self.invariant (puts c)
    (put-there c) c.write_lemma.ensures.fits (sym (stop-is c)) (room c))

pub returns-clause-id : goal.returns-clause-id
returns-clause-id c =
    let count = count-seen (block_of c.self.inside) c.self.invariant c.args.self.now c.self.view_is in
    omega (arith, count)

pub returns-clause-ok : goal.returns-clause-ok
returns-clause-ok c =
    let b = block_of c.self.inside in
    ap (λ (ws : List ℕ). stored_of (after c ws)) (new-words c)
    ∙ stored-lemma b c.write_lemma.new.words c.args.lits.now c.args.hints.now (stop c) c.self.invariant (puts c)
    (put-there c) c.write_lemma.ensures.fits (sym (stop-is c)) (room c)
    ∙ ap (λ (s : Stored). with_lemma s (record { lits = c.args.lits.now; hints = c.args.hints.now })) c.self.view_is
