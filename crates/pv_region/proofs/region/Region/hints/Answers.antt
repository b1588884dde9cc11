use Rattle.std.proofs.Common.{ℕ, ◌+◌, ◌-◌, ◌≤◌, ◌∙◌, List, length, sym, ap, subst, arith, Some, slice_get}
use Rattle.pv_region.specs.Stored.{Stored, all_hints}
use Rattle.pv_region.specs.Layout.{start_in, end_at, lemma_in, FitsLemma}
use Rattle.pv_region.proofs.Reading.{clause-hints, lemma-fits, lemma-hints}
use Rattle.pv_region.proofs.Seen.{count-seen}
use Rattle.pv_region.proofs.Blocks.{block_of}
use Rattle.pv_region.proofs.region.Region.hints.Goals as goal

pub returns-then-id-self : goal.returns-then-id-self
returns-then-id-self c =
    ap (λ (s : Stored). slice_get (all_hints s) (c.args.id - 1)) (sym c.self.view_is)
    ∙ clause-hints (block_of c.self.inside) c.self.invariant c.args.id c.requires.from_one c.if-id-self.true

last : (c : goal.After-deref-2) → c.args.id ≤ c.self.inside.clauses + c.self.inside.lemmas
last c =
    let count = count-seen (block_of c.self.inside) c.self.invariant c.args.self.now c.self.view_is in
    omega (arith, count, c.requires.to_last)

pub hints_at-requires-clause-id : goal.hints_at-requires-clause-id
hints_at-requires-clause-id c = last c

pub hints_at-requires-clause-fits : goal.hints_at-requires-clause-fits
hints_at-requires-clause-fits c =
    let b = block_of c.self.inside in
    let fits = lemma-fits b c.self.invariant c.args.id c.requires.from_one c.if-id-self.false (last c) in
    subst (λ (ws : List ℕ). FitsLemma ws (start_in ws c.args.id) (end_at ws b.end (b.clauses + b.lemmas) c.args.id))
    (sym c.deref-2.ensures.value) fits.0

pub hints_at-requires-clause-inside : goal.hints_at-requires-clause-inside
hints_at-requires-clause-inside c =
    let b = block_of c.self.inside in
    let fits = lemma-fits b c.self.invariant c.args.id c.requires.from_one c.if-id-self.false (last c) in
    let room = c.self.invariant.room in
    subst (λ (ws : List ℕ). end_at ws b.end (b.clauses + b.lemmas) c.args.id ≤ length ws) (sym c.deref-2.ensures.value) (omega
    (arith, fits.1, room))

pub returns : goal.returns
returns c =
    let b = block_of c.self.inside in
    let count = count-seen b c.self.invariant c.args.self.now c.self.view_is in
    let there = lemma-hints b c.self.invariant c.args.id c.requires.from_one c.if-id-self.false (omega
    (arith, count, c.requires.to_last)) in
    let is = c.hints_at.ensures ∙ ap (λ (ws : List ℕ). (lemma_in ws (start_in ws c.args.id) (end_at ws b.end
    (b.clauses + b.lemmas) c.args.id)).hints) c.deref-2.ensures.value in
    ap (λ (s : Stored). slice_get (all_hints s) (c.args.id - 1)) (sym c.self.view_is) ∙ there ∙ ap (λ (ls : List ℕ). Some ls) (sym is)
