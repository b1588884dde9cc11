use Rattle.std.proofs.Common.{◌≡◌, ℕ, ◌+◌, ◌-◌, ◌≤◌, ◌∙◌, List, length, sym, ap, subst, arith, Some, slice_get}
use Rattle.std.specs.List.{between}
use Rattle.pv_region.specs.Stored.{Stored, all_lits}
use Rattle.pv_region.specs.Layout.{start_in, end_at, lemma_in, FitsLemma}
use Rattle.pv_region.proofs.Reading.{split-within, clause-fits, clause-lits, lemma-fits, lemma-lits}
use Rattle.pv_region.proofs.Seen.{id-fits, count-seen}
use Rattle.pv_region.proofs.Blocks.{block_of}
use Rattle.pv_region.proofs.region.Region.lits.Goals as goal

pub clause_at-requires-clause-fits : goal.clause_at-requires-clause-fits
clause_at-requires-clause-fits c =
    let b = block_of c.self.inside in
    subst (λ (ws : List ℕ). start_in ws c.args.id ≤ end_at ws b.clauses_end b.clauses c.args.id) (sym c.deref.ensures.value)
    (clause-fits b c.self.invariant c.args.id c.requires.from_one c.if-id-self.true).0

pub clause_at-requires-clause-inside : goal.clause_at-requires-clause-inside
clause_at-requires-clause-inside c =
    let b = block_of c.self.inside in
    let fits = (clause-fits b c.self.invariant c.args.id c.requires.from_one c.if-id-self.true).1 in
    let below = split-within b c.self.invariant in
    let room = c.self.invariant.room in
    subst (λ (ws : List ℕ). end_at ws b.clauses_end b.clauses c.args.id ≤ length ws) (sym c.deref.ensures.value) (omega
    (arith, fits, below, room))

pub returns-then-id-self : goal.returns-then-id-self
returns-then-id-self c =
    let b = block_of c.self.inside in
    let there = clause-lits b c.self.invariant c.args.id c.requires.from_one c.if-id-self.true in
    let is = c.clause_at.ensures ∙ ap (λ (ws : List ℕ). between (start_in ws c.args.id)
    (end_at ws b.clauses_end b.clauses c.args.id) ws) c.deref.ensures.value in
    ap (λ (s : Stored). slice_get (all_lits s) (c.args.id - 1)) (sym c.self.view_is) ∙ there ∙ ap (λ (ls : List ℕ). Some ls) (sym is)

pub lits_at-requires-clause-id : goal.lits_at-requires-clause-id
lits_at-requires-clause-id c =
    let fits = id-fits (block_of c.self.inside) c.self.invariant c.args.self.now c.self.view_is c.args.id c.requires.to_last in
    let same : length c.deref-2.result.now ≡ length c.self.inside.words.items = ap length c.deref-2.ensures.value in
    omega (arith, fits, same)

last : (c : goal.After-deref-2) → c.args.id ≤ c.self.inside.clauses + c.self.inside.lemmas
last c =
    let count = count-seen (block_of c.self.inside) c.self.invariant c.args.self.now c.self.view_is in
    omega (arith, count, c.requires.to_last)

pub lits_at-requires-clause-fits : goal.lits_at-requires-clause-fits
lits_at-requires-clause-fits c =
    let b = block_of c.self.inside in
    let fits = lemma-fits b c.self.invariant c.args.id c.requires.from_one c.if-id-self.false (last c) in
    let room = c.self.invariant.room in
    subst (λ (ws : List ℕ). FitsLemma ws (start_in ws c.args.id) (length ws)) (sym c.deref-2.ensures.value) (omega
    (arith, fits.0, fits.1, room))

pub returns : goal.returns
returns c =
    let b = block_of c.self.inside in
    let stop = end_at b.words b.end (b.clauses + b.lemmas) c.args.id in
    let count = count-seen b c.self.invariant c.args.self.now c.self.view_is in
    let there = lemma-lits b c.self.invariant c.args.id c.requires.from_one c.if-id-self.false (omega (arith, count, c.requires.to_last)) in
    let is = c.lits_at.ensures stop ∙ ap (λ (ws : List ℕ). (lemma_in ws (start_in ws c.args.id) stop).lits) c.deref-2.ensures.value in
    ap (λ (s : Stored). slice_get (all_lits s) (c.args.id - 1)) (sym c.self.view_is) ∙ there ∙ ap (λ (ls : List ℕ). Some ls) (sym is)
