-- What the calls of a region need, of a block and of what contracts see of it.
use Rattle.std.proofs.Common.{◌≡◌, ℕ, ◌+◌, ◌-◌, ◌*◌, ◌/◌, ◌<◌, ◌≤◌, ◌==◌, false, List, [], ◌∷◌, ◌++◌, length, replicate, refl, sym, ap, subst, ◌∙◌, arith, inl, inr, Option, Some, None, IfSome, slice_get, slice_index, slice_index_or, nat_lt, slice_set}
use Rattle.std.specs.List.{between}
use Rattle.std.proofs.lemmas.Bool.{cases_eq, cases_lt, both_ways, or_left, or_right, eq-eqb, lt-ltb}
use Rattle.std.proofs.lemmas.List.{length-set, length-replicate, get_or-replicate, get_or_past, get_or-set_same, get_or-set_other}
use Rattle.std.proofs.lemmas.List.FromFn.{length-map-range_with_len, fill_by_all}
use Rattle.pv_cnf.specs.Literal.{is_outside}
use Rattle.pv_region.specs.declared.watch.Watch.{Watch}
use Rattle.pv_region.specs.Stored.{Stored, used_of, count_of, list_of, with_list, IsLinked, Without}
use Rattle.pv_region.specs.Links.{code_of, watch_of, watch_at, link_at, link_before, walk, IsSlot, Chain, In, EachOnce}
use Rattle.pv_region.specs.Layout.{lemma_in, list_at, lists_in, Block, stored_of, IsLaidOut}
use Rattle.pv_region.specs.Writes.{Writes, HasLink, linked, unlinked}
use Rattle.pv_region.proofs.Parts.{between-same}
use Rattle.pv_region.proofs.Chains.{watch-code, contains-in, in-contains, in-right, once-gone, chain-slot, chain-first, chain-behind, chain-short, list-there}
use Rattle.pv_region.proofs.Reading.{clause-count, lemma-count}
use Rattle.pv_region.proofs.Linking.{block_with, links-behind, watched, first-slot, first-code, unwatched-first, before-part, next-code, unwatched-next}

-- ---- literals

pub inside-literal : (n lit : ℕ) → is_outside n lit ≡ false → (2 ≤ lit) × (lit - 2 < 2 * n)
inside-literal n lit e =
    elim (cases_eq (lit / 2) 0) [
      | inl none ↦ absurd (both_ways (is_outside n lit) e (or_left (lit / 2 == 0) (nat_lt n (lit / 2)) (eq-eqb (lit / 2) 0 none)))
      | inr some ↦ elim (cases_lt n (lit / 2)) [
        | inl past ↦ absurd (both_ways (is_outside n lit) e (or_right (lit / 2 == 0) (nat_lt n (lit / 2)) (lt-ltb n (lit / 2) past)))
        | inr le ↦ (omega (arith, some), omega (arith, some, le))
      ]
    ]

-- ---- a region without anything

pub empty-stored : (variables words : ℕ) (ws : List ℕ) → 2 * variables ≤ words → ws ≡ replicate words 0
    → stored_of (record { variables = variables; clauses = 0; lemmas = 0; clauses_end = 2 * variables; end = 2 * variables; words = ws })
    ≡ record { variables = variables; capacity = words; clauses = []; lemmas = []; lists = replicate (2 * variables) [] }
empty-stored variables words ws fits zeros =
    let size : length ws ≡ words = ap length zeros ∙ length-replicate words 0 in
    let lists : lists_in ws (2 * variables) 0 ≡ replicate (2 * variables) [] =
    sym (fill_by_all (list_at ws 0) (replicate (2 * variables) []) (2 * variables) [] (length-replicate (2 * variables) []) (λ k lt.
    let zero_there : slice_index ws k ≡ 0 = ap (λ (xs : List ℕ). slice_index xs k) zeros
    ∙ get_or-replicate words k 0 0 (omega (arith, lt, fits)) in
    get_or-replicate (2 * variables) k [] [] lt ∙ sym (ap (walk ws 2) zero_there))) in
    ap (λ (n : ℕ). record { variables = variables; capacity = n; clauses = []; lemmas = []; lists = lists_in ws (2 * variables) 0 }) size
    ∙ ap (λ (ls : List (List Watch)). record { variables = variables; capacity = words; clauses = []; lemmas = []; lists = ls }) lists

-- ---- a lemma as it was written

pub written-lemma : (old second third : List ℕ) (end at : ℕ) (lits hints : List ℕ)
    → Writes (end + 1) lits (slice_set old end (length lits)) second → Writes (end + 1 + length lits) hints second third
    → end + 1 + length lits + length hints ≤ at → at < length old → lemma_in (slice_set third at end) end
    (end + 1 + length lits + length hints) ≡ record { lits = lits; hints = hints }
written-lemma old second third end at lits hints w2 w3 before inside =
    let last = end + 1 + length lits + length hints in
    let size-2 : length second ≡ length old = w2.size ∙ length-set old end (length lits) in
    let size-3 : length third ≡ length old = w3.size ∙ size-2 in
    let size : length (slice_set third at end) ≡ length third = length-set third at end in
    let count : slice_index (slice_set third at end) end ≡ length lits =
    get_or-set_other third at end end 0 (omega (arith, before)) ∙ w3.others end (inl (omega arith)) ∙ w2.others end (inl (omega arith))
    ∙ get_or-set_same old end (length lits) 0 (omega (arith, before, inside)) in
    let mine : between (end + 1) (end + 1 + length lits) (slice_set third at end) ≡ lits =
    between-same third (slice_set third at end) size (end + 1) (end + 1 + length lits) (omega (arith, size-3, before, inside))
    (λ i low high. get_or-set_other third at i end 0 (omega (arith, before, high)))
    ∙ between-same second third (w3.size) (end + 1) (end + 1 + length lits) (omega (arith, size-2, before, inside))
    (λ i low high. w3.others i (inl high))
    ∙ w2.there in
    let theirs : between (end + 1 + length lits) last (slice_set third at end) ≡ hints =
    between-same third (slice_set third at end) size (end + 1 + length lits) last (omega (arith, size-3, before, inside))
    (λ i low high. get_or-set_other third at i end 0 (omega (arith, before, high)))
    ∙ w3.there in
    ap (λ (n : ℕ). record {
      lits = between (end + 1) (end + 1 + n) (slice_set third at end);
      hints = between (end + 1 + n) last
          (slice_set third at end);
    }) count
    ∙ ap (λ (ls : List ℕ). record { lits = ls; hints = between (end + 1 + length lits) last (slice_set third at end) }) mine
    ∙ ap (λ (hs : List ℕ). record { lits = lits; hints = hs }) theirs

-- what becomes of a list without one of its entries, and that there is one
pub record TakesOut (b : Block) (now : Stored) (lit : ℕ) (before : Option Watch) (left : List Watch) : Type 0 where
  pub inside : IfSome before (λ w. 3 * w.id ≤ length b.words)
  pub at : link_before b.words lit before < length b.words
  pub some : 0 < slice_index b.words (link_before b.words lit before)
  pub slot : HasLink b.words (watch_of (slice_index b.words (link_before b.words lit before)))
  pub stored : stored_of (block_with b (unlinked b.words (link_before b.words lit before))) ≡ with_list now lit left
  pub laid_out : IsLaidOut (block_with b (unlinked b.words (link_before b.words lit before)))

-- ---- a block and what is seen of it

module _ (b : Block) (laid : IsLaidOut b) (now : Stored) (seen : stored_of b ≡ now) where
  pub clauses-seen : b.clauses ≡ length now.clauses
  clauses-seen = sym (clause-count b laid) ∙ ap (λ (s : Stored). length s.clauses) seen

  pub lemmas-seen : b.lemmas ≡ length now.lemmas
  lemmas-seen = sym (lemma-count b laid) ∙ ap (λ (s : Stored). length s.lemmas) seen

  pub count-seen : count_of now ≡ b.clauses + b.lemmas
  count-seen = omega (arith, clauses-seen, lemmas-seen)

  pub id-fits : (id : ℕ) → id ≤ count_of now → 3 * id ≤ length b.words
  id-fits id le = omega (arith, count-seen, laid.room, le)

  pub no-lemma : now.lemmas ≡ [] → b.lemmas ≡ 0
  no-lemma none = lemmas-seen ∙ ap length none

  -- what the test for room says
  pub room-seen : (used capacity cost : ℕ) → used ≡ used_of now → capacity ≡ now.capacity → used + cost ≤ capacity
      → b.end + 3 * (b.clauses + b.lemmas) + cost ≤ length b.words
  room-seen used capacity cost used-is capacity-is le =
      let sum : used_of (stored_of b) ≡ used_of now = ap used_of seen in
      let size : length b.words ≡ now.capacity = ap (λ (s : Stored). s.capacity) seen in
      omega (arith, laid.used, sum, size, used-is, capacity-is, le)

  variables-seen : b.variables ≡ now.variables
  variables-seen = ap (λ (s : Stored). s.variables) seen

  pub inside-seen : (lit : ℕ) → is_outside now.variables lit ≡ false → (2 ≤ lit) × (lit - 2 < 2 * b.variables)
  inside-seen lit e = inside-literal b.variables lit (ap (λ (n : ℕ). is_outside n lit) variables-seen ∙ e)

  abbrev here : ℕ → List Watch
  here = list_at b.words (b.clauses + b.lemmas)

  pub list-seen : (lit : ℕ) → lit - 2 < 2 * b.variables → here (lit - 2) ≡ list_of now lit
  list-seen lit lt =
      sym (list-there here (2 * b.variables) (lit - 2) lt) ∙ ap (λ (s : Stored). list_of s lit) seen

  list-past : (lit : ℕ) → 2 * b.variables ≤ lit - 2 → list_of now lit ≡ []
  list-past lit le =
      ap (λ (s : Stored). list_of s lit) (sym seen)
      ∙ get_or_past (lists_in b.words (2 * b.variables) (b.clauses + b.lemmas)) (lit - 2) [] (omega
      (arith, length-map-range_with_len here 0 (2 * b.variables), le))

  -- what isn't empty is the list of a literal of the region
  some-list : (lit : ℕ) (ws : List Watch) (w : Watch) → list_of now lit ≡ ws → In w ws → lit - 2 < 2 * b.variables
  some-list lit ws w e there =
      elim (cases_lt (lit - 2) (2 * b.variables)) [
        | inl lt ↦ lt
        | inr le ↦ absurd (subst (In w) (sym e ∙ list-past lit le) there)
      ]

  pub chain-seen : (lit : ℕ) (ws : List Watch) → lit - 2 < 2 * b.variables → list_of now lit ≡ ws
      → Chain b.words (b.clauses + b.lemmas) (slice_index b.words (lit - 2)) ws
  chain-seen lit ws lt e =
      subst (Chain b.words (b.clauses + b.lemmas) (slice_index b.words (lit - 2))) (list-seen lit lt ∙ e) (laid.lists.chain (lit - 2) lt)

  pub linked-slot : (w : Watch) → IsLinked now w → IsSlot (b.clauses + b.lemmas) w
  linked-slot w l =
      let (k, lt, e) = l.there in
      let there : In w (list_of now l.lit) = contains-in w (list_of now l.lit) k lt e in
      let inside : l.lit - 2 < 2 * b.variables = some-list l.lit (list_of now l.lit) w refl there in
      chain-slot b.words (b.clauses + b.lemmas) (slice_index b.words (l.lit - 2)) (list_of now l.lit) w (chain-seen l.lit
      (list_of now l.lit) inside refl) there

  pub first-seen : (lit : ℕ) → lit - 2 < 2 * b.variables → watch_at (slice_index b.words (lit - 2)) ≡ slice_get (list_of now lit) 0
  first-seen lit lt =
      chain-first b.words (b.clauses + b.lemmas) (slice_index b.words (lit - 2)) (list_of now lit) (chain-seen lit
      (list_of now lit) lt refl)

  pub next-seen : (w : Watch) (lit : ℕ) (front rest : List Watch) → list_of now lit ≡ front ++ w ∷ rest
      → watch_at (slice_index b.words (link_at b.words w)) ≡ slice_get rest 0
  next-seen w lit front rest e =
      let inside : lit - 2 < 2 * b.variables = some-list lit (front ++ w ∷ rest) w e (in-right w front (w ∷ rest) (inl refl)) in
      let behind = chain-behind b.words (b.clauses + b.lemmas) (slice_index b.words (lit - 2)) front w rest (chain-seen lit
      (front ++ w ∷ rest) inside e) in
      chain-first b.words (b.clauses + b.lemmas) (slice_index b.words (link_at b.words w)) rest behind.1

  pub slot-link : (w : Watch) → IsSlot (b.clauses + b.lemmas) w → HasLink b.words w
  slot-link w slot = record { from_one = slot.from_one; inside = omega (arith, slot.to_last, laid.room); slot = slot.slot }

  pub link-inside : (w : Watch) → IsSlot (b.clauses + b.lemmas) w → link_at b.words w < length b.words
  link-inside w slot = omega (arith, slot.to_last, slot.from_one, slot.slot, laid.room)

  -- ---- into a list

  pub watched-seen : (lit : ℕ) (w : Watch) → lit - 2 < 2 * b.variables → 0 < w.id → w.id ≤ count_of now → w.slot < 2 → (IsLinked now w → ⊥)
      → (stored_of (block_with b (linked b.words (lit - 2) w)) ≡ with_list now lit (w ∷ list_of now lit)) × IsLaidOut (block_with b
      (linked b.words (lit - 2) w))
  watched-seen lit w lt some last slot free =
      let is : IsSlot (b.clauses + b.lemmas) w = record { from_one = some; to_last = omega (arith, last, count-seen); slot = slot } in
      let nowhere : (i : ℕ) → i < 2 * b.variables → In w (here i) → ⊥ = λ i below there.
      let same : i + 2 - 2 ≡ i = omega arith in
      free (record {
        lit = i + 2;
        there = in-contains w (list_of now (i + 2)) (subst (In w) (ap here (sym same)
            ∙ list-seen (i + 2) (omega arith)) there);
      }) in
      let both = watched b laid (lit - 2) lt w is nowhere lit refl in (
        both.0 ∙ ap (λ (s : Stored). with_list s lit (w ∷ here (lit - 2))) seen
            ∙ ap (λ (ws : List Watch). with_list now lit (w ∷ ws)) (list-seen lit lt),
        both.1,
      )

  -- ---- out of a list

  gone-slot : (code : ℕ) (gone : Watch) → IsSlot (b.clauses + b.lemmas) gone → code ≡ code_of gone
      → (0 < code) × HasLink b.words (watch_of code)
  gone-slot code gone slot e =
      (omega (arith, e, slot.from_one), subst (HasLink b.words) (sym (watch-code code gone slot.slot e)) (slot-link gone slot))

  pub unwatched-seen : (lit : ℕ) (before : Option Watch) (gone : Watch) (left : List Watch) → lit - 2 < 2 * b.variables
      → Without before gone (list_of now lit) left → TakesOut b now lit before left
  unwatched-seen lit None gone left lt w =
      let is : here (lit - 2) ≡ gone ∷ left = list-seen lit lt ∙ w.was in
      let both = unwatched-first b laid (lit - 2) lt gone left is lit refl in
      let out = gone-slot (slice_index b.words (lit - 2)) gone (first-slot b laid (lit - 2) lt gone left is) (first-code b laid
      (lit - 2) lt gone left is) in
      let f = links-behind b laid in
      record {
        inside = tt;
        at = omega (arith, f.heads, f.room, lt);
        some = out.0;
        slot = out.1;
        stored = both.0 ∙ ap (λ (s : Stored). with_list s lit left) seen;
        laid_out = both.1;
      }
  unwatched-seen lit (Some v) gone left lt w =
      let is : here (lit - 2) ≡ w.front ++ v ∷ gone ∷ w.rest = list-seen lit lt ∙ w.was in
      let both = unwatched-next b laid (lit - 2) lt v gone w.front w.rest is lit refl in
      let before = before-part b laid (lit - 2) lt v gone w.front w.rest is in
      let out = gone-slot (slice_index b.words (link_at b.words v)) gone before.1.1 (next-code b laid
      (lit - 2) lt v gone w.front w.rest is) in
      record {
        inside = (slot-link v before.0).inside;
        at = link-inside v before.0;
        some = out.0;
        slot = out.1;
        stored = both.0 ∙ ap (λ (s : Stored). with_list s lit (w.front ++ v ∷ w.rest)) seen ∙ ap (with_list now lit) (sym w.is);
        laid_out = both.1;
      }

  lists-size : length now.lists ≡ 2 * b.variables
  lists-size = ap (λ (s : Stored). length s.lists) (sym seen) ∙ length-map-range_with_len here 0 (2 * b.variables)

  -- the entry was in the list, and isn't in what is left of it
  gone-parts : (before : Option Watch) (gone : Watch) (watches left : List Watch) → EachOnce watches → Without before gone watches left
      → In gone watches × (In gone left → ⊥)
  gone-parts None gone watches left once w =
      (subst (In gone) (sym w.was) (inl refl), (subst EachOnce w.was once).0)
  gone-parts (Some v) gone watches left once w = (
    subst (In gone) (sym w.was) (in-right gone w.front (v ∷ gone ∷ w.rest) (inr (inl refl))),
    λ i. once-gone v gone w.front w.rest (subst EachOnce w.was once) (subst (In gone) w.is i),
  )

  pub gone-free : (lit : ℕ) (before : Option Watch) (gone : Watch) (left : List Watch) → lit - 2 < 2 * b.variables
      → Without before gone (list_of now lit) left → IsLinked (with_list now lit left) gone → ⊥
  gone-free lit before gone left lt w l =
      let (k, below, e) = l.there in
      let there : In gone (list_of (with_list now lit left) l.lit) = contains-in gone (list_of (with_list now lit left) l.lit) k below e in
      let parts = gone-parts before gone (list_of now lit) left (subst EachOnce (list-seen lit lt) (laid.lists.once (lit - 2) lt)) w in
      elim (cases_eq (l.lit - 2) (lit - 2)) [
        | inl same ↦ parts.1 (subst (In gone) (ap (λ (i : ℕ). slice_index_or (slice_set now.lists (lit - 2) left) i []) same
            ∙ get_or-set_same now.lists (lit - 2) left [] (omega (arith, lists-size, lt))) there)
        | inr differ ↦ (let old : In gone (list_of now l.lit) = subst (In gone) (get_or-set_other now.lists (lit - 2)
            (l.lit - 2) left [] differ) there in
            let inside : l.lit - 2 < 2 * b.variables = some-list l.lit (list_of now l.lit) gone refl old in
            differ (laid.lists.apart (l.lit - 2) (lit - 2) gone inside lt (subst (In gone) (sym (list-seen l.lit inside)) old) (subst
            (In gone) (sym (list-seen lit lt)) parts.0)))
      ]

  pub list-short : (lit : ℕ) → lit - 2 < 2 * b.variables → length (list_of now lit) ≤ 2 * count_of now + 2
  list-short lit lt =
      let short = chain-short b.words (b.clauses + b.lemmas) (slice_index b.words (lit - 2)) (list_of now lit) (chain-seen lit
      (list_of now lit) lt refl) (subst EachOnce (list-seen lit lt) (laid.lists.once (lit - 2) lt)) in
      omega (arith, short, count-seen)
