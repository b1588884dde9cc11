-- What a region keeps where something is put into it: the parts and lists that were there stay, and the new part is the last one.
use Rattle.std.proofs.Common.{◌≡◌, ℕ, suc, ◌+◌, ◌*◌, ◌<◌, ◌≤◌, List, [], ◌∷◌, ◌++◌, length, refl, sym, ap, subst, ◌∙◌, arith, slice_index}
use Rattle.std.specs.List.{between}
use Rattle.std.proofs.lemmas.List.Sums.{sum_by-append}
use Rattle.pv_region.specs.declared.watch.Watch.{Watch}
use Rattle.pv_region.specs.Stored.{Hinted, clause_cost, lemma_cost, used_of, with_clause, with_lemma}
use Rattle.pv_region.specs.Links.{record_at, link_at, IsSlot, Chain, AreLists}
use Rattle.pv_region.specs.Layout.{AreParts, start_after, lemma_in, FitsLemma, clauses_in, lemmas_in, list_at, lists_in, Block, stored_of, IsLaidOut}
use Rattle.pv_region.specs.Writes.{Puts}
use Rattle.pv_region.proofs.Parts.{between-same, start-below, parts-same}
use Rattle.pv_region.proofs.Chains.{chain-slot, chain-kept, lists-same, list-found, lists-all-same}

pub in_order : (a b : ℕ) → a ≤ b → a ≤ b
in_order a b le = le

pub lemma_order : (words : List ℕ) (a b : ℕ) → FitsLemma words a b → a ≤ b
lemma_order words a b fits = omega (arith, fits)

module _ (b : Block) (new : List ℕ) (laid : IsLaidOut b) (puts : Puts b.end (b.clauses + b.lemmas + 1) b.words new) (room : b.end + 3 *
    (b.clauses + b.lemmas + 1) ≤ length b.words) where
  split-below : b.clauses_end ≤ b.end
  split-below = start-below (start_after b.words b.clauses) (FitsLemma b.words)
      (lemma_order b.words) b.clauses_end b.end b.lemmas laid.lemmas

  pub heads-below : 2 * b.variables ≤ b.end
  heads-below =
      let low = start-below (start_after b.words 0) (λ start end. start ≤ end) in_order
      (2 * b.variables) b.clauses_end b.clauses laid.clauses in
      omega (arith, low, split-below)

  starts-kept : (first k : ℕ) → first + k ≤ b.clauses + b.lemmas → start_after new first k ≡ start_after b.words first k
  starts-kept first k le =
      let at : record_at new (first + k) ≡ record_at b.words (first + k) = omega (arith, puts.size) in
      ap (slice_index new) at ∙ puts.records (record_at b.words (first + k)) (omega (arith, room, le))

  part-kept : (x y : ℕ) → y ≤ b.end → between x y new ≡ between x y b.words
  part-kept x y le = between-same b.words new puts.size x y (omega (arith, room, le)) (λ i low high. puts.front i (omega (arith, high, le)))

  pub clauses-kept : (clauses_in new b.clauses_end b.clauses ≡ clauses_in b.words b.clauses_end b.clauses) × AreParts
      (start_after new 0) (λ start end. start ≤ end) (2 * b.variables) b.clauses_end b.clauses
  clauses-kept =
      parts-same (start_after b.words 0) (start_after new 0) (λ x y. between x y b.words) (λ x y. between x y new)
      (λ start end. start ≤ end) (λ start end. start ≤ end) in_order (2 * b.variables) b.clauses_end b.clauses
      (λ j some le. starts-kept 0 j (omega (arith, le)))
      (λ x y low high fits. (part-kept x y (omega (arith, high, split-below)), fits))
      laid.clauses

  lemma-kept : (x y : ℕ) → y ≤ b.end → FitsLemma b.words x y → (lemma_in new x y ≡ lemma_in b.words x y) × FitsLemma new x y
  lemma-kept x y le fits =
      let count : slice_index new x ≡ slice_index b.words x = puts.front x (omega (arith, fits, le)) in (
        ap (λ (n : ℕ). record { lits = between (x + 1) (x + 1 + n) new; hints = between (x + 1 + n) y new }) count
            ∙ ap (λ (ls : List ℕ). record { lits = ls; hints = between (x + 1 + slice_index b.words x) y new }) (part-kept (x + 1)
            (x + 1 + slice_index b.words x) (omega (arith, fits, le)))
            ∙ ap (λ (hs : List ℕ). record { lits = between (x + 1) (x + 1 + slice_index b.words x) b.words; hints = hs }) (part-kept
            (x + 1 + slice_index b.words x) y le),
        omega (arith, count, fits),
      )

  pub lemmas-kept : (lemmas_in new b.clauses b.end b.lemmas ≡ lemmas_in b.words b.clauses b.end b.lemmas) × AreParts
      (start_after new b.clauses) (FitsLemma new) b.clauses_end b.end b.lemmas
  lemmas-kept =
      parts-same (start_after b.words b.clauses) (start_after new b.clauses) (lemma_in b.words) (lemma_in new) (FitsLemma b.words)
      (FitsLemma new) (lemma_order b.words) b.clauses_end b.end b.lemmas
      (λ j some le. starts-kept b.clauses j (omega (arith, le)))
      (λ x y low high fits. lemma-kept x y high fits)
      laid.lemmas

  link-kept : (w : Watch) → IsSlot (b.clauses + b.lemmas) w → slice_index new (link_at new w) ≡ slice_index b.words (link_at b.words w)
  link-kept w slot =
      let at : link_at new w ≡ link_at b.words w = omega (arith, puts.size) in
      ap (slice_index new) at ∙ puts.records (link_at b.words w) (omega (arith, room, slot.to_last))

  list-old : ℕ → List Watch
  list-old i = list_at b.words (b.clauses + b.lemmas) i

  lists-more : AreLists new (2 * b.variables) (b.clauses + b.lemmas + 1) (list_at b.words (b.clauses + b.lemmas))
  lists-more = record {
    chain = λ i lt.
        let old = laid.lists.chain i lt in
        let head : slice_index new i ≡ slice_index b.words i = puts.front i (omega (arith, lt, heads-below)) in
        subst (λ (n : ℕ). Chain new (b.clauses + b.lemmas + 1) n (list_at b.words (b.clauses + b.lemmas) i)) (sym head)
        (chain-kept b.words new (b.clauses + b.lemmas) (b.clauses + b.lemmas + 1) (omega arith) (slice_index b.words i) (list_at b.words
        (b.clauses + b.lemmas) i)
        (λ w there. link-kept w (chain-slot b.words (b.clauses + b.lemmas) (slice_index b.words i) (list_at b.words
        (b.clauses + b.lemmas) i) w old there)) old);
    once = laid.lists.once;
    apart = laid.lists.apart;
  }

  list-again : (i : ℕ) → i < 2 * b.variables → list_at new (b.clauses + b.lemmas + 1) i ≡ list_at b.words (b.clauses + b.lemmas) i
  list-again = list-found new (2 * b.variables) (b.clauses + b.lemmas + 1) (list_at b.words (b.clauses + b.lemmas)) lists-more

  pub lists-kept : AreLists new (2 * b.variables) (b.clauses + b.lemmas + 1) (list_at new (b.clauses + b.lemmas + 1))
  lists-kept =
      lists-same new (2 * b.variables) (b.clauses + b.lemmas + 1) (list_at b.words (b.clauses + b.lemmas)) lists-more (list_at new
      (b.clauses + b.lemmas + 1)) list-again

  pub lists-as-before : lists_in new (2 * b.variables) (b.clauses + b.lemmas + 1) ≡ lists_in b.words (2 * b.variables)
      (b.clauses + b.lemmas)
  lists-as-before =
      lists-all-same (list_at b.words (b.clauses + b.lemmas)) (list_at new (b.clauses + b.lemmas + 1)) (2 * b.variables) list-again

-- one more clause
module _ (b : Block) (new lits : List ℕ) (end : ℕ) (laid : IsLaidOut b) (none : b.lemmas ≡ 0) (puts : Puts b.end
    (b.clauses + b.lemmas + 1) b.words new) (is : between b.end end new ≡ lits) (end-is : end ≡ b.end + length lits) (room : end + 3 *
    (b.clauses + b.lemmas + 1) ≤ length b.words) where
  abbrev pub block_with_clause : Block
  block_with_clause = record {
    variables = b.variables;
    clauses = b.clauses + 1;
    lemmas = b.lemmas;
    clauses_end = end;
    end = end;
    words = new;
  }

  less : b.end + 3 * (b.clauses + b.lemmas + 1) ≤ length b.words
  less = omega (arith, room, end-is)

  joined : b.clauses_end ≡ b.end
  joined = subst (λ (n : ℕ). AreParts (start_after b.words b.clauses) (FitsLemma b.words) b.clauses_end b.end n) none laid.lemmas

  new-start : start_after new 0 (b.clauses + 1) ≡ b.end
  new-start =
      let at : record_at new (0 + (b.clauses + 1)) ≡ record_at b.words (b.clauses + b.lemmas + 1) = omega (arith, puts.size, none) in
      ap (slice_index new) at ∙ puts.place

  one-more-clause : clauses_in new end (b.clauses + 1) ≡ clauses_in b.words b.clauses_end b.clauses ++ lits ∷ []
  one-more-clause =
      let next : b.clauses + 1 ≡ suc b.clauses = omega arith in
      let start : start_after new 0 (suc b.clauses) ≡ b.clauses_end = ap (start_after new 0) (sym next) ∙ new-start ∙ sym joined in
      ap (clauses_in new end) next
      ∙ ap (λ (n : ℕ). clauses_in new n b.clauses ++ between n end new ∷ []) start
      ∙ ap (λ (cs : List (List ℕ)). cs ++ between b.clauses_end end new ∷ []) (clauses-kept b new laid puts less).0
      ∙ ap (λ (n : ℕ). clauses_in b.words b.clauses_end b.clauses ++ between n end new ∷ []) joined
      ∙ ap (λ (ls : List ℕ). clauses_in b.words b.clauses_end b.clauses ++ ls ∷ []) is

  still-none : lemmas_in new (b.clauses + 1) end b.lemmas ≡ lemmas_in b.words b.clauses b.end b.lemmas
  still-none =
      ap (lemmas_in new (b.clauses + 1) end) none ∙ sym (ap (lemmas_in b.words b.clauses b.end) none)

  pub stored-clause : stored_of block_with_clause ≡ with_clause (stored_of b) lits
  stored-clause =
      let count : b.clauses + 1 + b.lemmas ≡ b.clauses + b.lemmas + 1 = omega arith in
      ap (λ (n : ℕ). record {
        variables = b.variables;
        capacity = n;
        clauses = clauses_in new end
            (b.clauses + 1);
        lemmas = lemmas_in new (b.clauses + 1) end b.lemmas;
        lists = lists_in new (2 * b.variables)
            (b.clauses + 1 + b.lemmas);
      }) puts.size
      ∙ ap (λ (cs : List (List ℕ)). record {
        variables = b.variables;
        capacity = length b.words;
        clauses = cs;
        lemmas = lemmas_in new
            (b.clauses + 1) end b.lemmas;
        lists = lists_in new (2 * b.variables) (b.clauses + 1 + b.lemmas);
      }) one-more-clause
      ∙ ap (λ (ls : List Hinted). record {
        variables = b.variables;
        capacity = length b.words;
        clauses = clauses_in b.words b.clauses_end
            b.clauses ++ lits ∷ [];
        lemmas = ls;
        lists = lists_in new (2 * b.variables) (b.clauses + 1 + b.lemmas);
      }) still-none
      ∙ ap (λ (ws : List (List Watch)). record {
        variables = b.variables;
        capacity = length b.words;
        clauses = clauses_in b.words
            b.clauses_end b.clauses ++ lits ∷ [];
        lemmas = lemmas_in b.words b.clauses b.end b.lemmas;
        lists = ws;
      })
      (ap (lists_in new (2 * b.variables)) count ∙ lists-as-before b new laid puts less)

  pub used-clause : used_of (with_clause (stored_of b) lits) ≡ used_of (stored_of b) + clause_cost lits
  used-clause =
      let sum = sum_by-append clause_cost (clauses_in b.words b.clauses_end b.clauses) (lits ∷ []) in
      omega (arith, sum)

  pub laid-clause : IsLaidOut block_with_clause
  laid-clause = record {
    small = omega (arith, puts.size, laid.small);
    clauses =
        let next : b.clauses + 1 ≡ suc b.clauses = omega arith in
        let start : start_after new 0 (suc b.clauses) ≡ b.clauses_end = ap (start_after new 0) (sym next) ∙ new-start ∙ sym joined in
        subst (AreParts (start_after new 0) (λ start end. start ≤ end) (2 * b.variables) end) (sym next)
        (subst (λ (n : ℕ). (n ≤ end) × AreParts (start_after new 0) (λ start end. start ≤ end) (2 * b.variables) n b.clauses) (sym start)
        (omega (arith, joined, end-is), (clauses-kept b new laid puts less).1));
    lemmas = subst (λ (n : ℕ). AreParts (start_after new (b.clauses + 1)) (FitsLemma new) end end n) (sym none) refl;
    used =
        let cost = used-clause in
        let sum : end + 3 * (b.clauses + 1 + b.lemmas) ≡ used_of (with_clause (stored_of b) lits) = omega
        (arith, end-is, laid.used, cost) in
        sum ∙ sym (ap used_of stored-clause);
    room = omega (arith, room, puts.size);
    lists =
        let count : b.clauses + b.lemmas + 1 ≡ b.clauses + 1 + b.lemmas = omega arith in
        subst (λ (n : ℕ). AreLists new (2 * b.variables) n (list_at new n)) count (lists-kept b new laid puts less);
  }

-- one more lemma
module _ (b : Block) (new lits hints : List ℕ) (end : ℕ) (laid : IsLaidOut b) (puts : Puts b.end (b.clauses + b.lemmas + 1) b.words new)
    (is : lemma_in new b.end end ≡ record { lits = lits; hints = hints }) (count : slice_index new b.end ≡ length lits)
    (end-is : end ≡ b.end + 1 + length lits + length hints) (room : end + 3 * (b.clauses + b.lemmas + 1) ≤ length b.words) where
  abbrev pub block_with_lemma : Block
  block_with_lemma = record {
    variables = b.variables;
    clauses = b.clauses;
    lemmas = b.lemmas + 1;
    clauses_end = b.clauses_end;
    end = end;
    words = new;
  }

  less-2 : b.end + 3 * (b.clauses + b.lemmas + 1) ≤ length b.words
  less-2 = omega (arith, room, end-is)

  new-start-2 : start_after new b.clauses (suc b.lemmas) ≡ b.end
  new-start-2 =
      let at : record_at new (b.clauses + suc b.lemmas) ≡ record_at b.words (b.clauses + b.lemmas + 1) = omega (arith, puts.size) in
      ap (slice_index new) at ∙ puts.place

  one-more-lemma : lemmas_in new b.clauses end (b.lemmas + 1) ≡ lemmas_in b.words b.clauses b.end b.lemmas ++ record {
    lits = lits;
    hints
        = hints;
  } ∷ []
  one-more-lemma =
      let next : b.lemmas + 1 ≡ suc b.lemmas = omega arith in
      ap (lemmas_in new b.clauses end) next
      ∙ ap (λ (n : ℕ). lemmas_in new b.clauses n b.lemmas ++ lemma_in new n end ∷ []) new-start-2
      ∙ ap (λ (ls : List Hinted). ls ++ lemma_in new b.end end ∷ []) (lemmas-kept b new laid puts less-2).0
      ∙ ap (λ (l : Hinted). lemmas_in b.words b.clauses b.end b.lemmas ++ l ∷ []) is

  pub stored-lemma : stored_of block_with_lemma ≡ with_lemma (stored_of b) (record { lits = lits; hints = hints })
  stored-lemma =
      let count : b.clauses + (b.lemmas + 1) ≡ b.clauses + b.lemmas + 1 = omega arith in
      ap (λ (n : ℕ). record {
        variables = b.variables;
        capacity = n;
        clauses = clauses_in new b.clauses_end b.clauses;
        lemmas = lemmas_in
            new b.clauses end (b.lemmas + 1);
        lists = lists_in new (2 * b.variables) (b.clauses + (b.lemmas + 1));
      }) puts.size
      ∙ ap (λ (cs : List (List ℕ)). record {
        variables = b.variables;
        capacity = length b.words;
        clauses = cs;
        lemmas = lemmas_in new
            b.clauses end (b.lemmas + 1);
        lists = lists_in new (2 * b.variables) (b.clauses + (b.lemmas + 1));
      })
      (clauses-kept b new laid puts less-2).0
      ∙ ap (λ (ls : List Hinted). record {
        variables = b.variables;
        capacity = length b.words;
        clauses = clauses_in b.words b.clauses_end
            b.clauses;
        lemmas = ls;
        lists = lists_in new (2 * b.variables) (b.clauses + (b.lemmas + 1));
      }) one-more-lemma
      ∙ ap (λ (ws : List (List Watch)). record {
        variables = b.variables;
        capacity = length b.words;
        clauses = clauses_in b.words
            b.clauses_end b.clauses;
        lemmas = lemmas_in b.words b.clauses b.end b.lemmas ++ record { lits = lits; hints = hints } ∷ [];
        lists = ws;
      })
      (ap (lists_in new (2 * b.variables)) count ∙ lists-as-before b new laid puts less-2)

  pub used-lemma : used_of (with_lemma (stored_of b) (record { lits = lits; hints = hints })) ≡ used_of (stored_of b) + lemma_cost (record { lits = lits; hints = hints })
  used-lemma =
      let sum = sum_by-append lemma_cost (lemmas_in b.words b.clauses b.end b.lemmas) (record { lits = lits; hints = hints } ∷ []) in
      omega (arith, sum)

  pub laid-lemma : IsLaidOut block_with_lemma
  laid-lemma = record {
    small = omega (arith, puts.size, laid.small);
    clauses = (clauses-kept b new laid puts less-2).1;
    lemmas =
        let next : b.lemmas + 1 ≡ suc b.lemmas = omega arith in
        subst (AreParts (start_after new b.clauses) (FitsLemma new) b.clauses_end end) (sym next)
        (subst (λ (n : ℕ). FitsLemma new n end × AreParts (start_after new b.clauses) (FitsLemma new) b.clauses_end n b.lemmas)
        (sym new-start-2)
        (omega (arith, count, end-is), (lemmas-kept b new laid puts less-2).1));
    used =
        let cost = used-lemma in
        let sum : end + 3 * (b.clauses + (b.lemmas + 1)) ≡ used_of (with_lemma (stored_of b)
        (record { lits = lits; hints = hints })) = omega (arith, end-is, laid.used, cost) in
        sum ∙ sym (ap used_of stored-lemma);
    room = omega (arith, room, puts.size);
    lists =
        let count : b.clauses + b.lemmas + 1 ≡ b.clauses + (b.lemmas + 1) = omega arith in
        subst (λ (n : ℕ). AreLists new (2 * b.variables) n (list_at new n)) count (lists-kept b new laid puts less-2);
  }
