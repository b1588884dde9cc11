-- What a region keeps where a watch is put into a list or taken out of one: one or two links change, and one list.
use Rattle.std.proofs.Common.{◌≡◌, ℕ, ◌+◌, ◌-◌, ◌*◌, ◌<◌, ◌≤◌, ◌≢◌, List, [], ◌∷◌, ◌++◌, length, set, refl, sym, ap, subst, ◌∙◌, arith, inl, inr, slice_index}
use Rattle.std.specs.List.{between}
use Rattle.std.proofs.lemmas.List.{length-set, get_or-set_same, get_or-set_other}
use Rattle.pv_region.specs.declared.watch.Watch.{Watch}
use Rattle.pv_region.specs.Stored.{Hinted, used_of, with_list}
use Rattle.pv_region.specs.Links.{code_of, record_at, link_at, IsSlot, Chain, In, EachOnce, AreLists}
use Rattle.pv_region.specs.Layout.{AreParts, start_after, lemma_in, FitsLemma, clauses_in, lemmas_in, list_at, lists_in, Block, stored_of, IsLaidOut}
use Rattle.pv_region.specs.Writes.{linked, unlinked}
use Rattle.pv_region.proofs.Parts.{between-same, start-below, parts-same}
use Rattle.pv_region.proofs.Chains.{watch-code, link-one, in-right, in-more, once-less, once-front, once-rest, chain-slot, chain-behind, chain-kept, lists-changed, list-mine, list-other, lists-set}
use Rattle.pv_region.proofs.Laid.{in_order, lemma_order}

abbrev pub block_with : Block → List ℕ → Block
block_with b new = record {
  variables = b.variables;
  clauses = b.clauses;
  lemmas = b.lemmas;
  clauses_end = b.clauses_end;
  end = b.end;
  words = new;
}

-- ---- clauses and lemmas stay where links alone were written

module _ (b : Block) (new : List ℕ) (laid : IsLaidOut b) (size : length new ≡ length b.words) (text : (i : ℕ) → 2 * b.variables ≤ i
    → i < b.end → slice_index new i ≡ slice_index b.words i) (starts : (id : ℕ) → 0 < id → id ≤ b.clauses + b.lemmas
    → slice_index new (record_at b.words id) ≡ slice_index b.words (record_at b.words id)) where
  low-split : 2 * b.variables ≤ b.clauses_end
  low-split = start-below (start_after b.words 0) (λ start end. start ≤ end) in_order (2 * b.variables) b.clauses_end b.clauses laid.clauses

  split-end : b.clauses_end ≤ b.end
  split-end = start-below (start_after b.words b.clauses) (FitsLemma b.words) (lemma_order b.words) b.clauses_end b.end b.lemmas laid.lemmas

  start-stays : (first k : ℕ) → 0 < k → first + k ≤ b.clauses + b.lemmas → start_after new first k ≡ start_after b.words first k
  start-stays first k some le =
      let at : record_at new (first + k) ≡ record_at b.words (first + k) = omega (arith, size) in
      ap (slice_index new) at ∙ starts (first + k) (omega arith) le

  part-stays : (x y : ℕ) → 2 * b.variables ≤ x → y ≤ b.end → between x y new ≡ between x y b.words
  part-stays x y low le = between-same b.words new size x y (omega (arith, laid.room, le)) (λ i above high. text i (omega
      (arith, low, above)) (omega (arith, high, le)))

  clauses-stay : (clauses_in new b.clauses_end b.clauses ≡ clauses_in b.words b.clauses_end b.clauses) × AreParts (start_after new 0)
      (λ start end. start ≤ end) (2 * b.variables) b.clauses_end b.clauses
  clauses-stay =
      parts-same (start_after b.words 0) (start_after new 0) (λ x y. between x y b.words) (λ x y. between x y new)
      (λ start end. start ≤ end) (λ start end. start ≤ end) in_order (2 * b.variables) b.clauses_end b.clauses
      (λ j some le. start-stays 0 j some (omega (arith, le)))
      (λ x y low high fits. (part-stays x y low (omega (arith, high, split-end)), fits))
      laid.clauses

  lemma-stays : (x y : ℕ) → b.clauses_end ≤ x → y ≤ b.end → FitsLemma b.words x y
      → (lemma_in new x y ≡ lemma_in b.words x y) × FitsLemma new x y
  lemma-stays x y low le fits =
      let count : slice_index new x ≡ slice_index b.words x = text x (omega (arith, low, low-split)) (omega (arith, fits, le)) in (
        ap (λ (n : ℕ). record { lits = between (x + 1) (x + 1 + n) new; hints = between (x + 1 + n) y new }) count
            ∙ ap (λ (ls : List ℕ). record { lits = ls; hints = between (x + 1 + slice_index b.words x) y new }) (part-stays (x + 1)
            (x + 1 + slice_index b.words x) (omega (arith, low, low-split)) (omega (arith, fits, le)))
            ∙ ap (λ (hs : List ℕ). record { lits = between (x + 1) (x + 1 + slice_index b.words x) b.words; hints = hs }) (part-stays
            (x + 1 + slice_index b.words x) y (omega (arith, low, low-split)) le),
        omega (arith, count, fits),
      )

  lemmas-stay : (lemmas_in new b.clauses b.end b.lemmas ≡ lemmas_in b.words b.clauses b.end b.lemmas) × AreParts
      (start_after new b.clauses) (FitsLemma new) b.clauses_end b.end b.lemmas
  lemmas-stay =
      parts-same (start_after b.words b.clauses) (start_after new b.clauses) (lemma_in b.words) (lemma_in new) (FitsLemma b.words)
      (FitsLemma new) (lemma_order b.words) b.clauses_end b.end b.lemmas
      (λ j some le. start-stays b.clauses j some (omega (arith, le)))
      (λ x y low high fits. lemma-stays x y low high fits)
      laid.lemmas

  module _ (head : ℕ) (mine : List Watch) (lists : AreLists new (2 * b.variables) (b.clauses + b.lemmas) (list_at new
      (b.clauses + b.lemmas))) (is : lists_in new (2 * b.variables) (b.clauses + b.lemmas) ≡ set (lists_in b.words (2 * b.variables)
      (b.clauses + b.lemmas)) head mine) where
    pub stored-with : (lit : ℕ) → lit - 2 ≡ head → stored_of (block_with b new) ≡ with_list (stored_of b) lit mine
    stored-with lit at =
        ap (λ (n : ℕ). record {
          variables = b.variables;
          capacity = n;
          clauses = clauses_in new b.clauses_end b.clauses;
          lemmas =
              lemmas_in new b.clauses b.end b.lemmas;
          lists = lists_in new (2 * b.variables) (b.clauses + b.lemmas);
        }) size
        ∙ ap (λ (cs : List (List ℕ)). record {
          variables = b.variables;
          capacity = length b.words;
          clauses = cs;
          lemmas = lemmas_in new
              b.clauses b.end b.lemmas;
          lists = lists_in new (2 * b.variables) (b.clauses + b.lemmas);
        }) clauses-stay.0
        ∙ ap (λ (ls : List Hinted). record {
          variables = b.variables;
          capacity = length b.words;
          clauses = clauses_in b.words
              b.clauses_end b.clauses;
          lemmas = ls;
          lists = lists_in new (2 * b.variables) (b.clauses + b.lemmas);
        }) lemmas-stay.0
        ∙ ap (λ (ws : List (List Watch)). record {
          variables = b.variables;
          capacity = length b.words;
          clauses = clauses_in b.words
              b.clauses_end b.clauses;
          lemmas = lemmas_in b.words b.clauses b.end b.lemmas;
          lists = ws;
        })
        (is ∙ ap (λ (i : ℕ). set (lists_in b.words (2 * b.variables) (b.clauses + b.lemmas)) i mine) (sym at))

    pub laid-with : IsLaidOut (block_with b new)
    laid-with = record {
      small = omega (arith, size, laid.small);
      clauses = clauses-stay.1;
      lemmas = lemmas-stay.1;
      used =
          laid.used
          ∙ ap (λ (cs : List (List ℕ)). used_of (record {
            variables = b.variables;
            capacity = length b.words;
            clauses = cs;
            lemmas =
                lemmas_in b.words b.clauses b.end b.lemmas;
            lists = [];
          })) (sym clauses-stay.0)
          ∙ ap (λ (ls : List Hinted). used_of (record {
            variables = b.variables;
            capacity = length b.words;
            clauses = clauses_in new
                b.clauses_end b.clauses;
            lemmas = ls;
            lists = [];
          })) (sym lemmas-stay.0);
      room = omega (arith, laid.room, size);
      lists = lists;
    }

-- ---- the lists

-- the links lie behind the first links and the text
pub record LinksBehind (b : Block) : Type 0 where
  pub heads : 2 * b.variables ≤ b.end
  pub room : b.end + 3 * (b.clauses + b.lemmas) ≤ length b.words

pub links-behind : (b : Block) → IsLaidOut b → LinksBehind b
links-behind b laid =
    let low = start-below (start_after b.words 0) (λ start end. start ≤ end) in_order
    (2 * b.variables) b.clauses_end b.clauses laid.clauses in
    let more = start-below (start_after b.words b.clauses) (FitsLemma b.words) (lemma_order b.words) b.clauses_end b.end b.lemmas
    laid.lemmas in
    record { heads = omega (arith, low, more); room = laid.room }

module _ (b : Block) (laid : IsLaidOut b) (head : ℕ) (inside : head < 2 * b.variables) where
  abbrev old : ℕ → List Watch
  old = list_at b.words (b.clauses + b.lemmas)

  -- a list other than the head's, where the words that were written are the head's first link and the links of one watch
  module _ (new : List ℕ) (size : length new ≡ length b.words) (w : Watch) (slot : IsSlot (b.clauses + b.lemmas) w) (written : (i : ℕ)
      → i ≢ head → i ≢ link_at b.words w → slice_index new i ≡ slice_index b.words i) where
    behind : LinksBehind b
    behind = links-behind b laid

    link-other : (x : Watch) → IsSlot (b.clauses + b.lemmas) x → (w ≡ x → ⊥) → slice_index new (link_at new x) ≡ slice_index b.words
        (link_at b.words x)
    link-other x xs ne =
        let at : link_at new x ≡ link_at b.words x = omega (arith, size) in
        ap (slice_index new) at ∙ written (link_at b.words x) (omega (arith, behind.heads, behind.room, xs.to_last, inside)) (λ e. ne
        (link-one b.words (b.clauses + b.lemmas) w x (omega (arith, behind.room)) slot xs (sym e)))

    pub chain-other : (code : ℕ) (ws : List Watch) → Chain b.words (b.clauses + b.lemmas) code ws → (In w ws → ⊥)
        → Chain new (b.clauses + b.lemmas) code ws
    chain-other code ws c none =
        chain-kept b.words new (b.clauses + b.lemmas) (b.clauses + b.lemmas) (omega arith) code ws
        (λ x there. link-other x (chain-slot b.words (b.clauses + b.lemmas) code ws x c there) (λ e. none (subst (λ
        (v : Watch). In v ws) (sym e) there))) c

    pub others-stay : ((i : ℕ) → i < 2 * b.variables → i ≢ head → In w (old i) → ⊥) → (i : ℕ) → i < 2 * b.variables → i ≢ head
        → Chain new (b.clauses + b.lemmas) (slice_index new i) (old i)
    others-stay none i lt ne =
        let first : slice_index new i ≡ slice_index b.words i = written i ne (omega (arith, behind.heads, behind.room, slot.to_last, lt)) in
        subst (λ (n : ℕ). Chain new (b.clauses + b.lemmas) n (old i)) (sym first) (chain-other (slice_index b.words i) (old i)
        (laid.lists.chain i lt) (none i lt ne))

    pub text-stays : (i : ℕ) → 2 * b.variables ≤ i → i < b.end → slice_index new i ≡ slice_index b.words i
    text-stays i low high = written i (omega (arith, low, inside)) (omega (arith, high, behind.room, slot.to_last))

    pub starts-stay : (id : ℕ) → 0 < id → id ≤ b.clauses + b.lemmas → slice_index new (record_at b.words id) ≡ slice_index b.words
        (record_at b.words id)
    starts-stay id some le =
        written (record_at b.words id) (omega (arith, behind.heads, behind.room, le, inside)) (omega
        (arith, behind.room, le, some, slot.to_last, slot.from_one, slot.slot))

    -- all is as it was but the head's list
    module _ (mine : List Watch) (none : (i : ℕ) → i < 2 * b.variables → i ≢ head → In w (old i)
        → ⊥) (here : Chain new (b.clauses + b.lemmas) (slice_index new head) mine) (once : EachOnce mine) (alone : (x : Watch) (i : ℕ)
        → i < 2 * b.variables → i ≢ head → In x mine → In x (old i) → ⊥) where
      now-lists : AreLists new (2 * b.variables) (b.clauses + b.lemmas) (list_at new (b.clauses + b.lemmas))
      now-lists = lists-changed b.words new (2 * b.variables) (b.clauses + b.lemmas) old laid.lists head mine
          (others-stay none) here once alone

      now-set : lists_in new (2 * b.variables) (b.clauses + b.lemmas) ≡ set (lists_in b.words (2 * b.variables)
          (b.clauses + b.lemmas)) head mine
      now-set =
          lists-set (list_at b.words (b.clauses + b.lemmas)) (list_at new (b.clauses + b.lemmas)) (2 * b.variables) head mine inside
          (list-mine b.words new (2 * b.variables) (b.clauses + b.lemmas) old laid.lists head mine
          (others-stay none) here once alone inside)
          (list-other b.words new (2 * b.variables) (b.clauses + b.lemmas) old laid.lists head mine (others-stay none) here once alone)

      pub relinked : (lit : ℕ) → lit - 2 ≡ head → (stored_of (block_with b new) ≡ with_list (stored_of b) lit mine) × IsLaidOut
          (block_with b new)
      relinked lit at = (
        stored-with b new laid size text-stays starts-stay head mine now-lists now-set lit at,
        laid-with b new laid size text-stays starts-stay head mine now-lists now-set,
      )

  -- ---- into the list

  module _ (w : Watch) (slot : IsSlot (b.clauses + b.lemmas) w) (free : (i : ℕ) → i < 2 * b.variables → In w (old i) → ⊥) where
    facts : LinksBehind b
    facts = links-behind b laid

    linked-size : length (linked b.words head w) ≡ length b.words
    linked-size =
        length-set (set b.words (link_at b.words w) (slice_index b.words head)) head (code_of w)
        ∙ length-set b.words (link_at b.words w) (slice_index b.words head)

    linked-other : (i : ℕ) → i ≢ head → i ≢ link_at b.words w → slice_index (linked b.words head w) i ≡ slice_index b.words i
    linked-other i no_head no_link =
        get_or-set_other (set b.words (link_at b.words w) (slice_index b.words head)) head i (code_of w) 0 no_head
        ∙ get_or-set_other b.words (link_at b.words w) i (slice_index b.words head) 0 no_link

    linked-head : slice_index (linked b.words head w) head ≡ code_of w
    linked-head =
        let size = length-set b.words (link_at b.words w) (slice_index b.words head) in
        get_or-set_same (set b.words (link_at b.words w) (slice_index b.words head)) head (code_of w) 0 (omega
        (arith, size, facts.heads, facts.room, inside))

    linked-link : slice_index (linked b.words head w) (link_at (linked b.words head w) w) ≡ slice_index b.words head
    linked-link =
        let at : link_at (linked b.words head w) w ≡ link_at b.words w = omega (arith, linked-size) in
        ap (slice_index (linked b.words head w)) at
        ∙ get_or-set_other (set b.words (link_at b.words w) (slice_index b.words head)) head (link_at b.words w) (code_of w) 0 (omega
        (arith, facts.heads, facts.room, slot.to_last, inside))
        ∙ get_or-set_same b.words (link_at b.words w) (slice_index b.words head) 0 (omega
        (arith, facts.room, slot.to_last, slot.from_one, slot.slot))

    linked-here : Chain (linked b.words head w) (b.clauses + b.lemmas) (slice_index (linked b.words head w) head) (w ∷ old head)
    linked-here =
        let rest = chain-other (linked b.words head w) linked-size w slot linked-other (slice_index b.words head) (old head)
        (laid.lists.chain head inside) (free head inside) in
        (linked-head, slot, subst (λ (n : ℕ). Chain (linked b.words head w) (b.clauses + b.lemmas) n (old head)) (sym linked-link) rest)

    linked-alone : (x : Watch) (i : ℕ) → i < 2 * b.variables → i ≢ head → In x (w ∷ old head) → In x (old i) → ⊥
    linked-alone x i lt ne (inl e) there = free i lt (subst (λ (v : Watch). In v (old i)) e there)
    linked-alone x i lt ne (inr mine) there = ne (laid.lists.apart i head x lt inside there mine)

    -- a watch that is in no list, in front of one
    pub watched : (lit : ℕ) → lit - 2 ≡ head → (stored_of (block_with b (linked b.words head w)) ≡ with_list (stored_of b) lit
        (w ∷ old head)) × IsLaidOut (block_with b (linked b.words head w))
    watched =
        relinked (linked b.words head w) linked-size w slot linked-other (w ∷ old head) (λ i lt ne. free i lt) linked-here
        (free head inside, laid.lists.once head inside) linked-alone

  -- ---- out of the list

  chain-of : (ws : List Watch) → old head ≡ ws → Chain b.words (b.clauses + b.lemmas) (slice_index b.words head) ws
  chain-of ws is = subst (Chain b.words (b.clauses + b.lemmas) (slice_index b.words head)) is (laid.lists.chain head inside)

  once-of : (ws : List Watch) → old head ≡ ws → EachOnce ws
  once-of ws is = subst EachOnce is (laid.lists.once head inside)

  alone-of : (ws : List Watch) → old head ≡ ws → (x : Watch) (i : ℕ) → i < 2 * b.variables → i ≢ head → In x ws → In x (old i) → ⊥
  alone-of ws is x i lt ne mine there = ne (laid.lists.apart i head x lt inside there (subst (In x) (sym is) mine))

  module _ (gone : Watch) (left : List Watch) (is : old head ≡ gone ∷ left) where
    pub first-slot : IsSlot (b.clauses + b.lemmas) gone
    first-slot = (chain-of (gone ∷ left) is).1

    pub first-code : slice_index b.words head ≡ code_of gone
    first-code = (chain-of (gone ∷ left) is).0

    unlinked-first : unlinked b.words head ≡ set b.words head (slice_index b.words (link_at b.words gone))
    unlinked-first =
        ap (λ (x : Watch). set b.words head (slice_index b.words (link_at b.words x))) (watch-code
        (slice_index b.words head) gone first-slot.slot first-code)

    abbrev less : List ℕ
    less = set b.words head (slice_index b.words (link_at b.words gone))

    less-size : length less ≡ length b.words
    less-size = length-set b.words head (slice_index b.words (link_at b.words gone))

    less-other : (i : ℕ) → i ≢ head → i ≢ link_at b.words gone → slice_index less i ≡ slice_index b.words i
    less-other i no_head no_link = get_or-set_other b.words head i (slice_index b.words (link_at b.words gone)) 0 no_head

    less-head : slice_index less head ≡ slice_index b.words (link_at b.words gone)
    less-head =
        let f = links-behind b laid in
        get_or-set_same b.words head (slice_index b.words (link_at b.words gone)) 0 (omega (arith, f.heads, f.room, inside))

    less-here : Chain less (b.clauses + b.lemmas) (slice_index less head) left
    less-here =
        let rest = (chain-of (gone ∷ left) is).2 in
        subst (λ (n : ℕ). Chain less (b.clauses + b.lemmas) n left) (sym less-head)
        (chain-other less less-size gone first-slot less-other (slice_index b.words (link_at b.words gone)) left rest (once-of
        (gone ∷ left) is).0)

    -- the first watch of a list, out of it
    pub unwatched-first : (lit : ℕ) → lit - 2 ≡ head → (stored_of (block_with b (unlinked b.words head)) ≡ with_list
        (stored_of b) lit left) × IsLaidOut (block_with b (unlinked b.words head))
    unwatched-first lit at =
        subst (λ (ws : List ℕ). (stored_of (block_with b ws) ≡ with_list (stored_of b) lit left) × IsLaidOut (block_with b ws))
        (sym unlinked-first)
        (relinked less less-size gone first-slot less-other left (λ i lt ne. alone-of (gone ∷ left) is gone i lt ne
        (inl refl)) less-here (once-of (gone ∷ left) is).1 (λ x i lt ne mine. alone-of (gone ∷ left) is x i lt ne (inr mine)) lit at)

  module _ (w gone : Watch) (front rest : List Watch) (is : old head ≡ front ++ w ∷ gone ∷ rest) where
    pub before-part : IsSlot (b.clauses + b.lemmas) w × Chain b.words (b.clauses + b.lemmas) (slice_index b.words (link_at b.words w))
        (gone ∷ rest)
    before-part =
        chain-behind b.words (b.clauses + b.lemmas) (slice_index b.words head) front w (gone ∷ rest) (chain-of
        (front ++ w ∷ gone ∷ rest) is)

    pub next-code : slice_index b.words (link_at b.words w) ≡ code_of gone
    next-code = before-part.1.0

    unlinked-next : unlinked b.words (link_at b.words w) ≡ set b.words (link_at b.words w) (slice_index b.words (link_at b.words gone))
    unlinked-next =
        ap (λ (x : Watch). set b.words (link_at b.words w) (slice_index b.words (link_at b.words x))) (watch-code (slice_index b.words
        (link_at b.words w)) gone before-part.1.1.slot next-code)

    abbrev cut : List ℕ
    cut = set b.words (link_at b.words w) (slice_index b.words (link_at b.words gone))

    cut-size : length cut ≡ length b.words
    cut-size = length-set b.words (link_at b.words w) (slice_index b.words (link_at b.words gone))

    cut-other : (i : ℕ) → i ≢ head → i ≢ link_at b.words w → slice_index cut i ≡ slice_index b.words i
    cut-other i no_head no_link = get_or-set_other b.words (link_at b.words w) i (slice_index b.words (link_at b.words gone)) 0 no_link

    cut-link : slice_index cut (link_at cut w) ≡ slice_index b.words (link_at b.words gone)
    cut-link =
        let f = links-behind b laid in
        let at : link_at cut w ≡ link_at b.words w = omega (arith, cut-size) in
        ap (slice_index cut) at
        ∙ get_or-set_same b.words (link_at b.words w) (slice_index b.words (link_at b.words gone)) 0 (omega
        (arith, f.room, before-part.0.to_last, before-part.0.from_one, before-part.0.slot))

    cut-rest : Chain cut (b.clauses + b.lemmas) (slice_index cut (link_at cut w)) rest
    cut-rest =
        subst (λ (n : ℕ). Chain cut (b.clauses + b.lemmas) n rest) (sym cut-link)
        (chain-other cut cut-size w before-part.0 cut-other (slice_index b.words (link_at b.words gone)) rest before-part.1.2
        (λ i. once-rest w front (gone ∷ rest) (once-of (front ++ w ∷ gone ∷ rest) is) (inr i)))

    chain-cut : (code : ℕ) (done : List Watch) → (In w done → ⊥) → Chain b.words (b.clauses + b.lemmas) code (done ++ w ∷ gone ∷ rest)
        → Chain cut (b.clauses + b.lemmas) code (done ++ w ∷ rest)
    chain-cut code [] none (e, slot, more) = (e, slot, cut-rest)
    chain-cut code (x ∷ done) none (e, slot, more) = (
      e,
      slot,
      subst (λ (n : ℕ). Chain cut (b.clauses + b.lemmas) n (done ++ w ∷ rest))
          (sym (link-other cut cut-size w before-part.0 cut-other x slot (λ same. none (inl same))))
          (chain-cut (slice_index b.words (link_at b.words x)) done (λ i. none (inr i)) more),
    )

    cut-here : Chain cut (b.clauses + b.lemmas) (slice_index cut head) (front ++ w ∷ rest)
    cut-here =
        let f = links-behind b laid in
        let first : slice_index cut head ≡ slice_index b.words head = get_or-set_other b.words (link_at b.words w) head
        (slice_index b.words (link_at b.words gone)) 0 (omega (arith, f.heads, f.room, before-part.0.to_last, inside)) in
        subst (λ (n : ℕ). Chain cut (b.clauses + b.lemmas) n (front ++ w ∷ rest)) (sym first)
        (chain-cut (slice_index b.words head) front (once-front w front (gone ∷ rest) (once-of (front ++ w ∷ gone ∷ rest) is)) (chain-of
        (front ++ w ∷ gone ∷ rest) is))

    -- the watch that follows another, out of the list
    pub unwatched-next : (lit : ℕ) → lit - 2 ≡ head → (stored_of (block_with b (unlinked b.words (link_at b.words w))) ≡ with_list
        (stored_of b) lit (front ++ w ∷ rest)) × IsLaidOut (block_with b (unlinked b.words (link_at b.words w)))
    unwatched-next lit at =
        subst (λ (ws : List ℕ). (stored_of (block_with b ws) ≡ with_list (stored_of b) lit (front ++ w ∷ rest)) × IsLaidOut
        (block_with b ws)) (sym unlinked-next)
        (relinked cut cut-size w before-part.0 cut-other (front ++ w ∷ rest)
        (λ i lt ne. alone-of (front ++ w ∷ gone ∷ rest) is w i lt ne (in-right w front (w ∷ gone ∷ rest) (inl refl)))
        cut-here
        (once-less w gone front rest (once-of (front ++ w ∷ gone ∷ rest) is))
        (λ x i lt ne mine. alone-of (front ++ w ∷ gone ∷ rest) is x i lt ne (in-more w x gone front rest mine)) lit at)
