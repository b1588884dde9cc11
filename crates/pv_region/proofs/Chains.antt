-- Lists that links make. No watch stands twice, so no list is longer than there are codes, and walking finds it whole; a link that is
-- written changes no list in which its watch doesn't stand.
use Rattle.std.proofs.Common.{◌≡◌, ℕ, zero, suc, ◌+◌, ◌*◌, ◌/◌, ◌%◌, ◌<◌, ◌≤◌, ◌≢◌, Bool, true, false, cond, eqb, List, [], ◌∷◌, ◌++◌, length, get_or, set, map, refl, sym, ap, subst, ◌∙◌, arith, inl, inr, Some, slice_get, slice_index, slice_index_or, Contains}
use Rattle.std.specs.List.{range_with_len, list_any, IsDistinct, AllByRecursion}
use Rattle.std.proofs.lemmas.Bool.{eqb-true, eq-eqb, ne_eqb, cases_eq, cases_Bool, both_ways, or_cases}
use Rattle.std.proofs.lemmas.List.{length-set, length-map, get_or-set_same, get_or-set_other}
use Rattle.std.proofs.lemmas.List.FromFn.{length-map-range_with_len, get_or-map-range_with_len, fill_by_all}
use Rattle.std.proofs.lemmas.Map.Steps.{length-le_from_distinct_below}
use Rattle.pv_region.specs.declared.watch.Watch.{Watch}
use Rattle.pv_region.specs.Links.{code_of, watch_of, watch_at, link_at, walk, IsSlot, Chain, In, EachOnce, AreLists}
use Rattle.pv_region.specs.Layout.{list_at}

-- ---- codes

pub watch-code : (n : ℕ) (w : Watch) → w.slot < 2 → n ≡ code_of w → watch_of n ≡ w
watch-code n w slot e =
    let id : n / 2 ≡ w.id = omega (arith, e) in
    let which : n % 2 ≡ w.slot = omega (arith, e) in
    ap (λ (i : ℕ). record { id = i; slot = n % 2 }) id ∙ ap (λ (s : ℕ). record { id = w.id; slot = s }) which

pub code-one : (count : ℕ) (v w : Watch) → IsSlot count v → IsSlot count w → code_of v ≡ code_of w → v ≡ w
code-one count v w a b e = sym (watch-code (code_of v) v a.slot refl) ∙ watch-code (code_of v) w b.slot e

pub link-one : (words : List ℕ) (count : ℕ) (v w : Watch) → 3 * count ≤ length words → IsSlot count v → IsSlot count w
    → link_at words v ≡ link_at words w → v ≡ w
link-one words count v w room a b e =
    code-one count v w a b (omega (arith, a.to_last, a.from_one, a.slot, b.to_last, b.from_one, b.slot, e))

-- ---- lists

pub in-left : (w : Watch) (xs ys : List Watch) → In w xs → In w (xs ++ ys)
in-left w [] ys i = absurd i
in-left w (x ∷ xs) ys (inl e) = inl e
in-left w (x ∷ xs) ys (inr i) = inr (in-left w xs ys i)

pub in-right : (w : Watch) (xs ys : List Watch) → In w ys → In w (xs ++ ys)
in-right w [] ys i = i
in-right w (x ∷ xs) ys i = inr (in-right w xs ys i)

-- one more in the middle
pub in-more : (w v gone : Watch) (front rest : List Watch) → In v (front ++ w ∷ rest) → In v (front ++ w ∷ gone ∷ rest)
in-more w v gone [] rest (inl e) = inl e
in-more w v gone [] rest (inr i) = inr (inr i)
in-more w v gone (x ∷ front) rest (inl e) = inl e
in-more w v gone (x ∷ front) rest (inr i) = inr (in-more w v gone front rest i)

pub once-less : (w gone : Watch) (front rest : List Watch) → EachOnce (front ++ w ∷ gone ∷ rest) → EachOnce (front ++ w ∷ rest)
once-less w gone [] rest (none, (no_gone, once)) = (λ i. none (inr i), once)
once-less w gone (x ∷ front) rest (none, once) = (λ i. none (in-more w x gone front rest i), once-less w gone front rest once)

-- the entry that is taken out isn't among the others
pub once-gone : (w gone : Watch) (front rest : List Watch) → EachOnce (front ++ w ∷ gone ∷ rest) → In gone (front ++ w ∷ rest) → ⊥
once-gone w gone [] rest (none, (no_gone, once)) (inl e) = none (inl (sym e))
once-gone w gone [] rest (none, (no_gone, once)) (inr i) = no_gone i
once-gone w gone (x ∷ front) rest (none, once) (inl e) = none (in-right x front (w ∷ gone ∷ rest) (inr (inl (sym e))))
once-gone w gone (x ∷ front) rest (none, once) (inr i) = once-gone w gone front rest once i

pub once-front : (w : Watch) (front rest : List Watch) → EachOnce (front ++ w ∷ rest) → In w front → ⊥
once-front w [] rest once i = i
once-front w (x ∷ front) rest (none, once) (inl e) = none (in-right x front (w ∷ rest) (inl (sym e)))
once-front w (x ∷ front) rest (none, once) (inr i) = once-front w front rest once i

pub once-rest : (w : Watch) (front rest : List Watch) → EachOnce (front ++ w ∷ rest) → In w rest → ⊥
once-rest w [] rest (none, once) i = none i
once-rest w (x ∷ front) rest (none, once) i = once-rest w front rest once i

pub contains-in : (w : Watch) (ws : List Watch) (k : ℕ) → k < length ws → slice_index_or ws k w ≡ w → In w ws
contains-in w [] k lt e = absurd (omega arith)
contains-in w (x ∷ ws) zero lt e = inl (sym e)
contains-in w (x ∷ ws) (suc k) lt e = inr (contains-in w ws k (omega arith) e)

pub in-contains : (w : Watch) (ws : List Watch) → In w ws → Contains ws w
in-contains w [] i = absurd i
in-contains w (x ∷ ws) (inl e) = (0, omega arith, sym e)
in-contains w (x ∷ ws) (inr i) = (let (k, lt, e) = in-contains w ws i in (suc k, omega (arith, lt), e))

-- ---- chains

module _ (words : List ℕ) (count : ℕ) where
  pub chain-slot : (code : ℕ) (ws : List Watch) (w : Watch) → Chain words count code ws → In w ws → IsSlot count w
  chain-slot code [] w c i = absurd i
  chain-slot code (x ∷ ws) w (e, slot, rest) (inl is) = subst (IsSlot count) (sym is) slot
  chain-slot code (x ∷ ws) w (e, slot, rest) (inr i) = chain-slot (slice_index words (link_at words x)) ws w rest i

  pub chain-first : (code : ℕ) (ws : List Watch) → Chain words count code ws → watch_at code ≡ slice_get ws 0
  chain-first code [] c = ap watch_at c
  chain-first zero (x ∷ ws) (e, slot, rest) = absurd (omega (arith, e, slot.from_one))
  chain-first (suc n) (x ∷ ws) (e, slot, rest) = ap (λ (w : Watch). Some w) (watch-code (suc n) x slot.slot e)

  -- the rest of a list, behind a watch in it
  pub chain-behind : (code : ℕ) (front : List Watch) (w : Watch) (rest : List Watch) → Chain words count code (front ++ w ∷ rest)
      → IsSlot count w × Chain words count (slice_index words (link_at words w)) rest
  chain-behind code [] w rest (e, slot, more) = (slot, more)
  chain-behind code (x ∷ front) w rest (e, slot, more) = chain-behind (slice_index words (link_at words x)) front w rest more

  pub walk-chain : (most code : ℕ) (ws : List Watch) → length ws ≤ most → Chain words count code ws → walk words most code ≡ ws
  walk-chain zero code [] le c = refl
  walk-chain (suc most) code [] le c = ap (walk words (suc most)) c
  walk-chain zero code (w ∷ ws) le c = absurd (omega arith)
  walk-chain (suc most) zero (w ∷ ws) le (e, slot, rest) = absurd (omega (arith, e, slot.from_one))
  walk-chain (suc most) (suc n) (w ∷ ws) le (e, slot, rest) =
      ap (λ (v : Watch). v ∷ walk words most (slice_index words (link_at words v))) (watch-code (suc n) w slot.slot e)
      ∙ ap (λ (vs : List Watch). w ∷ vs) (walk-chain most (slice_index words (link_at words w)) ws (omega arith) rest)

  other-codes : (w : Watch) (ws : List Watch) → IsSlot count w → ((v : Watch) → In v ws → IsSlot count v) → (In w ws → ⊥)
      → AllByRecursion (λ y. eqb (code_of w) y ≡ false) (map code_of ws)
  other-codes w [] slot slots none = tt
  other-codes w (x ∷ ws) slot slots none = (
    elim (cases_Bool (eqb (code_of w) (code_of x))) [
      | inl e ↦ absurd (none (inl (code-one count w x slot (slots x (inl refl)) (eqb-true (code_of w) (code_of x) e))))
      | inr differ ↦ differ
    ],
    other-codes w ws slot (λ v i. slots v (inr i)) (λ i. none (inr i)),
  )

  distinct-codes : (ws : List Watch) → ((v : Watch) → In v ws → IsSlot count v) → EachOnce ws → IsDistinct eqb (map code_of ws)
  unfolding IsDistinct
  distinct-codes [] slots once = tt
  distinct-codes (x ∷ ws) slots (none, once) =
      (other-codes x ws (slots x (inl refl)) (λ v i. slots v (inr i)) none, distinct-codes ws (λ v i. slots v (inr i)) once)

  below-codes : (ws : List Watch) → ((v : Watch) → In v ws → IsSlot count v) → (q : ℕ) → list_any (eqb q) (map code_of ws) ≡ true
      → q < 2 * count + 2
  below-codes [] slots q is = absurd (both_ways false refl is)
  below-codes (x ∷ ws) slots q is =
      elim (or_cases (eqb q (code_of x)) (list_any (eqb q) (map code_of ws)) is) [
        | inl here ↦ (let e = eqb-true q (code_of x) here in let slot = slots x (inl refl) in omega (arith, e, slot.to_last, slot.slot))
        | inr more ↦ below-codes ws (λ v i. slots v (inr i)) q more
      ]

  pub chain-short : (code : ℕ) (ws : List Watch) → Chain words count code ws → EachOnce ws → length ws ≤ 2 * count + 2
  chain-short code ws c once =
      let slots = λ (v : Watch) (i : In v ws). chain-slot code ws v c i in
      let few = length-le_from_distinct_below (map code_of ws) (2 * count + 2) (distinct-codes ws slots once) (below-codes ws slots) in
      omega (arith, few, length-map ws code_of)

-- a list stays where the links in it do
module _ (old new : List ℕ) (before after : ℕ) (grows : before ≤ after) where
  pub chain-kept : (code : ℕ) (ws : List Watch) → ((w : Watch) → In w ws → slice_index new (link_at new w) ≡ slice_index old
      (link_at old w)) → Chain old before code ws → Chain new after code ws
  chain-kept code [] same c = c
  chain-kept code (x ∷ ws) same (e, slot, rest) = (
    e,
    record { from_one = slot.from_one; to_last = omega (arith, slot.to_last); slot = slot.slot },
    subst (λ (n : ℕ). Chain new after n ws) (sym (same x (inl refl))) (chain-kept (slice_index old (link_at old x)) ws (λ w i. same w
        (inr i)) rest),
  )

-- ---- all lists

abbrev pub with_one : (ℕ → List Watch) → ℕ → List Watch → ℕ → List Watch
with_one list head mine i = cond (eqb i head) mine (list i)

module _ (words : List ℕ) (literals count : ℕ) (list : ℕ → List Watch) (a : AreLists words literals count list) where
  -- walking finds the list
  pub list-found : (i : ℕ) → i < literals → list_at words count i ≡ list i
  list-found i lt =
      walk-chain words count (2 * count + 2) (slice_index words i) (list i) (chain-short words count (slice_index words i) (list i)
      (a.chain i lt) (a.once i lt)) (a.chain i lt)

  pub lists-same : (other : ℕ → List Watch) → ((i : ℕ) → i < literals → other i ≡ list i) → AreLists words literals count other
  lists-same other same = record {
    chain = λ i lt. subst (Chain words count (slice_index words i)) (sym (same i lt)) (a.chain i lt);
    once = λ i lt. subst EachOnce (sym (same i lt)) (a.once i lt);
    apart = λ i j w li lj wi wj. a.apart i j w li lj (subst (In w) (same i li) wi) (subst (In w) (same j lj) wj);
  }

with-same : (list : ℕ → List Watch) (head : ℕ) (mine : List Watch) (i : ℕ) → i ≡ head → with_one list head mine i ≡ mine
with-same list head mine i e = ap (λ (b : Bool). cond b mine (list i)) (eq-eqb i head e)

with-other : (list : ℕ → List Watch) (head : ℕ) (mine : List Watch) (i : ℕ) → i ≢ head → with_one list head mine i ≡ list i
with-other list head mine i ne = ap (λ (b : Bool). cond b mine (list i)) (ne_eqb i head ne)

-- one list was changed
module _ (old new : List ℕ) (literals count : ℕ) (list : ℕ → List Watch) (a : AreLists old literals count list) (head : ℕ)
    (mine : List Watch) where
  module _ (others : (i : ℕ) → i < literals → i ≢ head → Chain new count (slice_index new i) (list i)) (here : Chain new count
      (slice_index new head) mine) (once : EachOnce mine) (alone : (w : Watch) (i : ℕ) → i < literals → i ≢ head → In w mine
      → In w (list i) → ⊥) where
    abbrev now : ℕ → List Watch
    now = with_one list head mine

    chain-now : (i : ℕ) → i < literals → Chain new count (slice_index new i) (now i)
    chain-now i lt =
        elim (cases_eq i head) [
          | inl e ↦ subst (Chain new count (slice_index new i)) (sym (with-same list head mine i e)) (subst (λ (h : ℕ). Chain new count
              (slice_index new h) mine) (sym e) here)
          | inr ne ↦ subst (Chain new count (slice_index new i)) (sym (with-other list head mine i ne)) (others i lt ne)
        ]

    once-now : (i : ℕ) → i < literals → EachOnce (now i)
    once-now i lt =
        elim (cases_eq i head) [
          | inl e ↦ subst EachOnce (sym (with-same list head mine i e)) once
          | inr ne ↦ subst EachOnce (sym (with-other list head mine i ne)) (a.once i lt)
        ]

    apart-now : (i j : ℕ) (w : Watch) → i < literals → j < literals → In w (now i) → In w (now j) → i ≡ j
    apart-now i j w li lj wi wj =
        elim (cases_eq i head) [
          | inl e ↦ elim (cases_eq j head) [
            | inl f ↦ e ∙ sym f
            | inr nf ↦ absurd (alone w j lj nf (subst (In w) (with-same list head mine i e) wi) (subst (In w)
                (with-other list head mine j nf) wj))
          ]
          | inr ne ↦ elim (cases_eq j head) [
            | inl f ↦ absurd (alone w i li ne (subst (In w) (with-same list head mine j f) wj) (subst (In w)
                (with-other list head mine i ne) wi))
            | inr nf ↦ a.apart i j w li lj (subst (In w) (with-other list head mine i ne) wi) (subst (In w)
                (with-other list head mine j nf) wj)
          ]
        ]

    lists-now : AreLists new literals count now
    lists-now = record { chain = chain-now; once = once-now; apart = apart-now }

    pub lists-changed : AreLists new literals count (list_at new count)
    lists-changed = lists-same new literals count now lists-now (list_at new count) (list-found new literals count now lists-now)

    pub list-mine : head < literals → list_at new count head ≡ mine
    list-mine lt = list-found new literals count now lists-now head lt ∙ with-same list head mine head refl

    pub list-other : (i : ℕ) → i < literals → i ≢ head → list_at new count i ≡ list i
    list-other i lt ne = list-found new literals count now lists-now i lt ∙ with-other list head mine i ne

-- a list of lists, by their places
pub lists-set : (f g : ℕ → List Watch) (n head : ℕ) (mine : List Watch) → head < n → g head ≡ mine → ((i : ℕ) → i < n → i ≢ head
    → g i ≡ f i) → map g (range_with_len 0 n) ≡ set (map f (range_with_len 0 n)) head mine
lists-set f g n head mine lt here others =
    let size : length (set (map f (range_with_len 0 n)) head mine) ≡ n = length-set (map f (range_with_len 0 n)) head mine
    ∙ length-map-range_with_len f 0 n in
    sym (fill_by_all g (set (map f (range_with_len 0 n)) head mine) n [] size (λ k below.
    elim (cases_eq k head) [
      | inl e ↦ ap (λ (i : ℕ). get_or (set (map f (range_with_len 0 n)) head mine) i []) e
          ∙ get_or-set_same (map f (range_with_len 0 n)) head mine [] (omega (arith, length-map-range_with_len f 0 n)) ∙ sym here
          ∙ ap g (sym e)
      | inr ne ↦ get_or-set_other (map f (range_with_len 0 n)) head k mine [] ne
          ∙ get_or-map-range_with_len f 0 n k k [] below (omega arith) ∙ sym (others k below ne)
    ]))

pub lists-all-same : (f g : ℕ → List Watch) (n : ℕ) → ((i : ℕ) → i < n → g i ≡ f i)
    → map g (range_with_len 0 n) ≡ map f (range_with_len 0 n)
lists-all-same f g n same =
    sym (fill_by_all g (map f (range_with_len 0 n)) n [] (length-map-range_with_len f 0 n)
    (λ k below. get_or-map-range_with_len f 0 n k k [] below (omega arith) ∙ sym (same k below)))

pub list-there : (f : ℕ → List Watch) (n i : ℕ) → i < n → slice_index_or (map f (range_with_len 0 n)) i [] ≡ f i
list-there f n i lt = get_or-map-range_with_len f 0 n i i [] lt (omega arith)
