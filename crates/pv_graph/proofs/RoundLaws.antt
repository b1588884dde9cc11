-- Marks, round by round: what a round marks is what marked nodes lead to.
use Rattle.std.proofs.Common.{◌≡◌, ℕ, zero, suc, ◌+◌, ◌<◌, List, [], ◌∷◌, Bool, true, false, drop, length, get_or, replicate, refl, ap, sym, subst, ◌∙◌, arith, inl, inr}
use Rattle.std.specs.Prelude.{◌⊎◌, nat_lt, if◌then◌else◌, slice_index_or, slice_set}
use Rattle.std.proofs.Math.Seq.{drop-cons}
use Rattle.std.proofs.lemmas.Bool.{true≢false, cases_Bool, ltb-false}
use Rattle.pv_graph.specs.Members.{Has}
use Rattle.pv_graph.specs.declared.targets.Targets.{Targets}
use Rattle.pv_graph.specs.Graphs.{lists_of, next_of}
use Rattle.pv_graph.specs.Rounds.{mark_one, mark_each, step_marks, IsMarked, AreEnds}
use Rattle.pv_graph.proofs.Searching.{nodes_counted}

-- ---- one mark

set_long : (m : List Bool) (a : ℕ) → length (slice_set m a true) ≡ length m
set_long [] a = refl
set_long (b ∷ bs) zero = refl
set_long (b ∷ bs) (suc a) = ap suc (set_long bs a)

set_here : (m : List Bool) (a : ℕ) → a < length m → IsMarked (slice_set m a true) a
set_here [] a lt = absurd (omega (arith, lt))
set_here (b ∷ bs) zero lt = refl
set_here (b ∷ bs) (suc a) lt = set_here bs a (omega (arith, lt))

set_kept : (m : List Bool) (a x : ℕ) → IsMarked m x → IsMarked (slice_set m a true) x
set_kept [] a x is = is
set_kept (b ∷ bs) zero zero is = refl
set_kept (b ∷ bs) zero (suc x) is = is
set_kept (b ∷ bs) (suc a) zero is = is
set_kept (b ∷ bs) (suc a) (suc x) is = set_kept bs a x is

set_from : (m : List Bool) (a x : ℕ) → IsMarked (slice_set m a true) x → IsMarked m x ⊎ (a ≡ x)
set_from [] a x is = inl is
set_from (b ∷ bs) zero zero is = inr refl
set_from (b ∷ bs) zero (suc x) is = inl is
set_from (b ∷ bs) (suc a) zero is = inl is
set_from (b ∷ bs) (suc a) (suc x) is = elim (set_from bs a x is) [ inl h ↦ inl h | inr e ↦ inr (ap suc e) ]

one_long : (m : List Bool) (a : ℕ) → length (mark_one m a) ≡ length m
one_long m a = elim (nat_lt a (length m)) as (λ t. length (if t then slice_set m a true else m) ≡ length m) [ true ↦ set_long m a | false ↦ refl ]

one_kept : (m : List Bool) (a x : ℕ) → IsMarked m x → IsMarked (mark_one m a) x
one_kept m a x is = elim (nat_lt a (length m)) as (λ t. IsMarked (if t then slice_set m a true else m) x) [ true ↦ set_kept m a x is | false ↦ is ]

one_here : (m : List Bool) (a : ℕ) → a < length m → IsMarked (mark_one m a) a
one_here m a lt = subst (λ t. IsMarked (if t then slice_set m a true else m) a) (sym (ltb-in lt)) (set_here m a lt)
  where
    ltb-in : a < length m → nat_lt a (length m) ≡ true
    ltb-in below = elim (cases_Bool (nat_lt a (length m))) [
      | inl on ↦ on
      | inr off ↦ (let not_below = ltb-false a (length m) off in absurd (omega (arith, below, not_below)))
    ]

one_from : (m : List Bool) (a x : ℕ) → IsMarked (mark_one m a) x → IsMarked m x ⊎ (a ≡ x)
one_from m a x = elim (nat_lt a (length m)) as (λ t. IsMarked (if t then slice_set m a true else m) x → IsMarked m x ⊎ (a ≡ x)) [
  | true ↦ set_from m a x
  | false ↦ λ is. inl is
]

-- ---- several

each_long : (m : List Bool) (ns : List ℕ) → length (mark_each m ns) ≡ length m
each_long m [] = refl
each_long m (a ∷ more) = each_long (mark_one m a) more ∙ one_long m a

each_kept : (m : List Bool) (ns : List ℕ) (x : ℕ) → IsMarked m x → IsMarked (mark_each m ns) x
each_kept m [] x is = is
each_kept m (a ∷ more) x is = each_kept (mark_one m a) more x (one_kept m a x is)

each_there : (m : List Bool) (ns : List ℕ) (x : ℕ) → x < length m → Has ns x → IsMarked (mark_each m ns) x
each_there m [] x lt h = absurd h
each_there m (a ∷ more) x lt (inl e) =
    each_kept (mark_one m a) more x (subst (λ y. IsMarked (mark_one m a) y) e (one_here m a (subst (λ y. y < length m) (sym e) lt)))
each_there m (a ∷ more) x lt (inr h) = each_there (mark_one m a) more x (subst (λ n. x < n) (sym (one_long m a)) lt) h

each_from : (m : List Bool) (ns : List ℕ) (x : ℕ) → IsMarked (mark_each m ns) x → IsMarked m x ⊎ Has ns x
each_from m [] x is = inl is
each_from m (a ∷ more) x is = elim (each_from (mark_one m a) more x is) [
  | inl h ↦ elim (one_from m a x h) [ inl k ↦ inl k | inr e ↦ inr (inl e) ]
  | inr h ↦ inr (inr h)
]

-- ---- a round

abbrev Led : List (List ℕ) → List Bool → ℕ → Type 0
Led g from x = (b : ℕ) × IsMarked from b × Has (next_of g b) x

round_long : (g : List (List ℕ)) (from m : List Bool) → length (step_marks g from m) ≡ length m
round_long [] from m = refl
round_long (l ∷ g) [] m = refl
round_long (l ∷ g) (true ∷ from) m = round_long g from (mark_each m l) ∙ each_long m l
round_long (l ∷ g) (false ∷ from) m = round_long g from m

round_kept : (g : List (List ℕ)) (from m : List Bool) (x : ℕ) → IsMarked m x → IsMarked (step_marks g from m) x
round_kept [] from m x is = is
round_kept (l ∷ g) [] m x is = is
round_kept (l ∷ g) (true ∷ from) m x is = round_kept g from (mark_each m l) x (each_kept m l x is)
round_kept (l ∷ g) (false ∷ from) m x is = round_kept g from m x is

round_there : (g : List (List ℕ)) (from m : List Bool) (x : ℕ) → x < length m → Led g from x → IsMarked (step_marks g from m) x
round_there [] from m x lt h = absurd h.2
round_there (l ∷ g) [] m x lt h = absurd (true≢false (sym h.1))
round_there (l ∷ g) (true ∷ from) m x lt (zero, is, has) = round_kept g from (mark_each m l) x (each_there m l x lt has)
round_there (l ∷ g) (true ∷ from) m x lt (suc b, is, has) =
    round_there g from (mark_each m l) x (subst (λ n. x < n) (sym (each_long m l)) lt) (b, is, has)
round_there (l ∷ g) (false ∷ from) m x lt (zero, is, has) = absurd (true≢false (sym is))
round_there (l ∷ g) (false ∷ from) m x lt (suc b, is, has) = round_there g from m x lt (b, is, has)

round_from : (g : List (List ℕ)) (from m : List Bool) (x : ℕ) → IsMarked (step_marks g from m) x → IsMarked m x ⊎ Led g from x
round_from [] from m x is = inl is
round_from (l ∷ g) [] m x is = inl is
round_from (l ∷ g) (true ∷ from) m x is = elim (round_from g from (mark_each m l) x is) [
  | inl h ↦ elim (each_from m l x h) [ inl k ↦ inl k | inr has ↦ inr (0, refl, has) ]
  | inr h ↦ inr (suc h.0, h.1, h.2)
]
round_from (l ∷ g) (false ∷ from) m x is = elim (round_from g from m x is) [ inl h ↦ inl h | inr h ↦ inr (suc h.0, h.1, h.2) ]

-- ---- rounds

none_marked : (n x : ℕ) → IsMarked (replicate n false) x → ⊥
none_marked zero x is = true≢false (sym is)
none_marked (suc n) zero is = true≢false (sym is)
none_marked (suc n) (suc x) is = none_marked n x is

all_marked : (n x : ℕ) → x < n → IsMarked (replicate n true) x
all_marked zero x lt = absurd (omega (arith, lt))
all_marked (suc n) zero lt = refl
all_marked (suc n) (suc x) lt = all_marked n x (omega (arith, lt))

marked_below : (m : List Bool) (x : ℕ) → IsMarked m x → x < length m
marked_below [] x is = absurd (true≢false (sym is))
marked_below (b ∷ bs) zero is = omega arith
marked_below (b ∷ bs) (suc x) is = let lt = marked_below bs x is in omega (arith, lt)

replicate_long : (n : ℕ) (b : Bool) → length (replicate n b) ≡ n
replicate_long zero b = refl
replicate_long (suc n) b = ap suc (replicate_long n b)

module _ (g : List (List ℕ)) where
  -- before the first round
  pub begun : (m : List Bool) (n : ℕ) → n ≡ length g → m ≡ replicate n true → AreEnds g m 0
  begun m n long is = record {
    long = ap length is ∙ replicate_long n true ∙ long;
    ends = λ a. (
      (λ t. subst (λ k. a < k) (ap length is ∙ replicate_long n true ∙ long) (marked_below m a t)),
      (λ lt. subst (λ l. IsMarked l a) (sym is) (all_marked n a (subst (λ k. a < k) (sym long) lt))),
    );
  }

  -- one round more
  pub one_round : (from m : List Bool) (n i j : ℕ) → n ≡ length g → AreEnds g from i → m ≡ step_marks g from (replicate n false) → j ≡ i + 1
      → AreEnds g m j
  one_round from m n i j long are is next =
      let k : j ≡ suc i = omega (arith, next) in
      let same : length m ≡ length g = ap length is ∙ round_long g from (replicate n false) ∙ replicate_long n false ∙ long in
      subst (λ j. AreEnds g m j) (sym k) (record {
        long = same;
        ends = λ a. (
          (λ t. elim (round_from g from (replicate n false) a (subst (λ l. IsMarked l a) is t)) [
            | inl never ↦ absurd (none_marked n a never)
            | inr led ↦ (led.0, (are.ends led.0).0 led.1, led.2, subst (λ k. a < k) same (marked_below m a t))
          ]),
          (λ e. subst (λ l. IsMarked l a) (sym is)
              (round_there g from (replicate n false) a (subst (λ k. a < k) (sym (replicate_long n false ∙ long)) e.3)
              (e.0, (are.ends e.0).1 e.1, e.2))),
        );
      })

-- ---- the loop over the nodes

pub next_node : (next : List Targets) (from m new total : List Bool) (i j : ℕ) (t : Targets) (b : Bool) → i < length next → length from ≡ length next
    → t ≡ get_or next i t → b ≡ slice_index_or from i false → j ≡ i + 1 → new ≡ (if b then mark_each m t.list.items else m)
    → step_marks (lists_of (drop i next)) (drop i from) m ≡ total → step_marks (lists_of (drop j next)) (drop j from) new ≡ total
next_node next from m new total i j t b lt long is at step made left =
    let k : j ≡ suc i = omega (arith, step) in
    let below : i < length from = omega (arith, lt, long) in
    ap (λ k. step_marks (lists_of (drop k next)) (drop k from) new) k
    ∙ ap (step_marks (lists_of (drop (suc i) next)) (drop (suc i) from)) made
    ∙ ap (λ fs. step_marks (lists_of (t ∷ drop (suc i) next)) fs m) (sym (drop-cons from i b below ∙ ap (λ y. y ∷ drop (suc i) from) (sym (there from i b below at))))
    ∙ ap (λ ns. step_marks (lists_of ns) (drop i from) m) (sym (drop-cons next i t lt ∙ ap (λ y. y ∷ drop (suc i) next) (sym is)))
    ∙ left
  where
    there : (xs : List Bool) (i : ℕ) (b : Bool) → i < length xs → b ≡ slice_index_or xs i false → b ≡ get_or xs i b
    there [] i b lt e = absurd (omega (arith, lt))
    there (x ∷ xs) zero b lt e = e
    there (x ∷ xs) (suc i) b lt e = there xs i b (omega (arith, lt)) e

-- ---- the rounds, as the code has them

pub begun_at : (ts : List Targets) (m : List Bool) → m ≡ replicate (length ts) true → AreEnds (lists_of ts) m 0
begun_at ts m is = begun (lists_of ts) m (length ts) (sym (nodes_counted ts)) is

pub round_at : (ts : List Targets) (slice from m : List Bool) (i j : ℕ) → slice ≡ from → AreEnds (lists_of ts) from i
    → m ≡ step_marks (lists_of ts) slice (replicate (length ts) false) → j ≡ i + 1 → AreEnds (lists_of ts) m j
round_at ts slice from m i j same are is next =
    one_round (lists_of ts) from m (length ts) i j (sym (nodes_counted ts)) are
    (is ∙ ap (λ l. step_marks (lists_of ts) l (replicate (length ts) false)) same) next

pub long_at : (ts : List Targets) (slice from : List Bool) (i : ℕ) → slice ≡ from → AreEnds (lists_of ts) from i → length slice ≡ length ts
long_at ts slice from i same are = ap length same ∙ are.long ∙ nodes_counted ts

pub done_at : (ts : List Targets) (m : List Bool) (i n : ℕ) → i ≡ n → AreEnds (lists_of ts) m i → AreEnds (lists_of ts) m n
done_at ts m i n is are = subst (AreEnds (lists_of ts) m) is are
