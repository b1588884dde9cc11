-- Marking nodes in a search: what is seen and what is still to be left afterwards.
use Rattle.std.proofs.Common.{◌≡◌, ℕ, suc, zero, ◌+◌, ◌<◌, List, [], ◌∷◌, ◌++◌, Bool, true, false, length, refl, ap, sym, subst, ◌∙◌, arith, inl, inr, get_or, set, cond}
use Rattle.std.specs.Prelude.{◌⊎◌, slice_set, if◌then◌else◌}
use Rattle.std.proofs.lemmas.Bool.{true≢false, cases_Bool}
use Rattle.pv_graph.proofs.Members.{has_front, has_behind, has_either}
use Rattle.pv_graph.specs.Members.{Has}
use Rattle.pv_graph.specs.Searches.{Marks, is_new, marked, all_marked}

-- ---- lists of truth values

abbrev pub IsSeen : List Bool → ℕ → Type 0
IsSeen seen a = get_or seen a false ≡ true

abbrev pub unseen : List Bool → ℕ
unseen [] = 0
unseen (b ∷ bs) = cond b 0 1 + unseen bs

-- a node that is new has a place in the list, and is seen once it is marked; the others stay
pub record SetsOne (seen after : List Bool) (a : ℕ) : Type 0 where
  pub length_kept : length after ≡ length seen
  pub now : IsSeen after a
  pub others : (x : ℕ) → IsSeen after x → IsSeen seen x ⊎ (a ≡ x)
  pub kept : (x : ℕ) → IsSeen seen x → IsSeen after x
  pub fewer : unseen after + 1 ≡ unseen seen

sets_one : (seen : List Bool) (a : ℕ) → is_new seen a ≡ true → SetsOne seen (set seen a true) a
sets_one [] a new = absurd (true≢false (sym new))
sets_one (true ∷ bs) zero new = absurd (true≢false (sym new))
sets_one (false ∷ bs) zero new = record {
  length_kept = refl;
  now = refl;
  others = λ x h. elim x as (λ n. IsSeen (true ∷ bs) n → IsSeen (false ∷ bs) n ⊎ (0 ≡ n)) [ zero ↦ λ s. inr refl | suc n ↦ λ s. inl s ] h;
  kept = λ x h. elim x as (λ n. IsSeen (false ∷ bs) n → IsSeen (true ∷ bs) n) [ zero ↦ λ s. refl | suc n ↦ λ s. s ] h;
  fewer = omega arith;
}
sets_one (b ∷ bs) (suc a) new =
    let rest = sets_one bs a new in record {
      length_kept = ap suc rest.length_kept;
      now = rest.now;
      others = λ x h. elim x as (λ n. IsSeen (b ∷ set bs a true) n → IsSeen (b ∷ bs) n ⊎ (suc a ≡ n)) [
        | zero ↦ λ s. inl s
        | suc n ↦ λ s. elim (rest.others n s) [ inl old ↦ inl old | inr same ↦ inr (ap suc same) ]
      ] h;
      kept = λ x h. elim x as (λ n. IsSeen (b ∷ bs) n → IsSeen (b ∷ set bs a true) n) [ zero ↦ λ s. s | suc n ↦ λ s. rest.kept n s ] h;
      fewer = let less = rest.fewer in omega (arith, less);
    }

old_seen : (seen : List Bool) (a : ℕ) → is_new seen a ≡ false → a < length seen → IsSeen seen a
old_seen [] a old lt = absurd (omega (arith, lt))
old_seen (true ∷ bs) zero old lt = refl
old_seen (false ∷ bs) zero old lt = absurd (true≢false old)
old_seen (b ∷ bs) (suc a) old lt = old_seen bs a old (omega (arith, lt))

-- ---- marking

pub record Grown (m n : Marks) (nodes : List ℕ) : Type 0 where
  pub length_kept : length n.seen ≡ length m.seen
  pub seen_kept : (x : ℕ) → IsSeen m.seen x → IsSeen n.seen x
  pub reached : (x : ℕ) → Has nodes x → x < length m.seen → IsSeen n.seen x
  pub only : (x : ℕ) → IsSeen n.seen x → IsSeen m.seen x ⊎ Has nodes x
  pub work_kept : (x : ℕ) → Has m.work x → Has n.work x
  pub work_only : (x : ℕ) → Has n.work x → Has m.work x ⊎ IsSeen n.seen x
  pub newly : (x : ℕ) → IsSeen n.seen x → IsSeen m.seen x ⊎ Has n.work x
  pub measure : unseen n.seen + length n.work ≡ unseen m.seen + length m.work

grown_none : (m : Marks) → Grown m m []
grown_none m = record {
  length_kept = refl;
  seen_kept = λ x s. s;
  reached = λ x h lt. absurd h;
  only = λ x s. inl s;
  work_kept = λ x h. h;
  work_only = λ x h. inl h;
  newly = λ x s. inl s;
  measure = refl;
}

length_behind : (xs : List ℕ) (a : ℕ) → length (xs ++ a ∷ []) ≡ length xs + 1
length_behind [] a = refl
length_behind (x ∷ xs) a = let rest = length_behind xs a in omega (arith, rest)

grown_one : (m : Marks) (a : ℕ) → Grown m (marked m a) (a ∷ [])
grown_one m a = elim (cases_Bool (is_new m.seen a)) [
  | inl new ↦
      let is : marked m a ≡ record { seen = set m.seen a true; work = m.work ++ a ∷ [] } = ap (λ b. if b then record { seen = slice_set m.seen a true; work = m.work ++ a ∷ [] } else m) new in
      subst (λ n. Grown m n (a ∷ [])) (sym is) (new_one new)
  | inr old ↦
      let is : marked m a ≡ m = ap (λ b. if b then record { seen = slice_set m.seen a true; work = m.work ++ a ∷ [] } else m) old in
      subst (λ n. Grown m n (a ∷ [])) (sym is) (old_one old)
]
  where
    new_one : is_new m.seen a ≡ true → Grown m (record { seen = set m.seen a true; work = m.work ++ a ∷ [] }) (a ∷ [])
    new_one new = let one = sets_one m.seen a new in record {
      length_kept = one.length_kept;
      seen_kept = one.kept;
      reached = λ x h lt. elim h [ inl same ↦ subst (IsSeen (set m.seen a true)) same one.now | inr never ↦ absurd never ];
      only = λ x s. elim (one.others x s) [ inl old ↦ inl old | inr same ↦ inr (inl same) ];
      work_kept = λ x h. has_front (λ y. y ≡ x) m.work (a ∷ []) h;
      work_only = λ x h. elim (has_either (λ y. y ≡ x) m.work (a ∷ []) h) [
        | inl old ↦ inl old
        | inr it ↦ elim it [ inl same ↦ inr (subst (IsSeen (set m.seen a true)) same one.now) | inr never ↦ absurd never ]
      ];
      newly = λ x s. elim (one.others x s) [ inl old ↦ inl old | inr same ↦ inr (has_behind (λ y. y ≡ x) m.work (a ∷ []) (inl same)) ];
      measure = let less = one.fewer in let more = length_behind m.work a in omega (arith, less, more);
    }

    old_one : is_new m.seen a ≡ false → Grown m m (a ∷ [])
    old_one old = record {
      length_kept = refl;
      seen_kept = λ x s. s;
      reached = λ x h lt. elim h [ inl same ↦ subst (IsSeen m.seen) same (old_seen m.seen a old (subst (λ y. y < length m.seen) (sym same) lt)) | inr never ↦ absurd never ];
      only = λ x s. inl s;
      work_kept = λ x h. h;
      work_only = λ x h. inl h;
      newly = λ x s. inl s;
      measure = refl;
    }

grown_then : (m n p : Marks) (a : ℕ) (more : List ℕ) → Grown m n (a ∷ []) → Grown n p more → Grown m p (a ∷ more)
grown_then m n p a more f g = record {
  length_kept = g.length_kept ∙ f.length_kept;
  seen_kept = λ x s. g.seen_kept x (f.seen_kept x s);
  reached = λ x h lt. elim h [
    | inl same ↦ g.seen_kept x (f.reached x (inl same) lt)
    | inr rest ↦ g.reached x rest (subst (λ k. x < k) (sym f.length_kept) lt)
  ];
  only = λ x s. elim (g.only x s) [
    | inl was ↦ elim (f.only x was) [ inl old ↦ inl old | inr it ↦ elim it [ inl same ↦ inr (inl same) | inr never ↦ absurd never ] ]
    | inr rest ↦ inr (inr rest)
  ];
  work_kept = λ x h. g.work_kept x (f.work_kept x h);
  work_only = λ x h. elim (g.work_only x h) [
    | inl was ↦ elim (f.work_only x was) [ inl old ↦ inl old | inr s ↦ inr (g.seen_kept x s) ]
    | inr s ↦ inr s
  ];
  newly = λ x s. elim (g.newly x s) [
    | inl was ↦ elim (f.newly x was) [ inl old ↦ inl old | inr h ↦ inr (g.work_kept x h) ]
    | inr h ↦ inr h
  ];
  measure = g.measure ∙ f.measure;
}

pub grown_all : (m : Marks) (nodes : List ℕ) → Grown m (all_marked m nodes) nodes
grown_all m [] = grown_none m
grown_all m (a ∷ more) = grown_then m (marked m a) (all_marked (marked m a) more) a more (grown_one m a) (grown_all (marked m a) more)
