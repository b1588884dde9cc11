-- A search from all roots, which goes from a node to those with its root: each node that it has seen is led to by its root.
use Rattle.std.proofs.Common.{◌≡◌, ℕ, ◌+◌, ◌<◌, List, [], ◌∷◌, ◌++◌, length, refl, ap, sym, subst, ◌∙◌, arith, inl, inr}
use Rattle.std.specs.Prelude.{◌⊎◌, slice_index_or, nat_eq, if◌then◌else◌}
use Rattle.std.proofs.lemmas.Bool.{cases_Bool, eqb-true}
use Rattle.pv_graph.specs.declared.targets.Targets.{Targets}
use Rattle.pv_graph.specs.Members.{Has}
use Rattle.pv_graph.specs.Graphs.{lists_of, next_of, Leads, here, by}
use Rattle.pv_graph.specs.Searches.{Marks, marked, alike_marked}
use Rattle.pv_graph.specs.Arounds.{IsSpread}
use Rattle.pv_graph.proofs.Members.{has_front, has_behind}
use Rattle.pv_graph.proofs.Marking.{IsSeen, unseen, grown_all}
use Rattle.pv_graph.proofs.Searching.{leads_then}

-- ---- seeing some of these nodes, which have this root

record Spread (roots : List ℕ) (root : ℕ) (m n : Marks) (nodes : List ℕ) : Type 0 where
  kept : (x : ℕ) → IsSeen m.seen x → IsSeen n.seen x
  only : (x : ℕ) → IsSeen n.seen x → IsSeen m.seen x ⊎ (Has nodes x × (slice_index_or roots x 0 ≡ root))
  work_only : (x : ℕ) → Has n.work x → Has m.work x ⊎ IsSeen n.seen x
  measure : unseen n.seen + length n.work ≡ unseen m.seen + length m.work

spread_none : (roots : List ℕ) (root : ℕ) (m : Marks) (nodes : List ℕ) → Spread roots root m m nodes
spread_none roots root m nodes = record {
  kept = λ x s. s;
  only = λ x s. inl s;
  work_only = λ x h. inl h;
  measure = refl;
}

spread_one : (roots : List ℕ) (root : ℕ) (m : Marks) (a : ℕ) → slice_index_or roots a 0 ≡ root → Spread roots root m (marked m a) (a ∷ [])
spread_one roots root m a its =
    let one = grown_all m (a ∷ []) in record {
      kept = one.seen_kept;
      only = λ x s. elim (one.only x s) [
        | inl was ↦ inl was
        | inr h ↦ elim h [
          | inl same ↦ inr (inl same, subst (λ y. slice_index_or roots y 0 ≡ root) same its)
          | inr never ↦ absurd never
        ]
      ];
      work_only = one.work_only;
      measure = one.measure;
    }

spread_then : (roots : List ℕ) (root : ℕ) (m n p : Marks) (a : ℕ) (more : List ℕ) → Spread roots root m n (a ∷ [])
    → Spread roots root n p more → Spread roots root m p (a ∷ more)
spread_then roots root m n p a more f g = record {
  kept = λ x s. g.kept x (f.kept x s);
  only = λ x s. elim (g.only x s) [
    | inl was ↦ elim (f.only x was) [
      | inl old ↦ inl old
      | inr it ↦ elim it.0 [ inl same ↦ inr (inl same, it.1) | inr never ↦ absurd never ]
    ]
    | inr rest ↦ inr (inr rest.0, rest.1)
  ];
  work_only = λ x h. elim (g.work_only x h) [
    | inl was ↦ elim (f.work_only x was) [ inl old ↦ inl old | inr s ↦ inr (g.kept x s) ]
    | inr s ↦ inr s
  ];
  measure = g.measure ∙ f.measure;
}

spread_where : (roots : List ℕ) (root : ℕ) (m : Marks) (a : ℕ)
    → Spread roots root m (if nat_eq (slice_index_or roots a 0) root then marked m a else m) (a ∷ [])
spread_where roots root m a = elim (cases_Bool (nat_eq (slice_index_or roots a 0) root)) [
  | inl its ↦ subst (λ n. Spread roots root m n (a ∷ [])) (sym (ap (λ t. if t then marked m a else m) its))
      (spread_one roots root m a (eqb-true (slice_index_or roots a 0) root its))
  | inr other ↦ subst (λ n. Spread roots root m n (a ∷ [])) (sym (ap (λ t. if t then marked m a else m) other))
      (spread_none roots root m (a ∷ []))
]

spread_all : (roots : List ℕ) (root : ℕ) (m : Marks) (nodes : List ℕ) → Spread roots root m (alike_marked roots root m nodes) nodes
spread_all roots root m [] = spread_none roots root m []
spread_all roots root m (a ∷ more) =
    let n : Marks = if nat_eq (slice_index_or roots a 0) root then marked m a else m in
    spread_then roots root m n (alike_marked roots root n more) a more (spread_where roots root m a) (spread_all roots root n more)

-- ---- the search

-- a root leads to itself
pub spread_root : (g : List (List ℕ)) (roots : List ℕ) (m n : Marks) (a root : ℕ) → root ≡ slice_index_or roots a 0 → IsSpread g roots m
    → n ≡ (if nat_eq root a then marked m a else m) → IsSpread g roots n
spread_root g roots m n a root at spread is =
    subst (IsSpread g roots) (sym (is ∙ ap (λ r. if nat_eq r a then marked m a else m) at)) (record {
      led = λ x s. elim (one.only x s) [
        | inl was ↦ spread.led x was
        | inr h ↦ elim h.0 [ inl same ↦ subst (λ y. Leads g y x) (sym (h.1 ∙ same)) here | inr never ↦ absurd never ]
      ];
      queued = λ x h. elim (one.work_only x h) [ inl old ↦ one.kept x (spread.queued x old) | inr s ↦ s ];
    })
  where
    one : Spread roots a m (if nat_eq (slice_index_or roots a 0) a then marked m a else m) (a ∷ [])
    one = spread_where roots a m a

-- and on to what a node with the root leads to
pub spread_step : (ts : List Targets) (roots nodes rest : List ℕ) (m n : Marks) (a root : ℕ) → IsSpread (lists_of ts) roots m
    → m.work ≡ rest ++ a ∷ [] → nodes ≡ next_of (lists_of ts) a → root ≡ slice_index_or roots a 0
    → n ≡ alike_marked roots root (record { seen = m.seen; work = rest }) nodes → IsSpread (lists_of ts) roots n
spread_step ts roots nodes rest m n a root spread is same at to =
    subst (IsSpread (lists_of ts) roots) (sym to) (record {
      led = λ x s. elim (all.only x s) [
        | inl was ↦ spread.led x was
        | inr h ↦ subst (λ y. Leads (lists_of ts) y x) (sym at ∙ sym h.1)
            (leads_then (lists_of ts) (slice_index_or roots a 0) a x (spread.led a taken) (by (subst (λ l. Has l x) same h.0) here))
      ];
      queued = λ x h. elim (all.work_only x h) [
        | inl front ↦ all.kept x (spread.queued x (subst (λ l. Has l x) (sym is) (has_front (λ z. z ≡ x) rest (a ∷ []) front)))
        | inr s ↦ s
      ];
    })
  where
    all : Spread roots root (record { seen = m.seen; work = rest })
        (alike_marked roots root (record { seen = m.seen; work = rest }) nodes) nodes
    all = spread_all roots root (record { seen = m.seen; work = rest }) nodes

    taken : IsSeen m.seen a
    taken = spread.queued a (subst (λ l. Has l a) (sym is) (has_behind (λ z. z ≡ a) rest (a ∷ []) (inl refl)))

pub spread_fewer : (roots nodes rest : List ℕ) (m n : Marks) (a root : ℕ) → m.work ≡ rest ++ a ∷ []
    → n ≡ alike_marked roots root (record { seen = m.seen; work = rest }) nodes
    → unseen n.seen + length n.work < unseen m.seen + length m.work
spread_fewer roots nodes rest m n a root is to =
    let all = spread_all roots root (record { seen = m.seen; work = rest }) nodes in
    let same = all.measure in
    let more : length m.work ≡ length rest + 1 = ap length is ∙ behind rest in
    subst (λ q. unseen q.seen + length q.work < unseen m.seen + length m.work) (sym to) (omega (arith, same, more))
  where
    behind : (xs : List ℕ) → length (xs ++ a ∷ []) ≡ length xs + 1
    behind [] = refl
    behind (x ∷ xs) = let less = behind xs in omega (arith, less)
