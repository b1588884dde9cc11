-- Edges of the code by what is seen of the tables: those that stand there already stay as they are, and those to traps are those of the
-- checks.
use Rattle.std.proofs.Common.{◌≡◌, ℕ, zero, suc, ◌+◌, ◌<◌, ◌≤◌, List, [], ◌∷◌, ◌++◌, map, length, slice_get, option_map, Bool as Truth, true, ◌&&◌, nat_lt, Option, Some, None, refl, sym, subst, ap, ◌∙◌, arith}
use Rattle.std.specs.List.{list_all}
use Rattle.std.proofs.lemmas.Bool.{and_parts, and_from, ltb-true, lt-ltb}
use Rattle.std.proofs.lemmas.Option.{same_Some, none-some, slice_get-map}
use Rattle.pv_flow.specs.declared.parts.Deed.{Deed as CodeDeed}
use Rattle.pv_flow.specs.declared.parts.Edge.{Edge as CodeEdge}
use Rattle.pv_flow.specs.declared.parts.Set.{Set as CodeSet}
use Rattle.pv_flow.specs.Terms.{Term}
use Rattle.pv_flow.specs.Automata.{Set, Edge}
use Rattle.pv_flow.specs.View.{false_term, term_at, set_of, guard_of, sets_of, edge_of}
use Rattle.pv_flow.specs.Tables.{has_terms}
use Rattle.pv_layout.specs.Spots.{both, negated, check_edges}
use Rattle.pv_layer.specs.declared.types.Check.{Check as CodeCheck}
use Rattle.pv_layer.specs.Making.{Plain, deed_seen, plain_deed, trap_deeds, plain_edge, trap_edges}
use Rattle.pv_layer.specs.Standing.{check_of}
use Rattle.pv_layer.proofs.Appended.{append_more}
use Rattle.pv_layer.proofs.Guarded.{guards_of, trap_guards}

-- ---- by what is seen of deeds

abbrev pub guard_by : List Term → Option Plain → Term
guard_by ts None = false_term
guard_by ts (Some deed) = term_at ts deed.guard

abbrev pub sets_by : List Term → Option Plain → List Set
sets_by ts None = []
sets_by ts (Some deed) = map (set_of ts) deed.sets

abbrev pub edge_by : List Term → Option Plain → CodeEdge → Edge
edge_by ts o edge = record { from = edge.from; to = edge.to; guard = guard_by ts o; sets = sets_by ts o }

abbrev pub edge_seen : List Term → List Plain → CodeEdge → Edge
edge_seen ts seen edge = edge_by ts (slice_get seen edge.deed) edge

edge_same : (ts : List Term) (deeds : List CodeDeed) (edge : CodeEdge) → edge_of ts deeds edge ≡ edge_seen ts (map deed_seen deeds) edge
edge_same ts deeds edge = by (slice_get deeds edge.deed)
    ∙ ap (λ (o : Option Plain). edge_by ts o edge) (sym (slice_get-map deed_seen deeds edge.deed))
  where
    by : (o : Option CodeDeed) → ◌≡◌ {A = Edge} (record { from = edge.from; to = edge.to; guard = guard_of ts o; sets = sets_of ts o })
        (edge_by ts (option_map deed_seen o) edge)
    by None = refl
    by (Some deed) = refl

pub edges_same : (ts : List Term) (deeds : List CodeDeed) (edges : List CodeEdge)
    → map (edge_of ts deeds) edges ≡ map (edge_seen ts (map deed_seen deeds)) edges
edges_same ts deeds [] = refl
edges_same ts deeds (edge ∷ edges) = ap (λ (e : Edge). e ∷ map (edge_of ts deeds) edges) (edge_same ts deeds edge)
    ∙ ap (λ (more : List Edge). edge_seen ts (map deed_seen deeds) edge ∷ more) (edges_same ts deeds edges)

abbrev pub plain_has : ℕ → Plain → Truth
plain_has k deed = nat_lt deed.guard k && list_all (λ (set : CodeSet). nat_lt set.value k) deed.sets

pub deeds_same : (k : ℕ) (deeds : List CodeDeed) → list_all (has_terms k) deeds ≡ list_all (plain_has k) (map deed_seen deeds)
deeds_same k [] = refl
deeds_same k (deed ∷ deeds) = ap (λ (b : Truth). has_terms k deed && b) (deeds_same k deeds)

-- ---- tables that grow

pub all_also : {X : Type 0} (p q : X → Truth) (xs : List X) → ((x : X) → p x ≡ true → q x ≡ true) → list_all p xs ≡ true → list_all q xs ≡ true
all_also p q [] also all = refl
all_also p q (x ∷ xs) also all =
    let parts = and_parts (p x) (list_all p xs) all in
    and_from (q x) (list_all q xs) (also x parts.0) (all_also p q xs also parts.1)

pub all_joined : {X : Type 0} (p : X → Truth) (xs ys : List X) → list_all p xs ≡ true → list_all p ys ≡ true → list_all p (xs ++ ys) ≡ true
all_joined p [] ys first rest = rest
all_joined p (x ∷ xs) ys first rest =
    let parts = and_parts (p x) (list_all p xs) first in
    and_from (p x) (list_all p (xs ++ ys)) parts.0 (all_joined p xs ys parts.1 rest)

pub below_also : (k m n : ℕ) → k ≤ m → nat_lt n k ≡ true → nat_lt n m ≡ true
below_also k m n le lt = lt-ltb n m (let low = ltb-true n k lt in omega (arith, low, le))

pub sets_also : (k m : ℕ) (sets : List CodeSet) → k ≤ m → list_all (λ set. nat_lt set.value k) sets ≡ true
    → list_all (λ set. nat_lt set.value m) sets ≡ true
sets_also k m sets le all = all_also (λ (set : CodeSet). nat_lt set.value k) (λ (set : CodeSet). nat_lt set.value m) sets
    (λ set lt. below_also k m set.value le lt) all

pub deeds_also : (k m : ℕ) (deeds : List Plain) → k ≤ m → list_all (plain_has k) deeds ≡ true → list_all (plain_has m) deeds ≡ true
deeds_also k m deeds le all = all_also (plain_has k) (plain_has m) deeds one all
  where
    one : (deed : Plain) → plain_has k deed ≡ true → plain_has m deed ≡ true
    one deed has =
        let parts = and_parts (nat_lt deed.guard k) (list_all (λ (set : CodeSet). nat_lt set.value k) deed.sets) has in
        and_from (nat_lt deed.guard m) (list_all (λ (set : CodeSet). nat_lt set.value m) deed.sets)
        (below_also k m deed.guard le parts.0) (sets_also k m deed.sets le parts.1)

abbrev pub edge_below : ℕ → CodeEdge → Truth
edge_below m edge = nat_lt edge.deed m

pub edges_also : (k m : ℕ) (edges : List CodeEdge) → k ≤ m → list_all (edge_below k) edges ≡ true → list_all (edge_below m) edges ≡ true
edges_also k m edges le all = all_also (edge_below k) (edge_below m) edges (λ edge lt. below_also k m edge.deed le lt) all

-- ---- those to traps

-- from deed d on stand those of the checks, whose guards stand from node k on
abbrev pub AreDeeds : List Plain → ℕ → ℕ → List CodeCheck → Type 0
AreDeeds seen d k [] = Unit {0}
AreDeeds seen d k (check ∷ checks) = (slice_get seen d ≡ Some (plain_deed k [])) × AreDeeds seen (suc d) (k + 3) checks

pub get_at : {X : Type 0} (xs : List X) (y : X) (ys : List X) → slice_get (xs ++ y ∷ ys) (length xs) ≡ Some y
get_at [] y ys = refl
get_at (x ∷ xs) y ys = get_at xs y ys

pub one_longer : {X : Type 0} (xs : List X) (x : X) → length (xs ++ x ∷ []) ≡ suc (length xs)
one_longer [] x = refl
one_longer (y ∷ xs) x = ap (λ (n : ℕ). suc n) (one_longer xs x)

pub are_deeds : (before : List Plain) (k : ℕ) (checks : List CodeCheck) (rest : List Plain)
    → AreDeeds (before ++ (trap_deeds k checks ++ rest)) (length before) k checks
are_deeds before k [] rest = tt
are_deeds before k (check ∷ checks) rest = (
  get_at before (plain_deed k []) (trap_deeds (k + 3) checks ++ rest),
  subst (λ (all : List Plain). AreDeeds all (suc (length before)) (k + 3) checks)
      (append_more before (plain_deed k [] ∷ []) (trap_deeds (k + 3) checks ++ rest))
      (subst (λ (n : ℕ). AreDeeds ((before ++ plain_deed k [] ∷ []) ++ (trap_deeds (k + 3) checks ++ rest)) n (k + 3) checks)
      (one_longer before (plain_deed k [])) (are_deeds (before ++ plain_deed k [] ∷ []) (k + 3) checks rest)),
)

head_same : (x y : Term) (xs ys : List Term) → x ∷ xs ≡ y ∷ ys → x ≡ y
head_same x y xs ys e = ap (head_or x) e
  where
    head_or : Term → List Term → Term
    head_or t [] = t
    head_or t (u ∷ us) = u

tail_same : (x y : Term) (xs ys : List Term) → x ∷ xs ≡ y ∷ ys → xs ≡ ys
tail_same x y xs ys e = ap tail e
  where
    tail : List Term → List Term
    tail [] = []
    tail (u ∷ us) = us

pub traps_seen : (ts us : List Term) (seen : List Plain) (done t l d k : ℕ) (none : Term) (checks : List CodeCheck)
    → AreDeeds seen d k checks → map (λ (i : ℕ). term_at us i) (trap_guards k checks) ≡ guards_of none (map (check_of ts) checks)
    → map (edge_seen us seen) (trap_edges l (done + suc t) d checks) ≡ check_edges done t l none (map (check_of ts) checks)
traps_seen ts us seen done t l d k none [] are guards = refl
traps_seen ts us seen done t l d k none (check ∷ checks) are guards =
    ap (λ (edge : Edge). edge ∷ map (edge_seen us seen) (trap_edges l (suc (done + suc t)) (suc d) checks))
    (ap (λ (o : Option Plain). edge_by us o (plain_edge l (done + suc t) d)) are.0
    ∙ ap (λ (g : Term). record { from = l; to = done + suc t; guard = g; sets = [] })
    (head_same (term_at us k) (both (term_at ts check.fails) none) (map (λ (i : ℕ). term_at us i) (trap_guards (k + 3) checks))
    (guards_of (both none (negated (term_at ts check.fails))) (map (check_of ts) checks)) guards))
    ∙ ap (λ (more : List Edge). record { from = l; to = done + suc t; guard = both (term_at ts check.fails) none; sets = [] } ∷ more)
    (ap (λ (to : ℕ). map (edge_seen us seen) (trap_edges l to (suc d) checks)) next
    ∙ traps_seen ts us seen done (suc t) l (suc d) (k + 3) (both none (negated (term_at ts check.fails))) checks are.1
    (tail_same (term_at us k) (both (term_at ts check.fails) none) (map (λ (i : ℕ). term_at us i) (trap_guards (k + 3) checks))
    (guards_of (both none (negated (term_at ts check.fails))) (map (check_of ts) checks)) guards))
  where
    next : suc (done + suc t) ≡ done + suc (suc t)
    next = omega arith

-- ---- those that stand there

pub deed_sets_same : (ts us : List Term) (k : ℕ) (sets : List CodeSet) → ((i : ℕ) → i < k → term_at us i ≡ term_at ts i)
    → list_all (λ set. nat_lt set.value k) sets ≡ true → map (set_of us) sets ≡ map (set_of ts) sets
deed_sets_same ts us k [] same there = refl
deed_sets_same ts us k (set ∷ sets) same there =
    let parts = and_parts (nat_lt set.value k) (list_all (λ other. nat_lt other.value k) sets) there in
    ap (λ (t : Term). record { variable = set.variable; value = t } ∷ map (set_of us) sets) (same set.value (ltb-true set.value k parts.0))
    ∙ ap (λ (more : List Set). set_of ts set ∷ more) (deed_sets_same ts us k sets same parts.1)

test_at : {X : Type 0} (test : X → Truth) (xs : List X) (i : ℕ) (x : X) → list_all test xs ≡ true → slice_get xs i ≡ Some x → test x ≡ true
test_at test [] i x all here = absurd (none-some x here)
test_at {X} test (y ∷ xs) zero x all here =
    subst (λ (z : X). test z ≡ true) (same_Some y x here) (and_parts (test y) (list_all test xs) all).0
test_at test (y ∷ xs) (suc i) x all here = test_at test xs i x (and_parts (test y) (list_all test xs) all).1 here

edge_keeps : (ts us : List Term) (k : ℕ) (seen : List Plain) (edge : CodeEdge) → ((i : ℕ) → i < k → term_at us i ≡ term_at ts i)
    → list_all (plain_has k) seen ≡ true → edge_seen us seen edge ≡ edge_seen ts seen edge
edge_keeps ts us k seen edge same all = by (slice_get seen edge.deed) refl
  where
    by : (o : Option Plain) → slice_get seen edge.deed ≡ o → edge_by us o edge ≡ edge_by ts o edge
    by None here = refl
    by (Some deed) here =
        let parts = and_parts (nat_lt deed.guard k) (list_all (λ (set : CodeSet). nat_lt set.value k) deed.sets)
        (test_at (plain_has k) seen edge.deed deed all here) in
        ap (λ (g : Term). record { from = edge.from; to = edge.to; guard = g; sets = map (set_of us) deed.sets })
        (same deed.guard (ltb-true deed.guard k parts.0))
        ∙ ap (λ (sets : List Set). record { from = edge.from; to = edge.to; guard = term_at ts deed.guard; sets = sets })
        (deed_sets_same ts us k deed.sets same parts.1)

-- with more terms
pub edges_keep : (ts us : List Term) (k : ℕ) (seen : List Plain) (edges : List CodeEdge) → ((i : ℕ) → i < k → term_at us i ≡ term_at ts i)
    → list_all (plain_has k) seen ≡ true → map (edge_seen us seen) edges ≡ map (edge_seen ts seen) edges
edges_keep ts us k seen [] same all = refl
edges_keep ts us k seen (edge ∷ edges) same all = ap (λ (e : Edge). e ∷ map (edge_seen us seen) edges) (edge_keeps ts us k seen edge same all)
    ∙ ap (λ (more : List Edge). edge_seen ts seen edge ∷ more) (edges_keep ts us k seen edges same all)

front_get : {X : Type 0} (xs ys : List X) (i : ℕ) → i < length xs → slice_get (xs ++ ys) i ≡ slice_get xs i
front_get [] ys i lt = absurd (omega (arith, lt))
front_get (x ∷ xs) ys zero lt = refl
front_get (x ∷ xs) ys (suc i) lt = front_get xs ys i (omega (arith, lt))

-- with more deeds
pub edges_stay : (ts : List Term) (seen more : List Plain) (edges : List CodeEdge) → list_all (edge_below (length seen)) edges ≡ true
    → map (edge_seen ts (seen ++ more)) edges ≡ map (edge_seen ts seen) edges
edges_stay ts seen more [] all = refl
edges_stay ts seen more (edge ∷ edges) all =
    let parts = and_parts (nat_lt edge.deed (length seen)) (list_all (edge_below (length seen)) edges) all in
    ap (λ (o : Option Plain). edge_by ts o edge ∷ map (edge_seen ts (seen ++ more)) edges)
    (front_get seen more edge.deed (ltb-true edge.deed (length seen) parts.0))
    ∙ ap (λ (rest : List Edge). edge_seen ts seen edge ∷ rest) (edges_stay ts seen more edges parts.1)
