-- Typed flows have typed edges, which name the flow's variables alone.
use Rattle.std.proofs.Common.{◌≡◌, ℕ, suc, ◌+◌, pos, List, [], ◌∷◌, length, true, None, Some, refl, sym, subst, arith}
use Rattle.std.specs.List.{AllByRecursion, list_all}
use Rattle.std.proofs.lemmas.Bool.{and_from}
use Rattle.std.proofs.lemmas.List.Elements.{All-from_recursion, recursion_from_All}
use Rattle.std.proofs.lemmas.Int.{ints}
use Rattle.pv_word.specs.declared.types.Ty.TheVariants.{Bool}
use Rattle.pv_word.specs.Types.{InRange}
use Rattle.pv_flow.specs.Terms.{Term, Types, names_below}
use Rattle.pv_flow.specs.Automata.{Set, Edge}
use Rattle.pv_flow.specs.Faults.{set_below, edge_below}
use Rattle.pv_flow.specs.WellMade.{IsSet, IsEdge}
use Rattle.pv_layout.specs.Spots.{Check, Way, way, Spot, Act, Branch, Enter, checks_of, true_term, both, negated, none_of, check_edges, way_edge, edges_at}
use Rattle.pv_layout.specs.Flows.{Flow, act, enter, leave, then_, if_, choice, while_, for_, repeat_}
use Rattle.pv_layout.specs.Layout.{width, loops_in, Exits, exit_by, before, in_loop, spots_of, edges_of}
use Rattle.pv_layout.specs.Bodies.{IsCondition, AreChecks, AreSets, IsTypedFlow}
use Rattle.pv_layout.specs.Sound.{IsTypedWay, IsTypedSpot}
use Rattle.pv_layout.proofs.Lists.{all_append}

-- ---- guards

one_fits : InRange Bool (pos 1)
one_fits = record { from = omega (arith, ints); to = omega (arith, ints) }

true_typed : (n : ℕ) (types : Types) → IsCondition n types true_term
true_typed n types = record { typed = one_fits; condition = refl; names = refl }

both_typed : (n : ℕ) (types : Types) (s t : Term) → IsCondition n types s → IsCondition n types t → IsCondition n types (both s t)
both_typed n types s t one other = record {
  typed = (one.typed, other.typed, (one.condition, other.condition));
  condition = refl;
  names = and_from (names_below n s) (names_below n t) one.names other.names;
}

negated_typed : (n : ℕ) (types : Types) (t : Term) → IsCondition n types t → IsCondition n types (negated t)
negated_typed n types t is = record { typed = (is.typed, is.condition); condition = refl; names = is.names }

-- ---- spots

no_sets : (n : ℕ) (types : Types) → AreSets n types []
no_sets n types = record { typed = All-from_recursion (IsSet types) [] tt; names = refl }

no_checks : (n : ℕ) (types : Types) → AreChecks n types []
no_checks n types = All-from_recursion (λ (check : Check). IsCondition n types check.fails) [] tt

bare_way : (n : ℕ) (types : Types) (on : Way) → on.sets ≡ [] → IsTypedWay n types on
bare_way n types on e = record { sets = subst (λ (sets : List Set). AreSets n types sets) (sym e) (no_sets n types) }

test_typed : (n : ℕ) (types : Types) (checks : List Check) (c : Term) (one other : Way) → one.sets ≡ [] → other.sets ≡ []
    → AreChecks n types checks → IsCondition n types c → IsTypedSpot n types (Branch checks c one other)
test_typed n types checks c one other first second are is = (are, is, bare_way n types one first, bare_way n types other second)

pub spots_typed : (n : ℕ) (types : Types) (f : Flow) (a i : ℕ) (to : Exits) → IsTypedFlow n types f
    → AllByRecursion (IsTypedSpot n types) (spots_of f a i to)
spots_typed n types (act checks sets) a i to h = ((h.0, record { sets = h.1 }), tt)
spots_typed n types (enter block instance place) a i to h = (h, tt)
spots_typed n types (leave which) a i to h = ((no_checks n types, bare_way n types (way (exit_by which to) [] None) refl), tt)
spots_typed n types (then_ f g) a i to h = all_append (IsTypedSpot n types) (spots_of f a i (before (a + width f) to))
    (spots_of g (a + width f) (i + loops_in f) to) (spots_typed n types f a i (before (a + width f) to) h.0)
    (spots_typed n types g (a + width f) (i + loops_in f) to h.1)
spots_typed n types (if_ checks c f) a i to h = (
  test_typed n types checks c (way (suc a) [] None) (way to.next [] None) refl refl h.0 h.1,
  spots_typed n types f (suc a) i to h.2,
)
spots_typed n types (choice checks c f g) a i to h = (
  test_typed n types checks c (way (suc a) [] None) (way (suc a + width f) [] None) refl refl h.0 h.1,
  all_append (IsTypedSpot n types) (spots_of f (suc a) i to) (spots_of g (suc a + width f) (i + loops_in f) to)
      (spots_typed n types f (suc a) i to h.2) (spots_typed n types g (suc a + width f) (i + loops_in f) to h.3),
)
spots_typed n types (while_ checks c f place) a i to h = (
  test_typed n types checks c (way (suc a) [] (Some i)) (way to.next [] None) refl refl h.0 h.1,
  spots_typed n types f (suc a) (suc i) (in_loop a to) h.2,
)
spots_typed n types (for_ checks c f sets place) a i to h = (
  test_typed n types checks c (way (suc a) [] (Some i)) (way to.next [] None) refl refl h.0 h.1,
  all_append (IsTypedSpot n types) (spots_of f (suc a) (suc i) (in_loop (suc a + width f) to)) (Act [] (way a sets None) ∷ [])
      (spots_typed n types f (suc a) (suc i) (in_loop (suc a + width f) to) h.2) ((no_checks n types, record { sets = h.3 }), tt),
)
spots_typed n types (repeat_ f checks c place) a i to h =
    all_append (IsTypedSpot n types) (spots_of f a (suc i) (in_loop (a + width f) to))
    (Branch checks c (way to.next [] None) (way a [] (Some i)) ∷ [])
    (spots_typed n types f a (suc i) (in_loop (a + width f) to) h.2)
    (test_typed n types checks c (way to.next [] None) (way a [] (Some i)) refl refl h.0 h.1, tt)

-- ---- edges

pub record IsTypedEdge (n : ℕ) (types : Types) (edge : Edge) : Type 0 where
  pub typed : IsEdge types edge
  pub below : edge_below n edge ≡ true

edge_typed : (n : ℕ) (types : Types) (from to : ℕ) (guard : Term) (sets : List Set) → IsCondition n types guard → AreSets n types sets
    → IsTypedEdge n types (record { from = from; to = to; guard = guard; sets = sets })
edge_typed n types from to guard sets is are = record {
  typed = record { guard = is.typed; condition = is.condition; sets = are.typed };
  below = and_from (names_below n guard) (list_all (set_below n) sets) is.names are.names;
}

abbrev EachCheck : ℕ → Types → List Check → Type 0
EachCheck n types checks = AllByRecursion (λ (check : Check). IsCondition n types check.fails) checks

none_typed : (n : ℕ) (types : Types) (none : Term) (checks : List Check) → IsCondition n types none → EachCheck n types checks
    → IsCondition n types (none_of none checks)
none_typed n types none [] is are = is
none_typed n types none (check ∷ checks) is are = none_typed n types (both none (negated check.fails)) checks
    (both_typed n types none (negated check.fails) is (negated_typed n types check.fails are.0)) are.1

checks_typed : (n : ℕ) (types : Types) (done t l : ℕ) (none : Term) (checks : List Check) → IsCondition n types none
    → EachCheck n types checks
    → AllByRecursion (IsTypedEdge n types) (check_edges done t l none checks)
checks_typed n types done t l none [] is are = tt
checks_typed n types done t l none (check ∷ checks) is are = (
  edge_typed n types l (done + suc t) (both check.fails none) [] (both_typed n types check.fails none are.0 is) (no_sets n types),
  checks_typed n types done (suc t) l (both none (negated check.fails)) checks
      (both_typed n types none (negated check.fails) is (negated_typed n types check.fails are.0)) are.1,
)

spot_typed : (n : ℕ) (types : Types) (done t l : ℕ) (spot : Spot) → IsTypedSpot n types spot
    → AllByRecursion (IsTypedEdge n types) (edges_at done t l spot)
spot_typed n types done t l (Act checks on) h = all_append (IsTypedEdge n types) (check_edges done t l true_term checks)
    (way_edge l (none_of true_term checks) on ∷ [])
    (checks_typed n types done t l true_term checks (true_typed n types) each) (
      edge_typed n types l on.to (none_of true_term checks) on.sets (none_typed n types true_term checks (true_typed n types) each)
          (h.1).sets,
      tt,
    )
  where
    each : EachCheck n types checks
    each = recursion_from_All (λ (check : Check). IsCondition n types check.fails) checks h.0
spot_typed n types done t l (Branch checks c one other) h = all_append (IsTypedEdge n types) (check_edges done t l true_term checks)
    (way_edge l (both c last) one ∷ way_edge l (both (negated c) last) other ∷ [])
    (checks_typed n types done t l true_term checks (true_typed n types) each) (
      edge_typed n types l one.to (both c last) one.sets (both_typed n types c last h.1 is_last) (h.2).sets,
      (
        edge_typed n types l other.to (both (negated c) last) other.sets
            (both_typed n types (negated c) last (negated_typed n types c h.1) is_last) (h.3).sets,
        tt,
      ),
    )
  where
    last : Term
    last = none_of true_term checks

    each : EachCheck n types checks
    each = recursion_from_All (λ (check : Check). IsCondition n types check.fails) checks h.0

    is_last : IsCondition n types last
    is_last = none_typed n types true_term checks (true_typed n types) each
spot_typed n types done t l (Enter block instance place to) h = tt

pub edges_typed : (n : ℕ) (types : Types) (done t l : ℕ) (spots : List Spot) → AllByRecursion (IsTypedSpot n types) spots
    → AllByRecursion (IsTypedEdge n types) (edges_of done t l spots)
edges_typed n types done t l [] h = tt
edges_typed n types done t l (spot ∷ spots) h = all_append (IsTypedEdge n types) (edges_at done t l spot)
    (edges_of done (t + length (checks_of spot)) (suc l) spots) (spot_typed n types done t l spot h.0)
    (edges_typed n types done (t + length (checks_of spot)) (suc l) spots h.1)
