-- What is drawn is typed, and names variables that there are: terms of a copy are those of its block with each variable at its place, where
-- it has its type.
use Rattle.std.proofs.Common.{◌≡◌, ℕ, zero, suc, ◌+◌, ◌<◌, List, [], ◌∷◌, ◌++◌, map, length, slice_get, Bool as Truth, true, false, ◌&&◌, ◌==◌, nat_lt, cond, Option, Some, None, refl, sym, subst, ap, ◌∙◌, arith}
use Rattle.std.specs.List.{AllByRecursion, list_all}
use Rattle.std.proofs.lemmas.Bool.{ltb-true, lt-ltb, and_parts}
use Rattle.std.proofs.lemmas.Int.{ints}
use Rattle.std.proofs.lemmas.List.Elements.{recursion_from_All, All-from_recursion}
use Rattle.std.proofs.lemmas.Option.{none-some, slice_get_within}
use Rattle.pv_word.specs.declared.types.Ty.{Ty}
use Rattle.pv_word.specs.declared.types.Ty.TheVariants.{Bool}
use Rattle.pv_flow.specs.Terms.{Term, constant, variable, unary, binary, select, Types, type_of, FitsUnary, FitsBinary, IsTyped, names_below}
use Rattle.pv_flow.specs.Automata.{Variable, Set, Edge, Parts, type_in, type_at, types_of, edges_from}
use Rattle.pv_flow.specs.Faults.{set_below, edge_below}
use Rattle.pv_flow.specs.WellMade.{IsSet, IsEdge}
use Rattle.pv_flow.specs.Runs.{End, done, trap, over, end_at}
use Rattle.pv_flow.specs.Calls.{Blocks, block_at, Work, Numbered, call_from, begins_anew}
use Rattle.pv_flow.specs.Fitting.{runs_block, AreFitting, IsSound, AreSound}
use Rattle.pv_flow.proofs.ForCallers.{deep, zero_fits}
use Rattle.pv_call_copies.specs.Renaming.{renamed, renamed_sets, reset, resets_from, resets, true_term}
use Rattle.pv_call_copies.specs.Inlined.{added_by_calls, added, Aim, Body, entry_body, number_in, callee_body, Drawn, drawn_edge, edges_out, drawn_call, drawn_from, drawn_by, drawn_below, drawn, drawn_all, next_by, edges_of}
use Rattle.pv_call_copies.proofs.Levels.{IsCalled, is_run, found_called, drawn_is}
use Rattle.pv_call_copies.proofs.Edges.{sound_at}
use Rattle.pv_call_copies.proofs.Rooms.{call_fits, HasRoom, entry_room, callee_room}

and_so : (a b : Truth) → a ≡ true → b ≡ true → (a && b) ≡ true
and_so a b h g = ap (λ (c : Truth). c && b) h ∙ g

-- ---- terms

-- the first n variables lie below m, each where it has its type
abbrev pub LieTyped : Types → Types → (ℕ → ℕ) → ℕ → ℕ → Type 0
LieTyped types own place n m = (x : ℕ) → x < n → (place x < m) × (types (place x) ≡ own x)

type_renamed : (types own : Types) (place : ℕ → ℕ) (n m : ℕ) → LieTyped types own place n m → (t : Term) → names_below n t ≡ true
    → type_of types (renamed place t) ≡ type_of own t
type_renamed types own place n m lie (constant ty v) names = refl
type_renamed types own place n m lie (variable x) names = (lie x (ltb-true x n names)).1
type_renamed types own place n m lie (unary op ty t) names = refl
type_renamed types own place n m lie (binary op ty s t) names = refl
type_renamed types own place n m lie (select ty c s t) names = refl

typed_renamed : (types own : Types) (place : ℕ → ℕ) (n m : ℕ) → LieTyped types own place n m → (t : Term) → names_below n t ≡ true
    → IsTyped own t → IsTyped types (renamed place t)
typed_renamed types own place n m lie (constant ty v) names h = h
typed_renamed types own place n m lie (variable x) names h = tt
typed_renamed types own place n m lie (unary op ty t) names h = (
  typed_renamed types own place n m lie t names h.0,
  subst (λ (a : Ty). FitsUnary op ty a) (sym (type_renamed types own place n m lie t names)) h.1,
)
typed_renamed types own place n m lie (binary op ty s t) names h =
    let both = and_parts (names_below n s) (names_below n t) names in (
      typed_renamed types own place n m lie s both.0 h.0,
      typed_renamed types own place n m lie t both.1 h.1,
      subst (λ (a : Ty). FitsBinary op ty a (type_of types (renamed place t))) (sym (type_renamed types own place n m lie s both.0))
          (subst (λ (b : Ty). FitsBinary op ty (type_of own s) b) (sym (type_renamed types own place n m lie t both.1)) h.2),
    )
typed_renamed types own place n m lie (select ty c s t) names h =
    let both = and_parts (names_below n c && names_below n s) (names_below n t) names in
    let first = and_parts (names_below n c) (names_below n s) both.0 in (
      typed_renamed types own place n m lie c first.0 h.0,
      typed_renamed types own place n m lie s first.1 h.1,
      typed_renamed types own place n m lie t both.1 h.2,
      type_renamed types own place n m lie c first.0 ∙ h.3,
      type_renamed types own place n m lie s first.1 ∙ h.4,
      type_renamed types own place n m lie t both.1 ∙ h.5,
    )

below_renamed : (types own : Types) (place : ℕ → ℕ) (n m : ℕ) → LieTyped types own place n m → (t : Term) → names_below n t ≡ true
    → names_below m (renamed place t) ≡ true
below_renamed types own place n m lie (constant ty v) names = refl
below_renamed types own place n m lie (variable x) names = lt-ltb (place x) m (lie x (ltb-true x n names)).0
below_renamed types own place n m lie (unary op ty t) names = below_renamed types own place n m lie t names
below_renamed types own place n m lie (binary op ty s t) names =
    let both = and_parts (names_below n s) (names_below n t) names in
    and_so (names_below m (renamed place s)) (names_below m (renamed place t)) (below_renamed types own place n m lie s both.0)
    (below_renamed types own place n m lie t both.1)
below_renamed types own place n m lie (select ty c s t) names =
    let both = and_parts (names_below n c && names_below n s) (names_below n t) names in
    let first = and_parts (names_below n c) (names_below n s) both.0 in
    and_so (names_below m (renamed place c) && names_below m (renamed place s)) (names_below m (renamed place t))
    (and_so (names_below m (renamed place c)) (names_below m (renamed place s)) (below_renamed types own place n m lie c first.0)
    (below_renamed types own place n m lie s first.1)) (below_renamed types own place n m lie t both.1)

-- ---- edges

pub record IsSetBelow (m : ℕ) (types : Types) (set : Set) : Type 0 where
  pub typed : IsSet types set
  pub below : set_below m set ≡ true

-- typed, and over the first m variables alone
pub record IsTypedDrawn (m : ℕ) (types : Types) (d : Drawn) : Type 0 where
  pub guard : IsTyped types d.guard
  pub condition : type_of types d.guard ≡ Bool
  pub names : names_below m d.guard ≡ true
  pub sets : AllByRecursion (IsSetBelow m types) d.sets

pub record IsEdgeBelow (n : ℕ) (own : Types) (edge : Edge) : Type 0 where
  pub typed : IsEdge own edge
  pub below : edge_below n edge ≡ true

sets_drawn : (types own : Types) (place : ℕ → ℕ) (n m : ℕ) → LieTyped types own place n m → (sets : List Set) → AllByRecursion (IsSet own) sets
    → list_all (set_below n) sets ≡ true → AllByRecursion (IsSetBelow m types) (renamed_sets place sets)
sets_drawn types own place n m lie [] are below = tt
sets_drawn types own place n m lie (set ∷ sets) are below =
    let both = and_parts (set_below n set) (list_all (set_below n) sets) below in
    let one = and_parts (nat_lt set.variable n) (names_below n set.value) both.0 in (
      record {
        typed = record {
          typed = typed_renamed types own place n m lie set.value one.1 (are.0).typed;
          fits = type_renamed types own place n m lie set.value one.1
              ∙ ((are.0).fits ∙ sym (lie set.variable (ltb-true set.variable n one.0)).1);
        };
        below = and_so (nat_lt (place set.variable) m) (names_below m (renamed place set.value))
            (lt-ltb (place set.variable) m (lie set.variable (ltb-true set.variable n one.0)).0)
            (below_renamed types own place n m lie set.value one.1);
      },
      sets_drawn types own place n m lie sets are.1 both.1,
    )

edge_drawn : (blocks : Blocks) (body : Body) (types : Types) (n m : ℕ) → LieTyped types (types_of body.work.parts) body.work.place n m → (edge : Edge)
    → IsEdgeBelow n (types_of body.work.parts) edge → IsTypedDrawn m types (drawn_edge blocks body edge)
edge_drawn blocks body types n m lie edge is = record {
  guard = typed_renamed types own place n m lie edge.guard both.0 is.typed.guard;
  condition = type_renamed types own place n m lie edge.guard both.0 ∙ is.typed.condition;
  names = below_renamed types own place n m lie edge.guard both.0;
  sets = sets_drawn types own place n m lie edge.sets (recursion_from_All (IsSet own) edge.sets is.typed.sets) both.1;
}
  where
    own : Types
    own = types_of body.work.parts

    place : ℕ → ℕ
    place = body.work.place

    both : (names_below n edge.guard ≡ true) × (list_all (set_below n) edge.sets ≡ true)
    both = and_parts (names_below n edge.guard) (list_all (set_below n) edge.sets) is.below

edges_drawn : (blocks : Blocks) (body : Body) (types : Types) (n m l : ℕ) → LieTyped types (types_of body.work.parts) body.work.place n m
    → (edges : List Edge) → AllByRecursion (IsEdgeBelow n (types_of body.work.parts)) edges
    → AllByRecursion (IsTypedDrawn m types) (map (drawn_edge blocks body) (edges_from l edges))
edges_drawn blocks body types n m l lie [] are = tt
edges_drawn blocks body types n m l lie (edge ∷ edges) are = by (edge.from == l) (edges_drawn blocks body types n m l lie edges are.1)
  where
    by : (b : Truth) → AllByRecursion (IsTypedDrawn m types) (map (drawn_edge blocks body) (edges_from l edges))
        → AllByRecursion (IsTypedDrawn m types) (map (drawn_edge blocks body) (cond b (edge ∷ edges_from l edges) (edges_from l edges)))
    by true h = (edge_drawn blocks body types n m lie edge are.0, h)
    by false h = h

edges_below : (n : ℕ) (own : Types) (edges : List Edge) → AllByRecursion (IsEdge own) edges → list_all (edge_below n) edges ≡ true
    → AllByRecursion (IsEdgeBelow n own) edges
edges_below n own [] are below = tt
edges_below n own (edge ∷ edges) are below =
    let both = and_parts (edge_below n edge) (list_all (edge_below n) edges) below in
    (record { typed = are.0; below = both.0 }, edges_below n own edges are.1 both.1)

pub own_edges_below : (p : Parts) → IsSound p → AllByRecursion (IsEdgeBelow (length p.vars) (types_of p)) p.edges
own_edges_below p s =
    edges_below (length p.vars) (types_of p) p.edges (recursion_from_All (IsEdge (types_of p)) p.edges s.well_made.edges) below
  where
    below : list_all (edge_below (length p.vars)) p.edges ≡ true
    below = (and_parts (list_all (edge_below (length p.vars)) p.edges) _ s.faultless.variables).0

-- ---- the edges in and out

true_typed : (m : ℕ) (types : Types) (from : ℕ) (aim : Aim) (sets : List Set) → AllByRecursion (IsSetBelow m types) sets
    → IsTypedDrawn m types (record { from = from; aim = aim; guard = true_term; sets = sets })
true_typed m types from aim sets are =
    record { guard = record { from = omega (arith, ints); to = omega (arith, ints) }; condition = refl; names = refl; sets = are }

resets_typed : (m : ℕ) (types : Types) (p : Parts) (place : ℕ → ℕ) (x : ℕ) (vars : List Variable)
    → ((i : ℕ) (v : Variable) → slice_get vars i ≡ Some v → (place (x + i) < m) × (types (place (x + i)) ≡ v.ty))
    → AllByRecursion (IsSetBelow m types) (resets_from p place x vars)
resets_typed m types p place x [] lie = tt
resets_typed m types p place x (v ∷ vars) lie = by (begins_anew p x v) (resets_typed m types p place (suc x) vars later)
  where
    here : (place x < m) × (types (place x) ≡ v.ty)
    here = subst (λ (y : ℕ). (place y < m) × (types (place y) ≡ v.ty)) (none x) (lie 0 v refl)
      where
        none : (x : ℕ) → x + 0 ≡ x
        none x = omega arith

    later : (i : ℕ) (u : Variable) → slice_get vars i ≡ Some u → (place (suc x + i) < m) × (types (place (suc x + i)) ≡ u.ty)
    later i u e = subst (λ (y : ℕ). (place y < m) × (types (place y) ≡ u.ty)) (one x i) (lie (suc i) u e)
      where
        one : (x i : ℕ) → x + suc i ≡ suc x + i
        one x i = omega arith

    by : (b : Truth) → AllByRecursion (IsSetBelow m types) (resets_from p place (suc x) vars)
        → AllByRecursion (IsSetBelow m types) (cond b (reset place x v (resets_from p place (suc x) vars)) (resets_from p place (suc x) vars))
    by true h = (
      record { typed = record { typed = zero_fits v.ty; fits = sym here.1 }; below = and_so (nat_lt (place x) m) true (lt-ltb (place x) m here.0) refl },
      h,
    )
    by false h = h

-- ---- copies

all_append : (P : Drawn → Type 0) (xs ys : List Drawn) → AllByRecursion P xs → AllByRecursion P ys → AllByRecursion P (xs ++ ys)
all_append P [] ys are more = more
all_append P (x ∷ xs) ys are more = (are.0, all_append P xs ys are.1 more)

abbrev pub AreTypedDrawn : List Variable → List Drawn → Type 0
AreTypedDrawn vars ds = AllByRecursion (IsTypedDrawn (length vars) (type_at vars)) ds

abbrev TypedCopy : Blocks → List Variable → ℕ → Type 0
TypedCopy blocks vars c =
    (body : Body) → block_at blocks c ≡ Some body.work.parts → HasRoom blocks vars body.work → AreTypedDrawn vars (drawn blocks c body)

pub lie_typed : (blocks : Blocks) (vars : List Variable) (k : Work) → HasRoom blocks vars k
    → LieTyped (type_at vars) (types_of k.parts) k.place (length k.parts.vars) (length vars)
lie_typed blocks vars k room x lt = ((room.placed x lt).exists, (room.placed x lt).has_type)

typed_below : (blocks : Blocks) → AreFitting blocks → AreSound blocks → (vars : List Variable) (b : ℕ) (body : Body)
    → block_at blocks b ≡ Some body.work.parts → HasRoom blocks vars body.work
    → ((c : ℕ) → IsCalled body.work.parts.calls c → TypedCopy blocks vars c) → (n : ℕ) → AreTypedDrawn vars (drawn_below blocks (drawn blocks) body n)
typed_below blocks fit sound vars b body known room inner zero = tt
typed_below blocks fit sound vars b body known room inner (suc n) =
    all_append (IsTypedDrawn (length vars) (type_at vars)) (drawn_below blocks (drawn blocks) body n)
    (drawn_by blocks (drawn blocks) body n (end_at p n)) (typed_below blocks fit sound vars b body known room inner n) (by_end (end_at p n))
  where
    p : Parts
    p = body.work.parts

    s : IsSound p
    s = sound_at blocks sound b p known

    called : (c : Numbered) → call_from n 0 p.calls ≡ Some c → (o : Option Parts) → block_at blocks c.call.block ≡ o
        → AreTypedDrawn vars (drawn_call blocks (drawn blocks) body n c o)
    called c call None e = tt
    called c call (Some q) e = (
      true_typed (length vars) (type_at vars) (number_in blocks body n) _ (resets callee.work)
          (resets_typed (length vars) (type_at vars) q callee.work.place 0 q.vars lies),
      inner c.call.block (found_called n 0 p.calls c call) callee e callee_has,
    )
      where
        callee : Body
        callee = callee_body blocks body n c q

        callee_has : HasRoom blocks vars callee.work
        callee_has = callee_room blocks fit vars body.work n c q room call e (call_fits blocks fit b p q n c known call e) s.well_made.counts

        lies : (i : ℕ) (v : Variable) → slice_get q.vars i ≡ Some v
            → (callee.work.place (0 + i) < length vars) × (type_at vars (callee.work.place (0 + i)) ≡ v.ty)
        lies i v at = subst (λ (x : ℕ). (callee.work.place x < length vars) × (type_at vars (callee.work.place x) ≡ v.ty)) (none i) (
          (callee_has.placed i (slice_get_within q.vars i v at)).exists,
          (callee_has.placed i (slice_get_within q.vars i v at)).has_type ∙ ap (λ (o : Option Variable). type_in o) at,
        )
          where
            none : (i : ℕ) → i ≡ 0 + i
            none i = omega arith

    by_call : (o : Option Numbered) → call_from n 0 p.calls ≡ o → AreTypedDrawn vars (drawn_from blocks (drawn blocks) body n o)
    by_call None e =
        edges_drawn blocks body (type_at vars) (length p.vars) (length vars) n (lie_typed blocks vars body.work room) p.edges (own_edges_below p s)
    by_call (Some c) e = called c e (block_at blocks c.call.block) refl

    out : (o : Option Aim) → AreTypedDrawn vars (edges_out o (number_in blocks body n))
    out None = tt
    out (Some aim) = (true_typed (length vars) (type_at vars) (number_in blocks body n) aim [] tt, tt)

    by_end : (end : Option End) → AreTypedDrawn vars (drawn_by blocks (drawn blocks) body n end)
    by_end None = by_call (call_from n 0 p.calls) refl
    by_end (Some done) = out body.out
    by_end (Some (trap kind place)) = tt
    by_end (Some (over place)) = tt

pub copies_typed : (blocks : Blocks) → AreFitting blocks → AreSound blocks → (vars : List Variable) (b : ℕ) → TypedCopy blocks vars b
copies_typed blocks fit sound vars b =
    deep (λ n c. TypedCopy blocks vars c) blocks fit (λ n c none body at room. absurd (none-some body.work.parts (sym none ∙ at))) step b
  where
    step : (n c : ℕ) (p : Parts) → block_at blocks c ≡ Some p → ((d : ℕ) → runs_block blocks c d ≡ true → TypedCopy blocks vars d)
        → TypedCopy blocks vars c
    step n c p e below = λ body at room.
        subst (λ (ds : List Drawn). AreTypedDrawn vars ds) (sym (drawn_is blocks fit c body at))
        (typed_below blocks fit sound vars c body at room (λ d any. below d (is_run blocks c body.work.parts at d any)) body.work.parts.locations)

pub all_typed : (blocks : Blocks) → AreFitting blocks → AreSound blocks → (b : ℕ) (p : Parts) → block_at blocks b ≡ Some p
    → AreTypedDrawn (p.vars ++ added_by_calls (added blocks) p.calls) (drawn_all blocks p)
all_typed blocks fit sound b p at =
    typed_below blocks fit sound (p.vars ++ added_by_calls (added blocks) p.calls) b (entry_body p) at (entry_room blocks p)
    (λ c any. copies_typed blocks fit sound (p.vars ++ added_by_calls (added blocks) p.calls) c) p.locations

-- ---- edges with numbers

sets_typed : (m : ℕ) (types : Types) (sets : List Set) → AllByRecursion (IsSetBelow m types) sets
    → AllByRecursion (IsSet types) sets × (list_all (set_below m) sets ≡ true)
sets_typed m types [] are = (tt, refl)
sets_typed m types (set ∷ sets) are =
    let rest = sets_typed m types sets are.1 in
    (((are.0).typed, rest.0), and_so (set_below m set) (list_all (set_below m) sets) (are.0).below rest.1)

pub edges_typed : (m : ℕ) (types : Types) (next : ℕ) (ds : List Drawn) → AllByRecursion (IsTypedDrawn m types) ds
    → AllByRecursion (IsEdge types) (edges_of next ds) × (list_all (edge_below m) (edges_of next ds) ≡ true)
edges_typed m types next [] are = (tt, refl)
edges_typed m types next (d ∷ ds) are =
    let rest = edges_typed m types (next_by d.aim next) ds are.1 in
    let sets = sets_typed m types d.sets (are.0).sets in (
      (record { guard = (are.0).guard; condition = (are.0).condition; sets = All-from_recursion (IsSet types) d.sets sets.0 }, rest.0),
      and_so (names_below m d.guard && list_all (set_below m) d.sets) (list_all (edge_below m) (edges_of (next_by d.aim next) ds))
          (and_so (names_below m d.guard) (list_all (set_below m) d.sets) (are.0).names sets.1) rest.1,
    )
