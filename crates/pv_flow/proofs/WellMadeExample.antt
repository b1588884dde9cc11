-- The conditions on an automaton can be met: that of a FOR loop meets them.
use Rattle.std.proofs.Common.{◌≡◌, ℕ, zero, suc, ◌+◌, ◌<◌, ◌≤◌, ◌⊎◌, inl, inr, ℤ, pos, negsuc, Bool as Truth, true, false, cond, List, [], ◌∷◌, length, slice_get, Option, Some, None, IfSome, refl, sym, subst, ap, ◌∙◌, arith}
use Rattle.std.specs.List.{All, AllByRecursion}
use Rattle.std.proofs.lemmas.Bool.{false≢true, true≢false, ne_eqb}
use Rattle.std.proofs.lemmas.Int.{ints}
use Rattle.std.proofs.lemmas.List.Elements.{All-nil, All-from_recursion}
use Rattle.pv_word.specs.declared.types.Ty.TheVariants.{Bool, Int}
use Rattle.pv_word.specs.Types.{InRange, not_of}
use Rattle.pv_word.specs.Wrap.{wrap_at}
use Rattle.pv_word.specs.Bits.{pattern_at}
use Rattle.pv_flow.specs.declared.op.BinaryOp.TheVariants.{SumOverflow}
use Rattle.pv_flow.specs.Terms.{Term, constant, variable, binary, Types, is_true, value_of, type_of, IsTyped}
use Rattle.pv_flow.specs.Automata.{Variable, Set, Edge, Loop, types_of, edges_from, calls_from}
use Rattle.pv_flow.specs.Faults.{IsFaultless}
use Rattle.pv_flow.specs.WellMade.{IsVariable, IsSet, IsEdge, OneIsTrue, is_end, leads_well, turns_well, IsLoop, AreApart, IsWellMade}
use Rattle.pv_flow.proofs.Typing.{zero_fits, bit_fits, typed_value}
use Rattle.pv_flow.proofs.Examples.{yes_term, set, test, one_more, counted}

none : 0 < 0 → ⊥
none h = absurd (omega (arith, h))

-- ---- guards

-- a value of BOOL is 0 or 1
bit_cases : (v : ℤ) → InRange Bool v → (v ≡ pos 0) ⊎ (v ≡ pos 1)
bit_cases (pos zero) h = inl refl
bit_cases (pos (suc zero)) h = inr refl
bit_cases (pos (suc (suc n))) h = absurd (omega (arith, ints, h.to))
bit_cases (negsuc n) h = absurd (omega (arith, ints, h.from))

-- of a condition and its negation one is true
abbrev Alone : ℤ → Type 0
Alone v = cond (is_true v) (1 + cond (is_true (not_of Bool v)) 1 0) (cond (is_true (not_of Bool v)) 1 0) ≡ 1

alone_of_0 : Alone (pos 0)
unfolding wrap_at pattern_at
alone_of_0 = refl

alone_of_1 : Alone (pos 1)
unfolding wrap_at pattern_at
alone_of_1 = refl

alone : (v : ℤ) → InRange Bool v → Alone v
alone v h = by (bit_cases v h)
  where
    by : (v ≡ pos 0) ⊎ (v ≡ pos 1) → Alone v
    by (inl e) = subst (λ (u : ℤ). Alone u) (sym e) alone_of_0
    by (inr e) = subst (λ (u : ℤ). Alone u) (sym e) alone_of_1

abbrev types : Types
types = types_of counted

test_is_typed : IsTyped types test
test_is_typed = ((tt, refl), ((tt, tt, (refl, refl)), refl), (refl, refl))

-- no edge begins at a location from 5 on
none_from : (l : ℕ) (edges : List Edge) → AllByRecursion (λ (edge : Edge). edge.from < 5) edges → 5 ≤ l → edges_from l edges ≡ []
none_from l [] h le = refl
none_from l (edge ∷ edges) h le =
    ap (λ (b : Truth). cond b (edge ∷ edges_from l edges) (edges_from l edges)) (ne_eqb edge.from l (λ e. absurd (omega (arith, e, h.0, le))))
    ∙ none_from l edges h.1 le

begin_below : AllByRecursion (λ (edge : Edge). edge.from < 5) counted.edges
begin_below = (omega arith, (omega arith, (omega arith, (omega arith, (omega arith, (omega arith, tt))))))

none_behind : (l : ℕ) → edges_from (suc (suc (suc (suc (suc l))))) counted.edges ≡ []
none_behind l = none_from (suc (suc (suc (suc (suc l))))) counted.edges begin_below (omega arith)

guards : OneIsTrue counted
guards zero w are some = refl
guards (suc zero) w are some = refl
guards (suc (suc zero)) w are some = alone (value_of w test) (typed_value (length counted.vars) types w are test refl test_is_typed)
guards (suc (suc (suc zero))) w are some = refl
guards (suc (suc (suc (suc zero)))) w are some = refl
guards (suc (suc (suc (suc (suc l))))) w are some =
    absurd (none (subst (λ (edges : List Edge). 0 < length edges) (none_behind l) some))

-- ---- edges

one_fits : InRange Int (pos 1)
one_fits = record { from = omega (arith, ints); to = omega (arith, ints) }

sixteen_fits : InRange Int (pos 16)
sixteen_fits = record { from = omega (arith, ints); to = omega (arith, ints) }

sets_are : (sets : List Set) → AllByRecursion (IsSet types) sets → All (IsSet types) sets
sets_are sets h = All-from_recursion (IsSet types) sets h

is_set : (x : ℕ) (t : Term) → IsTyped types t → type_of types t ≡ types x → IsSet types (set x t)
is_set x t typed fits = record { typed = typed; fits = fits }

abbrev begins : List Set
begins = set 1 (constant Int (pos 1)) ∷ set 2 yes_term ∷ set 3 (constant Int (pos 16)) ∷ set 4 (constant Bool (pos 0)) ∷ []

begins_are : AllByRecursion (IsSet types) begins
begins_are = (
  is_set 1 (constant Int (pos 1)) one_fits refl,
  (is_set 2 yes_term (bit_fits true) refl, (is_set 3 (constant Int (pos 16)) sixteen_fits refl, (is_set 4 (constant Bool (pos 0)) (bit_fits false) refl, tt))),
)

abbrev far : Term
far = binary (SumOverflow Int) Bool (variable 1) (constant Int (pos 1))

steps_are : AllByRecursion (IsSet types) (set 1 (one_more 1) ∷ set 4 far ∷ [])
steps_are = (is_set 1 (one_more 1) (tt, one_fits, (refl, refl)) refl, (is_set 4 far (tt, one_fits, (refl, refl, refl, refl)) refl, tt))

edges_are : AllByRecursion (IsEdge types) counted.edges
edges_are = (
  record { guard = bit_fits true; condition = refl; sets = sets_are begins begins_are },
  (
    record { guard = bit_fits true; condition = refl; sets = sets_are [] tt },
    (
      record { guard = test_is_typed; condition = refl; sets = sets_are [] tt },
      (
        record { guard = (test_is_typed, refl); condition = refl; sets = sets_are [] tt },
        (
          record { guard = bit_fits true; condition = refl; sets = sets_are (set 0 (one_more 0) ∷ []) (is_set 0 (one_more 0) (tt, one_fits, (refl, refl)) refl, tt) },
          (record { guard = bit_fits true; condition = refl; sets = sets_are (set 1 (one_more 1) ∷ set 4 far ∷ []) steps_are }, tt),
        ),
      ),
    ),
  ),
)

-- ---- variables

is_var : (v : Variable) → v.start ≡ pos 0 → v.only ≡ None → IsVariable v
is_var v start only = record {
  start = subst (λ (x : ℤ). InRange v.ty x) (sym start) (zero_fits v.ty);
  only = subst (λ (o : Option ℤ). IfSome o (λ value. InRange v.ty value)) (sym only) tt;
}

vars_are : AllByRecursion IsVariable counted.vars
vars_are = (is_var _ refl refl, (is_var _ refl refl, (is_var _ refl refl, (is_var _ refl refl, (is_var _ refl refl, tt)))))

-- ---- locations

ends : (l : ℕ) → is_end counted l ≡ true → length (calls_from l counted.calls) + length (edges_from l counted.edges) ≡ 0
ends zero e = absurd (false≢true e)
ends (suc zero) e = absurd (false≢true e)
ends (suc (suc zero)) e = absurd (false≢true e)
ends (suc (suc (suc zero))) e = absurd (false≢true e)
ends (suc (suc (suc (suc zero)))) e = absurd (false≢true e)
ends (suc (suc (suc (suc (suc l))))) e = ap (λ (edges : List Edge). 0 + length edges) (none_behind l)

some : (n : ℕ) → 0 < 1 + n
some n = omega arith

others : (l : ℕ) → l < 6 → is_end counted l ≡ false → 0 < length (calls_from l counted.calls) + length (edges_from l counted.edges)
others zero lt e = some 0
others (suc zero) lt e = some 0
others (suc (suc zero)) lt e = some 1
others (suc (suc (suc zero))) lt e = some 0
others (suc (suc (suc (suc zero)))) lt e = some 0
others (suc (suc (suc (suc (suc zero))))) lt e = absurd (true≢false e)
others (suc (suc (suc (suc (suc (suc l)))))) lt e = absurd (omega (arith, lt))

-- ---- the loop

abbrev turning : Loop
turning = record { first = 2; last = 4; entry_turn = false; turns = 2 ∷ []; place = record { file = 0; offset = 0 } }

turns : (e : ℕ) → IfSome (slice_get counted.edges e) (λ edge. turns_well turning e edge ≡ true)
turns zero = refl
turns (suc zero) = refl
turns (suc (suc zero)) = refl
turns (suc (suc (suc zero))) = refl
turns (suc (suc (suc (suc zero)))) = refl
turns (suc (suc (suc (suc (suc zero))))) = refl
turns (suc (suc (suc (suc (suc (suc e)))))) = tt

is_loop : IsLoop counted turning
is_loop = record { range = omega arith; turns = turns; calls = All-nil _; outside = refl }

apart : (i j : ℕ) → i < j
    → IfSome (slice_get counted.loops i) (λ loop. IfSome (slice_get counted.loops j) (λ other. AreApart loop other))
apart zero zero lt = absurd (none lt)
apart zero (suc j) lt = tt
apart (suc i) j lt = tt

forward : (e : ℕ) → IfSome (slice_get counted.edges e) (λ edge. leads_well counted.loops (Some e) edge.from edge.to ≡ true)
forward zero = refl
forward (suc zero) = refl
forward (suc (suc zero)) = refl
forward (suc (suc (suc zero))) = refl
forward (suc (suc (suc (suc zero)))) = refl
forward (suc (suc (suc (suc (suc zero))))) = refl
forward (suc (suc (suc (suc (suc (suc e)))))) = tt

-- ---- the whole

counted_is_faultless : IsFaultless counted
counted_is_faultless = record { locations = refl; variables = refl; loops = refl }

counted_is_well_made : IsWellMade counted
counted_is_well_made = record {
  vars = All-from_recursion IsVariable counted.vars vars_are;
  counts = omega arith;
  edges = All-from_recursion (IsEdge types) counted.edges edges_are;
  guards = guards;
  calls = λ l h. absurd (none h);
  ends = ends;
  others = others;
  different = refl;
  begins = refl;
  loops = All-from_recursion (IsLoop counted) counted.loops (is_loop, tt);
  apart = apart;
  forward = forward;
  calls_forward = All-nil _;
}
