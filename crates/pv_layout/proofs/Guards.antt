-- Guards. What And and Not say of the bits of their operands' values holds in every valuation, so of a spot's edges exactly one guard is
-- true: as long as no check fails, what is left of the edges has one true guard, and after one that fails none.
use Rattle.std.proofs.Common.{◌≡◌, ℕ, zero, suc, ◌+◌, ◌-◌, ◌^◌, ◌<◌, ℤ, pos, bit_and, Bool as Truth, true, false, not, ◌&&◌, ◌==◌, cond, List, [], ◌∷◌, ◌++◌, Some, None, refl, ap, ◌∙◌, arith}
use Rattle.std.proofs.lemmas.Bool.{true≢false, false≢true}
use Rattle.pv_word.specs.declared.types.Ty.TheVariants.{Bool}
use Rattle.pv_word.specs.Wrap.{wrap_at}
use Rattle.pv_word.specs.Bits.{pattern_at}
use Rattle.pv_word.specs.Types.{width_of, wrap_of, pattern_of}
use Rattle.pv_word.proofs.ForCallers.{pattern-lt}
use Rattle.pv_flow.specs.Terms.{Term, Valuation, value_of, is_true, holds_in}
use Rattle.pv_flow.specs.Automata.{Edge}
use Rattle.pv_flow.specs.WellMade.{true_guards}
use Rattle.pv_layout.specs.Spots.{Check, Way, Spot, Act, Branch, Enter, is_on, true_term, both, negated, none_of, check_edges, way_edge, way_edges, edges_at}
use Rattle.pv_layout.specs.Correct.{Target, target_of, first_true, target_by, target_or, chosen, ways_taken}

-- ---- bits

small : (z : ℤ) → pattern_of Bool z < 2
small z = pattern-lt 1 z

and_holds : (p q : ℕ) → p < 2 → q < 2 → is_true (wrap_of Bool (pos (bit_and p q))) ≡ ((p == 1) && (q == 1))
unfolding wrap_at pattern_at
and_holds zero zero h k = refl
and_holds zero (suc zero) h k = refl
and_holds (suc zero) zero h k = refl
and_holds (suc zero) (suc zero) h k = refl
and_holds (suc (suc p)) q h k = absurd (omega (arith, h))
and_holds zero (suc (suc q)) h k = absurd (omega (arith, k))
and_holds (suc zero) (suc (suc q)) h k = absurd (omega (arith, k))

and_on : (p q : ℕ) → p < 2 → q < 2 → (pattern_of Bool (wrap_of Bool (pos (bit_and p q))) == 1) ≡ ((p == 1) && (q == 1))
unfolding wrap_at pattern_at
and_on zero zero h k = refl
and_on zero (suc zero) h k = refl
and_on (suc zero) zero h k = refl
and_on (suc zero) (suc zero) h k = refl
and_on (suc (suc p)) q h k = absurd (omega (arith, h))
and_on zero (suc (suc q)) h k = absurd (omega (arith, k))
and_on (suc zero) (suc (suc q)) h k = absurd (omega (arith, k))

not_on : (p : ℕ) → p < 2 → (pattern_of Bool (wrap_of Bool (pos (2 ^ width_of Bool - (p + 1)))) == 1) ≡ not (p == 1)
unfolding wrap_at pattern_at
not_on zero h = refl
not_on (suc zero) h = refl
not_on (suc (suc p)) h = absurd (omega (arith, h))

pub holds_both : (w : Valuation) (s t : Term) → holds_in w (both s t) ≡ (is_on w s && is_on w t)
holds_both w s t = and_holds (pattern_of Bool (value_of w s)) (pattern_of Bool (value_of w t)) (small (value_of w s)) (small (value_of w t))

pub on_both : (w : Valuation) (s t : Term) → is_on w (both s t) ≡ (is_on w s && is_on w t)
on_both w s t = and_on (pattern_of Bool (value_of w s)) (pattern_of Bool (value_of w t)) (small (value_of w s)) (small (value_of w t))

pub on_negated : (w : Valuation) (t : Term) → is_on w (negated t) ≡ not (is_on w t)
on_negated w t = not_on (pattern_of Bool (value_of w t)) (small (value_of w t))

and_true : (b : Truth) → (b && true) ≡ b
and_true true = refl
and_true false = refl

and_false : (b : Truth) → (b && false) ≡ false
and_false true = refl
and_false false = refl

-- ---- no check before fails, or one does

-- the term is true, or false, as a guard and as a bit
pub record IsBit (w : Valuation) (t : Term) (b : Truth) : Type 0 where
  pub on : is_on w t ≡ b
  pub held : holds_in w t ≡ b

pub true_is : (w : Valuation) → IsBit w true_term true
unfolding pattern_at
true_is w = record { on = refl; held = refl }

both_is : (w : Valuation) (s t : Term) (b : Truth) → (is_on w s && is_on w t) ≡ b → IsBit w (both s t) b
both_is w s t b e = record { on = on_both w s t ∙ e; held = holds_both w s t ∙ e }

-- after a check that doesn't fail it stays true
pub clear_more : (w : Valuation) (none fails : Term) → IsBit w none true → is_on w fails ≡ false → IsBit w (both none (negated fails)) true
clear_more w none fails is off = both_is w none (negated fails) true
    (ap (λ (b : Truth). b && is_on w (negated fails)) is.on ∙ (on_negated w fails ∙ ap (λ (b : Truth). not b) off))

-- after one that fails, and further on, it is false
failed_more : (w : Valuation) (none fails : Term) → is_on w fails ≡ true → IsBit w (both none (negated fails)) false
failed_more w none fails on = both_is w none (negated fails) false
    (ap (λ (b : Truth). is_on w none && b) (on_negated w fails ∙ ap (λ (b : Truth). not b) on) ∙ and_false (is_on w none))

off_more : (w : Valuation) (none fails : Term) → IsBit w none false → IsBit w (both none (negated fails)) false
off_more w none fails is = both_is w none (negated fails) false (ap (λ (b : Truth). b && is_on w (negated fails)) is.on)

-- beside a term that is true a guard is the bit, beside one that is false it is false
pub beside : (w : Valuation) (t none : Term) → IsBit w none true → holds_in w (both t none) ≡ is_on w t
beside w t none is = holds_both w t none ∙ (ap (λ (b : Truth). is_on w t && b) is.on ∙ and_true (is_on w t))

beside_off : (w : Valuation) (t none : Term) → IsBit w none false → holds_in w (both t none) ≡ false
beside_off w t none is = holds_both w t none ∙ (ap (λ (b : Truth). is_on w t && b) is.on ∙ and_false (is_on w t))

-- ---- the first true guard

first_step : (w : Valuation) (edge : Edge) (more : List Edge) (here tail : Target) (h o : Truth) → h ≡ o → target_of (Some edge) ≡ Some here
    → (o ≡ false → target_of (first_true w more) ≡ Some tail)
    → target_of (elim h [ true ↦ Some edge | false ↦ first_true w more ]) ≡ Some (elim o [ true ↦ here | false ↦ tail ])
first_step w edge more here tail true true e at go = at
first_step w edge more here tail false false e at go = go refl
first_step w edge more here tail true false e at go = absurd (true≢false e)
first_step w edge more here tail false true e at go = absurd (false≢true e)

checks_choose : (w : Valuation) (done t l : ℕ) (none : Term) (checks : List Check) (rest : Term → List Edge) (next : Target)
    → IsBit w none true → ((last : Term) → IsBit w last true → target_of (first_true w (rest last)) ≡ Some next)
    → target_of (first_true w (check_edges done t l none checks ++ rest (none_of none checks))) ≡ Some (target_or done t w checks next)
checks_choose w done t l none [] rest next is go = go none is
checks_choose w done t l none (check ∷ checks) rest next is go = first_step w
    (record { from = l; to = done + suc t; guard = both check.fails none; sets = [] })
    (check_edges done (suc t) l (both none (negated check.fails)) checks ++ rest (none_of (both none (negated check.fails)) checks))
    (record { to = done + suc t; sets = [] }) (target_or done (suc t) w checks next)
    (holds_in w (both check.fails none)) (is_on w check.fails) (beside w check.fails none is) refl
    (λ off. checks_choose w done (suc t) l (both none (negated check.fails)) checks rest next (clear_more w none check.fails is off) go)

act_chooses : (w : Valuation) (l : ℕ) (on : Way) (last : Term) → IsBit w last true
    → target_of (first_true w (way_edge l last on ∷ [])) ≡ Some (target_by on)
act_chooses w l on last is =
    ap (λ (b : Truth). target_of (elim b [ true ↦ Some (way_edge l last on) | false ↦ None ])) is.held

branch_chooses : (w : Valuation) (l : ℕ) (c : Term) (one other : Way) (last : Term) → IsBit w last true
    → target_of (first_true w (way_edge l (both c last) one ∷ way_edge l (both (negated c) last) other ∷ []))
    ≡ Some (elim (is_on w c) [ true ↦ target_by one | false ↦ target_by other ])
branch_chooses w l c one other last is = first_step w (way_edge l (both c last) one) (way_edge l (both (negated c) last) other ∷ [])
    (target_by one) (target_by other) (holds_in w (both c last)) (is_on w c) (beside w c last is) refl
    (λ off. ap (λ (b : Truth). target_of (elim b [ true ↦ Some (way_edge l (both (negated c) last) other) | false ↦ None ]))
    (beside w (negated c) last is ∙ (on_negated w c ∙ ap (λ (b : Truth). not b) off)))

pub spots_choose : (done t l : ℕ) (spot : Spot) (w : Valuation) → target_of (first_true w (edges_at done t l spot)) ≡ chosen done t w spot
spots_choose done t l (Act checks on) w = checks_choose w done t l true_term checks (λ last. way_edges l last (Act checks on))
    (target_by on)
    (true_is w) (act_chooses w l on)
spots_choose done t l (Branch checks c one other) w = checks_choose w done t l true_term checks
    (λ last. way_edges l last (Branch checks c one other))
    (elim (is_on w c) [ true ↦ target_by one | false ↦ target_by other ]) (true_is w) (branch_chooses w l c one other)
spots_choose done t l (Enter block instance place to) w = refl

-- ---- how many guards are true

count_off : (h : Truth) (m : ℕ) → h ≡ false → m ≡ 0 → cond h (1 + m) m ≡ 0
count_off true m e f = absurd (true≢false e)
count_off false m e f = f

count_one : (h o : Truth) (m : ℕ) → h ≡ o → (o ≡ true → m ≡ 0) → (o ≡ false → m ≡ 1) → cond h (1 + m) m ≡ 1
count_one true true m e f g = ap (λ (k : ℕ). 1 + k) (f refl)
count_one false false m e f g = g refl
count_one true false m e f g = absurd (true≢false e)
count_one false true m e f g = absurd (false≢true e)

none_true : (w : Valuation) (done t l : ℕ) (none : Term) (checks : List Check) (rest : Term → List Edge) → IsBit w none false
    → ((last : Term) → IsBit w last false → true_guards w (rest last) ≡ 0)
    → true_guards w (check_edges done t l none checks ++ rest (none_of none checks)) ≡ 0
none_true w done t l none [] rest is go = go none is
none_true w done t l none (check ∷ checks) rest is go = count_off (holds_in w (both check.fails none))
    (true_guards w (check_edges done (suc t) l (both none (negated check.fails)) checks ++ rest
    (none_of (both none (negated check.fails)) checks)))
    (beside_off w check.fails none is)
    (none_true w done (suc t) l (both none (negated check.fails)) checks rest (off_more w none check.fails is) go)

one_true : (w : Valuation) (done t l : ℕ) (none : Term) (checks : List Check) (rest : Term → List Edge) → IsBit w none true
    → ((last : Term) → IsBit w last true → true_guards w (rest last) ≡ 1)
    → ((last : Term) → IsBit w last false → true_guards w (rest last) ≡ 0)
    → true_guards w (check_edges done t l none checks ++ rest (none_of none checks)) ≡ 1
one_true w done t l none [] rest is go off = go none is
one_true w done t l none (check ∷ checks) rest is go off = count_one (holds_in w (both check.fails none)) (is_on w check.fails)
    (true_guards w (check_edges done (suc t) l (both none (negated check.fails)) checks ++ rest
    (none_of (both none (negated check.fails)) checks)))
    (beside w check.fails none is)
    (λ fails. none_true w done (suc t) l (both none (negated check.fails)) checks rest (failed_more w none check.fails fails) off)
    (λ clear. one_true w done (suc t) l (both none (negated check.fails)) checks rest (clear_more w none check.fails is clear) go off)

act_one : (w : Valuation) (l : ℕ) (on : Way) (last : Term) (b : Truth) → IsBit w last b
    → true_guards w (way_edge l last on ∷ []) ≡ cond b 1 0
act_one w l on last b is = ap (λ (h : Truth). cond h 1 0) is.held

branch_one : (w : Valuation) (l : ℕ) (c : Term) (one other : Way) (last : Term) → IsBit w last true
    → true_guards w (way_edge l (both c last) one ∷ way_edge l (both (negated c) last) other ∷ []) ≡ 1
branch_one w l c one other last is = count_one (holds_in w (both c last)) (is_on w c) (cond (holds_in w (both (negated c) last)) 1 0)
    (beside w c last is)
    (λ on. ap (λ (h : Truth). cond h 1 0) (beside w (negated c) last is ∙ (on_negated w c ∙ ap (λ (b : Truth). not b) on)))
    (λ off. ap (λ (h : Truth). cond h 1 0) (beside w (negated c) last is ∙ (on_negated w c ∙ ap (λ (b : Truth). not b) off)))

branch_off : (w : Valuation) (l : ℕ) (c : Term) (one other : Way) (last : Term) → IsBit w last false
    → true_guards w (way_edge l (both c last) one ∷ way_edge l (both (negated c) last) other ∷ []) ≡ 0
branch_off w l c one other last is = count_off (holds_in w (both c last)) (cond (holds_in w (both (negated c) last)) 1 0)
    (beside_off w c last is)
    (ap (λ (h : Truth). cond h 1 0) (beside_off w (negated c) last is))

pub one_edge : (done t l : ℕ) (spot : Spot) (w : Valuation) → true_guards w (edges_at done t l spot) ≡ ways_taken spot
one_edge done t l (Act checks on) w = one_true w done t l true_term checks (λ last. way_edges l last (Act checks on)) (true_is w)
    (λ last is. act_one w l on last true is) (λ last is. act_one w l on last false is)
one_edge done t l (Branch checks c one other) w = one_true w done t l true_term checks
    (λ last. way_edges l last (Branch checks c one other))
    (true_is w) (branch_one w l c one other) (branch_off w l c one other)
one_edge done t l (Enter block instance place to) w = refl
