-- Renamed terms and sets in a valuation do what a block at work does with its own; and resets are what a call begins with.
use Rattle.std.proofs.Common.{◌≡◌, ℕ, suc, ℤ, pos, List, [], ◌∷◌, Bool, true, false, cond, refl, ap, ◌∙◌}
use Rattle.pv_flow.specs.Terms.{Term, constant, variable, unary, binary, select, Valuation, is_true, unary_value, binary_value, select_value, value_of, holds_in}
use Rattle.pv_flow.specs.Automata.{Variable, Set, Parts}
use Rattle.pv_flow.specs.Runs.{put, set_over, assigned}
use Rattle.pv_flow.specs.Calls.{Work, seen, set_through, assigned_in, begins_anew, cleared_from, cleared}
use Rattle.pv_call_copies.specs.Renaming.{renamed, renamed_sets, reset, resets_from, resets}

pub value_renamed : (place : ℕ → ℕ) (w : Valuation) (t : Term) → value_of w (renamed place t) ≡ value_of (λ x. w (place x)) t
value_renamed place w (constant ty v) = refl
value_renamed place w (variable n) = refl
value_renamed place w (unary op ty t) = ap (λ (v : ℤ). unary_value op ty v) (value_renamed place w t)
value_renamed place w (binary op ty s t) =
    ap (λ (v : ℤ). binary_value op ty v (value_of w (renamed place t))) (value_renamed place w s)
    ∙ ap (λ (v : ℤ). binary_value op ty (value_of (λ x. w (place x)) s) v) (value_renamed place w t)
value_renamed place w (select ty c s t) =
    ap (λ (v : ℤ). select_value v (value_of w (renamed place s)) (value_of w (renamed place t))) (value_renamed place w c)
    ∙ ap (λ (v : ℤ). select_value (value_of (λ x. w (place x)) c) v (value_of w (renamed place t))) (value_renamed place w s)
    ∙ ap (λ (v : ℤ). select_value (value_of (λ x. w (place x)) c) (value_of (λ x. w (place x)) s) v) (value_renamed place w t)

pub holds_renamed : (k : Work) (w : Valuation) (t : Term) → holds_in w (renamed k.place t) ≡ holds_in (seen k w) t
holds_renamed k w t = ap (λ (v : ℤ). is_true v) (value_renamed k.place w t)

-- ---- sets

over_renamed : (place : ℕ → ℕ) (old : Valuation) (sets : List Set) (w : Valuation)
    → set_over old (renamed_sets place sets) w ≡ set_through place (λ x. old (place x)) sets w
over_renamed place old [] w = refl
over_renamed place old (set ∷ sets) w =
    over_renamed place old sets (put w (place set.variable) (value_of old (renamed place set.value)))
    ∙ ap (λ (v : ℤ). set_through place (λ x. old (place x)) sets (put w (place set.variable) v)) (value_renamed place old set.value)

pub assigned_renamed : (k : Work) (sets : List Set) (w : Valuation) → assigned (renamed_sets k.place sets) w ≡ assigned_in k sets w
assigned_renamed k sets w = over_renamed k.place w sets w

resets_over : (p : Parts) (place : ℕ → ℕ) (old : Valuation) (x : ℕ) (vars : List Variable) (w : Valuation)
    → set_over old (resets_from p place x vars) w ≡ cleared_from p place x vars w
resets_over p place old x [] w = refl
resets_over p place old x (v ∷ vars) w = by (begins_anew p x v) (λ u. resets_over p place old (suc x) vars u)
  where
    by : (b : Bool)
        → ((u : Valuation) → set_over old (resets_from p place (suc x) vars) u ≡ cleared_from p place (suc x) vars u)
        → set_over old (cond b (reset place x v (resets_from p place (suc x) vars)) (resets_from p place (suc x) vars)) w
        ≡ cleared_from p place (suc x) vars (cond b (put w (place x) (pos 0)) w)
    by true go = go (put w (place x) (pos 0))
    by false go = go w

pub resets_clear : (k : Work) (w : Valuation) → assigned (resets k) w ≡ cleared k w
resets_clear k w = resets_over k.parts k.place w 0 k.parts.vars w
