-- Terms and sets of a block at work: each variable stands where the block's variable lies. And what is set where a call begins.
use Rattle.std.specs.Prelude.{ℕ, suc, pos, List, [], ◌∷◌, cond}
use Rattle.pv_word.specs.declared.types.Ty.TheVariants.{Bool}
use Rattle.pv_flow.specs.Terms.{Term, constant, variable, unary, binary, select}
use Rattle.pv_flow.specs.Automata.{Variable, Set, Parts}
use Rattle.pv_flow.specs.Calls.{Work, begins_anew}

abbrev pub renamed : (ℕ → ℕ) → Term → Term
renamed place (constant ty v) = constant ty v
renamed place (variable n) = variable (place n)
renamed place (unary op ty t) = unary op ty (renamed place t)
renamed place (binary op ty s t) = binary op ty (renamed place s) (renamed place t)
renamed place (select ty c s t) = select ty (renamed place c) (renamed place s) (renamed place t)

abbrev pub renamed_sets : (ℕ → ℕ) → List Set → List Set
renamed_sets place [] = []
renamed_sets place (set ∷ sets) = record { variable = place set.variable; value = renamed place set.value } ∷ renamed_sets place sets

-- a variable becomes 0, and what is set besides
abbrev pub reset : (ℕ → ℕ) → ℕ → Variable → List Set → List Set
reset place x v sets = record { variable = place x; value = constant v.ty (pos 0) } ∷ sets

-- of the variables that begin anew; they are numbered from x on
abbrev pub resets_from : Parts → (ℕ → ℕ) → ℕ → List Variable → List Set
resets_from p place x [] = []
resets_from p place x (v ∷ vars) =
    cond (begins_anew p x v) (reset place x v (resets_from p place (suc x) vars)) (resets_from p place (suc x) vars)

-- where a call of the block at work begins
abbrev pub resets : Work → List Set
resets k = resets_from k.parts k.place 0 k.parts.vars

abbrev pub true_term : Term
true_term = constant Bool (pos 1)
