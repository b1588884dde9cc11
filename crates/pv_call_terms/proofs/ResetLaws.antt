-- What an edge into a called block sets.
use Rattle.std.proofs.Common.{◌≡◌, ℕ, suc, ◌+◌, ◌<◌, ◌≤◌, pos, List, [], ◌∷◌, ◌++◌, map, length, length-append, append_assoc, append-nil, Bool, true, false, cond, refl, sym, subst, ap, ◌∙◌, arith}
use Rattle.std.proofs.lemmas.List.{get_or-append-add}
use Rattle.pv_flow.specs.declared.parts.Variable.{Variable as CodeVariable}
use Rattle.pv_flow.specs.declared.parts.Set.{Set as CodeSet}
use Rattle.pv_flow.specs.Terms.{Term, constant}
use Rattle.pv_flow.specs.Automata.{Variable, Set, Parts}
use Rattle.pv_flow.specs.View.{false_term, term_at, terms_after, terms_of, variable_of, set_of}
use Rattle.pv_call_copies.specs.Renaming.{reset, resets_from}
use Rattle.pv_call_terms.specs.declared.numbers.TheConstants.{MOST}
use Rattle.pv_call_terms.specs.Numbers.{narrow}
use Rattle.pv_call_terms.specs.Resets.{anew, nodes_by, sets_by, reset_nodes, reset_sets}
use Rattle.pv_call_terms.specs.Correct.{ResetsAreMade}
use Rattle.pv_call_terms.proofs.Small.{narrow_is}
use Rattle.pv_call_terms.proofs.Copied.{terms_joined, terms_count}

-- ---- what the sets mean

abbrev terms_by : Bool → CodeVariable → List Term
terms_by true v = constant v.ty (pos 0) ∷ []
terms_by false v = []

abbrev reset_terms : ℕ → ℕ → ℕ → List CodeVariable → List Term
reset_terms bound shared x [] = []
reset_terms bound shared x (v ∷ vars) = terms_by (anew bound shared x v.role) v ++ reset_terms bound shared (suc x) vars

one_by : (terms : List Term) (b : Bool) (v : CodeVariable) → terms_after terms (nodes_by b v) ≡ terms ++ terms_by b v
one_by terms true v = refl
one_by terms false v = sym (append-nil terms)

terms_reset : (bound shared x : ℕ) (vars : List CodeVariable) (terms : List Term)
    → terms_after terms (reset_nodes bound shared x vars) ≡ terms ++ reset_terms bound shared x vars
terms_reset bound shared x [] terms = sym (append-nil terms)
terms_reset bound shared x (v ∷ vars) terms =
    terms_joined terms (nodes_by (anew bound shared x v.role) v) (reset_nodes bound shared (suc x) vars)
    ∙ ap (λ (ts : List Term). terms_after ts (reset_nodes bound shared (suc x) vars)) (one_by terms (anew bound shared x v.role) v)
    ∙ terms_reset bound shared (suc x) vars (terms ++ terms_by (anew bound shared x v.role) v)
    ∙ append_assoc terms (terms_by (anew bound shared x v.role) v) (reset_terms bound shared (suc x) vars)

abbrev sets_of_table : List Term → List CodeSet → List Set
sets_of_table terms sets = map (set_of terms) sets

-- one variable, by whether it begins anew, and those after it
sets_step : (p : Parts) (own : ℕ → ℕ) (place : ℕ → ℕ) (x : ℕ) (v : CodeVariable) (vars : List CodeVariable) (terms : List Term) (b : Bool)
    (rest : List Term) → place x ≡ own x → length terms + length (terms_by b v) ≤ MOST
    → ((ts : List Term) → ts ≡ terms ++ terms_by b v → sets_of_table (ts ++ rest) (reset_sets place p.bound p.shared (length ts) (suc x) vars)
    ≡ resets_from p own (suc x) (map variable_of vars))
    → sets_of_table (terms ++ (terms_by b v ++ rest))
    (sets_by b (place x) (length terms) ++ reset_sets place p.bound p.shared (length terms + length (nodes_by b v)) (suc x) vars)
    ≡ cond b (reset own x (variable_of v) (resets_from p own (suc x) (map variable_of vars))) (resets_from p own (suc x) (map variable_of vars))
sets_step p own place x v vars terms true rest same most go =
    ap (λ (t : Term). let s : Set = record { variable = place x; value = t } in
    s ∷ sets_of_table (terms ++ (constant v.ty (pos 0) ∷ rest)) (reset_sets place p.bound p.shared (length terms + 1) (suc x) vars)) found
    ∙ ap (λ (n : ℕ). let s : Set = record { variable = n; value = constant v.ty (pos 0) } in
    s ∷ sets_of_table (terms ++ (constant v.ty (pos 0) ∷ rest)) (reset_sets place p.bound p.shared (length terms + 1) (suc x) vars)) same
    ∙ ap (λ (ss : List Set). let s : Set = record { variable = own x; value = constant v.ty (pos 0) } in s ∷ ss) later
  where
    none : (n : ℕ) → n ≡ n + 0
    none n = omega arith

    found : term_at (terms ++ (constant v.ty (pos 0) ∷ rest)) (narrow (length terms)) ≡ constant v.ty (pos 0)
    found =
        ap (λ (i : ℕ). term_at (terms ++ (constant v.ty (pos 0) ∷ rest)) i)
        (narrow_is (length terms) (omega (arith, most)) ∙ none (length terms))
        ∙ get_or-append-add terms (constant v.ty (pos 0) ∷ rest) 0 false_term

    later : sets_of_table (terms ++ (constant v.ty (pos 0) ∷ rest)) (reset_sets place p.bound p.shared (length terms + 1) (suc x) vars)
        ≡ resets_from p own (suc x) (map variable_of vars)
    later =
        ap (λ (ts : List Term). sets_of_table ts (reset_sets place p.bound p.shared (length terms + 1) (suc x) vars))
        (sym (append_assoc terms (constant v.ty (pos 0) ∷ []) rest))
        ∙ ap (λ (n : ℕ). sets_of_table ((terms ++ constant v.ty (pos 0) ∷ []) ++ rest) (reset_sets place p.bound p.shared n (suc x) vars))
        (sym (length-append terms (constant v.ty (pos 0) ∷ [])))
        ∙ go (terms ++ constant v.ty (pos 0) ∷ []) refl
sets_step p own place x v vars terms false rest same most go =
    ap (λ (n : ℕ). sets_of_table (terms ++ rest) (reset_sets place p.bound p.shared n (suc x) vars)) (none (length terms))
    ∙ go terms (sym (append-nil terms))
  where
    none : (n : ℕ) → n + 0 ≡ n
    none n = omega arith

sets_from : (p : Parts) (own place : ℕ → ℕ) (x : ℕ) (vars : List CodeVariable) (terms : List Term)
    → ((y : ℕ) → y < x + length vars → place y ≡ own y) → length terms + length (reset_terms p.bound p.shared x vars) ≤ MOST
    → sets_of_table (terms ++ reset_terms p.bound p.shared x vars) (reset_sets place p.bound p.shared (length terms) x vars)
    ≡ resets_from p own x (map variable_of vars)
sets_from p own place x [] terms same most = refl
sets_from p own place x (v ∷ vars) terms same most =
    sets_step p own place x v vars terms (anew p.bound p.shared x v.role) (reset_terms p.bound p.shared (suc x) vars)
    (same x (omega arith)) (first_part (length terms) (length (terms_by (anew p.bound p.shared x v.role) v))
    (length (reset_terms p.bound p.shared (suc x) vars)) MOST room)
    (λ ts is. sets_from p own place (suc x) vars ts (λ y lt. same y (omega (arith, lt)))
    (enough ts is))
  where
    first_part : (a t r m : ℕ) → a + (t + r) ≤ m → a + t ≤ m
    first_part a t r m le = omega (arith, le)

    rest_too : (n a t r m : ℕ) → n ≡ a + t → a + (t + r) ≤ m → n + r ≤ m
    rest_too n a t r m e le = omega (arith, e, le)

    room : length terms + (length (terms_by (anew p.bound p.shared x v.role) v) + length (reset_terms p.bound p.shared (suc x) vars)) ≤ MOST
    room = subst (λ (n : ℕ). length terms + n ≤ MOST)
        (length-append (terms_by (anew p.bound p.shared x v.role) v) (reset_terms p.bound p.shared (suc x) vars)) most

    enough : (ts : List Term) → ts ≡ terms ++ terms_by (anew p.bound p.shared x v.role) v
        → length ts + length (reset_terms p.bound p.shared (suc x) vars) ≤ MOST
    enough ts is = rest_too (length ts) (length terms) (length (terms_by (anew p.bound p.shared x v.role) v))
        (length (reset_terms p.bound p.shared (suc x) vars)) MOST
        (ap (λ (zs : List Term). length zs) is ∙ length-append terms (terms_by (anew p.bound p.shared x v.role) v)) room

-- a term for each node
as_many : (bound shared x : ℕ) (vars : List CodeVariable) → length (reset_terms bound shared x vars) ≡ length (reset_nodes bound shared x vars)
as_many bound shared x [] = refl
as_many bound shared x (v ∷ vars) =
    length-append (terms_by (anew bound shared x v.role) v) (reset_terms bound shared (suc x) vars)
    ∙ ap (λ (n : ℕ). length (terms_by (anew bound shared x v.role) v) + n) (as_many bound shared (suc x) vars)
    ∙ ap (λ (n : ℕ). n + length (reset_nodes bound shared (suc x) vars)) (one (anew bound shared x v.role))
    ∙ sym (length-append (nodes_by (anew bound shared x v.role) v) (reset_nodes bound shared (suc x) vars))
  where
    one : (b : Bool) → length (terms_by b v) ≡ length (nodes_by b v)
    one true = refl
    one false = refl

pub resets_are_made : ResetsAreMade
resets_are_made k place old vars seen same most =
    ap (λ (ts : List Term). sets_of_table ts (reset_sets place k.parts.bound k.parts.shared (length old) 0 vars))
    (terms_joined [] old (reset_nodes k.parts.bound k.parts.shared 0 vars)
    ∙ terms_reset k.parts.bound k.parts.shared 0 vars (terms_of old))
    ∙ ap (λ (n : ℕ). sets_of_table (terms_of old ++ reset_terms k.parts.bound k.parts.shared 0 vars)
    (reset_sets place k.parts.bound k.parts.shared n 0 vars)) (sym (terms_count old))
    ∙ sets_from k.parts k.place place 0 vars (terms_of old) (λ y lt. same y (omega (arith, lt)))
    (subst (λ (n : ℕ). n + length (reset_terms k.parts.bound k.parts.shared 0 vars) ≤ MOST) (sym (terms_count old))
    (subst (λ (n : ℕ). length old + n ≤ MOST) (sym (as_many k.parts.bound k.parts.shared 0 vars)) most))
    ∙ ap (λ (vs : List Variable). resets_from k.parts k.place 0 vs) seen
