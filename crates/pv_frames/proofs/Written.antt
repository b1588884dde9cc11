-- Clauses as they are written: they are clauses, and mean the same.
-- The simplification of clauses is one law on lists (`written-means`, `written-valid`), so no gate is looked at twice.
use Rattle.std.proofs.Common.{◌≡◌, ℕ, ◌<◌, Bool, true, false, not, cond, eqb, ◌||◌, ◌&&◌, List, [], ◌∷◌, length, refl, sym, ◌∙◌, ap, arith}
use Rattle.std.specs.List.{list_any, list_all, filter, flat_map}
use Rattle.std.proofs.lemmas.Bool.{or_parts, or_from, or_left, or_right, true≢false, eqb-true}
use Rattle.std.proofs.lemmas.List.Folds.{list_all-append}
use Rattle.pv_cnf.specs.Literal.{variable_of, complement, literal_value, is_outside}
use Rattle.pv_cnf.specs.Clause.{has_outside, has_variable, has_double, AreClauses, clause_value}
use Rattle.pv_frames.specs.Formulas.{has_complements, once, written}
use Rattle.pv_frames.proofs.Literals.{value-complement, apart}

-- what is in front, where the test is known
any-kept : (p : ℕ → Bool) (keep : Bool) (x : ℕ) (xs : List ℕ) → p x ≡ false → list_any p (cond keep (x ∷ xs) xs) ≡ list_any p xs
any-kept p true x xs fails = ap (λ (b : Bool). b || list_any p xs) fails
any-kept p false x xs fails = refl

any-filter : (p q : ℕ → Bool) (xs : List ℕ) → list_any p xs ≡ false → list_any p (filter q xs) ≡ false
any-filter p q [] h = refl
any-filter p q (x ∷ xs) h =
    let parts = or_parts (p x) (list_any p xs) h in
    any-kept p (q x) x (filter q xs) parts.0 ∙ any-filter p q xs parts.1

any-once : (p : ℕ → Bool) (xs : List ℕ) → list_any p xs ≡ false → list_any p (once xs) ≡ false
any-once p [] h = refl
any-once p (x ∷ xs) h =
    let parts = or_parts (p x) (list_any p xs) h in
    or_from (p x) (list_any p (filter (λ (o : ℕ). not (eqb o x)) (once xs))) parts.0 (any-filter p (λ (o : ℕ). not (eqb o x)) (once xs) (any-once p xs parts.1))

double-kept : (keep : Bool) (x : ℕ) (xs : List ℕ) → has_variable (variable_of x) xs ≡ false → has_double (cond keep (x ∷ xs) xs) ≡ has_double xs
double-kept true x xs fails = ap (λ (b : Bool). b || has_double xs) fails
double-kept false x xs fails = refl

double-filter : (q : ℕ → Bool) (xs : List ℕ) → has_double xs ≡ false → has_double (filter q xs) ≡ false
double-filter q [] h = refl
double-filter q (x ∷ xs) h =
    let parts = or_parts (has_variable (variable_of x) xs) (has_double xs) h in
    double-kept (q x) x (filter q xs) (any-filter (λ (lit : ℕ). eqb (variable_of x) (variable_of lit)) q xs parts.0) ∙ double-filter q xs parts.1

-- the others that are neither the literal nor its complement have other variables
others-apart : (lit : ℕ) (xs : List ℕ) → list_any (λ (o : ℕ). eqb o (complement lit)) xs ≡ false → has_variable (variable_of lit) (filter (λ (o : ℕ). not (eqb o lit)) xs) ≡ false
others-apart lit [] h = refl
others-apart lit (x ∷ xs) h =
    let parts = or_parts (eqb x (complement lit)) (list_any (λ (o : ℕ). eqb o (complement lit)) xs) h in
    by (eqb x lit) refl parts.0 (others-apart lit xs parts.1)
  where
    by : (b : Bool) → eqb x lit ≡ b → eqb x (complement lit) ≡ false → has_variable (variable_of lit) (filter (λ (o : ℕ). not (eqb o lit)) xs) ≡ false → has_variable (variable_of lit) (cond (not b) (x ∷ filter (λ (o : ℕ). not (eqb o lit)) xs) (filter (λ (o : ℕ). not (eqb o lit)) xs)) ≡ false
    by true e fails rest = rest
    by false e fails rest = or_from (eqb (variable_of lit) (variable_of x)) (has_variable (variable_of lit) (filter (λ (o : ℕ). not (eqb o lit)) xs)) (apart lit x e fails) rest

once-distinct : (xs : List ℕ) → has_complements xs ≡ false → has_double (once xs) ≡ false
once-distinct [] h = refl
once-distinct (x ∷ xs) h =
    let parts = or_parts (list_any (λ (o : ℕ). eqb o (complement x)) xs) (has_complements xs) h in
    or_from (has_variable (variable_of x) (filter (λ (o : ℕ). not (eqb o x)) (once xs))) (has_double (filter (λ (o : ℕ). not (eqb o x)) (once xs)))
    (others-apart x (once xs) (any-once (λ (o : ℕ). eqb o (complement x)) xs parts.0))
    (double-filter (λ (o : ℕ). not (eqb o x)) (once xs) (once-distinct xs parts.1))

once-some : (xs : List ℕ) → 0 < length xs → 0 < length (once xs)
once-some [] h = h
once-some (x ∷ xs) h = omega arith

-- what is written of literals inside is a clause
pub written-valid : (n : ℕ) (lits : List ℕ) → has_outside n lits ≡ false → 0 < length lits → AreClauses n (written lits)
written-valid n lits inside some = by (has_complements lits) refl
  where
    by : (b : Bool) → has_complements lits ≡ b → AreClauses n (cond b [] (once lits ∷ []))
    by true e = tt
    by false e = (record { inside = any-once (is_outside n) lits inside; distinct = once-distinct lits e; nonempty = once-some lits some }, tt)

-- ---- values

-- a false literal doesn't count
any-without : (p : ℕ → Bool) (lit : ℕ) (xs : List ℕ) → p lit ≡ false → list_any p (filter (λ (o : ℕ). not (eqb o lit)) xs) ≡ list_any p xs
any-without p lit [] fails = refl
any-without p lit (x ∷ xs) fails = by (eqb x lit) refl (any-without p lit xs fails)
  where
    by : (b : Bool) → eqb x lit ≡ b → list_any p (filter (λ (o : ℕ). not (eqb o lit)) xs) ≡ list_any p xs → list_any p (cond (not b) (x ∷ filter (λ (o : ℕ). not (eqb o lit)) xs) (filter (λ (o : ℕ). not (eqb o lit)) xs)) ≡ (p x || list_any p xs)
    by true e rest = rest ∙ sym (ap (λ (b : Bool). b || list_any p xs) (ap p (eqb-true x lit e) ∙ fails))
    by false e rest = ap (λ (b : Bool). p x || b) rest

any-is-once : (p : ℕ → Bool) (xs : List ℕ) → list_any p (once xs) ≡ list_any p xs
any-is-once p [] = refl
any-is-once p (x ∷ xs) = by (p x) refl (any-is-once p xs)
  where
    by : (b : Bool) → p x ≡ b → list_any p (once xs) ≡ list_any p xs → (p x || list_any p (filter (λ (o : ℕ). not (eqb o x)) (once xs))) ≡ (p x || list_any p xs)
    by true e rest = or_left (p x) _ e ∙ sym (or_left (p x) _ e)
    by false e rest = ap (λ (b : Bool). p x || b) (any-without p x (once xs) e ∙ rest)

-- one of the literals that pass a test passes another
any-other : (p : ℕ → Bool) (lit : ℕ) (xs : List ℕ) → p lit ≡ true → list_any (λ (o : ℕ). eqb o lit) xs ≡ true → list_any p xs ≡ true
any-other p lit [] passes h = absurd (true≢false (sym h))
any-other p lit (x ∷ xs) passes h = by (eqb x lit) refl h (any-other p lit xs passes)
  where
    by : (b : Bool) → eqb x lit ≡ b → (b || list_any (λ (o : ℕ). eqb o lit) xs) ≡ true → (list_any (λ (o : ℕ). eqb o lit) xs ≡ true → list_any p xs ≡ true) → (p x || list_any p xs) ≡ true
    by true e h rest = or_left (p x) _ (ap p (eqb-true x lit e) ∙ passes)
    by false e h rest = or_right (p x) _ (rest h)

-- where a literal stands beside its complement, one of them is true
complements-true : (values : ℕ → Bool) (xs : List ℕ) → has_complements xs ≡ true → clause_value values xs ≡ true
complements-true values [] h = absurd (true≢false (sym h))
complements-true values (x ∷ xs) h = by (list_any (λ (o : ℕ). eqb o (complement x)) xs) refl h (complements-true values xs)
  where
    pair : (b : Bool) → literal_value values x ≡ b → list_any (λ (o : ℕ). eqb o (complement x)) xs ≡ true → clause_value values (x ∷ xs) ≡ true
    pair true e found = or_left (literal_value values x) _ e
    pair false e found = or_right (literal_value values x) _ (any-other (literal_value values) (complement x) xs (value-complement values x ∙ ap not e) found)

    by : (b : Bool) → list_any (λ (o : ℕ). eqb o (complement x)) xs ≡ b → (b || has_complements xs) ≡ true → (has_complements xs ≡ true → clause_value values xs ≡ true) → clause_value values (x ∷ xs) ≡ true
    by true e h rest = pair (literal_value values x) refl e
    by false e h rest = or_right (literal_value values x) _ (rest h)

pub and_true : (b : Bool) → (b && true) ≡ b
and_true true = refl
and_true false = refl

written-value : (values : ℕ → Bool) (lits : List ℕ) → list_all (clause_value values) (written lits) ≡ clause_value values lits
written-value values lits = by (has_complements lits) refl
  where
    by : (b : Bool) → has_complements lits ≡ b → list_all (clause_value values) (cond b [] (once lits ∷ [])) ≡ clause_value values lits
    by true e = sym (complements-true values lits e)
    by false e = and_true (clause_value values (once lits)) ∙ any-is-once (literal_value values) lits

-- what is written has the value of what it is written for
pub written-means : (values : ℕ → Bool) (clauses : List (List ℕ)) → list_all (clause_value values) (flat_map written clauses) ≡ list_all (clause_value values) clauses
written-means values [] = refl
written-means values (c ∷ cs) =
    list_all-append (clause_value values) (written c) (flat_map written cs)
    ∙ (ap (λ (b : Bool). b && list_all (clause_value values) (flat_map written cs)) (written-value values c)
    ∙ ap (λ (b : Bool). clause_value values c && b) (written-means values cs))
