-- What is wrong with a clause that is pushed.
use Rattle.std.proofs.Common.{◌≡◌, ◌↔◌, ◌<◌, ◌∙◌, ℕ, Bool, true, false, cond, eqb, List, [], ◌∷◌, length, refl, sym, ap, subst, arith, Option, None, Some, Result, Err}
use Rattle.std.proofs.lemmas.Bool.{ne_eqb}
use Rattle.pv_cnf.specs.declared.clauses.PushFault.{PushFault}
use Rattle.pv_cnf.specs.declared.clauses.PushFault.TheVariants.{VariableOutOfRange, Doubled, Empty, Full}
use Rattle.pv_cnf.specs.Clause.{has_outside, has_double, IsClause}
use Rattle.pv_cnf.specs.Fault.{first_fault}

-- the first that applies of three
abbrev picks : Bool → Bool → Bool → Option PushFault
picks o d e = cond o (Some VariableOutOfRange) (cond d (Some Doubled) (cond e (Some Empty) None))

some-one : (f g : PushFault) → Some f ≡ Some g → f ≡ g
some-one f g h = cc

none-picks : (o d e : Bool) → None ≡ picks o d e → (o ≡ false) × (d ≡ false) × (e ≡ false)
none-picks true d e h = absurd cc
none-picks false true e h = absurd cc
none-picks false false true h = absurd cc
none-picks false false false h = (refl, refl, refl)

some-lits : (lits : List ℕ) → eqb (length lits) 0 ≡ false → 0 < length lits
some-lits [] e = absurd cc
some-lits (x ∷ xs) e = omega arith

-- nothing is
pub good-of : (v w : ℕ) (lits : List ℕ) → v ≡ w → None ≡ first_fault v lits → IsClause w lits
good-of v w lits same none =
    let h = none-picks (has_outside v lits) (has_double lits) (eqb (length lits) 0) none in
    subst (λ (n : ℕ). IsClause n lits) same (record { inside = h.0; distinct = h.1; nonempty = some-lits lits h.2 })

out-picks : {A : Type 0} (o d e : Bool) (f : PushFault) → Some f ≡ picks o d e
    → ◌≡◌ {A = Result A PushFault} (Err f) (Err VariableOutOfRange) ↔ (o ≡ true)
out-picks true d e f h = (λ _. refl, λ _. ap (λ (x : PushFault). Err x) (some-one f VariableOutOfRange h))
out-picks false true e f h = (λ p. absurd cc, λ b. absurd cc)
out-picks false false true f h = (λ p. absurd cc, λ b. absurd cc)
out-picks false false false f h = absurd cc

double-picks : {A : Type 0} (o d e : Bool) (f : PushFault) → Some f ≡ picks o d e
    → ◌≡◌ {A = Result A PushFault} (Err f) (Err Doubled) ↔ ((o ≡ false) × (d ≡ true))
double-picks true d e f h = (λ p. absurd cc, λ b. absurd cc)
double-picks false true e f h = (λ _. (refl, refl), λ _. ap (λ (x : PushFault). Err x) (some-one f Doubled h))
double-picks false false true f h = (λ p. absurd cc, λ b. absurd cc)
double-picks false false false f h = absurd cc

not-empty : (o d : Bool) (f : PushFault) → Some f ≡ picks o d false → f ≡ Empty → ⊥
not-empty true d f h e = cc
not-empty false true f h e = cc
not-empty false false f h e = cc

not-full : (o d e : Bool) (f : PushFault) (need : ℕ) → Some f ≡ picks o d e → f ≡ Full need → ⊥
not-full true d e f need h is = cc
not-full false true e f need h is = cc
not-full false false true f need h is = cc
not-full false false false f need h is = cc

err-fault : {A : Type 0} (f g : PushFault) → ◌≡◌ {A = Result A PushFault} (Err f) (Err g) → f ≡ g
err-fault f g p = cc

-- ---- the fault that is told

pub told-out : {A : Type 0} (v w : ℕ) (lits : List ℕ) (f : PushFault) → v ≡ w → Some f ≡ first_fault v lits
    → ◌≡◌ {A = Result A PushFault} (Err f) (Err VariableOutOfRange) ↔ (has_outside w lits ≡ true)
told-out {A = A} v w lits f same is =
    subst (λ (n : ℕ). ◌≡◌ {A = Result A PushFault} (Err f) (Err VariableOutOfRange) ↔ (has_outside n lits ≡ true)) same
    (out-picks (has_outside v lits) (has_double lits) (eqb (length lits) 0) f is)

pub told-double : {A : Type 0} (v w : ℕ) (lits : List ℕ) (f : PushFault) → v ≡ w → Some f ≡ first_fault v lits
    → ◌≡◌ {A = Result A PushFault} (Err f) (Err Doubled) ↔ ((has_outside w lits ≡ false) × (has_double lits ≡ true))
told-double {A = A} v w lits f same is =
    subst (λ (n : ℕ). ◌≡◌ {A = Result A PushFault} (Err f) (Err Doubled) ↔ ((has_outside n lits ≡ false) × (has_double lits ≡ true))) same
    (double-picks (has_outside v lits) (has_double lits) (eqb (length lits) 0) f is)

pub told-empty : {A : Type 0} (v : ℕ) (lits : List ℕ) (f : PushFault) → Some f ≡ first_fault v lits
    → ◌≡◌ {A = Result A PushFault} (Err f) (Err Empty) ↔ (lits ≡ [])
told-empty v [] f is = (λ _. refl, λ _. ap (λ (x : PushFault). Err x) (some-one f Empty is))
told-empty v (x ∷ xs) f is =
    let none : eqb (length (x ∷ xs)) 0 ≡ false = ne_eqb (length (x ∷ xs)) 0 (λ e. omega (arith, e)) in
    let same : Some f ≡ picks (has_outside v (x ∷ xs)) (has_double (x ∷ xs)) false =
    is ∙ ap (picks (has_outside v (x ∷ xs)) (has_double (x ∷ xs))) none in (
      λ p. absurd (not-empty (has_outside v (x ∷ xs)) (has_double (x ∷ xs)) f same (err-fault f Empty p)),
      λ b. absurd cc,
    )

pub told-full : {A : Type 0} (v : ℕ) (lits : List ℕ) (f : PushFault) (need : ℕ) → Some f ≡ first_fault v lits
    → ◌≡◌ {A = Result A PushFault} (Err f) (Err (Full need)) → ⊥
told-full v lits f need is p = not-full (has_outside v lits) (has_double lits) (eqb (length lits) 0) f need is (err-fault f (Full need) p)

-- ---- an answer that isn't a fault of the clause

pub good-out : {A : Type 0} (r : Result A PushFault) (v : ℕ) (lits : List ℕ) → IsClause v lits → (r ≡ Err VariableOutOfRange → ⊥)
    → (r ≡ Err VariableOutOfRange) ↔ (has_outside v lits ≡ true)
good-out r v lits good not = (λ p. absurd (not p), λ p. absurd (let bad : true ≡ false = sym p ∙ good.inside in cc))

pub good-double : {A : Type 0} (r : Result A PushFault) (v : ℕ) (lits : List ℕ) → IsClause v lits → (r ≡ Err Doubled → ⊥)
    → (r ≡ Err Doubled) ↔ ((has_outside v lits ≡ false) × (has_double lits ≡ true))
good-double r v lits good not = (λ p. absurd (not p), λ p. absurd (let bad : true ≡ false = sym p.1 ∙ good.distinct in cc))

pub good-empty : {A : Type 0} (r : Result A PushFault) (v : ℕ) (lits : List ℕ) → IsClause v lits → (r ≡ Err Empty → ⊥)
    → (r ≡ Err Empty) ↔ (lits ≡ [])
good-empty r v lits good not = (λ p. absurd (not p), λ p. absurd (let none : length lits ≡ 0 = ap (λ (ls : List ℕ). length ls) p in omega (arith, none, good.nonempty)))
