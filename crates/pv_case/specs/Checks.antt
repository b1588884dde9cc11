-- What is asked of a value, in the order in which it is asked: what has to hold, and which rule is broken first where it doesn't.
use Rattle.std.specs.Prelude.{◌≡◌, ◌⊎◌, ℕ, List, [], ◌∷◌, Bool, IsTrue, Option, Some, None, Result, Ok, Err}
use Rattle.pv_case.specs.declared.fault.Kind.{Kind}
use Rattle.pv_case.specs.declared.checks.Breach.{Breach}

-- what holds where no rule is broken, and of which rule and which member it is said that they are the first that are
pub record Checks : Type 1 where
  pub keeps : Type 0
  pub breaks : Kind → List ℕ → Type 0

-- nothing is asked
abbrev pub passed : Checks
passed = record { keeps = Unit {0}; breaks = λ kind field. ⊥ }

-- this has to hold; the rule, and the member of which it is one
abbrev pub must : Type 0 → Kind → List ℕ → Checks
must holds kind field =
    record { keeps = holds; breaks = λ k f. (holds → ⊥) × (k ≡ kind) × (f ≡ field) }

-- this test has to pass
abbrev pub ask : Bool → Kind → List ℕ → Checks
ask test kind field = must (IsTrue test) kind field

-- first the one, then the other
infixr 30 ◌⨾◌
abbrev pub ◌⨾◌ : Checks → Checks → Checks
first ⨾ second =
    record {
      keeps = first.keeps × second.keeps;
      breaks = λ k f. first.breaks k f ⊎ (first.keeps × second.breaks k f);
    }

-- of each thing of a list, in its order
abbrev pub each : {A : Type 0} → (A → Checks) → List A → Checks
each checks [] = passed
each checks (x ∷ xs) = checks x ⨾ each checks xs

-- of what is there
abbrev pub of_any : {A : Type 0} → (A → Checks) → Option A → Checks
of_any checks None = passed
of_any checks (Some x) = checks x

-- what a function that checks answers
abbrev pub Answers : Checks → Result (Unit {0}) Breach → Type 0
Answers checks (Ok done) = checks.keeps
Answers checks (Err broken) = checks.breaks broken.kind broken.field.now
