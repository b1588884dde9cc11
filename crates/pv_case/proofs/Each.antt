-- What is asked of each thing of a list, by how far a loop has come.
use Rattle.std.proofs.Common.{◌≡◌, ℕ, zero, suc, ◌+◌, ◌<◌, List, [], ◌∷◌, map, take, length, get_or, sym, subst, arith}
use mathlib.Core.Logic.{inl, inr}
use Rattle.pv_case.specs.declared.fault.Kind.{Kind}
use Rattle.std.specs.Prelude.{Result, Ok, Err, IsErrAnd}
use Rattle.pv_case.specs.declared.checks.Breach.{Breach}
use Rattle.pv_case.specs.Checks.{Checks, each, Answers, ◌⨾◌}

-- one more keeps the rules
next_keeps : {A B : Type 0} (f : A → Checks) (g : B → A) (all : List B) (i : ℕ) (x : B) → i < length all → x ≡ get_or all i x
    → (each f (map g (take i all))).keeps → (f (g x)).keeps → (each f (map g (take (suc i) all))).keeps
next_keeps f g [] i x lt is before keeps = absurd (omega (arith, lt))
next_keeps f g (y ∷ ys) zero x lt is before keeps = (subst (λ z. (f (g z)).keeps) is keeps, tt)
next_keeps f g (y ∷ ys) (suc i) x lt is before keeps =
    (before.0, next_keeps f g ys i x (omega (arith, lt)) is before.1 keeps)

pub keeps_more : {A B : Type 0} (f : A → Checks) (g : B → A) (all : List B) (i : ℕ) (x : B) → i < length all → x ≡ get_or all i x
    → (each f (map g (take i all))).keeps → (f (g x)).keeps → (each f (map g (take (i + 1) all))).keeps
keeps_more f g all i x lt is before keeps =
    let next : suc i ≡ i + 1 = omega arith in
    subst (λ n. (each f (map g (take n all))).keeps) next (next_keeps f g all i x lt is before keeps)

-- the first one that breaks a rule
pub breaks_at : {A B : Type 0} (f : A → Checks) (g : B → A) (all : List B) (i : ℕ) (x : B) (kind : Kind) (field : List ℕ) → i < length all → x ≡ get_or all i x
    → (each f (map g (take i all))).keeps → (f (g x)).breaks kind field → (each f (map g all)).breaks kind field
breaks_at f g [] i x kind field lt is before breaks = absurd (omega (arith, lt))
breaks_at f g (y ∷ ys) zero x kind field lt is before breaks = inl (subst (λ z. (f (g z)).breaks kind field) is breaks)
breaks_at f g (y ∷ ys) (suc i) x kind field lt is before breaks =
    inr (before.0, breaks_at f g ys i x kind field (omega (arith, lt)) is before.1 breaks)

-- what a loop answers at its exit by `?`
pub breaks_with : {A B : Type 0} (f : A → Checks) (g : B → A) (all : List B) (i : ℕ) (x : B) (b : Breach) (r : Result (Unit {0}) Breach) → IsErrAnd r (λ e. e ≡ b)
    → i < length all → x ≡ get_or all i x → (each f (map g (take i all))).keeps → (f (g x)).breaks b.kind b.field.now → Answers (each f (map g all)) r
breaks_with f g all i x b (Ok done) is_err lt is before breaks = absurd is_err
breaks_with f g all i x b (Err e) is_err lt is before breaks =
    breaks_at f g all i x e.kind e.field.now lt is before (subst (λ z. (f (g x)).breaks z.kind z.field.now) (sym is_err) breaks)

-- what is asked second, where the first held
pub answers_second : (first second : Checks) (r : Result (Unit {0}) Breach) → first.keeps → Answers second r → Answers (first ⨾ second) r
answers_second first second (Ok done) keeps answers = (keeps, answers)
answers_second first second (Err e) keeps answers = inr (keeps, answers)
