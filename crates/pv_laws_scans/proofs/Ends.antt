-- A list of scans has one end.
use Rattle.std.proofs.Common.{◌≡◌, ◌⊎◌, inl, inr, ℕ, zero, suc, List, [], ◌∷◌, Bool, Option, Some, None, refl, sym, ap, ◌∙◌}
use Rattle.std.proofs.lemmas.Option.{same_Some, none-some}
use Rattle.pv_mean.specs.Sources.{Source}
use Rattle.pv_mean.specs.Scans.{Scan}
use Rattle.pv_pattern.specs.Patterns.{Pattern}
use Rattle.pv_pattern.specs.Failing.{Cause, ends_as, mark_of, NoneFailsFrom, FailsFirstFrom}

-- none fails, or one is the first that does
pub has_end : (source : Source) (p : Pattern) (prev : Option Bool) (scans : List Scan)
    → NoneFailsFrom source p prev scans ⊎ ((n : ℕ) × (cause : Cause) × FailsFirstFrom source p prev scans n cause)
has_end source p prev [] = inl tt
has_end source p prev (s ∷ ss) = lead (ends_as source p prev s) refl (has_end source p (mark_of source p s.end) ss)
  where
    later : ends_as source p prev s ≡ None → (n : ℕ) (cause : Cause) → FailsFirstFrom source p (mark_of source p s.end) ss n cause
        → FailsFirstFrom source p prev (s ∷ ss) (suc n) cause
    later is zero cause fails = absurd (not_zero ss fails)
      where
        not_zero : (rest : List Scan) → FailsFirstFrom source p (mark_of source p s.end) rest zero cause → ⊥
        not_zero [] fails = fails
        not_zero (t ∷ ts) fails = fails
    later is (suc n) cause fails = (is, fails)

    lead : (o : Option Cause) → ends_as source p prev s ≡ o
        → NoneFailsFrom source p (mark_of source p s.end) ss
        ⊎ ((n : ℕ) × (cause : Cause) × FailsFirstFrom source p (mark_of source p s.end) ss n cause)
        → NoneFailsFrom source p prev (s ∷ ss) ⊎ ((n : ℕ) × (cause : Cause) × FailsFirstFrom source p prev (s ∷ ss) n cause)
    lead (Some cause) is rest = inr (suc zero, cause, is)
    lead None is (inl none) = inl (is, none)
    lead None is (inr first) = inr (suc first.0, first.1, later is first.0 first.1 first.2)

-- where none fails no scan is the first that does
pub fails_not : (source : Source) (p : Pattern) (prev : Option Bool) (scans : List Scan) (n : ℕ) (by : Cause)
    → NoneFailsFrom source p prev scans → FailsFirstFrom source p prev scans n by → ⊥
fails_not source p prev [] n by none fails = fails
fails_not source p prev (s ∷ ss) zero by none fails = fails
fails_not source p prev (s ∷ ss) (suc zero) by none fails = none-some by (sym none.0 ∙ fails)
fails_not source p prev (s ∷ ss) (suc (suc n)) by none fails =
    fails_not source p (mark_of source p s.end) ss (suc n) by none.1 fails.1

-- one scan is the first, for one cause
pub one_first : (source : Source) (p : Pattern) (prev : Option Bool) (scans : List Scan) (n m : ℕ) (by other : Cause)
    → FailsFirstFrom source p prev scans n by → FailsFirstFrom source p prev scans m other → (n ≡ m) × (by ≡ other)
one_first source p prev [] n m by other fails also = absurd fails
one_first source p prev (s ∷ ss) zero m by other fails also = absurd fails
one_first source p prev (s ∷ ss) (suc n) zero by other fails also = absurd also
one_first source p prev (s ∷ ss) (suc zero) (suc zero) by other fails also =
    (refl, same_Some by other (sym fails ∙ also))
one_first source p prev (s ∷ ss) (suc zero) (suc (suc m)) by other fails also =
    absurd (none-some by (sym also.0 ∙ fails))
one_first source p prev (s ∷ ss) (suc (suc n)) (suc zero) by other fails also =
    absurd (none-some other (sym fails.0 ∙ also))
one_first source p prev (s ∷ ss) (suc (suc n)) (suc (suc m)) by other fails also =
    let rest = one_first source p (mark_of source p s.end) ss (suc n) (suc m) by other fails.1 also.1 in
    (ap suc rest.0, rest.1)
