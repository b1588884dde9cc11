-- A run ends in one way.
use Rattle.std.proofs.Common.{◌≡◌, ℕ, zero, suc, List, [], ◌∷◌, length, Bool, true, false, Option, None, refl, sym, ap, ◌∙◌}
use Rattle.std.proofs.lemmas.Option.{same_Some, none-some}
use Rattle.pv_mean.specs.Sources.{Source}
use Rattle.pv_mean.specs.Scans.{Scan}
use Rattle.pv_pattern.specs.Patterns.{Pattern, asks_for_goal}
use Rattle.pv_pattern.specs.Failing.{Cause, pattern, trap, over, mark_of, NoneFailsFrom, FailsFirstFrom, NoneFails, FailsFirst}
use Rattle.pv_stretch.specs.Scans.{done_in, last_trap}
use Rattle.pv_command_replay.specs.declared.end.Cause.{Cause as EndCause}
use Rattle.pv_command_replay.specs.declared.end.Cause.TheVariants as cause
use Rattle.pv_command_replay.specs.declared.end.End.{End}
use Rattle.pv_command_replay.specs.declared.end.End.TheVariants.{Kept, Broken, Over, Reached, NotReached}
use Rattle.pv_command_replay.specs.Ends.{cause_of, IsEnd}

-- where none fails no scan is the first that does
fails_not : (source : Source) (p : Pattern) (prev : Option Bool) (scans : List Scan) (n : ℕ) (by : Cause) → NoneFailsFrom source p prev scans
    → FailsFirstFrom source p prev scans n by → ⊥
fails_not source p prev [] n by none fails = fails
fails_not source p prev (s ∷ ss) zero by none fails = fails
fails_not source p prev (s ∷ ss) (suc zero) by none fails = none-some by (sym none.0 ∙ fails)
fails_not source p prev (s ∷ ss) (suc (suc n)) by none fails =
    fails_not source p (mark_of source p s.end) ss (suc n) by none.1 fails.1

-- one scan is the first, for one cause
one_first : (source : Source) (p : Pattern) (prev : Option Bool) (scans : List Scan) (n m : ℕ) (by other : Cause)
    → FailsFirstFrom source p prev scans n by → FailsFirstFrom source p prev scans m other → (n ≡ m) × (by ≡ other)
one_first source p prev [] n m by other fails also = absurd fails
one_first source p prev (s ∷ ss) zero m by other fails also = absurd fails
one_first source p prev (s ∷ ss) (suc n) zero by other fails also = absurd also
one_first source p prev (s ∷ ss) (suc zero) (suc zero) by other fails also =
    (refl, same_Some by other (sym fails ∙ also))
one_first source p prev (s ∷ ss) (suc zero) (suc (suc m)) by other fails also =
    absurd (none-some by (sym also.0 ∙ fails))
one_first source p prev (s ∷ ss) (suc (suc n)) (suc zero) by other fails also =
    absurd (none-some other (sym fails.0 ∙ also))
one_first source p prev (s ∷ ss) (suc (suc n)) (suc (suc m)) by other fails also =
    let rest = one_first source p (mark_of source p s.end) ss (suc n) (suc m) by other fails.1 also.1 in
    (ap suc rest.0, rest.1)

-- ---- the end, by whether a goal is asked for

none_end : Bool → List Scan → End
none_end true scans = NotReached (done_in scans) (last_trap scans)
none_end false scans = Kept (length scans)

first_end : Bool → ℕ → Cause → End
first_end true n pattern = Reached n
first_end false n pattern = Broken n cause.Pattern
first_end goal n (trap kind place) = Broken n (cause.Trap kind place)
first_end goal n (over place) = Over n place

data Way (source : Source) (p : Pattern) (scans : List Scan) (end : End) : Type 0 where
  by_none : NoneFails source p scans → end ≡ none_end (asks_for_goal p) scans → Way source p scans end
  by_first : (n : ℕ) (by : Cause) → FailsFirst source p scans n by → end ≡ first_end (asks_for_goal p) n by
      → Way source p scans end

broken_end : (n : ℕ) (by : EndCause) → Broken n by ≡ first_end false n (cause_of by)
unfolding first_end
broken_end n cause.Pattern = refl
broken_end n (cause.Trap kind place) = refl

over_end : (goal : Bool) (n : ℕ) (place : _) → Over n place ≡ first_end goal n (over place)
unfolding first_end
over_end true n place = refl
over_end false n place = refl

way : (source : Source) (p : Pattern) (scans : List Scan) (end : End) → IsEnd source p scans end → Way source p scans end
unfolding none_end first_end
way source p scans (Kept n) is =
    by_none is.1 (ap (λ m. Kept m) is.2 ∙ ap (λ b. none_end b scans) (sym is.0))
way source p scans (Broken n by) is =
    by_first n (cause_of by) is.1 (broken_end n by ∙ ap (λ b. first_end b n (cause_of by)) (sym is.0))
way source p scans (Over n place) is = by_first n (over place) is (over_end (asks_for_goal p) n place)
way source p scans (Reached n) is = by_first n pattern is.1 (ap (λ b. first_end b n pattern) (sym is.0))
way source p scans (NotReached n t) is =
    by_none is.1 (ap (λ m. NotReached m t) is.2 ∙ ap (λ u. NotReached (done_in scans) u) is.3 ∙ ap (λ b. none_end b scans) (sym is.0))

pub one_end : (source : Source) (p : Pattern) (scans : List Scan) (end other : End) → IsEnd source p scans end
    → IsEnd source p scans other → end ≡ other
one_end source p scans end other is also = lead (way source p scans end is) (way source p scans other also)
  where
    lead : Way source p scans end → Way source p scans other → end ≡ other
    lead (by_none none e) (by_none none' e') = e ∙ sym e'
    lead (by_none none e) (by_first n by fails e') = absurd (fails_not source p None scans n by none fails)
    lead (by_first n by fails e) (by_none none e') = absurd (fails_not source p None scans n by none fails)
    lead (by_first n by fails e) (by_first m by' fails' e') =
        let one = one_first source p None scans n m by by' fails fails' in
        e ∙ ap (λ k. first_end (asks_for_goal p) k by) one.0 ∙ ap (λ c. first_end (asks_for_goal p) m c) one.1 ∙ sym e'
