-- The calls of a decision one after another. What no call changes is `F`; each call says what it does over what it was before it.
use Rattle.std.proofs.Common.{◌≡◌, ℕ, ◌+◌, List, None, sym, subst, ◌∙◌}
use Rattle.pv_machine.specs.Machines.{Machine}
use Rattle.pv_cert.specs.declared.proof.Query.{Query}
use Rattle.pv_cert.specs.declared.proof.Query.TheVariants.{Base, Step}
use Rattle.pv_cert.specs.declared.proof.Proof.{Proof}
use Rattle.pv_kind.specs.declared.decision.Limits.{Limits}
use Rattle.pv_kind.specs.declared.decision.End.{End}
use Rattle.pv_kind.specs.Refinements.{Stage, IsRefined, IsRefinedBy}
use Rattle.pv_kind.specs.Oracles.{Encoding}
use Rattle.pv_kind.specs.Decisions.{IsTurn, Decides}
use Rattle.pv_kind.specs.Asking.{IsRefinedOnce, AfterStep, AfterBase}
use Rattle.pv_kind.proofs.Rounds.{refined_on, by_on, by_once}

module _ (F : Type 0) (enc : F → Encoding) (f g : F) (is : g ≡ f) (r s t : Stage) where
  pub refined_from : IsRefined (enc f).tells r s → IsRefined (enc g).tells s t → IsRefined (enc f).tells r t
  refined_from a b = refined_on (enc f).tells r s t a (subst (λ (x : F). IsRefined (enc x).tells s t) is b)

  pub once_more : (q : Query) → IsRefinedBy (enc f).tells (λ (asked : Query). asked ≡ q) r s → IsRefinedOnce (enc g) q s t
      → IsRefinedBy (enc f).tells (λ (asked : Query). asked ≡ q) r t
  once_more q a b =
      by_on (enc f).tells (λ (asked : Query). asked ≡ q) r s t a (by_once (enc f) q s t (subst (λ (x : F). IsRefinedOnce (enc x) q s t) is b))

-- two calls one after another
pub refined_twice : (F : Type 0) (enc : F → Encoding) (f g h : F) → g ≡ f → h ≡ g → (r s t u : Stage) → IsRefined (enc f).tells r s
    → IsRefined (enc g).tells s t → IsRefined (enc h).tells t u → IsRefined (enc f).tells r u
refined_twice F enc f g h is then r s t u a b c = refined_from F enc f h (then ∙ is) r t u (refined_from F enc f g is r s t a b) c

module _ (F : Type 0) (mach : F → Machine) (enc : F → Encoding) (f g : F) (is : g ≡ f) (first s t : Stage) (limits : Limits) (old new : List Proof) where
  abbrev Turn : F → Query → Type 0
  Turn x q = IsTurn (mach x) (enc x) first s q old

  there : (q : Query) → Turn f q → Turn g q
  there q turn = subst (λ (x : F). Turn x q) (sym is) turn

  pub base_next : (k : ℕ) → Turn f (Step k) → (Turn g (Step k) → AfterStep (mach g) (enc g) first t limits k new None)
      → IsTurn (mach f) (enc f) first t (Base (k + 1)) new
  base_next k turn after = subst (λ (x : F). IsTurn (mach x) (enc x) first t (Base (k + 1)) new) is (after (there (Step k) turn))

  pub step_next : (n : ℕ) → Turn f (Base n) → (Turn g (Base n) → AfterBase (mach g) (enc g) first t limits n new None)
      → IsTurn (mach f) (enc f) first t (Step n) new
  step_next n turn after = subst (λ (x : F). IsTurn (mach x) (enc x) first t (Step n) new) is (after (there (Base n) turn))

  pub ended : (q : Query) (end : End) → Turn f q → (Turn g q → Decides (mach g) (enc g) first t limits new end)
      → Decides (mach f) (enc f) first t limits new end
  ended q end turn after = subst (λ (x : F). Decides (mach x) (enc x) first t limits new end) is (after (there q turn))
