-- What comes after a reply, whose query may have been asked several times: of each kind of reply, by the equation that it is of it.
use Rattle.std.proofs.Common.{◌≡◌, ℕ, ◌+◌, ◌≤◌, List, Option, sym, subst}
use Rattle.pv_machine.specs.Machines.{Machine}
use Rattle.pv_log.specs.declared.line.Line.{Line}
use Rattle.pv_solver.specs.Answers.{HasSpentLemmas}
use Rattle.pv_cert.specs.declared.proof.Query.{Query}
use Rattle.pv_cert.specs.declared.proof.Query.TheVariants.{Base, Step}
use Rattle.pv_cert.specs.declared.proof.Proof.{Proof}
use Rattle.pv_claims.specs.declared.trace.Trace.{Trace}
use Rattle.pv_kind.specs.declared.decision.Limits.{Limits}
use Rattle.pv_kind.specs.declared.ask.Reply.{Reply}
use Rattle.pv_kind.specs.declared.ask.Reply.TheVariants.{Met, Refuted, SpentLemmas, SpentRegion}
use Rattle.pv_kind.specs.Refinements.{Stage, IsRefinedBy}
use Rattle.pv_kind.specs.Oracles.{Encoding, Meets}
use Rattle.pv_kind.specs.Decisions.{IsWithin, IsTurn, IsSpent, IsProved, IsMet, SpendsWords}
use Rattle.pv_kind.specs.Asking.{Replies}
use Rattle.pv_kind.proofs.Turns.{turn_on, step_met, base_refuted, proved, spent}

module _ (m : Machine) (e : Encoding) (first s t : Stage) (limits : Limits) (old new : List Proof) where
  abbrev pub On : Query → Type 0
  On q = IsRefinedBy e.tells (λ (asked : Query). asked ≡ q) s t

  abbrev pub Comes : Query → Reply → Type 0
  Comes q reply = Replies m e t limits q old new reply

  comes : (q : Query) (reply known : Reply) → reply ≡ known → Comes q reply → Comes q known
  comes q reply known is r = subst (λ (x : Reply). Comes q x) is r

  pub step_is_met : (k : ℕ) (trace : Trace) (reply : Reply) → reply ≡ Met trace → ((q : Query) (shows : Trace) → e.shows q shows → Meets m q)
      → IsTurn m e first s (Step k) old → On (Step k) → Comes (Step k) reply → IsTurn m e first t (Base (k + 1)) new
  step_is_met k trace reply is shown turn on came =
      let r = comes (Step k) reply (Met trace) is came in
      subst (λ (l : List Proof). IsTurn m e first t (Base (k + 1)) l) (sym r.0)
      (step_met m e first t limits k old (turn_on m e first s t (Step k) old on turn) (shown (Step k) trace r.1))

  pub step_is_refuted : (k : ℕ) (reply : Reply) → reply ≡ Refuted → k ≤ limits.depth → IsTurn m e first s (Step k) old → On (Step k)
      → Comes (Step k) reply → IsProved m e first t limits k new
  step_is_refuted k reply is within turn on came =
      let r = comes (Step k) reply Refuted is came in
      proved m e first t limits k old new within (turn_on m e first s t (Step k) old on turn) r.0 r.1

  pub base_is_refuted : (n : ℕ) (reply : Reply) → reply ≡ Refuted → 1 ≤ n → IsTurn m e first s (Base n) old → On (Base n)
      → Comes (Base n) reply → IsTurn m e first t (Step n) new
  base_is_refuted n reply is from turn on came =
      let r = comes (Base n) reply Refuted is came in
      base_refuted m e first t limits n old new from (turn_on m e first s t (Base n) old on turn) r.0 r.1

  pub is_met : (q : Query) (trace : Trace) (reply : Reply) → reply ≡ Met trace → IsWithin limits.depth q → IsTurn m e first s q old → On q
      → Comes q reply → IsMet m e first t limits q (e.shows q trace) new
  is_met q trace reply is within turn on came =
      let r = comes q reply (Met trace) is came in record {
        within = within;
        turn = subst (λ (l : List Proof). IsTurn m e first t q l) (sym r.0) (turn_on m e first s t q old on turn);
        shown = r.1;
      }

  pub lemmas_are_spent : (q : Query) (reply : Reply) → reply ≡ SpentLemmas → IsWithin limits.depth q → IsTurn m e first s q old → On q
      → Comes q reply → IsSpent m e first t limits HasSpentLemmas new
  lemmas_are_spent q reply is within turn on came =
      spent m e first t limits q HasSpentLemmas old new within (turn_on m e first s t q old on turn) (comes q reply SpentLemmas is came)

  pub words_are_spent : (q : Query) (need : ℕ) (next : Option Line) (reply : Reply) → reply ≡ SpentRegion need next → IsWithin limits.depth q
      → IsTurn m e first s q old → On q → Comes q reply → IsSpent m e first t limits (λ p lines. SpendsWords p lines need next) new
  words_are_spent q need next reply is within turn on came =
      spent m e first t limits q (λ p lines. SpendsWords p lines need next) old new within (turn_on m e first s t q old on turn)
      (comes q reply (SpentRegion need next) is came)
