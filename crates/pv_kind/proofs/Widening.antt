-- What is replied in a region of fewer words is a reply in one of all words, unless words were spent.
use Rattle.std.proofs.Common.{◌≡◌, ◌≤◌, ◌<◌, ◌+◌, ◌-◌, ℕ, List, Bool, true, false, length, refl, sym, ap, subst, ◌∙◌, arith}
use Rattle.std.specs.Prelude.{nat_lt}
use Rattle.std.proofs.lemmas.Bool.{ltb-false}
use Rattle.pv_machine.specs.Machines.{Machine}
use Rattle.pv_log.specs.declared.line.Line.{Line}
use Rattle.pv_solver.specs.Answers.{Problem, HasSpentLemmas}
use Rattle.pv_cert.specs.declared.proof.Query.{Query}
use Rattle.pv_cert.specs.declared.proof.Proof.{Proof}
use Rattle.pv_kind.specs.declared.decision.Limits.{Limits}
use Rattle.pv_kind.specs.declared.ask.Outcome.{Outcome}
use Rattle.pv_kind.specs.declared.ask.Outcome.TheVariants.{PutBack, Replied}
use Rattle.pv_kind.specs.declared.ask.Reply.{Reply}
use Rattle.pv_kind.specs.declared.ask.Reply.TheVariants.{Met, Refuted, SpentLemmas, SpentRegion}
use Rattle.pv_kind.specs.Refinements.{Stage}
use Rattle.pv_kind.specs.Oracles.{Encoding}
use Rattle.pv_kind.specs.Decisions.{problem_of}
use Rattle.pv_kind.specs.Asking.{IsLast, IsRefutedBy, IsRefinedOnce, Adds, Replies, GoesOn}

-- the limits with so many words
abbrev pub within : Limits → ℕ → Limits
within limits words = record limits { words = words }

module _ (e : Encoding) (s : Stage) (limits : Limits) (words : ℕ) (q : Query) (old new : List Proof) where
  refuted : Adds e s (within limits words) q IsRefutedBy old new → Adds e s limits q IsRefutedBy old new
  refuted h = record { proof = h.proof; added = h.added; query = h.query; chain = h.chain; log = h.log }

  lemmas : (lines : List Line) (v : ℕ) (clauses : List (List ℕ)) → HasSpentLemmas (problem_of (within limits words) v clauses) lines
      → HasSpentLemmas (problem_of limits v clauses) lines
  lemmas lines v clauses h =
      record { spent = record { lemmas = h.spent.lemmas; none_false = h.spent.none_false }; all = h.all }

  spent : Adds e s (within limits words) q HasSpentLemmas old new → Adds e s limits q HasSpentLemmas old new
  spent h = record {
    proof = h.proof;
    added = h.added;
    query = h.query;
    chain = h.chain;
    log = lemmas h.proof.log (e.variables s.chain q) (e.clauses s.chain q) h.log;
  }

  pub widened : (m : Machine) (may_grow : Bool) (reply : Reply) → (may_grow ≡ false → words ≡ limits.words)
      → Replies m e s (within limits words) q old new reply → IsLast may_grow reply → Replies m e s limits q old new reply
  widened m may_grow (Met trace) all r last = r
  widened m may_grow Refuted all r last = (refuted r.0, r.1)
  widened m may_grow SpentLemmas all r last = spent r
  widened m may_grow (SpentRegion need next) all r last =
      subst (λ (n : ℕ). Replies m e s (within limits n) q old new (SpentRegion need next)) (all last) r

-- what came of asking once, by its kind
module _ (m : Machine) (e : Encoding) (limits : Limits) (may_grow : Bool) (q : Query) (s t : Stage) (old new : List Proof) (o : Outcome) where
  pub put_back : o ≡ PutBack → GoesOn m e limits may_grow q s t old new o → IsRefinedOnce e q s t × (new ≡ old)
  put_back is h = subst (λ (x : Outcome). GoesOn m e limits may_grow q s t old new x) is h

  pub replied : (reply : Reply) → o ≡ Replied reply → GoesOn m e limits may_grow q s t old new o
      → (t ≡ s) × Replies m e s limits q old new reply × IsLast may_grow reply
  replied reply is h = subst (λ (x : Outcome). GoesOn m e limits may_grow q s t old new x) is h

-- where there may be no more words, there are all of them
all_words : (words most : ℕ) → words ≤ most → nat_lt words most ≡ false → words ≡ most
all_words words most few is = omega (arith, few, ltb-false words most is)

-- the reply is one of the whole query
pub reply_of : (F : Type 0) (mach : F → Machine) (enc : F → Encoding) (f g : F) → g ≡ f → (limits : Limits) (words : ℕ) → words ≤ limits.words
    → (q : Query) (s t : Stage) (first old new : List Proof) → old ≡ first → (o : Outcome) (reply : Reply) → o ≡ Replied reply
    → GoesOn (mach g) (enc g) (within limits words) (nat_lt words limits.words) q s t old new o
    → Replies (mach f) (enc f) t limits q first new reply
reply_of F mach enc f g same limits words few q s t first old new begun o reply is h =
    let r = replied (mach g) (enc g) (within limits words) (nat_lt words limits.words) q s t old new o reply is h in
    let w = widened (enc g) s limits words q old new (mach g) (nat_lt words limits.words) reply (all_words words limits.words few) r.1 r.2 in
    subst (λ (x : F). Replies (mach x) (enc x) t limits q first new reply) same
    (subst (λ (x : Stage). Replies (mach g) (enc g) x limits q first new reply) (sym r.0)
    (subst (λ (x : List Proof). Replies (mach g) (enc g) s limits q x new reply) begun w))
