-- A certificate is right exactly where nothing is wrong first with it.
use Rattle.std.proofs.Common.{◌≡◌, ◌↔◌, ℕ, ◌+◌, Bool, true, false, not, List, length, refl, ap, Option, None}
use Rattle.std.specs.Prelude.{◌&&◌, nat_le}
use Rattle.std.proofs.lemmas.Bool.{and_parts, and_from, eqb-true, eq-eqb, leb-true, le-leb, not-true}
use Rattle.pv_log.specs.declared.line.Line as line
use Rattle.pv_claims.specs.declared.claim.Claim.{Claim}
use Rattle.pv_claims.specs.declared.claim.Claim.TheVariants.{Satisfied, Unreachable, Violated, Trapped, Reached, Depth, Loop, Lemmas, Region}
use Rattle.pv_claims.specs.TracePart.{trace_lines}
use Rattle.pv_cert.specs.declared.proof.Proof.{Proof}
use Rattle.pv_cert.specs.declared.certificate.Certificate.{Certificate}
use Rattle.pv_valid.specs.declared.facts.Facts.{Facts}
use Rattle.pv_valid.specs.declared.fault.Kind.TheVariants as kind
use Rattle.pv_valid.specs.declared.fault.Fault.{Fault}
use Rattle.pv_valid.specs.Cases.{Case}
use Rattle.pv_valid.specs.Claims.{IsScan, Belongs, is_scan, belongs, expected}
use Rattle.pv_valid.specs.Validity.{HasBudget, HasNeed, ProofsBelong, IsRight}
use Rattle.pv_valid.specs.Walk.{or_else, unless, trace_fault, budget_fault, need_fault, all_proofs_fault, certificate_fault}
use Rattle.pv_valid.proofs.Logs.{both-none, none-both, is-so, so-is, budget-is, is-budget, need-is, is-need}
use Rattle.pv_valid.proofs.Traces.{replays-in, in-replays}
use Rattle.pv_valid.proofs.Proofs.{proofs-are, are-proofs}
use Rattle.pv_valid.proofs.Spent.{are-spent, spent-are}

-- ---- the claim

scan-is : (depth n : ℕ) → is_scan depth n ≡ true → IsScan depth n
scan-is depth n e = (let parts = and_parts (nat_le 1 n) (nat_le n depth) e in (leb-true 1 n parts.0, leb-true n depth parts.1))

is-scan : (depth n : ℕ) → IsScan depth n → is_scan depth n ≡ true
is-scan depth n is = and_from (nat_le 1 n) (nat_le n depth) (le-leb 1 n is.0) (le-leb n depth is.1)

-- a test beside whether a goal is asked for
no-goal : (goal b : Bool) → (not goal && b) ≡ true → (goal ≡ false) × (b ≡ true)
no-goal goal b e = (let parts = and_parts (not goal) b e in (not-true goal parts.0, parts.1))

goal-no : (goal b : Bool) → goal ≡ false → b ≡ true → (not goal && b) ≡ true
goal-no goal b none e = and_from (not goal) b (ap not none) e

pub belongs-is : (facts : Facts) (claim : Claim) → belongs facts claim ≡ true → Belongs facts claim
belongs-is facts (Satisfied k) e = (let p = no-goal facts.goal (nat_le k facts.depth) e in (p.0, leb-true k facts.depth p.1))
belongs-is facts (Unreachable k) e = (let p = and_parts facts.goal (nat_le k facts.depth) e in (p.0, leb-true k facts.depth p.1))
belongs-is facts (Violated n) e = (let p = no-goal facts.goal (is_scan facts.depth n) e in (p.0, scan-is facts.depth n p.1))
belongs-is facts (Trapped n) e = (let p = no-goal facts.goal (is_scan facts.depth n) e in (p.0, scan-is facts.depth n p.1))
belongs-is facts (Reached n) e = (let p = and_parts facts.goal (is_scan facts.depth n) e in (p.0, scan-is facts.depth n p.1))
belongs-is facts (Depth k) e = eqb-true k facts.depth e
belongs-is facts (Loop n) e = scan-is facts.depth n e
belongs-is facts (Lemmas b) e = eqb-true b facts.lemmas e
belongs-is facts (Region x) e = tt

is-belongs : (facts : Facts) (claim : Claim) → Belongs facts claim → belongs facts claim ≡ true
is-belongs facts (Satisfied k) is = goal-no facts.goal (nat_le k facts.depth) is.0 (le-leb k facts.depth is.1)
is-belongs facts (Unreachable k) is = and_from facts.goal (nat_le k facts.depth) is.0 (le-leb k facts.depth is.1)
is-belongs facts (Violated n) is = goal-no facts.goal (is_scan facts.depth n) is.0 (is-scan facts.depth n is.1)
is-belongs facts (Trapped n) is = goal-no facts.goal (is_scan facts.depth n) is.0 (is-scan facts.depth n is.1)
is-belongs facts (Reached n) is = and_from facts.goal (is_scan facts.depth n) is.0 (is-scan facts.depth n is.1)
is-belongs facts (Depth k) is = eq-eqb k facts.depth is
is-belongs facts (Loop n) is = is-scan facts.depth n is
is-belongs facts (Lemmas b) is = eq-eqb b facts.lemmas is
is-belongs facts (Region x) is = refl

-- ---- the proofs

module _ (case : Case) (next : Option line.Line) (at : ℕ) (proofs : List Proof) where
  belong : (claim : Claim) → all_proofs_fault case claim next at proofs ≡ None → ProofsBelong case claim next proofs
  belong (Satisfied k) e = proofs-are case (expected (Satisfied k)) at proofs e
  belong (Unreachable k) e = proofs-are case (expected (Unreachable k)) at proofs e
  belong (Violated n) e = proofs-are case (expected (Violated n)) at proofs e
  belong (Trapped n) e = proofs-are case (expected (Trapped n)) at proofs e
  belong (Reached n) e = proofs-are case (expected (Reached n)) at proofs e
  belong (Depth k) e = proofs-are case (expected (Depth k)) at proofs e
  belong (Loop n) e = proofs-are case (expected (Loop n)) at proofs e
  belong (Lemmas b) e = are-spent case (budget_fault b) (HasBudget b) (budget-is b) proofs at e
  belong (Region x) e = are-spent case (need_fault case.facts.words x next) (HasNeed case.facts.words x next)
      (need-is case.facts.words x next) proofs at e

  belongs-all : (claim : Claim) → ProofsBelong case claim next proofs → all_proofs_fault case claim next at proofs ≡ None
  belongs-all (Satisfied k) are = are-proofs case (expected (Satisfied k)) at proofs are
  belongs-all (Unreachable k) are = are-proofs case (expected (Unreachable k)) at proofs are
  belongs-all (Violated n) are = are-proofs case (expected (Violated n)) at proofs are
  belongs-all (Trapped n) are = are-proofs case (expected (Trapped n)) at proofs are
  belongs-all (Reached n) are = are-proofs case (expected (Reached n)) at proofs are
  belongs-all (Depth k) are = are-proofs case (expected (Depth k)) at proofs are
  belongs-all (Loop n) are = are-proofs case (expected (Loop n)) at proofs are
  belongs-all (Lemmas b) are = spent-are case (budget_fault b) (HasBudget b) (is-budget b) proofs at are
  belongs-all (Region x) are = spent-are case (need_fault case.facts.words x next) (HasNeed case.facts.words x next)
      (is-need case.facts.words x next) proofs at are

-- ---- the whole

module _ (case : Case) (c : Certificate) where
  abbrev claim_part : Option Fault
  claim_part = unless (belongs case.facts c.claim) 2 kind.WrongQuery

  abbrev trace_part : Option Fault
  trace_part = trace_fault case c.claim c.trace

  abbrev first_line : ℕ
  first_line = 3 + length (trace_lines c.trace)

  abbrev proofs_part : Option Fault
  proofs_part = all_proofs_fault case c.claim c.next first_line c.proofs

  right-is : certificate_fault case c ≡ None → IsRight case c
  right-is e =
      let first = both-none claim_part (or_else trace_part proofs_part) e in
      let second = both-none trace_part proofs_part first.1 in
      record {
        belongs = belongs-is case.facts c.claim (is-so (belongs case.facts c.claim) 2 kind.WrongQuery first.0);
        replays = replays-in case c.claim c.trace second.0;
        proofs = belong case c.next first_line c.proofs c.claim second.1;
      }

  is-right : IsRight case c → certificate_fault case c ≡ None
  is-right right = none-both claim_part (or_else trace_part proofs_part)
      (so-is (belongs case.facts c.claim) 2 kind.WrongQuery (is-belongs case.facts c.claim right.belongs))
      (none-both trace_part proofs_part (in-replays case c.claim c.trace right.replays)
      (belongs-all case c.next first_line c.proofs c.claim right.proofs))

pub right-none : (case : Case) (c : Certificate) → (certificate_fault case c ≡ None) ↔ IsRight case c
right-none case c = (right-is case c, is-right case c)
