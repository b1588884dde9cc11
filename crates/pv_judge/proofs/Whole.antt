-- The parts of a certificate joined to the whole: the verdict, the trace, the proofs.
use Rattle.std.proofs.Common.{◌≡◌, ℕ, ◌+◌, Bool, true, false, cond, List, ◌++◌, map, length, refl, ap, sym, subst, ◌∙◌, Option, Some, None, Result, Ok, Err, ℤ, arith}
use Rattle.std.proofs.lemmas.List.{length-map}
use Rattle.pv_log.specs.LineText.{line_text}
use Rattle.pv_claims.specs.declared.claim.Claim.{Claim}
use Rattle.pv_claims.specs.declared.trace.Ending.{Ending}
use Rattle.pv_claims.specs.declared.trace.Trace.{Trace}
use Rattle.pv_claims.specs.TracePart.{begin_lines, scan_line, trace_lines}
use Rattle.pv_cert.specs.declared.proof.Proof.{Proof}
use Rattle.pv_cert.specs.declared.certificate.Certificate.{Certificate}
use Rattle.pv_valid.specs.declared.fault.Kind.TheVariants as kind
use Rattle.pv_valid.specs.declared.fault.Fault.{Fault}
use Rattle.pv_valid.specs.declared.fault.Fault.TheVariants.{TooManyGates, Line, NoMemory}
use Rattle.pv_valid.specs.declared.fault.Verdict.{Verdict}
use Rattle.pv_valid.specs.declared.facts.Facts.{Facts}
use Rattle.pv_valid.specs.Cases.{Case, AreBetween, MayFollow}
use Rattle.pv_valid.specs.Shown.{last_ending}
use Rattle.pv_valid.specs.Claims.{belongs, ends_as}
use Rattle.pv_valid.specs.Validity.{ending_in, first_state}
use Rattle.pv_valid.specs.Walk.{behind_proof, or_else, unless, begun_fault, scans_fault, trace_fault, all_proofs_fault, certificate_fault, are_between, may_follow}
use Rattle.pv_judge.specs.Answers.{Judges}
use Rattle.pv_valid.proofs.ForCallers.{right-none, between-are}
use Rattle.pv_judge.specs.Steps.{Finds, FindsIn, FindsScans, FindsFrom, begin_fault}

-- ---- the whole

abbrev verdict_with : Claim → Option Ending → Verdict
verdict_with claim ending = record { claim = claim; ending = ending }

module _ (case : Case) (c : Certificate) where
  abbrev trace_part : Option Fault
  trace_part = trace_fault case c.claim c.trace

  abbrev proofs_part : ℕ → Option Fault
  proofs_part first = all_proofs_fault case c.claim c.next first c.proofs

  abbrev at_proofs : ℕ
  at_proofs = 3 + length (trace_lines c.trace)

  by-claim : (b : Bool) → belongs case.facts c.claim ≡ b
      → certificate_fault case c ≡ or_else (unless b 2 kind.WrongQuery) (or_else trace_part (proofs_part at_proofs))
  by-claim b e = ap (λ (x : Bool). or_else (unless x 2 kind.WrongQuery) (or_else trace_part (proofs_part at_proofs))) e

  pub wrong-claim : (fault : Fault) → belongs case.facts c.claim ≡ false → fault ≡ Line 2 kind.WrongQuery → Judges case c (Err fault)
  wrong-claim fault e is = subst (λ (x : Fault). Judges case c (Err x)) (sym is) (by-claim false e)

  pub wrong-trace : (fault : Fault) → belongs case.facts c.claim ≡ true → FindsIn case c.claim c.trace (Err fault) → Judges case c (Err fault)
  wrong-trace TooManyGates e finds = by-claim true e ∙ ap (λ (o : Option Fault). or_else o (proofs_part at_proofs)) finds
  wrong-trace (Line at why) e finds = by-claim true e ∙ ap (λ (o : Option Fault). or_else o (proofs_part at_proofs)) finds
  wrong-trace NoMemory e finds = tt

  by-proofs : belongs case.facts c.claim ≡ true → trace_part ≡ None → (first : ℕ) → first ≡ at_proofs → certificate_fault case c ≡ proofs_part first
  by-proofs e none first is =
      by-claim true e ∙ (ap (λ (o : Option Fault). or_else o (proofs_part at_proofs)) none ∙ ap proofs_part (sym is))

  pub wrong-proofs : (fault : Fault) (first : ℕ) → belongs case.facts c.claim ≡ true → trace_part ≡ None → first ≡ at_proofs
      → Finds (proofs_part first) (Err fault) → Judges case c (Err fault)
  wrong-proofs TooManyGates first e none is finds = by-proofs e none first is ∙ finds
  wrong-proofs (Line at why) first e none is finds = by-proofs e none first is ∙ finds
  wrong-proofs NoMemory first e none is finds = tt

  pub all-right : (verdict : Verdict) (first : ℕ) (ending : Option Ending) → belongs case.facts c.claim ≡ true → trace_part ≡ None
      → first ≡ at_proofs → proofs_part first ≡ None → ending ≡ ending_in case c.trace
      → verdict ≡ record { claim = c.claim; ending = ending } → Judges case c (Ok verdict)
  all-right verdict first ending e none is clear ends says = (
    (right-none case c).0 (by-proofs e none first is ∙ clear),
    says ∙ ap (verdict_with c.claim) ends,
  )

-- ---- the trace

-- a line that is at fault where the trace begins, or what its scans show
abbrev begun_by : Option ℕ → Option Fault → Option Fault
begun_by (Some at) rest = Some (Line at kind.WrongQuery)
begun_by None rest = rest

by-params : (b : Bool) (rest : Option Fault) → or_else (unless b 3 kind.WrongQuery) rest ≡ begun_by (cond b None (Some 3)) rest
by-params true rest = refl
by-params false rest = refl

by-image : (b m : Bool) (rest : Option Fault)
    → or_else (unless b 3 kind.WrongQuery) (or_else (unless m 4 kind.WrongQuery) rest) ≡ begun_by (cond b (cond m None (Some 4)) (Some 3)) rest
by-image true true rest = refl
by-image true false rest = refl
by-image false m rest = refl

-- the first scan's line
abbrev pub scans_line : Option (List ℤ) → ℕ
scans_line None = 4
scans_line (Some image) = 5

params-in : (b : Bool) → ◌≡◌ {A = Option ℕ} (cond b None (Some 3)) None → b ≡ true
params-in true e = refl
params-in false e = absurd cc

image-in : (b m : Bool) → ◌≡◌ {A = Option ℕ} (cond b (cond m None (Some 4)) (Some 3)) None → (b ≡ true) × (m ≡ true)
image-in true true e = (refl, refl)
image-in true false e = absurd cc
image-in false m e = absurd cc

may-follow : (facts : Facts) (prev : Option Bool) → may_follow facts prev ≡ true → MayFollow facts prev
may-follow facts None e = tt
may-follow facts (Some mark) e = e

pub params-start : (facts : Facts) (t : Trace) → begin_fault facts None t ≡ None → AreBetween facts.params t.params
params-start facts t e = between-are facts.params t.params (params-in (are_between facts.params t.params) e)

pub image-start : (facts : Facts) (image : List ℤ) (t : Trace) → begin_fault facts (Some image) t ≡ None
    → AreBetween facts.image image × MayFollow facts t.prev
image-start facts image t e =
    let parts = image-in (are_between facts.image image) (may_follow facts t.prev) e in
    (between-are facts.image image parts.0, may-follow facts t.prev parts.1)

module _ (case : Case) (claim : Claim) (t : Trace) where
  abbrev scans_part : Option (List ℤ) → Option Fault
  scans_part o = scans_fault case (ends_as claim) (scans_line o) (first_state case o t) t.inputs

  begun-is : (o : Option (List ℤ)) → begun_fault case (ends_as claim) o t ≡ begun_by (begin_fault case.facts o t) (scans_part o)
  begun-is None = by-params (are_between case.facts.params t.params) (scans_part None)
  begun-is (Some image) =
      by-image (are_between case.facts.image image) (may_follow case.facts t.prev) (scans_part (Some image))

  -- the trace doesn't begin as one of the case
  pub wrong-begin : (at : ℕ) (fault : Fault) → begin_fault case.facts t.image t ≡ Some at → fault ≡ Line at kind.WrongQuery
      → FindsScans case claim t (Err fault)
  wrong-begin at fault e is =
      subst (λ (x : Fault). FindsScans case claim t (Err x)) (sym is)
      (begun-is t.image ∙ ap (λ (x : Option ℕ). begun_by x (scans_part t.image)) e)

  -- what its scans show, it shows
  pub by-scans : (o : Option (List ℤ)) (r : Result Ending Fault) → t.image ≡ o → begin_fault case.facts o t ≡ None
      → FindsFrom case claim (scans_line o) (first_state case o t) t.inputs r → FindsScans case claim t r
  by-scans o (Err fault) is e finds =
      ap (λ (x : Option (List ℤ)). begun_fault case (ends_as claim) x t) is
      ∙ (begun-is o ∙ (ap (λ (x : Option ℕ). begun_by x (scans_part o)) e ∙ finds))
  by-scans o (Ok ending) is e finds = (
    ap (λ (x : Option (List ℤ)). begun_fault case (ends_as claim) x t) is
        ∙ (begun-is o ∙ (ap (λ (x : Option ℕ). begun_by x (scans_part o)) e ∙ finds.0)),
    ap (λ (x : Option (List ℤ)). last_ending case.machine (first_state case x t) t.inputs) is ∙ finds.1,
  )

-- ---- its lines

lines-of : (t : Trace) (o : Option (List ℤ)) → 3 + length (begin_lines o t.prev t.params ++ map scan_line t.inputs) ≡ scans_line o + length t.inputs
lines-of t None = (let all = length-map t.inputs scan_line in omega (arith, all))
lines-of t (Some image) = (let all = length-map t.inputs scan_line in omega (arith, all))

pub trace-end : (t : Trace) (o : Option (List ℤ)) → t.image ≡ o → 3 + length (trace_lines (Some t)) ≡ scans_line o + length t.inputs
trace-end t o is = ap (λ (x : Option (List ℤ)). 3 + length (begin_lines x t.prev t.params ++ map scan_line t.inputs)) is ∙ lines-of t o

-- the line after a proof
pub behind-is : (at : ℕ) (p : Proof) → behind_proof at p ≡ at + 3 + length p.log
behind-is at p = (let all = length-map p.log line_text in omega (arith, all))
