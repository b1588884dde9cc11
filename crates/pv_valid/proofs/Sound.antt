-- The same of bytes: a certificate written out of its fields is itself.
use Rattle.std.proofs.Common.{◌≡◌, ℕ, List, ap, sym, subst}
use Rattle.pv_claims.specs.declared.claim.Claim.{Claim}
use Rattle.pv_valid.specs.declared.fault.Verdict.{Verdict}
use Rattle.pv_valid.specs.Cases.{Case, IsSound}
use Rattle.pv_valid.specs.Validity.{IsValid}
use Rattle.pv_valid.specs.Saying.{Says}
use Rattle.pv_valid.proofs.Says.{says}

pub is-so : (case : Case) (bytes : List ℕ) (verdict : Verdict) → IsSound case → (valid : IsValid case bytes verdict)
    → Says case valid.certificate verdict.claim
is-so case bytes verdict sound valid =
    let c = valid.certificate in
    let claim-is : verdict.claim ≡ c.claim = ap (λ (v : Verdict). v.claim) valid.says in
    subst (λ (claim : Claim). Says case c claim) (sym claim-is)
    (says case sound c.claim c.trace c.next c.proofs valid.is_text.valid.has_trace.has_form valid.is_right)
