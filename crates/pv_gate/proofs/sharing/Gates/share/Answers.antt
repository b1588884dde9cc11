use Rattle.std.proofs.Common.{◌≡◌, ◌<◌, ◌≤◌, ℕ, refl, sym, arith}
use Rattle.std.proofs.lemmas.Bool.{true≢false}
use Rattle.pv_gate.proofs.Given.{gives_present, gives_limit, gives_added, share_found, share_absent}
use Rattle.pv_gate.proofs.sharing.Gates.share.Goals as goal

room : {m n : ℕ} → m ≤ n → (m ≡ n → ⊥) → m < n
room le ne = omega arith

pub returns-in-Some : goal.returns-in-Some
returns-in-Some c = gives_present _ _ _ c.find.ensures.within (share_found _ _ _ c.in-Some.ensures.found)

pub returns-then-is_full : goal.returns-then-is_full
returns-then-is_full c = gives_limit _ _ (share_absent _ _ c.in_default.ensures.found) c.requires.gate (c.if-is_full.ensures.full.0 refl)

pub returns : goal.returns
returns c = gives_added _ _ _ _ (share_absent _ _ c.in_default.ensures.found) c.requires.gate (room c.if-is_full.ensures.within (λ e. true≢false (sym (c.if-is_full.ensures.full.1 e)))) c.add.ensures.literal c.add.ensures.nodes c.add.ensures.err
