-- Lines of a log copied one after another.
use Rattle.std.proofs.Common.{◌≡◌, ℕ, zero, suc, ◌+◌, List, [], ◌∷◌, ◌++◌, take, ap, arith, Some, ◌∙◌}
use Rattle.std.specs.Prelude.{slice_get}
use Rattle.pv_log.specs.declared.line.Line.{Line}

pub take_line : (lines : List Line) (n : ℕ) (line : Line) → slice_get lines n ≡ Some line → take (n + 1) lines ≡ take n lines ++ line ∷ []
take_line [] n line at = absurd cc
take_line (x ∷ lines) zero line at = (let same : x ≡ line = cc in ap (λ (y : Line). y ∷ []) same)
take_line (x ∷ lines) (suc n) line at =
    let e : suc n + 1 ≡ suc (n + 1) = omega arith in
    ap (λ (k : ℕ). take k (x ∷ lines)) e ∙ ap (λ (xs : List Line). x ∷ xs) (take_line lines n line at)
