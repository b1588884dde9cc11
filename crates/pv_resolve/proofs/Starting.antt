-- Where the parts of a table begin, by sizes that are counted up to the bound.
use Rattle.std.proofs.Common.{◌≡◌, ℕ, ◌+◌, ◌<◌, ◌≤◌, ap, ◌∙◌, arith}
use Rattle.pv_tree.specs.Tree.{BlockTree}
use Rattle.pv_tree.specs.Scopes.{ProjectTree}
use Rattle.pv_mean.specs.declared.count.TheConstants.{BEYOND}
use Rattle.pv_mean.specs.Counts.{capped}
use Rattle.pv_mean.specs.Layout.{entry_size, data_size}
use Rattle.pv_resolve.proofs.Beginning.{exact_number}

pub entry_exact : (p q : ProjectTree) (x y : BlockTree) (a : ℕ) → a ≡ capped (entry_size p x) → a < BEYOND → p ≡ q → x ≡ y → a ≡ entry_size q y
entry_exact p q x y a e below same same_entry =
    exact_number a (entry_size p x) e below ∙ ap (λ r. entry_size r x) same ∙ ap (entry_size q) same_entry

pub behind_exact : (p q : ProjectTree) (y : BlockTree) (a b : ℕ) → a ≡ entry_size q y → b ≡ capped (data_size p p.blocks) → b < BEYOND → p ≡ q
    → a + b ≡ entry_size q y + data_size q q.blocks
behind_exact p q y a b first e below same =
    ap (λ k. k + b) first
    ∙ ap (λ k. entry_size q y + k) (exact_number b (data_size p p.blocks) e below ∙ ap (λ (r : ProjectTree). data_size r r.blocks) same)

pub beyond_both : (x y a b : ℕ) → a ≡ capped x → b ≡ capped y → BEYOND ≤ a + b → BEYOND ≤ x + y
beyond_both x y a b p q h = omega (arith, p, q, h)

pub within_both : (x y a b : ℕ) → a ≡ capped x → b ≡ capped y → a + b < BEYOND → BEYOND ≤ x + y → ⊥
within_both x y a b p q h k = omega (arith, p, q, h, k)
