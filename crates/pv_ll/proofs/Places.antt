-- Places in the table's arrays.
use Rattle.std.proofs.Common.{◌≡◌, ℕ, ◌+◌, ◌<◌, ◌≤◌, length, ap, arith, get_or, subst, ◌∙◌, inl, inr}
use Rattle.std.specs.Int.{bit_at}
use Rattle.std.proofs.lemmas.Option.{slice_get_within, slice_get-get_or, get_or_from_slice_get}
use Rattle.std.proofs.lemmas.Bool.{cases_eq}
use Rattle.pv_ll.specs.declared.table.Alternative.{Alternative}
use Rattle.pv_ll.specs.declared.table.Rule.{Rule}
use Rattle.pv_ll.specs.declared.table.Language.{Language}
use Rattle.pv_ll.specs.Table.{rule}
use Rattle.pv_ll.specs.Facts.{IsLL1, Selects}
use Rattle.pv_ll.specs.Reading.{Chosen, NoneFits}

-- the part of a name lies in the table
pub owned_within : {l : Language} → IsLL1 l → (n k : ℕ) → (rule l n).from ≤ k → k < (rule l n).to → k < length l.alternatives.now
owned_within {l} fits n k h i = let o = fits.owned n k h i in slice_get_within l.alternatives.now k o.0 o.1

-- what the code reads at a place of the table
pub selects_read : (l : Language) (k : ℕ) (d : Alternative) → k < length l.alternatives.now → Selects l k (get_or l.alternatives.now k d)
selects_read l k d h = slice_get-get_or l.alternatives.now k d h

-- what the code reads in the part of a name is the name's
pub owned_name : {l : Language} → IsLL1 l → (n k : ℕ) (d : Alternative) → (rule l n).from ≤ k → k < (rule l n).to
    → (get_or l.alternatives.now k d).name ≡ n
owned_name {l} fits n k d h i =
    let o = fits.owned n k h i in
    ap (λ (a : Alternative). a.name) (get_or_from_slice_get l.alternatives.now k o.0 d o.1) ∙ o.2

pub found : {l : Language} → IsLL1 l → (n k token : ℕ) (d : Alternative) → (rule l n).from ≤ k → k < (rule l n).to
    → bit_at (get_or l.alternatives.now k d).when token ≡ 1 → Chosen l n token k
found {l} fits n k token d h i e =
    (get_or l.alternatives.now k d, selects_read l k d (owned_within fits n k h i), owned_name fits n k d h i, e)

-- one more alternative that the token doesn't take
pub passed : (l : Language) (n k token : ℕ) (d : Alternative)
    → ((j : ℕ) (a : Alternative) → Selects l j a → a.name ≡ n → bit_at a.when token ≡ 1 → j < k → ⊥)
    → (bit_at (get_or l.alternatives.now k d).when token ≡ 1 → ⊥)
    → (j : ℕ) (a : Alternative) → Selects l j a → a.name ≡ n → bit_at a.when token ≡ 1 → j < k + 1 → ⊥
passed l n k token d before here j a s e b h = elim (cases_eq j k) [
  | inr ne ↦ before j a s e b (omega arith)
  | inl eq ↦ here (ap (λ (x : Alternative). bit_at x.when token) (get_or_from_slice_get l.alternatives.now k a d (subst (λ (i : ℕ). Selects l i a) eq s)) ∙ b)
]

-- past the part of the name there is no alternative of it
pub none_fits : {l : Language} → IsLL1 l → (n token k : ℕ)
    → ((j : ℕ) (a : Alternative) → Selects l j a → a.name ≡ n → bit_at a.when token ≡ 1 → j < k → ⊥)
    → (rule l n).to ≤ k → NoneFits l n token
none_fits {l} fits n token k before h j a s e b =
    let p : j < (rule l n).to = subst (λ (m : ℕ). j < (rule l m).to) e (fits.placed j a s).1 in
    before j a s e b (omega arith)

pub placed_from : {l : Language} → IsLL1 l → (n j : ℕ) (a : Alternative) → Selects l j a → a.name ≡ n → (rule l n).from ≤ j
placed_from {l} fits n j a s e = subst (λ (m : ℕ). (rule l m).from ≤ j) e (fits.placed j a s).0

-- a name's rule, as the code has it
pub at_rule : (l : Language) (n : ℕ) {r : Rule} → r ≡ rule l n → {k : ℕ} → r.from ≤ k → k < r.to → ((rule l n).from ≤ k) × (k < (rule l n).to)
at_rule l n {r} e {k} h i = (subst (λ (s : Rule). s.from ≤ k) e h, subst (λ (s : Rule). k < s.to) e i)
