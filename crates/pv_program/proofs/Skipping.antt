-- Variables without arguments between two that have one, behind the last one, and a variable more that is handed over.
use Rattle.std.proofs.Common.{◌≡◌, ℕ, zero, suc, ◌+◌, ◌-◌, ◌<◌, ◌≤◌, List, [], ◌∷◌, ◌++◌, length, take, drop, get_or, slice_get, Option, Some, None, Bool, true, false, refl, sym, ap, subst, ◌∙◌, arith}
use Rattle.std.specs.Prelude.{find, ◌||◌}
use Rattle.std.specs.List.Sorted.{IsNonDecreasing}
use Rattle.std.proofs.Math.Seq.{drop-cons}
use Rattle.std.proofs.lemmas.Bool.{ne_eqb}
use Rattle.std.proofs.lemmas.List.Sorted.{IsNonDecreasingBy-drop}
use Rattle.std.proofs.lemmas.List.{append-nil, take_all}
use Rattle.std.proofs.lemmas.Option.{same_Some, none-some}
use Rattle.pv_types.specs.declared.declaration.Section.{Section}
use Rattle.pv_types.specs.Tree.{VarTree}
use Rattle.pv_types.specs.View.{name_of, section_of}
use Rattle.pv_tree.specs.Tree.{BlockTree}
use Rattle.pv_tree.specs.Callees.{CallSite}
use Rattle.pv_mean.specs.Sources.{Source}
use Rattle.pv_mean.specs.Calls.{is_for}
use Rattle.pv_run.specs.Handing.{Handed, argument_of}
use Rattle.pv_program.specs.Handed.{handed_one, handed_if, handed_of}
use Rattle.pv_program.specs.Sought.{has_number, HaveAll}
use Rattle.pv_program.proofs.Passing.{handed-append, not-handed, is-handed}

-- ---- the first elements of a list

take-found : (xs : List VarTree) (n : ℕ) (x : VarTree) → slice_get xs n ≡ Some x → take (suc n) xs ≡ take n xs ++ x ∷ []
take-found [] n x is = absurd (none-some x is)
take-found (y ∷ xs) zero x is = ap (λ z. z ∷ []) (same_Some y x is)
take-found (y ∷ xs) (suc n) x is = ap (λ l. y ∷ l) (take-found xs n x is)

take-past : (xs : List VarTree) (n : ℕ) → slice_get xs n ≡ None → take (suc n) xs ≡ take n xs
take-past [] zero is = refl
take-past [] (suc n) is = refl
take-past (y ∷ xs) zero is = absurd (none-some y (sym is))
take-past (y ∷ xs) (suc n) is = ap (λ l. y ∷ l) (take-past xs n is)

-- ---- variables in what is said of all that are handed over

module _ (source : Source) (callee : BlockTree) (test : Section → Bool) (P : List Handed → Type 0) where
  pub one-handed : (n m : ℕ) (v : VarTree) → slice_get callee.vars n ≡ Some v → m ≡ n + 1
      → P (handed_of source callee test (take n callee.vars) ++ handed_if source callee test v) → P (handed_of source callee test (take m callee.vars))
  one-handed n m v is e are =
      let next : m ≡ suc n = omega (arith, e) in
      subst P (sym (ap (λ k. handed_of source callee test (take k callee.vars)) next
      ∙ ap (handed_of source callee test) (take-found callee.vars n v is) ∙ handed-append source callee test (take n callee.vars) v)) are

  module _ (site : CallSite) (over : (h : Handed) (hs : List Handed) → argument_of site callee h ≡ None → P hs → P (hs ++ h ∷ [])) where
    one-over : (v : VarTree) (hs : List Handed) → find (is_for site.how callee (name_of v).key) site.call.args ≡ None → P hs
        → P (hs ++ handed_if source callee test v)
    one-over v hs without are = lead (test (section_of v)) refl
      where
        lead : (b : Bool) → test (section_of v) ≡ b → P (hs ++ handed_if source callee test v)
        lead true e = subst (λ l. P (hs ++ l)) (sym (is-handed source callee test v e)) (over (handed_one source callee v) hs without are)
        lead false e = subst P (sym (ap (λ l. hs ++ l) (not-handed source callee test v e) ∙ append-nil hs)) are

    skipped : (next d : ℕ)
        → ((n : ℕ) (v : VarTree) → next ≤ n → n < next + d → slice_get callee.vars n ≡ Some v
        → find (is_for site.how callee (name_of v).key) site.call.args ≡ None)
        → P (handed_of source callee test (take next callee.vars)) → P (handed_of source callee test (take (next + d) callee.vars))
    skipped next zero none are = subst (λ n. P (handed_of source callee test (take n callee.vars))) (omega arith) are
    skipped next (suc d) none are =
        lead (slice_get callee.vars (next + d)) refl (skipped next d (λ n v le less is. none n v le (omega (arith, less)) is) are)
      where
        lead : (o : Option VarTree) → slice_get callee.vars (next + d) ≡ o → P (handed_of source callee test (take (next + d) callee.vars))
            → P (handed_of source callee test (take (next + suc d) callee.vars))
        lead None is before =
            let same : suc (next + d) ≡ next + suc d = omega arith in
            subst (λ n. P (handed_of source callee test (take n callee.vars))) same
            (subst (λ l. P (handed_of source callee test l)) (sym (take-past callee.vars (next + d) is)) before)
        lead (Some v) is before =
            let same : next + suc d ≡ (next + d) + 1 = omega arith in
            one-handed (next + d) (next + suc d) v is same
            (one-over v (handed_of source callee test (take (next + d) callee.vars)) (none (next + d) v (omega arith) (omega arith) is) before)

    -- between two numbers
    pub skip-between : (next n : ℕ) (numbers : List ℕ) → HaveAll site.how callee site.call.args next (n ∷ numbers) → IsNonDecreasing (n ∷ numbers)
        → next ≤ n → P (handed_of source callee test (take next callee.vars)) → P (handed_of source callee test (take n callee.vars))
    skip-between next n numbers all rise le are =
        let same : next + (n - next) ≡ n = omega (arith, le) in
        subst (λ k. P (handed_of source callee test (take k callee.vars))) same
        (skipped next (n - next) (λ k v from below is. all k v from is (absent k (n ∷ numbers) (λ j d lt. before k j d (omega (arith, below, le)) lt))) are)
      where
        before : (k j d : ℕ) → k < n → j < length (n ∷ numbers) → k < get_or (n ∷ numbers) j d
        before k j d less lt = let first : n ≤ get_or (n ∷ numbers) j d = rise 0 j d (omega arith) lt in omega (arith, less, first)

        absent : (k : ℕ) (xs : List ℕ) → ((j d : ℕ) → j < length xs → k < get_or xs j d) → has_number xs k ≡ false
        absent k [] h = refl
        absent k (x ∷ xs) h =
            let less : k < x = h 0 0 (omega arith) in
            ap (λ b. b || has_number xs k) (ne_eqb k x (λ e. omega (arith, less, e)))
            ∙ absent k xs (λ j d lt. h (suc j) d (omega (arith, lt)))

    -- behind the last number
    pub skip-rest : (next : ℕ) → HaveAll site.how callee site.call.args next []
        → P (handed_of source callee test (take next callee.vars)) → P (handed_of source callee test callee.vars)
    skip-rest next all are =
        subst (λ l. P (handed_of source callee test l)) (take_all (next + length callee.vars) callee.vars (omega arith))
        (skipped next (length callee.vars) (λ k v from below is. all k v from is refl) are)

-- ---- what is left of the numbers

pub number-front : (numbers : List ℕ) (i j : ℕ) → i < length numbers → j ≡ i + 1 → drop i numbers ≡ get_or numbers i 0 ∷ drop j numbers
number-front numbers i j inside e =
    let next : j ≡ suc i = omega (arith, e) in
    drop-cons numbers i 0 inside ∙ ap (λ k. get_or numbers i 0 ∷ drop k numbers) (sym next)

pub rise-front : (numbers : List ℕ) (i j : ℕ) → i < length numbers → j ≡ i + 1 → IsNonDecreasing numbers
    → IsNonDecreasing (get_or numbers i 0 ∷ drop j numbers)
rise-front numbers i j inside e rise =
    subst IsNonDecreasing (number-front numbers i j inside e) (IsNonDecreasingBy-drop (λ x. x) i numbers rise)
