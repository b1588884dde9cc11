-- Rounds of refinement: they can be put one after another, and each takes at least one cell out of the list of abstracted ones.
use Rattle.std.proofs.Common.{◌≡◌, ℕ, suc, ◌+◌, ◌<◌, ◌≤◌, Bool, true, false, cond, not, ◌||◌, inl, inr, List, [], ◌∷◌, ◌++◌, length, refl, sym, ap, subst, ◌∙◌, arith}
use Rattle.std.specs.Prelude.{nat_eq, IsTrue}
use Rattle.std.specs.List.{AllByRecursion}
use Rattle.std.proofs.lemmas.Bool.{cases_eq, ne_eqb, eq-eqb}
use Rattle.pv_cert.specs.declared.proof.Query.{Query}
use Rattle.pv_cert.specs.declared.proof.Proof.{Proof}
use Rattle.pv_kind.specs.Refinements.{Stage, Round, Tells, Refines, IsRefined, IsRefinedBy, AreOnWay, IsRefinedInFew, is_among, without, put_back}
use Rattle.pv_kind.specs.Oracles.{Encoding}
use Rattle.pv_kind.specs.Asking.{IsRefinedOnce}

-- ---- one after another

pub refines_on : (tells : Tells) (r s t : Stage) (rounds more : List Round) → Refines tells r rounds s → Refines tells s more t → Refines tells r (rounds ++ more) t
refines_on tells r s t [] more e f = subst (λ (x : Stage). Refines tells x more t) (sym e) f
refines_on tells r s t (x ∷ rounds) more e f = (e.0, refines_on tells (put_back x.cells r) s t rounds more e.1 f)

pub refined_none : (tells : Tells) (s : Stage) → IsRefined tells s s
refined_none tells s = ([], refl)

pub refined_same : (tells : Tells) (s t : Stage) → t ≡ s → IsRefined tells s t
refined_same tells s t is = ([], sym is)

pub refined_on : (tells : Tells) (r s t : Stage) → IsRefined tells r s → IsRefined tells s t → IsRefined tells r t
refined_on tells r s t a b = (a.0 ++ b.0, refines_on tells r s t a.0 b.0 a.1 b.1)

-- ---- rounds in which only such queries were asked

all_on : (P : Round → Type 0) (xs ys : List Round) → AllByRecursion P xs → AllByRecursion P ys → AllByRecursion P (xs ++ ys)
all_on P [] ys a b = b
all_on P (x ∷ xs) ys a b = (a.0, all_on P xs ys a.1 b)

all_as : (P Q : Round → Type 0) → ((x : Round) → P x → Q x) → (xs : List Round) → AllByRecursion P xs → AllByRecursion Q xs
all_as P Q f [] a = tt
all_as P Q f (x ∷ xs) a = (f x a.0, all_as P Q f xs a.1)

pub by_none : (tells : Tells) (asked : Query → Type 0) (s : Stage) → IsRefinedBy tells asked s s
by_none tells asked s = ([], refl, tt)

pub by_on : (tells : Tells) (asked : Query → Type 0) (r s t : Stage) → IsRefinedBy tells asked r s → IsRefinedBy tells asked s t → IsRefinedBy tells asked r t
by_on tells asked r s t a b =
    (a.0 ++ b.0, refines_on tells r s t a.0 b.0 a.1 b.1, all_on (λ (x : Round). asked x.query) a.0 b.0 a.2 b.2)

by_as : (tells : Tells) (asked others : Query → Type 0) (s t : Stage) → ((q : Query) → asked q → others q) → IsRefinedBy tells asked s t → IsRefinedBy tells others s t
by_as tells asked others s t f h =
    (h.0, h.1, all_as (λ (x : Round). asked x.query) (λ (x : Round). others x.query) (λ x. f x.query) h.0 h.2)

pub by_once : (e : Encoding) (q : Query) (s t : Stage) → IsRefinedOnce e q s t → IsRefinedBy e.tells (λ (x : Query). x ≡ q) s t
by_once e q s t h = (h.round ∷ [], (h.is_round, sym h.leads), (h.asked, tt))

pub refined_by : (tells : Tells) (asked : Query → Type 0) (s t : Stage) → IsRefinedBy tells asked s t → IsRefined tells s t
refined_by tells asked s t h = (h.0, h.1)

-- ---- proofs on the way

other : (p q x : Query) → (p ≡ q → ⊥) → x ≡ q → x ≡ p → ⊥
other p q x differ is same = differ (sym same ∙ is)

-- a query was asked of which there is no proof yet
pub way_on : (tells : Tells) (q : Query) (r s t : Stage) (proofs : List Proof) → AllByRecursion (λ (p : Proof). p.query ≡ q → ⊥) proofs
    → AreOnWay tells r proofs s → IsRefinedBy tells (λ (x : Query). x ≡ q) s t → AreOnWay tells r proofs t
way_on tells q r s t [] differ way on = refined_on tells r s t way (refined_by tells (λ (x : Query). x ≡ q) s t on)
way_on tells q r s t (p ∷ proofs) differ way on =
    let after : IsRefinedBy tells (λ (x : Query). x ≡ p.query → ⊥) s t =
    by_as tells (λ (x : Query). x ≡ q) (λ (x : Query). x ≡ p.query → ⊥) s t (λ x is. other p.query q x differ.0 is) on in
    (way.0, way.1, way.2, by_on tells (λ (x : Query). x ≡ p.query → ⊥) way.0 s t way.3 after, way_on tells q way.0 s t proofs differ.1 way.4 on)

pub way_push : (tells : Tells) (r s : Stage) (proofs : List Proof) (proof : Proof) → AreOnWay tells r proofs s → s.chain ≡ proof.chain
    → AreOnWay tells r (proofs ++ proof ∷ []) s
way_push tells r s [] proof way is = (s, way, is, by_none tells (λ (x : Query). x ≡ proof.query → ⊥) s, refined_none tells s)
way_push tells r s (p ∷ proofs) proof way is = (way.0, way.1, way.2, way.3, way_push tells way.0 s proofs proof way.4 is)

-- ---- fewer cells

cond_short : (b : Bool) (x : ℕ) (w : List ℕ) → length (cond b (x ∷ w) w) ≤ suc (length w)
cond_short true x w = omega arith
cond_short false x w = omega arith

short : (cells list : List ℕ) → length (without cells list) ≤ length list
short cells [] = omega arith
short cells (x ∷ list) = omega (arith, cond_short (not (is_among cells x)) x (without cells list), short cells list)

removes : (cells list : List ℕ) (c : ℕ) → is_among list c ≡ true → is_among cells c ≡ true → length (without cells list) < length list
removes cells [] c among gone = absurd cc
removes cells (x ∷ list) c among gone =
    elim (cases_eq c x) [
      | inl same ↦
          (let out : is_among cells x ≡ true = subst (λ (y : ℕ). is_among cells y ≡ true) same gone in
          let is : without cells (x ∷ list) ≡ without cells list =
          ap (λ (b : Bool). cond (not b) (x ∷ without cells list) (without cells list)) out in
          omega (arith, ap (λ (l : List ℕ). length l) is, short cells list))
      | inr differ ↦
          (let ne : nat_eq c x ≡ false = ne_eqb c x differ in
          let rest : is_among list c ≡ true = subst (λ (b : Bool). (b || is_among list c) ≡ true) ne among in
          omega (arith, cond_short (not (is_among cells x)) x (without cells list), removes cells list c rest gone))
    ]

-- some cells, all of which are in the list
some_gone : (list cells : List ℕ) → 0 < length cells → AllByRecursion (λ (cell : ℕ). IsTrue (is_among list cell)) cells → length (without cells list) < length list
some_gone list [] some all = absurd (omega arith)
some_gone list (c ∷ cells) some all =
    removes (c ∷ cells) list c all.0 (ap (λ (b : Bool). b || is_among cells c) (eq-eqb c c refl))

pub fewer : (e : Encoding) (q : Query) (s t : Stage) → IsRefinedOnce e q s t → length t.abstracted < length s.abstracted
fewer e q s t h =
    let less : length (without h.round.cells s.abstracted) < length s.abstracted =
    some_gone s.abstracted h.round.cells h.is_round.some h.is_round.abstracted in
    subst (λ (x : Stage). length x.abstracted < length s.abstracted) (sym h.leads) less

few : (tells : Tells) (s t : Stage) (rounds : List Round) → Refines tells s rounds t → length rounds + length t.abstracted ≤ length s.abstracted
few tells s t [] e = omega (arith, ap (λ (x : Stage). length x.abstracted) e)
few tells s t (r ∷ rounds) h =
    omega (arith, some_gone s.abstracted r.cells h.0.some h.0.abstracted, few tells (put_back r.cells s) t rounds h.1)

pub in_few : (tells : Tells) (s t : Stage) → IsRefined tells s t → IsRefinedInFew tells s t
in_few tells s t h = record { rounds = h.0; lead = h.1; few = omega (arith, few tells s t h.0 h.1) }
