-- Calls by number, block by block.
use Rattle.std.proofs.Common.{◌≡◌, ℕ, zero, suc, ◌+◌, ◌<◌, List, [], ◌∷◌, Bool, true, false, map, length, get_or, refl, ap, sym, subst, ◌∙◌, arith, inl, inr}
use Rattle.std.specs.Prelude.{◌⊎◌, Option, None, IsTrue, slice_index_or}
use Rattle.std.proofs.lemmas.Bool.{true≢false}
use Rattle.std.proofs.lemmas.List.{length-map}
use Rattle.pv_place.specs.declared.place.Place.{Place}
use Rattle.pv_rules_expr.specs.Members.{HasSome}
use Rattle.pv_rules_expr.specs.Nearest.{Nears, IsNearest}
use Rattle.pv_rules_expr.proofs.ForCallers.{near_same, near_then, nearest_by}
use Rattle.pv_graph.specs.Graphs.{EndsAt}
use Rattle.pv_graph.specs.Rounds.{AreEnds}
use Rattle.pv_rules_call.specs.declared.links.Link.{Link}
use Rattle.pv_rules_call.specs.declared.links.Links.{Links}
use Rattle.pv_rules_call.specs.ByNumber.{links_graph, links_at, IsBackLink, HasBackLink, IsDeepLink, HasDeepLink}

links_there : (all : List Links) (i : ℕ) (l : Links) → i < length all → l ≡ get_or all i l → links_at all i ≡ l.list.items
links_there [] i l lt is = absurd (omega (arith, lt))
links_there (x ∷ xs) zero l lt is = ap (λ y. y.list.items) (sym is)
links_there (x ∷ xs) (suc i) l lt is = links_there xs i l (omega (arith, lt)) is

less_or_last : (a n : ℕ) → a < n + 1 → (a < n) ⊎ (a ≡ n)
less_or_last a zero lt = inr (omega (arith, lt))
less_or_last zero (suc n) lt = inl (omega arith)
less_or_last (suc a) (suc n) lt = elim (less_or_last a n (omega (arith, lt))) [ inl less ↦ inl (omega (arith, less)) | inr same ↦ inr (ap suc same) ]

identity : {X : Type 0} (xs : List X) → map (λ k. k) xs ≡ xs
identity [] = refl
identity (x ∷ xs) = ap (λ l. x ∷ l) (identity xs)

-- what one of the first blocks has: one more block, none, and all
abbrev InFirst : (ℕ → Place → Type 0) → ℕ → Place → Type 0
InFirst P n at = (i : ℕ) × (i < n) × P i at

more_first : (P : ℕ → Place → Type 0) (i : ℕ) (a b c : Option Place) → Nears (InFirst P i) a b → Nears (P i) b c → Nears (InFirst P (i + 1)) a c
more_first P i a b c before now =
    near_same (λ x. InFirst P i x ⊎ P i x) (InFirst P (i + 1)) a c
    (λ x s. elim s [ inl k ↦ (let lt = k.1 in (k.0, omega (arith, lt), k.2)) | inr k ↦ (i, omega arith, k) ])
    (λ x k. elim (less_or_last k.0 i k.1) [ inl less ↦ inl (k.0, less, k.2) | inr same ↦ inr (subst (λ j. P j x) same k.2) ])
    (near_then (InFirst P i) (P i) a b c before now)

none_first : (P : ℕ → Place → Type 0) (o : Option Place) → Nears (λ at. ⊥) o o → Nears (InFirst P 0) o o
none_first P o n = near_same (λ at. ⊥) (InFirst P 0) o o (λ at h. absurd h) (λ at k. let lt = k.1 in absurd (omega (arith, lt))) n

all_first : (P : ℕ → Place → Type 0) (n m : ℕ) (o : Option Place) → n ≡ m → Nears (InFirst P n) None o → IsNearest (InFirst P m) o
all_first P n m o is near =
    nearest_by (InFirst P n) (InFirst P m) o (λ at h. subst (λ k. InFirst P k at) is h) (λ at h. subst (λ k. InFirst P k at) (sym is) h) near

-- ---- calls from which calls lead back

pub more_links : (h : List (List ℕ)) (g : List (List ℕ)) (all : List Links) (i : ℕ) (l : Links) (items : List Link) (a b c : Option Place) → h ≡ g → i < length all
    → l ≡ get_or all i l → items ≡ l.list.items → Nears (HasBackLink g all i) a b
    → Nears (λ at. HasSome (IsBackLink h i at) (map (λ k. k) items)) b c → Nears (HasBackLink g all (i + 1)) a c
more_links h g all i l items a b c hg lt is at before one =
    more_first (λ j x. HasSome (IsBackLink g j x) (links_at all j)) i a b c before
    (subst (λ ks. Nears (λ x. HasSome (IsBackLink g i x) ks) b c) (identity items ∙ at ∙ sym (links_there all i l lt is))
    (subst (λ w. Nears (λ x. HasSome (IsBackLink w i x) (map (λ k. k) items)) b c) hg one))

pub no_links : (g : List (List ℕ)) (all : List Links) (o : Option Place) → Nears (λ at. ⊥) o o → Nears (HasBackLink g all 0) o o
no_links g all o n = none_first (λ j x. HasSome (IsBackLink g j x) (links_at all j)) o n

pub all_links : (g : List (List ℕ)) (all : List Links) (n : ℕ) (o : Option Place) → n ≡ length all → Nears (HasBackLink g all n) None o
    → IsNearest (HasBackLink g all (length all)) o
all_links g all n o is near = all_first (λ j x. HasSome (IsBackLink g j x) (links_at all j)) n (length all) o is near

-- ---- calls at which a long chain ends

module _ (g : List (List ℕ)) (all : List Links) (calls : ℕ) where
  pub more_deep : (h : List (List ℕ)) (marks slice : List Bool) (i : ℕ) (l : Links) (items : List Link) (t : Bool) (a b c : Option Place) → h ≡ g
      → AreEnds h marks calls → slice ≡ marks → t ≡ slice_index_or slice i false → i < length all → l ≡ get_or all i l → items ≡ l.list.items
      → Nears (HasDeepLink g all calls i) a b → Nears (λ at. IsTrue t × HasSome (λ k. k.place ≡ at) items) b c
      → Nears (HasDeepLink g all calls (i + 1)) a c
  more_deep h marks slice i l items t a b c hg are cut test lt is at before one =
      let marked = are.ends i in
      let there : t ≡ slice_index_or marks i false = test ∙ ap (λ m. slice_index_or m i false) cut in
      let same : items ≡ links_at all i = at ∙ sym (links_there all i l lt is) in
      more_first (IsDeepLink g all calls) i a b c before
      (near_same (λ x. IsTrue t × HasSome (λ k. k.place ≡ x) items) (IsDeepLink g all calls i) b c
      (λ x s. (subst (λ w. EndsAt w calls i) hg (marked.0 (sym there ∙ s.0)), subst (HasSome (λ k. k.place ≡ x)) same s.1))
      (λ x s. (there ∙ marked.1 (subst (λ w. EndsAt w calls i) (sym hg) s.0), subst (HasSome (λ k. k.place ≡ x)) (sym same) s.1))
      one)

  pub no_deep : (o : Option Place) → Nears (λ at. ⊥) o o → Nears (HasDeepLink g all calls 0) o o
  no_deep o n = none_first (IsDeepLink g all calls) o n

  pub all_deep : (n : ℕ) (o : Option Place) → n ≡ length all → Nears (HasDeepLink g all calls n) None o
      → IsNearest (HasDeepLink g all calls (length all)) o
  all_deep n o is near = all_first (IsDeepLink g all calls) n (length all) o is near

-- the calls of a block count where the test passes
pub where_so : (items : List Link) (a b : Option Place) (t : Bool) → t ≡ true → Nears (λ at. HasSome (λ k. k.place ≡ at) (map (λ k. k) items)) a b
    → Nears (λ at. IsTrue t × HasSome (λ k. k.place ≡ at) items) a b
where_so items a b t so near =
    near_same (λ at. HasSome (λ k. k.place ≡ at) (map (λ k. k) items)) (λ at. IsTrue t × HasSome (λ k. k.place ≡ at) items) a b
    (λ at h. (so, subst (HasSome (λ k. k.place ≡ at)) (identity items) h)) (λ at h. subst (HasSome (λ k. k.place ≡ at)) (sym (identity items)) h.1) near

pub where_not : (items : List Link) (a : Option Place) (t : Bool) → t ≡ false → Nears (λ at. ⊥) a a
    → Nears (λ at. IsTrue t × HasSome (λ k. k.place ≡ at) items) a a
where_not items a t not_so near =
    near_same (λ at. ⊥) (λ at. IsTrue t × HasSome (λ k. k.place ≡ at) items) a a (λ at h. absurd h) (λ at h. true≢false (sym h.0 ∙ not_so)) near

-- a block's number is a node
pub node_here : (g : List (List ℕ)) (all : List Links) (i : ℕ) → g ≡ links_graph all → i < length all → i < length g
node_here g all i is lt = subst (λ n. i < n) (sym (ap length is ∙ length-map all (λ l. map (λ k. k.to) l.list.items))) lt
