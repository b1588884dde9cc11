-- Steps back, and what marks show of a node's way to itself: from a target to the root, and from the root to the node.
use Rattle.std.proofs.Common.{◌≡◌, ℕ, zero, suc, ◌<◌, List, [], ◌∷◌, ◌++◌, Bool, true, false, ◌&&◌, ◌||◌, length, refl, ap, sym, subst, ◌∙◌, arith, inl, inr, get_or}
use Rattle.std.specs.Prelude.{◌⊎◌, Vec, Result, Ok, Err, IfOk, slice_index_or, slice_set, nat_eq}
use Rattle.std.specs.List.{list_any}
use Rattle.std.proofs.lemmas.Bool.{and_parts, cases_Bool, true≢false, eqb-true}
use Rattle.pv_graph.specs.declared.targets.Targets.{Targets}
use Rattle.pv_graph.specs.Members.{Has}
use Rattle.pv_graph.specs.Graphs.{lists_of, next_of, Leads, here, by, LeadFrom}
use Rattle.pv_graph.specs.Arounds.{AreBack, AreLed, AreLeading}
use Rattle.pv_graph.proofs.Members.{has_either}
use Rattle.pv_graph.proofs.Searching.{leads_then, of_some}

-- ---- steps back

-- one step more from a node
one_more : (ts : List Targets) (t new : Targets) (from to a b : ℕ) → t ≡ get_or ts from t → new.list.items ≡ t.list.items ++ to ∷ []
    → Has (next_of (lists_of (slice_set ts from new)) b) a → Has (next_of (lists_of ts) b) a ⊎ ((b ≡ from) × (a ≡ to))
one_more [] t new from to a b is made h = absurd h
one_more (u ∷ us) t new zero to a zero is made h =
    elim (has_either (λ y. y ≡ a) t.list.items (to ∷ []) (subst (λ l. Has l a) made h)) [
      | inl old ↦ inl (subst (λ v. Has v.list.items a) is old)
      | inr it ↦ elim it [ inl same ↦ inr (refl, sym same) | inr never ↦ absurd never ]
    ]
one_more (u ∷ us) t new zero to a (suc b) is made h = inl h
one_more (u ∷ us) t new (suc from) to a zero is made h = inl h
one_more (u ∷ us) t new (suc from) to a (suc b) is made h = elim (one_more us t new from to a b is made h) [
  | inl old ↦ inl old
  | inr it ↦ inr (ap suc it.0, it.1)
]

pub step_added : (g : List (List ℕ)) (ts : List Targets) (t new : Targets) (from to : ℕ) → t ≡ get_or ts from t
    → new.list.items ≡ t.list.items ++ to ∷ [] → AreBack g (lists_of ts) → Has (next_of g to) from → AreBack g (lists_of (slice_set ts from new))
step_added g ts t new from to is made are step a b h = elim (one_more ts t new from to a b is made h) [
  | inl old ↦ are a b old
  | inr it ↦ subst (λ y. Has (next_of g y) b) (sym it.1) (subst (λ x. Has (next_of g to) x) (sym it.0) step)
]

pub there : (xs : List ℕ) (i d : ℕ) → i < length xs → Has xs (get_or xs i d)
there [] i d lt = absurd (omega (arith, lt))
there (x ∷ xs) zero d lt = inl refl
there (x ∷ xs) (suc i) d lt = inr (there xs i d (omega (arith, lt)))

leads_back : (g back : List (List ℕ)) → AreBack g back → (a b : ℕ) → Leads back a b → Leads g b a
leads_back g back are a b here = here
leads_back g back are a b (by {b = c} h l) = leads_then g b c a (leads_back g back are c b l) (by (are c a h) here)

-- what a root leads to by steps back leads to it
pub turned : {E A : Type 0} (g : List (List ℕ)) (ts us : List Targets) (roots : List ℕ) (r : Result (Vec Bool A) E) → us ≡ ts
    → AreBack g (lists_of ts) → IfOk r (λ v. AreLed (lists_of us) roots v.items) → IfOk r (λ v. AreLeading g roots v.items)
turned g ts us roots (Err e) same are ok = tt
turned g ts us roots (Ok v) same are led =
    λ a marked. leads_back g (lists_of ts) are (slice_index_or roots a 0) a
    (subst (λ l. AreLed (lists_of l) roots v.items) same led a marked)

-- ---- a way from a node to itself

passing : (test : ℕ → Bool) (xs : List ℕ) → list_any test xs ≡ true → (x : ℕ) × Has xs x × (test x ≡ true)
passing test [] any = absurd (true≢false (sym any))
passing test (x ∷ xs) any = elim (cases_Bool (test x)) [
  | inl is ↦ (x, inl refl, is)
  | inr isnt ↦ let rest = passing test xs (sym (ap (λ t. t || list_any test xs) isnt) ∙ any) in (rest.0, inr rest.1, rest.2)
]

pub shown : (g : List (List ℕ)) (roots : List ℕ) (led leading l m : List Bool) (nodes : List ℕ) (node root : ℕ) (f r : Bool)
    → AreLed g roots led → AreLeading g roots leading → l ≡ led → f ≡ slice_index_or l node false → f ≡ true → m ≡ leading
    → root ≡ slice_index_or roots node 0 → nodes ≡ next_of g node
    → r ≡ list_any (λ b. nat_eq (slice_index_or roots b 0) root && slice_index_or m b false) nodes → r ≡ true
    → LeadFrom g (next_of g node) node
shown g roots led leading l m nodes node root f r are to el ef f_true em er en any r_true =
    let one = passing (λ b. nat_eq (slice_index_or roots b 0) root && slice_index_or m b false) nodes (sym any ∙ r_true) in
    let its = and_parts (nat_eq (slice_index_or roots one.0 0) root) (slice_index_or m one.0 false) one.2 in
    let same : slice_index_or roots node 0 ≡ slice_index_or roots one.0 0 =
    sym er ∙ sym (eqb-true (slice_index_or roots one.0 0) root its.0) in
    let from : Leads g (slice_index_or roots node 0) node = are node (sym (ap (λ x. slice_index_or x node false) el) ∙ sym ef ∙ f_true) in
    let on : Leads g one.0 (slice_index_or roots one.0 0) = to one.0 (sym (ap (λ x. slice_index_or x one.0 false) em) ∙ its.1) in
    of_some (λ a. Leads g a node) (next_of g node) one.0 (subst (λ x. Has x one.0) en one.1)
    (leads_then g one.0 (slice_index_or roots one.0 0) node on (subst (λ y. Leads g y node) same from))
