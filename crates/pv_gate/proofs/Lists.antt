-- Nodes that are put at the end, and where a node stands.
use Rattle.std.proofs.Common.{◌≡◌, ℕ, ◌+◌, ◌≤◌, ◌⊎◌, inl, inr, suc, zero, Bool, true, false, List, [], ◌∷◌, ◌++◌, length, refl, sym, ◌∙◌, ap, subst, cond, arith, Some, None, Option, add-zero}
use Rattle.std.specs.List.{slice_get}
use Rattle.std.specs.Option.{option_or}
use Rattle.std.proofs.lemmas.Option.{slice_get_within}
use Rattle.std.proofs.lemmas.List.{take-append-le, take_at}
use Rattle.std.proofs.lemmas.Bool.{cases_Bool, cond-true, cond-false}
use Rattle.pv_gate.specs.declared.netlist.Node.{Node}
use Rattle.pv_gate.specs.declared.netlist.Node.TheVariants.{True}
use Rattle.pv_gate.specs.Node.{is_same}
use Rattle.pv_gate.specs.Netlist.{IsNetlist, MayFollow}
use Rattle.pv_gate.specs.Build.{number_from}
use Rattle.pv_gate.proofs.Nodes.{is_same-true}

-- the last node of a list, or one before it
pub slice_get_push : {X : Type 0} (xs : List X) (x : X) (k : ℕ) (y : X) → slice_get (xs ++ x ∷ []) k ≡ Some y → (slice_get xs k ≡ Some y) ⊎ ((k ≡ length xs) × (x ≡ y))
slice_get_push [] x zero y h = inr (refl, cc)
slice_get_push [] x (suc k) y h = inl h
slice_get_push (z ∷ xs) x zero y h = inl h
slice_get_push (z ∷ xs) x (suc k) y h =
    elim (slice_get_push xs x k y h) [ inl e ↦ inl e | inr p ↦ inr (ap suc p.0, p.1) ]

pub slice_get_push_old : {X : Type 0} (xs : List X) (x : X) (k : ℕ) (y : X) → slice_get xs k ≡ Some y → slice_get (xs ++ x ∷ []) k ≡ Some y
slice_get_push_old [] x k y h = cc
slice_get_push_old (z ∷ xs) x zero y h = h
slice_get_push_old (z ∷ xs) x (suc k) y h = slice_get_push_old xs x k y h

-- a node that may come next keeps the order
pub IsNetlist-push : (nodes : List Node) (node : Node) → IsNetlist nodes → MayFollow nodes node → IsNetlist (nodes ++ node ∷ [])
IsNetlist-push nodes node h next = record {
  first = slice_get_push_old nodes node 0 True h.first;
  each = λ k x at. elim (slice_get_push nodes node k x at) [
    | inl e ↦ subst (λ before. MayFollow before x) (sym (take-append-le k nodes (node ∷ []) (omega (arith, slice_get_within nodes k x e)))) (h.each k x e)
    | inr p ↦ subst (λ before. MayFollow before x) (sym (take_at nodes (node ∷ []) k (sym p.0))) (subst (MayFollow nodes) p.1 next)
  ];
}

push_step : (b : Bool) (n : ℕ) (r s t : Option ℕ) → r ≡ option_or s t → cond b (Some n) r ≡ option_or (cond b (Some n) s) t
push_step true n r s t h = refl
push_step false n r s t h = h

-- where a node stands once there is one more
pub number_from-push : (n : ℕ) (q : Node) (xs : List Node) (x : Node) → number_from n q (xs ++ x ∷ []) ≡ option_or (number_from n q xs) (cond (is_same x q) (Some (n + length xs)) None)
number_from-push n q [] x = rw add-zero
number_from-push n q (y ∷ ys) x =
    let e : suc n + length ys ≡ n + suc (length ys) = omega arith in
    push_step (is_same y q) n _ _ _
    (number_from-push (suc n) q ys x ∙ ap (λ m. option_or (number_from (suc n) q ys) (cond (is_same x q) (Some m) None)) e)

-- a node that is found stands at the number that is answered
pub number_from-found : (n : ℕ) (q : Node) (xs : List Node) (m : ℕ) → number_from n q xs ≡ Some m → (k : ℕ) × (m ≡ n + k) × (slice_get xs k ≡ Some q)
number_from-found n q [] m h = cc
number_from-found n q (y ∷ ys) m h =
    elim (cases_Bool (is_same y q)) [
      | inl e ↦ let s : Some n ≡ Some m = sym (cond-true _ _ _ e) ∙ h in
          let t : n ≡ m = cc in
          (0, omega arith, ap Some (is_same-true y q e))
      | inr e ↦ let p = number_from-found (suc n) q ys m (sym (cond-false _ _ _ e) ∙ h) in
          let f : m ≡ suc n + p.0 = p.1 in
          (suc p.0, omega arith, p.2)
    ]

-- node 1 is there
pub one_node : (nodes : List Node) → IsNetlist nodes → 1 ≤ length nodes
one_node nodes h = omega (arith, slice_get_within nodes 0 True h.first)
