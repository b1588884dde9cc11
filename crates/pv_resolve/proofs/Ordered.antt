-- A node more keeps the order.
use Rattle.std.proofs.Common.{◌≡◌, ℕ, zero, suc, ◌⊎◌, inl, inr, List, [], ◌∷◌, ◌++◌, length, Some, refl, sym, subst, ap, arith}
use Rattle.std.specs.Prelude.{slice_get, None, ℤ, pos, negsuc, ◌<ℤ◌, ◌≤ℤ◌, unsigned_abs}
use Rattle.std.proofs.lemmas.Int.{ints}
use Rattle.std.proofs.lemmas.Option.{slice_get_within, none-some}
use Rattle.std.proofs.lemmas.List.{take-append-le, take_at}
use Rattle.pv_eval.specs.declared.node.Node.{Node}
use Rattle.pv_eval.specs.declared.node.Node.TheVariants.{Constant}
use Rattle.pv_eval.specs.Order.{most_of, most_at, MayFollow, AreNodes}

got_push : {X : Type 0} (xs : List X) (x : X) (k : ℕ) (y : X) → slice_get (xs ++ x ∷ []) k ≡ Some y → (slice_get xs k ≡ Some y) ⊎ ((k ≡ length xs) × (x ≡ y))
got_push [] x zero y h = inr (refl, cc)
got_push [] x (suc k) y h = inl h
got_push (z ∷ xs) x zero y h = inl h
got_push (z ∷ xs) x (suc k) y h =
    elim (got_push xs x k y h) [ inl e ↦ inl e | inr p ↦ inr (ap suc p.0, p.1) ]

pub ordered_push : (nodes : List Node) (node : Node) → AreNodes nodes → MayFollow nodes node → AreNodes (nodes ++ node ∷ [])
ordered_push nodes node h next = record {
  each = λ k x at. elim (got_push nodes node k x at) [
    | inl e ↦ subst (λ before. MayFollow before x) (sym (take-append-le k nodes (node ∷ []) (omega (arith, slice_get_within nodes k x e)))) (h.each k x e)
    | inr p ↦ subst (λ before. MayFollow before x) (sym (take_at nodes (node ∷ []) k (sym p.0))) (subst (MayFollow nodes) p.1 next)
  ];
}

-- the most that a number of a cell is stays, and that of the last is its node's
pub most_push : (nodes : List Node) (x : Node) (k m : ℕ) → most_at nodes k ≡ Some m → most_at (nodes ++ x ∷ []) k ≡ Some m
most_push [] x k m is = absurd (none-some m (by k is))
  where
    by : (i : ℕ) → most_at [] i ≡ Some m → None ≡ Some m
    by zero e = e
    by (suc i) e = e
most_push (y ∷ ys) x zero m is = is
most_push (y ∷ ys) x (suc k) m is = most_push ys x k m is

pub most_last : (nodes : List Node) (x : Node) → most_at (nodes ++ x ∷ []) (length nodes) ≡ most_of x
most_last [] x = refl
most_last (y ∷ ys) x = most_last ys x

pub no_nodes : AreNodes []
no_nodes = record { each = λ k x at. cc }

-- ---- a constant's number, where it is one from 0 on

pub natural_none : (v : ℤ) → v <ℤ pos 0 → None ≡ most_of (Constant v)
natural_none (pos n) h = absurd (omega (arith, ints, h))
natural_none (negsuc n) h = refl

pub natural_some : (v : ℤ) → pos 0 ≤ℤ v → Some (unsigned_abs v) ≡ most_of (Constant v)
natural_some (pos n) h = refl
natural_some (negsuc n) h = absurd (omega (arith, ints, h))
