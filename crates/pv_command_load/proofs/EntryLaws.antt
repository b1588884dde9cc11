-- The number of an entered block is that of a block.
use Rattle.std.proofs.Common.{◌≡◌, ◌<◌, ℕ, zero, suc, ◌+◌, List, [], ◌∷◌, length, map, Bool, true, false, cond, Some, refl, subst, arith}
use Rattle.std.specs.Prelude.{slice_get}
use Rattle.std.specs.List.{position_from}
use Rattle.std.proofs.lemmas.List.{length-map}
use Rattle.pv_tree.specs.declared.block.Blocks.{Blocks}
use Rattle.pv_tree.specs.View.{block_tree}
use Rattle.pv_tree.specs.Tree.{BlockTree}
use Rattle.pv_case_fit.specs.Entries.{may_enter, IsEntry}

same : {A : Type 0} (x y : A) → Some x ≡ Some y → x ≡ y
same x y e = cc

below : {A : Type 0} (test : A → Bool) (i : ℕ) (xs : List A) (n : ℕ) → position_from test i xs ≡ Some n → n < i + length xs
below test i [] n e = absurd (cc (e))
below test i (x ∷ xs) n e = lead (test x) (λ h. below test (i + 1) xs n h) e
  where
    lead : (b : Bool) → (position_from test (i + 1) xs ≡ Some n → n < i + 1 + length xs)
        → cond b (Some i) (position_from test (i + 1) xs) ≡ Some n → n < i + suc (length xs)
    lead true rest h = omega (arith, same i n h)
    lead false rest h = omega (arith, rest h)

pub entry_below : (blocks : List BlockTree) (text : List ℕ) (n : ℕ) → IsEntry blocks text n → n < length blocks
entry_below blocks text n is = omega (arith, below (may_enter is.name.key) 0 blocks n is.is)

-- so in the code's list
pub entry_in : (blocks given : Blocks) (text : List ℕ) (n : ℕ) → given ≡ blocks → IsEntry (map block_tree given.list.items) text n
    → n < length blocks.list.items
entry_in blocks given text n same is =
    subst (λ (b : Blocks). n < length b.list.items) same
    (subst (λ k. n < k) (length-map given.list.items block_tree) (entry_below (map block_tree given.list.items) text n is))

pub some_there : {A : Type 0} (xs : List A) (n : ℕ) → n < length xs → (x : A) × (slice_get xs n ≡ Some x)
some_there [] n lt = absurd (omega (arith, lt))
some_there (x ∷ xs) zero lt = (x, refl)
some_there (x ∷ xs) (suc n) lt = some_there xs n (omega (arith, lt))

pub there_below : {A : Type 0} (xs : List A) (n : ℕ) (x : A) → slice_get xs n ≡ Some x → n < length xs
there_below [] n x e = absurd (cc (e))
there_below (y ∷ ys) zero x e = omega arith
there_below (y ∷ ys) (suc n) x e = omega (arith, there_below ys n x e)
