-- The last of some words.
use Rattle.std.proofs.Common.{◌≡◌, ℕ, suc, length, List, [], ◌∷◌, ◌++◌, Option, Some, None, refl, ap, sym, ◌∙◌, arith}
use Rattle.std.specs.Prelude.{MatchOption, option_to_list}
use Rattle.pv_tree.specs.Tree.{PlacedName}
use Rattle.pv_parse.specs.InstrStack.{last_word}

word-last : (words : List PlacedName) (x : PlacedName) → last_word (words ++ x ∷ []) ≡ Some x
word-last [] x = refl
word-last (y ∷ []) x = refl
word-last (y ∷ z ∷ words) x = word-last (z ∷ words) x

-- of words of which the last was taken off, if there is one
pub last_popped : (n : ℕ) (all front : List PlacedName) (found : Option PlacedName) (b : Type 0) (p : PlacedName → Type 0) → n ≡ length all
    → all ≡ front ++ option_to_list found → MatchOption found ((n ≡ 0) × b) p → found ≡ last_word all
last_popped n [] front None b p l e m = refl
last_popped n (x ∷ xs) front None b p l e m =
    let none : n ≡ 0 = m.0 in
    absurd (omega arith)
last_popped n all front (Some x) b p l e m = sym (word-last front x) ∙ ap (λ (z : List PlacedName). last_word z) (sym e)
