-- Statements gathered along lists: one element more, and what is left behind the last.
use Rattle.std.proofs.Common.{◌≡◌, ℕ, ◌<◌, ◌≤◌, ◌+◌, suc, sym, ap, ◌∙◌, List, [], ◌∷◌, ◌++◌, drop, get_or, length, arith, append_assoc}
use Rattle.std.proofs.Math.Seq.{drop-cons}
use Rattle.std.proofs.lemmas.List.{append-nil, drop_all}
use Rattle.pv_tree.specs.Tree.{StmtTree}
use Rattle.pv_rules.specs.Statements.{all_in}

-- a statement is put behind others, and then what lies in it
pub begun : (old new inner : List StmtTree) (s : StmtTree) (within : List StmtTree) → new ≡ old ++ s ∷ [] → within ≡ s ∷ inner
    → new ++ inner ≡ old ++ within
begun old new inner s within is in_ =
    ap (λ l. l ++ inner) is ∙ append_assoc old (s ∷ []) inner ∙ ap (λ l. old ++ l) (sym in_)

-- and what lies in it was put there
pub ended : (old new inner : List StmtTree) (s : StmtTree) (within last : List StmtTree) → new ≡ old ++ s ∷ [] → within ≡ s ∷ inner
    → last ≡ new ++ inner → last ≡ old ++ within
ended old new inner s within last is in_ e = e ∙ begun old new inner s within is in_

-- a statement of the code is one of this form
pub formed : (s t : StmtTree) (inner : List StmtTree) → s ≡ t → all_in t ≡ t ∷ inner → all_in s ≡ s ∷ inner
formed s t inner e f = ap all_in e ∙ f ∙ ap (λ y. y ∷ inner) (sym e)

module _ {X : Type 0} (one : X → List StmtTree) (all : List X → List StmtTree) (behind : List StmtTree) (xs : List X) where
  pub next_one : ((y : X) (ys : List X) → all (y ∷ ys) ≡ one y ++ all ys) → (i j : ℕ) (x : X) (n m total : List StmtTree)
      → i < length xs → x ≡ get_or xs i x → j ≡ i + 1 → m ≡ n ++ one x
      → n ++ (all (drop i xs) ++ behind) ≡ total → m ++ (all (drop j xs) ++ behind) ≡ total
  next_one parts i j x n m total inside is next looked left =
      let k : j ≡ suc i = omega (arith, next) in
      let rest = all (drop (suc i) xs) in
      ap (λ k. m ++ (all (drop k xs) ++ behind)) k
      ∙ ap (λ c. c ++ (rest ++ behind)) looked
      ∙ append_assoc n (one x) (rest ++ behind)
      ∙ ap (λ l. n ++ l) (sym (append_assoc (one x) rest behind))
      ∙ ap (λ l. n ++ (l ++ behind)) (sym (parts x (drop (suc i) xs)))
      ∙ ap (λ l. n ++ (all l ++ behind)) (sym (drop-cons xs i x inside ∙ ap (λ y. y ∷ drop (suc i) xs) (sym is)))
      ∙ left

  pub behind_last : all [] ≡ [] → (i : ℕ) (n total : List StmtTree) → length xs ≤ i
      → n ++ (all (drop i xs) ++ behind) ≡ total → n ++ behind ≡ total
  behind_last none i n total end left =
      ap (λ l. n ++ (l ++ behind)) (sym none) ∙ ap (λ l. n ++ (all l ++ behind)) (sym (drop_all i xs end)) ∙ left

-- the same with nothing behind
pub next_alone : {X : Type 0} (one : X → List StmtTree) (all : List X → List StmtTree) (xs : List X)
    → ((y : X) (ys : List X) → all (y ∷ ys) ≡ one y ++ all ys) → (i j : ℕ) (x : X) (n m total : List StmtTree)
    → i < length xs → x ≡ get_or xs i x → j ≡ i + 1 → m ≡ n ++ one x → n ++ all (drop i xs) ≡ total → m ++ all (drop j xs) ≡ total
next_alone one all xs parts i j x n m total inside is next looked left =
    ap (λ l. m ++ l) (sym (append-nil (all (drop j xs))))
    ∙ next_one one all [] xs parts i j x n m total inside is next looked (ap (λ l. n ++ l) (append-nil (all (drop i xs))) ∙ left)

pub last_alone : {X : Type 0} (all : List X → List StmtTree) (xs : List X) → all [] ≡ [] → (i : ℕ) (n total : List StmtTree) → length xs ≤ i
    → n ++ all (drop i xs) ≡ total → n ≡ total
last_alone all xs none i n total end left =
    sym (append-nil n) ∙ ap (λ l. n ++ l) (sym none) ∙ ap (λ l. n ++ all l) (sym (drop_all i xs end)) ∙ left
