-- Lists that are made piece by piece.
use Rattle.std.proofs.Common.{◌≡◌, ℕ, ◌+◌, ◌<◌, ◌≤◌, zero, suc, List, [], ◌∷◌, ◌++◌, length, take, drop, get_or, refl, subst, lit≤, sym, ◌∙◌, ap, arith, length-append, append_assoc}
use Rattle.std.specs.List.{flat_map}
use Rattle.std.proofs.lemmas.List.{take_more, flat_map_more}
use Rattle.pv_cnf.specs.Clause.{AreClauses}
use Rattle.pv_frames.specs.declared.short.Short.{Short}
use Rattle.pv_frames.specs.declared.short.Short.TheVariants.{Omitted, One, Two, Three}
use Rattle.pv_frames.specs.Short.{clauses_of}

-- one more piece
pub flat_map-more : {X Y : Type 0} (f : X → List Y) (xs : List X) (i : ℕ) (d : X) → i < length xs → flat_map f (take (i + 1) xs) ≡ flat_map f (take i xs) ++ f (get_or xs i d)
flat_map-more f xs i d h = ap (flat_map f) (take_more xs i d h) ∙ sym (flat_map_more f [] (take i xs) (get_or xs i d))

-- a piece, with those before and behind it
pub flat_map-around : {X Y : Type 0} (f : X → List Y) (xs : List X) (i : ℕ) (d : X) → i < length xs → flat_map f xs ≡ flat_map f (take i xs) ++ (f (get_or xs i d) ++ flat_map f (drop (suc i) xs))
flat_map-around f [] i d h = absurd (omega arith)
flat_map-around f (x ∷ xs) zero d h = refl
flat_map-around f (x ∷ xs) (suc i) d h =
    ap (λ ys. f x ++ ys) (flat_map-around f xs i d (omega arith)) ∙ sym (append_assoc (f x) (flat_map f (take i xs)) (f (get_or xs i d) ++ flat_map f (drop (suc i) xs)))

pub clauses-left : (n : ℕ) (xs ys : List (List ℕ)) → AreClauses n (xs ++ ys) → AreClauses n xs
clauses-left n [] ys h = tt
clauses-left n (x ∷ xs) ys h = (h.0, clauses-left n xs ys h.1)

pub clauses-right : (n : ℕ) (xs ys : List (List ℕ)) → AreClauses n (xs ++ ys) → AreClauses n ys
clauses-right n [] ys h = h
clauses-right n (x ∷ xs) ys h = clauses-right n xs ys h.1

pub clauses-both : (n : ℕ) (xs ys : List (List ℕ)) → AreClauses n xs → AreClauses n ys → AreClauses n (xs ++ ys)
clauses-both n [] ys p q = q
clauses-both n (x ∷ xs) ys p q = (p.0, clauses-both n xs ys p.1 q)

-- each piece has clauses, if all together do
pub clauses-at : {X : Type 0} (n : ℕ) (f : X → List (List ℕ)) (xs : List X) (i : ℕ) (d : X) → i < length xs → AreClauses n (flat_map f xs) → AreClauses n (f (get_or xs i d))
clauses-at n f xs i d h all =
    clauses-left n (f (get_or xs i d)) (flat_map f (drop (suc i) xs))
    (clauses-right n (flat_map f (take i xs)) (f (get_or xs i d) ++ flat_map f (drop (suc i) xs)) (subst (AreClauses n) (flat_map-around f xs i d h) all))

at_most_one : (s : Short) → length (clauses_of s) ≤ 1
at_most_one Omitted = lit≤ tt
at_most_one (One a) = lit≤ tt
at_most_one (Two a b) = lit≤ tt
at_most_one (Three a b c) = lit≤ tt

-- no more clauses than there are places for them
pub length-shorts : (xs : List Short) → length (flat_map clauses_of xs) ≤ length xs
length-shorts [] = lit≤ tt
length-shorts (x ∷ xs) = let one = at_most_one x in let more = length-shorts xs in omega (arith, length-append (clauses_of x) (flat_map clauses_of xs))
