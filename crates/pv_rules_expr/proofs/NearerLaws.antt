-- The nearer of two places is one whichever is named first: places are added in any order.
use Rattle.std.proofs.Common.{◌≡◌, ℕ, refl, sym, ap, ◌∙◌, List, [], ◌∷◌, Option, Some, None, Bool, true, false, if◌then◌else◌, true≢false, IsTrue, arith}
use Rattle.std.specs.Prelude.{nat_lt, nat_eq, nat_le, ◌&&◌, ◌||◌}
use Rattle.std.proofs.lemmas.Bool.Decides.{nat_tests}
use Rattle.pv_place.specs.declared.place.Place.{Place}
use Rattle.pv_tree.specs.Scopes.{Scope}
use Rattle.pv_tree.specs.Parts.{Part}
use Rattle.pv_rules_expr.specs.Nearest.{is_before, nearer_of}
use Rattle.pv_rules_expr.specs.NearestIn.{nearest_in}
use Rattle.pv_rules_expr.specs.Looks.{part_place, near_parts}
use Rattle.pv_rules_expr.specs.declared.search.Look.{Look}
use Rattle.pv_rules_expr.proofs.Nearing.{through, other}

same_file : (f g p q : ℕ) → IsTrue (nat_lt f g || (nat_eq f g && nat_le p q)) → IsTrue (nat_lt g f || (nat_eq g f && nat_le q p)) → f ≡ g
same_file f g p q s t = grind (arith, nat_tests)

same_offset : (f g p q : ℕ) → IsTrue (nat_lt f g || (nat_eq f g && nat_le p q)) → IsTrue (nat_lt g f || (nat_eq g f && nat_le q p)) → p ≡ q
same_offset f g p q s t = grind (arith, nat_tests)

same_place : (a b : Place) → IsTrue (is_before a b) → IsTrue (is_before b a) → a ≡ b
same_place a b s t = place (same_file a.file b.file a.offset b.offset s t) (same_offset a.file b.file a.offset b.offset s t)
  where
    place : a.file ≡ b.file → a.offset ≡ b.offset → a ≡ b
    place f o = ap (λ n. record { file = n; offset = a.offset }) f ∙ ap (λ n. record { file = b.file; offset = n }) o

pub nearer_none : (n : Option Place) → nearer_of n None ≡ n
nearer_none None = refl
nearer_none (Some a) = refl

abbrev one_of : Place → Place → Option Place
one_of a b = if is_before a b then Some a else Some b

first_one : (a b : Place) → is_before a b ≡ true → one_of a b ≡ Some a
first_one a b is = ap (λ t. if t then Some a else Some b) is

other_one : (a b : Place) → is_before a b ≡ false → one_of a b ≡ Some b
other_one a b is = ap (λ t. if t then Some a else Some b) is

pub nearer_commutes : (m n : Option Place) → nearer_of m n ≡ nearer_of n m
nearer_commutes None n = sym (nearer_none n)
nearer_commutes (Some a) None = refl
nearer_commutes (Some a) (Some b) = by (is_before a b) (is_before b a) refl refl
  where
    by : (s t : Bool) → is_before a b ≡ s → is_before b a ≡ t → one_of a b ≡ one_of b a
    by true true e f = first_one a b e ∙ ap Some (same_place a b e f) ∙ sym (first_one b a f)
    by true false e f = first_one a b e ∙ sym (other_one b a f)
    by false true e f = other_one a b e ∙ sym (first_one b a f)
    by false false e f = absurd (true≢false (sym (other a b e) ∙ f))

pub nearer_joins : (l m n : Option Place) → nearer_of (nearer_of l m) n ≡ nearer_of l (nearer_of m n)
nearer_joins None m n = refl
nearer_joins (Some a) None n = refl
nearer_joins (Some a) (Some b) None = nearer_none (one_of a b)
nearer_joins (Some a) (Some b) (Some c) = by (is_before a b) (is_before b c) (is_before a c) refl refl refl
  where
    by : (s t u : Bool) → is_before a b ≡ s → is_before b c ≡ t → is_before a c ≡ u
        → nearer_of (one_of a b) (Some c) ≡ nearer_of (Some a) (one_of b c)
    by true true u e f g =
        ap (λ x. nearer_of x (Some c)) (first_one a b e) ∙ first_one a c (through a b c e f) ∙ sym (first_one a b e)
        ∙ sym (ap (nearer_of (Some a)) (first_one b c f))
    by true false u e f g = ap (λ x. nearer_of x (Some c)) (first_one a b e) ∙ sym (ap (nearer_of (Some a)) (other_one b c f))
    by false true u e f g =
        ap (λ x. nearer_of x (Some c)) (other_one a b e) ∙ first_one b c f ∙ sym (other_one a b e)
        ∙ sym (ap (nearer_of (Some a)) (first_one b c f))
    by false false true e f g =
        ap (λ x. nearer_of x (Some c)) (other_one a b e) ∙ other_one b c f
        ∙ ap Some (sym (same_place a c g (through c b a (other b c f) (other a b e)))) ∙ sym (first_one a c g)
        ∙ sym (ap (nearer_of (Some a)) (other_one b c f))
    by false false false e f g =
        ap (λ x. nearer_of x (Some c)) (other_one a b e) ∙ other_one b c f ∙ sym (other_one a c g)
        ∙ sym (ap (nearer_of (Some a)) (other_one b c f))

-- the last two change their order
pub nearer_swapped : (l m n : Option Place) → nearer_of (nearer_of l m) n ≡ nearer_of (nearer_of l n) m
nearer_swapped l m n = nearer_joins l m n ∙ ap (nearer_of l) (nearer_commutes m n) ∙ sym (nearer_joins l n m)

pub nearer_pairs : (k l m n : Option Place) → nearer_of (nearer_of k l) (nearer_of m n) ≡ nearer_of (nearer_of k m) (nearer_of l n)
nearer_pairs k l m n =
    sym (nearer_joins (nearer_of k l) m n) ∙ ap (λ x. nearer_of x n) (nearer_swapped k l m) ∙ nearer_joins (nearer_of k m) l n

-- two places added one after the other
pub added_both : (a b c x y : Option Place) → b ≡ nearer_of a x → c ≡ nearer_of b y → c ≡ nearer_of a (nearer_of x y)
added_both a b c x y first second = second ∙ ap (λ n. nearer_of n y) first ∙ nearer_joins a x y

-- what was found before a list, or before parts, is behind them as well
pub in_from : {X : Type 0} (f : X → Option Place) (xs : List X) (n : Option Place)
    → nearest_in f xs n ≡ nearer_of n (nearest_in f xs None)
in_from f [] n = sym (nearer_none n)
in_from f (x ∷ xs) n =
    in_from f xs (nearer_of n (f x)) ∙ nearer_joins n (f x) (nearest_in f xs None) ∙ ap (nearer_of n) (sym (in_from f xs (f x)))

pub in_more : {X : Type 0} (f : X → Option Place) (xs : List X) (n p : Option Place)
    → nearest_in f xs (nearer_of n p) ≡ nearer_of (nearest_in f xs n) p
in_more f xs n p =
    in_from f xs (nearer_of n p) ∙ nearer_swapped n p (nearest_in f xs None) ∙ ap (λ x. nearer_of x p) (sym (in_from f xs n))

pub parts_from : (what : Look) (scope : Scope) (ps : List Part) (n : Option Place)
    → near_parts what scope ps n ≡ nearer_of n (near_parts what scope ps None)
parts_from what scope [] n = sym (nearer_none n)
parts_from what scope (p ∷ ps) n =
    let x = part_place what scope p.want p.expr in
    parts_from what scope ps (nearer_of n x) ∙ nearer_joins n x (near_parts what scope ps None)
    ∙ ap (nearer_of n) (sym (parts_from what scope ps x))

pub parts_more : (what : Look) (scope : Scope) (ps : List Part) (n p : Option Place)
    → near_parts what scope ps (nearer_of n p) ≡ nearer_of (near_parts what scope ps n) p
parts_more what scope ps n p =
    parts_from what scope ps (nearer_of n p) ∙ nearer_swapped n p (near_parts what scope ps None)
    ∙ ap (λ x. nearer_of x p) (sym (parts_from what scope ps n))
