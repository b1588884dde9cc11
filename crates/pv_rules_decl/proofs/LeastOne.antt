-- The nearest place doesn't hang on how often, or in which order, the places come.
use Rattle.std.proofs.Common.{◌≡◌, ℕ, List, ap, subst, refl, ◌∙◌}
use Rattle.std.specs.Prelude.{nat_lt, nat_eq, nat_le, ◌&&◌, ◌||◌, IsTrue, Any, Option, Some, None}
use Rattle.std.proofs.Common.{arith}
use Rattle.std.proofs.lemmas.Bool.Decides.{nat_tests}
use Rattle.pv_place.specs.declared.place.Place.{Place}
use Rattle.pv_rules_expr.specs.Nearest.{is_before, IsNearest}
use Rattle.pv_rules_expr.specs.NearestIn.{nearest_in}
use Rattle.pv_rules_expr.proofs.ForCallers.{itself, nearest_same, in_any, any_has, has_any}
use Rattle.pv_rules_decl.specs.Declarations.{HaveTheSame}
use Rattle.pv_rules_decl.proofs.Sharing.{some_same, same_back}

one_file : (f g p q : ℕ) → IsTrue (nat_lt f g || (nat_eq f g && nat_le p q)) → IsTrue (nat_lt g f || (nat_eq g f && nat_le q p)) → f ≡ g
one_file f g p q s t = grind (arith, nat_tests)

one_offset : (f g p q : ℕ) → IsTrue (nat_lt f g || (nat_eq f g && nat_le p q)) → IsTrue (nat_lt g f || (nat_eq g f && nat_le q p)) → p ≡ q
one_offset f g p q s t = grind (arith, nat_tests)

place_is : (p q : Place) → p.file ≡ q.file → p.offset ≡ q.offset → p ≡ q
place_is p q e g = ap (λ (n : ℕ). record { file = n; offset = p.offset }) e ∙ ap (λ (n : ℕ). record { file = q.file; offset = n }) g

one_place : (a b : Place) → IsTrue (is_before a b) → IsTrue (is_before b a) → a ≡ b
one_place a b s t =
    place_is a b (one_file a.file b.file a.offset b.offset s t) (one_offset a.file b.file a.offset b.offset s t)

-- there is at most one nearest place
pub least_one : (breaks : Place → Type 0) (o p : Option Place) → IsNearest breaks o → IsNearest breaks p → o ≡ p
least_one breaks None None h k = refl
least_one breaks None (Some b) h k = absurd (h b k.0)
least_one breaks (Some a) None h k = absurd (k a h.0)
least_one breaks (Some a) (Some b) h k = ap (λ x. Some x) (one_place a b (h.1 b k.0) (k.1 a h.0))

some_is : (a b : Place) → Some a ≡ Some b → a ≡ b
some_is a b e = cc

none_is : (b : Place) → None ≡ Some b → ⊥
none_is b e = cc

its_own : (o : Option Place) → IsNearest (λ at. o ≡ Some at) o
its_own None = λ at e. none_is at e
its_own (Some a) = (refl, λ at e. subst (λ x. IsTrue (is_before a x)) (some_is a at e) (itself a))

-- so lists with the same elements give the same one
pub near_elements : {X : Type 0} (f : X → Option Place) (xs ys : List X) → HaveTheSame xs ys → nearest_in f xs None ≡ nearest_in f ys None
near_elements {X} f xs ys same =
    least_one (λ at. Any (λ x. f x ≡ Some at) ys) (nearest_in f xs None) (nearest_in f ys None)
    (nearest_same (λ at. Any (λ x. f x ≡ Some at) xs) (λ at. Any (λ x. f x ≡ Some at) ys) (nearest_in f xs None)
    (λ at a. moved at xs ys same a) (λ at a. moved at ys xs (same_back xs ys same) a)
    (in_any (λ x at. f x ≡ Some at) f (λ x. its_own (f x)) xs))
    (in_any (λ x at. f x ≡ Some at) f (λ x. its_own (f x)) ys)
  where
    moved : (at : Place) (us vs : List X) → HaveTheSame us vs → Any (λ x. f x ≡ Some at) us → Any (λ x. f x ≡ Some at) vs
    moved at us vs are a = has_any (λ x. f x ≡ Some at) vs (some_same (λ x. f x ≡ Some at) us vs are (any_has (λ x. f x ≡ Some at) us a))

-- as a block's declarations are looked at: what was gathered stands for all of its variables
pub near_gathered : {X : Type 0} (f : X → Option Place) (seen xs all : List X) (o : Option Place) → o ≡ nearest_in f seen None → seen ≡ xs
    → HaveTheSame xs all → o ≡ nearest_in f all None
near_gathered f seen xs all o is same are = is ∙ ap (λ l. nearest_in f l None) same ∙ near_elements f xs all are
