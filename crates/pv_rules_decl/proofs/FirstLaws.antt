-- The first breach of two families of rules, of one rule at one place, and of what breaks the same.
use Rattle.std.proofs.Common.{List, [], ◌∷◌, map, inl, inr, true≢false, ◌≤◌, ◌≡◌, ℕ, refl, sym, subst, Option, Some, None, Bool, true, false, if◌then◌else◌, arith, IsTrue}
use Rattle.std.proofs.lemmas.Bool.Decides.{nat_tests}
use Rattle.pv_place.specs.declared.place.Place.{Place}
use Rattle.pv_tree.specs.Rules as tree
use Rattle.pv_rules_decl.specs.Names.{rule_of}
use Rattle.pv_tree.specs.Least.{is_up_to as is_up_to_at}
use Rattle.pv_rules_expr.specs.Nearest.{is_before, IsNearest}
use Rattle.pv_rules_decl.specs.Least.{Breaches, is_up_to, IsFirst, lesser, least, breach_where, breach_at, breach_found, OfRule, AreNear, HasRule, BreaksWhere, Either}
use Rattle.pv_rules_decl.specs.declared.least.Found.{Found}
use Rattle.pv_rules_decl.specs.declared.fault.Breach.{Breach}
use Rattle.pv_rules_decl.specs.declared.fault.Rule.{Rule}

-- the order in numbers
record UpTo (m : ℕ) (a : Place) (n : ℕ) (b : Place) : Type 0 where
  file : a.file ≤ b.file
  offset : a.file ≡ b.file → a.offset ≤ b.offset
  rule : a.file ≡ b.file → a.offset ≡ b.offset → m ≤ n

up_of : (m n : ℕ) (a b : Place) → IsTrue (is_up_to_at m a n b) → UpTo m a n b
up_of m n a b h = record { file = grind arith; offset = λ e. grind arith; rule = λ e f. grind arith }

to_up : (m n : ℕ) (a b : Place) → UpTo m a n b → IsTrue (is_up_to_at m a n b)
to_up m n a b h = let f = h.file in let o = h.offset in let r = h.rule in grind (arith, f, o, r)

up_to_same : (m : ℕ) (a : Place) → IsTrue (is_up_to_at m a m a)
up_to_same m a = grind arith

up_to_trans : (m n k : ℕ) (a b c : Place) → IsTrue (is_up_to_at m a n b) → IsTrue (is_up_to_at n b k c) → IsTrue (is_up_to_at m a k c)
up_to_trans m n k a b c h g =
    let p = up_of m n a b h in
    let q = up_of n k b c g in
    let pf = p.file in
    let qf = q.file in
    to_up m k a c record {
      file = omega (arith, pf, qf);
      offset = λ e.
          let x = p.offset (omega (arith, pf, qf, e)) in
          let y = q.offset (omega (arith, pf, qf, e)) in omega (arith, x, y);
      rule = λ e f.
          let x = p.offset (omega (arith, pf, qf, e)) in
          let y = q.offset (omega (arith, pf, qf, e)) in
          let z = p.rule (omega (arith, pf, qf, e)) (omega (arith, x, y, f)) in
          let w = q.rule (omega (arith, pf, qf, e)) (omega (arith, x, y, f)) in omega (arith, z, w);
    }

up_to_total : (m n : ℕ) (a b : Place) → is_up_to_at m a n b ≡ false → IsTrue (is_up_to_at n b m a)
up_to_total m n a b h = grind arith

abbrev num : tree.Rule → ℕ
num = tree.number_of

-- what breaks the same has the same first breach
pub first_same : (A B : Breaches) (o : Option Breach) → ((r : tree.Rule) (at : Place) → A r at → B r at)
    → ((r : tree.Rule) (at : Place) → B r at → A r at) → IsFirst A o → IsFirst B o
first_same A B None to from h = λ r at b. h r at (from r at b)
first_same A B (Some b) to from h = record { broken = to (rule_of b.rule) b.place h.broken; least = λ r at x. h.least r at (from r at x) }

-- the first of two families
pub first_either : (A B : Breaches) (x y : Option Breach) → IsFirst A x → IsFirst B y → IsFirst (Either A B) (lesser x y)
first_either A B None None h g = λ r at e. elim e [ inl a ↦ h r at a | inr b ↦ g r at b ]
first_either A B None (Some y) h g = record {
  broken = inr g.broken;
  least = λ r at e. elim e [ inl a ↦ absurd (h r at a) | inr b ↦ g.least r at b ];
}
first_either A B (Some x) None h g = record {
  broken = inl h.broken;
  least = λ r at e. elim e [ inl a ↦ h.least r at a | inr b ↦ absurd (g r at b) ];
}
first_either A B (Some x) (Some y) h g = by (is_up_to x y) refl
  where
    by : (t : Bool) → is_up_to x y ≡ t → IsFirst (Either A B) (if t then Some x else Some y)
    by true e = record {
      broken = inl h.broken;
      least = λ r at o. elim o [
        | inl a ↦ h.least r at a
        | inr b ↦ up_to_trans (num (rule_of x.rule)) (num (rule_of y.rule)) (num r) x.place y.place at e (g.least r at b)
      ];
    }
    by false e = record {
      broken = inr g.broken;
      least = λ r at o. elim o [
        | inl a ↦ up_to_trans (num (rule_of y.rule)) (num (rule_of x.rule)) (num r) y.place x.place at
            (up_to_total (num (rule_of x.rule)) (num (rule_of y.rule)) x.place y.place e) (h.least r at a)
        | inr b ↦ g.least r at b
      ];
    }

-- one rule, by its nearest place
up_to_near : (m : ℕ) (a b : Place) → IsTrue (is_before a b) → IsTrue (is_up_to_at m a m b)
up_to_near m a b h = grind (arith, nat_tests)

pub first_of_rule : (rule : Rule) (P : Place → Type 0) (o : Option Place) → IsNearest P o → IsFirst (OfRule rule P) (breach_at rule o)
first_of_rule rule P None h = λ r at b. h at b.1
first_of_rule rule P (Some a) h = record {
  broken = (refl, h.0);
  least = λ r at b. subst (λ q. IsTrue (is_up_to_at (num (rule_of rule)) a (num q) at)) b.0 (up_to_near (num (rule_of rule)) a at (h.1 at b.1));
}

-- one rule at one place
pub first_where : (test : Bool) (rule : Rule) (place : Place) → IsFirst (BreaksWhere test rule place) (breach_where test rule place)
first_where true rule place = record {
  broken = (refl, refl, refl);
  least = λ r at b. subst (λ q. IsTrue (is_up_to_at (tree.number_of (rule_of rule)) place (tree.number_of q) at)) b.0
      (subst (λ p. IsTrue (is_up_to_at (tree.number_of (rule_of rule)) place (tree.number_of (rule_of rule)) p)) b.1
      (up_to_same (tree.number_of (rule_of rule)) place));
}
first_where false rule place = λ r at b. absurd (true≢false (sym b.2))

-- ---- rules one by one

of_those : (P : Breaches) (fs : List Found) → AreNear P fs → IsFirst (λ r at. HasRule r fs × P r at) (least (map breach_found fs))
of_those P [] near = λ r at h. h.0
of_those P (f ∷ fs) near =
    first_same (Either (OfRule f.rule (P (rule_of f.rule))) (λ r at. HasRule r fs × P r at)) (λ r at. HasRule r (f ∷ fs) × P r at)
    (least (map breach_found (f ∷ fs)))
    (λ r at h. elim h [ inl b ↦ (inl b.0, subst (λ q. P q at) b.0 b.1) | inr b ↦ (inr b.0, b.1) ])
    (λ r at h. elim h.0 [ inl is ↦ inl (is, subst (λ q. P q at) (sym is) h.1) | inr b ↦ inr (b, h.1) ])
    (first_either (OfRule f.rule (P (rule_of f.rule))) (λ r at. HasRule r fs × P r at) (breach_found f) (least (map breach_found fs))
    (first_of_rule f.rule (P (rule_of f.rule)) f.place near.0) (of_those P fs near.1))

-- where each rule that may be broken is among them, the first of all
pub first_of_all : (P : Breaches) (fs : List Found) (o : Option Breach) → AreNear P fs → ((r : tree.Rule) (at : Place) → P r at → HasRule r fs)
    → o ≡ least (map breach_found fs) → IsFirst P o
first_of_all P fs o near all is =
    subst (IsFirst P) (sym is)
    (first_same (λ r at. HasRule r fs × P r at) P (least (map breach_found fs)) (λ r at h. h.1) (λ r at p. (all r at p, p)) (of_those P fs near))
