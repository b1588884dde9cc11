-- The nearest place over parts is the least at which one of them breaks the rule.
use Rattle.std.proofs.Common.{◌≡◌, inl, inr, refl, sym, subst, List, [], ◌∷◌, Option, Some, None, Bool, true, false, if◌then◌else◌, true≢false, IsTrue}
use Rattle.std.specs.Prelude.{◌⊎◌, Any}
use Rattle.pv_place.specs.declared.place.Place.{Place}
use Rattle.pv_tree.specs.Tree.{ExprTree, lit, read, unary, binary, std, paren}
use Rattle.pv_tree.specs.LiteralTypes.{Want}
use Rattle.pv_tree.specs.Scopes.{Scope}
use Rattle.pv_tree.specs.Things.{first_place}
use Rattle.pv_tree.specs.Types.{Written, literal_of}
use Rattle.pv_tree.specs.Parts.{Part}
use Rattle.pv_tree.specs.Rules.Misfits.{Misapplies}
use Rattle.pv_tree.specs.Rules.OutOfRange.{IsPartOutside, IsWrittenOutside}
use Rattle.pv_rules_expr.specs.Members.{HasSome}
use Rattle.pv_rules_expr.specs.Nearest.{is_before, IsNearest}
use Rattle.pv_rules_expr.specs.Places.{place_where, is_written_outside, outside, misapplied}
use Rattle.pv_rules_expr.specs.Looks.{nearer_of, part_place, near_parts}
use Rattle.pv_rules_expr.specs.declared.search.Look.{Look}
use Rattle.pv_rules_expr.specs.declared.search.Look.TheVariants as look
use Rattle.pv_rules_expr.proofs.Nearing.{through, itself, other, any_has, has_any}

pub nearest_same : (A B : Place → Type 0) (o : Option Place) → ((at : Place) → A at → B at) → ((at : Place) → B at → A at) → IsNearest A o
    → IsNearest B o
nearest_same A B None to from h = λ at b. h at (from at b)
nearest_same A B (Some a) to from h = (to a h.0, λ at b. h.1 at (from at b))

pub nearest_both : (A B : Place → Type 0) (x y : Option Place) → IsNearest A x → IsNearest B y → IsNearest (λ at. A at ⊎ B at) (nearer_of x y)
nearest_both A B None None h g = λ at e. elim e [ inl a ↦ h at a | inr b ↦ g at b ]
nearest_both A B None (Some y) h g = (inr g.0, λ at e. elim e [ inl a ↦ absurd (h at a) | inr b ↦ g.1 at b ])
nearest_both A B (Some x) None h g = (inl h.0, λ at e. elim e [ inl a ↦ h.1 at a | inr b ↦ absurd (g at b) ])
nearest_both A B (Some x) (Some y) h g = by (is_before x y) refl
  where
    by : (t : Bool) → is_before x y ≡ t → IsNearest (λ at. A at ⊎ B at) (if t then Some x else Some y)
    by true e = (inl h.0, λ at o. elim o [ inl a ↦ h.1 at a | inr b ↦ through x y at e (g.1 at b) ])
    by false e = (inr g.0, λ at o. elim o [ inl a ↦ through y x at (other x y e) (h.1 at a) | inr b ↦ g.1 at b ])

pub nearest_where : (t : Bool) (place : Place) → IsNearest (λ at. (place ≡ at) × IsTrue t) (place_where t place)
nearest_where true place = ((refl, refl), λ at h. subst (λ x. IsTrue (is_before place x)) h.0 (itself place))
nearest_where false place = λ at h. absurd (true≢false (sym h.1))

-- one part
written_to : (want : Want) (o : Option Written) → IsTrue (is_written_outside want o) → IsWrittenOutside want o
written_to want None h = absurd (true≢false (sym h))
written_to want (Some w) h = h

written_from : (want : Want) (o : Option Written) → IsWrittenOutside want o → IsTrue (is_written_outside want o)
written_from want None h = absurd h
written_from want (Some w) h = h

pub outside_nearest : (p : Part) → IsNearest (λ at. IsPartOutside at p) (outside p.want p.expr)
outside_nearest p =
    nearest_same (λ at. (first_place p.expr ≡ at) × IsTrue (is_written_outside p.want (literal_of p.expr))) (λ at. IsPartOutside at p)
    (outside p.want p.expr)
    (λ at h. (h.0, written_to p.want (literal_of p.expr) h.1))
    (λ at h. (h.0, written_from p.want (literal_of p.expr) h.1))
    (nearest_where (is_written_outside p.want (literal_of p.expr)) (first_place p.expr))

pub misapplied_nearest : (scope : Scope) (e : ExprTree) → IsNearest (λ at. Misapplies scope at e) (misapplied scope e)
misapplied_nearest scope (lit ty value place) = λ at h. h
misapplied_nearest scope (read o) = λ at h. h
misapplied_nearest scope (unary op place arg) = nearest_where _ place
misapplied_nearest scope (binary op place left right) = nearest_where _ place
misapplied_nearest scope (std function place args) = nearest_where _ place
misapplied_nearest scope (paren place inner) = λ at h. h

-- all parts
pub near_all : (what : Look) (scope : Scope) (P : Part → Place → Type 0) → ((p : Part) → IsNearest (P p) (part_place what scope p.want p.expr))
    → (A : Place → Type 0) (ps : List Part) (n : Option Place) → IsNearest A n
    → IsNearest (λ at. A at ⊎ HasSome (λ p. P p at) ps) (near_parts what scope ps n)
near_all what scope P one A [] n h =
    nearest_same A (λ at. A at ⊎ ⊥) n (λ at a. inl a) (λ at e. elim e [ inl a ↦ a | inr b ↦ absurd b ]) h
near_all what scope P one A (p ∷ ps) n h =
    nearest_same (λ at. (A at ⊎ P p at) ⊎ HasSome (λ p. P p at) ps) (λ at. A at ⊎ (P p at ⊎ HasSome (λ p. P p at) ps))
    (near_parts what scope (p ∷ ps) n)
    (λ at e. elim e [ inl f ↦ elim f [ inl a ↦ inl a | inr b ↦ inr (inl b) ] | inr b ↦ inr (inr b) ])
    (λ at e. elim e [ inl a ↦ inl (inl a) | inr f ↦ elim f [ inl b ↦ inl (inr b) | inr b ↦ inr b ] ])
    (near_all what scope P one (λ at. A at ⊎ P p at) ps (nearer_of n (part_place what scope p.want p.expr))
    (nearest_both A (P p) n (part_place what scope p.want p.expr) h (one p)))

pub near_any : (what : Look) (scope : Scope) (P : Part → Place → Type 0) → ((p : Part) → IsNearest (P p) (part_place what scope p.want p.expr))
    → (ps : List Part) → IsNearest (λ at. Any (λ p. P p at) ps) (near_parts what scope ps None)
near_any what scope P one ps =
    nearest_same (λ at. ⊥ ⊎ HasSome (λ p. P p at) ps) (λ at. Any (λ p. P p at) ps) (near_parts what scope ps None)
    (λ at e. elim e [ inl b ↦ absurd b | inr h ↦ has_any (λ p. P p at) ps h ])
    (λ at a. inr (any_has (λ p. P p at) ps a))
    (near_all what scope P one (λ at. ⊥) ps None (λ at b. b))

pub misapplied_any : (scope : Scope) (ps : List Part) (o : Option Place) → o ≡ near_parts look.Misapplied scope ps None
    → IsNearest (λ at. Any (λ p. Misapplies scope at p.expr) ps) o
misapplied_any scope ps o is =
    subst (IsNearest (λ at. Any (λ p. Misapplies scope at p.expr) ps)) (sym is)
    (near_any look.Misapplied scope (λ p at. Misapplies scope at p.expr) (λ p. misapplied_nearest scope p.expr) ps)

pub outside_any : (scope : Scope) (ps : List Part) (o : Option Place) → o ≡ near_parts look.Outside scope ps None
    → IsNearest (λ at. Any (IsPartOutside at) ps) o
outside_any scope ps o is =
    subst (IsNearest (λ at. Any (IsPartOutside at) ps)) (sym is)
    (near_any look.Outside scope (λ p at. IsPartOutside at p) outside_nearest ps)
