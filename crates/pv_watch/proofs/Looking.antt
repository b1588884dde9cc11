-- A clause of whose watched literals one is false is looked at.
use Rattle.std.proofs.Common.{◌≡◌, ◌≢◌, ℕ, zero, suc, ◌+◌, ◌-◌, ◌*◌, ◌<◌, ◌||◌, true, false, eqb, List, [], ◌∷◌, ◌++◌, length, get_or, set, take, refl, sym, ap, subst, ◌∙◌, arith, inl, inr, Option, Some, slice_get}
use Rattle.std.proofs.lemmas.Bool.{eqb-true, eq-eqb, or_cases, or_left, or_right, both_ways}
use Rattle.std.proofs.lemmas.List.{append-nil, take_more, take_all}
use Rattle.std.proofs.lemmas.Option.{same_Some}
use Rattle.pv_cnf.specs.Literal.{complement, is_outside}
use Rattle.pv_log.specs.Propagation.{is_false, named, unit_of}
use Rattle.pv_log.proofs.ForCallers.{false-push, inside-bounds, named-at}
use Rattle.pv_watch.specs.Trail.{Path, Rise, Extends}
use Rattle.pv_watch.specs.Turns.{Replaces, LeavesOne, IsMadeTrue}
use Rattle.pv_watch.proofs.Lefts.{unit-when}
use Rattle.pv_watch.proofs.Paths.{sound-imply}
use Rattle.pv_watch.proofs.Clauses.{sole-left}

pub below-bound : (v lit : ℕ) → is_outside v lit ≡ false → lit < 2 * v + 2
below-bound v lit e = let b = inside-bounds v lit e in omega (arith, b.1)

pub own-at : (clause : List ℕ) (i : ℕ) → i < length clause → is_false clause (get_or clause i 0) ≡ true
own-at [] i lt = absurd (omega arith)
own-at (x ∷ xs) zero lt = or_left (eqb x x) (is_false xs x) (eq-eqb x x refl)
own-at (x ∷ xs) (suc i) lt = or_right (eqb (get_or xs i 0) x) (is_false xs (get_or xs i 0)) (own-at xs i (omega arith))

-- the literals of a clause so far but one are false
pub falses-more : (falses clause : List ℕ) (other i : ℕ) → i < length clause → ((x : ℕ) → is_false (take i clause) x ≡ true → x ≢ other → is_false falses x ≡ true)
    → (get_or clause i 0 ≢ other → is_false falses (get_or clause i 0) ≡ true)
    → (x : ℕ) → is_false (take (i + 1) clause) x ≡ true → x ≢ other → is_false falses x ≡ true
falses-more falses clause other i lt before here x own ne =
    let more : is_false (take (i + 1) clause) x ≡ (is_false (take i clause) x || (eqb x (get_or clause i 0) || false)) =
    ap (λ (xs : List ℕ). is_false xs x) (take_more clause i 0 lt) ∙ false-push (take i clause) (get_or clause i 0) x in
    elim (or_cases (is_false (take i clause) x) (eqb x (get_or clause i 0) || false) (sym more ∙ own)) [
      | inl there ↦ before x there ne
      | inr last ↦ elim (or_cases (eqb x (get_or clause i 0)) false last) [
        | inl e ↦ (let same : x ≡ get_or clause i 0 = eqb-true x (get_or clause i 0) e in
            ap (is_false falses) same ∙ here (λ is. ne (same ∙ is)))
        | inr none ↦ absurd (both_ways false refl none)
      ]
    ]

pub extends-self : (path : Path) → Extends path path
extends-self path = record { variables = refl; starts = refl; more = []; falses = sym (append-nil path.falses) }

pub already-true : (path : Path) (id : ℕ) (clause : List ℕ) (lit : ℕ) → is_false path.falses (complement lit) ≡ true → IsMadeTrue path path id clause lit
already-true path id clause lit e = record { extends = extends-self path; true_is = e; sound = λ clauses at s. s }

pub made-true : (old new : Path) (id : ℕ) (clause : List ℕ) (lit made : ℕ) → made ≡ complement lit → LeavesOne old clause lit
    → is_false old.falses (complement lit) ≡ false → is_false old.falses lit ≡ false
    → new.variables ≡ old.variables → new.falses ≡ old.falses ++ made ∷ [] → new.reasons ≡ set old.reasons (length old.falses) id → new.starts ≡ old.starts
    → length old.falses < length old.reasons → Rise old.starts (length old.falses) → IsMadeTrue old new id clause lit
made-true old new id clause lit made made-is leaves unset not_false variables falses reasons starts room rise =
    let unit : unit_of old.falses clause ≡ Some lit = unit-when old.falses clause lit (sole-left old.falses clause lit leaves.valid.distinct leaves.own not_false leaves.rest) unset in
    record {
      extends = record { variables = variables; starts = starts; more = made ∷ []; falses = falses };
      true_is =
          ap (λ (f : List ℕ). is_false f (complement lit)) falses ∙ false-push old.falses made (complement lit)
          ∙ or_right (is_false old.falses (complement lit)) (eqb (complement lit) made || false) (or_left (eqb (complement lit) made) false (eq-eqb (complement lit) made (sym made-is)));
      sound = λ clauses at s. sound-imply clauses old new made id s rise falses reasons clause lit room starts at unit made-is;
    }

-- a part of the trail that is the whole
pub whole-replaces : (falses clause : List ℕ) (other upto : ℕ) (found : Option ℕ) → upto ≡ length falses → Replaces (take upto falses) clause other found → Replaces falses clause other found
whole-replaces falses clause other upto found e r =
    subst (λ (f : List ℕ). Replaces f clause other found) (take_all upto falses (omega (arith, e))) r

-- the clause that the region gives is the one with this number
pub visited-is : (clauses : List (List ℕ)) (id : ℕ) (lits clause : List ℕ) → 0 < id → slice_get clauses (id - 1) ≡ Some lits → named clauses id ≡ Some clause → lits ≡ clause
visited-is clauses id lits clause lt at name =
    same_Some lits clause (sym at ∙ sym (named-at clauses id (id - 1) (omega (arith, lt))) ∙ name)

-- the literal that stands alone in a clause
pub sole-rest : (falses clause : List ℕ) → length clause ≡ 1 → (x : ℕ) → is_false clause x ≡ true → x ≢ get_or clause 0 0 → is_false falses x ≡ true
sole-rest falses [] e x own ne = absurd (both_ways false refl own)
sole-rest falses (y ∷ []) e x own ne =
    elim (or_cases (eqb x y) false own) [
      | inl here ↦ absurd (ne (eqb-true x y here))
      | inr none ↦ absurd (both_ways false refl none)
    ]
sole-rest falses (y ∷ z ∷ zs) e x own ne = absurd (omega (arith, e))
