-- A whole turn: the walk over the list of a literal, from its first entry to its end.
use Rattle.std.proofs.Common.{◌≡◌, ℕ, ◌+◌, ◌-◌, ◌*◌, ◌<◌, ◌≤◌, false, List, [], ◌∷◌, ◌++◌, length, refl, sym, ap, subst, ◌∙◌, arith, Option, Some, None, slice_get, slice_index}
use Rattle.std.specs.List.{AllByRecursion}
use Rattle.std.proofs.lemmas.List.{append_assoc, append-nil, length-append}
use Rattle.std.proofs.lemmas.Option.{same_Some, slice_get-get_or}
use Rattle.pv_cnf.specs.Literal.{is_outside}
use Rattle.pv_cnf.specs.Clause.{has_outside}
use Rattle.pv_log.specs.Propagation.{is_false}
use Rattle.pv_region.specs.declared.watch.Watch.{Watch}
use Rattle.pv_region.specs.Stored.{Stored, count_of, list_of, IsLinked}
use Rattle.pv_watch.specs.declared.turn.Walk.{Walk}
use Rattle.pv_watch.specs.Trail.{Path, Extends}
use Rattle.pv_watch.specs.Watched.{Keeps}
use Rattle.pv_watch.specs.Turns.{OtherIsTrue, Walks, IsAtEntry, GoesOn, IsTurned}
use Rattle.pv_watch.proofs.Clauses.{own-inside}
use Rattle.pv_watch.proofs.Guards.{get-extended, keeps-next}
use Rattle.pv_watch.proofs.Moving.{count-costs}
use Rattle.pv_watch.proofs.Walking.{entry-there}
use Rattle.pv_watch.proofs.Looking.{own-at}
use Rattle.pv_watch.proofs.Stepping.{text-on}

pub extends-on : (a b c : Path) → Extends a b → Extends b c → Extends a c
extends-on a b c f g = record {
  variables = g.variables ∙ f.variables;
  starts = g.starts ∙ f.starts;
  more = f.more ++ g.more;
  falses = g.falses ∙ ap (λ (xs : List ℕ). xs ++ g.more) f.falses ∙ append_assoc a.falses f.more g.more;
}

pub goes-on : (s t u : Stored) (a b c : Path) → GoesOn s t a b → GoesOn t u b c → GoesOn s u a c
goes-on s t u a b c f g = record { text = text-on s t u f.text g.text; extends = extends-on a b c f.extends g.extends; sound = g.sound }

pub begin-walk : (s : Stored) (path : Path) (slots : List ℕ) (place lit : ℕ) → Keeps s path slots place → lit ≡ slice_index path.falses place → place < length path.falses
    → is_outside s.variables lit ≡ false → length (list_of s lit) ≤ 2 * count_of s + 2 → Walks s path slots (record { lit = lit; place = place; before = None; kept = 0 }) (list_of s lit)
begin-walk s path slots place lit k is lt inside few = record {
  keeps = k;
  turn = slice_get-get_or path.falses place 0 lt ∙ ap (λ (x : ℕ). Some x) (sym is);
  inside = inside;
  kept = [];
  list = refl;
  before = refl;
  count = refl;
  trues = tt;
  few = let costs = count-costs s in omega (arith, few, costs, k.fits, k.small);
}

pub entry-first : (left : List Watch) (w : Watch) → Some w ≡ slice_get left 0 → (rest : List Watch) × (left ≡ w ∷ rest)
entry-first [] w e = absurd cc
entry-first (x ∷ rest) w e = (rest, ap (λ (v : Watch). v ∷ rest) (same_Some x w (sym e)))

pub no-entry : (left : List Watch) → None ≡ slice_get left 0 → left ≡ []
no-entry [] e = refl
no-entry (x ∷ rest) e = absurd cc

-- the walk with its entries to come
pub record IsWalking (s : Stored) (path : Path) (slots : List ℕ) (walk : Walk) (next : Option Watch) : Type 0 where
  pub left : List Watch
  pub walks : Walks s path slots walk left
  pub next_is : next ≡ slice_get left 0

pub at-entry : (s : Stored) (path : Path) (slots : List ℕ) (walk : Walk) (next : Option Watch) (w : Watch) → IsWalking s path slots walk next → next ≡ Some w → IsAtEntry s path slots walk w
at-entry s path slots walk next w is e =
    let (rest, same) = entry-first is.left w (sym e ∙ is.next_is) in
    record { left = rest; walks = subst (Walks s path slots walk) same is.walks }

pub entry-linked : (s : Stored) (path : Path) (slots : List ℕ) (walk : Walk) (w : Watch) → IsAtEntry s path slots walk w → IsLinked s w
entry-linked s path slots walk w at = record { lit = walk.lit; there = entry-there s path slots walk w at.left at.walks }

pub end-walk : (s : Stored) (path : Path) (slots : List ℕ) (walk : Walk) (next : Option Watch) → IsWalking s path slots walk next → next ≡ None → IsTurned s path slots walk.place walk.lit
end-walk s path slots walk next is e =
    let none : is.left ≡ [] = no-entry is.left (sym e ∙ is.next_is) in
    record {
      keeps = is.walks.keeps;
      trues = subst (AllByRecursion (OtherIsTrue path.falses slots)) (sym (is.walks.list ∙ ap (λ (ws : List Watch). is.walks.kept ++ ws) none ∙ append-nil is.walks.kept)) is.walks.trues;
    }

pub measure-is : (s : Stored) (path : Path) (slots : List ℕ) (walk : Walk) (left : List Watch) → Walks s path slots walk left → length (list_of s walk.lit) - walk.kept ≡ length left
measure-is s path slots walk left walks =
    let size : length (list_of s walk.lit) ≡ length (walks.kept ++ left) = ap length walks.list in
    omega (arith, size, length-append walks.kept left, walks.count)

-- what the literal at a place of the trail is
pub turn-inside : (s : Stored) (path : Path) (slots : List ℕ) (place lit : ℕ) → Keeps s path slots place → lit ≡ slice_index path.falses place → place < length path.falses
    → has_outside path.variables path.falses ≡ false → is_outside s.variables lit ≡ false
turn-inside s path slots place lit k is lt inside =
    ap (λ (v : ℕ). is_outside v lit) k.variables
    ∙ own-inside path.variables path.falses lit inside (ap (is_false path.falses) is ∙ own-at path.falses place lt)

-- ---- from an entry to the next one

module _ (s t : Stored) (old new : Path) (slots now : List ℕ) (walk after : Walk) (next behind : Option Watch) (w : Watch) (is : IsWalking s old slots walk next) (e : next ≡ Some w)
    (on : (left : List Watch) → Walks s old slots walk (w ∷ left) → Walks t new now after left) where
  pub walking-on : ((lit : ℕ) (front rest : List Watch) → list_of s lit ≡ front ++ w ∷ rest → behind ≡ slice_get rest 0) → IsWalking t new now after behind
  walking-on follows =
      let at = at-entry s old slots walk next w is e in
      record { left = at.left; walks = on at.left at.walks; next_is = follows walk.lit at.walks.kept at.left at.walks.list }

  pub walking-falls : length (list_of t after.lit) - after.kept < length (list_of s walk.lit) - walk.kept
  walking-falls =
      let at = at-entry s old slots walk next w is e in
      let before = measure-is s old slots walk (w ∷ at.left) at.walks in
      let less = measure-is t new now after at.left (on at.left at.walks) in
      omega (arith, before, less)

-- ---- a turn is over

pub turned-next : (s : Stored) (old new : Path) (slots : List ℕ) (done : ℕ) → IsTurned s new slots done (slice_index old.falses done) → Extends old new → done < length old.falses → Keeps s new slots (done + 1)
turned-next s old new slots done turned e lt =
    let there = get-extended old new done (slice_index old.falses done) e (slice_get-get_or old.falses done 0 lt) in
    keeps-next s new slots done (slice_index old.falses done) turned.keeps there turned.trues
