-- The walk over the list of a literal that is false: entries stay where the other literal of their clause is true, or go to another list.
use Rattle.std.proofs.Common.{◌≡◌, ◌≢◌, ℕ, ◌+◌, ◌≤◌, true, false, List, [], ◌∷◌, ◌++◌, set, refl, sym, ap, subst, ◌∙◌, arith, inl, inr, Option, Some, None, Contains}
use Rattle.std.specs.List.{AllByRecursion}
use Rattle.std.proofs.lemmas.List.{append_assoc, length_push}
use Rattle.pv_cnf.specs.Literal.{complement}
use Rattle.pv_cnf.specs.Clause.{has_double}
use Rattle.pv_log.specs.Propagation.{is_false}
use Rattle.pv_region.specs.declared.watch.Watch.{Watch}
use Rattle.pv_region.specs.Stored.{Stored, list_of, with_list, IsLinked, Without}
use Rattle.pv_region.specs.Links.{code_of, In}
use Rattle.pv_region.proofs.ForCallers.{in-left, in-right, in-contains}
use Rattle.pv_watch.specs.declared.turn.Walk.{Walk}
use Rattle.pv_watch.specs.Trail.{Path, Extends}
use Rattle.pv_watch.specs.Watched.{literal_at, other, IsSlotOf}
use Rattle.pv_watch.specs.Turns.{CanWatch, IsLastOf, OtherIsTrue, Walks}
use Rattle.pv_watch.proofs.Clauses.{get-false}
use Rattle.pv_watch.proofs.Guards.{get-extended, keeps-extended, trues-extended}
use Rattle.pv_watch.proofs.Moving.{other-other, keeps-moved, list-moved, slots-moved, from-two, literal-inside}

-- ---- the entry that the walk stands at

pub entry-there : (s : Stored) (path : Path) (slots : List ℕ) (walk : Walk) (w : Watch) (left : List Watch) → Walks s path slots walk (w ∷ left) → Contains (list_of s walk.lit) w
entry-there s path slots walk w left walks =
    in-contains w (list_of s walk.lit) (subst (In w) (sym walks.list) (in-right w walks.kept (w ∷ left) (inl refl)))

pub lit-false : (s : Stored) (path : Path) (slots : List ℕ) (walk : Walk) (left : List Watch) → Walks s path slots walk left → is_false path.falses walk.lit ≡ true
lit-false s path slots walk left walks = get-false path.falses walk.place walk.lit walks.turn

all-follows-in : (P Q : Watch → Type 0) (ws : List Watch) → ((w : Watch) → In w ws → P w → Q w) → AllByRecursion P ws → AllByRecursion Q ws
all-follows-in P Q [] f all = tt
all-follows-in P Q (w ∷ ws) f all = (f w (inl refl) all.0, all-follows-in P Q ws (λ x i. f x (inr i)) all.1)

-- ---- it stays

pub walk-stays : (s : Stored) (old new : Path) (slots : List ℕ) (walk : Walk) (w : Watch) (left : List Watch) → Walks s old slots walk (w ∷ left) → Extends old new
    → has_double new.falses ≡ false → OtherIsTrue new.falses slots w → Walks s new slots (record { lit = walk.lit; place = walk.place; before = Some w; kept = walk.kept + 1 }) left
walk-stays s old new slots walk w left walks e distinct true_is = record {
  keeps = keeps-extended s old new slots walk.place walks.keeps e distinct;
  turn = get-extended old new walk.place walk.lit e walks.turn;
  inside = walks.inside;
  kept = walks.kept ++ w ∷ [];
  list = walks.list ∙ sym (append_assoc walks.kept (w ∷ []) left);
  before = (walks.kept, refl);
  count = omega (arith, walks.count, length_push walks.kept w);
  trues = watches-push (OtherIsTrue new.falses slots) walks.kept w (trues-extended old new slots walks.kept e walks.trues) true_is;
  few = omega (arith, walks.few, length_push walks.kept w);
}
  where
    watches-push : (P : Watch → Type 0) (xs : List Watch) (y : Watch) → AllByRecursion P xs → P y → AllByRecursion P (xs ++ y ∷ [])
    watches-push P [] y a p = (p, tt)
    watches-push P (x ∷ xs) y a p = (a.0, watches-push P xs y a.1 p)

-- ---- it goes

pub without-of : (before : Option Watch) (kept : List Watch) (w : Watch) (left : List Watch) → IsLastOf kept before → Without before w (kept ++ w ∷ left) (kept ++ left)
without-of None kept w left e = record { was = ap (λ (ws : List Watch). ws ++ w ∷ left) e ∙ ap (λ (ws : List Watch). w ∷ ws ++ left) (sym e) }
without-of (Some b) kept w left (front, e) = record {
  front = front;
  rest = left;
  was = ap (λ (ws : List Watch). ws ++ w ∷ left) e ∙ append_assoc front (b ∷ []) (w ∷ left);
  is = ap (λ (ws : List Watch). ws ++ left) e ∙ append_assoc front (b ∷ []) left;
}

pub entry-without : (s : Stored) (path : Path) (slots : List ℕ) (walk : Walk) (w : Watch) (left : List Watch) (walks : Walks s path slots walk (w ∷ left)) → Without walk.before w (list_of s walk.lit) (walks.kept ++ left)
entry-without s path slots walk w left walks =
    subst (λ (ws : List Watch). Without walk.before w ws (walks.kept ++ left)) (sym walks.list) (without-of walk.before walks.kept w left walks.before)

pub walk-goes : (s : Stored) (path : Path) (slots : List ℕ) (walk : Walk) (w : Watch) (clause : List ℕ) (to : ℕ) (left : List Watch) (walks : Walks s path slots walk (w ∷ left))
    → IsSlotOf s w clause → literal_at slots w ≡ walk.lit → CanWatch path.falses clause (literal_at slots (other w)) to → (IsLinked (with_list s walk.lit (walks.kept ++ left)) w → ⊥)
    → Walks (with_list (with_list s walk.lit (walks.kept ++ left)) to (w ∷ list_of (with_list s walk.lit (walks.kept ++ left)) to)) path (set slots (code_of w) to) walk left
walk-goes s path slots walk w clause to left walks of watches can free =
    let false_is = lit-false s path slots walk (w ∷ left) walks in
    let two = (from-two s.variables (literal_at slots w) (literal-inside s path slots walk.place w clause walks.keeps of)).0 in
    record {
      keeps = keeps-moved s path slots walk.place walks.keeps walk.lit to w clause of walks.kept left walks.list watches false_is can free;
      turn = walks.turn;
      inside = walks.inside;
      kept = walks.kept;
      list = list-moved s path slots walk.place walks.keeps walk.lit to w clause of walks.kept left walks.list watches false_is can free;
      before = walks.before;
      count = walks.count;
      trues = all-follows-in (OtherIsTrue path.falses slots) (OtherIsTrue path.falses (set slots (code_of w) to)) walks.kept (λ x i true_is.
          let in_list : Contains (list_of s walk.lit) x = in-contains x (list_of s walk.lit) (subst (In x) (sym walks.list) (in-left x walks.kept (w ∷ left) i)) in
          let is = walks.keeps.watched.only walk.lit x (subst (λ (l : ℕ). 2 ≤ l) watches two) in_list in
          let ne : other x ≢ w = λ e. (walks.keeps.watched.each w clause of).differs
          (watches ∙ sym is.literal ∙ ap (literal_at slots) (sym (other-other x is.of_clause.slot) ∙ ap other e)) in
          ap (λ (l : ℕ). is_false path.falses (complement l)) (slots-moved s path slots walk.place walks.keeps walk.lit to w clause of walks.kept left walks.list watches false_is can free (other x) (omega arith) ne)
          ∙ true_is) walks.trues;
      few = omega (arith, walks.few);
    }
