-- A trail that propagation made, as it goes on, as decisions are made and taken back, and before the first one.
use Rattle.std.proofs.Common.{◌≡◌, ℕ, zero, suc, ◌+◌, ◌<◌, ◌≤◌, List, [], ◌∷◌, ◌++◌, length, set, take, sym, ap, subst, ◌∙◌, arith, inl, inr, Option, Some, None, slice_get}
use Rattle.std.specs.Prelude.{IfNone}
use Rattle.std.specs.List.{AllByRecursion}
use Rattle.std.proofs.lemmas.Bool.{cases_eq}
use Rattle.std.proofs.lemmas.Option.{slice_get_within}
use Rattle.pv_cnf.specs.Literal.{complement}
use Rattle.pv_log.specs.Propagation.{is_false}
use Rattle.pv_log.proofs.ForCallers.{slice_get-left}
use Rattle.pv_region.specs.Stored.{Stored, all_lits}
use Rattle.pv_watch.specs.Trail.{Path, Rise, IsSound, Extends}
use Rattle.pv_watch.specs.Quiet.{AreQuiet}
use Rattle.pv_watch.specs.Watched.{OnesAreTrue, IsReady}
use Rattle.pv_watch.specs.Turns.{GoesOn, OneIsTrue}
use Rattle.pv_watch.proofs.Lefts.{within-front}
use Rattle.pv_watch.proofs.Paths.{all-push, sound-decide, sound-undo}
use Rattle.pv_watch.proofs.Clauses.{false-get}
use Rattle.pv_watch.proofs.Guards.{all-last, all-left, get-take, ones-extended}
use Rattle.pv_watch.proofs.Moving.{named-within}
use Rattle.pv_watch.proofs.Stepping.{text-lits}

pub ready-goes : (s t : Stored) (old new : Path) → GoesOn s t old new → IsReady (all_lits s) old → IsReady (all_lits t) new
ready-goes s t old new goes ready = record {
  sound = goes.sound;
  ones = subst (λ (cs : List (List ℕ)). OnesAreTrue cs new) (sym (text-lits s t goes.text)) (ones-extended (all_lits s) old new goes.extends ready.ones);
}

-- ---- decisions

pub ready-decided : (clauses : List (List ℕ)) (old new : Path) (lit : ℕ) → Rise old.starts (length old.falses) → new.falses ≡ old.falses ++ lit ∷ [] → new.reasons ≡ set old.reasons (length old.falses) 0
    → new.starts ≡ old.starts ++ length old.falses ∷ [] → AreQuiet old.falses clauses → IsReady clauses old → IsReady clauses new
ready-decided clauses old new lit rise falses reasons starts quiet ready = record {
  sound = sound-decide clauses old new lit 0 ready.sound rise falses reasons starts quiet;
  ones = λ id clause at one.
      let first = ready.ones id clause at one in
      let below = slice_get_within old.falses first.place (complement first.lit) first.there in
      record {
        lit = first.lit;
        own = first.own;
        place = first.place;
        there = ap (λ (f : List ℕ). slice_get f first.place) falses ∙ slice_get-left old.falses (lit ∷ []) first.place below ∙ first.there;
        since = subst (AllByRecursion (λ (s : ℕ). first.place < s)) (sym starts) (all-push (λ (s : ℕ). first.place < s) old.starts (length old.falses) first.since below);
      };
}

pub ready-undone : (clauses : List (List ℕ)) (old new : Path) → Rise old.starts (length old.falses) → new.reasons ≡ old.reasons → old.starts ≡ new.starts ++ length new.falses ∷ []
    → new.falses ≡ take (length new.falses) old.falses → IsReady clauses old → IsReady clauses new
ready-undone clauses old new rise reasons starts falses ready = record {
  sound = sound-undo clauses old new ready.sound rise reasons starts falses;
  ones = λ id clause at one.
      let first = ready.ones id clause at one in
      let since = subst (AllByRecursion (λ (s : ℕ). first.place < s)) starts first.since in
      let below : first.place < length new.falses = all-last (λ (s : ℕ). first.place < s) new.starts (length new.falses) since in
      record {
        lit = first.lit;
        own = first.own;
        place = first.place;
        there = ap (λ (f : List ℕ). slice_get f first.place) falses ∙ get-take old.falses (length new.falses) first.place below ∙ first.there;
        since = all-left (λ (s : ℕ). first.place < s) new.starts (length new.falses ∷ []) since;
      };
}

-- ---- before the first decision

-- nothing is false, and nothing was decided
pub sound-early : (clauses : List (List ℕ)) (path : Path) → path.falses ≡ [] → path.starts ≡ [] → IsSound clauses path
sound-early clauses path early undecided = record {
  reasons = λ i lt. absurd (let none : length path.falses ≡ 0 = ap (λ (xs : List ℕ). length xs) early in omega (arith, none, lt));
  quiet = subst (AllByRecursion (λ (s : ℕ). AreQuiet (take s path.falses) clauses)) (sym undecided) tt;
}

pub one-extended : (clauses : List (List ℕ)) (old new : Path) (id : ℕ) → Extends old new → OneIsTrue clauses old.falses id → OneIsTrue clauses new.falses id
one-extended clauses old new id e one clause at single =
    let t = one clause at single in
    record {
      lit = t.lit;
      own = t.own;
      true_is = ap (λ (f : List ℕ). is_false f (complement t.lit)) e.falses ∙ (within-front old.falses e.more).at (complement t.lit) t.true_is;
    }

pub ones-none : (clauses : List (List ℕ)) (falses : List ℕ) (id : ℕ) → id ≤ 0 → OneIsTrue clauses falses id
ones-none clauses falses zero le clause at one = absurd cc
ones-none clauses falses (suc n) le clause at one = absurd (omega (arith, le))

pub ones-more : (clauses : List (List ℕ)) (falses : List ℕ) (n : ℕ) → ((id : ℕ) → id ≤ n → OneIsTrue clauses falses id) → OneIsTrue clauses falses (n + 1)
    → (id : ℕ) → id ≤ n + 1 → OneIsTrue clauses falses id
ones-more clauses falses n before last id le =
    elim (cases_eq id (n + 1)) [
      | inl e ↦ subst (OneIsTrue clauses falses) (sym e) last
      | inr ne ↦ before id (omega (arith, le, ne))
    ]

pub ones-first : (clauses : List (List ℕ)) (path : Path) (count : ℕ) → path.starts ≡ [] → length clauses ≤ count → ((id : ℕ) → id ≤ count → OneIsTrue clauses path.falses id) → OnesAreTrue clauses path
ones-first clauses path count undecided few each = λ id clause at one.
    let within = named-within clauses id clause at in
    let t = each id (omega (arith, within, few)) clause at one in
    let (q, there) = false-get path.falses (complement t.lit) t.true_is in
    record { lit = t.lit; own = t.own; place = q; there = there; since = subst (AllByRecursion (λ (s : ℕ). q < s)) (sym undecided) tt }

pub if-none : {A B : Type 0} (found : Option ℕ) → (A → B) → IfNone found A → IfNone found B
if-none None f a = f a
if-none (Some n) f a = tt
