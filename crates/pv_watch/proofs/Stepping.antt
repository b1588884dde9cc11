-- What is known of the entry at which a walk stands, and what comes of a step.
use Rattle.std.proofs.Common.{◌≡◌, ℕ, zero, suc, ◌+◌, ◌<◌, ◌≤◌, true, false, List, ◌∷◌, ◌++◌, length, map, set, refl, sym, ap, subst, ◌∙◌, arith, Some}
use Rattle.std.proofs.lemmas.List.{length-append, length-map}
use Rattle.pv_cnf.specs.Literal.{complement, is_outside}
use Rattle.pv_cnf.specs.Clause.{has_double, IsClause}
use Rattle.pv_log.specs.Propagation.{is_false, is_falsified, named}
use Rattle.pv_region.specs.declared.watch.Watch.{Watch}
use Rattle.pv_region.specs.Stored.{Stored, Hinted, count_of, all_lits, list_of, with_list, IsLinked, Without, HasNext}
use Rattle.pv_region.specs.Links.{code_of}
use Rattle.pv_watch.specs.declared.turn.Walk.{Walk}
use Rattle.pv_watch.specs.Trail.{Path, IsSound}
use Rattle.pv_watch.specs.Watched.{literal_at, other, IsSlotOf}
use Rattle.pv_watch.specs.Turns.{CanWatch, IsMadeTrue, IsVisited, Walks, IsAtEntry, IsStuck, SameText, GoesOn}
use Rattle.pv_watch.proofs.Moving.{named-within, named-valid, count-costs, slot-room, from-two}
use Rattle.pv_watch.proofs.Walking.{entry-there, entry-without, walk-stays, walk-goes}
use Rattle.pv_watch.proofs.Looking.{extends-self}
use Rattle.pv_watch.proofs.Clauses.{own-inside}

-- the clause of an entry, and where its two slots stand
pub record Entry (s : Stored) (path : Path) (slots : List ℕ) (walk : Walk) (w : Watch) : Type 0 where
  pub clause : List ℕ
  pub of_clause : IsSlotOf s w clause
  pub literal : literal_at slots w ≡ walk.lit
  pub own : is_false clause (literal_at slots (other w)) ≡ true
  pub valid : IsClause path.variables clause
  pub from_one : 0 < w.id
  pub to_last : w.id ≤ count_of s
  pub small : w.id < 1000000000
  pub here : code_of w < length slots
  pub there : code_of (other w) < length slots

pub named-from-one : (clauses : List (List ℕ)) (id : ℕ) (clause : List ℕ) → named clauses id ≡ Some clause → 0 < id
named-from-one clauses zero clause e = absurd cc
named-from-one clauses (suc n) clause e = omega arith

pub entry-of : (s : Stored) (path : Path) (slots : List ℕ) (walk : Walk) (w : Watch) → IsAtEntry s path slots walk w → Entry s path slots walk w
entry-of s path slots walk w at =
    let k = at.walks.keeps in
    let two = (from-two s.variables walk.lit at.walks.inside).0 in
    let is = k.watched.only walk.lit w two (entry-there s path slots walk w at.left at.walks) in
    let of : IsSlotOf s w is.clause = is.of_clause in
    let of_other : IsSlotOf s (other w) is.clause = record { slot = omega arith; at = of.at; long = of.long } in
    let few : length (all_lits s) ≡ count_of s = length-append s.clauses (map (λ (l : Hinted). l.lits) s.lemmas) ∙ ap (λ (n : ℕ). length s.clauses + n) (length-map s.lemmas (λ (l : Hinted). l.lits)) in
    let within = named-within (all_lits s) w.id is.clause of.at in
    let costs = count-costs s in
    record {
      clause = is.clause;
      of_clause = of;
      literal = is.literal;
      own = (k.watched.each (other w) is.clause of_other).own;
      valid = subst (λ (v : ℕ). IsClause v is.clause) k.variables (named-valid (IsClause s.variables) (all_lits s) w.id is.clause k.valid of.at);
      from_one = named-from-one (all_lits s) w.id is.clause of.at;
      to_last = omega (arith, within, few);
      small = omega (arith, within, few, costs, k.fits, k.small);
      here = slot-room s path slots walk.place w is.clause k of;
      there = slot-room s path slots walk.place (other w) is.clause k of_other;
    }

pub stuck-at : (s : Stored) (path : Path) (slots : List ℕ) (walk : Walk) (w : Watch) (at : IsAtEntry s path slots walk w) → is_falsified path.falses (entry-of s path slots walk w at).clause ≡ true → IsStuck s path slots walk.place w.id
stuck-at s path slots walk w at false_is =
    let e = entry-of s path slots walk w at in
    record { keeps = at.walks.keeps; conflict = record { clause = e.clause; at = e.of_clause.at; false_is = false_is } }

-- what a look at the clause asks
pub visited-of : (s : Stored) (path : Path) (slots : List ℕ) (walk : Walk) (w : Watch) (o : ℕ) → IsAtEntry s path slots walk w → o ≡ literal_at slots (other w) → IsVisited s path w o
visited-of s path slots walk w o at is =
    let e = entry-of s path slots walk w at in
    record {
      clause = e.clause;
      at = e.of_clause.at;
      valid = e.valid;
      own = ap (is_false e.clause) is ∙ e.own;
      from_one = e.from_one;
      to_last = e.to_last;
    }

pub text-self : (s : Stored) → SameText s s
text-self s = record { variables = refl; capacity = refl; clauses = refl; lemmas = refl }

pub text-lists : (s : Stored) (a b : ℕ) (xs ys : List Watch) → SameText s (with_list (with_list s a xs) b ys)
text-lists s a b xs ys = record { variables = refl; capacity = refl; clauses = refl; lemmas = refl }

pub text-on : (a b c : Stored) → SameText a b → SameText b c → SameText a c
text-on a b c f g = record {
  variables = g.variables ∙ f.variables;
  capacity = g.capacity ∙ f.capacity;
  clauses = g.clauses ∙ f.clauses;
  lemmas = g.lemmas ∙ f.lemmas;
}

pub text-lits : (s t : Stored) → SameText s t → all_lits t ≡ all_lits s
text-lits s t f = ap (λ (cs : List (List ℕ)). cs ++ map (λ (l : Hinted). l.lits) t.lemmas) f.clauses ∙ ap (λ (ls : List Hinted). s.clauses ++ map (λ (l : Hinted). l.lits) ls) f.lemmas

pub goes-self : (s : Stored) (path : Path) → IsSound (all_lits s) path → GoesOn s s path path
goes-self s path sound = record { text = text-self s; extends = extends-self path; sound = sound }

-- ---- an entry stays, or its clause is false

module _ (s : Stored) (old new : Path) (slots : List ℕ) (walk : Walk) (w : Watch) (o : ℕ) (at : IsAtEntry s old slots walk w) (o-is : o ≡ literal_at slots (other w)) (sound : IsSound (all_lits s) old) where
  pub stays-goes : ((clause : List ℕ) → named (all_lits s) w.id ≡ Some clause → IsMadeTrue old new w.id clause o) → GoesOn s s old new
  stays-goes looks =
      let e = entry-of s old slots walk w at in
      let made = looks e.clause e.of_clause.at in
      record { text = text-self s; extends = made.extends; sound = made.sound (all_lits s) e.of_clause.at sound }

  pub stays-on : ((clause : List ℕ) → named (all_lits s) w.id ≡ Some clause → IsMadeTrue old new w.id clause o) → has_double new.falses ≡ false
      → (left : List Watch) → Walks s old slots walk (w ∷ left) → Walks s new slots (record { lit = walk.lit; place = walk.place; before = Some w; kept = walk.kept + 1 }) left
  stays-on looks distinct left walks =
      let e = entry-of s old slots walk w at in
      let made = looks e.clause e.of_clause.at in
      walk-stays s old new slots walk w left walks made.extends distinct (ap (λ (l : ℕ). is_false new.falses (complement l)) (sym o-is) ∙ made.true_is)

  pub conflict-goes : ((clause : List ℕ) → named (all_lits s) w.id ≡ Some clause → (new ≡ old) × (is_falsified old.falses clause ≡ true)) → GoesOn s s old new
  conflict-goes looks =
      let e = entry-of s old slots walk w at in
      subst (GoesOn s s old) (sym (looks e.clause e.of_clause.at).0) (goes-self s old sound)

  pub conflict-stuck : ((clause : List ℕ) → named (all_lits s) w.id ≡ Some clause → (new ≡ old) × (is_falsified old.falses clause ≡ true)) → IsStuck s new slots walk.place w.id
  conflict-stuck looks =
      let e = entry-of s old slots walk w at in
      let shown = looks e.clause e.of_clause.at in
      subst (λ (p : Path). IsStuck s p slots walk.place w.id) (sym shown.0) (stuck-at s old slots walk w at shown.1)

-- ---- an entry goes to another list

pub entry-follows : (s : Stored) (path : Path) (slots : List ℕ) (walk : Walk) (w : Watch) → IsAtEntry s path slots walk w → HasNext walk.before (list_of s walk.lit)
entry-follows s path slots walk w at = record {
  gone = w;
  left = at.walks.kept ++ at.left;
  without = entry-without s path slots walk w at.left at.walks;
}

module _ (s one two : Stored) (path : Path) (slots now : List ℕ) (walk : Walk) (w : Watch) (to : ℕ)
    (out : (gone : Watch) (rest : List Watch) → Without walk.before gone (list_of s walk.lit) rest → one ≡ with_list s walk.lit rest)
    (free : (gone : Watch) (rest : List Watch) → Without walk.before gone (list_of s walk.lit) rest → IsLinked one gone → ⊥)
    (put : two ≡ with_list one to (w ∷ list_of one to)) where
  -- it is in no list between
  pub entry-free : (left : List Watch) → Walks s path slots walk (w ∷ left) → IsLinked one w → ⊥
  entry-free left walks = free w (walks.kept ++ left) (entry-without s path slots walk w left walks)

  both-lists : (left : List Watch) (walks : Walks s path slots walk (w ∷ left)) → two ≡ with_list (with_list s walk.lit (walks.kept ++ left)) to (w ∷ list_of (with_list s walk.lit (walks.kept ++ left)) to)
  both-lists left walks =
      put ∙ ap (λ (t : Stored). with_list t to (w ∷ list_of t to)) (out w (walks.kept ++ left) (entry-without s path slots walk w left walks))

  pub step-goes : (left : List Watch) (walks : Walks s path slots walk (w ∷ left)) (clause : List ℕ) → IsSlotOf s w clause → literal_at slots w ≡ walk.lit
      → CanWatch path.falses clause (literal_at slots (other w)) to → now ≡ set slots (code_of w) to → Walks two path now walk left
  step-goes left walks clause of literal can now-is =
      let wo = entry-without s path slots walk w left walks in
      let none = λ (l : IsLinked (with_list s walk.lit (walks.kept ++ left)) w). free w (walks.kept ++ left) wo (subst (λ (t : Stored). IsLinked t w) (sym (out w (walks.kept ++ left) wo)) l) in
      subst (λ (t : Stored). Walks t path now walk left) (sym (both-lists left walks))
      (subst (λ (ns : List ℕ). Walks (with_list (with_list s walk.lit (walks.kept ++ left)) to (w ∷ list_of (with_list s walk.lit (walks.kept ++ left)) to)) path ns walk left) (sym now-is)
      (walk-goes s path slots walk w clause to left walks of literal can none))

  pub goes-moved : IsAtEntry s path slots walk w → IsSound (all_lits s) path → GoesOn s two path path
  goes-moved at sound =
      let text : SameText s two = subst (SameText s) (sym (both-lists at.left at.walks))
      (text-lists s walk.lit to (at.walks.kept ++ at.left) (w ∷ list_of (with_list s walk.lit (at.walks.kept ++ at.left)) to)) in
      record {
        text = text;
        extends = extends-self path;
        sound = subst (λ (cs : List (List ℕ)). IsSound cs path) (sym (text-lits s two text)) sound;
      }

-- where a look has shown that it may go there
module _ (s one two : Stored) (old new : Path) (slots now : List ℕ) (walk : Walk) (w : Watch) (o to : ℕ) (at : IsAtEntry s old slots walk w) (o-is : o ≡ literal_at slots (other w))
    (out : (gone : Watch) (rest : List Watch) → Without walk.before gone (list_of s walk.lit) rest → one ≡ with_list s walk.lit rest)
    (free : (gone : Watch) (rest : List Watch) → Without walk.before gone (list_of s walk.lit) rest → IsLinked one gone → ⊥)
    (looks : (clause : List ℕ) → named (all_lits s) w.id ≡ Some clause → (new ≡ old) × CanWatch old.falses clause o to) where
  one-is : one ≡ with_list s walk.lit (at.walks.kept ++ at.left)
  one-is = out w (at.walks.kept ++ at.left) (entry-without s old slots walk w at.left at.walks)

  can : CanWatch old.falses (entry-of s old slots walk w at).clause (literal_at slots (other w)) to
  can =
      let e = entry-of s old slots walk w at in
      subst (λ (l : ℕ). CanWatch old.falses e.clause l to) o-is (looks e.clause e.of_clause.at).1

  same : new ≡ old
  same = let e = entry-of s old slots walk w at in (looks e.clause e.of_clause.at).0

  -- the literal is one of the region's
  pub moves-literal : is_outside one.variables to ≡ false
  moves-literal =
      let e = entry-of s old slots walk w at in
      ap (λ (t : Stored). is_outside t.variables to) one-is ∙ ap (λ (v : ℕ). is_outside v to) at.walks.keeps.variables
      ∙ own-inside old.variables e.clause to e.valid.inside can.own

  pub moves-to_last : w.id ≤ count_of one
  moves-to_last =
      let e = entry-of s old slots walk w at in
      subst (λ (t : Stored). w.id ≤ count_of t) (sym one-is) e.to_last

  pub moves-free : IsLinked one w → ⊥
  moves-free = free w (at.walks.kept ++ at.left) (entry-without s old slots walk w at.left at.walks)

  pub moves-goes : two ≡ with_list one to (w ∷ list_of one to) → IsSound (all_lits s) old → GoesOn s two old new
  moves-goes put sound = subst (GoesOn s two old) (sym same) (goes-moved s one two old slots now walk w to out free put at sound)

  pub moves-on : two ≡ with_list one to (w ∷ list_of one to) → now ≡ set slots (code_of w) to → (left : List Watch) → Walks s old slots walk (w ∷ left) → Walks two new now walk left
  moves-on put now-is left walks =
      let e = entry-of s old slots walk w at in
      subst (λ (p : Path). Walks two p now walk left) (sym same) (step-goes s one two old slots now walk w to out free put left walks e.clause e.of_clause e.literal can now-is)
