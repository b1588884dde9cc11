-- What a propagation keeps as more literals become false, as a literal's turn ends, and as decisions are made and taken back; and
-- that all clauses are quiet where each literal has had its turn.
use Rattle.std.proofs.Common.{◌≡◌, ℕ, zero, suc, ◌+◌, ◌<◌, ◌≤◌, false, List, [], ◌∷◌, ◌++◌, length, take, drop, refl, sym, ap, subst, ◌∙◌, arith, inl, inr, Some, slice_get, Contains}
use Rattle.std.specs.List.{AllByRecursion}
use Rattle.std.proofs.lemmas.Bool.{cases_eq, cases_Bool}
use Rattle.std.proofs.lemmas.List.{take-append-drop, length-append, length_push}
use Rattle.std.proofs.lemmas.Option.{slice_get_within, same_Some}
use Rattle.pv_cnf.specs.Literal.{complement}
use Rattle.pv_cnf.specs.Clause.{has_double, IsClause}
use Rattle.pv_log.specs.Propagation.{is_false, named}
use Rattle.pv_log.proofs.ForCallers.{slice_get-left, slice_get-all, double-front}
use Rattle.pv_region.specs.declared.watch.Watch.{Watch}
use Rattle.pv_region.specs.Stored.{Stored, all_lits, list_of}
use Rattle.pv_watch.specs.Trail.{Path, Rise, Extends}
use Rattle.pv_watch.specs.Quiet.{IsQuiet, AreQuiet}
use Rattle.pv_watch.specs.Watched.{literal_at, other, IsSlotOf, StandsBeside, Keeps, OnesAreTrue}
use Rattle.pv_watch.specs.Turns.{OtherIsTrue}
use Rattle.pv_watch.proofs.Places.{Rise-front}
use Rattle.pv_watch.proofs.Paths.{below-all, all-push}
use Rattle.pv_watch.proofs.Clauses.{get-false, false-get, quiet-two, quiet-true}

-- ---- lists

pub all-contains : {A : Type 0} (P : A → Type 0) (xs : List A) (x : A) → AllByRecursion P xs → Contains xs x → P x
all-contains P [] x all (k, lt, e) = absurd (omega arith)
all-contains P (y ∷ xs) x all (zero, lt, e) = subst P e all.0
all-contains P (y ∷ xs) x all (suc k, lt, e) = all-contains P xs x all.1 (k, omega arith, e)

pub all-follows : {A : Type 0} (P Q : A → Type 0) (xs : List A) → ((x : A) → P x → Q x) → AllByRecursion P xs → AllByRecursion Q xs
all-follows P Q [] f all = tt
all-follows P Q (x ∷ xs) f all = (f x all.0, all-follows P Q xs f all.1)

pub all-left : {A : Type 0} (P : A → Type 0) (xs ys : List A) → AllByRecursion P (xs ++ ys) → AllByRecursion P xs
all-left P [] ys all = tt
all-left P (x ∷ xs) ys all = (all.0, all-left P xs ys all.1)

pub all-last : {A : Type 0} (P : A → Type 0) (xs : List A) (y : A) → AllByRecursion P (xs ++ y ∷ []) → P y
all-last P [] y all = all.0
all-last P (x ∷ xs) y all = all-last P xs y all.1

pub all-get : {A : Type 0} (P : A → Type 0) (xs : List A) → ((n : ℕ) (x : A) → slice_get xs n ≡ Some x → P x) → AllByRecursion P xs
all-get P [] f = tt
all-get P (x ∷ xs) f = (f 0 x refl, all-get P xs (λ n y e. f (suc n) y e))

pub get-take : (xs : List ℕ) (n k : ℕ) → k < n → slice_get (take n xs) k ≡ slice_get xs k
get-take xs zero k lt = absurd (omega arith)
get-take [] (suc n) k lt = refl
get-take (x ∷ xs) (suc n) zero lt = refl
get-take (x ∷ xs) (suc n) (suc k) lt = get-take xs n k (omega arith)

-- ---- more literals become false

pub get-extended : (old new : Path) (p x : ℕ) → Extends old new → slice_get old.falses p ≡ Some x → slice_get new.falses p ≡ Some x
get-extended old new p x e at =
    ap (λ (f : List ℕ). slice_get f p) e.falses ∙ slice_get-left old.falses e.more p (slice_get_within old.falses p x at) ∙ at

beside-extended : (old new : Path) (done lit beside : ℕ) → Extends old new → done ≤ length old.falses → StandsBeside old done lit beside → StandsBeside new done lit beside
beside-extended old new done lit beside e within stands = λ p lt at.
    let before : slice_get old.falses p ≡ Some lit = sym (slice_get-left old.falses e.more p (omega (arith, lt, within))) ∙ sym (ap (λ (f : List ℕ). slice_get f p) e.falses) ∙ at in
    let old_true = stands p lt before in
    record {
      place = old_true.place;
      there = get-extended old new old_true.place (complement beside) e old_true.there;
      since = subst (AllByRecursion (λ (s : ℕ). p < s → old_true.place < s)) (sym e.starts) old_true.since;
    }

pub keeps-extended : (s : Stored) (old new : Path) (slots : List ℕ) (done : ℕ) → Keeps s old slots done → Extends old new → has_double new.falses ≡ false → Keeps s new slots done
keeps-extended s old new slots done k e distinct = record {
  variables = k.variables ∙ sym e.variables;
  small = k.small;
  lists = k.lists;
  valid = k.valid;
  distinct = distinct;
  fits = k.fits;
  room = k.room;
  watched = k.watched;
  guarded = λ w clause of. beside-extended old new done (literal_at slots w) (literal_at slots (other w)) e k.within (k.guarded w clause of);
  turns = subst (AllByRecursion (λ (start : ℕ). start ≤ done)) (sym e.starts) k.turns;
  within =
      let longer : length new.falses ≡ length (old.falses ++ e.more) = ap length e.falses in
      omega (arith, longer, length-append old.falses e.more, k.within);
}

pub trues-extended : (old new : Path) (slots : List ℕ) (ws : List Watch) → Extends old new → AllByRecursion (OtherIsTrue old.falses slots) ws → AllByRecursion (OtherIsTrue new.falses slots) ws
trues-extended old new slots ws e trues =
    all-follows (OtherIsTrue old.falses slots) (OtherIsTrue new.falses slots) ws (λ w there.
    let (q, at) = false-get old.falses (complement (literal_at slots (other w))) there in
    get-false new.falses q (complement (literal_at slots (other w))) (get-extended old new q (complement (literal_at slots (other w))) e at)) trues

-- ---- a turn ends

not-past : (starts : List ℕ) (p place : ℕ) → AllByRecursion (λ (start : ℕ). start ≤ p) starts → AllByRecursion (λ (s : ℕ). p < s → place < s) starts
not-past starts p place turns =
    all-follows (λ (start : ℕ). start ≤ p) (λ (s : ℕ). p < s → place < s) starts (λ s le. λ lt. absurd (omega (arith, le, lt))) turns

pub keeps-next : (s : Stored) (path : Path) (slots : List ℕ) (done lit : ℕ) → Keeps s path slots done → slice_get path.falses done ≡ Some lit
    → AllByRecursion (OtherIsTrue path.falses slots) (list_of s lit) → Keeps s path slots (done + 1)
keeps-next s path slots done lit k turn trues = record {
  variables = k.variables;
  small = k.small;
  lists = k.lists;
  valid = k.valid;
  distinct = k.distinct;
  fits = k.fits;
  room = k.room;
  watched = k.watched;
  guarded = λ w clause of. λ p lt at.
      elim (cases_eq p done) [
        | inl e ↦ (let same : literal_at slots w ≡ lit = same_Some (literal_at slots w) lit (sym at ∙ ap (slice_get path.falses) e ∙ turn) in
            let there : Contains (list_of s lit) w = subst (λ (l : ℕ). Contains (list_of s l) w) same (k.watched.each w clause of).there in
            let (q, there_q) = false-get path.falses (complement (literal_at slots (other w))) (all-contains (OtherIsTrue path.falses slots) (list_of s lit) w trues there) in
            record {
              place = q;
              there = there_q;
              since = not-past path.starts p q (all-follows (λ (start : ℕ). start ≤ done) (λ (start : ℕ). start ≤ p) path.starts (λ start le. omega (arith, le, e)) k.turns);
            })
        | inr ne ↦ k.guarded w clause of p (omega (arith, lt, ne)) at
      ];
  turns = all-follows (λ (start : ℕ). start ≤ done) (λ (start : ℕ). start ≤ done + 1) path.starts (λ start le. omega (arith, le)) k.turns;
  within = let lt = slice_get_within path.falses done lit turn in omega (arith, lt);
}

-- ---- each literal has had its turn

quiet-clause : (s : Stored) (path : Path) (slots : List ℕ) (done : ℕ) → Keeps s path slots done → done ≡ length path.falses → OnesAreTrue (all_lits s) path
    → (id : ℕ) (clause : List ℕ) → named (all_lits s) id ≡ Some clause → IsClause s.variables clause → IsQuiet path.falses clause
quiet-clause s path slots done k all ones id clause at valid =
    elim (cases_eq (length clause) 1) [
      | inl one ↦ (let first = ones id clause at one in
          quiet-true path.falses clause first.lit k.distinct first.own (get-false path.falses first.place (complement first.lit) first.there))
      | inr more ↦ (let a : Watch = record { id = id; slot = 0 } in let b : Watch = record { id = id; slot = 1 } in
          let long : 1 < length clause = omega (arith, more, valid.nonempty) in
          let of_a : IsSlotOf s a clause = record { slot = omega arith; at = at; long = long } in
          let of_b : IsSlotOf s b clause = record { slot = omega arith; at = at; long = long } in
          let wa = k.watched.each a clause of_a in
          let wb = k.watched.each b clause of_b in
          elim (cases_Bool (is_false path.falses (literal_at slots a))) [
            | inl gone ↦ (let (p, there) = false-get path.falses (literal_at slots a) gone in
                let beside = k.guarded a clause of_a p (let lt = slice_get_within path.falses p (literal_at slots a) there in omega (arith, lt, all)) there in
                quiet-true path.falses clause (literal_at slots b) k.distinct wb.own (get-false path.falses beside.place (complement (literal_at slots b)) beside.there))
            | inr free_a ↦ elim (cases_Bool (is_false path.falses (literal_at slots b))) [
              | inl gone ↦ (let (p, there) = false-get path.falses (literal_at slots b) gone in
                  let beside = k.guarded b clause of_b p (let lt = slice_get_within path.falses p (literal_at slots b) there in omega (arith, lt, all)) there in
                  quiet-true path.falses clause (literal_at slots a) k.distinct wa.own (get-false path.falses beside.place (complement (literal_at slots a)) beside.there))
              | inr free_b ↦ quiet-two path.falses clause (literal_at slots a) (literal_at slots b) wa.own wb.own wa.differs free_a free_b
            ]
          ])
    ]

pub all-quiet : (s : Stored) (path : Path) (slots : List ℕ) (done : ℕ) → Keeps s path slots done → done ≡ length path.falses → OnesAreTrue (all_lits s) path
    → AreQuiet path.falses (all_lits s)
all-quiet s path slots done k all ones =
    all-get (IsQuiet path.falses) (all_lits s) (λ n clause at. quiet-clause s path slots done k all ones (suc n) clause at (slice_get-all (IsClause s.variables) (all_lits s) n clause k.valid at))

pub ones-extended : (clauses : List (List ℕ)) (old new : Path) → Extends old new → OnesAreTrue clauses old → OnesAreTrue clauses new
ones-extended clauses old new e ones = λ id clause at one.
    let first = ones id clause at one in
    record {
      lit = first.lit;
      own = first.own;
      place = first.place;
      there = get-extended old new first.place (complement first.lit) e first.there;
      since = subst (AllByRecursion (λ (s : ℕ). first.place < s)) (sym e.starts) first.since;
    }

-- ---- decisions

-- a decision where each literal has had its turn
pub keeps-decided : (s : Stored) (old new : Path) (slots : List ℕ) (done lit : ℕ) → Keeps s old slots done → done ≡ length old.falses
    → new.variables ≡ old.variables → new.falses ≡ old.falses ++ lit ∷ [] → new.starts ≡ old.starts ++ length old.falses ∷ [] → has_double new.falses ≡ false
    → Keeps s new slots done
keeps-decided s old new slots done lit k all variables falses starts distinct = record {
  variables = k.variables ∙ sym variables;
  small = k.small;
  lists = k.lists;
  valid = k.valid;
  distinct = distinct;
  fits = k.fits;
  room = k.room;
  watched = k.watched;
  guarded = λ w clause of. λ p lt at.
      let before : slice_get old.falses p ≡ Some (literal_at slots w) = sym (slice_get-left old.falses (lit ∷ []) p (omega (arith, lt, all))) ∙ sym (ap (λ (f : List ℕ). slice_get f p) falses) ∙ at in
      let true_before = k.guarded w clause of p lt before in
      let below = slice_get_within old.falses true_before.place (complement (literal_at slots (other w))) true_before.there in
      record {
        place = true_before.place;
        there = ap (λ (f : List ℕ). slice_get f true_before.place) falses ∙ slice_get-left old.falses (lit ∷ []) true_before.place below ∙ true_before.there;
        since = subst (AllByRecursion (λ (t : ℕ). p < t → true_before.place < t)) (sym starts)
            (all-push (λ (t : ℕ). p < t → true_before.place < t) old.starts (length old.falses) true_before.since (λ _. below));
      };
  turns = subst (AllByRecursion (λ (start : ℕ). start ≤ done)) (sym starts) (all-push (λ (start : ℕ). start ≤ done) old.starts (length old.falses) k.turns (omega (arith, all)));
  within = let longer : length new.falses ≡ length (old.falses ++ lit ∷ []) = ap length falses in omega (arith, longer, length_push old.falses lit, all);
}

-- the last decision taken back
pub keeps-undone : (s : Stored) (old new : Path) (slots : List ℕ) (done : ℕ) → Keeps s old slots done → Rise old.starts (length old.falses)
    → new.variables ≡ old.variables → old.starts ≡ new.starts ++ length new.falses ∷ [] → new.falses ≡ take (length new.falses) old.falses
    → Keeps s new slots (length new.falses)
keeps-undone s old new slots done k rise variables starts falses =
    let last : length new.falses ≤ done = all-last (λ (start : ℕ). start ≤ done) new.starts (length new.falses) (subst (AllByRecursion (λ (start : ℕ). start ≤ done)) starts k.turns) in
    let r = Rise-front new.starts (length new.falses) (length old.falses) (subst (λ (ss : List ℕ). Rise ss (length old.falses)) starts rise) in
    record {
      variables = k.variables ∙ sym variables;
      small = k.small;
      lists = k.lists;
      valid = k.valid;
      distinct =
          ap has_double falses
          ∙ double-front (take (length new.falses) old.falses) (drop (length new.falses) old.falses) (ap has_double (take-append-drop (length new.falses) old.falses) ∙ k.distinct);
      fits = k.fits;
      room = k.room;
      watched = k.watched;
      guarded = λ w clause of. λ p lt at.
          let before : slice_get old.falses p ≡ Some (literal_at slots w) = sym (get-take old.falses (length new.falses) p lt) ∙ sym (ap (λ (f : List ℕ). slice_get f p) falses) ∙ at in
          let true_before = k.guarded w clause of p (omega (arith, lt, last)) before in
          let sinces = subst (AllByRecursion (λ (t : ℕ). p < t → true_before.place < t)) starts true_before.since in
          let below = all-last (λ (t : ℕ). p < t → true_before.place < t) new.starts (length new.falses) sinces lt in
          record {
            place = true_before.place;
            there = ap (λ (f : List ℕ). slice_get f true_before.place) falses ∙ get-take old.falses (length new.falses) true_before.place below ∙ true_before.there;
            since = all-left (λ (t : ℕ). p < t → true_before.place < t) new.starts (length new.falses ∷ []) sinces;
          };
      turns = all-follows (λ (start : ℕ). start < length new.falses) (λ (start : ℕ). start ≤ length new.falses) new.starts (λ start lt. omega (arith, lt)) (below-all new.starts (length new.falses) r.0);
      within = omega arith;
    }
