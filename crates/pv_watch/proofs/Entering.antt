-- A lemma enters: two of its literals can be watched, or it makes its only one true.
use Rattle.std.proofs.Common.{◌≡◌, ◌≢◌, ℕ, ◌+◌, ◌-◌, ◌<◌, ◌≤◌, Bool, true, false, List, [], ◌∷◌, ◌++◌, length, get_or, set, take, drop, refl, sym, ap, subst, ◌∙◌, arith, inl, inr, Some, slice_get, Contains}
use Rattle.std.specs.List.{AllByRecursion}
use Rattle.std.proofs.lemmas.Bool.{cases_eq, cases_lt, cases_Bool, both_ways}
use Rattle.std.proofs.lemmas.List.{take-append-drop}
use Rattle.std.proofs.lemmas.List.Elements.{Contains-push}
use Rattle.pv_cnf.specs.Literal.{complement, is_outside}
use Rattle.pv_cnf.specs.Clause.{has_outside, has_double, IsClause, AreClauses}
use Rattle.pv_log.specs.Propagation.{is_false, named, is_falsified}
use Rattle.pv_log.proofs.ForCallers.{slice_get-left, slice_get-all, named-at}
use Rattle.pv_region.specs.Stored.{Stored, count_of, all_lits}
use Rattle.pv_watch.specs.Trail.{Path, Rise, IsSound, LastIs, Extends}
use Rattle.pv_watch.specs.Quiet.{IsQuiet, IsConflict}
use Rattle.pv_watch.specs.Watched.{IsTrueFirst, IsReady}
use Rattle.pv_watch.specs.Turns.{CanWatch, LeavesOne, IsMadeTrue, HasUnset, IsLevel, CanAttach, IsOne, HasEntered, OneIsTrue}
use Rattle.pv_watch.proofs.Lefts.{within-front, quiet-one}
use Rattle.pv_watch.proofs.Places.{Rise-front}
use Rattle.pv_watch.proofs.Paths.{below-all, all-push, sound-more}
use Rattle.pv_watch.proofs.Clauses.{get-false, sole-left, none-left, own-inside}
use Rattle.pv_watch.proofs.Guards.{all-contains, all-follows, get-take, ones-extended}
use Rattle.pv_watch.proofs.Moving.{from-two}
use Rattle.pv_watch.proofs.Looking.{own-at, extends-self, made-true, visited-is, sole-rest}
use Rattle.pv_watch.proofs.Attaching.{named-more}
use Rattle.pv_watch.proofs.Joining.{count-lits, last-named, two-differ}

-- ---- the last level

pub level-none : (path : Path) → path.starts ≡ [] → IsLevel path 0
level-none path none = record {
  bound = omega arith;
  low = subst (AllByRecursion (λ (s : ℕ). s ≤ 0)) (sym none) tt;
  at = inl (none, refl);
}

pub level-last : (path : Path) (level : ℕ) → LastIs path.starts level → Rise path.starts (length path.falses) → level < length path.falses → IsLevel path level
level-last path level (front, last) rise lt =
    let r = Rise-front front level (length path.falses) (subst (λ (ss : List ℕ). Rise ss (length path.falses)) last rise) in
    record {
      bound = omega (arith, lt);
      low = subst (AllByRecursion (λ (s : ℕ). s ≤ level)) (sym last)
          (all-push (λ (s : ℕ). s ≤ level) front level (all-follows (λ (s : ℕ). s < level) (λ (s : ℕ). s ≤ level) front (λ s below. omega (arith, below)) (below-all front level r.0)) (omega arith));
      at = inr (subst (λ (ss : List ℕ). Contains ss level) (sym last) (Contains-push front level));
    }

pub empty-is : (xs : List ℕ) → length xs ≡ 0 → xs ≡ []
empty-is [] e = refl
empty-is (x ∷ xs) e = absurd (omega (arith, e))

-- ---- literals that aren't false

pub take-in : (F : List ℕ) (n x : ℕ) → is_false (take n F) x ≡ true → is_false F x ≡ true
take-in F n x e = ap (λ (f : List ℕ). is_false f x) (sym (take-append-drop n F)) ∙ (within-front (take n F) (drop n F)).at x e

pub take-out : (F : List ℕ) (n x : ℕ) → is_false F x ≡ false → is_false (take n F) x ≡ false
take-out F n x e = elim (cases_Bool (is_false (take n F) x)) [
  | inl there ↦ absurd (both_ways (is_false F x) e (take-in F n x there))
  | inr isnt ↦ isnt
]

pub free-some : (v : ℕ) (falses lits : List ℕ) → has_outside v lits ≡ false → HasUnset falses lits → ((x : ℕ) → is_false lits x ≡ true → x ≢ 0 → is_false falses x ≡ true) → ⊥
free-some v falses lits inside unset rest =
    let two = (from-two v unset.lit (own-inside v lits unset.lit inside unset.own)).0 in
    both_ways (is_false falses unset.lit) unset.not_false (rest unset.lit unset.own (λ e. omega (arith, e, two)))

-- the only one that isn't false has no value
pub first-unset : (falses clause : List ℕ) (first : ℕ) → HasUnset falses clause → ((x : ℕ) → is_false clause x ≡ true → x ≢ first → is_false falses x ≡ true) → is_false falses (complement first) ≡ false
first-unset falses clause first unset rest =
    elim (cases_eq unset.lit first) [
      | inl e ↦ ap (λ (l : ℕ). is_false falses (complement l)) (sym e) ∙ unset.not_true
      | inr ne ↦ absurd (both_ways (is_false falses unset.lit) unset.not_false (rest unset.lit unset.own ne))
    ]

another : (clause : List ℕ) → has_double clause ≡ false → 1 < length clause → (x : ℕ) → (y : ℕ) × (is_false clause y ≡ true) × (y ≢ x)
another clause distinct long x =
    elim (cases_eq (get_or clause 0 0) x) [
      | inl e ↦ (get_or clause 1 0, own-at clause 1 long, λ same. two-differ clause distinct long (e ∙ sym same))
      | inr ne ↦ (get_or clause 0 0, own-at clause 0 (omega (arith, long)), ne)
    ]

-- ---- two that aren't false

pub entered-self : (path : Path) (id : ℕ) (clause : List ℕ) → HasEntered path path id clause
entered-self path id clause = record { extends = extends-self path; sound = λ clauses at s. s }

pub can-free : (path : Path) (done : ℕ) (clause : List ℕ) (a b : ℕ) → is_false clause a ≡ true → is_false path.falses a ≡ false → CanWatch path.falses clause a b → CanAttach path done clause a b
can-free path done clause a b own free can = record {
  own_first = own;
  own_second = can.own;
  differ = λ e. can.differs (sym e);
  beside_first = λ p lt at. absurd (both_ways (is_false path.falses a) free (get-false path.falses p a at));
  beside_second = λ p lt at. absurd (both_ways (is_false path.falses b) can.free (get-false path.falses p b at));
}

-- ---- one that isn't false, which becomes true

slice_get-end : (xs : List ℕ) (y : ℕ) → slice_get (xs ++ y ∷ []) (length xs) ≡ Some y
slice_get-end [] y = refl
slice_get-end (x ∷ xs) y = slice_get-end xs y

module _ (old new : Path) (clause : List ℕ) (id first made level : ℕ) (made-is : made ≡ complement first) (valid : IsClause old.variables clause) (unset : HasUnset old.falses clause)
    (own : is_false clause first ≡ true) (not_false : is_false old.falses first ≡ false) (rest : (x : ℕ) → is_false clause x ≡ true → x ≢ first → is_false old.falses x ≡ true)
    (lev : IsLevel old level) (falses : new.falses ≡ old.falses ++ made ∷ []) (starts : new.starts ≡ old.starts) where
  pub entered-made : new.variables ≡ old.variables → new.reasons ≡ set old.reasons (length old.falses) id → length old.falses < length old.reasons → Rise old.starts (length old.falses) → HasEntered old new id clause
  entered-made variables reasons room rise =
      let m = made-true old new id clause first made made-is (record { valid = valid; own = own; rest = rest }) (first-unset old.falses clause first unset rest) not_false variables falses reasons starts room rise in
      record { extends = m.extends; sound = m.sound }

  there : slice_get new.falses (length old.falses) ≡ Some (complement first)
  there = ap (λ (f : List ℕ). slice_get f (length old.falses)) falses ∙ slice_get-end old.falses made ∙ ap (λ (l : ℕ). Some l) made-is

  before : (p x : ℕ) → p < length old.falses → slice_get new.falses p ≡ Some x → slice_get old.falses p ≡ Some x
  before p x lt at = sym (slice_get-left old.falses (made ∷ []) p lt) ∙ sym (ap (λ (f : List ℕ). slice_get f p) falses) ∙ at

  pub can-made : (second : ℕ) → CanWatch (take level old.falses) clause first second → CanAttach new (length old.falses) clause first second
  can-made second can = record {
    own_first = own;
    own_second = can.own;
    differ = λ e. can.differs (sym e);
    beside_first = λ p lt at. absurd (both_ways (is_false old.falses first) not_false (get-false old.falses p first (before p first lt at)));
    beside_second = λ p lt at.
        let from : level ≤ p = elim (cases_lt p level) [
          | inl low ↦ absurd (both_ways (is_false (take level old.falses) second) can.free
              (get-false (take level old.falses) p second (get-take old.falses level p low ∙ before p second lt at)))
          | inr le ↦ le
        ] in
        record {
          place = length old.falses;
          there = there;
          since = subst (AllByRecursion (λ (s : ℕ). p < s → length old.falses < s)) (sym starts)
              (all-follows (λ (s : ℕ). s ≤ level) (λ (s : ℕ). p < s → length old.falses < s) old.starts (λ s le. λ past. absurd (omega (arith, le, past, from))) lev.low);
        };
  }

  pub one-made : AllByRecursion (λ (s : ℕ). IsQuiet (take s old.falses) clause) old.starts → ((x : ℕ) → is_false clause x ≡ true → x ≢ first → is_false (take level old.falses) x ≡ true) → IsOne new clause
  one-made quiet others =
      elim lev.at [
        | inl (none, zero_is) ↦ record {
          one = elim (cases_lt 1 (length clause)) [
            | inl long ↦ (let (y, own_y, ne) = another clause valid.distinct long first in
                absurd (both_ways (is_false (take 0 old.falses) y) refl (subst (λ (n : ℕ). is_false (take n old.falses) y ≡ true) zero_is (others y own_y ne))))
            | inr short ↦ omega (arith, short, valid.nonempty)
          ];
          first = record {
            lit = first;
            own = own;
            place = length old.falses;
            there = there;
            since = subst (AllByRecursion (λ (s : ℕ). length old.falses < s)) (sym (starts ∙ none)) tt;
          };
        }
        | inr c ↦ absurd (let q = all-contains (λ (s : ℕ). IsQuiet (take s old.falses) clause) old.starts level quiet c in
            let left = sole-left (take level old.falses) clause first valid.distinct own (take-out old.falses level first not_false) others in
            let true_there = quiet-one (take level old.falses) clause first q left in
            both_ways (is_false old.falses (complement first)) (first-unset old.falses clause first unset rest) (take-in old.falses level (complement first) true_there))
      ]

-- ---- what is ready stays so

pub ready-entered : (s r : Stored) (lits : List ℕ) (old new : Path) (id : ℕ) → all_lits r ≡ all_lits s ++ lits ∷ [] → id ≡ count_of s + 1 → HasEntered old new id lits
    → AllByRecursion (λ (t : ℕ). IsQuiet (take t old.falses) lits) old.starts → (length lits ≡ 1 → IsTrueFirst new lits) → IsReady (all_lits s) old → IsReady (all_lits r) new
ready-entered s r lits old new id text id-is entered quiet single ready =
    let id-last : id ≡ length (all_lits s) + 1 = id-is ∙ ap (λ (n : ℕ). n + 1) (sym (count-lits s)) in
    subst (λ (cs : List (List ℕ)). IsReady cs new) (sym text) (record {
      sound = entered.sound (all_lits s ++ lits ∷ []) (last-named (all_lits s) lits id id-last) (sound-more (all_lits s) lits old ready.sound quiet);
      ones = λ i clause at one.
          elim (named-more (all_lits s) lits i clause at) [
            | inl known ↦ ones-extended (all_lits s) old new entered.extends ready.ones i clause known one
            | inr (e, is) ↦ subst (IsTrueFirst new) (sym is) (single (sym (ap (λ (c : List ℕ). length c) is) ∙ one))
          ];
    })

-- ---- a clause of one literal

pub not-one : (clauses : List (List ℕ)) (falses : List ℕ) (id : ℕ) (lits : List ℕ) → 0 < id → slice_get clauses (id - 1) ≡ Some lits → length lits ≢ 1 → OneIsTrue clauses falses id
not-one clauses falses id lits lt at ne clause name one =
    absurd (ne (ap (λ (c : List ℕ). length c) (visited-is clauses id lits clause lt at name) ∙ one))

module _ (clauses : List (List ℕ)) (old : Path) (id : ℕ) (lits : List ℕ) (x : ℕ) (lt : 0 < id) (at : slice_get clauses (id - 1) ≡ Some lits) (valid : AreClauses old.variables clauses) (one : length lits ≡ 1) (x-is : x ≡ get_or lits 0 0) where
  name : named clauses id ≡ Some lits
  name = named-at clauses id (id - 1) (omega (arith, lt)) ∙ at

  valid-lits : IsClause old.variables lits
  valid-lits = slice_get-all (IsClause old.variables) clauses (id - 1) lits valid at

  own-one : is_false lits x ≡ true
  own-one = ap (is_false lits) x-is ∙ own-at lits 0 (omega (arith, one))

  pub one-inside : is_outside old.variables x ≡ false
  one-inside = own-inside old.variables lits x valid-lits.inside own-one

  leaves : LeavesOne old lits x
  leaves = record {
    valid = valid-lits;
    own = own-one;
    rest = λ y own ne. sole-rest old.falses lits one y own (λ e. ne (e ∙ sym x-is));
  }

  module _ (new : Path) (found : Bool) (made : found ≡ true → (clause : List ℕ) → LeavesOne old clause x → IsMadeTrue old new id clause x) (same : found ≡ false → new ≡ old) (gone : found ≡ false → is_false old.falses x ≡ true) where
    pub one-extends : Extends old new
    one-extends = elim (cases_Bool found) [
      | inl t ↦ (made t lits leaves).extends
      | inr f ↦ subst (Extends old) (sym (same f)) (extends-self old)
    ]

    pub one-sound : IsSound clauses old → IsSound clauses new
    one-sound sound = elim (cases_Bool found) [
      | inl t ↦ (made t lits leaves).sound clauses name sound
      | inr f ↦ subst (IsSound clauses) (sym (same f)) sound
    ]

    pub one-true : found ≡ true → OneIsTrue clauses new.falses id
    one-true t clause at_clause single =
        let is = visited-is clauses id lits clause lt at at_clause in
        record { lit = x; own = ap (λ (c : List ℕ). is_false c x) (sym is) ∙ own-one; true_is = (made t lits leaves).true_is }

    pub one-conflict : found ≡ false → IsConflict clauses new.falses id
    one-conflict f = record {
      clause = lits;
      at = name;
      false_is = ap (λ (p : Path). is_falsified p.falses lits) (same f) ∙ none-left old.falses lits x (gone f) leaves.rest;
    }
