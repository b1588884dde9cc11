-- A clause or a lemma joins those of a region, and is watched at two of its literals.
use Rattle.std.proofs.Common.{◌≡◌, ◌≢◌, ◌↔◌, ℕ, ◌+◌, ◌-◌, ◌*◌, ◌<◌, ◌≤◌, true, false, eqb, List, [], ◌∷◌, ◌++◌, length, map, get_or, set, refl, sym, ap, subst, ◌∙◌, arith, inl, inr, Some, slice_get, Contains}
use Rattle.std.proofs.lemmas.Bool.{both_ways, cases_eq, cases_lt, eqb-true, eq-eqb, or_cases, or_left, or_parts}
use Rattle.std.proofs.lemmas.List.{append-nil, append_assoc, map-append, length-append, length-map, length-set, length_push, get_or_past, get_or-set_same, get_or-set_other}
use Rattle.pv_cnf.specs.Literal.{variable_of, is_outside}
use Rattle.pv_cnf.specs.Clause.{has_variable, has_double, IsClause}
use Rattle.pv_log.specs.Propagation.{is_false, named}
use Rattle.pv_log.proofs.ForCallers.{named-at}
use Rattle.pv_region.specs.declared.watch.Watch.{Watch}
use Rattle.pv_region.specs.Stored.{Stored, Hinted, Passes, used_of, count_of, all_lits, list_of, with_list, with_clause, with_lemma, IsLinked}
use Rattle.pv_region.specs.Links.{In}
use Rattle.pv_region.proofs.ForCallers.{in-contains}
use Rattle.pv_watch.specs.Trail.{Path}
use Rattle.pv_watch.specs.Watched.{Keeps}
use Rattle.pv_watch.specs.Turns.{SameText, CanAttach, attached}
use Rattle.pv_watch.proofs.Clauses.{own-inside}
use Rattle.pv_watch.proofs.Moving.{count-costs, in-of}
use Rattle.pv_watch.proofs.Looking.{own-at}
use Rattle.pv_watch.proofs.Attaching.{HasOneMore, linked-before, keeps-attached}

pub count-lits : (s : Stored) → length (all_lits s) ≡ count_of s
count-lits s =
    length-append s.clauses (map (λ (l : Hinted). l.lits) s.lemmas) ∙ ap (λ (n : ℕ). length s.clauses + n) (length-map s.lemmas (λ (l : Hinted). l.lits))

-- ---- what was put

pub more-clause : (s t : Stored) (lits : List ℕ) → s.lemmas ≡ [] → t ≡ with_clause s lits → used_of t ≤ t.capacity → HasOneMore s t lits
more-clause s t lits none is fits = record {
  variables = ap (λ (u : Stored). u.variables) is;
  capacity = ap (λ (u : Stored). u.capacity) is;
  lists = ap (λ (u : Stored). u.lists) is;
  clauses =
      ap all_lits is
      ∙ ap (λ (ls : List Hinted). (s.clauses ++ lits ∷ []) ++ map (λ (l : Hinted). l.lits) ls) none
      ∙ append-nil (s.clauses ++ lits ∷ [])
      ∙ ap (λ (cs : List (List ℕ)). cs ++ lits ∷ []) (sym (append-nil s.clauses))
      ∙ ap (λ (ls : List Hinted). (s.clauses ++ map (λ (l : Hinted). l.lits) ls) ++ lits ∷ []) (sym none);
  fits = fits;
}

pub more-lemma : (s t : Stored) (lits hints : List ℕ) → t ≡ with_lemma s (record { lits = lits; hints = hints }) → used_of t ≤ t.capacity → HasOneMore s t lits
more-lemma s t lits hints is fits =
    let one : Hinted = record { lits = lits; hints = hints } in
    record {
      variables = ap (λ (u : Stored). u.variables) is;
      capacity = ap (λ (u : Stored). u.capacity) is;
      lists = ap (λ (u : Stored). u.lists) is;
      clauses =
          ap all_lits is
          ∙ ap (λ (cs : List (List ℕ)). s.clauses ++ cs) (map-append (λ (l : Hinted). l.lits) s.lemmas (one ∷ []))
          ∙ sym (append_assoc s.clauses (map (λ (l : Hinted). l.lits) s.lemmas) (lits ∷ []));
      fits = fits;
    }

slice_get-last : (xs : List (List ℕ)) (y : List ℕ) → slice_get (xs ++ y ∷ []) (length xs) ≡ Some y
slice_get-last [] y = refl
slice_get-last (x ∷ xs) y = slice_get-last xs y

-- it has the next number
pub last-named : (clauses : List (List ℕ)) (lits : List ℕ) (id : ℕ) → id ≡ length clauses + 1 → named (clauses ++ lits ∷ []) id ≡ Some lits
last-named clauses lits id e = named-at (clauses ++ lits ∷ []) id (length clauses) e ∙ slice_get-last clauses lits

pub text-attached : (s t r : Stored) (id a b : ℕ) → t ≡ s → r ≡ attached t id a b → SameText s r
text-attached s t r id a b same is = subst (SameText s) (sym (is ∙ ap (λ (u : Stored). attached u id a b) same)) (record { variables = refl; capacity = refl; clauses = refl; lemmas = refl })

pub text-same : (s t : Stored) → t ≡ s → SameText s t
text-same s t same = subst (SameText s) (sym same) (record { variables = refl; capacity = refl; clauses = refl; lemmas = refl })

pub passes-seen : (A : Type 0) (s t : Stored) (cost need : ℕ) → s ≡ t → (A ↔ Passes s cost need) → (A ↔ Passes t cost need)
passes-seen A s t cost need e h = subst (λ (u : Stored). A ↔ Passes u cost need) e h

-- ---- two literals

pub two-differ : (xs : List ℕ) → has_double xs ≡ false → 1 < length xs → get_or xs 0 0 ≢ get_or xs 1 0
two-differ [] d lt e = omega (arith, lt)
two-differ (x ∷ []) d lt e = omega (arith, lt)
two-differ (x ∷ y ∷ xs) d lt e =
    let parts = or_parts (has_variable (variable_of x) (y ∷ xs)) (has_double (y ∷ xs)) d in
    both_ways (has_variable (variable_of x) (y ∷ xs)) parts.0
    (or_left (eqb (variable_of x) (variable_of y)) (has_variable (variable_of x) xs) (eq-eqb (variable_of x) (variable_of y) (ap variable_of e)))

pub two-long : (clause : List ℕ) (a b : ℕ) → is_false clause a ≡ true → is_false clause b ≡ true → a ≢ b → 1 < length clause
two-long [] a b own_a own_b ne = absurd (both_ways false refl own_a)
two-long (x ∷ []) a b own_a own_b ne = absurd (ne (sole x a own_a ∙ sym (sole x b own_b)))
  where
    sole : (x a : ℕ) → is_false (x ∷ []) a ≡ true → a ≡ x
    sole x a own = elim (or_cases (eqb a x) false own) [ inl here ↦ eqb-true a x here | inr none ↦ absurd (both_ways false refl none) ]
two-long (x ∷ y ∷ xs) a b own_a own_b ne = omega arith

-- the first two literals, where nothing is false yet
pub can-early : (path : Path) (done : ℕ) (clause : List ℕ) → done ≤ length path.falses → path.falses ≡ [] → has_double clause ≡ false → 1 < length clause
    → CanAttach path done clause (get_or clause 0 0) (get_or clause 1 0)
can-early path done clause within early distinct long =
    let none : length path.falses ≡ 0 = ap (λ (xs : List ℕ). length xs) early in
    record {
      own_first = own-at clause 0 (omega (arith, long));
      own_second = own-at clause 1 long;
      differ = two-differ clause distinct long;
      beside_first = λ p lt at. absurd (omega (arith, none, within, lt));
      beside_second = λ p lt at. absurd (omega (arith, none, within, lt));
    }

pub can-at : (path : Path) (done : ℕ) (clause : List ℕ) (a b : ℕ) → a ≡ get_or clause 0 0 → b ≡ get_or clause 1 0 → CanAttach path done clause (get_or clause 0 0) (get_or clause 1 0) → CanAttach path done clause a b
can-at path done clause a b e f can = subst (λ (x : ℕ). CanAttach path done clause x b) (sym e) (subst (CanAttach path done clause (get_or clause 0 0)) (sym f) can)

-- ---- it is watched

slots-at : (slots now : List ℕ) (id i a b : ℕ) → id ≡ i → now ≡ set (set slots (2 * id) a) (2 * id + 1) b → now ≡ set (set slots (2 * i + 0) a) (2 * i + 1) b
slots-at slots now id i a b e is =
    let first : 2 * id ≡ 2 * i + 0 = omega (arith, e) in
    let second : 2 * id + 1 ≡ 2 * i + 1 = omega (arith, e) in
    is ∙ ap (λ (n : ℕ). set (set slots n a) (2 * id + 1) b) first ∙ ap (λ (n : ℕ). set (set slots (2 * i + 0) a) n b) second

module _ (s t : Stored) (path : Path) (slots : List ℕ) (done : ℕ) (clause : List ℕ) (k : Keeps s path slots done) (more : HasOneMore s t clause) (valid : IsClause s.variables clause)
    (id a b : ℕ) (id-is : id ≡ count_of s + 1) (can : CanAttach path done clause a b) where
  id-last : id ≡ length (all_lits s) + 1
  id-last = id-is ∙ ap (λ (n : ℕ). n + 1) (sym (count-lits s))

  one-more : count_of t ≡ count_of s + 1
  one-more = sym (count-lits t) ∙ ap (λ (cs : List (List ℕ)). length cs) more.clauses ∙ length_push (all_lits s) clause ∙ ap (λ (n : ℕ). n + 1) (count-lits s)

  pub attach-to_last : id ≤ count_of t
  attach-to_last = omega (arith, one-more, id-is)

  pub attach-small : id < 1000000000
  attach-small = let costs = count-costs t in omega (arith, one-more, id-is, costs, more.fits, more.capacity, k.small)

  pub attach-room : 2 * id + 1 < length slots
  attach-room = let costs = count-costs t in omega (arith, one-more, id-is, costs, more.fits, more.capacity, k.room)

  pub attach-first : is_outside t.variables a ≡ false
  attach-first = ap (λ (v : ℕ). is_outside v a) more.variables ∙ own-inside s.variables clause a valid.inside can.own_first

  pub attach-second : is_outside t.variables b ≡ false
  attach-second = ap (λ (v : ℕ). is_outside v b) more.variables ∙ own-inside s.variables clause b valid.inside can.own_second

  pub attach-free : (slot : ℕ) → slot < 2 → IsLinked t (record { id = id; slot = slot }) → ⊥
  attach-free slot lt l =
      let before = linked-before s t path slots done clause k more valid (record { id = id; slot = slot }) l in
      omega (arith, before, id-last)

  pub attach-long : 1 < length clause
  attach-long = two-long clause a b can.own_first can.own_second can.differ

  pub attach-keeps : (r : Stored) (now : List ℕ) → r ≡ attached t id a b → now ≡ set (set slots (2 * id) a) (2 * id + 1) b → Keeps r path now done
  attach-keeps r now r-is now-is =
      subst (λ (u : Stored). Keeps u path now done) (sym (r-is ∙ ap (λ (n : ℕ). attached t n a b) id-last))
      (subst (λ (ns : List ℕ). Keeps (attached t (length (all_lits s) + 1) a b) path ns done) (sym (slots-at slots now id (length (all_lits s) + 1) a b id-last now-is))
      (keeps-attached s t path slots done clause k more valid a b can.own_first can.own_second can.differ attach-long can.beside_first can.beside_second))

-- ---- its slots are put into two lists

no-entry : (w : Watch) → Contains [] w → ⊥
no-entry w (k, lt, e) = omega (arith, lt)

linked-first : (s : Stored) (a : ℕ) (w x : Watch) → x ≢ w → In x (w ∷ list_of s a) → IsLinked s x
linked-first s a w x ne (inl same) = absurd (ne same)
linked-first s a w x ne (inr i) = record { lit = a; there = in-contains x (list_of s a) i }

-- what is linked with one more entry and isn't that one was linked before
pub linked-with : (s : Stored) (a : ℕ) (w x : Watch) → IsLinked (with_list s a (w ∷ list_of s a)) x → x ≢ w → IsLinked s x
linked-with s a w x l ne =
    elim (cases_eq (l.lit - 2) (a - 2)) [
      | inl e ↦ elim (cases_lt (a - 2) (length s.lists)) [
        | inl lt ↦ (let ws : list_of (with_list s a (w ∷ list_of s a)) l.lit ≡ w ∷ list_of s a =
            ap (λ (i : ℕ). get_or (set s.lists (a - 2) (w ∷ list_of s a)) i []) e ∙ get_or-set_same s.lists (a - 2) (w ∷ list_of s a) [] lt in
            linked-first s a w x ne (in-of (w ∷ list_of s a) x (subst (λ (vs : List Watch). Contains vs x) ws l.there)))
        | inr ge ↦ absurd (let none : list_of (with_list s a (w ∷ list_of s a)) l.lit ≡ [] =
            get_or_past (set s.lists (a - 2) (w ∷ list_of s a)) (l.lit - 2) [] (omega (arith, ge, e, length-set s.lists (a - 2) (w ∷ list_of s a))) in
            no-entry x (subst (λ (vs : List Watch). Contains vs x) none l.there))
      ]
      | inr differ ↦ record {
        lit = l.lit;
        there = subst (λ (vs : List Watch). Contains vs x) (get_or-set_other s.lists (a - 2) (l.lit - 2) (w ∷ list_of s a) [] differ) l.there;
      }
    ]
