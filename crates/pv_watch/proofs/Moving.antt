-- A slot that goes from the list of a literal to that of another one, which it watches then.
use Rattle.std.proofs.Common.{◌≡◌, ◌≢◌, ℕ, zero, suc, ◌+◌, ◌-◌, ◌*◌, ◌<◌, ◌≤◌, ◌⊎◌, true, false, List, [], ◌∷◌, ◌++◌, length, map, set, refl, sym, ap, subst, ◌∙◌, arith, inl, inr, Some, slice_get, Contains, sum_by}
use Rattle.std.specs.List.{AllByRecursion}
use Rattle.std.proofs.lemmas.Bool.{cases_eq, both_ways}
use Rattle.std.proofs.lemmas.List.{length-set, length-append, length-map, get_or-set_same, get_or-set_other}
use Rattle.std.proofs.lemmas.List.Sums.{sum_by-cons}
use Rattle.std.proofs.lemmas.Option.{slice_get_within, same_Some}
use Rattle.pv_cnf.specs.Literal.{complement, is_outside}
use Rattle.pv_cnf.specs.Clause.{IsClause}
use Rattle.pv_log.specs.Propagation.{is_false, named}
use Rattle.pv_log.proofs.ForCallers.{slice_get-all, inside-bounds}
use Rattle.pv_region.specs.declared.watch.Watch.{Watch}
use Rattle.pv_region.specs.Stored.{Stored, Hinted, clause_cost, lemma_cost, used_of, count_of, all_lits, list_of, with_list, IsLinked}
use Rattle.pv_region.specs.Links.{code_of, In}
use Rattle.pv_region.proofs.ForCallers.{watch-code, contains-in, in-contains}
use Rattle.pv_watch.specs.Trail.{Path}
use Rattle.pv_watch.specs.Watched.{literal_at, other, IsSlotOf, Watches, IsWatch, AreGuarded, Keeps}
use Rattle.pv_watch.specs.Turns.{CanWatch}
use Rattle.pv_watch.proofs.Clauses.{get-false, not-both, own-inside}

-- ---- slots

pub same-code : (v w : Watch) → v.slot < 2 → w.slot < 2 → code_of v ≡ code_of w → v ≡ w
same-code v w a b e = sym (watch-code (code_of v) v a refl) ∙ watch-code (code_of v) w b e

pub other-other : (w : Watch) → w.slot < 2 → other (other w) ≡ w
other-other w lt = let e : 1 - (1 - w.slot) ≡ w.slot = omega (arith, lt) in ap (λ (s : ℕ). record { id = w.id; slot = s }) e

pub other-differs : (w : Watch) → w.slot < 2 → other w ≢ w
other-differs w lt e = let s : 1 - w.slot ≡ w.slot = ap (λ (v : Watch). v.slot) e in omega (arith, s, lt)

pub slots-apart : (id : ℕ) → ◌≢◌ {A = Watch} (record { id = id; slot = 1 }) (record { id = id; slot = 0 })
slots-apart id e = let s : 1 ≡ 0 = ap (λ (v : Watch). v.slot) e in omega (arith, s)

-- two slots of one clause are one or the other
pub one-or-other : (v w : Watch) → v.slot < 2 → w.slot < 2 → v.id ≡ w.id → (v ≡ w) ⊎ (v ≡ other w)
one-or-other v w a b e =
    elim (cases_eq v.slot w.slot) [
      | inl same ↦ inl (ap (λ (i : ℕ). record { id = i; slot = v.slot }) e ∙ ap (λ (s : ℕ). record { id = w.id; slot = s }) same)
      | inr differ ↦ (let turned : v.slot ≡ 1 - w.slot = omega (arith, a, b, differ) in
          inr (ap (λ (i : ℕ). record { id = i; slot = v.slot }) e ∙ ap (λ (s : ℕ). record { id = w.id; slot = s }) turned))
    ]

-- ---- room

clauses-cost : (xs : List (List ℕ)) → 3 * length xs ≤ sum_by clause_cost xs
clauses-cost [] = omega arith
clauses-cost (x ∷ xs) = let rest = clauses-cost xs in omega (arith, rest, sum_by-cons clause_cost x xs)

lemmas-cost : (xs : List Hinted) → 3 * length xs ≤ sum_by lemma_cost xs
lemmas-cost [] = omega arith
lemmas-cost (x ∷ xs) = let rest = lemmas-cost xs in omega (arith, rest, sum_by-cons lemma_cost x xs)

pub count-costs : (s : Stored) → 3 * count_of s ≤ used_of s
count-costs s = let a = clauses-cost s.clauses in let b = lemmas-cost s.lemmas in omega (arith, a, b)

pub named-within : (clauses : List (List ℕ)) (id : ℕ) (clause : List ℕ) → named clauses id ≡ Some clause → id ≤ length clauses
named-within clauses zero clause e = omega arith
named-within clauses (suc n) clause e = let lt = slice_get_within clauses n clause e in omega (arith, lt)

named-one : (clauses : List (List ℕ)) (id : ℕ) (a b : List ℕ) → named clauses id ≡ Some a → named clauses id ≡ Some b → a ≡ b
named-one clauses id a b e f = same_Some a b (sym e ∙ f)

pub named-valid : (P : List ℕ → Type 0) (clauses : List (List ℕ)) (id : ℕ) (clause : List ℕ) → AllByRecursion P clauses → named clauses id ≡ Some clause → P clause
named-valid P clauses zero clause all e = absurd cc
named-valid P clauses (suc n) clause all e = slice_get-all P clauses n clause all e

pub slot-room : (s : Stored) (path : Path) (slots : List ℕ) (done : ℕ) (w : Watch) (clause : List ℕ) → Keeps s path slots done → IsSlotOf s w clause → code_of w < length slots
slot-room s path slots done w clause k of =
    let within = named-within (all_lits s) w.id clause of.at in
    let few : length (all_lits s) ≡ count_of s = length-append s.clauses (map (λ (l : Hinted). l.lits) s.lemmas) ∙ ap (λ (n : ℕ). length s.clauses + n) (length-map s.lemmas (λ (l : Hinted). l.lits)) in
    let costs = count-costs s in
    omega (arith, within, few, costs, k.fits, k.room, of.slot)

-- a watched literal is one of the region's
pub literal-inside : (s : Stored) (path : Path) (slots : List ℕ) (done : ℕ) (w : Watch) (clause : List ℕ) → Keeps s path slots done → IsSlotOf s w clause → is_outside s.variables (literal_at slots w) ≡ false
literal-inside s path slots done w clause k of =
    let valid = named-valid (IsClause s.variables) (all_lits s) w.id clause k.valid of.at in
    own-inside s.variables clause (literal_at slots w) valid.inside (k.watched.each w clause of).own

pub from-two : (v lit : ℕ) → is_outside v lit ≡ false → (2 ≤ lit) × (lit - 2 < 2 * v)
from-two v lit e = let b = inside-bounds v lit e in (omega (arith, b.0), omega (arith, b.0, b.1))

-- ---- lists

pub list-set : (s : Stored) (lit : ℕ) (ws : List Watch) → lit - 2 < length s.lists → list_of (with_list s lit ws) lit ≡ ws
list-set s lit ws lt = get_or-set_same s.lists (lit - 2) ws [] lt

pub list-kept : (s : Stored) (lit l : ℕ) (ws : List Watch) → 2 ≤ lit → 2 ≤ l → l ≢ lit → list_of (with_list s lit ws) l ≡ list_of s l
list-kept s lit l ws a b ne = get_or-set_other s.lists (lit - 2) (l - 2) ws [] (λ e. ne (omega (arith, e, a, b)))

in-without : (w x : Watch) (front rest : List Watch) → x ≢ w → In x (front ++ w ∷ rest) → In x (front ++ rest)
in-without w x [] rest ne (inl e) = absurd (ne e)
in-without w x [] rest ne (inr i) = i
in-without w x (y ∷ front) rest ne (inl e) = inl e
in-without w x (y ∷ front) rest ne (inr i) = inr (in-without w x front rest ne i)

in-with : (w x : Watch) (front rest : List Watch) → In x (front ++ rest) → In x (front ++ w ∷ rest)
in-with w x [] rest i = inr i
in-with w x (y ∷ front) rest (inl e) = inl e
in-with w x (y ∷ front) rest (inr i) = inr (in-with w x front rest i)

pub in-of : (ws : List Watch) (w : Watch) → Contains ws w → In w ws
in-of ws w (k, lt, e) = contains-in w ws k lt e

pub eq-watch : (v w : Watch) → v.slot < 2 → w.slot < 2 → (v ≡ w) ⊎ (v ≢ w)
eq-watch v w a b =
    elim (cases_eq (code_of v) (code_of w)) [
      | inl e ↦ inl (same-code v w a b e)
      | inr ne ↦ inr (λ e. ne (ap code_of e))
    ]

-- ---- from one literal to another

module _ (s : Stored) (path : Path) (slots : List ℕ) (done : ℕ) (k : Keeps s path slots done) (lit to : ℕ) (w : Watch) (clause : List ℕ) (of : IsSlotOf s w clause) (front rest : List Watch) (list : list_of s lit ≡ front ++ w ∷ rest) (watches : literal_at slots w ≡ lit) (false_is : is_false path.falses lit ≡ true) (can : CanWatch path.falses clause (literal_at slots (other w)) to) (free : IsLinked (with_list s lit (front ++ rest)) w → ⊥) where
  abbrev out : Stored
  out = with_list s lit (front ++ rest)

  abbrev moved : Stored
  moved = with_list out to (w ∷ list_of out to)

  abbrev now : List ℕ
  now = set slots (code_of w) to

  lit-inside : (2 ≤ lit) × (lit - 2 < 2 * s.variables)
  lit-inside = from-two s.variables lit (ap (is_outside s.variables) (sym watches) ∙ literal-inside s path slots done w clause k of)

  valid-of : (x : Watch) (c : List ℕ) → IsSlotOf s x c → IsClause s.variables c
  valid-of x c o = named-valid (IsClause s.variables) (all_lits s) x.id c k.valid o.at

  to-inside : (2 ≤ to) × (to - 2 < 2 * s.variables)
  to-inside = from-two s.variables to (own-inside s.variables clause to (valid-of w clause of).inside can.own)

  apart : to ≢ lit
  apart e = both_ways (is_false path.falses to) can.free (ap (is_false path.falses) e ∙ false_is)

  list-lit : list_of moved lit ≡ front ++ rest
  list-lit =
      list-kept out to lit (w ∷ list_of out to) to-inside.0 lit-inside.0 (λ e. apart (sym e))
      ∙ list-set s lit (front ++ rest) (omega (arith, k.lists, lit-inside.1))

  list-out-to : list_of out to ≡ list_of s to
  list-out-to = list-kept s lit to (front ++ rest) lit-inside.0 to-inside.0 apart

  list-to : list_of moved to ≡ w ∷ list_of s to
  list-to =
      let size : length out.lists ≡ length s.lists = length-set s.lists (lit - 2) (front ++ rest) in
      list-set out to (w ∷ list_of out to) (omega (arith, size, k.lists, to-inside.1)) ∙ ap (λ (ws : List Watch). w ∷ ws) list-out-to

  list-else : (l : ℕ) → 2 ≤ l → l ≢ lit → l ≢ to → list_of moved l ≡ list_of s l
  list-else l two no_lit no_to =
      list-kept out to l (w ∷ list_of out to) to-inside.0 two no_to ∙ list-kept s lit l (front ++ rest) lit-inside.0 two no_lit

  -- the slots
  now-same : literal_at now w ≡ to
  now-same = get_or-set_same slots (code_of w) to 0 (slot-room s path slots done w clause k of)

  now-else : (x : Watch) → x.slot < 2 → x ≢ w → literal_at now x ≡ literal_at slots x
  now-else x lt ne = get_or-set_other slots (code_of w) (code_of x) to 0 (λ e. ne (same-code x w lt of.slot e))

  other-slot : (x : Watch) → (other x).slot < 2
  other-slot x = omega arith

  -- what was in the list is there but for w, and w isn't
  in-lit : (x : Watch) → x ≢ w → In x (list_of s lit) → In x (list_of moved lit)
  in-lit x ne i = subst (In x) (sym list-lit) (in-without w x front rest ne (subst (In x) list i))

  linked-out : (l : ℕ) (x : Watch) → In x (list_of out l) → x ≢ w
  linked-out l x i e = free (record { lit = l; there = in-contains w (list_of out l) (subst (λ (v : Watch). In v (list_of out l)) e i) })

  there-now : (x : Watch) (c : List ℕ) → IsSlotOf s x c → x ≢ w → Contains (list_of moved (literal_at slots x)) x
  there-now x c o ne =
      let there : In x (list_of s (literal_at slots x)) = in-of (list_of s (literal_at slots x)) x (k.watched.each x c o).there in
      let two = (from-two s.variables (literal_at slots x) (literal-inside s path slots done x c k o)).0 in
      in-contains x (list_of moved (literal_at slots x)) (elim (cases_eq (literal_at slots x) lit) [
        | inl e ↦ subst (λ (l : ℕ). In x (list_of moved l)) (sym e) (in-lit x ne (subst (λ (l : ℕ). In x (list_of s l)) e there))
        | inr no_lit ↦ elim (cases_eq (literal_at slots x) to) [
          | inl e ↦ subst (λ (l : ℕ). In x (list_of moved l)) (sym e) (subst (In x) (sym list-to) (inr (subst (λ (l : ℕ). In x (list_of s l)) e there)))
          | inr no_to ↦ subst (In x) (sym (list-else (literal_at slots x) two no_lit no_to)) there
        ]
      ])

  differs-now : (x : Watch) (c : List ℕ) → IsSlotOf s x c → x ≢ w → literal_at slots x ≢ literal_at now (other x)
  differs-now x c o ne =
      elim (eq-watch (other x) w (other-slot x) of.slot) [
        | inl e ↦ λ same. (let x_is : x ≡ other w = sym (other-other x o.slot) ∙ ap other e in
            can.differs (sym (same ∙ ap (literal_at now) e ∙ now-same) ∙ ap (literal_at slots) x_is))
        | inr differ ↦ λ same. (k.watched.each x c o).differs (same ∙ now-else (other x) (other-slot x) differ)
      ]

  each-now : (x : Watch) (c : List ℕ) → IsSlotOf moved x c → Watches moved now x c
  each-now x c o' =
      let o : IsSlotOf s x c = record { slot = o'.slot; at = o'.at; long = o'.long } in
      elim (eq-watch x w o.slot of.slot) [
        | inl e ↦ (let same_clause : c ≡ clause = named-one (all_lits s) w.id c clause (ap (λ (v : Watch). named (all_lits s) v.id) (sym e) ∙ o.at) of.at in
            let at : literal_at now x ≡ to = ap (literal_at now) e ∙ now-same in
            record {
              own = ap (is_false c) at ∙ ap (λ (cl : List ℕ). is_false cl to) same_clause ∙ can.own;
              differs = λ same. can.differs (sym at ∙ same ∙ ap (λ (v : Watch). literal_at now (other v)) e ∙ now-else (other w) (other-slot w) (other-differs w of.slot));
              there = subst (λ (l : ℕ). Contains (list_of moved l) x) (sym at) (in-contains x (list_of moved to) (subst (In x) (sym list-to) (inl e)));
            })
        | inr ne ↦ (let at : literal_at now x ≡ literal_at slots x = now-else x o.slot ne in
            record {
              own = ap (is_false c) at ∙ (k.watched.each x c o).own;
              differs = λ same. differs-now x c o ne (sym at ∙ same);
              there = subst (λ (l : ℕ). Contains (list_of moved l) x) (sym at) (there-now x c o ne);
            })
      ]

  is-watch : (l : ℕ) (x : Watch) → 2 ≤ l → In x (list_of s l) → x ≢ w → IsWatch moved now l x
  is-watch l x two i ne =
      let old = k.watched.only l x two (in-contains x (list_of s l) i) in
      record {
        literal = now-else x old.of_clause.slot ne ∙ old.literal;
        clause = old.clause;
        of_clause = record { slot = old.of_clause.slot; at = old.of_clause.at; long = old.of_clause.long };
      }

  only-now : (l : ℕ) (x : Watch) → 2 ≤ l → Contains (list_of moved l) x → IsWatch moved now l x
  only-now l x two c =
      let i : In x (list_of moved l) = in-of (list_of moved l) x c in
      elim (cases_eq l lit) [
        | inl e ↦ (let inside : In x (front ++ rest) = subst (In x) (ap (list_of moved) e ∙ list-lit) i in
            let ne : x ≢ w = linked-out lit x (subst (In x) (sym (list-set s lit (front ++ rest) (omega (arith, k.lists, lit-inside.1)))) inside) in
            is-watch l x two (subst (In x) (sym (ap (list_of s) e ∙ list)) (in-with w x front rest inside)) ne)
        | inr no_lit ↦ elim (cases_eq l to) [
          | inl e ↦ at-to l x two e (subst (In x) (ap (list_of moved) e ∙ list-to) i)
          | inr no_to ↦ (let old : In x (list_of s l) = subst (In x) (list-else l two no_lit no_to) i in
              is-watch l x two old (linked-out l x (subst (In x) (sym (list-kept s lit l (front ++ rest) lit-inside.0 two no_lit)) old)))
        ]
      ]
    where
      at-to : (l : ℕ) (x : Watch) → 2 ≤ l → l ≡ to → In x (w ∷ list_of s to) → IsWatch moved now l x
      at-to l x two e (inl same) = record {
        literal = ap (literal_at now) same ∙ now-same ∙ sym e;
        clause = clause;
        of_clause = record {
          slot = subst (λ (v : Watch). v.slot < 2) (sym same) of.slot;
          at = ap (λ (v : Watch). named (all_lits s) v.id) same ∙ of.at;
          long = of.long;
        };
      }
      at-to l x two e (inr i) =
          is-watch l x two (subst (In x) (sym (ap (list_of s) e)) i) (linked-out to x (subst (In x) (sym list-out-to) i))

  guarded-now : AreGuarded moved path now done
  guarded-now x c o' =
      let o : IsSlotOf s x c = record { slot = o'.slot; at = o'.at; long = o'.long } in
      elim (eq-watch x w o.slot of.slot) [
        | inl e ↦ λ p lt at. (let at_to : slice_get path.falses p ≡ Some to = at ∙ ap (λ (l : ℕ). Some l) (ap (literal_at now) e ∙ now-same) in
            absurd (both_ways (is_false path.falses to) can.free (get-false path.falses p to at_to)))
        | inr ne ↦ (let at_x : literal_at now x ≡ literal_at slots x = now-else x o.slot ne in
            elim (eq-watch (other x) w (other-slot x) of.slot) [
              | inl e ↦ λ p lt at. (let old = k.guarded x c o p lt (at ∙ ap (λ (l : ℕ). Some l) at_x) in
                  let true_lit : is_false path.falses (complement lit) ≡ true =
                  ap (λ (l : ℕ). is_false path.falses (complement l)) (sym (ap (literal_at slots) e ∙ watches)) ∙ get-false path.falses old.place (complement (literal_at slots (other x))) old.there in
                  absurd (not-both path.falses lit k.distinct false_is true_lit))
              | inr differ ↦ λ p lt at. (let old = k.guarded x c o p lt (at ∙ ap (λ (l : ℕ). Some l) at_x) in
                  record {
                    place = old.place;
                    there = old.there ∙ ap (λ (l : ℕ). Some (complement l)) (sym (now-else (other x) (other-slot x) differ));
                    since = old.since;
                  })
            ])
      ]

  pub keeps-moved : Keeps moved path now done
  keeps-moved = record {
    variables = k.variables;
    small = k.small;
    lists = length-set out.lists (to - 2) (w ∷ list_of out to) ∙ length-set s.lists (lit - 2) (front ++ rest) ∙ k.lists;
    valid = k.valid;
    distinct = k.distinct;
    fits = k.fits;
    room = length-set slots (code_of w) to ∙ k.room;
    watched = record { each = each-now; only = only-now };
    guarded = guarded-now;
    turns = k.turns;
    within = k.within;
  }

  pub list-moved : list_of moved lit ≡ front ++ rest
  list-moved = list-lit

  pub slots-moved : (x : Watch) → x.slot < 2 → x ≢ w → literal_at now x ≡ literal_at slots x
  slots-moved = now-else

  pub kept-apart : (x : Watch) → In x (front ++ rest) → x ≢ w
  kept-apart x i = linked-out lit x (subst (In x) (sym (list-set s lit (front ++ rest) (omega (arith, k.lists, lit-inside.1)))) i)
