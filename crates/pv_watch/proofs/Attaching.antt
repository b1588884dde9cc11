-- One more clause, which is watched at two of its literals where it has two.
use Rattle.std.proofs.Common.{◌≡◌, ◌≢◌, ℕ, zero, suc, ◌+◌, ◌-◌, ◌*◌, ◌/◌, ◌<◌, ◌≤◌, ◌⊎◌, true, List, [], ◌∷◌, ◌++◌, length, map, set, refl, sym, ap, subst, ◌∙◌, arith, inl, inr, Some, slice_get, slice_index_or, Contains}
use Rattle.std.proofs.lemmas.Bool.{cases_eq, cases_lt}
use Rattle.std.proofs.lemmas.List.{length-set, length-append, length-map, length_push, get_or-set_same, get_or-set_other}
use Rattle.std.proofs.lemmas.Option.{slice_get_within, same_Some}
use Rattle.pv_cnf.specs.Clause.{IsClause, AreClauses}
use Rattle.pv_log.specs.Propagation.{is_false, named}
use Rattle.pv_log.proofs.ForCallers.{slice_get-left, named-at}
use Rattle.pv_region.specs.declared.watch.Watch.{Watch}
use Rattle.pv_region.specs.Stored.{Stored, Hinted, used_of, count_of, all_lits, list_of, with_list, IsLinked}
use Rattle.pv_region.specs.Links.{code_of, In}
use Rattle.pv_region.proofs.ForCallers.{in-contains}
use Rattle.pv_watch.specs.Trail.{Path}
use Rattle.pv_watch.specs.Watched.{literal_at, other, IsSlotOf, Watches, IsWatch, StandsBeside, AreGuarded, Keeps}
use Rattle.pv_watch.proofs.Clauses.{own-inside}
use Rattle.pv_watch.proofs.Moving.{one-or-other, count-costs, named-within, from-two, list-set, list-kept, in-of, literal-inside}

pub named-more : (clauses : List (List ℕ)) (c : List ℕ) (id : ℕ) (clause : List ℕ) → named (clauses ++ c ∷ []) id ≡ Some clause → (named clauses id ≡ Some clause) ⊎ ((id ≡ length clauses + 1) × (clause ≡ c))
named-more clauses c zero clause e = absurd cc
named-more [] c (suc zero) clause e = inr (refl, sym (same_Some c clause e))
named-more [] c (suc (suc n)) clause e = absurd cc
named-more (x ∷ clauses) c (suc zero) clause e = inl e
named-more (x ∷ clauses) c (suc (suc n)) clause e =
    elim (named-more clauses c (suc n) clause e) [
      | inl before ↦ inl before
      | inr (at, is) ↦ inr (omega (arith, at), is)
    ]

named-left : (clauses : List (List ℕ)) (c : List ℕ) (id : ℕ) (clause : List ℕ) → named clauses id ≡ Some clause → named (clauses ++ c ∷ []) id ≡ Some clause
named-left clauses c zero clause e = absurd cc
named-left clauses c (suc n) clause e = slice_get-left clauses (c ∷ []) n (slice_get_within clauses n clause e) ∙ e

pub valid-more : (v : ℕ) (clauses : List (List ℕ)) (c : List ℕ) → AreClauses v clauses → IsClause v c → AreClauses v (clauses ++ c ∷ [])
valid-more v [] c all is = (is, tt)
valid-more v (x ∷ clauses) c all is = (all.0, valid-more v clauses c all.1 is)

-- a store with one more clause, in which nothing else is changed
pub record HasOneMore (s t : Stored) (clause : List ℕ) : Type 0 where
  pub variables : t.variables ≡ s.variables
  pub capacity : t.capacity ≡ s.capacity
  pub lists : t.lists ≡ s.lists
  pub clauses : all_lits t ≡ all_lits s ++ clause ∷ []
  pub fits : used_of t ≤ t.capacity

module _ (s t : Stored) (path : Path) (slots : List ℕ) (done : ℕ) (clause : List ℕ) (k : Keeps s path slots done) (more : HasOneMore s t clause) (valid : IsClause s.variables clause) where
  old-slot : (x : Watch) (c : List ℕ) → IsSlotOf t x c → IsSlotOf s x c ⊎ ((x.id ≡ length (all_lits s) + 1) × (c ≡ clause))
  old-slot x c o =
      elim (named-more (all_lits s) clause x.id c (ap (λ (cs : List (List ℕ)). named cs x.id) (sym more.clauses) ∙ o.at)) [
        | inl before ↦ inl (record { slot = o.slot; at = before; long = o.long })
        | inr last ↦ inr last
      ]

  new-slot : (x : Watch) (c : List ℕ) → IsSlotOf s x c → IsSlotOf t x c
  new-slot x c o = record {
    slot = o.slot;
    at = ap (λ (cs : List (List ℕ)). named cs x.id) more.clauses ∙ named-left (all_lits s) clause x.id c o.at;
    long = o.long;
  }

  list-same : (l : ℕ) → list_of t l ≡ list_of s l
  list-same l = ap (λ (ls : List (List Watch)). slice_index_or ls (l - 2) []) more.lists

  -- what is linked is a slot of an earlier clause
  pub linked-before : (w : Watch) → IsLinked t w → w.id ≤ length (all_lits s)
  linked-before w l =
      let inside : Contains (list_of s l.lit) w = subst (λ (ws : List Watch). Contains ws w) (list-same l.lit) l.there in
      elim (cases_lt l.lit 2) [
        | inl low ↦ (let same : l.lit - 2 ≡ 2 - 2 = omega (arith, low) in
            let is = k.watched.only 2 w (omega arith) (subst (λ (i : ℕ). Contains (slice_index_or s.lists i []) w) same inside) in
            named-within (all_lits s) w.id is.clause is.of_clause.at)
        | inr le ↦ (let is = k.watched.only l.lit w le inside in named-within (all_lits s) w.id is.clause is.of_clause.at)
      ]

  -- a clause of one literal
  pub keeps-short : length clause ≤ 1 → Keeps t path slots done
  keeps-short short =
      record {
        variables = more.variables ∙ k.variables;
        small = omega (arith, more.capacity, k.small);
        lists = ap (λ (ls : List (List Watch)). length ls) more.lists ∙ k.lists ∙ ap (λ (n : ℕ). 2 * n) (sym more.variables);
        valid = subst (λ (n : ℕ). AreClauses n (all_lits t)) (sym more.variables) (subst (AreClauses s.variables) (sym more.clauses) (valid-more s.variables (all_lits s) clause k.valid valid));
        distinct = k.distinct;
        fits = more.fits;
        room = k.room ∙ ap (λ (n : ℕ). 2 * (n / 3) + 2) (sym more.capacity);
        watched = record {
          each = λ x c o. (let w = k.watched.each x c (only-old x c o) in
              record { own = w.own; differs = w.differs; there = subst (λ (ws : List Watch). Contains ws x) (sym (list-same (literal_at slots x))) w.there });
          only = λ l x two c. (let is = k.watched.only l x two (subst (λ (ws : List Watch). Contains ws x) (list-same l) c) in
              record { literal = is.literal; clause = is.clause; of_clause = new-slot x is.clause is.of_clause });
        };
        guarded = λ x c o. k.guarded x c (only-old x c o);
        turns = k.turns;
        within = k.within;
      }
    where
      only-old : (x : Watch) (c : List ℕ) → IsSlotOf t x c → IsSlotOf s x c
      only-old x c o =
          elim (old-slot x c o) [
            | inl before ↦ before
            | inr (at, is) ↦ absurd (let long : length c ≡ length clause = ap length is in omega (arith, long, short, o.long))
          ]

  -- a clause that is watched at two of its literals
  module _ (a b : ℕ) (own_a : is_false clause a ≡ true) (own_b : is_false clause b ≡ true) (differ : a ≢ b) (long : 1 < length clause) (beside_a : StandsBeside path done a b) (beside_b : StandsBeside path done b a) where
    abbrev id : ℕ
    id = length (all_lits s) + 1

    abbrev first : Watch
    first = record { id = id; slot = 0 }

    abbrev second : Watch
    second = record { id = id; slot = 1 }

    abbrev with_first : Stored
    with_first = with_list t a (first ∷ list_of t a)

    abbrev with_both : Stored
    with_both = with_list with_first b (second ∷ list_of with_first b)

    abbrev now : List ℕ
    now = set (set slots (code_of first) a) (code_of second) b

    inside-a : (2 ≤ a) × (a - 2 < 2 * s.variables)
    inside-a = from-two s.variables a (own-inside s.variables clause a valid.inside own_a)

    inside-b : (2 ≤ b) × (b - 2 < 2 * s.variables)
    inside-b = from-two s.variables b (own-inside s.variables clause b valid.inside own_b)

    size-t : length t.lists ≡ 2 * s.variables
    size-t = ap (λ (ls : List (List Watch)). length ls) more.lists ∙ k.lists

    size-first : length with_first.lists ≡ 2 * s.variables
    size-first = length-set t.lists (a - 2) (first ∷ list_of t a) ∙ size-t

    list-a : list_of with_both a ≡ first ∷ list_of s a
    list-a =
        list-kept with_first b a (second ∷ list_of with_first b) inside-b.0 inside-a.0 differ
        ∙ list-set t a (first ∷ list_of t a) (omega (arith, size-t, inside-a.1)) ∙ ap (λ (ws : List Watch). first ∷ ws) (list-same a)

    list-b : list_of with_both b ≡ second ∷ list_of s b
    list-b =
        list-set with_first b (second ∷ list_of with_first b) (omega (arith, size-first, inside-b.1))
        ∙ ap (λ (ws : List Watch). second ∷ ws) (list-kept t a b (first ∷ list_of t a) inside-a.0 inside-b.0 (λ e. differ (sym e)) ∙ list-same b)

    list-else : (l : ℕ) → 2 ≤ l → l ≢ a → l ≢ b → list_of with_both l ≡ list_of s l
    list-else l two no_a no_b =
        list-kept with_first b l (second ∷ list_of with_first b) inside-b.0 two no_b ∙ list-kept t a l (first ∷ list_of t a) inside-a.0 two no_a ∙ list-same l

    -- the new slots
    id-room : code_of second < length slots
    id-room =
        let few : length (all_lits t) ≡ count_of t = length-append t.clauses (map (λ (l : Hinted). l.lits) t.lemmas) ∙ ap (λ (n : ℕ). length t.clauses + n) (length-map t.lemmas (λ (l : Hinted). l.lits)) in
        let one_more : length (all_lits t) ≡ length (all_lits s) + 1 = ap (λ (cs : List (List ℕ)). length cs) more.clauses ∙ length_push (all_lits s) clause in
        let costs = count-costs t in
        omega (arith, few, one_more, costs, more.fits, more.capacity, k.room)

    now-first : literal_at now first ≡ a
    now-first =
        get_or-set_other (set slots (code_of first) a) (code_of second) (code_of first) b 0 (λ e. absurd (omega (arith, e)))
        ∙ get_or-set_same slots (code_of first) a 0 (omega (arith, id-room))

    now-second : literal_at now second ≡ b
    now-second =
        let size = length-set slots (code_of first) a in
        get_or-set_same (set slots (code_of first) a) (code_of second) b 0 (omega (arith, id-room, size))

    now-old : (x : Watch) → x.slot < 2 → x.id ≤ length (all_lits s) → literal_at now x ≡ literal_at slots x
    now-old x lt le =
        get_or-set_other (set slots (code_of first) a) (code_of second) (code_of x) b 0 (λ e. absurd (omega (arith, e, lt, le)))
        ∙ get_or-set_other slots (code_of first) (code_of x) a 0 (λ e. absurd (omega (arith, e, lt, le)))

    -- what was there is there
    in-old : (l : ℕ) (x : Watch) → 2 ≤ l → In x (list_of s l) → In x (list_of with_both l)
    in-old l x two i =
        elim (cases_eq l a) [
          | inl e ↦ subst (λ (n : ℕ). In x (list_of with_both n)) (sym e) (subst (In x) (sym list-a) (inr (subst (λ (n : ℕ). In x (list_of s n)) e i)))
          | inr no_a ↦ elim (cases_eq l b) [
            | inl e ↦ subst (λ (n : ℕ). In x (list_of with_both n)) (sym e) (subst (In x) (sym list-b) (inr (subst (λ (n : ℕ). In x (list_of s n)) e i)))
            | inr no_b ↦ subst (In x) (sym (list-else l two no_a no_b)) i
          ]
        ]

    old-id : (x : Watch) (c : List ℕ) → IsSlotOf s x c → x.id ≤ length (all_lits s)
    old-id x c o = named-within (all_lits s) x.id c o.at

    watches-old : (x : Watch) (c : List ℕ) → IsSlotOf s x c → Watches with_both now x c
    watches-old x c o =
        let w = k.watched.each x c o in
        let at : literal_at now x ≡ literal_at slots x = now-old x o.slot (old-id x c o) in
        let at_other : literal_at now (other x) ≡ literal_at slots (other x) = now-old (other x) (omega arith) (old-id x c o) in
        let own : is_false c (literal_at slots x) ≡ true = w.own in
        let of_valid = own-two x c o own in
        record {
          own = ap (is_false c) at ∙ own;
          differs = λ same. w.differs (sym at ∙ same ∙ at_other);
          there = in-contains x (list_of with_both (literal_at now x))
              (subst (λ (l : ℕ). In x (list_of with_both l)) (sym at) (in-old (literal_at slots x) x of_valid (in-of (list_of s (literal_at slots x)) x w.there)));
        }
      where
        own-two : (x : Watch) (c : List ℕ) → IsSlotOf s x c → is_false c (literal_at slots x) ≡ true → 2 ≤ literal_at slots x
        own-two x c o own = (from-two s.variables (literal_at slots x) (literal-inside s path slots done x c k o)).0

    in-first : In first (list_of with_both a)
    in-first = subst (In first) (sym list-a) (inl refl)

    in-second : In second (list_of with_both b)
    in-second = subst (In second) (sym list-b) (inl refl)

    watches-first : (c : List ℕ) → c ≡ clause → Watches with_both now first c
    watches-first c is = record {
      own = ap (is_false c) now-first ∙ ap (λ (cl : List ℕ). is_false cl a) is ∙ own_a;
      differs = λ same. differ (sym now-first ∙ same ∙ now-second);
      there = in-contains first (list_of with_both (literal_at now first)) (subst (λ (l : ℕ). In first (list_of with_both l)) (sym now-first) in-first);
    }

    watches-second : (c : List ℕ) → c ≡ clause → Watches with_both now second c
    watches-second c is = record {
      own = ap (is_false c) now-second ∙ ap (λ (cl : List ℕ). is_false cl b) is ∙ own_b;
      differs = λ same. differ (sym now-first ∙ sym same ∙ now-second);
      there = in-contains second (list_of with_both (literal_at now second)) (subst (λ (l : ℕ). In second (list_of with_both l)) (sym now-second) in-second);
    }

    new-one : (x : Watch) → x.slot < 2 → x.id ≡ id → (x ≡ first) ⊎ (x ≡ second)
    new-one x lt e = one-or-other x first lt (omega arith) e

    each-now : (x : Watch) (c : List ℕ) → IsSlotOf with_both x c → Watches with_both now x c
    each-now x c o =
        elim (old-slot x c (record { slot = o.slot; at = o.at; long = o.long })) [
          | inl before ↦ watches-old x c before
          | inr (at, is) ↦ elim (new-one x o.slot at) [
            | inl e ↦ subst (λ (w : Watch). Watches with_both now w c) (sym e) (watches-first c is)
            | inr e ↦ subst (λ (w : Watch). Watches with_both now w c) (sym e) (watches-second c is)
          ]
        ]

    last-at : named (all_lits t) id ≡ Some clause
    last-at =
        ap (λ (cs : List (List ℕ)). named cs id) more.clauses
        ∙ named-at (all_lits s ++ clause ∷ []) id (length (all_lits s)) refl ∙ slice_get-last (all_lits s) clause
      where
        slice_get-last : (xs : List (List ℕ)) (y : List ℕ) → slice_get (xs ++ y ∷ []) (length xs) ≡ Some y
        slice_get-last [] y = refl
        slice_get-last (x ∷ xs) y = slice_get-last xs y

    is-old : (l : ℕ) (x : Watch) → 2 ≤ l → In x (list_of s l) → IsWatch with_both now l x
    is-old l x two i =
        let is = k.watched.only l x two (in-contains x (list_of s l) i) in
        let n = new-slot x is.clause is.of_clause in
        record {
          literal = now-old x is.of_clause.slot (old-id x is.clause is.of_clause) ∙ is.literal;
          clause = is.clause;
          of_clause = record { slot = n.slot; at = n.at; long = n.long };
        }

    only-a : (x : Watch) → In x (first ∷ list_of s a) → IsWatch with_both now a x
    only-a x (inl e) = subst (IsWatch with_both now a) (sym e) (record {
      literal = now-first;
      clause = clause;
      of_clause = record { slot = omega arith; at = last-at; long = long };
    })
    only-a x (inr i) = is-old a x inside-a.0 i

    only-b : (x : Watch) → In x (second ∷ list_of s b) → IsWatch with_both now b x
    only-b x (inl e) = subst (IsWatch with_both now b) (sym e) (record {
      literal = now-second;
      clause = clause;
      of_clause = record { slot = omega arith; at = last-at; long = long };
    })
    only-b x (inr i) = is-old b x inside-b.0 i

    only-now : (l : ℕ) (x : Watch) → 2 ≤ l → Contains (list_of with_both l) x → IsWatch with_both now l x
    only-now l x two c =
        let i : In x (list_of with_both l) = in-of (list_of with_both l) x c in
        elim (cases_eq l a) [
          | inl e ↦ subst (λ (n : ℕ). IsWatch with_both now n x) (sym e) (only-a x (subst (In x) (ap (list_of with_both) e ∙ list-a) i))
          | inr no_a ↦ elim (cases_eq l b) [
            | inl e ↦ subst (λ (n : ℕ). IsWatch with_both now n x) (sym e) (only-b x (subst (In x) (ap (list_of with_both) e ∙ list-b) i))
            | inr no_b ↦ is-old l x two (subst (In x) (list-else l two no_a no_b) i)
          ]
        ]

    guarded-now : AreGuarded with_both path now done
    guarded-now x c o =
        elim (old-slot x c (record { slot = o.slot; at = o.at; long = o.long })) [
          | inl before ↦ subst (λ (l : ℕ). StandsBeside path done l (literal_at now (other x))) (sym (now-old x o.slot (old-id x c before)))
              (subst (StandsBeside path done (literal_at slots x)) (sym (now-old (other x) (omega arith) (old-id x c before))) (k.guarded x c before))
          | inr (at, is) ↦ elim (new-one x o.slot at) [
            | inl e ↦ subst (λ (w : Watch). StandsBeside path done (literal_at now w) (literal_at now (other w))) (sym e)
                (subst (λ (l : ℕ). StandsBeside path done l (literal_at now second)) (sym now-first) (subst (StandsBeside path done a) (sym now-second) beside_a))
            | inr e ↦ subst (λ (w : Watch). StandsBeside path done (literal_at now w) (literal_at now (other w))) (sym e)
                (subst (λ (l : ℕ). StandsBeside path done l (literal_at now first)) (sym now-second) (subst (StandsBeside path done b) (sym now-first) beside_b))
          ]
        ]

    pub keeps-attached : Keeps with_both path now done
    keeps-attached = record {
      variables = more.variables ∙ k.variables;
      small = omega (arith, more.capacity, k.small);
      lists = length-set with_first.lists (b - 2) (second ∷ list_of with_first b) ∙ size-first ∙ ap (λ (n : ℕ). 2 * n) (sym more.variables);
      valid = subst (λ (n : ℕ). AreClauses n (all_lits t)) (sym more.variables) (subst (AreClauses s.variables) (sym more.clauses) (valid-more s.variables (all_lits s) clause k.valid valid));
      distinct = k.distinct;
      fits = more.fits;
      room = length-set (set slots (code_of first) a) (code_of second) b ∙ length-set slots (code_of first) a ∙ k.room ∙ ap (λ (n : ℕ). 2 * (n / 3) + 2) (sym more.capacity);
      watched = record { each = each-now; only = only-now };
      guarded = guarded-now;
      turns = k.turns;
      within = k.within;
    }
