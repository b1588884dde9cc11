-- The table of turn edges: an edge starts a turn of one loop at most, whose number the table has.
use Rattle.std.proofs.Common.{◌≡◌, ℕ, zero, suc, ◌+◌, ◌<◌, ◌⊎◌, inl, inr, List, [], ◌∷◌, length, slice_get, Bool, true, false, ◌||◌, ◌==◌, cond, Option, Some, None, IfSome, refl, sym, subst, ap, ◌∙◌, arith}
use Rattle.std.specs.Prelude.{slice_index_or, slice_set, replicate}
use Rattle.std.specs.List.{AllByRecursion, list_any}
use Rattle.std.proofs.lemmas.Bool.{false≢true, both_ways, eqb-true, eqb-false, eq-eqb, ne_eqb, not-true}
use Rattle.std.proofs.lemmas.List.{length-replicate}
use Rattle.pv_flow.specs.Automata.{Loop, is_turn}
use Rattle.pv_flow.specs.WellMade.{share_no_turn, AreApart}
use Rattle.pv_unroll.specs.Turning.{marked, all_marked, turns_of}
use Rattle.pv_unroll.specs.Leading.{is_of, one_less, turning_at}
use Rattle.pv_unroll.proofs.Lists.{put_length, at_put, at_other, zero_at}
use Rattle.pv_unroll.proofs.Firsts.{OnlyTurn}

-- ---- marks

marked_length : (found : List ℕ) (number : ℕ) (turns : List ℕ) → length (marked found number turns) ≡ length found
marked_length found number [] = refl
marked_length found number (turn ∷ turns) = marked_length (slice_set found turn number) number turns ∙ put_length turn found number

marked_at : (found : List ℕ) (number e : ℕ) (turns : List ℕ) → e < length found
    → slice_index_or (marked found number turns) e 0 ≡ cond (list_any (λ (k : ℕ). k == e) turns) number (slice_index_or found e 0)
marked_at found number e [] lt = refl
marked_at found number e (turn ∷ turns) lt =
    marked_at (slice_set found turn number) number e turns (subst (λ (m : ℕ). e < m) (sym (put_length turn found number)) lt)
    ∙ by (turn == e) refl (list_any (λ (k : ℕ). k == e) turns)
  where
    by : (t : Bool) → (turn == e) ≡ t → (s : Bool)
        → cond s number (slice_index_or (slice_set found turn number) e 0) ≡ cond (t || s) number (slice_index_or found e 0)
    by true same true = refl
    by true same false = ap (λ (k : ℕ). slice_index_or (slice_set found k number) e 0) (eqb-true turn e same) ∙ at_put e found number 0 lt
    by false differ true = refl
    by false differ false = at_other turn e found number 0 (eqb-false turn e differ)

-- by the loops, of which the last counts
abbrev marked_by : ℕ → ℕ → ℕ → List Loop → ℕ
marked_by e found i [] = found
marked_by e found i (loop ∷ loops) = marked_by e (cond (is_turn loop e) (suc i) found) (suc i) loops

all_marked_at : (found : List ℕ) (e i : ℕ) (loops : List Loop) → e < length found
    → slice_index_or (all_marked found i loops) e 0 ≡ marked_by e (slice_index_or found e 0) i loops
all_marked_at found e i [] lt = refl
all_marked_at found e i (loop ∷ loops) lt =
    all_marked_at (marked found (suc i) loop.turns) e (suc i) loops (subst (λ (m : ℕ). e < m) (sym (marked_length found (suc i) loop.turns)) lt)
    ∙ ap (λ (m : ℕ). marked_by e m (suc i) loops) (marked_at found (suc i) e loop.turns lt)

abbrev pub NoTurn : ℕ → List Loop → Type 0
NoTurn e loops = AllByRecursion (λ (other : Loop). is_turn other e ≡ false) loops

none_marked : (e found i : ℕ) (loops : List Loop) → NoTurn e loops → marked_by e found i loops ≡ found
none_marked e found i [] none = refl
none_marked e found i (loop ∷ loops) none =
    ap (λ (t : Bool). marked_by e (cond t (suc i) found) (suc i) loops) none.0 ∙ none_marked e found (suc i) loops none.1

only_marked : (e found i r : ℕ) (loops : List Loop) → OnlyTurn e r loops → marked_by e found i loops ≡ suc (i + r)
only_marked e found i r [] only = absurd only
only_marked e found i zero (loop ∷ loops) only =
    ap (λ (t : Bool). marked_by e (cond t (suc i) found) (suc i) loops) only.0 ∙ none_marked e (suc i) (suc i) loops only.1 ∙ ap suc (more i)
  where
    more : (i : ℕ) → i ≡ i + 0
    more i = omega arith
only_marked e found i (suc r) (loop ∷ loops) only =
    ap (λ (t : Bool). marked_by e (cond t (suc i) found) (suc i) loops) only.0 ∙ only_marked e found (suc i) r loops only.1 ∙ ap suc (more i r)
  where
    more : (i r : ℕ) → suc i + r ≡ i + suc r
    more i r = omega arith

-- ---- one loop at most

any_shared : (f : ℕ → Bool) (e : ℕ) (xs : List ℕ) → list_any (λ (k : ℕ). k == e) xs ≡ true → f e ≡ true → list_any f xs ≡ true
any_shared f e [] any on = absurd (false≢true any)
any_shared f e (x ∷ xs) any on = by (x == e) refl (any_shared f e xs)
  where
    by : (t : Bool) → (x == e) ≡ t → (list_any (λ (k : ℕ). k == e) xs ≡ true → f e ≡ true → list_any f xs ≡ true) → (f x || list_any f xs) ≡ true
    by true same go = ap (λ (b : Bool). b || list_any f xs) (ap f (eqb-true x e same) ∙ on)
    by false differ go =
        let rest = go (sym (ap (λ (t : Bool). t || list_any (λ (k : ℕ). k == e) xs) differ) ∙ any) on in
        ap (λ (b : Bool). f x || b) rest ∙ or_true (f x)
      where
        or_true : (b : Bool) → (b || true) ≡ true
        or_true true = refl
        or_true false = refl

apart_turns : (e : ℕ) (loop other : Loop) → share_no_turn loop other ≡ true → is_turn loop e ≡ true → is_turn other e ≡ false
apart_turns e loop other apart on = by (is_turn other e) refl
  where
    by : (t : Bool) → is_turn other e ≡ t → is_turn other e ≡ false
    by false off = off
    by true both = absurd (both_ways (list_any (λ (k : ℕ). is_turn other k) loop.turns)
        (not-true (list_any (λ (k : ℕ). is_turn other k) loop.turns) apart) (any_shared (λ (k : ℕ). is_turn other k) e loop.turns on both))

abbrev pub Apart : List Loop → Type 0
Apart loops = (i j : ℕ) → i < j → IfSome (slice_get loops i) (λ loop. IfSome (slice_get loops j) (λ other. AreApart loop other))

pub record Only (e : ℕ) (loops : List Loop) : Type 0 where
  pub number : ℕ
  pub is : OnlyTurn e number loops

pub turn_cases : (e : ℕ) (loops : List Loop) → Apart loops → NoTurn e loops ⊎ Only e loops
turn_cases e [] apart = inl tt
turn_cases e (loop ∷ loops) apart = by (is_turn loop e) refl (turn_cases e loops (λ i j lt. apart (suc i) (suc j) (omega (arith, lt))))
  where
    others : (xs : List Loop) → ((j : ℕ) → IfSome (slice_get xs j) (λ other. AreApart loop other)) → is_turn loop e ≡ true → NoTurn e xs
    others [] each on = tt
    others (x ∷ xs) each on = (apart_turns e loop x (each 0).turns on, others xs (λ j. each (suc j)) on)

    by : (t : Bool) → is_turn loop e ≡ t → NoTurn e loops ⊎ Only e loops → NoTurn e (loop ∷ loops) ⊎ Only e (loop ∷ loops)
    by true on rest = inr (record { number = 0; is = (on, others loops (λ j. apart 0 (suc j) (omega arith)) on) })
    by false off (inl none) = inl (off, none)
    by false off (inr only) = inr (record { number = suc only.number; is = (off, only.is) })

-- ---- what the table says of these loops, numbered from i on

pub record FromOnly (e i : ℕ) (loops : List Loop) (turning : Option ℕ) : Type 0 where
  pub number : ℕ
  pub is : OnlyTurn e number loops
  pub turning_is : turning ≡ Some (i + number)

abbrev pub TurnsFrom : ℕ → ℕ → List Loop → Option ℕ → Type 0
TurnsFrom e i loops turning = (NoTurn e loops × IfSome turning (λ r. r < i)) ⊎ FromOnly e i loops turning

pub table_turns : (e edges : ℕ) (loops : List Loop) → Apart loops → e < edges → TurnsFrom e 0 loops (turning_at (turns_of edges loops) e)
table_turns e edges loops apart lt = by (turn_cases e loops apart)
  where
    at_e : slice_index_or (turns_of edges loops) e 0 ≡ marked_by e 0 0 loops
    at_e = all_marked_at (replicate edges 0) e 0 loops (subst (λ (m : ℕ). e < m) (sym (length-replicate {A = ℕ} edges 0)) lt)
        ∙ ap (λ (m : ℕ). marked_by e m 0 loops) (zero_at e edges)

    by : NoTurn e loops ⊎ Only e loops → TurnsFrom e 0 loops (turning_at (turns_of edges loops) e)
    by (inl none) = inl (none, subst (λ (o : Option ℕ). IfSome o (λ r. r < 0)) (sym (ap one_less (at_e ∙ none_marked e 0 0 loops none))) tt)
    by (inr only) = inr (record { number = only.number; is = only.is; turning_is = ap one_less (at_e ∙ only_marked e 0 0 only.number loops only.is) })

pub turns_on : (e i : ℕ) (loop : Loop) (loops : List Loop) (turning : Option ℕ) → TurnsFrom e i (loop ∷ loops) turning → TurnsFrom e (suc i) loops turning
turns_on e i loop loops turning (inl h) = inl ((h.0).1, lower turning h.1)
  where
    lower : (o : Option ℕ) → IfSome o (λ r. r < i) → IfSome o (λ r. r < suc i)
    lower None h = tt
    lower (Some r) h = omega (arith, h)
turns_on e i loop loops turning (inr h) = by h.number h.is h.turning_is
  where
    by : (r : ℕ) → OnlyTurn e r (loop ∷ loops) → turning ≡ Some (i + r) → TurnsFrom e (suc i) loops turning
    by zero only at = inl (only.1, subst (λ (o : Option ℕ). IfSome o (λ r. r < suc i)) (sym at) (omega arith))
    by (suc r) only at = inr (record { number = r; is = only.1; turning_is = at ∙ ap (λ (m : ℕ). Some m) (more r) })
      where
        more : (r : ℕ) → i + suc r ≡ suc i + r
        more r = omega arith

pub of_turn : (e i : ℕ) (loop : Loop) (loops : List Loop) (turning : Option ℕ) → TurnsFrom e i (loop ∷ loops) turning → is_of turning i ≡ is_turn loop e
of_turn e i loop loops turning (inl h) = lower turning h.1 ∙ sym (h.0).0
  where
    lower : (o : Option ℕ) → IfSome o (λ r. r < i) → is_of o i ≡ false
    lower None h = refl
    lower (Some r) h = ne_eqb r i (λ same. absurd (omega (arith, h, same)))
of_turn e i loop loops turning (inr h) = by h.number h.is h.turning_is
  where
    by : (r : ℕ) → OnlyTurn e r (loop ∷ loops) → turning ≡ Some (i + r) → is_of turning i ≡ is_turn loop e
    by zero only at = ap (λ (o : Option ℕ). is_of o i) at ∙ eq-eqb (i + 0) i (omega arith) ∙ sym only.0
    by (suc r) only at = ap (λ (o : Option ℕ). is_of o i) at ∙ ne_eqb (i + suc r) i (λ same. absurd (omega (arith, same))) ∙ sym only.0

-- where it is a turn of the first, it is one of no other
pub first_turn : (e i : ℕ) (loop : Loop) (loops : List Loop) (turning : Option ℕ) → TurnsFrom e i (loop ∷ loops) turning → is_turn loop e ≡ true
    → OnlyTurn e 0 (loop ∷ loops)
first_turn e i loop loops turning (inl h) on = absurd (both_ways (is_turn loop e) (h.0).0 on)
first_turn e i loop loops turning (inr h) on = by h.number h.is
  where
    by : (r : ℕ) → OnlyTurn e r (loop ∷ loops) → OnlyTurn e 0 (loop ∷ loops)
    by zero only = only
    by (suc r) only = absurd (both_ways (is_turn loop e) only.0 on)
