-- What ends where in the whole: in the text nothing but the entry, where it is done; and an edge that leads to a trap, or has gone over a
-- bound, leads to the location that is so.
use Rattle.std.proofs.Common.{◌≡◌, ℕ, suc, ◌+◌, ◌<◌, ◌≤◌, List, [], ◌∷◌, ◌++◌, length, Bool, true, false, ◌==◌, cond, Option, Some, None, refl, ap, ◌∙◌, arith}
use Rattle.std.proofs.lemmas.Bool.{eq-eqb, ne_eqb}
use Rattle.pv_place.specs.declared.place.Place.{Place}
use Rattle.pv_place.specs.declared.trap.TrapKind.{TrapKind}
use Rattle.pv_flow.specs.Automata.{Edge, Parts, edges_from}
use Rattle.pv_flow.specs.Runs.{End, done, trap, over, trap_at, over_at, or_else, end_at, Counts, way_of, ways_by}
use Rattle.pv_flow.specs.Calls.{Blocks}
use Rattle.pv_flow.specs.Fitting.{IsSound}
use Rattle.pv_call_copies.specs.Inlined.{Aim, to_location, to_trap, to_over, before, span, entry_body, number_in, Drawn, drawn_all, next_by, with_trap, with_over, traps_of, overs_of, behind, text_size, inlined}
use Rattle.pv_call_copies.proofs.Ending.{entry_numbers}
use Rattle.pv_call_copies.proofs.Made.{behind_rises}

-- ---- ends have numbers from `next` on

trap_none : (next l : ℕ) (ds : List Drawn) → l < next → trap_at l (traps_of next ds) ≡ None
trap_none next l [] lt = refl
trap_none next l (d ∷ ds) lt = by d.aim (λ m below. trap_none m l ds below)
  where
    later : l < suc next
    later = omega (arith, lt)

    by : (aim : Aim) → ((m : ℕ) → l < m → trap_at l (traps_of m ds) ≡ None)
        → trap_at l (with_trap aim next (traps_of (next_by aim next) ds)) ≡ None
    by (to_location k) go = go next lt
    by (to_trap kind place) go =
        ap (λ (b : Bool). cond b (Some (trap kind place)) (trap_at l (traps_of (suc next) ds)))
        (ne_eqb next l (λ e. absurd (omega (arith, e, lt))))
        ∙ go (suc next) later
    by (to_over place) go = go (suc next) later

over_none : (next l : ℕ) (ds : List Drawn) → l < next → over_at l (overs_of next ds) ≡ None
over_none next l [] lt = refl
over_none next l (d ∷ ds) lt = by d.aim (λ m below. over_none m l ds below)
  where
    later : l < suc next
    later = omega (arith, lt)

    by : (aim : Aim) → ((m : ℕ) → l < m → over_at l (overs_of m ds) ≡ None)
        → over_at l (with_over aim next (overs_of (next_by aim next) ds)) ≡ None
    by (to_location k) go = go next lt
    by (to_trap kind place) go = go (suc next) later
    by (to_over place) go =
        ap (λ (b : Bool). cond b (Some (over place)) (over_at l (overs_of (suc next) ds)))
        (ne_eqb next l (λ e. absurd (omega (arith, e, lt))))
        ∙ go (suc next) later

-- those before a number don't have it
passed : (next l m : ℕ) → suc next ≤ m → m ≤ l → next ≡ l → ⊥
passed next l m a b e = omega (arith, a, b, e)

trap_skips : (next l : ℕ) (xs ys : List Drawn) → behind next xs ≤ l
    → trap_at l (traps_of next (xs ++ ys)) ≡ trap_at l (traps_of (behind next xs) ys)
trap_skips next l [] ys le = refl
trap_skips next l (x ∷ xs) ys le = by x.aim le (λ m h. trap_skips m l xs ys h)
  where
    by : (aim : Aim) → behind (next_by aim next) xs ≤ l
        → ((m : ℕ) → behind m xs ≤ l → trap_at l (traps_of m (xs ++ ys)) ≡ trap_at l (traps_of (behind m xs) ys))
        → trap_at l (with_trap aim next (traps_of (next_by aim next) (xs ++ ys))) ≡ trap_at l (traps_of (behind (next_by aim next) xs) ys)
    by (to_location k) h go = go next h
    by (to_trap kind place) h go =
        ap (λ (b : Bool). cond b (Some (trap kind place)) (trap_at l (traps_of (suc next) (xs ++ ys))))
        (ne_eqb next l (λ e. absurd (passed next l (behind (suc next) xs) (behind_rises (suc next) xs) h e))) ∙ go (suc next) h
    by (to_over place) h go = go (suc next) h

over_skips : (next l : ℕ) (xs ys : List Drawn) → behind next xs ≤ l
    → over_at l (overs_of next (xs ++ ys)) ≡ over_at l (overs_of (behind next xs) ys)
over_skips next l [] ys le = refl
over_skips next l (x ∷ xs) ys le = by x.aim le (λ m h. over_skips m l xs ys h)
  where
    by : (aim : Aim) → behind (next_by aim next) xs ≤ l
        → ((m : ℕ) → behind m xs ≤ l → over_at l (overs_of m (xs ++ ys)) ≡ over_at l (overs_of (behind m xs) ys))
        → over_at l (with_over aim next (overs_of (next_by aim next) (xs ++ ys))) ≡ over_at l (overs_of (behind (next_by aim next) xs) ys)
    by (to_location k) h go = go next h
    by (to_trap kind place) h go = go (suc next) h
    by (to_over place) h go =
        ap (λ (b : Bool). cond b (Some (over place)) (over_at l (overs_of (suc next) (xs ++ ys))))
        (ne_eqb next l (λ e. absurd (passed next l (behind (suc next) xs) (behind_rises (suc next) xs) h e))) ∙ go (suc next) h

-- ---- in the whole

-- the number where the entry is done
abbrev pub done_number : Blocks → Parts → ℕ
done_number blocks p = number_in blocks (entry_body p) p.done

pub done_in_text : (blocks : Blocks) (p : Parts) → IsSound p → done_number blocks p < text_size blocks p
done_in_text blocks p s = shift (before (span blocks) p p.done) (before (span blocks) p p.locations) (entry_numbers blocks p s).1
  where
    shift : (a c : ℕ) → a < c → 0 + a < c
    shift a c h = omega (arith, h)

-- in the text nothing else ends
pub end_in_text : (blocks : Blocks) (p : Parts) (m : ℕ) → m < text_size blocks p
    → end_at (inlined blocks p) m ≡ cond (done_number blocks p == m) (Some done) None
end_in_text blocks p m lt =
    ap (λ (o : Option End). cond (done_number blocks p == m) (Some done) (or_else o (over_at m (overs_of top ds)))) (trap_none top m ds lt)
    ∙ ap (λ (o : Option End). cond (done_number blocks p == m) (Some done) o) (over_none top m ds lt)
  where
    top : ℕ
    top = text_size blocks p

    ds : List Drawn
    ds = drawn_all blocks p

-- after it the entry isn't done
after_text : (blocks : Blocks) (p : Parts) → IsSound p → (xs : List Drawn) → (done_number blocks p == behind (text_size blocks p) xs)
    ≡ false
after_text blocks p s xs = ne_eqb (done_number blocks p) (behind (text_size blocks p) xs)
    (λ e. absurd (never (done_number blocks p) (text_size blocks p) (behind (text_size blocks p) xs) (done_in_text blocks p s)
    (behind_rises (text_size blocks p) xs) e))
  where
    never : (a t m : ℕ) → a < t → t ≤ m → a ≡ m → ⊥
    never a t m h g e = omega (arith, h, g, e)

-- where an edge leads to that traps
pub end_of_trap : (blocks : Blocks) (p : Parts) → IsSound p → (xs ys : List Drawn) (d : Drawn) (kind : TrapKind) (place : Place)
    → drawn_all blocks p ≡ xs ++ (d ∷ ys) → d.aim ≡ to_trap kind place
    → end_at (inlined blocks p) (behind (text_size blocks p) xs) ≡ Some (trap kind place)
end_of_trap blocks p s xs ys d kind place split e =
    ap (λ (b : Bool). cond b (Some done) (or_else (trap_at l (traps_of top ds)) (over_at l (overs_of top ds)))) (after_text blocks p s xs)
    ∙ ap (λ (o : Option End). or_else o (over_at l (overs_of top ds))) trap_is
  where
    top : ℕ
    top = text_size blocks p

    ds : List Drawn
    ds = drawn_all blocks p

    l : ℕ
    l = behind top xs

    trap_is : trap_at l (traps_of top ds) ≡ Some (trap kind place)
    trap_is = ap (λ (zs : List Drawn). trap_at l (traps_of top zs)) split
        ∙ (trap_skips top l xs (d ∷ ys) (omega arith)
        ∙ (ap (λ (aim : Aim). trap_at l (with_trap aim l (traps_of (next_by aim l) ys))) e
        ∙ ap (λ (b : Bool). cond b (Some (trap kind place)) (trap_at l (traps_of (suc l) ys))) (eq-eqb l l refl)))

-- and to one that has gone over a bound
pub end_of_over : (blocks : Blocks) (p : Parts) → IsSound p → (xs ys : List Drawn) (d : Drawn) (place : Place)
    → drawn_all blocks p ≡ xs ++ (d ∷ ys) → d.aim ≡ to_over place
    → end_at (inlined blocks p) (behind (text_size blocks p) xs) ≡ Some (over place)
end_of_over blocks p s xs ys d place split e =
    ap (λ (b : Bool). cond b (Some done) (or_else (trap_at l (traps_of top ds)) (over_at l (overs_of top ds)))) (after_text blocks p s xs)
    ∙ (ap (λ (o : Option End). or_else o (over_at l (overs_of top ds))) no_trap ∙ over_is)
  where
    top : ℕ
    top = text_size blocks p

    ds : List Drawn
    ds = drawn_all blocks p

    l : ℕ
    l = behind top xs

    no_trap : trap_at l (traps_of top ds) ≡ None
    no_trap = ap (λ (zs : List Drawn). trap_at l (traps_of top zs)) split
        ∙ (trap_skips top l xs (d ∷ ys) (omega arith)
        ∙ (ap (λ (aim : Aim). trap_at l (with_trap aim l (traps_of (next_by aim l) ys))) e ∙ trap_none (suc l) l ys (omega arith)))

    over_is : over_at l (overs_of top ds) ≡ Some (over place)
    over_is = ap (λ (zs : List Drawn). over_at l (overs_of top zs)) split
        ∙ (over_skips top l xs (d ∷ ys) (omega arith)
        ∙ (ap (λ (aim : Aim). over_at l (with_over aim l (overs_of (next_by aim l) ys))) e
        ∙ ap (λ (b : Bool). cond b (Some (over place)) (over_at l (overs_of (suc l) ys))) (eq-eqb l l refl)))

-- ---- no ways

-- where no edge begins no way leads on
pub no_ways_there : (p : Parts) (n l : ℕ) (counts : Counts) (e : ℕ) (edges : List Edge) → edges_from l edges ≡ []
    → ways_by p.loops n l counts e edges ≡ []
no_ways_there p n l counts e [] none = refl
no_ways_there p n l counts e (edge ∷ edges) none = by (edge.from == l) none (λ h. no_ways_there p n l counts (suc e) edges h)
  where
    by : (b : Bool) → cond b (edge ∷ edges_from l edges) (edges_from l edges) ≡ []
        → (edges_from l edges ≡ [] → ways_by p.loops n l counts (suc e) edges ≡ [])
        → cond b (way_of p.loops n l counts e edge ∷ ways_by p.loops n l counts (suc e) edges) (ways_by p.loops n l counts (suc e) edges)
        ≡ []
    by true h go = absurd (never (length (edges_from l edges)) (ap (λ (es : List Edge). length es) h))
      where
        never : (k : ℕ) → suc k ≡ 0 → ⊥
        never k g = omega (arith, g)
    by false h go = go h
