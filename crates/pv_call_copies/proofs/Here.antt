-- Edges at a location of a copy at work: what is drawn there, between what is drawn before and after, is all that leads on from there; each
-- own edge starts a turn where its block's does; and of two locations of a copy that take room no two have one number.
use Rattle.std.proofs.Common.{◌≡◌, ℕ, suc, ◌+◌, ◌<◌, ◌≤◌, ◌⊎◌, inl, inr, append-nil, append_assoc, List, [], ◌∷◌, ◌++◌, length, length-append, slice_get, Bool, true, false, ◌==◌, cond, Option, Some, None, refl, sym, subst, ap, ◌∙◌, arith}
use Rattle.std.specs.List.{AllByRecursion}
use Rattle.std.proofs.lemmas.Bool.{cases_lt, eq-eqb}
use Rattle.pv_flow.specs.Automata.{Edge, Loop, Parts, is_turn}
use Rattle.pv_flow.specs.Runs.{End, done, end_at, trap_at, over_at, or_else, Counts, Spot, Way, ways_by}
use Rattle.pv_flow.specs.Calls.{Blocks}
use Rattle.pv_flow.specs.Fitting.{AreFitting, IsSound}
use Rattle.pv_call_copies.specs.Inlined.{before, span, Body, number_in, Drawn, drawn_below, drawn, drawn_all, drawn_before, turn_number, drawn_loop, edges_of, behind, text_size}
use Rattle.pv_call_copies.proofs.Edges.{trap_not_done, over_not_done, edges_long}
use Rattle.pv_call_copies.proofs.Placing.{Split, below_stands, edges_append, ways_append, no_ways}
use Rattle.pv_call_copies.proofs.Placed.{end_of_body, inner_stands, body_split, IsOpen, all_below, all_above}
use Rattle.pv_call_copies.proofs.Aims.{less_in, open_rises}
use Rattle.pv_call_copies.proofs.Turns.{rank, one_rank, drawn_at, one_location, HasNumber, has_number, same_turns}
use Rattle.pv_call_copies.proofs.LoopEdges.{IsGoodLoop}
use Rattle.pv_call_copies.proofs.Chains.{HasSite}

-- ---- what is drawn at a location, in the whole

pub away_edges : (m next : ℕ) (ds : List Drawn) → AllByRecursion (λ (d : Drawn). (d.from == m) ≡ false) ds
    → AllByRecursion (λ (edge : Edge). (edge.from == m) ≡ false) (edges_of next ds)
away_edges m next [] are = tt
away_edges m next (d ∷ ds) are = (are.0, away_edges m _ ds are.1)

all_away : (m : ℕ) (xs ys : List Drawn) → AllByRecursion (λ (d : Drawn). (d.from == m) ≡ false) xs
    → AllByRecursion (λ (d : Drawn). (d.from == m) ≡ false) ys → AllByRecursion (λ (d : Drawn). (d.from == m) ≡ false) (xs ++ ys)
all_away m [] ys are more = more
all_away m (x ∷ xs) ys are more = (are.0, all_away m xs ys are.1 more)

-- of these lists the middle one alone has ways from there
ways_amid : (loops : List Loop) (n m : ℕ) (counts : Counts) (next : ℕ) (xs ys zs : List Drawn)
    → AllByRecursion (λ (d : Drawn). (d.from == m) ≡ false) xs → AllByRecursion (λ (d : Drawn). (d.from == m) ≡ false) zs
    → ways_by loops n m counts 0 (edges_of next (xs ++ (ys ++ zs))) ≡ ways_by loops n m counts (length xs) (edges_of (behind next xs) ys)
ways_amid loops n m counts next xs ys zs no_first no_last =
    ap (λ (edges : List Edge). ways_by loops n m counts 0 edges) (edges_append next xs (ys ++ zs))
    ∙ (ways_append loops n m counts 0 (edges_of next xs) (edges_of (behind next xs) (ys ++ zs))
    ∙ (ap (λ (ways : List (Way Spot)). ways ++ ways_by loops n m counts (0 + length (edges_of next xs))
    (edges_of (behind next xs) (ys ++ zs)))
    (no_ways loops n m counts 0 (edges_of next xs) (away_edges m next xs no_first))
    ∙ (ap (λ (k : ℕ). ways_by loops n m counts k (edges_of (behind next xs) (ys ++ zs)))
    (plain (length (edges_of next xs)) ∙ edges_long next xs)
    ∙ (ap (λ (edges : List Edge). ways_by loops n m counts (length xs) edges) (edges_append (behind next xs) ys zs)
    ∙ (ways_append loops n m counts (length xs) (edges_of (behind next xs) ys) (edges_of (behind (behind next xs) ys) zs)
    ∙ (ap (λ (ways : List (Way Spot)). ways_by loops n m counts (length xs) (edges_of (behind next xs) ys) ++ ways)
    (no_ways loops n m counts _ (edges_of (behind (behind next xs) ys) zs) (away_edges m _ zs no_last))
    ∙ append-nil (ways_by loops n m counts (length xs) (edges_of (behind next xs) ys))))))))
  where
    plain : (k : ℕ) → 0 + k ≡ k
    plain k = omega arith

-- what is drawn before and after it, and the ways from there
pub record IsHere (blocks : Blocks) (p : Parts) (body : Body) (i l : ℕ) : Type 0 where
  pub first : List Drawn
  pub rest : List Drawn
  pub split : drawn_all blocks p ≡ first ++ (drawn_at blocks body l ++ rest)
  pub long : length first ≡ i + drawn_before blocks body l
  pub ways : (loops : List Loop) (n : ℕ) (counts : Counts)
      → ways_by loops n (number_in blocks body l) counts 0 (edges_of (text_size blocks p) (drawn_all blocks p))
      ≡ ways_by loops n (number_in blocks body l) counts (length first)
      (edges_of (behind (text_size blocks p) first) (drawn_at blocks body l))

pub is_here : (blocks : Blocks) → AreFitting blocks → (p : Parts) (body : Body) (i l : ℕ) → HasSite blocks p body i
    → l < body.work.parts.locations → IsOpen (end_at body.work.parts l) → IsHere blocks p body i l
is_here blocks fit p body i l found lt opens = record {
  first = found.front ++ below;
  rest = cut.rest ++ found.back;
  split = split;
  long = length-append found.front below ∙ ap (λ (k : ℕ). k + drawn_before blocks body l) found.long;
  ways = λ loops n counts. ap (λ (ds : List Drawn). ways_by loops n m counts 0 (edges_of top ds)) split
      ∙ ways_amid loops n m counts top (found.front ++ below) (drawn_at blocks body l) (cut.rest ++ found.back)
      (all_away m found.front below (all_below m 0 body.start found.front
      (low body.start (before (span blocks) body.work.parts l)) found.site.placed.lower)
      (all_below m body.start m below (omega arith) (below_stands blocks (drawn blocks) body l (inner_stands blocks fit body))))
      (all_away m cut.rest found.back
      (all_above m (number_in blocks body (suc l)) (end_of_body blocks body) cut.rest (open_rises blocks body l opens) cut.later)
      (all_above m (end_of_body blocks body) top found.back
      (less_in blocks body l body.work.parts.locations opens lt) found.site.placed.upper));
}
  where
    top : ℕ
    top = text_size blocks p

    m : ℕ
    m = number_in blocks body l

    below : List Drawn
    below = drawn_below blocks (drawn blocks) body l

    cut : Split blocks (drawn blocks) body l body.work.parts.locations
    cut = body_split blocks fit body l lt

    low : (s b : ℕ) → s ≤ s + b
    low s b = omega arith

    split : drawn_all blocks p ≡ (found.front ++ below) ++ (drawn_at blocks body l ++ (cut.rest ++ found.back))
    split = found.site.placed.is
        ∙ (ap (λ (ds : List Drawn). found.front ++ (ds ++ found.back)) cut.is
        ∙ (ap (λ (ds : List Drawn). found.front ++ ds) (append_assoc below (drawn_at blocks body l ++ cut.rest) found.back
        ∙ ap (λ (ds : List Drawn). below ++ ds) (append_assoc (drawn_at blocks body l) cut.rest found.back))
        ∙ sym (append_assoc found.front below (drawn_at blocks body l ++ (cut.rest ++ found.back)))))

-- ---- one number

pub one_number : (blocks : Blocks) (body : Body) (l m : ℕ) → IsOpen (end_at body.work.parts l) → IsOpen (end_at body.work.parts m)
    → number_in blocks body l ≡ number_in blocks body m → l ≡ m
one_number blocks body l m free open_m e = by (cases_lt l m) (cases_lt m l)
  where
    never : (a b : ℕ) → a < b → a ≡ b → ⊥
    never a b h g = omega (arith, h, g)

    by : (l < m) ⊎ (m ≤ l) → (m < l) ⊎ (l ≤ m) → l ≡ m
    by (inl lt) side = absurd (never (number_in blocks body l) (number_in blocks body m) (less_in blocks body l m free lt) e)
    by (inr ge) (inl lt) = absurd (never (number_in blocks body m) (number_in blocks body l) (less_in blocks body m l open_m lt) (sym e))
    by (inr ge) (inr le) = omega (arith, ge, le)

-- where a block is done
pub done_there : (p : Parts) (l : ℕ) → end_at p l ≡ Some done → (p.done == l) ≡ true
done_there p l e = by (p.done == l) e
  where
    others : (o : Option End) → trap_at l p.traps ≡ o → or_else o (over_at l p.overs) ≡ Some done → ⊥
    others None f g = over_not_done l p.overs g
    others (Some end) f g = trap_not_done l p.traps (f ∙ g)

    by : (b : Bool) → cond b (Some done) (or_else (trap_at l p.traps) (over_at l p.overs)) ≡ Some done → b ≡ true
    by true h = refl
    by false h = absurd (others (trap_at l p.traps) refl h)

-- ---- turns of an own edge

-- two edges of a block whose copies have one number
one_turn_number : (blocks : Blocks) (body : Body) → IsSound body.work.parts → (i e f : ℕ) (x y : Edge) → slice_get body.work.parts.edges e
    ≡ Some x
    → slice_get body.work.parts.edges f ≡ Some y → turn_number blocks body i f ≡ turn_number blocks body i e → f ≡ e
one_turn_number blocks body s i e f x y at there same =
    one_rank x.from f e p.edges y x there (eq-eqb y.from x.from from_same) at (eq-eqb x.from x.from refl) same_rank
  where
    p : Parts
    p = body.work.parts

    of_e : HasNumber blocks body i e x
    of_e = has_number blocks body s i e x at

    of_f : HasNumber blocks body i f y
    of_f = has_number blocks body s i f y there

    peeled : (k j : ℕ) → i + k ≡ i + j → k ≡ j
    peeled k j g = omega (arith, g)

    sums : drawn_before blocks body y.from + rank p.edges y.from f ≡ drawn_before blocks body x.from + rank p.edges x.from e
    sums = peeled (drawn_before blocks body y.from + rank p.edges y.from f) (drawn_before blocks body x.from + rank p.edges x.from e)
        (sym of_f.is ∙ (same ∙ of_e.is))

    from_same : y.from ≡ x.from
    from_same = one_location blocks body y.from (rank p.edges y.from f) x.from (rank p.edges x.from e) of_f.small of_e.small sums

    same_rank : rank p.edges x.from f ≡ rank p.edges x.from e
    same_rank = peeled_after (drawn_before blocks body x.from) (rank p.edges x.from f) (rank p.edges x.from e)
        (subst (λ (m : ℕ). drawn_before blocks body m + rank p.edges m f
        ≡ drawn_before blocks body x.from + rank p.edges x.from e) from_same sums)
      where
        peeled_after : (k r t : ℕ) → k + r ≡ k + t → r ≡ t
        peeled_after k r t g = omega (arith, g)

pub turn_copied : (blocks : Blocks) (body : Body) → IsSound body.work.parts → (i e f : ℕ) (edge : Edge) → slice_get body.work.parts.edges e
    ≡ Some edge
    → f ≡ i + (drawn_before blocks body edge.from + rank body.work.parts.edges edge.from e) → (loop : Loop) → IsGoodLoop blocks body loop
    → is_turn (drawn_loop blocks body i loop) f ≡ is_turn loop e
turn_copied blocks body s i e f edge at is loop good = same_turns blocks body i f e loop.turns good.turns here
    (λ g x there same. one_turn_number blocks body s i e g edge x at there (same ∙ sym here))
  where
    here : turn_number blocks body i e ≡ f
    here = (has_number blocks body s i e edge at).is ∙ sym is
