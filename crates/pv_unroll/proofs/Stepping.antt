-- The loops of the code that lays the text: what one turn of each does to what is left to do.
use Rattle.std.proofs.Common.{◌≡◌, ℕ, zero, suc, ◌+◌, ◌-◌, ◌<◌, ◌≤◌, List, [], ◌∷◌, length, map, drop, slice_get, Bool, true, false, ◌==◌, nat_lt, cond, Option, Some, None, refl, sym, ap, ◌∙◌, arith}
use Rattle.std.specs.Prelude.{slice_index_or}
use Rattle.std.proofs.lemmas.Bool.{both_ways, le-leb, lt-leb}
use Rattle.std.proofs.lemmas.List.{length-take-le}
use Rattle.pv_flow.specs.declared.parts.Edge.{Edge as CodeEdge}
use Rattle.pv_flow.specs.declared.parts.Loop.{Loop as CodeLoop}
use Rattle.pv_flow.specs.Automata.{Loop}
use Rattle.pv_flow.specs.View.{loop_of}
use Rattle.pv_unroll.specs.declared.lead.Open.{Open}
use Rattle.pv_unroll.specs.Chains.{Chains, chained, chained_by, all_chained}
use Rattle.pv_unroll.specs.Leading.{Table}
use Rattle.pv_unroll.specs.Laying.{Laid, one_laid, edges_laid}
use Rattle.pv_unroll.specs.Walking.{Walk, State, top, entered, entered_at, if_ends, last_ending, turned_on, back_to, popped, last_laid, past_location, turned_walk, goes_back, after_turn, ended_by, ended_walk, stepped, walked_from}
use Rattle.pv_unroll.proofs.Firsts.{none_is}
use Rattle.pv_unroll.proofs.Sized.{drop_at}

-- ---- loops are entered

pub entered_stop : (at n : ℕ) (xs : List CodeLoop) (loop : CodeLoop) (w : Walk) → n < length xs → slice_index_or xs n loop ≡ loop
    → at ≡ w.at → (loop.first == at) ≡ false → entered_at (drop n (map loop_of xs)) w ≡ w
entered_stop at n xs loop w lt stands same off = ap (λ (ls : List Loop). entered_at ls w) (drop_at n xs loop lt stands)
    ∙ ap (λ (m : ℕ). cond (loop.first == m) (entered_at (drop (suc n) (map loop_of xs)) (entered w)) w) (sym same)
    ∙ ap (λ (t : Bool). cond t (entered_at (drop (suc n) (map loop_of xs)) (entered w)) w) off

pub entered_more : (at n : ℕ) (xs : List CodeLoop) (loop : CodeLoop) (w : Walk) → n < length xs → slice_index_or xs n loop ≡ loop
    → at ≡ w.at → (loop.first == at) ≡ true → entered_at (drop n (map loop_of xs)) w ≡ entered_at (drop (suc n) (map loop_of xs)) (entered w)
entered_more at n xs loop w lt stands same on = ap (λ (ls : List Loop). entered_at ls w) (drop_at n xs loop lt stands)
    ∙ ap (λ (m : ℕ). cond (loop.first == m) (entered_at (drop (suc n) (map loop_of xs)) (entered w)) w) (sym same)
    ∙ ap (λ (t : Bool). cond t (entered_at (drop (suc n) (map loop_of xs)) (entered w)) w) on

-- ---- loops are turned in, or left

some_top : (t : Table) (w : Walk) (last : Open) (o : Option Open) → o ≡ last_ending t.loops w → o ≡ Some last → 0 < length w.nest
some_top t w last o same found = by w.nest (sym same ∙ found)
  where
    by : (xs : List Open) → if_ends t.loops w.at (top xs) ≡ Some last → 0 < length xs
    by [] e = absurd (none_is last e)
    by (x ∷ xs) e = omega arith

one_turn : (t : Table) (s : State) (last : Open) (o : Option Open) → o ≡ last_ending t.loops s.walk → o ≡ Some last
    → ended_walk t (length s.walk.nest) s
    ≡ turned_walk t (slice_get t.loops last.range) (turned_on last) (popped s) (λ next. ended_walk t (length s.walk.nest - 1) next)
one_turn t s last o same found =
    ap (λ (m : ℕ). ended_walk t m s) more
    ∙ ap (λ (p : Option Open). ended_by t p s (λ next. ended_walk t (length s.walk.nest - 1) next)) (sym same ∙ found)
  where
    more : length s.walk.nest ≡ suc (length s.walk.nest - 1)
    more = let h = some_top t s.walk last o same found in omega (arith, h)

by_turn : (t : Table) (o : Option Loop) (last : Open) (s : State) (further : State → State)
    → turned_walk t o last s further ≡ cond (goes_back t o last) (after_turn t o last s) (further (after_turn t o last s))
by_turn t None last s further = refl
by_turn t (Some loop) last s further = by (nat_lt last.turn t.bound)
  where
    back : State
    back = record { walk = back_to loop last s.walk; laid = s.laid }

    left : State
    left = record { walk = s.walk; laid = last_laid t loop last s.walk.nest s.laid }

    by : (b : Bool) → cond b back (further left) ≡ cond b (cond b back left) (further (cond b back left))
    by true = refl
    by false = refl

pub turned_back : (t : Table) (s next start : State) (last : Open) (o : Option Open) (back : Bool) → o ≡ last_ending t.loops s.walk → o ≡ Some last
    → back ≡ goes_back t (slice_get t.loops last.range) (turned_on last)
    → next ≡ after_turn t (slice_get t.loops last.range) (turned_on last) (popped s) → back ≡ true
    → ended_walk t (length s.walk.nest) s ≡ start → next ≡ start
turned_back t s next start last o back same found is after on left =
    after
    ∙ ap (λ (b : Bool). cond b (after_turn t (slice_get t.loops last.range) (turned_on last) (popped s))
    (ended_walk t (length s.walk.nest - 1) (after_turn t (slice_get t.loops last.range) (turned_on last) (popped s)))) (sym (sym is ∙ on))
    ∙ sym (by_turn t (slice_get t.loops last.range) (turned_on last) (popped s) (λ next. ended_walk t (length s.walk.nest - 1) next))
    ∙ sym (one_turn t s last o same found) ∙ left

abbrev nest_of : State → List Open
nest_of s = s.walk.nest

nest_left : (t : Table) (o : Option Loop) (last : Open) (s : State) → goes_back t o last ≡ false → (after_turn t o last s).walk.nest ≡ s.walk.nest
nest_left t None last s off = absurd (both_ways true off refl)
nest_left t (Some loop) last s off = ap (λ (b : Bool). nest_of (cond b back left)) off
  where
    back : State
    back = record { walk = back_to loop last s.walk; laid = s.laid }

    left : State
    left = record { walk = s.walk; laid = last_laid t loop last s.walk.nest s.laid }

left_length : (t : Table) (s next : State) (last : Open) (back : Bool)
    → back ≡ goes_back t (slice_get t.loops last.range) (turned_on last)
    → next ≡ after_turn t (slice_get t.loops last.range) (turned_on last) (popped s) → back ≡ false
    → length next.walk.nest ≡ length s.walk.nest - 1
left_length t s next last back is after off =
    ap (λ (r : State). length r.walk.nest) after
    ∙ ap (λ (xs : List Open). length xs) (nest_left t (slice_get t.loops last.range) (turned_on last) (popped s) (sym is ∙ off))
    ∙ length-take-le (length s.walk.nest - 1) s.walk.nest (omega arith)

pub turned_less : (t : Table) (s next : State) (last : Open) (o : Option Open) (back : Bool) → o ≡ last_ending t.loops s.walk → o ≡ Some last
    → back ≡ goes_back t (slice_get t.loops last.range) (turned_on last)
    → next ≡ after_turn t (slice_get t.loops last.range) (turned_on last) (popped s) → back ≡ false
    → length next.walk.nest < length s.walk.nest
turned_less t s next last o back same found is after off =
    let h = some_top t s.walk last o same found in let l = left_length t s next last back is after off in omega (arith, h, l)

pub turned_on_left : (t : Table) (s next start : State) (last : Open) (o : Option Open) (back : Bool) → o ≡ last_ending t.loops s.walk → o ≡ Some last
    → back ≡ goes_back t (slice_get t.loops last.range) (turned_on last)
    → next ≡ after_turn t (slice_get t.loops last.range) (turned_on last) (popped s) → back ≡ false
    → ended_walk t (length s.walk.nest) s ≡ start → ended_walk t (length next.walk.nest) next ≡ start
turned_on_left t s next start last o back same found is after off left =
    ap (λ (m : ℕ). ended_walk t m next) (left_length t s next last back is after off)
    ∙ ap (λ (r : State). ended_walk t (length s.walk.nest - 1) r) after
    ∙ ap (λ (b : Bool). cond b (after_turn t (slice_get t.loops last.range) (turned_on last) (popped s))
    (ended_walk t (length s.walk.nest - 1) (after_turn t (slice_get t.loops last.range) (turned_on last) (popped s)))) (sym (sym is ∙ off))
    ∙ sym (by_turn t (slice_get t.loops last.range) (turned_on last) (popped s) (λ next. ended_walk t (length s.walk.nest - 1) next))
    ∙ sym (one_turn t s last o same found) ∙ left

pub nothing_turns : (t : Table) (s start : State) (o : Option Open) → o ≡ last_ending t.loops s.walk → o ≡ None
    → ended_walk t (length s.walk.nest) s ≡ start → past_location s ≡ start
nothing_turns t s start o same none left = sym (by (length s.walk.nest)) ∙ left
  where
    by : (most : ℕ) → ended_walk t most s ≡ past_location s
    by zero = refl
    by (suc most) = ap (λ (p : Option Open). ended_by t p s (λ next. ended_walk t most next)) (sym same ∙ none)

-- ---- edges of a chain

pub edges_step : (t : Table) (nest : List Open) (n counter left more number : ℕ) (s next start : Laid) → counter < n → (left ≡ 0 → ⊥)
    → number ≡ left - 1 → next ≡ one_laid t nest number s → more ≡ slice_index_or t.nexts number 0
    → edges_laid t nest (n - counter) left s ≡ start → edges_laid t nest (n - (counter + 1)) more next ≡ start
edges_step t nest n counter left more number s next start lt some same laid after whole =
    ap (λ (m : ℕ). edges_laid t nest (n - (counter + 1)) m next) after
    ∙ ap (λ (r : Laid). edges_laid t nest (n - (counter + 1)) (slice_index_or t.nexts number 0) r) laid
    ∙ ap (λ (k : ℕ). edges_laid t nest (n - (counter + 1)) (slice_index_or t.nexts k 0) (one_laid t nest k s)) same
    ∙ sym (ap (λ (m : ℕ). edges_laid t nest m left s) further ∙ ap (λ (m : ℕ). edges_laid t nest (suc (n - (counter + 1))) m s) (head left some))
    ∙ whole
  where
    further : n - counter ≡ suc (n - (counter + 1))
    further = omega (arith, lt)

    head : (m : ℕ) → (m ≡ 0 → ⊥) → m ≡ suc (m - 1)
    head zero h = absurd (h refl)
    head (suc m) h = omega arith

-- ---- locations

abbrev laid_of : State → Laid
laid_of s = s.laid

pub walk_stops : (t : Table) (n : ℕ) (s : State) (start : Laid) → t.locations ≤ s.walk.at → (walked_from t n s).laid ≡ start → s.laid ≡ start
walk_stops t zero s start le whole = whole
walk_stops t (suc n) s start le whole =
    sym (ap (λ (b : Bool). laid_of (cond b s (walked_from t n (stepped t s)))) (le-leb t.locations s.walk.at le)) ∙ whole

pub walk_steps : (t : Table) (n counter : ℕ) (s next : State) (start : Laid) → counter < n → s.walk.at < t.locations → next ≡ stepped t s
    → (walked_from t (n - counter) s).laid ≡ start → (walked_from t (n - (counter + 1)) next).laid ≡ start
walk_steps t n counter s next start lt low step whole =
    ap (λ (r : State). laid_of (walked_from t (n - (counter + 1)) r)) step
    ∙ sym (ap (λ (m : ℕ). laid_of (walked_from t m s)) further
    ∙ ap (λ (b : Bool). laid_of (cond b s (walked_from t (n - (counter + 1)) (stepped t s)))) (lt-leb t.locations s.walk.at low))
    ∙ whole
  where
    further : n - counter ≡ suc (n - (counter + 1))
    further = omega (arith, lt)

-- ---- chains

put_before : (m e : ℕ) (edges : List CodeEdge) (s base : Chains) → m < length edges → s ≡ all_chained (suc e) (drop (suc m) edges) base
    → chained_by e (slice_get edges m) s ≡ all_chained e (drop m edges) base
put_before m e [] s base lt is = absurd (omega (arith, lt))
put_before zero e (edge ∷ edges) s base lt is = ap (λ (c : Chains). chained e edge.from c) is
put_before (suc m) e (edge ∷ edges) s base lt is = put_before m e edges s base (omega (arith, lt)) is

pub chain_step : (n : ℕ) (edges : List CodeEdge) (s next base : Chains) → 0 < n → n ≤ length edges
    → next ≡ chained_by (n - 1) (slice_get edges (n - 1)) s → s ≡ all_chained n (drop n edges) base
    → next ≡ all_chained (n - 1) (drop (n - 1) edges) base
chain_step n edges s next base some within put is =
    put ∙ put_before (n - 1) (n - 1) edges s base (omega (arith, some, within)) (is ∙ ap (λ (k : ℕ). all_chained k (drop k edges) base) same)
  where
    same : n ≡ suc (n - 1)
    same = omega (arith, some)
