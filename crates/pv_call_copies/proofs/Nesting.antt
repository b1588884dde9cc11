-- Runs with calls are runs of nests. By induction on how a run comes to its outcome: whoever waits for the block at work, the run of the
-- nest comes to where the block is done, with the same valuation, and goes on from there as any other does; or it ends as the block.
use Rattle.std.proofs.Common.{◌≡◌, ℕ, suc, ◌+◌, Bool, true, false, List, [], ◌∷◌, map, Option, Some, None, refl, sym, subst, ap, ◌∙◌, arith}
use Rattle.std.proofs.lemmas.Option.{same_Some, none-some}
use Rattle.pv_flow.specs.Terms.{Valuation, holds_in}
use Rattle.pv_flow.specs.Automata.{Parts}
use Rattle.pv_flow.specs.Runs.{End, done, trap, over, Outcome, done_with, trapped, gone_over, Way, Control, assigned, taken, ended, ended_or, run, Spot, exit_of, ways_of, first_spot}
use Rattle.pv_flow.specs.Calls.{Blocks, block_at, Work, entry_work, Numbered, call_of, callee_work, cleared, seen, assigned_in, back_at, Stage, running, finished, returned, ComesTo, stays, ends, goes, calls, EndsAs}
use Rattle.pv_call_copies.specs.Nests.{Waiting, Nest, exit_by, way_within, waiting, way_in, way_out, ways_in, ways_on, ways_by_end, nests_control, first_nest}
use Rattle.pv_call_copies.proofs.Renaming.{holds_renamed, assigned_renamed, resets_clear}

abbrev pub nest : Work → Spot → List Waiting → Nest
nest k x callers = record { work = k; spot = x; callers = callers }

abbrev pub nest_run : Blocks → ℕ → ℕ → Work → Spot → List Waiting → Valuation → Option Outcome
nest_run blocks n steps k x callers w = run (nests_control blocks n) steps (nest k x callers) w

-- ---- one way

onward : {X : Type 0} (end : Option End) (t : Option (Way X)) (way : Way X) (w : Valuation) (next : Way X → Option Outcome)
    → end ≡ None → t ≡ Some way → ended_or end t w next ≡ next way
onward None None way w next e f = absurd (none-some way f)
onward None (Some other) way w next e f = ap next (same_Some other way f)
onward (Some end) t way w next e f = absurd (none-some end (sym e))

one_way : {X : Type 0} (c : Control X) (x : X) (w : Valuation) (way : Way X) (more : ℕ) → c.exit x ≡ None → taken w (c.ways x) ≡ Some way
    → run c (suc more) x w ≡ run c more way.to (assigned way.sets w)
one_way c x w way more none takes =
    onward (c.exit x) (taken w (c.ways x)) way w (λ t. run c more t.to (assigned t.sets w)) none takes

-- the ways of a nest, by what its spot ends and by the call edge there
pub ways_are : (blocks : Blocks) (n : ℕ) (k : Work) (x : Spot) (callers : List Waiting) (c : Option Numbered)
    → exit_of k.parts x ≡ None → call_of k.parts x ≡ c
    → (nests_control blocks n).ways (nest k x callers) ≡ ways_on blocks n k x callers c
ways_are blocks n k x callers c none call =
    ap (λ (end : Option End). ways_by_end blocks n k x callers end) none ∙ ap (λ (o : Option Numbered). ways_on blocks n k x callers o) call

no_exit : (k : Work) (x : Spot) (callers : List Waiting) → exit_of k.parts x ≡ None → exit_by (exit_of k.parts x) callers ≡ None
no_exit k x callers none = ap (λ (end : Option End). exit_by end callers) none

-- the renamed way of the way that the block takes
taken_within : (k : Work) (callers : List Waiting) (w : Valuation) (ways : List (Way Spot)) (way : Way Spot) → taken (seen k w) ways ≡ Some way
    → taken w (map (way_within k callers) ways) ≡ Some (way_within k callers way)
taken_within k callers w [] way e = absurd (none-some way e)
taken_within k callers w (first ∷ ways) way e =
    by (holds_in (seen k w) first.guard) (holds_in w (way_within k callers first).guard) (holds_renamed k w first.guard) e
    (λ f. taken_within k callers w ways way f)
  where
    both : (s : Bool) → elim s [ true ↦ Some first | false ↦ taken (seen k w) ways ] ≡ Some way
        → (taken (seen k w) ways ≡ Some way → taken w (map (way_within k callers) ways) ≡ Some (way_within k callers way))
        → elim s [ true ↦ Some (way_within k callers first) | false ↦ taken w (map (way_within k callers) ways) ] ≡ Some (way_within k callers way)
    both true f go = ap (λ (v : Way Spot). Some (way_within k callers v)) (same_Some first way f)
    both false f go = go f

    by : (s t : Bool) → t ≡ s → elim s [ true ↦ Some first | false ↦ taken (seen k w) ways ] ≡ Some way
        → (taken (seen k w) ways ≡ Some way → taken w (map (way_within k callers) ways) ≡ Some (way_within k callers way))
        → elim t [ true ↦ Some (way_within k callers first) | false ↦ taken w (map (way_within k callers) ways) ] ≡ Some (way_within k callers way)
    by s t same f go = subst (λ (u : Bool). elim u [
      | true ↦ Some (way_within k callers first)
      | false ↦ taken w (map (way_within k callers) ways)
    ] ≡ Some (way_within k callers way)) (sym same) (both s f go)

-- a way of the block at work
goes_on : (blocks : Blocks) (n : ℕ) (k : Work) (x : Spot) (callers : List Waiting) (w : Valuation) (way : Way Spot) (more : ℕ)
    → exit_of k.parts x ≡ None → call_of k.parts x ≡ None → taken (seen k w) (ways_of k.parts n x) ≡ Some way
    → nest_run blocks n (suc more) k x callers w ≡ nest_run blocks n more k way.to callers (assigned_in k way.sets w)
goes_on blocks n k x callers w way more none no_call takes =
    one_way (nests_control blocks n) (nest k x callers) w (way_within k callers way) more (no_exit k x callers none)
    (ap (λ (ways : List (Way Nest)). taken w ways) (ways_are blocks n k x callers None none no_call)
    ∙ taken_within k callers w (ways_of k.parts n x) way takes)
    ∙ ap (λ (u : Valuation). nest_run blocks n more k way.to callers u) (assigned_renamed k way.sets w)

-- the way into a called block
goes_in : (blocks : Blocks) (n : ℕ) (k : Work) (x : Spot) (callers : List Waiting) (w : Valuation) (c : Numbered) (p : Parts) (more : ℕ)
    → exit_of k.parts x ≡ None → call_of k.parts x ≡ Some c → block_at blocks c.call.block ≡ Some p
    → nest_run blocks n (suc more) k x callers w
    ≡ nest_run blocks n more (callee_work blocks k c p) (first_spot p) (waiting k c.call x ∷ callers) (cleared (callee_work blocks k c p) w)
goes_in blocks n k x callers w c p more none call block =
    one_way (nests_control blocks n) (nest k x callers) w (way_in (callee_work blocks k c p) (waiting k c.call x) callers) more
    (no_exit k x callers none)
    (ap (λ (ways : List (Way Nest)). taken w ways)
    (ways_are blocks n k x callers (Some c) none call ∙ ap (λ (o : Option Parts). ways_in blocks k x callers c o) block))
    ∙ ap (λ (u : Valuation). nest_run blocks n more (callee_work blocks k c p) (first_spot p) (waiting k c.call x ∷ callers) u)
    (resets_clear (callee_work blocks k c p) w)

-- the way out of one that is done
goes_out : (blocks : Blocks) (n : ℕ) (k : Work) (x : Spot) (caller : Waiting) (callers : List Waiting) (w : Valuation) (more : ℕ)
    → exit_of k.parts x ≡ Some done
    → nest_run blocks n (suc more) k x (caller ∷ callers) w
    ≡ nest_run blocks n more caller.work (back_at caller.work.parts.loops caller.call caller.spot) callers w
goes_out blocks n k x caller callers w more is_done =
    one_way (nests_control blocks n) (nest k x (caller ∷ callers)) w (way_out caller callers) more
    (ap (λ (end : Option End). exit_by end (caller ∷ callers)) is_done)
    (ap (λ (end : Option End). taken w (ways_by_end blocks n k x (caller ∷ callers) end)) is_done)

-- ---- runs

-- the run of the nest comes to where the block at work is done, with this valuation
pub record IsDone (blocks : Blocks) (n : ℕ) (k : Work) (x : Spot) (callers : List Waiting) (w end : Valuation) : Type 0 where
  pub steps : ℕ
  pub spot : Spot
  pub exits : exit_of k.parts spot ≡ Some done
  pub runs : (more : ℕ) → nest_run blocks n (steps + more) k x callers w ≡ nest_run blocks n more k spot callers end

-- it ends
pub record IsStopped (blocks : Blocks) (n : ℕ) (k : Work) (x : Spot) (callers : List Waiting) (w : Valuation) (out : Outcome) : Type 0 where
  pub steps : ℕ
  pub runs : nest_run blocks n steps k x callers w ≡ Some out

abbrev pub Comes : Blocks → ℕ → Work → Spot → List Waiting → Valuation → Outcome → Type 0
Comes blocks n k x callers w (done_with end) = IsDone blocks n k x callers w end
Comes blocks n k x callers w (trapped kind place) = IsStopped blocks n k x callers w (trapped kind place)
Comes blocks n k x callers w (gone_over place) = IsStopped blocks n k x callers w (gone_over place)

-- what comes to an outcome after so many ways of the same block comes to it
come_after : (blocks : Blocks) (n : ℕ) (k : Work) (x y : Spot) (callers : List Waiting) (w v : Valuation) (first : ℕ) (out : Outcome)
    → ((more : ℕ) → nest_run blocks n (first + more) k x callers w ≡ nest_run blocks n more k y callers v)
    → Comes blocks n k y callers v out → Comes blocks n k x callers w out
come_after blocks n k x y callers w v first (done_with end) leads h = record {
  steps = first + h.steps;
  spot = h.spot;
  exits = h.exits;
  runs = λ more. ap (λ (steps : ℕ). nest_run blocks n steps k x callers w) (grouped first h.steps more) ∙ (leads (h.steps + more) ∙ h.runs more);
}
  where
    grouped : (a b c : ℕ) → (a + b) + c ≡ a + (b + c)
    grouped a b c = omega arith
come_after blocks n k x y callers w v first (trapped kind place) leads h = record { steps = first + h.steps; runs = leads h.steps ∙ h.runs }
come_after blocks n k x y callers w v first (gone_over place) leads h = record { steps = first + h.steps; runs = leads h.steps ∙ h.runs }

-- where the run stands at an end
come_here : (blocks : Blocks) (n : ℕ) (k : Work) (x : Spot) (callers : List Waiting) (w : Valuation) (end : Option End) (out : Outcome)
    → exit_of k.parts x ≡ end → ended end w ≡ Some out → Comes blocks n k x callers w out
come_here blocks n k x callers w None out e f = absurd (none-some out f)
come_here blocks n k x callers w (Some done) out e f =
    subst (λ (o : Outcome). Comes blocks n k x callers w o) (same_Some (done_with w) out f)
    (record { steps = 0; spot = x; exits = e; runs = λ more. ap (λ (steps : ℕ). nest_run blocks n steps k x callers w) (none_more more) })
  where
    none_more : (m : ℕ) → 0 + m ≡ m
    none_more m = omega arith
come_here blocks n k x callers w (Some (trap kind place)) out e f =
    subst (λ (o : Outcome). Comes blocks n k x callers w o) (same_Some (trapped kind place) out f)
    (record { steps = 0; runs = ap (λ (end : Option End). ended (exit_by end callers) w) e })
come_here blocks n k x callers w (Some (over place)) out e f =
    subst (λ (o : Outcome). Comes blocks n k x callers w o) (same_Some (gone_over place) out f)
    (record { steps = 0; runs = ap (λ (end : Option End). ended (exit_by end callers) w) e })

-- from a stage of the block at work
abbrev pub ComesFrom : Blocks → ℕ → Work → List Waiting → Stage → Outcome → Type 0
ComesFrom blocks n k callers (running x w) out = Comes blocks n k x callers w out
ComesFrom blocks n k callers (finished end) out = end ≡ out

-- a call, by the outcome of the called block's run
come_through : (blocks : Blocks) (n : ℕ) (k : Work) (x : Spot) (callers : List Waiting) (w : Valuation) (c : Numbered) (p : Parts)
    (middle out : Outcome) → exit_of k.parts x ≡ None → call_of k.parts x ≡ Some c → block_at blocks c.call.block ≡ Some p
    → Comes blocks n (callee_work blocks k c p) (first_spot p) (waiting k c.call x ∷ callers) (cleared (callee_work blocks k c p) w) middle
    → ComesFrom blocks n k callers (returned k.parts.loops c.call x middle) out → Comes blocks n k x callers w out
come_through blocks n k x callers w c p (done_with end) out none call block inside after =
    come_after blocks n k x (back_at k.parts.loops c.call x) callers w end (suc (inside.steps + 1)) out leads after
  where
    callee : Work
    callee = callee_work blocks k c p

    grouped : (a b : ℕ) → suc (a + 1) + b ≡ suc (a + suc b)
    grouped a b = omega arith

    leads : (more : ℕ) → nest_run blocks n (suc (inside.steps + 1) + more) k x callers w
        ≡ nest_run blocks n more k (back_at k.parts.loops c.call x) callers end
    leads more = ap (λ (steps : ℕ). nest_run blocks n steps k x callers w) (grouped inside.steps more)
        ∙ (goes_in blocks n k x callers w c p (inside.steps + suc more) none call block
        ∙ (inside.runs (suc more)
        ∙ goes_out blocks n callee inside.spot (waiting k c.call x) callers end more inside.exits))
come_through blocks n k x callers w c p (trapped kind place) out none call block inside after =
    subst (λ (o : Outcome). Comes blocks n k x callers w o) after
    (record { steps = suc inside.steps; runs = goes_in blocks n k x callers w c p inside.steps none call block ∙ inside.runs })
come_through blocks n k x callers w c p (gone_over place) out none call block inside after =
    subst (λ (o : Outcome). Comes blocks n k x callers w o) after
    (record { steps = suc inside.steps; runs = goes_in blocks n k x callers w c p inside.steps none call block ∙ inside.runs })

one_more : (n : ℕ) → 1 + n ≡ suc n
one_more n = omega arith

pub comes_as_nest : (blocks : Blocks) (n : ℕ) (k : Work) (s : Stage) (out : Outcome) → ComesTo blocks n k s out
    → (callers : List Waiting) → ComesFrom blocks n k callers s out
comes_as_nest blocks n k (finished end) out (stays e) callers = e
comes_as_nest blocks n k (running x w) out (ends e) callers = come_here blocks n k x callers w (exit_of k.parts x) out refl e
comes_as_nest blocks n k (running x w) out (goes way none no_call takes after) callers =
    come_after blocks n k x way.to callers w (assigned_in k way.sets w) 1 out
    (λ more. ap (λ (steps : ℕ). nest_run blocks n steps k x callers w) (one_more more) ∙ goes_on blocks n k x callers w way more none no_call takes)
    (comes_as_nest blocks n k (running way.to (assigned_in k way.sets w)) out after callers)
comes_as_nest blocks n k (running x w) out (calls c p middle none call block inside after) callers =
    come_through blocks n k x callers w c p middle out none call block
    (comes_as_nest blocks n (callee_work blocks k c p) (running (first_spot p) (cleared (callee_work blocks k c p) w)) middle inside
    (waiting k c.call x ∷ callers))
    (comes_as_nest blocks n k (returned k.parts.loops c.call x middle) out after callers)

-- ---- the entry's

stops : (blocks : Blocks) (n : ℕ) (k : Work) (x : Spot) (w : Valuation) (out : Outcome) → Comes blocks n k x [] w out
    → (steps : ℕ) × (nest_run blocks n steps k x [] w ≡ Some out)
stops blocks n k x w (done_with end) h =
    (h.steps + 0, h.runs 0 ∙ ap (λ (e : Option End). ended (exit_by e []) end) h.exits)
stops blocks n k x w (trapped kind place) h = (h.steps, h.runs)
stops blocks n k x w (gone_over place) h = (h.steps, h.runs)

pub calls_are_nests : (blocks : Blocks) (n : ℕ) (p : Parts) (w : Valuation) (out : Outcome) → EndsAs blocks n p w out
    → (steps : ℕ) × (run (nests_control blocks n) steps (first_nest p) w ≡ Some out)
calls_are_nests blocks n p w out h =
    stops blocks n (entry_work p) (first_spot p) w out (comes_as_nest blocks n (entry_work p) (running (first_spot p) w) out h [])
