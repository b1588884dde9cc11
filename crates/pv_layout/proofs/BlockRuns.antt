-- Blocks as flows: each block's automaton ends as its flow, what a call does being what the called block's flow does one level down. By
-- induction on the levels, of which there are no more than blocks where no block calls itself.
use Rattle.std.proofs.Common.{◌≡◌, ℕ, zero, suc, ◌+◌, ◌<◌, ◌≤◌, List, [], ◌∷◌, length, slice_get, true, ◌==◌, MatchOption, Option, Some, None, IfSome, All, refl, sym, subst, ap, ◌∙◌, arith}
use Rattle.std.specs.List.{AllByRecursion, list_any}
use Rattle.std.proofs.lemmas.Bool.{eq-eqb, or_left, or_right}
use Rattle.std.proofs.lemmas.List.{length-map}
use Rattle.std.proofs.lemmas.List.Elements.{recursion_from_All}
use Rattle.std.proofs.lemmas.Option.{same_Some, none-some}
use Rattle.pv_flow.specs.Terms.{Valuation}
use Rattle.pv_flow.specs.Automata.{CallEdge, Parts}
use Rattle.pv_flow.specs.Runs.{Outcome, done_with, Counts, at, entered, first_spot}
use Rattle.pv_flow.specs.Calls.{block_at, Work, entry_work, numbered, callee_work, cleared, running, ComesTo, EndsAs}
use Rattle.pv_flow.specs.Fitting.{FitsIn, IsFit, runs_in, runs_block, AreFitting}
use Rattle.pv_flow.proofs.ForCallers.{deep}
use Rattle.pv_layout.specs.Spots.{Act, Branch, way}
use Rattle.pv_layout.specs.Flows.{Leaving, by_exit, by_continue, by_return, Flow, act, enter, leave, then_, if_, choice, while_, for_, repeat_}
use Rattle.pv_layout.specs.Layout.{width, loops_in, Exits, exit_by, before, in_loop, to_done, spots_of, loops_of, text_of, marks_of}
use Rattle.pv_layout.specs.Bodies.{Body, Bodies, laid, laid_or, blocks_of, body_at, call_edge, setting_of, called_within, run_body}
use Rattle.pv_layout.specs.Sound.{LeadsWithin, LeadWithin}
use Rattle.pv_layout.specs.Correct.{IsCall, AreCalls}
use Rattle.pv_layout.proofs.Lists.{for_some, some_at, all_append}
use Rattle.pv_layout.proofs.Laying.{length_spots}
use Rattle.pv_layout.proofs.Marks.{same_entered}
use Rattle.pv_layout.proofs.PartRuns.{parts_run}
use Rattle.pv_layout.proofs.Whole.{whole_reaches}

-- ---- ways lead within

record ExitsWithin (d : ℕ) (to : Exits) : Type 0 where
  next : to.next ≤ d
  on_exit : to.on_exit ≤ d
  on_continue : to.on_continue ≤ d
  on_return : to.on_return ≤ d

leave_within : (d : ℕ) (which : Leaving) (to : Exits) → ExitsWithin d to → exit_by which to ≤ d
leave_within d by_exit to in_d = in_d.on_exit
leave_within d by_continue to in_d = in_d.on_continue
leave_within d by_return to in_d = in_d.on_return

before_within : (d n : ℕ) (to : Exits) → n ≤ d → ExitsWithin d to → ExitsWithin d (before n to)
before_within d n to le w = record { next = le; on_exit = w.on_exit; on_continue = w.on_continue; on_return = w.on_return }

loop_within : (d n : ℕ) (to : Exits) → n ≤ d → ExitsWithin d to → ExitsWithin d (in_loop n to)
loop_within d n to le w = record { next = le; on_exit = w.next; on_continue = le; on_return = w.on_return }

spots_lead : (d : ℕ) (f : Flow) (a i : ℕ) (to : Exits) → a + width f ≤ d → ExitsWithin d to
    → AllByRecursion (LeadsWithin d) (spots_of f a i to)
spots_lead d (act checks sets) a i to le w = (w.next, tt)
spots_lead d (enter block instance place) a i to le w = (w.next, tt)
spots_lead d (leave which) a i to le w = (leave_within d which to w, tt)
spots_lead d (then_ f g) a i to le w =
    all_append (LeadsWithin d) (spots_of f a i (before (a + width f) to)) (spots_of g (a + width f) (i + loops_in f) to)
    (spots_lead d f a i (before (a + width f) to) (omega (arith, le)) (before_within d (a + width f) to (omega (arith, le)) w))
    (spots_lead d g (a + width f) (i + loops_in f) to (omega (arith, le)) w)
spots_lead d (if_ checks c f) a i to le w = ((omega (arith, le), w.next), spots_lead d f (suc a) i to (omega (arith, le)) w)
spots_lead d (choice checks c f g) a i to le w = (
  (omega (arith, le), omega (arith, le)),
  all_append (LeadsWithin d) (spots_of f (suc a) i to) (spots_of g (suc a + width f) (i + loops_in f) to)
      (spots_lead d f (suc a) i to (omega (arith, le)) w) (spots_lead d g (suc a + width f) (i + loops_in f) to (omega (arith, le)) w),
)
spots_lead d (while_ checks c f place) a i to le w = (
  (omega (arith, le), w.next),
  spots_lead d f (suc a) (suc i) (in_loop a to) (omega (arith, le)) (loop_within d a to (omega (arith, le)) w),
)
spots_lead d (for_ checks c f sets place) a i to le w = (
  (omega (arith, le), w.next),
  all_append (LeadsWithin d) (spots_of f (suc a) (suc i) (in_loop (suc a + width f) to)) (Act [] (way a sets None) ∷ [])
      (spots_lead d f (suc a) (suc i) (in_loop (suc a + width f) to) (omega (arith, le))
      (loop_within d (suc a + width f) to (omega (arith, le)) w))
      (omega (arith, le), tt),
)
spots_lead d (repeat_ f checks c place) a i to le w = all_append (LeadsWithin d) (spots_of f a (suc i) (in_loop (a + width f) to))
    (Branch checks c (way to.next [] None) (way a [] (Some i)) ∷ [])
    (spots_lead d f a (suc i) (in_loop (a + width f) to) (omega (arith, le)) (loop_within d (a + width f) to (omega (arith, le)) w))
    ((w.next, omega (arith, le)), tt)

each_at : {X : Type 0} (P : X → Type 0) (xs : List X) (i : ℕ) → AllByRecursion P xs → IfSome (slice_get xs i) P
each_at P [] i all = tt
each_at P (x ∷ xs) zero all = all.0
each_at P (x ∷ xs) (suc i) all = each_at P xs i all.1

pub text_leads : (f : Flow) → LeadWithin (text_of f)
text_leads f l = each_at (LeadsWithin (length (spots_of f 0 0 (to_done (width f))))) (spots_of f 0 0 (to_done (width f))) l
    (subst (λ (d : ℕ). AllByRecursion (LeadsWithin d) (spots_of f 0 0 (to_done (width f)))) (sym (length_spots f 0 0 (to_done (width f))))
    (spots_lead (width f) f 0 0 (to_done (width f)) (omega arith)
    (record { next = omega arith; on_exit = omega arith; on_continue = omega arith; on_return = omega arith })))

-- ---- bodies by their numbers

block_is : (bodies : Bodies) (b : ℕ) → block_at (blocks_of bodies) b ≡ laid_or (body_at bodies b)
block_is [] b = refl
block_is (body ∷ bodies) zero = refl
block_is (body ∷ bodies) (suc b) = block_is bodies b

any_call : (calls : List CallEdge) (m : ℕ) (call : CallEdge) → slice_get calls m ≡ Some call
    → list_any (λ (other : CallEdge). other.block == call.block) calls ≡ true
any_call [] m call here = absurd (none-some call here)
any_call (first ∷ calls) zero call here =
    subst (λ (x : CallEdge). list_any (λ (other : CallEdge). other.block == x.block) (first ∷ calls) ≡ true) (same first call here)
    (or_left (first.block == first.block) (list_any (λ (other : CallEdge). other.block == first.block) calls)
    (eq-eqb first.block first.block refl))
  where
    same : (x y : CallEdge) → slice_get (x ∷ calls) 0 ≡ Some y → x ≡ y
    same x y e = same_Some x y e
any_call (first ∷ calls) (suc m) call here =
    or_right (first.block == call.block) (list_any (λ (other : CallEdge). other.block == call.block) calls) (any_call calls m call here)

-- ---- levels

-- with so many levels of calls the block's automaton comes to what its flow ends as
abbrev RunsOf : Bodies → ℕ → ℕ → ℕ → Type 0
RunsOf bodies n levels b = (body : Body) → body_at bodies b ≡ Some body → (k : Work) → k.parts ≡ laid body → (w : Valuation)
    → ComesTo (blocks_of bodies) n k (running (first_spot (laid body)) w) (run_body bodies n levels k body w)

call_is : (bodies : Bodies) (n levels : ℕ) (k : Work) (m : ℕ) (call : CallEdge) → RunsOf bodies n levels call.block
    → FitsIn (blocks_of bodies) k.parts call
    → IsCall (blocks_of bodies) k (setting_of k (called_within bodies n (suc levels) k) n) m call
call_is bodies n levels k m call runs fits = by (body_at bodies call.block) refl
  where
    by : (o : Option Body) → body_at bodies call.block ≡ o → IsCall (blocks_of bodies) k (setting_of k (called_within bodies n (suc levels) k) n) m call
    by None none = absurd (subst (λ (o : Option Parts). MatchOption o ⊥ (λ callee. IsFit k.parts call callee))
        (block_is bodies call.block ∙ ap laid_or none) fits)
    by (Some body) some = record {
      parts = laid body;
      stands = block_is bodies call.block ∙ ap laid_or some;
      comes = λ w. subst (λ (out : Outcome). ComesTo (blocks_of bodies) n (callee w)
          (running (first_spot (laid body)) (cleared (callee w) w)) out)
          (sym (ap (λ (o : Option Body). elim o [
            | None ↦ done_with w
            | Some other ↦ run_body bodies n levels
                (callee_work (blocks_of bodies) k (numbered m (call_edge call.block call.instance)) (laid other)) other
                (cleared (callee_work (blocks_of bodies) k (numbered m (call_edge call.block call.instance)) (laid other)) w)
          ]) some))
          (runs body some (callee w) refl (cleared (callee w) w));
    }
      where
        callee : Valuation → Work
        callee w = callee_work (blocks_of bodies) k (numbered m call) (laid body)

body_comes : (bodies : Bodies) (n levels : ℕ) (body : Body) (k : Work) (w : Valuation) → 0 < n → k.parts ≡ laid body
    → AreCalls (blocks_of bodies) k (setting_of k (called_within bodies n levels k) n)
    → ComesTo (blocks_of bodies) n k (running (first_spot (laid body)) w) (run_body bodies n levels k body w)
body_comes bodies n levels body k w some parts are =
    subst (λ (cs : Counts). ComesTo (blocks_of bodies) n k (running (at 0 cs) w) (run_body bodies n levels k body w))
    (sym (same_entered (marks_of (spots_of body.code 0 0 (to_done (width body.code)))) (loops_of body.code 0) 0))
    (parts_run (blocks_of bodies) k (setting_of k (called_within bodies n levels k) n) body.head (text_of body.code) parts refl (text_leads body.code)
    0 (entered (loops_of body.code 0) 0) w (run_body bodies n levels k body w) (omega arith) are
    (whole_reaches (setting_of k (called_within bodies n levels k) n) body.code w some))

all_run : (bodies : Bodies) (n : ℕ) → 0 < n → AreFitting (blocks_of bodies) → (b : ℕ) → RunsOf bodies n (length (blocks_of bodies)) b
all_run bodies n some fit b = deep (RunsOf bodies n) (blocks_of bodies) fit none step b
  where
    none : (levels b : ℕ) → block_at (blocks_of bodies) b ≡ None → RunsOf bodies n levels b
    none levels b gone body there k parts w =
        absurd (none-some (laid body) (sym gone ∙ (block_is bodies b ∙ ap laid_or there)))

    step : (levels b : ℕ) (p : Parts) → block_at (blocks_of bodies) b ≡ Some p
        → ((c : ℕ) → runs_block (blocks_of bodies) b c ≡ true → RunsOf bodies n levels c) → RunsOf bodies n (suc levels) b
    step levels b p e below body there k parts w = body_comes bodies n (suc levels) body k w some parts
        (λ m. for_some (IsCall (blocks_of bodies) k (setting_of k (called_within bodies n (suc levels) k) n) m) (slice_get k.parts.calls m)
        (λ call here. call_is bodies n levels k m call
        (below call.block (ap (λ (o : Option Parts). runs_in o call.block) stands ∙ any_call k.parts.calls m call here))
        (some_at (FitsIn (blocks_of bodies) k.parts) (slice_get k.parts.calls m) call here
        (each_at (FitsIn (blocks_of bodies) k.parts) k.parts.calls m
        (recursion_from_All (FitsIn (blocks_of bodies) k.parts) k.parts.calls
        (some_at (λ (q : Parts). All (FitsIn (blocks_of bodies) q) q.calls) (block_at (blocks_of bodies) b) k.parts stands
        (fit.calls b)))))))
      where
        stands : block_at (blocks_of bodies) b ≡ Some k.parts
        stands = block_is bodies b ∙ (ap laid_or there ∙ ap (λ (q : Parts). Some q) (sym parts))

pub blocks_run : (bodies : Bodies) (n b : ℕ) (body : Body) (w : Valuation) → AreFitting (blocks_of bodies) → 0 < n
    → body_at bodies b ≡ Some body
    → EndsAs (blocks_of bodies) n (laid body) w (run_body bodies n (length bodies) (entry_work (laid body)) body w)
blocks_run bodies n b body w fit some there =
    subst (λ (levels : ℕ). EndsAs (blocks_of bodies) n (laid body) w (run_body bodies n levels (entry_work (laid body)) body w))
    (length-map bodies laid_or) (all_run bodies n some fit b body there (entry_work (laid body)) refl w)
