-- A cell that an activation leaves has its value behind it. What statements and instructions do is handed in, as the laws of `pv_mean` say
-- it; here are the calls.
use Rattle.std.proofs.Common.{◌≡◌, ℕ, zero, suc, ℤ, pos, List, [], ◌∷◌, get_or, Option, Some, None, refl, subst, ◌∙◌}
use Rattle.std.specs.Prelude.{IfSome}
use Rattle.std.specs.List.{AllByRecursion}
use Rattle.pv_tree.specs.Tree.{ArgTree, OperandTree, InstrTree, StmtTrees, BodyTree, scl, stl, starts}
use Rattle.pv_tree.specs.Callees.{CallSite, Callee, runs, not_declared, not_callable, unknown, callee_of}
use Rattle.pv_tree.specs.Parts.{operand_of}
use Rattle.pv_mean.specs.Sources.{Source}
use Rattle.pv_mean.specs.Frames.{Frame, visible_value}
use Rattle.pv_mean.specs.Endings.{Tried, got, trap, Ended, ended, trapped, over, Ending, normal, at_exit, at_continue, at_return, by_trap, by_over, and_then, end_of, and_end, body_end}
use Rattle.pv_mean.specs.Spots.{read_spot, write_spot}
use Rattle.pv_mean.specs.Activations.{Activation, scope_in}
use Rattle.pv_mean.specs.Values.{value, locate}
use Rattle.pv_mean.specs.Statements.{Returned, Calls, run_stmts}
use Rattle.pv_mean.specs.InstructionRuns.{run_stl}
use Rattle.pv_mean.specs.Calls.{Linked, outside, inside, with_inside, Passed, passed_in, passed_out, argument_for, copy_in, copy_all_in, hand_over, copy_out, copy_all_out, linked, run_call, run_code, run_body, run_callee, calls_within, instance_first}
use Rattle.pv_mean.specs.Scans.{visible_end, scan_from, entry_activation, entry_frame}
use Rattle.pv_mean.specs.Doings.{EachInList, EachInstruction, HoldsAt, HoldsOf, HoldsIfGot}
use Rattle.pv_mean.specs.Correct.{Misses, IsApart, CallLeaves}
use Rattle.pv_mean.proofs.ForCallers.{write-misses}
use Rattle.pv_laws_scans.specs.Leaving.{EachInBody, TakesElsewhere, GivesElsewhere, CallPasses, CalleePasses, Leaves}
use Rattle.pv_laws_scans.proofs.Passing.{passed-body}

-- ---- what statements and instructions do

abbrev pub StatementsKeep : Type 0
StatementsKeep = (source : Source) (calls : Calls) (act : Activation) (n : ℕ) (statements : StmtTrees) (frame : Frame) (v : ℤ)
    → EachInList (IsApart source act n) (CallLeaves calls act n) statements → visible_value frame n ≡ v
    → HoldsAt (λ f. visible_value f n ≡ v) (run_stmts source calls act statements frame)

abbrev pub InstructionsKeep : Type 0
InstructionsKeep = (source : Source) (calls : Calls) (act : Activation) (n : ℕ) (instructions : List InstrTree) (frame : Frame) (v : ℤ)
    → EachInstruction (IsApart source act n) (CallLeaves calls act n) instructions → visible_value frame n ≡ v
    → HoldsOf (λ f. visible_value f n ≡ v) (run_stl source calls act instructions frame)

-- ---- the ways of going on

then-holds : {A B : Type 0} (P : A → Type 0) (R : B → Type 0) (t : Tried A) (next : A → Tried B) → HoldsIfGot P t
    → ((a : A) → P a → HoldsIfGot R (next a)) → HoldsIfGot R (and_then t next)
then-holds P R (got a) next is h = h a is
then-holds P R (trap kind place) next is h = tt

from-holds : {A B : Type 0} (R : B → Type 0) (t : Tried A) (next : A → Tried B) → ((a : A) → t ≡ got a → HoldsIfGot R (next a))
    → HoldsIfGot R (and_then t next)
from-holds R (got a) next h = h a refl
from-holds R (trap kind place) next h = tt

end-holds : {A : Type 0} (P : A → Type 0) (t : Tried A) → HoldsIfGot P t → HoldsOf P (end_of t)
end-holds P (got a) is = is
end-holds P (trap kind place) is = tt

also-holds : {A B : Type 0} (P : A → Type 0) (R : B → Type 0) (e : Ended A) (next : A → Ended B) → HoldsOf P e
    → ((a : A) → P a → HoldsOf R (next a)) → HoldsOf R (and_end e next)
also-holds P R (ended a) next is h = h a is
also-holds P R (trapped kind place) next is h = tt
also-holds P R (over place) next is h = tt

body-holds : (P : Frame → Type 0) (e : Ending) → HoldsAt P e → HoldsOf P (body_end e)
body-holds P (normal f) is = is
body-holds P (at_exit f) is = is
body-holds P (at_continue f) is = is
body-holds P (at_return f) is = is
body-holds P (by_trap kind place) is = tt
body-holds P (by_over place) is = tt

module _ (source : Source) (n : ℕ) (v : ℤ) where
  -- the cell has the value
  abbrev Has : List ℤ → Type 0
  Has values = get_or values n (pos 0) ≡ v

  -- ---- copying

  copied_in : (caller : Activation) (site : CallSite) (callee : Activation) (p : Passed) (l : Linked)
      → TakesElsewhere n site callee p → Has l.visible → HoldsIfGot (λ m. Has m.visible) (copy_in source caller site callee p l)
  copied_in caller site callee p l apart is = lead (argument_for site callee.block p) apart
    where
      lead : (arg : Option ArgTree) → IfSome arg (λ a. Misses n p.spot) → HoldsIfGot (λ (m : Linked). Has m.visible) (elim arg [
        | None ↦ got l
        | Some a ↦ and_then (value source caller (outside l) a.value)
            (λ w. got (with_inside l (write_spot source (inside l) p.spot w)))
      ])
      lead None h = is
      lead (Some a) h = from-holds (λ (m : Linked). Has m.visible) (value source caller (outside l) a.value) _
          (λ w at. write-misses source n p.spot (inside l) w h ∙ is)

  all_copied_in : (caller : Activation) (site : CallSite) (callee : Activation) (ps : List Passed) (l : Linked)
      → AllByRecursion (λ p. TakesElsewhere n site callee p) ps → Has l.visible
      → HoldsIfGot (λ m. Has m.visible) (copy_all_in source caller site callee ps l)
  all_copied_in caller site callee [] l apart is = is
  all_copied_in caller site callee (p ∷ ps) l apart is =
      then-holds (λ (m : Linked). Has m.visible) (λ (m : Linked). Has m.visible) (copy_in source caller site callee p l) _
      (copied_in caller site callee p l apart.0 is) (λ m q. all_copied_in caller site callee ps m apart.1 q)

  handed_over : (caller : Activation) (target : Option OperandTree) (w : ℤ) (l : Linked) → IfSome target (λ o. IsApart source caller n o)
      → Has l.visible → HoldsIfGot (λ m. Has m.visible) (hand_over source caller target w l)
  handed_over caller None w l apart is = is
  handed_over caller (Some target) w l apart is =
      from-holds (λ (m : Linked). Has m.visible) (locate source caller (outside l) target) _
      (λ spot at. write-misses source n spot (outside l) w (apart (outside l) spot at) ∙ is)

  copied_out : (caller : Activation) (site : CallSite) (callee : Activation) (p : Passed) (l : Linked)
      → GivesElsewhere source n caller site callee p → Has l.visible
      → HoldsIfGot (λ m. Has m.visible) (copy_out source caller site callee p l)
  copied_out caller site callee p l apart is = lead (argument_for site callee.block p) apart
    where
      lead : (arg : Option ArgTree) → IfSome arg (λ a. IfSome (operand_of a.value) (λ o. IsApart source caller n o))
          → HoldsIfGot (λ (m : Linked). Has m.visible) (elim arg [
            | None ↦ got l
            | Some a ↦ and_then (read_spot (inside l) site.call.place p.spot)
                (λ w. hand_over source caller (operand_of a.value) w l)
          ])
      lead None h = is
      lead (Some a) h = from-holds (λ (m : Linked). Has m.visible) (read_spot (inside l) site.call.place p.spot) _
          (λ w at. handed_over caller (operand_of a.value) w l h is)

  all_copied_out : (caller : Activation) (site : CallSite) (callee : Activation) (ps : List Passed) (l : Linked)
      → AllByRecursion (λ p. GivesElsewhere source n caller site callee p) ps → Has l.visible
      → HoldsIfGot (λ m. Has m.visible) (copy_all_out source caller site callee ps l)
  all_copied_out caller site callee [] l apart is = is
  all_copied_out caller site callee (p ∷ ps) l apart is =
      then-holds (λ (m : Linked). Has m.visible) (λ (m : Linked). Has m.visible) (copy_out source caller site callee p l) _
      (copied_out caller site callee p l apart.0 is) (λ m q. all_copied_out caller site callee ps m apart.1 q)

  -- ---- calls

  -- what a body does in an activation keeps the cell
  abbrev Keeps : (Activation → Frame → Ended Frame) → Activation → Type 0
  Keeps body act = (f : Frame) → Has f.visible → HoldsOf (λ g. Has g.visible) (body act f)

  kept-call : (body : Activation → Frame → Ended Frame) (Body : Activation → Type 0) → ((act : Activation) → Body act → Keeps body act)
      → (caller : Activation) (site : CallSite) (callee : Activation) → CallPasses source n Body caller site callee → (frame : Frame)
      → Has frame.visible → HoldsOf (λ back. Has back.frame.visible) (run_call source body caller site callee frame)
  kept-call body Body keeps caller site callee passes frame is =
      also-holds (λ (m : Linked). Has m.visible) (λ (back : Returned). Has back.frame.visible) _ _
      (end-holds (λ (m : Linked). Has m.visible) _
      (all_copied_in caller site callee (passed_in source callee) (linked source callee.block frame) passes.0 is))
      (λ l p. also-holds (λ (f : Frame). Has f.visible) (λ (back : Returned). Has back.frame.visible) _ _
      (keeps callee passes.1 (inside l) p)
      (λ f q. also-holds (λ (m : Linked). Has m.visible) (λ (back : Returned). Has back.frame.visible) _ _
      (end-holds (λ (m : Linked). Has m.visible) _
      (all_copied_out caller site callee (passed_out source site.how callee) (with_inside l f) passes.2 q)) (λ m r. r)))

  kept-callee : (body : Activation → Frame → Ended Frame) (Body : Activation → Type 0) → ((act : Activation) → Body act → Keeps body act)
      → (caller : Activation) (site : CallSite) (callee : Callee) → CalleePasses source n Body caller site callee → (frame : Frame)
      → Has frame.visible → HoldsOf (λ back. Has back.frame.visible) (run_callee source body caller site callee frame)
  kept-callee body Body keeps caller site (runs b) passes frame is =
      kept-call body Body keeps caller site (record { block = b; first = instance_first source caller site.call }) passes frame is
  kept-callee body Body keeps caller site (not_declared place) passes frame is = is
  kept-callee body Body keeps caller site (not_callable place) passes frame is = is
  kept-callee body Body keeps caller site unknown passes frame is = is

-- ---- bodies

kept-code : StatementsKeep → InstructionsKeep → (source : Source) (calls : Calls) (act : Activation) (n : ℕ) (body : BodyTree)
    → EachInBody (IsApart source act n) (CallLeaves calls act n) body → (v : ℤ) (frame : Frame) → visible_value frame n ≡ v
    → HoldsOf (λ f. visible_value f n ≡ v) (run_code source calls act body frame)
kept-code ss ii source calls act n (scl statements) each v frame is =
    body-holds (λ f. visible_value f n ≡ v) (run_stmts source calls act statements frame) (ss source calls act n statements frame v each is)
kept-code ss ii source calls act n (stl instructions) each v frame is = ii source calls act n instructions frame v each is
kept-code ss ii source calls act n (starts values) each v frame is = is

pub kept-body : StatementsKeep → InstructionsKeep → (source : Source) (n k : ℕ) (act : Activation) → Leaves source n k act → (v : ℤ)
    (frame : Frame) → visible_value frame n ≡ v
    → HoldsOf (λ f. visible_value f n ≡ v) (run_body source (calls_within source k) act frame)
kept-body ss ii source n zero act leaves v frame is =
    kept-code ss ii source (calls_within source zero) act n act.block.body
    (passed-body (IsApart source act n) (λ site. Unit {0}) (CallLeaves (calls_within source zero) act n) (λ site h f w e. e)
    act.block.body leaves) v frame is
kept-body ss ii source n (suc k) act leaves v frame is =
    kept-code ss ii source (calls_within source (suc k)) act n act.block.body
    (passed-body (IsApart source act n) (λ site. CalleePasses source n (λ callee. Leaves source n k callee) act site
    (callee_of (scope_in source act) site)) (CallLeaves (calls_within source (suc k)) act n)
    (λ site passes f w e. kept-callee source n w (λ callee g. run_body source (calls_within source k) callee g)
    (λ callee. Leaves source n k callee) (λ a h g q. kept-body ss ii source n k a h w g q) act site
    (callee_of (scope_in source act) site) passes f e) act.block.body leaves) v frame is

-- ---- scans

end-visible : (P : List ℤ → Type 0) (e : Ended Frame) (end : List ℤ) → HoldsOf (λ f. P f.visible) e → visible_end e ≡ ended end → P end
end-visible P e end is done = subst (HoldsOf P) done (lead e is)
  where
    lead : (x : Ended Frame) → HoldsOf (λ f. P f.visible) x → HoldsOf P (visible_end x)
    lead (ended f) h = h
    lead (trapped kind place) h = tt
    lead (over place) h = tt

pub kept-scan : StatementsKeep → InstructionsKeep → (source : Source) (n k : ℕ) (values end : List ℤ)
    → Leaves source n k (entry_activation source) → (scan_from source k values).end ≡ ended end
    → get_or end n (pos 0) ≡ get_or values n (pos 0)
kept-scan ss ii source n k values end leaves done =
    end-visible (λ vs. get_or vs n (pos 0) ≡ get_or values n (pos 0))
    (run_body source (calls_within source k) (entry_activation source) (entry_frame source values)) end
    (kept-body ss ii source n k (entry_activation source) leaves (get_or values n (pos 0)) (entry_frame source values) refl) done
