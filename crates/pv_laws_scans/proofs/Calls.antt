-- Where calls and scans stop.
use Rattle.std.proofs.Common.{◌≡◌, ◌⊎◌, ℕ, zero, suc, ℤ, List, [], ◌∷◌, Bool, true, false, Option, Some, None, inl, inr, cond}
use Rattle.std.specs.Prelude.{⊤, find}
use Rattle.pv_place.specs.declared.place.Place.{Place}
use Rattle.pv_tree.specs.Tree.{ExprTree, lit, read, unary, binary, std, paren, ArgTree, BodyTree, scl, stl, starts}
use Rattle.pv_tree.specs.Callees.{CallSite, Callee, runs, not_declared, not_callable, unknown, callee_of}
use Rattle.pv_tree.specs.Parts.{operand_of}
use Rattle.pv_mean.specs.Cells.{most_calls}
use Rattle.pv_mean.specs.Sources.{Source}
use Rattle.pv_mean.specs.Frames.{Frame, Image, Input, begin}
use Rattle.pv_mean.specs.Endings.{Tried, got, and_then, Ended, ended, trapped, over, end_of}
use Rattle.pv_mean.specs.Spots.{read_spot, write_spot}
use Rattle.pv_mean.specs.Activations.{Activation, scope_in}
use Rattle.pv_mean.specs.Values.{value, locate}
use Rattle.pv_mean.specs.Statements.{Calls, run_stmts}
use Rattle.pv_mean.specs.Calls.{Linked, outside, inside, with_outside, with_inside, instance_first, Passed, passed_in, passed_out, is_for, argument_for, copy_in, copy_all_in, hand_over, copy_out, copy_all_out, linked, run_call, run_code, run_body, run_callee, calls_within}
use Rattle.pv_mean.specs.Scans.{entry_activation, entry_frame, visible_end, scan}
use Rattle.pv_laws_scans.specs.Places.{InExpr, InOperand, InArgs, InCall, Besides, InBody, InCallee, IsPlaceWithin, StopsIn}
use Rattle.pv_laws_scans.proofs.Stopping.{TrapsIn, traps_wider, traps_then, stops_wider, stops_then, stops_tried, stops_body}
use Rattle.pv_laws_scans.proofs.Values.{read_at, value_in, located_in}
use Rattle.pv_laws_scans.proofs.Statements.{CallsStopIn, stmts_in}
use Rattle.pv_laws_scans.proofs.Instructions.{stl_in}

-- ---- arguments

-- what is found among arguments has its places among theirs
abbrev IsAmong : List ArgTree → Option ArgTree → Type 0
IsAmong args None = ⊤
IsAmong args (Some a) = (p : Place) → InExpr p a.value → InArgs p args

among : (test : ArgTree → Bool) (args : List ArgTree) → IsAmong args (find test args)
among test [] = tt
among test (a ∷ more) = lead (test a) (find test more) (among test more)
  where
    lead : (b : Bool) (o : Option ArgTree) → IsAmong more o → IsAmong (a ∷ more) (cond b (Some a) o)
    lead true o is = λ p e. inl e
    lead false None is = tt
    lead false (Some x) is = λ p e. inr (is p e)

-- ---- copying

copied_in : (source : Source) (caller : Activation) (site : CallSite) (callee : Activation) (p : Passed) (l : Linked)
    → TrapsIn (λ q. InCall q site.call) (copy_in source caller site callee p l)
copied_in source caller site callee p l = lead (argument_for site callee.block p) (among (is_for site.how callee.block p.param.key) site.call.args)
  where
    lead : (o : Option ArgTree) → IsAmong site.call.args o → TrapsIn (λ q. InCall q site.call) (elim o [
      | None ↦ got l
      | Some arg ↦ and_then (value source caller (outside l) arg.value)
          (λ v. got (with_inside l (write_spot source (inside l) p.spot v)))
    ])
    lead None is = tt
    lead (Some arg) is = traps_then (λ q. InCall q site.call) (value source caller (outside l) arg.value) _
        (traps_wider (λ q. InExpr q arg.value) (λ q. InCall q site.call) (value source caller (outside l) arg.value) (λ q e. inr (is q e))
        (value_in source caller (outside l) arg.value)) (λ v. tt)

all_copied_in : (source : Source) (caller : Activation) (site : CallSite) (callee : Activation) (ps : List Passed) (l : Linked)
    → TrapsIn (λ q. InCall q site.call) (copy_all_in source caller site callee ps l)
all_copied_in source caller site callee [] l = tt
all_copied_in source caller site callee (p ∷ ps) l =
    traps_then (λ q. InCall q site.call) (copy_in source caller site callee p l) (λ m. copy_all_in source caller site callee ps m)
    (copied_in source caller site callee p l) (λ m. all_copied_in source caller site callee ps m)

handed_over : (source : Source) (caller : Activation) (e : ExprTree) (v : ℤ) (l : Linked)
    → TrapsIn (λ q. InExpr q e) (hand_over source caller (operand_of e) v l)
handed_over source caller (read o) v l =
    traps_then (λ q. InOperand q o) (locate source caller (outside l) o) (λ spot. got (with_outside l (write_spot source (outside l) spot v)))
    (located_in source caller (outside l) o) (λ spot. tt)
handed_over source caller (lit ty w place) v l = tt
handed_over source caller (unary op place arg) v l = tt
handed_over source caller (binary op place left right) v l = tt
handed_over source caller (std function place args) v l = tt
handed_over source caller (paren place inner) v l = tt

copied_out : (source : Source) (caller : Activation) (site : CallSite) (callee : Activation) (p : Passed) (l : Linked)
    → TrapsIn (λ q. InCall q site.call) (copy_out source caller site callee p l)
copied_out source caller site callee p l = lead (argument_for site callee.block p) (among (is_for site.how callee.block p.param.key) site.call.args)
  where
    lead : (o : Option ArgTree) → IsAmong site.call.args o → TrapsIn (λ q. InCall q site.call) (elim o [
      | None ↦ got l
      | Some arg ↦ and_then (read_spot (inside l) site.call.place p.spot)
          (λ v. hand_over source caller (operand_of arg.value) v l)
    ])
    lead None is = tt
    lead (Some arg) is = traps_then (λ q. InCall q site.call) (read_spot (inside l) site.call.place p.spot) _
        (traps_wider (λ q. q ≡ site.call.place) (λ q. InCall q site.call) (read_spot (inside l) site.call.place p.spot) (λ q e. inl e)
        (read_at (inside l) site.call.place p.spot))
        (λ v. traps_wider (λ q. InExpr q arg.value) (λ q. InCall q site.call) (hand_over source caller (operand_of arg.value) v l) (λ q e. inr (is q e))
        (handed_over source caller arg.value v l))

all_copied_out : (source : Source) (caller : Activation) (site : CallSite) (callee : Activation) (ps : List Passed) (l : Linked)
    → TrapsIn (λ q. InCall q site.call) (copy_all_out source caller site callee ps l)
all_copied_out source caller site callee [] l = tt
all_copied_out source caller site callee (p ∷ ps) l =
    traps_then (λ q. InCall q site.call) (copy_out source caller site callee p l) (λ m. copy_all_out source caller site callee ps m)
    (copied_out source caller site callee p l) (λ m. all_copied_out source caller site callee ps m)

-- ---- calls

called_in : (source : Source) (body : Activation → Frame → Ended Frame) (caller : Activation) (site : CallSite) (callee : Activation) (frame : Frame)
    (P : Place → Type 0) → ((f : Frame) → StopsIn P (body callee f))
    → StopsIn (λ q. InCall q site.call ⊎ P q) (run_call source body caller site callee frame)
called_in source body caller site callee frame P stops =
    let R : Place → Type 0 = λ q. InCall q site.call ⊎ P q in
    let own : (t : Tried Linked) → TrapsIn (λ q. InCall q site.call) t → StopsIn R (end_of t) = λ t is.
    stops_tried R t (traps_wider (λ q. InCall q site.call) R t (λ q e. inl e) is) in
    stops_then R (end_of (copy_all_in source caller site callee (passed_in source callee) (linked source callee.block frame))) _
    (own (copy_all_in source caller site callee (passed_in source callee) (linked source callee.block frame))
    (all_copied_in source caller site callee (passed_in source callee) (linked source callee.block frame)))
    (λ l. stops_then R (body callee (inside l)) _ (stops_wider P R (body callee (inside l)) (λ q e. inr e) (stops (inside l)))
    (λ f. stops_then R (end_of (copy_all_out source caller site callee (passed_out source site.how callee) (with_inside l f))) _
    (own (copy_all_out source caller site callee (passed_out source site.how callee) (with_inside l f))
    (all_copied_out source caller site callee (passed_out source site.how callee) (with_inside l f))) (λ m. tt)))

code_in : (source : Source) (calls : Calls) (act : Activation) (C : Besides) (body : BodyTree) (frame : Frame) → CallsStopIn calls act C
    → StopsIn (λ q. InBody C q body) (run_code source calls act body frame)
code_in source calls act C (scl ss) frame stop = stops_body (λ q. InBody C q (scl ss)) (run_stmts source calls act ss frame) (stmts_in source calls act C stop ss frame)
code_in source calls act C (stl instructions) frame stop = stl_in source calls act C stop instructions frame
code_in source calls act C (starts values) frame stop = tt

-- what a call has besides its own places, where so many calls may stand behind one another
abbrev Below : Source → ℕ → Activation → Besides
Below source zero act site q = ⊥
Below source (suc n) act site q = InCallee (λ b. IsPlaceWithin source.project n b q) (callee_of (scope_in source act) site)

calls_by : (source : Source) (n : ℕ) (act : Activation)
    → ((callee : Activation) (f : Frame) → StopsIn (IsPlaceWithin source.project n callee.block) (run_body source (calls_within source n) callee f))
    → CallsStopIn (calls_within source (suc n)) act (Below source (suc n) act)
calls_by source n act bodies site frame = lead (callee_of (scope_in source act) site)
  where
    lead : (c : Callee) → StopsIn (λ q. InCall q site.call ⊎ InCallee (λ b. IsPlaceWithin source.project n b q) c)
        (run_callee source (λ callee f. run_body source (calls_within source n) callee f) act site c frame)
    lead (runs b) = called_in source (λ callee f. run_body source (calls_within source n) callee f) act site
        (record { block = b; first = instance_first source act site.call }) frame (λ q. IsPlaceWithin source.project n b q)
        (λ f. bodies (record { block = b; first = instance_first source act site.call }) f)
    lead (not_declared place) = tt
    lead (not_callable place) = tt
    lead unknown = tt

body_in : (source : Source) (n : ℕ) (act : Activation) (frame : Frame) → StopsIn (IsPlaceWithin source.project n act.block) (run_body source (calls_within source n) act frame)
body_in source zero act frame = code_in source (calls_within source zero) act (Below source zero act) act.block.body frame (λ site f. tt)
body_in source (suc n) act frame =
    code_in source (calls_within source (suc n)) act (Below source (suc n) act) act.block.body frame (calls_by source n act (λ callee f. body_in source n callee f))

-- ---- a scan

visible_in : (P : Place → Type 0) (e : Ended Frame) → StopsIn P e → StopsIn P (visible_end e)
visible_in P (ended frame) is = tt
visible_in P (trapped kind place) is = is
visible_in P (over place) is = is

pub scan_in : (source : Source) (image : Image) (input : Input) → StopsIn (IsPlaceWithin source.project most_calls source.entry) (scan source image input).end
scan_in source image input =
    let frame = entry_frame source (begin source.cells image input) in
    visible_in (IsPlaceWithin source.project most_calls source.entry)
    (run_body source (calls_within source most_calls) (entry_activation source) frame) (body_in source most_calls (entry_activation source) frame)
