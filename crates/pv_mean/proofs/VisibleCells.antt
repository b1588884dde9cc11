-- What holds of the visible cells and is kept where one cell takes a value wrapped to its type, a scan keeps: through arrays,
-- fields, bytes and calls.
use Rattle.std.proofs.Common.{ℕ, zero, suc, ◌+◌, ◌/◌, ◌%◌, ◌^◌, ℤ, pos, List, [], ◌∷◌, set, Option, Some, None}
use Rattle.pv_word.specs.Types.{wrap_of, pattern_of}
use Rattle.pv_tree.specs.Tree.{OperandTree, ArgTree, StmtTree, assign, assign_call, if_, case_, for_, while_, repeat_, exit_, continue_, return_, call_, empty_, StmtTrees, no_stmts, stmts, ArmTrees, no_arms, arms, BranchTrees, no_branches, branches, ElseTree, no_else, else_, BodyTree, scl, stl, starts}
use Rattle.pv_tree.specs.Callees.{CallSite, Callee, runs, not_declared, not_callable, unknown, callee_of}
use Rattle.pv_tree.specs.Parts.{operand_of}
use Rattle.pv_mean.specs.Sources.{Source}
use Rattle.pv_mean.specs.Frames.{Frame, visible_cells, type_of_visible, with_visible}
use Rattle.pv_mean.specs.Endings.{got, Ended, ended, trapped, over, Ending, normal, at_exit, at_continue, at_return, by_trap, by_over, and_then, body_end}
use Rattle.pv_mean.specs.Spots.{Spot, visible, brief, bit, bytes, fixed, nowhere, with_bytes, read_spot, write_spot}
use Rattle.pv_mean.specs.Activations.{Activation, scope_in}
use Rattle.pv_mean.specs.Values.{value, locate}
use Rattle.pv_mean.specs.Statements.{Returned, Calls, run_stmts}
use Rattle.pv_mean.specs.Calls.{Linked, outside, inside, with_inside, Passed, passed_in, passed_out, argument_for, copy_in, copy_all_in, hand_over, copy_out, copy_all_out, linked, run_call, run_code, run_body, run_callee, calls_within, instance_first}
use Rattle.pv_mean.specs.Scans.{entry_activation, entry_frame, visible_end, scan_from}
use Rattle.pv_mean.specs.Doings.{EachDoing, EachInList, EachInArms, EachInBranches, EachInElse, HoldsAt, HoldsOf, HoldsIfGot}
use Rattle.pv_mean.proofs.Holding.{Writes, CallKeeps, then-holds, any-holds, end-holds, also-holds, holds-stmts}
use Rattle.pv_mean.proofs.Instructing.{holds-stl, any-instructions}

-- a cell may take any value, wrapped to its type
abbrev pub IsSafe : (List ℤ → Type 0) → Source → Type 0
IsSafe Q source = (values : List ℤ) (n : ℕ) (v : ℤ) → Q values
    → Q (set values n (wrap_of (type_of_visible (visible_cells source.cells) n) v))

safe-bytes : (Q : List ℤ → Type 0) (source : Source) → IsSafe Q source → (count n number : ℕ) (frame : Frame) → Q frame.visible
    → Q (with_bytes source frame n count number).visible
safe-bytes Q source safe zero n number frame is = is
safe-bytes Q source safe (suc count) n number frame is =
    safe-bytes Q source safe count (n + 1) number (with_visible source frame n (pos (number / 256 ^ count % 256)))
    (safe frame.visible n (pos (number / 256 ^ count % 256)) is)

pub safe-write : (Q : List ℤ → Type 0) (source : Source) → IsSafe Q source → (spot : Spot) (frame : Frame) (v : ℤ) → Q frame.visible
    → Q (write_spot source frame spot v).visible
safe-write Q source safe (visible n) frame v is = safe frame.visible n v is
safe-write Q source safe (brief ty n) frame v is = is
safe-write Q source safe (bit n b) frame v is = safe frame.visible n _ is
safe-write Q source safe (bytes ty n count) frame v is = safe-bytes Q source safe count n (pattern_of ty v) frame is
safe-write Q source safe (fixed w) frame v is = is
safe-write Q source safe nowhere frame v is = is

-- ---- each target and each call of any statements passes a test that all pass

mutual
  pub all-stmt : (T : OperandTree → Type 0) (C : CallSite → Type 0) → ((o : OperandTree) → T o) → ((c : CallSite) → C c) → (s : StmtTree)
      → EachDoing T C s
  all-stmt T C t c (assign target place e) = t target
  all-stmt T C t c (assign_call target place call) = (t target, c _)
  all-stmt T C t c (if_ conditions other place) = (all-arms T C t c conditions, all-else T C t c other)
  all-stmt T C t c (case_ selector choices other place) = (all-branches T C t c choices, all-else T C t c other)
  all-stmt T C t c (for_ name name_place first last by body place) = (t _, all-stmts T C t c body)
  all-stmt T C t c (while_ condition body place) = all-stmts T C t c body
  all-stmt T C t c (repeat_ body condition place) = all-stmts T C t c body
  all-stmt T C t c (exit_ place) = tt
  all-stmt T C t c (continue_ place) = tt
  all-stmt T C t c (return_ place) = tt
  all-stmt T C t c (call_ call) = c _
  all-stmt T C t c (empty_ place) = tt

  pub all-stmts : (T : OperandTree → Type 0) (C : CallSite → Type 0) → ((o : OperandTree) → T o) → ((c : CallSite) → C c) → (ss : StmtTrees)
      → EachInList T C ss
  all-stmts T C t c no_stmts = tt
  all-stmts T C t c (stmts s more) = (all-stmt T C t c s, all-stmts T C t c more)

  pub all-arms : (T : OperandTree → Type 0) (C : CallSite → Type 0) → ((o : OperandTree) → T o) → ((c : CallSite) → C c) → (cs : ArmTrees)
      → EachInArms T C cs
  all-arms T C t c no_arms = tt
  all-arms T C t c (arms condition body more) = (all-stmts T C t c body, all-arms T C t c more)

  pub all-branches : (T : OperandTree → Type 0) (C : CallSite → Type 0) → ((o : OperandTree) → T o) → ((c : CallSite) → C c)
      → (bs : BranchTrees) → EachInBranches T C bs
  all-branches T C t c no_branches = tt
  all-branches T C t c (branches values body more) = (all-stmts T C t c body, all-branches T C t c more)

  pub all-else : (T : OperandTree → Type 0) (C : CallSite → Type 0) → ((o : OperandTree) → T o) → ((c : CallSite) → C c) → (other : ElseTree)
      → EachInElse T C other
  all-else T C t c no_else = tt
  all-else T C t c (else_ body) = all-stmts T C t c body

-- ---- bodies

body-holds : (P : Frame → Type 0) (e : Ending) → HoldsAt P e → HoldsOf P (body_end e)
body-holds P (normal f) is = is
body-holds P (at_exit f) is = is
body-holds P (at_continue f) is = is
body-holds P (at_return f) is = is
body-holds P (by_trap kind place) is = tt
body-holds P (by_over place) is = tt

-- the calls keep it, whoever makes them
abbrev pub AllKeep : (List ℤ → Type 0) → Calls → Type 0
AllKeep Q calls = (act : Activation) (site : CallSite) (frame : Frame) → Q frame.visible
    → HoldsOf (λ back. Q back.frame.visible) (calls act site frame)

pub safe-code : (Q : List ℤ → Type 0) (source : Source) → IsSafe Q source → (calls : Calls) → AllKeep Q calls → (act : Activation)
    (body : BodyTree) (frame : Frame) → Q frame.visible → HoldsOf (λ f. Q f.visible) (run_code source calls act body frame)
safe-code Q source safe calls keep act (scl statements) frame is =
    body-holds (λ f. Q f.visible) (run_stmts source calls act statements frame)
    (holds-stmts (λ f. Q f.visible) source calls act statements
    (all-stmts (Writes (λ f. Q f.visible) source act) (CallKeeps (λ f. Q f.visible) calls act)
    (λ target f spot g v _ p. safe-write Q source safe spot f v p) (λ site f p. keep act site f p) statements) frame is)
safe-code Q source safe calls keep act (stl instructions) frame is =
    holds-stl (λ f. Q f.visible) source calls act instructions
    (any-instructions (Writes (λ f. Q f.visible) source act) (CallKeeps (λ f. Q f.visible) calls act)
    (λ target f spot g v _ p. safe-write Q source safe spot f v p) (λ site f p. keep act site f p) instructions) frame is
safe-code Q source safe calls keep act (starts values) frame is = is

-- ---- calls

copied_in : (Q : List ℤ → Type 0) (source : Source) → IsSafe Q source → (caller : Activation) (site : CallSite) (callee : Activation)
    (p : Passed) (l : Linked) → Q l.visible → HoldsIfGot (λ m. Q m.visible) (copy_in source caller site callee p l)
copied_in Q source safe caller site callee p l is = lead (argument_for site callee.block p)
  where
    lead : (arg : Option ArgTree) → HoldsIfGot (λ (m : Linked). Q m.visible) (elim arg [
      | None ↦ got l
      | Some a ↦ and_then (value source caller (outside l) a.value)
          (λ v. got (with_inside l (write_spot source (inside l) p.spot v)))
    ])
    lead None = is
    lead (Some a) = any-holds (λ (m : Linked). Q m.visible) (value source caller (outside l) a.value) _
        (λ v. safe-write Q source safe p.spot (inside l) v is)

all_copied_in : (Q : List ℤ → Type 0) (source : Source) → IsSafe Q source → (caller : Activation) (site : CallSite) (callee : Activation)
    (ps : List Passed) (l : Linked) → Q l.visible → HoldsIfGot (λ m. Q m.visible) (copy_all_in source caller site callee ps l)
all_copied_in Q source safe caller site callee [] l is = is
all_copied_in Q source safe caller site callee (p ∷ ps) l is =
    then-holds (λ (m : Linked). Q m.visible) (λ (m : Linked). Q m.visible) (copy_in source caller site callee p l) _
    (copied_in Q source safe caller site callee p l is) (λ m q. all_copied_in Q source safe caller site callee ps m q)

handed_over : (Q : List ℤ → Type 0) (source : Source) → IsSafe Q source → (caller : Activation) (target : Option OperandTree) (v : ℤ)
    (l : Linked) → Q l.visible → HoldsIfGot (λ m. Q m.visible) (hand_over source caller target v l)
handed_over Q source safe caller None v l is = is
handed_over Q source safe caller (Some target) v l is =
    any-holds (λ (m : Linked). Q m.visible) (locate source caller (outside l) target) _
    (λ spot. safe-write Q source safe spot (outside l) v is)

copied_out : (Q : List ℤ → Type 0) (source : Source) → IsSafe Q source → (caller : Activation) (site : CallSite) (callee : Activation)
    (p : Passed) (l : Linked) → Q l.visible → HoldsIfGot (λ m. Q m.visible) (copy_out source caller site callee p l)
copied_out Q source safe caller site callee p l is = lead (argument_for site callee.block p)
  where
    lead : (arg : Option ArgTree) → HoldsIfGot (λ (m : Linked). Q m.visible) (elim arg [
      | None ↦ got l
      | Some a ↦ and_then (read_spot (inside l) site.call.place p.spot)
          (λ v. hand_over source caller (operand_of a.value) v l)
    ])
    lead None = is
    lead (Some a) = any-holds (λ (m : Linked). Q m.visible) (read_spot (inside l) site.call.place p.spot) _
        (λ v. handed_over Q source safe caller (operand_of a.value) v l is)

all_copied_out : (Q : List ℤ → Type 0) (source : Source) → IsSafe Q source → (caller : Activation) (site : CallSite) (callee : Activation)
    (ps : List Passed) (l : Linked) → Q l.visible → HoldsIfGot (λ m. Q m.visible) (copy_all_out source caller site callee ps l)
all_copied_out Q source safe caller site callee [] l is = is
all_copied_out Q source safe caller site callee (p ∷ ps) l is =
    then-holds (λ (m : Linked). Q m.visible) (λ (m : Linked). Q m.visible) (copy_out source caller site callee p l) _
    (copied_out Q source safe caller site callee p l is) (λ m q. all_copied_out Q source safe caller site callee ps m q)

safe-call : (Q : List ℤ → Type 0) (source : Source) → IsSafe Q source → (body : Activation → Frame → Ended Frame)
    → ((act : Activation) (f : Frame) → Q f.visible → HoldsOf (λ g. Q g.visible) (body act f)) → (caller : Activation) (site : CallSite)
    (callee : Activation) (frame : Frame) → Q frame.visible
    → HoldsOf (λ back. Q back.frame.visible) (run_call source body caller site callee frame)
safe-call Q source safe body keeps caller site callee frame is =
    also-holds (λ (m : Linked). Q m.visible) (λ (back : Returned). Q back.frame.visible) _ _
    (end-holds (λ (m : Linked). Q m.visible) _
    (all_copied_in Q source safe caller site callee (passed_in source callee) (linked source callee.block frame) is))
    (λ l p. also-holds (λ (f : Frame). Q f.visible) (λ (back : Returned). Q back.frame.visible) _ _ (keeps callee (inside l) p)
    (λ f q. also-holds (λ (m : Linked). Q m.visible) (λ (back : Returned). Q back.frame.visible) _ _
    (end-holds (λ (m : Linked). Q m.visible) _
    (all_copied_out Q source safe caller site callee (passed_out source site.how callee) (with_inside l f) q)) (λ m r. r)))

safe-callee : (Q : List ℤ → Type 0) (source : Source) → IsSafe Q source → (body : Activation → Frame → Ended Frame)
    → ((act : Activation) (f : Frame) → Q f.visible → HoldsOf (λ g. Q g.visible) (body act f)) → (caller : Activation) (site : CallSite)
    (callee : Callee) (frame : Frame) → Q frame.visible
    → HoldsOf (λ back. Q back.frame.visible) (run_callee source body caller site callee frame)
safe-callee Q source safe body keeps caller site (runs b) frame is =
    safe-call Q source safe body keeps caller site (record { block = b; first = instance_first source caller site.call }) frame is
safe-callee Q source safe body keeps caller site (not_declared place) frame is = is
safe-callee Q source safe body keeps caller site (not_callable place) frame is = is
safe-callee Q source safe body keeps caller site unknown frame is = is

pub safe-calls : (Q : List ℤ → Type 0) (source : Source) → IsSafe Q source → (n : ℕ) → AllKeep Q (calls_within source n)
safe-calls Q source safe zero caller site frame is = is
safe-calls Q source safe (suc n) caller site frame is =
    safe-callee Q source safe (λ callee f. run_body source (calls_within source n) callee f)
    (λ act f p. safe-code Q source safe (calls_within source n) (safe-calls Q source safe n) act act.block.body f p) caller site
    (callee_of (scope_in source caller) site) frame is

-- ---- scans

end-visible : (Q : List ℤ → Type 0) (e : Ended Frame) → HoldsOf (λ f. Q f.visible) e → HoldsOf Q (visible_end e)
end-visible Q (ended f) is = is
end-visible Q (trapped kind place) is = tt
end-visible Q (over place) is = tt

pub safe-scan : (Q : List ℤ → Type 0) (source : Source) → IsSafe Q source → (n : ℕ) (values : List ℤ) → Q values
    → HoldsOf Q (scan_from source n values).end
safe-scan Q source safe n values is =
    end-visible Q _ (safe-code Q source safe (calls_within source n) (safe-calls Q source safe n) (entry_activation source)
    source.entry.body (entry_frame source values) is)
