-- No statement, no instruction and no call takes a brief cell's value away: each only writes spots of the block's own frame, and what a
-- called block does stays in its own brief cells.
use Rattle.std.proofs.Common.{ℕ, zero, suc, ℤ, List, [], ◌∷◌, Option, Some, None}
use Rattle.std.specs.Prelude.{◌≢◌, ⊤, slice_index_or}
use Rattle.pv_tree.specs.Tree.{OperandTree, InstrTree, StmtTrees, ArgTree}
use Rattle.pv_tree.specs.Callees.{CallSite, Callee, runs, not_declared, not_callable, unknown, callee_of}
use Rattle.pv_tree.specs.Parts.{operand_of}
use Rattle.pv_mean.specs.Sources.{Source}
use Rattle.pv_mean.specs.Frames.{Frame}
use Rattle.pv_mean.specs.Endings.{Ended, ended, trapped, over, got, and_then, and_end}
use Rattle.pv_mean.specs.Spots.{read_spot, write_spot}
use Rattle.pv_mean.specs.Activations.{Activation, scope_in}
use Rattle.pv_mean.specs.Values.{value, locate}
use Rattle.pv_mean.specs.Statements.{Returned, run_stmts}
use Rattle.pv_mean.specs.InstructionRuns.{run_stl}
use Rattle.pv_mean.specs.Calls.{Linked, outside, inside, with_inside, Passed, passed_in, passed_out, argument_for, copy_in, copy_all_in, hand_over, copy_out, copy_all_out, linked, run_call, run_body, run_callee, calls_within, instance_first}
use Rattle.pv_mean.specs.Doings.{HoldsAt, HoldsOf, HoldsIfGot}
use Rattle.pv_mean.proofs.ForCallers.{Writes, CallKeeps, then-holds, any-holds, end-holds, also-holds, holds-stmts, any-instructions, holds-stl, all-stmts}
use Rattle.pv_laws_lower.specs.Correct.{HasValue}
use Rattle.pv_laws_lower.proofs.Staying.{stays}

-- the caller's brief cell has a value
abbrev Outer : ℕ → Linked → Type 0
Outer j l = slice_index_or l.outer j None ≢ None

-- ---- copying

copied_in : (j : ℕ) (source : Source) (caller : Activation) (site : CallSite) (callee : Activation) (p : Passed) (l : Linked) → Outer j l
    → HoldsIfGot (Outer j) (copy_in source caller site callee p l)
copied_in j source caller site callee p l is = lead (argument_for site callee.block p)
  where
    lead : (arg : Option ArgTree) → HoldsIfGot (Outer j) (elim arg [
      | None ↦ got l
      | Some a ↦ and_then (value source caller (outside l) a.value)
          (λ v. got (with_inside l (write_spot source (inside l) p.spot v)))
    ])
    lead None = is
    lead (Some a) = any-holds (Outer j) (value source caller (outside l) a.value) _ (λ v. is)

all_copied_in : (j : ℕ) (source : Source) (caller : Activation) (site : CallSite) (callee : Activation) (ps : List Passed) (l : Linked)
    → Outer j l → HoldsIfGot (Outer j) (copy_all_in source caller site callee ps l)
all_copied_in j source caller site callee [] l is = is
all_copied_in j source caller site callee (p ∷ ps) l is =
    then-holds (Outer j) (Outer j) (copy_in source caller site callee p l) _ (copied_in j source caller site callee p l is)
    (λ m q. all_copied_in j source caller site callee ps m q)

handed_over : (j : ℕ) (source : Source) (caller : Activation) (target : Option OperandTree) (v : ℤ) (l : Linked) → Outer j l
    → HoldsIfGot (Outer j) (hand_over source caller target v l)
handed_over j source caller None v l is = is
handed_over j source caller (Some target) v l is =
    any-holds (Outer j) (locate source caller (outside l) target) _ (λ spot. stays source (outside l) spot v j is)

copied_out : (j : ℕ) (source : Source) (caller : Activation) (site : CallSite) (callee : Activation) (p : Passed) (l : Linked) → Outer j l
    → HoldsIfGot (Outer j) (copy_out source caller site callee p l)
copied_out j source caller site callee p l is = lead (argument_for site callee.block p)
  where
    lead : (arg : Option ArgTree) → HoldsIfGot (Outer j) (elim arg [
      | None ↦ got l
      | Some a ↦ and_then (read_spot (inside l) site.call.place p.spot)
          (λ v. hand_over source caller (operand_of a.value) v l)
    ])
    lead None = is
    lead (Some a) = any-holds (Outer j) (read_spot (inside l) site.call.place p.spot) _
        (λ v. handed_over j source caller (operand_of a.value) v l is)

all_copied_out : (j : ℕ) (source : Source) (caller : Activation) (site : CallSite) (callee : Activation) (ps : List Passed) (l : Linked)
    → Outer j l → HoldsIfGot (Outer j) (copy_all_out source caller site callee ps l)
all_copied_out j source caller site callee [] l is = is
all_copied_out j source caller site callee (p ∷ ps) l is =
    then-holds (Outer j) (Outer j) (copy_out source caller site callee p l) _ (copied_out j source caller site callee p l is)
    (λ m q. all_copied_out j source caller site callee ps m q)

-- ---- calls

-- whatever the called block leaves
any-end : (e : Ended Frame) → HoldsOf (λ f. ⊤) e
any-end (ended f) = tt
any-end (trapped kind place) = tt
any-end (over place) = tt

call-stays : (j : ℕ) (source : Source) (body : Activation → Frame → Ended Frame) (caller : Activation) (site : CallSite) (callee : Activation)
    (frame : Frame) → HasValue j frame → HoldsOf (λ back. HasValue j back.frame) (run_call source body caller site callee frame)
call-stays j source body caller site callee frame is =
    also-holds (Outer j) (λ (back : Returned). HasValue j back.frame) _ _
    (end-holds (Outer j) _
    (all_copied_in j source caller site callee (passed_in source callee) (linked source callee.block frame) is))
    (λ l p. also-holds (λ (f : Frame). ⊤) (λ (back : Returned). HasValue j back.frame) _ _ (any-end (body callee (inside l)))
    (λ f q. also-holds (Outer j) (λ (back : Returned). HasValue j back.frame) _ _
    (end-holds (Outer j) _
    (all_copied_out j source caller site callee (passed_out source site.how callee) (with_inside l f) p)) (λ m r. r)))

callee-stays : (j : ℕ) (source : Source) (body : Activation → Frame → Ended Frame) (caller : Activation) (site : CallSite) (callee : Callee)
    (frame : Frame) → HasValue j frame → HoldsOf (λ back. HasValue j back.frame) (run_callee source body caller site callee frame)
callee-stays j source body caller site (runs b) frame is =
    call-stays j source body caller site (record { block = b; first = instance_first source caller site.call }) frame is
callee-stays j source body caller site (not_declared place) frame is = is
callee-stays j source body caller site (not_callable place) frame is = is
callee-stays j source body caller site unknown frame is = is

pub calls-stay : (j : ℕ) (source : Source) (n : ℕ) (caller : Activation) (site : CallSite) (frame : Frame) → HasValue j frame
    → HoldsOf (λ back. HasValue j back.frame) (calls_within source n caller site frame)
calls-stay j source zero caller site frame is = is
calls-stay j source (suc n) caller site frame is =
    callee-stays j source (λ callee f. run_body source (calls_within source n) callee f) caller site
    (callee_of (scope_in source caller) site) frame is

-- ---- what a block does

written : (j : ℕ) (source : Source) (act : Activation) (o : OperandTree) → Writes (HasValue j) source act o
written j source act o frame spot at_frame v at is = stays source frame spot v j is

called : (j : ℕ) (source : Source) (n : ℕ) (act : Activation) (site : CallSite) → CallKeeps (HasValue j) (calls_within source n) act site
called j source n act site frame is = calls-stay j source n act site frame is

pub statements-stay : (j : ℕ) (source : Source) (n : ℕ) (act : Activation) (ss : StmtTrees) (frame : Frame) → HasValue j frame
    → HoldsAt (HasValue j) (run_stmts source (calls_within source n) act ss frame)
statements-stay j source n act ss frame is =
    holds-stmts (HasValue j) source (calls_within source n) act ss
    (all-stmts (Writes (HasValue j) source act) (CallKeeps (HasValue j) (calls_within source n) act) (written j source act)
    (called j source n act) ss) frame is

pub instructions-stay : (j : ℕ) (source : Source) (n : ℕ) (act : Activation) (xs : List InstrTree) (frame : Frame) → HasValue j frame
    → HoldsOf (HasValue j) (run_stl source (calls_within source n) act xs frame)
instructions-stay j source n act xs frame is =
    holds-stl (HasValue j) source (calls_within source n) act xs
    (any-instructions (Writes (HasValue j) source act) (CallKeeps (HasValue j) (calls_within source n) act) (written j source act)
    (called j source n act) xs) frame is
