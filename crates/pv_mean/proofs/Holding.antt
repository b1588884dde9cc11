-- What holds of a frame, where each target's write keeps it and each call does, holds of the frame in which statements end.
use Rattle.std.proofs.Common.{◌≡◌, ℕ, zero, suc, ℤ, ◌+ℤ◌, Bool, true, false, refl}
use Rattle.pv_place.specs.declared.place.Place.{Place}
use Rattle.pv_tree.specs.Tree.{OperandTree, StmtTree, assign, assign_call, if_, case_, for_, while_, repeat_, exit_, continue_, return_, call_, empty_, StmtTrees, no_stmts, stmts, ArmTrees, no_arms, arms, BranchTrees, no_branches, branches, ElseTree, no_else, else_}
use Rattle.pv_tree.specs.Callees.{as_statement, as_value, CallSite}
use Rattle.pv_mean.specs.Sources.{Source}
use Rattle.pv_mean.specs.Frames.{Frame}
use Rattle.pv_mean.specs.Endings.{Tried, got, trap, Value, Ended, ended, trapped, over, Ending, normal, at_exit, at_continue, at_return, by_trap, by_over, go_on, when_got, when_ended, and_then, end_of, and_end}
use Rattle.pv_mean.specs.Spots.{Spot, told, read_spot, write_spot}
use Rattle.pv_mean.specs.Activations.{Activation}
use Rattle.pv_mean.specs.Values.{is_true, value, locate}
use Rattle.pv_mean.specs.Statements.{Returned, Calls, is_chosen, after_turn, while_turns, repeat_turns, Counting, is_on_the_way, for_turns, counter, step_of, store, run_stmt, run_stmts, run_arms, run_branches, run_else}
use Rattle.pv_mean.specs.Doings.{EachDoing, EachInList, EachInArms, EachInBranches, EachInElse, HoldsAt, HoldsOf, HoldsIfGot}

-- ---- the ways of going on

pub holds-got : {A : Type 0} (P : Frame → Type 0) (t : Tried A) (next : A → Ending) → ((a : A) → t ≡ got a → HoldsAt P (next a))
    → HoldsAt P (when_got t next)
holds-got P (got a) next h = h a refl
holds-got P (trap kind place) next h = tt

pub holds-ended : (P : Frame → Type 0) (e : Ended Returned) (next : Returned → Ending) → HoldsOf (λ back. P back.frame) e
    → ((back : Returned) → P back.frame → HoldsAt P (next back)) → HoldsAt P (when_ended e next)
holds-ended P (ended back) next is h = h back is
holds-ended P (trapped kind place) next is h = tt
holds-ended P (over place) next is h = tt

pub holds-go_on : (P : Frame → Type 0) (e : Ending) (next : Frame → Ending) → HoldsAt P e → ((f : Frame) → P f → HoldsAt P (next f))
    → HoldsAt P (go_on e next)
holds-go_on P (normal f) next is h = h f is
holds-go_on P (at_exit f) next is h = is
holds-go_on P (at_continue f) next is h = is
holds-go_on P (at_return f) next is h = is
holds-go_on P (by_trap kind place) next is h = tt
holds-go_on P (by_over place) next is h = tt

pub holds-turn : (P : Frame → Type 0) (e : Ending) (next : Frame → Ending) → HoldsAt P e → ((f : Frame) → P f → HoldsAt P (next f))
    → HoldsAt P (after_turn e next)
holds-turn P (normal f) next is h = h f is
holds-turn P (at_exit f) next is h = is
holds-turn P (at_continue f) next is h = h f is
holds-turn P (at_return f) next is h = is
holds-turn P (by_trap kind place) next is h = tt
holds-turn P (by_over place) next is h = tt

pub holds-either : (P : Frame → Type 0) (b : Bool) (x y : Ending) → HoldsAt P x → HoldsAt P y → HoldsAt P (elim b [
  | true ↦ x
  | false ↦ y
])
holds-either P true x y p q = p
holds-either P false x y p q = q

-- ---- what is tried, and what ends

pub then-holds : {A B : Type 0} (P : A → Type 0) (R : B → Type 0) (t : Tried A) (next : A → Tried B) → HoldsIfGot P t
    → ((a : A) → P a → HoldsIfGot R (next a)) → HoldsIfGot R (and_then t next)
then-holds P R (got a) next is h = h a is
then-holds P R (trap kind place) next is h = tt

pub any-holds : {A B : Type 0} (R : B → Type 0) (t : Tried A) (next : A → Tried B) → ((a : A) → HoldsIfGot R (next a))
    → HoldsIfGot R (and_then t next)
any-holds R (got a) next h = h a
any-holds R (trap kind place) next h = tt

pub end-holds : {A : Type 0} (P : A → Type 0) (t : Tried A) → HoldsIfGot P t → HoldsOf P (end_of t)
end-holds P (got a) is = is
end-holds P (trap kind place) is = tt

pub also-holds : {A B : Type 0} (P : A → Type 0) (R : B → Type 0) (e : Ended A) (next : A → Ended B) → HoldsOf P e
    → ((a : A) → P a → HoldsOf R (next a)) → HoldsOf R (and_end e next)
also-holds P R (ended a) next is h = h a is
also-holds P R (trapped kind place) next is h = tt
also-holds P R (over place) next is h = tt

pub from-holds : {A B : Type 0} (R : B → Type 0) (t : Tried A) (next : A → Tried B) → ((a : A) → t ≡ got a → HoldsIfGot R (next a))
    → HoldsIfGot R (and_then t next)
from-holds R (got a) next h = h a refl
from-holds R (trap kind place) next h = tt

pub ends-hold : {A B : Type 0} (R : B → Type 0) (e : Ended A) (next : A → Ended B) → ((a : A) → HoldsOf R (next a))
    → HoldsOf R (and_end e next)
ends-hold R (ended a) next h = h a
ends-hold R (trapped kind place) next h = tt
ends-hold R (over place) next h = tt

-- ---- loops

pub holds-while : (P : Frame → Type 0) (condition : Frame → Value) (body : Frame → Ending) (place : Place)
    → ((f : Frame) → P f → HoldsAt P (body f)) → (n : ℕ) (frame : Frame) → P frame → HoldsAt P (while_turns condition body place n frame)
holds-while P condition body place keeps zero frame is =
    holds-got P (condition frame) _ (λ v _. holds-either P (is_true v) (by_over place) (normal frame) tt is)
holds-while P condition body place keeps (suc n) frame is =
    holds-got P (condition frame) _ (λ v _. holds-either P (is_true v)
    (after_turn (body frame) (λ f. while_turns condition body place n f)) (normal frame)
    (holds-turn P (body frame) (λ f. while_turns condition body place n f) (keeps frame is)
    (λ f p. holds-while P condition body place keeps n f p)) is)

pub holds-repeat : (P : Frame → Type 0) (condition : Frame → Value) (body : Frame → Ending) (place : Place)
    → ((f : Frame) → P f → HoldsAt P (body f)) → (n : ℕ) (frame : Frame) → P frame → HoldsAt P (repeat_turns condition body place n frame)
holds-repeat P condition body place keeps zero frame is = tt
holds-repeat P condition body place keeps (suc n) frame is =
    holds-turn P (body frame) _ (keeps frame is) (λ f p. holds-got P (condition f) _
    (λ v _. holds-either P (is_true v) (normal f) (repeat_turns condition body place n f) p
    (holds-repeat P condition body place keeps n f p)))

pub holds-for : (P : Frame → Type 0) (source : Source) (loop : Counting) (body : Frame → Ending)
    → ((f : Frame) → P f → HoldsAt P (body f)) → ((f : Frame) (v : ℤ) → P f → P (write_spot source f loop.variable v))
    → (n : ℕ) (count : ℤ) (frame : Frame) → P frame → HoldsAt P (for_turns source loop body n count frame)
holds-for P source loop body keeps writes zero count frame is =
    holds-either P (is_on_the_way loop.by count loop.last) (by_over loop.place) (normal frame) tt is
holds-for P source loop body keeps writes (suc n) count frame is =
    holds-either P (is_on_the_way loop.by count loop.last)
    (after_turn (body frame) (λ f. when_got (read_spot f loop.variable_place loop.variable)
    (λ v. for_turns source loop body n (v +ℤ loop.by) (write_spot source f loop.variable (v +ℤ loop.by)))))
    (normal frame)
    (holds-turn P (body frame) _ (keeps frame is) (λ f p. holds-got P (read_spot f loop.variable_place loop.variable) _
    (λ v _. holds-for P source loop body keeps writes n (v +ℤ loop.by) _ (writes f (v +ℤ loop.by) p)))) is

-- ---- statements

-- a write to the operand keeps it
abbrev pub Writes : (Frame → Type 0) → Source → Activation → OperandTree → Type 0
Writes P source act target = (frame : Frame) (spot : Spot) (at_frame : Frame) (v : ℤ)
    → locate source act at_frame target ≡ got spot → P frame → P (write_spot source frame spot v)

-- the call keeps it
abbrev pub CallKeeps : (Frame → Type 0) → Calls → Activation → CallSite → Type 0
CallKeeps P calls act site = (frame : Frame) → P frame → HoldsOf (λ back. P back.frame) (calls act site frame)

pub holds-store : (P : Frame → Type 0) (source : Source) (act : Activation) (target : OperandTree) (frame : Frame) (v : ℤ)
    → Writes P source act target → P frame → HoldsAt P (store source act target frame v)
holds-store P source act target frame v writes is =
    holds-got P (locate source act frame target) (λ spot. normal (write_spot source frame spot v))
    (λ spot at. writes frame spot frame v at is)

mutual
  pub holds-stmt : (P : Frame → Type 0) (source : Source) (calls : Calls) (act : Activation) (s : StmtTree)
      → EachDoing (Writes P source act) (CallKeeps P calls act) s → (frame : Frame) → P frame → HoldsAt P (run_stmt source calls act s frame)
  holds-stmt P source calls act (assign target place e) each frame is =
      holds-got P (value source act frame e) (λ v. store source act target frame v)
      (λ v _. holds-store P source act target frame v each is)
  holds-stmt P source calls act (assign_call target place call) each frame is =
      holds-ended P (calls act (record { how = as_value; call = call }) frame) _ (each.1 frame is)
      (λ back p. holds-got P (told back.value call.place) _ (λ v _. holds-store P source act target back.frame v each.0 p))
  holds-stmt P source calls act (if_ conditions other place) each frame is =
      holds-arms P source calls act (λ f. run_else source calls act other f) (λ f p. holds-else P source calls act other each.1 f p)
      conditions each.0 frame is
  holds-stmt P source calls act (case_ selector choices other place) each frame is =
      holds-got P (value source act frame selector) _ (λ v _. holds-branches P source calls act v
      (λ f. run_else source calls act other f) (λ f p. holds-else P source calls act other each.1 f p) choices each.0 frame is)
  holds-stmt P source calls act (for_ name name_place first last by body place) each frame is =
      holds-got P (value source act frame first) _ (λ v _. holds-got P (value source act frame last) _
      (λ end _. holds-got P (locate source act frame (counter name name_place)) _ (λ spot at. holds-for P source
      (record { variable = spot; variable_place = name_place; by = step_of by; last = end; place = place })
      (λ f. run_stmts source calls act body f) (λ f p. holds-stmts P source calls act body each.1 f p)
      (λ f w p. each.0 f spot frame w at p) source.bound v (write_spot source frame spot v) (each.0 frame spot frame v at is))))
  holds-stmt P source calls act (while_ condition body place) each frame is =
      holds-while P (λ f. value source act f condition) (λ f. run_stmts source calls act body f) place
      (λ f p. holds-stmts P source calls act body each f p) source.bound frame is
  holds-stmt P source calls act (repeat_ body condition place) each frame is =
      holds-repeat P (λ f. value source act f condition) (λ f. run_stmts source calls act body f) place
      (λ f p. holds-stmts P source calls act body each f p) source.bound frame is
  holds-stmt P source calls act (exit_ place) each frame is = is
  holds-stmt P source calls act (continue_ place) each frame is = is
  holds-stmt P source calls act (return_ place) each frame is = is
  holds-stmt P source calls act (call_ call) each frame is =
      holds-ended P (calls act (record { how = as_statement; call = call }) frame) _ (each frame is) (λ back p. p)
  holds-stmt P source calls act (empty_ place) each frame is = is

  pub holds-stmts : (P : Frame → Type 0) (source : Source) (calls : Calls) (act : Activation) (ss : StmtTrees)
      → EachInList (Writes P source act) (CallKeeps P calls act) ss → (frame : Frame) → P frame → HoldsAt P (run_stmts source calls act ss frame)
  holds-stmts P source calls act no_stmts each frame is = is
  holds-stmts P source calls act (stmts s more) each frame is =
      holds-go_on P (run_stmt source calls act s frame) _ (holds-stmt P source calls act s each.0 frame is)
      (λ f p. holds-stmts P source calls act more each.1 f p)

  pub holds-arms : (P : Frame → Type 0) (source : Source) (calls : Calls) (act : Activation) (otherwise : Frame → Ending)
      → ((f : Frame) → P f → HoldsAt P (otherwise f)) → (conds : ArmTrees)
      → EachInArms (Writes P source act) (CallKeeps P calls act) conds → (frame : Frame) → P frame
      → HoldsAt P (run_arms source calls act otherwise conds frame)
  holds-arms P source calls act otherwise keeps no_arms each frame is = keeps frame is
  holds-arms P source calls act otherwise keeps (arms condition body more) each frame is =
      holds-got P (value source act frame condition) _ (λ v _. holds-either P (is_true v) (run_stmts source calls act body frame)
      (run_arms source calls act otherwise more frame) (holds-stmts P source calls act body each.0 frame is)
      (holds-arms P source calls act otherwise keeps more each.1 frame is))

  pub holds-branches : (P : Frame → Type 0) (source : Source) (calls : Calls) (act : Activation) (v : ℤ) (otherwise : Frame → Ending)
      → ((f : Frame) → P f → HoldsAt P (otherwise f)) → (bs : BranchTrees)
      → EachInBranches (Writes P source act) (CallKeeps P calls act) bs → (frame : Frame) → P frame
      → HoldsAt P (run_branches source calls act v otherwise bs frame)
  holds-branches P source calls act v otherwise keeps no_branches each frame is = keeps frame is
  holds-branches P source calls act v otherwise keeps (branches choices body more) each frame is =
      holds-either P (is_chosen act v choices) (run_stmts source calls act body frame)
      (run_branches source calls act v otherwise more frame) (holds-stmts P source calls act body each.0 frame is)
      (holds-branches P source calls act v otherwise keeps more each.1 frame is)

  pub holds-else : (P : Frame → Type 0) (source : Source) (calls : Calls) (act : Activation) (other : ElseTree)
      → EachInElse (Writes P source act) (CallKeeps P calls act) other → (frame : Frame) → P frame
      → HoldsAt P (run_else source calls act other frame)
  holds-else P source calls act no_else each frame is = is
  holds-else P source calls act (else_ body) each frame is = holds-stmts P source calls act body each frame is
