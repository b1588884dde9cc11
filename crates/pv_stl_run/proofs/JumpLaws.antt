-- Jumps and ends, by what decides them.
use Rattle.std.proofs.Common.{◌≡◌, Bool, true, false, Ok, Err, ap, sym, refl, ◌∙◌}
use Rattle.std.specs.Prelude.{Result}
use Rattle.pv_place.specs.declared.place.Place.{Place}
use Rattle.pv_tree.specs.Tree.{InstrTree}
use Rattle.pv_mean.specs.Frames.{Frame}
use Rattle.pv_mean.specs.Endings.{Tried, got, trap, and_then, Ended, end_of, and_end}
use Rattle.pv_mean.specs.Registers as m
use Rattle.pv_mean.specs.Registers.{Working, had, result_of, resulting, with_logic}
use Rattle.pv_mean.specs.Instructions.{Next, jump_where, by_result}
use Rattle.pv_eval.specs.declared.trap.Trap.{Trap}
use Rattle.pv_eval.specs.Traps.{tried}
use Rattle.pv_stl_run.specs.declared.instr.When.{When}
use Rattle.pv_stl_run.specs.declared.instr.When.TheVariants as when
use Rattle.pv_stl_run.specs.declared.registers.Registers.{Registers}
use Rattle.pv_stl_run.specs.Views.{registers_of}
use Rattle.pv_stl_run.specs.Rows.{test_of}
use Rattle.pv_stl_run.specs.Deciding.{Decided, decided, ends_chain, is_result, counting, decision, decided_in}
use Rattle.pv_stl_run.specs.Code.{jump_row}

abbrev by_decision : InstrTree → Frame → Decided → Ended Next
by_decision i frame d = jump_where i d.is_made (record { registers = d.registers; frame = frame })

-- what comes behind what comes behind
ends_both : {A B C : Type 0} (t : Tried A) (f : A → Tried B) (next : B → Ended C)
    → and_end (end_of (and_then t f)) next ≡ and_end (end_of t) (λ a. and_end (end_of (f a)) next)
ends_both (got a) f next = refl
ends_both (trap kind place) f next = refl

row_is : (w : When) (i : InstrTree) (r : m.Registers) (frame : Frame)
    → jump_row w i (record { registers = r; frame = frame }) ≡ and_end (end_of (decision w i.place r)) (λ d. by_decision i frame d)
row_is when.Always i r frame = refl
row_is (when.Result true) i r frame = sym (ends_both (result_of i.place r.logic)
    (λ e. got (decided (is_result true e) (with_logic r (resulting false true)))) (λ d. by_decision i frame d))
row_is (when.Result false) i r frame = sym (ends_both (result_of i.place r.logic)
    (λ e. got (decided (is_result false e) (with_logic r (resulting false true)))) (λ d. by_decision i frame d))
row_is (when.Codes test) i r frame = both (had i.place r.codes.cc1) where
  both : (t : Tried Bool)
      → and_end (end_of t) (λ one. and_end (end_of (had i.place r.codes.cc0))
      (λ zero. jump_where i (test_of test one zero) (record { registers = r; frame = frame })))
      ≡ and_end (end_of (and_then t (λ one. and_then (had i.place r.codes.cc0) (λ zero. got (decided (test_of test one zero) r)))))
      (λ d. by_decision i frame d)
  both (got one) = sym (ends_both (had i.place r.codes.cc0) (λ zero. got (decided (test_of test one zero) r)) (λ d. by_decision i frame d))
  both (trap kind place) = refl
row_is when.Overflow i r frame = sym (ends_both (had i.place r.codes.ov) (λ ov. got (decided ov r)) (λ d. by_decision i frame d))
row_is when.Counted i r frame = sym (ends_both (had i.place r.accu1) (λ a. got (counting a r)) (λ d. by_decision i frame d))

-- a jump, by what was decided
pub jumps_by : (w : When) (i : InstrTree) (place : Place) (r : m.Registers) (frame : Frame) (t : Tried Decided)
    → i.place ≡ place → t ≡ decision w place r
    → and_end (end_of t) (λ d. jump_where i d.is_made (record { registers = d.registers; frame = frame }))
    ≡ jump_row w i (record { registers = r; frame = frame })
jumps_by w i place r frame t p e =
    sym (row_is w i r frame ∙ ap (λ at. and_end (end_of (decision w at r)) (λ d. by_decision i frame d)) p
    ∙ ap (λ x. and_end (end_of x) (λ d. by_decision i frame d)) (sym e))

-- what goes by the result
pub by_result_is : (i : InstrTree) (place : Place) (w : Working) (t : Tried Bool) (next : Bool → Working → Ended Next)
    → i.place ≡ place → t ≡ result_of place w.registers.logic
    → by_result i w next
    ≡ and_end (end_of t) (λ e. next e (record { registers = with_logic w.registers (resulting false true); frame = w.frame }))
by_result_is i place w t next p e =
    ap (λ at. and_end (end_of (result_of at w.registers.logic))
    (λ b. next b (record { registers = with_logic w.registers (resulting false true); frame = w.frame }))) p
    ∙ ap (λ x. and_end (end_of x) (λ b. next b (record { registers = with_logic w.registers (resulting false true); frame = w.frame }))) (sym e)

-- ---- what is decided

pub decides_codes : (place : Place) (test : Bool → Bool → Bool) (r : m.Registers) (t : Tried Bool)
    → t ≡ and_then (had place r.codes.cc1) (λ one. and_then (had place r.codes.cc0) (λ zero. got (test one zero)))
    → and_then t (λ b. got (decided b r))
    ≡ and_then (had place r.codes.cc1) (λ one. and_then (had place r.codes.cc0) (λ zero. got (decided (test one zero) r)))
decides_codes place test r t e =
    ap (λ x. and_then x (λ b. got (decided b r))) e ∙ both (had place r.codes.cc1) (had place r.codes.cc0) where
      both : (s u : Tried Bool)
          → and_then (and_then s (λ one. and_then u (λ zero. got (test one zero)))) (λ b. got (decided b r))
          ≡ and_then s (λ one. and_then u (λ zero. got (decided (test one zero) r)))
      both (got one) (got zero) = refl
      both (got one) (trap kind at) = refl
      both (trap kind at) u = refl

pub decided_by : (t : Result Bool Trap) (r : Registers) → decided_in t r ≡ and_then (tried t) (λ b. got (decided b (registers_of r)))
decided_by (Ok b) r = refl
decided_by (Err t) r = refl

pub decides_result : (place : Place) (bit e x : Bool) (r s : m.Registers) → got e ≡ result_of place r.logic → s ≡ ends_chain r
    → x ≡ is_result bit e
    → got (decided x s) ≡ and_then (result_of place r.logic) (λ y. got (decided (is_result bit y) (ends_chain r)))
decides_result place bit e x r s re se xe =
    ap (λ y. got (decided y s)) xe
    ∙ ap (λ t. got (decided (is_result bit e) t)) se
    ∙ ap (λ t. and_then t (λ y. got (decided (is_result bit y) (ends_chain r)))) re
