-- Whether a jump is made, and what is left of the registers then.
use Rattle.std.specs.Prelude.{ℤ, pos, Bool as Truth, true, false, not, Some, Result, Ok, Err}
use Rattle.std.specs.Ordering.{int_eq}
use Rattle.pv_place.specs.declared.place.Place.{Place}
use Rattle.pv_mean.specs.Endings.{Tried, got, trap, and_then}
use Rattle.pv_mean.specs.Registers as m
use Rattle.pv_mean.specs.Registers.{had, result_of, resulting, with_logic, with_accu1}
use Rattle.pv_mean.specs.Accumulators.{low, put, counted}
use Rattle.pv_eval.specs.declared.trap.Trap.{Trap}
use Rattle.pv_stl_run.specs.declared.instr.When.{When}
use Rattle.pv_stl_run.specs.declared.instr.When.TheVariants as when
use Rattle.pv_stl_run.specs.declared.registers.Registers.{Registers}
use Rattle.pv_stl_run.specs.Views.{registers_of}
use Rattle.pv_stl_run.specs.Rows.{test_of}

pub record Decided : Type 0 where
  pub is_made : Truth
  pub registers : m.Registers

abbrev pub decided : Truth → m.Registers → Decided
decided b r = record { is_made = b; registers = r }

abbrev pub ends_chain : m.Registers → m.Registers
ends_chain r = with_logic r (resulting false true)

-- the result is this
abbrev pub is_result : Truth → Truth → Truth
is_result true e = e
is_result false e = not e

-- LOOP
abbrev pub counting : ℤ → m.Registers → Decided
counting a r = decided (not (int_eq (counted a) (pos 0)))
    (with_accu1 r (Some (put low a (counted a))))

abbrev pub decision : When → Place → m.Registers → Tried Decided
decision when.Always place r = got (decided true r)
decision (when.Result bit) place r = and_then (result_of place r.logic)
    (λ e. got (decided (is_result bit e) (ends_chain r)))
decision (when.Codes test) place r = and_then (had place r.codes.cc1)
    (λ one. and_then (had place r.codes.cc0) (λ zero. got (decided (test_of test one zero) r)))
decision when.Overflow place r =
    and_then (had place r.codes.ov) (λ ov. got (decided ov r))
decision when.Counted place r = and_then (had place r.accu1) (λ a. got (counting a r))

abbrev pub decided_in : Result Truth Trap → Registers → Tried Decided
decided_in (Ok b) r = got (decided b (registers_of r))
decided_in (Err t) r = trap t.kind t.place
