-- The code's registers as the definitions have them.
use Rattle.std.specs.Prelude.{ℕ, zero, suc, ℤ, List, [], ◌∷◌, slice_get, false, Option, Some, None}
use Rattle.pv_mean.specs.Frames.{Frame}
use Rattle.pv_mean.specs.Registers as m
use Rattle.pv_mean.specs.Registers.{by_and, by_or, by_xor, no_logic}
use Rattle.pv_mean.specs.Accumulators as numbers
use Rattle.pv_stl_run.specs.declared.numbers.Part.{Part}
use Rattle.pv_stl_run.specs.declared.numbers.Part.TheVariants.{Low, Whole}
use Rattle.pv_stl_run.specs.declared.registers.Logic.{Logic}
use Rattle.pv_stl_run.specs.declared.registers.Codes.{Codes}
use Rattle.pv_stl_run.specs.declared.registers.Joining.{Joining}
use Rattle.pv_stl_run.specs.declared.registers.Joining.TheVariants.{And, Or, Xor}
use Rattle.pv_stl_run.specs.declared.registers.Junction.{Junction}
use Rattle.pv_stl_run.specs.declared.registers.Nesting.{Nesting}
use Rattle.pv_stl_run.specs.declared.registers.Registers.{Registers}

abbrev pub part_of : Part → numbers.Part
part_of Low = numbers.low
part_of Whole = numbers.whole

abbrev pub logic_of : Logic → m.Logic
logic_of l = record { checked = l.checked; rlo = l.rlo; kept_or = l.kept_or }

abbrev pub codes_of : Codes → m.Codes
codes_of c = record { ov = c.ov; cc1 = c.cc1; cc0 = c.cc0 }

abbrev pub joining_of : Joining → m.Joining
joining_of And = by_and
joining_of Or = by_or
joining_of Xor = by_xor

abbrev pub junction_of : Junction → m.Junction
junction_of j = record { joining = joining_of j.joining; negates = j.negates }

abbrev pub nesting_of : Nesting → m.Nesting
nesting_of n = record { outer = logic_of n.outer; junction = junction_of n.junction }

-- a block's frame
abbrev pub frame_in : List ℤ → List (Option ℤ) → Frame
frame_in visible brief = record { visible = visible; brief = brief }

-- what waits at a number, if the array has it
abbrev pub nesting_at : Option Nesting → m.Nesting
nesting_at (Some n) = nesting_of n
nesting_at None = record { outer = no_logic; junction = record { joining = by_and; negates = false } }

-- the first so many, the last one first
abbrev pub open_of : List Nesting → ℕ → List m.Nesting
open_of all zero = []
open_of all (suc n) = nesting_at (slice_get all n) ∷ open_of all n

abbrev pub registers_of : Registers → m.Registers
registers_of r = record {
  accu1 = r.accu1;
  accu2 = r.accu2;
  logic = logic_of r.logic;
  codes = codes_of r.codes;
  nestings = open_of r.nestings r.depth;
}
