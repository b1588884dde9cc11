-- What the instructions of an STL block work with: two accumulators of 32 bits, the status bits, and the stack of open nestings.
-- After the reference manual Statement List (STL) for S7-300/S7-400; which bits an instruction reads and leaves is this project's
-- own, and so is that they have no value before one is made.
use Rattle.std.specs.Prelude.{List, [], ℤ, Bool as Truth, false, ◌||◌, Option, Some, None}
use Rattle.pv_place.specs.declared.place.Place.{Place}
use Rattle.pv_place.specs.declared.trap.TrapKind.TheVariants.{Unset}
use Rattle.pv_mean.specs.Frames.{Frame}
use Rattle.pv_mean.specs.Endings.{Tried, got, trap, and_then}

-- the bits of a chain of bit logic: whether a first check was made (/FC), the result so far (RLO), and what an O alone keeps (OR)
pub record Logic : Type 0 where
  pub checked : Truth
  pub rlo : Option Truth
  pub kept_or : Truth

-- the condition codes: OV, CC1 and CC0
pub record Codes : Type 0 where
  pub ov : Option Truth
  pub cc1 : Option Truth
  pub cc0 : Option Truth

-- a function that joins a bit to the RLO, and whether the bit is negated first
pub data Joining : Type 0 where
  by_and : Joining
  by_or : Joining
  by_xor : Joining

pub record Junction : Type 0 where
  pub joining : Joining
  pub negates : Truth

-- an open nesting: the bits before it, and the function that its result goes to
pub record Nesting : Type 0 where
  pub outer : Logic
  pub junction : Junction

-- an accumulator has a number of 32 bits, as a DWORD, or none; the nestings have the last one first
pub record Registers : Type 0 where
  pub accu1 : Option ℤ
  pub accu2 : Option ℤ
  pub logic : Logic
  pub codes : Codes
  pub nestings : List Nesting

-- what an instruction works on
pub record Working : Type 0 where
  pub registers : Registers
  pub frame : Frame

-- ---- a block's start

abbrev pub no_logic : Logic
no_logic = record { checked = false; rlo = None; kept_or = false }

abbrev pub no_codes : Codes
no_codes = record { ov = None; cc1 = None; cc0 = None }

-- at the start of a block and behind a call
abbrev pub fresh : Registers
fresh = record { accu1 = None; accu2 = None; logic = no_logic; codes = no_codes; nestings = [] }

-- ---- reads and changes

-- what has no value is read in vain
abbrev pub had : {A : Type 0} → Place → Option A → Tried A
had place None = trap Unset place
had place (Some a) = got a

-- E, the result with what is kept: RLO or OR
abbrev pub result_of : Place → Logic → Tried Truth
result_of place l = and_then (had place l.rlo) (λ r. got (r || l.kept_or))

-- a result with OR 0, as a first check or behind one
abbrev pub resulting : Truth → Truth → Logic
resulting checked rlo = record { checked = checked; rlo = Some rlo; kept_or = false }

abbrev pub with_logic : Registers → Logic → Registers
with_logic r l = record {
  accu1 = r.accu1;
  accu2 = r.accu2;
  logic = l;
  codes = r.codes;
  nestings = r.nestings;
}

abbrev pub with_accu1 : Registers → Option ℤ → Registers
with_accu1 r v = record {
  accu1 = v;
  accu2 = r.accu2;
  logic = r.logic;
  codes = r.codes;
  nestings = r.nestings;
}

abbrev pub with_accu2 : Registers → Option ℤ → Registers
with_accu2 r v = record {
  accu1 = r.accu1;
  accu2 = v;
  logic = r.logic;
  codes = r.codes;
  nestings = r.nestings;
}

abbrev pub with_codes : Registers → Codes → Registers
with_codes r c = record {
  accu1 = r.accu1;
  accu2 = r.accu2;
  logic = r.logic;
  codes = c;
  nestings = r.nestings;
}

abbrev pub with_nestings : Registers → List Nesting → Registers
with_nestings r n = record {
  accu1 = r.accu1;
  accu2 = r.accu2;
  logic = r.logic;
  codes = r.codes;
  nestings = n;
}
