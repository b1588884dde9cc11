-- Words for single steps of instructions.
use Prim.Native.String.{String}
use Rattle.std.proofs.Common.{◌≡◌, ℕ, ℤ, pos, List, [], ◌∷◌, Bool, true, false, map, codes, Option, Some, None}
use Rattle.pv_word.specs.declared.types.Ty.{Ty}
use Rattle.pv_word.specs.declared.types.Ty.TheVariants as ty
use Rattle.pv_place.specs.declared.trap.TrapKind.{TrapKind}
use Rattle.pv_types.specs.declared.declaration.Section.TheVariants.{Temp}
use Rattle.pv_types.specs.declared.declaration.Literal.{Literal}
use Rattle.pv_tree.specs.declared.instr.Op.{Op}
use Rattle.pv_tree.specs.declared.block.BlockKind.TheVariants.{Fc}
use Rattle.pv_tree.specs.Tree.{stl, BlockTree}
use Rattle.pv_mean.specs.Sources.{Source}
use Rattle.pv_mean.specs.Frames.{Frame}
use Rattle.pv_mean.specs.Endings.{Ended, ended, trapped}
use Rattle.pv_mean.specs.Calls.{calls_within}
use Rattle.pv_mean.specs.Registers.{Nesting, Registers}
use Rattle.pv_mean.specs.Instructions.{Next, onward, at_label, left, junction, step}
use Rattle.pv_mean.specs.CorrectInstructions.{plainly}
use Rattle.pv_mean.proofs.Samples.{at, name, word, declared, source_with}

-- a function with the temporary variables x : BOOL and v of a type
abbrev pub block_of : Ty → BlockTree
block_of its_ty = record {
  kind = Fc;
  name = name "F";
  vars = declared Temp ty.Bool "x" ∷ declared Temp its_ty "v" ∷ [];
  value = None;
  body = stl [];
  place = at 0;
}

-- a number, and a bit
abbrev pub of : ℕ → Option ℤ
of n = Some (pos n)

abbrev pub set : Option Bool
set = Some true

abbrev pub clear : Option Bool
clear = Some false

abbrev pub frame : Option ℤ → Option ℤ → Frame
frame x v = record { visible = []; brief = x ∷ v ∷ [] }

abbrev pub unset : Frame
unset = frame None None

-- ACCU1, ACCU2, /FC, RLO, OR, OV, CC1, CC0 and the nestings, the last one first
abbrev pub regs : Option ℤ → Option ℤ → Bool → Option Bool → Bool → Option Bool → Option Bool → Option Bool → List Nesting → Registers
regs a b checked rlo kept ov one zero nestings = record {
  accu1 = a;
  accu2 = b;
  logic = record { checked = checked; rlo = rlo; kept_or = kept };
  codes = record { ov = ov; cc1 = one; cc0 = zero };
  nestings = nestings;
}

abbrev pub waits : Bool → Option Bool → Bool → Op → Nesting
waits checked rlo kept o = record {
  outer = record { checked = checked; rlo = rlo; kept_or = kept };
  junction = junction o;
}

abbrev pub number : Option Ty → ℤ → Literal
number its_ty v = record { ty = its_ty; value = v; place = at 2 }

-- an instruction with an operand of a name, a literal or nothing
abbrev pub does : Ty → Op → Option String → Option Literal → Registers → Frame → Ended Next
does its_ty o operand literal r f =
    let source : Source = source_with (block_of its_ty) [] 16 in
    step source (calls_within source 7) (record { block = block_of its_ty; first = 0 })
    (plainly o (elim operand [ None ↦ None | Some text ↦ Some (word 2 text) ]) literal (at 1))
    (record { registers = r; frame = f })

abbrev pub goes : Registers → Frame → Ended Next
goes r f = ended (onward (record { registers = r; frame = f }))

abbrev pub jumps : Registers → Frame → Ended Next
jumps r f = ended (at_label (codes "m") (record { registers = r; frame = f }))

abbrev pub ends : Frame → Ended Next
ends f = ended (left f)

abbrev pub traps : TrapKind → Ended Next
traps kind = trapped kind (at 1)

-- one step, and what it was found to give
infixl 20 ◌gives◌
abbrev pub ◌gives◌ : Ended Next → Ended Next → Ended Next × Ended Next
a gives b = (a, b)

abbrev pub AreSame : List (Ended Next × Ended Next) → Type 0
AreSame rows = map (λ p. p.0) rows ≡ map (λ p. p.1) rows
