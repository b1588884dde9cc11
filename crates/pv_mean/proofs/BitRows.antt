-- Bit logic, nestings, jumps and ends, step by step, worked out by hand from the table of what each does.
use Rattle.std.proofs.Common.{pos, [], ◌∷◌, true, false, refl, Some, None}
use Rattle.pv_word.specs.declared.types.Ty.TheVariants as ty
use Rattle.pv_word.specs.Wrap.{wrap_at}
use Rattle.pv_word.specs.Bits.{pattern_at}
use Rattle.pv_place.specs.declared.trap.TrapKind.TheVariants.{Unset}
use Rattle.pv_tree.specs.declared.instr.Op.TheVariants as op
use Rattle.pv_mean.proofs.StepWords.{of, set, clear, frame, unset, regs, waits, number, does, goes, jumps, ends, traps, ◌gives◌, AreSame}

-- ---- Bit logic with an operand

bit_logic_with_an_operand : AreSame (
    (does ty.Int op.A (Some "x") None (regs None None false None false None None None []) (frame (of 1) None)
    gives goes (regs None None true set false None None None []) (frame (of 1) None))
    ∷ (does ty.Int op.A (Some "x") None (regs None None false None false None None None []) (frame (of 0) None)
    gives goes (regs None None true clear false None None None []) (frame (of 0) None))
    ∷ (does ty.Int op.A (Some "x") None (regs None None false clear false None None None []) (frame (of 1) None)
    gives goes (regs None None true set false None None None []) (frame (of 1) None))
    ∷ (does ty.Int op.A (Some "x") None (regs None None true set false None None None []) (frame (of 1) None)
    gives goes (regs None None true set false None None None []) (frame (of 1) None))
    ∷ (does ty.Int op.A (Some "x") None (regs None None true clear false None None None []) (frame (of 1) None)
    gives goes (regs None None true clear false None None None []) (frame (of 1) None))
    ∷ (does ty.Int op.A (Some "x") None (regs None None true set false None None None []) (frame (of 0) None)
    gives goes (regs None None true clear false None None None []) (frame (of 0) None))
    ∷ (does ty.Int op.A (Some "x") None (regs None None false clear true None None None []) (frame (of 0) None)
    gives goes (regs None None true clear true None None None []) (frame (of 0) None))
    ∷ (does ty.Int op.A (Some "x") None (regs None None true set true None None None []) (frame (of 1) None)
    gives goes (regs None None true set true None None None []) (frame (of 1) None))
    ∷ (does ty.Int op.A (Some "x") None (regs None None true clear true None None None []) (frame (of 1) None)
    gives goes (regs None None true clear true None None None []) (frame (of 1) None))
    ∷ (does ty.Int op.A (Some "x") None (regs None None false None false None None None []) unset
    gives traps Unset)
    ∷ (does ty.Int op.An (Some "x") None (regs None None false None false None None None []) (frame (of 1) None)
    gives goes (regs None None true clear false None None None []) (frame (of 1) None))
    ∷ (does ty.Int op.An (Some "x") None (regs None None true set false None None None []) (frame (of 0) None)
    gives goes (regs None None true set false None None None []) (frame (of 0) None))
    ∷ (does ty.Int op.An (Some "x") None (regs None None true set false None None None []) (frame (of 1) None)
    gives goes (regs None None true clear false None None None []) (frame (of 1) None))
    ∷ (does ty.Int op.O (Some "x") None (regs None None false None false None None None []) (frame (of 0) None)
    gives goes (regs None None true clear false None None None []) (frame (of 0) None))
    ∷ (does ty.Int op.O (Some "x") None (regs None None true clear false None None None []) (frame (of 1) None)
    gives goes (regs None None true set false None None None []) (frame (of 1) None))
    ∷ (does ty.Int op.O (Some "x") None (regs None None true clear true None None None []) (frame (of 0) None)
    gives goes (regs None None true set false None None None []) (frame (of 0) None))
    ∷ (does ty.Int op.O (Some "x") None (regs None None false clear true None None None []) (frame (of 1) None)
    gives goes (regs None None true set true None None None []) (frame (of 1) None))
    ∷ (does ty.Int op.O (Some "x") None (regs None None false set false None None None []) (frame (of 0) None)
    gives goes (regs None None true clear false None None None []) (frame (of 0) None))
    ∷ (does ty.Int op.On (Some "x") None (regs None None true clear false None None None []) (frame (of 0) None)
    gives goes (regs None None true set false None None None []) (frame (of 0) None))
    ∷ (does ty.Int op.On (Some "x") None (regs None None true clear true None None None []) (frame (of 1) None)
    gives goes (regs None None true set false None None None []) (frame (of 1) None))
    ∷ (does ty.Int op.On (Some "x") None (regs None None true clear false None None None []) (frame (of 1) None)
    gives goes (regs None None true clear false None None None []) (frame (of 1) None))
    ∷ (does ty.Int op.X (Some "x") None (regs None None false None false None None None []) (frame (of 1) None)
    gives goes (regs None None true set false None None None []) (frame (of 1) None))
    ∷ (does ty.Int op.X (Some "x") None (regs None None true set false None None None []) (frame (of 1) None)
    gives goes (regs None None true clear false None None None []) (frame (of 1) None))
    ∷ (does ty.Int op.X (Some "x") None (regs None None true clear true None None None []) (frame (of 0) None)
    gives goes (regs None None true set false None None None []) (frame (of 0) None))
    ∷ (does ty.Int op.X (Some "x") None (regs None None true clear true None None None []) (frame (of 1) None)
    gives goes (regs None None true clear false None None None []) (frame (of 1) None))
    ∷ (does ty.Int op.Xn (Some "x") None (regs None None false None false None None None []) (frame (of 0) None)
    gives goes (regs None None true set false None None None []) (frame (of 0) None))
    ∷ (does ty.Int op.Xn (Some "x") None (regs None None true set false None None None []) (frame (of 1) None)
    gives goes (regs None None true set false None None None []) (frame (of 1) None))
    ∷ (does ty.Int op.Xn (Some "x") None (regs None None true set false None None None []) (frame (of 0) None)
    gives goes (regs None None true clear false None None None []) (frame (of 0) None))
    ∷ [])
unfolding wrap_at pattern_at
bit_logic_with_an_operand = refl

-- ---- O alone

o_alone : AreSame (
    (does ty.Int op.O None None (regs None None true set false None None None []) unset
    gives goes (regs None None false clear true None None None []) unset)
    ∷ (does ty.Int op.O None None (regs None None true clear false None None None []) unset
    gives goes (regs None None false clear false None None None []) unset)
    ∷ (does ty.Int op.O None None (regs None None true clear true None None None []) unset
    gives goes (regs None None false clear true None None None []) unset)
    ∷ (does ty.Int op.O None None (regs None None false set false None None None []) unset
    gives goes (regs None None false set false None None None []) unset)
    ∷ (does ty.Int op.O None None (regs None None false None false None None None []) unset
    gives goes (regs None None false None false None None None []) unset)
    ∷ [])
unfolding wrap_at pattern_at
o_alone = refl

-- ---- Nestings

nestings : AreSame (
    (does ty.Int op.AOpen None None (regs None None true set true None None None []) unset
    gives goes (regs None None false None false None None None (waits true set true op.A ∷ [])) unset)
    ∷ (does ty.Int op.OnOpen None None (regs None None false None false None None None []) unset
    gives goes (regs None None false None false None None None (waits false None false op.On ∷ [])) unset)
    ∷ (does ty.Int op.XOpen None None (regs None None false clear false None None None (waits true set false op.A ∷ [])) unset
    gives goes (regs None None false None false None None None (waits false clear false op.X ∷ waits true set false op.A ∷ [])) unset)
    ∷ (does ty.Int op.Close None None (regs None None true set false None None None (waits true clear false op.A ∷ [])) unset
    gives goes (regs None None true clear false None None None []) unset)
    ∷ (does ty.Int op.Close None None (regs None None true set false None None None (waits true set false op.A ∷ [])) unset
    gives goes (regs None None true set false None None None []) unset)
    ∷ (does ty.Int op.Close None None (regs None None false clear true None None None (waits true set false op.A ∷ [])) unset
    gives goes (regs None None true set false None None None []) unset)
    ∷ (does ty.Int op.Close None None (regs None None true set false None None None (waits true set false op.An ∷ [])) unset
    gives goes (regs None None true clear false None None None []) unset)
    ∷ (does ty.Int op.Close None None (regs None None true set false None None None (waits true set false op.X ∷ [])) unset
    gives goes (regs None None true clear false None None None []) unset)
    ∷ (does ty.Int op.Close None None (regs None None true clear false None None None (waits true set false op.Xn ∷ [])) unset
    gives goes (regs None None true clear false None None None []) unset)
    ∷ (does ty.Int op.Close None None (regs None None true clear false None None None (waits true clear true op.O ∷ [])) unset
    gives goes (regs None None true set false None None None []) unset)
    ∷ (does ty.Int op.Close None None (regs None None true clear false None None None (waits true clear false op.On ∷ [])) unset
    gives goes (regs None None true set false None None None []) unset)
    ∷ (does ty.Int op.Close None None (regs None None true set false None None None (waits false None false op.A ∷ [])) unset
    gives goes (regs None None true set false None None None []) unset)
    ∷ (does ty.Int op.Close None None (regs None None true set false None None None (waits false None false op.An ∷ [])) unset
    gives goes (regs None None true clear false None None None []) unset)
    ∷ (does ty.Int op.Close None None (regs None None true set false None None None (waits false clear true op.A ∷ [])) unset
    gives goes (regs None None true set true None None None []) unset)
    ∷ (does ty.Int op.Close None None (regs None None true set false None None None (waits true clear false op.O ∷ waits true clear false op.X ∷ [])) unset
    gives goes (regs None None true set false None None None (waits true clear false op.X ∷ [])) unset)
    ∷ (does ty.Int op.Close None None (regs None None false None false None None None (waits true set false op.A ∷ [])) unset
    gives traps Unset)
    ∷ [])
unfolding wrap_at pattern_at
nestings = refl

-- ---- Results

results : AreSame (
    (does ty.Int op.Assign (Some "x") None (regs None None true set false None None None []) (frame (of 0) None)
    gives goes (regs None None false set false None None None []) (frame (of 1) None))
    ∷ (does ty.Int op.Assign (Some "x") None (regs None None true clear false None None None []) (frame (of 1) None)
    gives goes (regs None None false clear false None None None []) (frame (of 0) None))
    ∷ (does ty.Int op.Assign (Some "x") None (regs None None false clear true None None None []) (frame (of 0) None)
    gives goes (regs None None false set false None None None []) (frame (of 1) None))
    ∷ (does ty.Int op.Assign (Some "x") None (regs None None false None false None None None []) (frame (of 0) None)
    gives traps Unset)
    ∷ (does ty.Int op.S (Some "x") None (regs None None true set false None None None []) (frame (of 0) None)
    gives goes (regs None None false set false None None None []) (frame (of 1) None))
    ∷ (does ty.Int op.S (Some "x") None (regs None None true clear false None None None []) unset
    gives goes (regs None None false clear false None None None []) unset)
    ∷ (does ty.Int op.S (Some "x") None (regs None None false clear false None None None []) (frame (of 1) None)
    gives goes (regs None None false clear false None None None []) (frame (of 1) None))
    ∷ (does ty.Int op.S (Some "x") None (regs None None false None false None None None []) (frame (of 0) None)
    gives traps Unset)
    ∷ (does ty.Int op.R (Some "x") None (regs None None true set false None None None []) (frame (of 1) None)
    gives goes (regs None None false set false None None None []) (frame (of 0) None))
    ∷ (does ty.Int op.R (Some "x") None (regs None None true clear false None None None []) (frame (of 1) None)
    gives goes (regs None None false clear false None None None []) (frame (of 1) None))
    ∷ (does ty.Int op.R (Some "x") None (regs None None false clear true None None None []) (frame (of 1) None)
    gives goes (regs None None false set false None None None []) (frame (of 0) None))
    ∷ (does ty.Int op.Not None None (regs None None true set false None None None []) unset
    gives goes (regs None None true clear false None None None []) unset)
    ∷ (does ty.Int op.Not None None (regs None None true clear true None None None []) unset
    gives goes (regs None None true clear false None None None []) unset)
    ∷ (does ty.Int op.Not None None (regs None None false clear false None None None []) unset
    gives goes (regs None None false set false None None None []) unset)
    ∷ (does ty.Int op.Not None None (regs None None false None false None None None []) unset
    gives traps Unset)
    ∷ (does ty.Int op.Set None None (regs None None true clear true None None None []) unset
    gives goes (regs None None false set false None None None []) unset)
    ∷ (does ty.Int op.Set None None (regs None None false None false None None None []) unset
    gives goes (regs None None false set false None None None []) unset)
    ∷ (does ty.Int op.Clr None None (regs None None true set true None None None []) unset
    gives goes (regs None None false clear false None None None []) unset)
    ∷ (does ty.Int op.Fp (Some "x") None (regs None None false set false None None None []) (frame (of 0) None)
    gives goes (regs None None true set false None None None []) (frame (of 1) None))
    ∷ (does ty.Int op.Fp (Some "x") None (regs None None false set false None None None []) (frame (of 1) None)
    gives goes (regs None None true clear false None None None []) (frame (of 1) None))
    ∷ (does ty.Int op.Fp (Some "x") None (regs None None true clear false None None None []) (frame (of 1) None)
    gives goes (regs None None true clear false None None None []) (frame (of 0) None))
    ∷ (does ty.Int op.Fp (Some "x") None (regs None None false clear true None None None []) (frame (of 0) None)
    gives goes (regs None None true set false None None None []) (frame (of 1) None))
    ∷ (does ty.Int op.Fn (Some "x") None (regs None None false clear false None None None []) (frame (of 1) None)
    gives goes (regs None None true set false None None None []) (frame (of 0) None))
    ∷ (does ty.Int op.Fn (Some "x") None (regs None None false set false None None None []) (frame (of 1) None)
    gives goes (regs None None true clear false None None None []) (frame (of 1) None))
    ∷ (does ty.Int op.Fn (Some "x") None (regs None None false clear false None None None []) (frame (of 0) None)
    gives goes (regs None None true clear false None None None []) (frame (of 0) None))
    ∷ (does ty.Int op.Fn (Some "x") None (regs None None false clear true None None None []) (frame (of 1) None)
    gives goes (regs None None true clear false None None None []) (frame (of 1) None))
    ∷ (does ty.Int op.Fp (Some "x") None (regs None None false set false None None None []) unset
    gives traps Unset)
    ∷ (does ty.Int op.Fn (Some "x") None (regs None None false None false None None None []) (frame (of 1) None)
    gives traps Unset)
    ∷ (does ty.Int op.Save None None (regs None None true set true None None None []) unset
    gives goes (regs None None true set true None None None []) unset)
    ∷ (does ty.Int op.Nop None (Some (number None (pos 0))) (regs None None false set false None None None []) unset
    gives goes (regs None None false set false None None None []) unset)
    ∷ (does ty.Int op.Bld None (Some (number None (pos 255))) (regs (of 1) None false None false None None None []) unset
    gives goes (regs (of 1) None false None false None None None []) unset)
    ∷ [])
unfolding wrap_at pattern_at
results = refl

-- ---- Jumps and ends

jumps_and_ends : AreSame (
    (does ty.Int op.Ju (Some "m") None (regs None None true set true None None None []) unset
    gives jumps (regs None None true set true None None None []) unset)
    ∷ (does ty.Int op.Jc (Some "m") None (regs None None true set true None None None []) unset
    gives jumps (regs None None false set false None None None []) unset)
    ∷ (does ty.Int op.Jc (Some "m") None (regs None None true clear false None None None []) unset
    gives goes (regs None None false set false None None None []) unset)
    ∷ (does ty.Int op.Jc (Some "m") None (regs None None false clear true None None None []) unset
    gives jumps (regs None None false set false None None None []) unset)
    ∷ (does ty.Int op.Jc (Some "m") None (regs None None false None false None None None []) unset
    gives traps Unset)
    ∷ (does ty.Int op.Jcb (Some "m") None (regs None None false set false None None None []) unset
    gives jumps (regs None None false set false None None None []) unset)
    ∷ (does ty.Int op.Jcn (Some "m") None (regs None None true clear false None None None []) unset
    gives jumps (regs None None false set false None None None []) unset)
    ∷ (does ty.Int op.Jcn (Some "m") None (regs None None true set false None None None []) unset
    gives goes (regs None None false set false None None None []) unset)
    ∷ (does ty.Int op.Jnb (Some "m") None (regs None None false clear false None None None []) unset
    gives jumps (regs None None false set false None None None []) unset)
    ∷ (does ty.Int op.Jz (Some "m") None (regs None None false None false clear clear clear []) unset
    gives jumps (regs None None false None false clear clear clear []) unset)
    ∷ (does ty.Int op.Jz (Some "m") None (regs None None false None false clear set clear []) unset
    gives goes (regs None None false None false clear set clear []) unset)
    ∷ (does ty.Int op.Jz (Some "m") None (regs None None false None false None None None []) unset
    gives traps Unset)
    ∷ (does ty.Int op.Jn (Some "m") None (regs None None false None false clear clear set []) unset
    gives jumps (regs None None false None false clear clear set []) unset)
    ∷ (does ty.Int op.Jn (Some "m") None (regs None None false None false clear clear clear []) unset
    gives goes (regs None None false None false clear clear clear []) unset)
    ∷ (does ty.Int op.Jp (Some "m") None (regs None None false None false clear set clear []) unset
    gives jumps (regs None None false None false clear set clear []) unset)
    ∷ (does ty.Int op.Jp (Some "m") None (regs None None false None false clear clear clear []) unset
    gives goes (regs None None false None false clear clear clear []) unset)
    ∷ (does ty.Int op.Jm (Some "m") None (regs None None false None false clear clear set []) unset
    gives jumps (regs None None false None false clear clear set []) unset)
    ∷ (does ty.Int op.Jm (Some "m") None (regs None None false None false clear set clear []) unset
    gives goes (regs None None false None false clear set clear []) unset)
    ∷ (does ty.Int op.Jpz (Some "m") None (regs None None false None false clear clear clear []) unset
    gives jumps (regs None None false None false clear clear clear []) unset)
    ∷ (does ty.Int op.Jpz (Some "m") None (regs None None false None false clear set clear []) unset
    gives jumps (regs None None false None false clear set clear []) unset)
    ∷ (does ty.Int op.Jpz (Some "m") None (regs None None false None false clear clear set []) unset
    gives goes (regs None None false None false clear clear set []) unset)
    ∷ (does ty.Int op.Jmz (Some "m") None (regs None None false None false clear clear clear []) unset
    gives jumps (regs None None false None false clear clear clear []) unset)
    ∷ (does ty.Int op.Jmz (Some "m") None (regs None None false None false clear clear set []) unset
    gives jumps (regs None None false None false clear clear set []) unset)
    ∷ (does ty.Int op.Jmz (Some "m") None (regs None None false None false clear set clear []) unset
    gives goes (regs None None false None false clear set clear []) unset)
    ∷ (does ty.Int op.Jo (Some "m") None (regs None None false None false set clear set []) unset
    gives jumps (regs None None false None false set clear set []) unset)
    ∷ (does ty.Int op.Jo (Some "m") None (regs None None false None false clear clear set []) unset
    gives goes (regs None None false None false clear clear set []) unset)
    ∷ (does ty.Int op.Jo (Some "m") None (regs None None false None false None None None []) unset
    gives traps Unset)
    ∷ (does ty.Int op.Loop (Some "m") None (regs (of 65539) None false None false None None None []) unset
    gives jumps (regs (of 65538) None false None false None None None []) unset)
    ∷ (does ty.Int op.Loop (Some "m") None (regs (of 655361) None false None false None None None []) unset
    gives goes (regs (of 655360) None false None false None None None []) unset)
    ∷ (does ty.Int op.Loop (Some "m") None (regs (of 0) None false None false None None None []) unset
    gives jumps (regs (of 65535) None false None false None None None []) unset)
    ∷ (does ty.Int op.Loop (Some "m") None (regs None None false None false None None None []) unset
    gives traps Unset)
    ∷ (does ty.Int op.Be None None (regs None None false set false None None None []) unset
    gives ends unset)
    ∷ (does ty.Int op.Beu None None (regs None None false None false None None None []) unset
    gives ends unset)
    ∷ (does ty.Int op.Bec None None (regs None None true set false None None None []) unset
    gives ends unset)
    ∷ (does ty.Int op.Bec None None (regs None None true clear false None None None []) unset
    gives goes (regs None None false set false None None None []) unset)
    ∷ (does ty.Int op.Bec None None (regs None None false clear true None None None []) unset
    gives ends unset)
    ∷ (does ty.Int op.Bec None None (regs None None false None false None None None []) unset
    gives traps Unset)
    ∷ [])
unfolding wrap_at pattern_at
jumps_and_ends = refl
