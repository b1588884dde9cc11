-- Instructions on accumulators, step by step, worked out by hand from the table of what each does.
use Rattle.std.proofs.Common.{pos, negsuc, [], ◌∷◌, true, false, refl, Some, None}
use Rattle.pv_word.specs.declared.types.Ty.TheVariants as ty
use Rattle.pv_word.specs.Wrap.{wrap_at}
use Rattle.pv_word.specs.Bits.{pattern_at}
use Rattle.pv_place.specs.declared.trap.TrapKind.TheVariants.{DivideByZero, Unset}
use Rattle.pv_tree.specs.declared.instr.Op.TheVariants as op
use Rattle.pv_mean.proofs.StepWords.{of, set, clear, frame, unset, regs, number, does, goes, traps, ◌gives◌, AreSame}

-- ---- Load and transfer

load_and_transfer : AreSame (
    (does ty.Int op.L None (Some (number None (pos 5))) (regs None (of 7) false None false None None None []) unset
    gives goes (regs (of 5) None false None false None None None []) unset)
    ∷ (does ty.Int op.L None (Some (number None (negsuc 0))) (regs (of 305419896) None false None false None None None []) unset
    gives goes (regs (of 65535) (of 305419896) false None false None None None []) unset)
    ∷ (does ty.Int op.L None (Some (number None (negsuc 32767))) (regs None None false None false None None None []) unset
    gives goes (regs (of 32768) None false None false None None None []) unset)
    ∷ (does ty.Int op.L None (Some (number (Some ty.Dint) (negsuc 0))) (regs None None false None false None None None []) unset
    gives goes (regs (of 4294967295) None false None false None None None []) unset)
    ∷ (does ty.Int op.L None (Some (number (Some ty.Dint) (pos 70000))) (regs None None false None false None None None []) unset
    gives goes (regs (of 70000) None false None false None None None []) unset)
    ∷ (does ty.Int op.L None (Some (number (Some ty.Byte) (pos 255))) (regs None None false None false None None None []) unset
    gives goes (regs (of 255) None false None false None None None []) unset)
    ∷ (does ty.Int op.L None (Some (number (Some ty.Word) (pos 43981))) (regs (of 1) (of 2) false None false None None None []) unset
    gives goes (regs (of 43981) (of 1) false None false None None None []) unset)
    ∷ (does ty.Int op.L None (Some (number (Some ty.Dword) (pos 3735928559))) (regs None None false None false None None None []) unset
    gives goes (regs (of 3735928559) None false None false None None None []) unset)
    ∷ (does ty.Int op.L None (Some (number (Some ty.Dword) (pos 74565))) (regs None None false None false None None None []) unset
    gives goes (regs (of 74565) None false None false None None None []) unset)
    ∷ (does ty.Int op.L None (Some (number (Some ty.Word) (pos 65535))) (regs None None false None false None None None []) unset
    gives goes (regs (of 65535) None false None false None None None []) unset)
    ∷ (does ty.Int op.L None (Some (number (Some ty.Time) (pos 1000))) (regs None None false None false None None None []) unset
    gives goes (regs (of 1000) None false None false None None None []) unset)
    ∷ (does ty.Int op.L None (Some (number (Some ty.Time) (negsuc 0))) (regs None None false None false None None None []) unset
    gives goes (regs (of 4294967295) None false None false None None None []) unset)
    ∷ (does ty.Int op.L (Some "v") None (regs (of 9) None true set false set clear set []) (frame None (Some (negsuc 1)))
    gives goes (regs (of 65534) (of 9) true set false set clear set []) (frame None (Some (negsuc 1))))
    ∷ (does ty.Byte op.L (Some "v") None (regs None None false None false None None None []) (frame None (Some (pos 200)))
    gives goes (regs (of 200) None false None false None None None []) (frame None (Some (pos 200))))
    ∷ (does ty.Dint op.L (Some "v") None (regs None None false None false None None None []) (frame None (Some (negsuc 1)))
    gives goes (regs (of 4294967294) None false None false None None None []) (frame None (Some (negsuc 1))))
    ∷ (does ty.Int op.L (Some "v") None (regs None None false None false None None None []) unset
    gives traps Unset)
    ∷ (does ty.Byte op.T (Some "v") None (regs (of 305419896) None false None false None None None []) (frame None (Some (pos 0)))
    gives goes (regs (of 305419896) None false None false None None None []) (frame None (Some (pos 120))))
    ∷ (does ty.Int op.T (Some "v") None (regs (of 305463294) None false None false None None None []) (frame None (Some (pos 0)))
    gives goes (regs (of 305463294) None false None false None None None []) (frame None (Some (negsuc 1))))
    ∷ (does ty.Word op.T (Some "v") None (regs (of 305463294) None false None false None None None []) (frame None (Some (pos 0)))
    gives goes (regs (of 305463294) None false None false None None None []) (frame None (Some (pos 65534))))
    ∷ (does ty.Dint op.T (Some "v") None (regs (of 4294967294) None true set false None None None []) (frame None (Some (pos 0)))
    gives goes (regs (of 4294967294) None true set false None None None []) (frame None (Some (negsuc 1))))
    ∷ (does ty.Dword op.T (Some "v") None (regs (of 4294967294) None false None false None None None []) (frame None (Some (pos 0)))
    gives goes (regs (of 4294967294) None false None false None None None []) (frame None (Some (pos 4294967294))))
    ∷ (does ty.Time op.T (Some "v") None (regs (of 1000) None false None false None None None []) (frame None (Some (pos 0)))
    gives goes (regs (of 1000) None false None false None None None []) (frame None (Some (pos 1000))))
    ∷ (does ty.Int op.T (Some "v") None (regs None None false None false None None None []) (frame None (Some (pos 5)))
    gives traps Unset)
    ∷ [])
unfolding wrap_at pattern_at
load_and_transfer = refl

-- ---- Integer math

integer_math : AreSame (
    (does ty.Int op.AddI None None (regs (of 4) (of 3) false None false None None None []) unset
    gives goes (regs (of 7) (of 3) false None false clear set clear []) unset)
    ∷ (does ty.Int op.AddI None None (regs (of 1) (of 32767) false None false None None None []) unset
    gives goes (regs (of 32768) (of 32767) false None false set clear set []) unset)
    ∷ (does ty.Int op.AddI None None (regs (of 2882338817) (of 65535) false None false None None None []) unset
    gives goes (regs (of 2882338816) (of 65535) false None false clear clear clear []) unset)
    ∷ (does ty.Int op.AddI None None (regs (of 32768) (of 32768) false None false None None None []) unset
    gives goes (regs (of 0) (of 32768) false None false set clear clear []) unset)
    ∷ (does ty.Int op.AddI None None (regs None (of 1) false None false None None None []) unset
    gives traps Unset)
    ∷ (does ty.Int op.AddI None None (regs (of 1) None false None false None None None []) unset
    gives traps Unset)
    ∷ (does ty.Int op.SubI None None (regs (of 5) (of 3) true set true None None None []) unset
    gives goes (regs (of 65534) (of 3) true set true clear clear set []) unset)
    ∷ (does ty.Int op.SubI None None (regs (of 1) (of 32768) false None false None None None []) unset
    gives goes (regs (of 32767) (of 32768) false None false set set clear []) unset)
    ∷ (does ty.Int op.MulI None None (regs (of 300) (of 300) false None false None None None []) unset
    gives goes (regs (of 90000) (of 300) false None false set set clear []) unset)
    ∷ (does ty.Int op.MulI None None (regs (of 305397762) (of 65535) false None false None None None []) unset
    gives goes (regs (of 4294967294) (of 65535) false None false clear clear set []) unset)
    ∷ (does ty.Int op.MulI None None (regs (of 5) (of 0) false None false None None None []) unset
    gives goes (regs (of 0) (of 0) false None false clear clear clear []) unset)
    ∷ (does ty.Int op.MulI None None (regs (of 32768) (of 32768) false None false None None None []) unset
    gives goes (regs (of 1073741824) (of 32768) false None false set set clear []) unset)
    ∷ (does ty.Int op.DivI None None (regs (of 2) (of 7) false None false None None None []) unset
    gives goes (regs (of 65539) (of 7) false None false clear set clear []) unset)
    ∷ (does ty.Int op.DivI None None (regs (of 2) (of 65529) false None false None None None []) unset
    gives goes (regs (of 4294967293) (of 65529) false None false clear clear set []) unset)
    ∷ (does ty.Int op.DivI None None (regs (of 65534) (of 7) false None false None None None []) unset
    gives goes (regs (of 131069) (of 7) false None false clear clear set []) unset)
    ∷ (does ty.Int op.DivI None None (regs (of 2) (of 1) false None false None None None []) unset
    gives goes (regs (of 65536) (of 1) false None false clear clear clear []) unset)
    ∷ (does ty.Int op.DivI None None (regs (of 65535) (of 32768) false None false clear set clear []) unset
    gives goes (regs (of 32768) (of 32768) false None false None None None []) unset)
    ∷ (does ty.Int op.DivI None None (regs (of 65536) (of 5) false None false None None None []) unset
    gives traps DivideByZero)
    ∷ (does ty.Int op.DivI None None (regs (of 0) None false None false None None None []) unset
    gives traps Unset)
    ∷ (does ty.Int op.AddD None None (regs (of 1) (of 2147483647) false None false None None None []) unset
    gives goes (regs (of 2147483648) (of 2147483647) false None false set clear set []) unset)
    ∷ (does ty.Int op.AddD None None (regs (of 4294967291) (of 5) false None false None None None []) unset
    gives goes (regs (of 0) (of 5) false None false clear clear clear []) unset)
    ∷ (does ty.Int op.AddD None None (regs (of 1) (of 65535) false None false None None None []) unset
    gives goes (regs (of 65536) (of 65535) false None false clear set clear []) unset)
    ∷ (does ty.Int op.SubD None None (regs (of 1) (of 2147483648) false None false None None None []) unset
    gives goes (regs (of 2147483647) (of 2147483648) false None false set set clear []) unset)
    ∷ (does ty.Int op.SubD None None (regs (of 3) (of 1) false None false None None None []) unset
    gives goes (regs (of 4294967294) (of 1) false None false clear clear set []) unset)
    ∷ (does ty.Int op.MulD None None (regs (of 65536) (of 65536) false None false clear set clear []) unset
    gives goes (regs (of 0) (of 65536) false None false None None None []) unset)
    ∷ (does ty.Int op.MulD None None (regs (of 4) (of 4294967293) false None false None None None []) unset
    gives goes (regs (of 4294967284) (of 4294967293) false None false None None None []) unset)
    ∷ (does ty.Int op.DivD None None (regs (of 2) (of 4294967289) false None false None None None []) unset
    gives goes (regs (of 4294967293) (of 4294967289) false None false clear clear set []) unset)
    ∷ (does ty.Int op.DivD None None (regs (of 2) (of 1) false None false None None None []) unset
    gives goes (regs (of 0) (of 1) false None false clear clear clear []) unset)
    ∷ (does ty.Int op.DivD None None (regs (of 4294967295) (of 2147483648) false None false None None None []) unset
    gives goes (regs (of 2147483648) (of 2147483648) false None false None None None []) unset)
    ∷ (does ty.Int op.DivD None None (regs (of 0) (of 5) false None false None None None []) unset
    gives traps DivideByZero)
    ∷ (does ty.Int op.Mod None None (regs (of 2) (of 4294967289) false None false None None None []) unset
    gives goes (regs (of 4294967295) (of 4294967289) false None false clear clear set []) unset)
    ∷ (does ty.Int op.Mod None None (regs (of 3) (of 6) false None false None None None []) unset
    gives goes (regs (of 0) (of 6) false None false clear clear clear []) unset)
    ∷ (does ty.Int op.Mod None None (regs (of 4294967291) (of 7) false None false None None None []) unset
    gives goes (regs (of 2) (of 7) false None false clear set clear []) unset)
    ∷ (does ty.Int op.Mod None None (regs (of 4294967295) (of 2147483648) false None false None None None []) unset
    gives goes (regs (of 0) (of 2147483648) false None false clear clear clear []) unset)
    ∷ (does ty.Int op.Mod None None (regs (of 0) (of 7) false None false None None None []) unset
    gives traps DivideByZero)
    ∷ [])
unfolding wrap_at pattern_at
integer_math = refl

-- ---- Comparisons

comparisons : AreSame (
    (does ty.Int op.EqI None None (regs (of 5) (of 65541) true clear true set None None []) unset
    gives goes (regs (of 5) (of 65541) true set false clear clear clear []) unset)
    ∷ (does ty.Int op.EqI None None (regs (of 6) (of 5) false set false None None None []) unset
    gives goes (regs (of 6) (of 5) true clear false clear clear set []) unset)
    ∷ (does ty.Int op.NeI None None (regs (of 6) (of 5) false None false None None None []) unset
    gives goes (regs (of 6) (of 5) true set false clear clear set []) unset)
    ∷ (does ty.Int op.GtI None None (regs (of 32768) (of 32767) false None false None None None []) unset
    gives goes (regs (of 32768) (of 32767) true set false clear set clear []) unset)
    ∷ (does ty.Int op.GtI None None (regs (of 3) (of 3) true set false None None None []) unset
    gives goes (regs (of 3) (of 3) true clear false clear clear clear []) unset)
    ∷ (does ty.Int op.LtI None None (regs (of 0) (of 65535) false None false None None None []) unset
    gives goes (regs (of 0) (of 65535) true set false clear clear set []) unset)
    ∷ (does ty.Int op.GeI None None (regs (of 3) (of 3) false None false None None None []) unset
    gives goes (regs (of 3) (of 3) true set false clear clear clear []) unset)
    ∷ (does ty.Int op.LeI None None (regs (of 3) (of 4) false None false None None None []) unset
    gives goes (regs (of 3) (of 4) true clear false clear set clear []) unset)
    ∷ (does ty.Int op.EqD None None (regs (of 5) (of 65541) false None false None None None []) unset
    gives goes (regs (of 5) (of 65541) true clear false clear set clear []) unset)
    ∷ (does ty.Int op.NeD None None (regs (of 4294967295) (of 65535) false None false None None None []) unset
    gives goes (regs (of 4294967295) (of 65535) true set false clear set clear []) unset)
    ∷ (does ty.Int op.GtD None None (regs (of 1) (of 2147483648) false None false None None None []) unset
    gives goes (regs (of 1) (of 2147483648) true clear false clear clear set []) unset)
    ∷ (does ty.Int op.LtD None None (regs (of 2147483647) (of 2147483648) false None false None None None []) unset
    gives goes (regs (of 2147483647) (of 2147483648) true set false clear clear set []) unset)
    ∷ (does ty.Int op.GeD None None (regs (of 4294967295) (of 0) false None false None None None []) unset
    gives goes (regs (of 4294967295) (of 0) true set false clear set clear []) unset)
    ∷ (does ty.Int op.LeD None None (regs (of 9) (of 9) false None false None None None []) unset
    gives goes (regs (of 9) (of 9) true set false clear clear clear []) unset)
    ∷ (does ty.Int op.EqI None None (regs None (of 1) false set false None None None []) unset
    gives traps Unset)
    ∷ [])
unfolding wrap_at pattern_at
comparisons = refl

-- ---- Words bit by bit

words_bit_by_bit : AreSame (
    (does ty.Int op.Aw None None (regs (of 305459440) (of 4294967040) false None false set clear set []) unset
    gives goes (regs (of 305459200) (of 4294967040) false None false clear set clear []) unset)
    ∷ (does ty.Int op.Aw None None (regs (of 61680) (of 3855) false None false None None None []) unset
    gives goes (regs (of 0) (of 3855) false None false clear clear clear []) unset)
    ∷ (does ty.Int op.Aw None (Some (number (Some ty.Word) (pos 15))) (regs (of 305398007) None false None false None None None []) unset
    gives goes (regs (of 305397767) None false None false clear set clear []) unset)
    ∷ (does ty.Int op.Ow None None (regs (of 1) (of 491520) false None false None None None []) unset
    gives goes (regs (of 32769) (of 491520) false None false clear set clear []) unset)
    ∷ (does ty.Int op.Ow None (Some (number (Some ty.Word) (pos 0))) (regs (of 65536) None false None false None None None []) unset
    gives goes (regs (of 65536) None false None false clear clear clear []) unset)
    ∷ (does ty.Int op.Xow None None (regs (of 5) (of 5) false None false None None None []) unset
    gives goes (regs (of 0) (of 5) false None false clear clear clear []) unset)
    ∷ (does ty.Int op.Xow None (Some (number (Some ty.Word) (pos 65535))) (regs (of 1) None false None false None None None []) unset
    gives goes (regs (of 65534) None false None false clear set clear []) unset)
    ∷ (does ty.Int op.Ad None None (regs (of 4294901760) (of 305463295) false None false None None None []) unset
    gives goes (regs (of 305397760) (of 305463295) false None false clear set clear []) unset)
    ∷ (does ty.Int op.Od None (Some (number (Some ty.Dword) (pos 2147483648))) (regs (of 1) None false None false None None None []) unset
    gives goes (regs (of 2147483649) None false None false clear set clear []) unset)
    ∷ (does ty.Int op.Xod None None (regs (of 4294967295) (of 4294967295) false None false None None None []) unset
    gives goes (regs (of 0) (of 4294967295) false None false clear clear clear []) unset)
    ∷ (does ty.Int op.Aw None None (regs (of 1) None false None false None None None []) unset
    gives traps Unset)
    ∷ [])
unfolding wrap_at pattern_at
words_bit_by_bit = refl

-- ---- Shifts

shifts : AreSame (
    (does ty.Int op.Slw None (Some (number None (pos 4))) (regs (of 305441741) None false None false set set clear []) unset
    gives goes (regs (of 305446096) None false None false None None None []) unset)
    ∷ (does ty.Int op.Srw None (Some (number None (pos 15))) (regs (of 4294934528) None false None false None None None []) unset
    gives goes (regs (of 4294901761) None false None false None None None []) unset)
    ∷ (does ty.Int op.Slw None (Some (number None (pos 0))) (regs (of 5) None false None false clear clear clear []) unset
    gives goes (regs (of 5) None false None false None None None []) unset)
    ∷ (does ty.Int op.Srw None (Some (number None (pos 4))) (regs (of 61455) None false None false None None None []) unset
    gives goes (regs (of 3840) None false None false None None None []) unset)
    ∷ (does ty.Int op.Sld None (Some (number None (pos 31))) (regs (of 3) None false None false None None None []) unset
    gives goes (regs (of 2147483648) None false None false None None None []) unset)
    ∷ (does ty.Int op.Srd None (Some (number None (pos 4))) (regs (of 2147483648) None false None false clear set clear []) unset
    gives goes (regs (of 134217728) None false None false None None None []) unset)
    ∷ (does ty.Int op.Sld None (Some (number None (pos 16))) (regs (of 305419896) None false None false None None None []) unset
    gives goes (regs (of 1450704896) None false None false None None None []) unset)
    ∷ (does ty.Int op.Srd None (Some (number None (pos 1))) (regs None None false None false None None None []) unset
    gives traps Unset)
    ∷ [])
unfolding wrap_at pattern_at
shifts = refl

-- ---- Accumulators

accumulators : AreSame (
    (does ty.Int op.Itd None None (regs (of 305463294) None false None false set set clear []) unset
    gives goes (regs (of 4294967294) None false None false set set clear []) unset)
    ∷ (does ty.Int op.Itd None None (regs (of 4294934527) None false None false None None None []) unset
    gives goes (regs (of 32767) None false None false None None None []) unset)
    ∷ (does ty.Int op.Tak None None (regs (of 1) None false None false None None None []) unset
    gives goes (regs None (of 1) false None false None None None []) unset)
    ∷ (does ty.Int op.Tak None None (regs (of 1) (of 2) false None false None None None []) unset
    gives goes (regs (of 2) (of 1) false None false None None None []) unset)
    ∷ (does ty.Int op.Push None None (regs (of 1) (of 2) false None false None None None []) unset
    gives goes (regs (of 1) (of 1) false None false None None None []) unset)
    ∷ (does ty.Int op.Push None None (regs None (of 2) false None false None None None []) unset
    gives goes (regs None None false None false None None None []) unset)
    ∷ (does ty.Int op.Pop None None (regs (of 1) (of 2) false None false None None None []) unset
    gives goes (regs (of 2) (of 2) false None false None None None []) unset)
    ∷ (does ty.Int op.Pop None None (regs (of 1) None false None false None None None []) unset
    gives goes (regs None None false None false None None None []) unset)
    ∷ [])
unfolding wrap_at pattern_at
accumulators = refl
