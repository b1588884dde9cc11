-- How many checks an instruction makes, and how many ways lead on from it.
use Rattle.std.specs.Prelude.{ℕ, ◌+◌, List, [], ◌∷◌, Bool as Truth, true, false, Some, None}
use Rattle.pv_tree.specs.declared.instr.Op.{Op}
use Rattle.pv_tree.specs.declared.instr.Op.TheVariants as op
use Rattle.pv_tree.specs.Tree.{read, InstrTree}
use Rattle.pv_tree.specs.Scopes.{Scope}
use Rattle.pv_mean.specs.InstructionReads.{Read, rlo, rlo_if_checked, outer_rlo, accu1, accu2, cc1, cc0, ov, found, value, reads}
use Rattle.pv_sizes.specs.Checks.{one_if, checks_of, checks_of_target}

-- those of finding the operand are its indexes'; its value is read besides
abbrev pub checks_of_found : Scope → InstrTree → ℕ
checks_of_found scope i = elim i.operand [ None ↦ 0 | Some o ↦ checks_of_target scope o ]

abbrev pub checks_of_value : Scope → InstrTree → ℕ
checks_of_value scope i = elim i.operand [ None ↦ 0 | Some o ↦ checks_of scope (read o) ]

abbrev pub checks_of_read : Scope → InstrTree → Read → ℕ
checks_of_read scope i found = checks_of_found scope i
checks_of_read scope i value = checks_of_value scope i
checks_of_read scope i rlo = 1
checks_of_read scope i rlo_if_checked = 1
checks_of_read scope i outer_rlo = 1
checks_of_read scope i accu1 = 1
checks_of_read scope i accu2 = 1
checks_of_read scope i cc1 = 1
checks_of_read scope i cc0 = 1
checks_of_read scope i ov = 1

abbrev pub checks_of_reads : Scope → InstrTree → List Read → ℕ
checks_of_reads scope i [] = 0
checks_of_reads scope i (r ∷ more) = checks_of_read scope i r + checks_of_reads scope i more

-- the divisor is in ACCU1
abbrev pub divides_by_accu : Op → Truth
divides_by_accu op.DivI = true
divides_by_accu op.DivD = true
divides_by_accu op.Mod = true
divides_by_accu other = false

-- what it reads, then its divisor
abbrev pub checks_of_instr : Scope → InstrTree → ℕ
checks_of_instr scope i = checks_of_reads scope i (reads i i.op) + one_if (divides_by_accu i.op)

-- two where it jumps or ends the block on a condition, else one
abbrev pub ways_of : Op → ℕ
ways_of op.Jc = 2
ways_of op.Jcb = 2
ways_of op.Jcn = 2
ways_of op.Jnb = 2
ways_of op.Jz = 2
ways_of op.Jn = 2
ways_of op.Jp = 2
ways_of op.Jm = 2
ways_of op.Jpz = 2
ways_of op.Jmz = 2
ways_of op.Jo = 2
ways_of op.Loop = 2
ways_of op.Bec = 2
ways_of other = 1
