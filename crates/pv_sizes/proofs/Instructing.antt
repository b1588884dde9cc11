-- An instruction's size: what is apart from its operand, and its operand's checks.
use Rattle.std.proofs.Common.{◌≡◌, ℕ, ◌+◌, List, [], ◌∷◌, Option, Some, None, refl, sym, ap, arith}
use Rattle.pv_types.specs.declared.declaration.Literal.{Literal}
use Rattle.pv_tree.specs.declared.instr.Op.{Op}
use Rattle.pv_tree.specs.declared.instr.Op.TheVariants as op
use Rattle.pv_tree.specs.Tree.{OperandTree, read, InstrTree}
use Rattle.pv_tree.specs.Scopes.{Scope}
use Rattle.pv_mean.specs.InstructionReads.{Read, rlo, rlo_if_checked, outer_rlo, accu1, accu2, cc1, cc0, ov, found, value, reads}
use Rattle.pv_sizes.specs.Checks.{one_if, checks_of}
use Rattle.pv_sizes.specs.Counts.{capped}
use Rattle.pv_sizes.specs.InstructionChecks.{checks_of_value, checks_of_read, checks_of_reads, checks_of_instr, divides_by_accu, ways_of}
use Rattle.pv_sizes.specs.Steps.{apart, sum_apart, behind, sum_behind, size_apart, checks_behind, joined_edges, checks_of_load}

one_read : (scope : Scope) (i : InstrTree) (r : Read) → checks_of_read scope i r ≡ apart r + behind scope i r
one_read scope i found = omega arith
one_read scope i value = omega arith
one_read scope i rlo = omega arith
one_read scope i rlo_if_checked = omega arith
one_read scope i outer_rlo = omega arith
one_read scope i accu1 = omega arith
one_read scope i accu2 = omega arith
one_read scope i cc1 = omega arith
one_read scope i cc0 = omega arith
one_read scope i ov = omega arith

all_reads : (scope : Scope) (i : InstrTree) (rs : List Read) → checks_of_reads scope i rs ≡ sum_apart rs + sum_behind scope i rs
all_reads scope i [] = refl
all_reads scope i (r ∷ more) =
    let one = one_read scope i r in let rest = all_reads scope i more in omega (arith, one, rest)

pub in_parts : (scope : Scope) (i : InstrTree) → checks_of_instr scope i + ways_of i.op ≡ size_apart i + checks_behind scope i
in_parts scope i = let all = all_reads scope i (reads i i.op) in omega (arith, all)

-- ---- rows that hang on what stands behind the word

-- the size apart from the operand, for an operator that is known
abbrev pub apart_of : InstrTree → Op → ℕ
apart_of i o = sum_apart (reads i o) + one_if (divides_by_accu o) + ways_of o

or_by : (o : Option OperandTree) → 2 ≡ sum_apart (elim o [ None ↦ rlo_if_checked ∷ [] | Some p ↦ value ∷ rlo_if_checked ∷ [] ]) + 0 + 1
or_by None = refl
or_by (Some p) = refl

pub or_apart : (i : InstrTree) → 2 ≡ apart_of i op.O
or_apart i = or_by i.operand

load_by : (l : Option Literal) → 1 ≡ sum_apart (elim l [ None ↦ value ∷ [] | Some x ↦ [] ]) + 0 + 1
load_by None = refl
load_by (Some x) = refl

pub load_apart : (i : InstrTree) → 1 ≡ apart_of i op.L
load_apart i = load_by i.literal

joined_by : (l : Option Literal) → joined_edges l ≡ sum_apart (elim l [ None ↦ accu1 ∷ accu2 ∷ [] | Some x ↦ accu1 ∷ [] ]) + 0 + 1
joined_by None = refl
joined_by (Some x) = refl

pub joined_apart : (i : InstrTree) → joined_edges i.literal ≡ apart_of i op.Aw
joined_apart i = joined_by i.literal

none_behind : (l : Option Literal) (scope : Scope) (i : InstrTree)
    → sum_behind scope i (elim l [ None ↦ accu1 ∷ accu2 ∷ [] | Some x ↦ accu1 ∷ [] ]) ≡ 0
none_behind None scope i = refl
none_behind (Some x) scope i = refl

pub joined_behind : (scope : Scope) (i : InstrTree) → 0 ≡ capped (sum_behind scope i (reads i op.Aw))
joined_behind scope i = let none = none_behind i.literal scope i in omega (arith, none)

load_of : (l : Option Literal) (scope : Scope) (i : InstrTree)
    → sum_behind scope i (elim l [ None ↦ value ∷ [] | Some x ↦ [] ]) ≡ elim l [ None ↦ checks_of_value scope i | Some x ↦ 0 ]
load_of None scope i = omega arith
load_of (Some x) scope i = refl

pub load_behind : (scope : Scope) (i : InstrTree) (r : ℕ) → r ≡ capped (checks_of_load scope i)
    → r ≡ capped (sum_behind scope i (reads i op.L))
load_behind scope i r is = let same = load_of i.literal scope i in omega (arith, is, same)

or_of : (o : Option OperandTree) (scope : Scope) (i : InstrTree) → i.operand ≡ o
    → sum_behind scope i (elim o [ None ↦ rlo_if_checked ∷ [] | Some p ↦ value ∷ rlo_if_checked ∷ [] ]) ≡ checks_of_value scope i
or_of None scope i is = sym (ap (λ o. elim o as (λ x. ℕ) [ None ↦ 0 | Some p ↦ checks_of scope (read p) ]) is)
or_of (Some p) scope i is = omega arith

pub or_behind : (scope : Scope) (i : InstrTree) (r : ℕ) → r ≡ capped (checks_of_value scope i)
    → r ≡ capped (sum_behind scope i (reads i op.O))
or_behind scope i r is = let same = or_of i.operand scope i refl in omega (arith, is, same)
