-- Words of STL by their table: what each one has by its shape and the rules, and what its code does with that.
use Rattle.std.proofs.Common.{◌≡◌, ◌<◌, ◌^◌, ℕ, ℤ, Bool, true, false, Option, Some, None, List, refl, sym, ap, ◌∙◌, arith}
use Rattle.std.specs.Prelude.{⊤, pos, int_le, unsigned_abs, ◌||◌}
use Rattle.std.proofs.lemmas.Bool.{true≢false, false≢true, and_parts, or_right}
use Rattle.std.proofs.lemmas.Int.{ints}
use Rattle.std.proofs.lemmas.Option.{none-some}
use Rattle.pv_word.specs.declared.types.Ty.{Ty}
use Rattle.pv_place.specs.declared.place.Place.{Place}
use Rattle.pv_types.specs.declared.declaration.Literal.{Literal}
use Rattle.pv_tree.specs.declared.instr.Op.{Op}
use Rattle.pv_tree.specs.declared.instr.Op.TheVariants as op
use Rattle.pv_tree.specs.Tree.{OperandTree, CallPlain, InstrTree}
use Rattle.pv_tree.specs.Lexemes.{Lexeme, Form, never}
use Rattle.pv_tree.specs.Calls.{SpellsCallStl}
use Rattle.pv_tree.specs.Instructions as spelled
use Rattle.pv_tree.specs.Instructions.{Shape, sort_of, shape_of, SpellsBehind, SpellsInstr, SpellsValue, SpellsInstrCall}
use Rattle.pv_tree.specs.InstructionGroups.{Group, bit_read, bit_written, load, transfer, word_logic, double_logic, word_shift, double_shift, no_operation, display, jump, opening, closing, block_end, calling, alone, group_of, is_jump}
use Rattle.pv_tree.specs.Rules.Behind.{is_number_within, takes_literal}
use Rattle.pv_program.specs.Rows.{is_joined, is_taken, is_edge, is_end, is_change, is_combined, is_shift}
use Rattle.pv_program.specs.Ready.{stands_alone, is_moved, works_on, FitsCount, is_nesting}

-- ---- what stands behind a word

abbrev One : Option OperandTree → Option Literal → Type 0
One (Some o) None = ⊤
One (Some o) (Some l) = ⊥
One None (Some l) = ⊤
One None None = ⊥

abbrev pub Has : Shape → Option OperandTree → Option Literal → Option CallPlain → Type 0
Has spelled.opening v l c = c ≡ None
Has spelled.must v l c = (c ≡ None) × One v l
Has spelled.may v l c = c ≡ None
Has spelled.calls v l c = c ≡ None → ⊥
Has spelled.calls_alone v l c = c ≡ None → ⊥

value_one : (o : Op) (v : Option OperandTree) (l : Option Literal) (tokens : List Lexeme) → SpellsValue never o v l tokens → One v l
value_one o (Some x) None tokens s = tt
value_one o (Some x) (Some y) tokens s = s
value_one o None (Some y) tokens s = tt
value_one o None None tokens s = s

call_some : (form : CallPlain → Form) (place : Place) (c : Option CallPlain) (tokens : List Lexeme) → SpellsInstrCall form place c tokens
    → c ≡ None → ⊥
call_some form place None tokens s e = s
call_some form place (Some x) tokens s e = none-some x (sym e)

behind_has : (x : Shape) (i : InstrTree) (tokens : List Lexeme) → SpellsBehind x i tokens → Has x i.operand i.literal i.call
behind_has spelled.opening i tokens s = s.0.1
behind_has spelled.must i tokens s = (s.0, value_one i.op i.operand i.literal tokens s.1)
behind_has spelled.may i tokens s = s.0
behind_has spelled.calls i tokens s = call_some SpellsCallStl i.place i.call tokens s.1
behind_has spelled.calls_alone i tokens s = call_some spelled.SpellsCallAlone i.place i.call tokens s.1

pub instr_has : (i : InstrTree) (tokens : List Lexeme) → SpellsInstr i tokens → Has (shape_of (sort_of i.op)) i.operand i.literal i.call
instr_has i tokens s = behind_has (shape_of (sort_of i.op)) i s.behind.behind.front s.behind.behind.in_front

-- by the rules the literal is one that the word takes
abbrev pub Takes : Group → Option Literal → Type 0
Takes g l = (x : Literal) → l ≡ Some x → takes_literal g x.ty x.value ≡ true

operand_only : (v : Option OperandTree) (l : Option Literal) → One v l → ((x : Literal) → l ≡ Some x → ⊥)
    → (o : OperandTree) × (v ≡ Some o)
operand_only (Some o) None one none = (o, refl)
operand_only (Some o) (Some x) one none = absurd one
operand_only None (Some x) one none = absurd (none x refl)
operand_only None None one none = absurd one

-- ---- what works on an operand

abbrev changes : Op → Option OperandTree → Option Literal → Bool
changes o v l = is_change (group_of o) || (is_combined (group_of o) || (is_shift (group_of o) || stands_alone o v l))

abbrev works : Op → Option Literal → Bool
works o l = is_joined (group_of o) || (is_taken o || (is_edge o || is_moved o l))

abbrev Works : Op → Option OperandTree → Option Literal → Type 0
Works o v l = (x : OperandTree) × (v ≡ Some x) × (works o l ≡ true)

alone_or : (v : Option OperandTree) (l : Option Literal) → changes op.O v l ≡ false → Works op.O v l
alone_or None l h = absurd (true≢false h)
alone_or (Some x) l h = (x, refl, refl)

load_or : (v : Option OperandTree) (l : Option Literal) → One v l → changes op.L v l ≡ false → Works op.L v l
load_or (Some x) None one h = (x, refl, refl)
load_or (Some x) (Some y) one h = absurd one
load_or None (Some y) one h = absurd (true≢false h)
load_or None None one h = absurd one

pub works_of : (o : Op) (v : Option OperandTree) (l : Option Literal) (c : Option CallPlain) → Has (shape_of (sort_of o)) v l c
    → Takes (group_of o) l → c ≡ None → is_jump (group_of o) ≡ false → is_end (group_of o) ≡ false → changes o v l ≡ false → Works o v l
works_of op.A v l c has takes none jumps ends h = let w = operand_only v l has.1 (λ x e. false≢true (takes x e)) in (w.0, w.1, refl)
works_of op.An v l c has takes none jumps ends h = let w = operand_only v l has.1 (λ x e. false≢true (takes x e)) in (w.0, w.1, refl)
works_of op.O v l c has takes none jumps ends h = alone_or v l h
works_of op.On v l c has takes none jumps ends h = let w = operand_only v l has.1 (λ x e. false≢true (takes x e)) in (w.0, w.1, refl)
works_of op.X v l c has takes none jumps ends h = let w = operand_only v l has.1 (λ x e. false≢true (takes x e)) in (w.0, w.1, refl)
works_of op.Xn v l c has takes none jumps ends h = let w = operand_only v l has.1 (λ x e. false≢true (takes x e)) in (w.0, w.1, refl)
works_of op.AOpen v l c has takes none jumps ends h = absurd (true≢false h)
works_of op.AnOpen v l c has takes none jumps ends h = absurd (true≢false h)
works_of op.OOpen v l c has takes none jumps ends h = absurd (true≢false h)
works_of op.OnOpen v l c has takes none jumps ends h = absurd (true≢false h)
works_of op.XOpen v l c has takes none jumps ends h = absurd (true≢false h)
works_of op.XnOpen v l c has takes none jumps ends h = absurd (true≢false h)
works_of op.Close v l c has takes none jumps ends h = absurd (true≢false h)
works_of op.Assign v l c has takes none jumps ends h = let w = operand_only v l has.1 (λ x e. false≢true (takes x e)) in (w.0, w.1, refl)
works_of op.S v l c has takes none jumps ends h = let w = operand_only v l has.1 (λ x e. false≢true (takes x e)) in (w.0, w.1, refl)
works_of op.R v l c has takes none jumps ends h = let w = operand_only v l has.1 (λ x e. false≢true (takes x e)) in (w.0, w.1, refl)
works_of op.Not v l c has takes none jumps ends h = absurd (true≢false h)
works_of op.Set v l c has takes none jumps ends h = absurd (true≢false h)
works_of op.Clr v l c has takes none jumps ends h = absurd (true≢false h)
works_of op.Fp v l c has takes none jumps ends h = let w = operand_only v l has.1 (λ x e. false≢true (takes x e)) in (w.0, w.1, refl)
works_of op.Fn v l c has takes none jumps ends h = let w = operand_only v l has.1 (λ x e. false≢true (takes x e)) in (w.0, w.1, refl)
works_of op.Save v l c has takes none jumps ends h = absurd (true≢false h)
works_of op.Nop v l c has takes none jumps ends h = absurd (true≢false h)
works_of op.Bld v l c has takes none jumps ends h = absurd (true≢false h)
works_of op.L v l c has takes none jumps ends h = load_or v l has.1 h
works_of op.T v l c has takes none jumps ends h = let w = operand_only v l has.1 (λ x e. false≢true (takes x e)) in (w.0, w.1, refl)
works_of op.AddI v l c has takes none jumps ends h = absurd (true≢false h)
works_of op.SubI v l c has takes none jumps ends h = absurd (true≢false h)
works_of op.MulI v l c has takes none jumps ends h = absurd (true≢false h)
works_of op.DivI v l c has takes none jumps ends h = absurd (true≢false h)
works_of op.AddD v l c has takes none jumps ends h = absurd (true≢false h)
works_of op.SubD v l c has takes none jumps ends h = absurd (true≢false h)
works_of op.MulD v l c has takes none jumps ends h = absurd (true≢false h)
works_of op.DivD v l c has takes none jumps ends h = absurd (true≢false h)
works_of op.Mod v l c has takes none jumps ends h = absurd (true≢false h)
works_of op.EqI v l c has takes none jumps ends h = absurd (true≢false h)
works_of op.NeI v l c has takes none jumps ends h = absurd (true≢false h)
works_of op.GtI v l c has takes none jumps ends h = absurd (true≢false h)
works_of op.LtI v l c has takes none jumps ends h = absurd (true≢false h)
works_of op.GeI v l c has takes none jumps ends h = absurd (true≢false h)
works_of op.LeI v l c has takes none jumps ends h = absurd (true≢false h)
works_of op.EqD v l c has takes none jumps ends h = absurd (true≢false h)
works_of op.NeD v l c has takes none jumps ends h = absurd (true≢false h)
works_of op.GtD v l c has takes none jumps ends h = absurd (true≢false h)
works_of op.LtD v l c has takes none jumps ends h = absurd (true≢false h)
works_of op.GeD v l c has takes none jumps ends h = absurd (true≢false h)
works_of op.LeD v l c has takes none jumps ends h = absurd (true≢false h)
works_of op.Aw v l c has takes none jumps ends h = absurd (true≢false h)
works_of op.Ow v l c has takes none jumps ends h = absurd (true≢false h)
works_of op.Xow v l c has takes none jumps ends h = absurd (true≢false h)
works_of op.Ad v l c has takes none jumps ends h = absurd (true≢false h)
works_of op.Od v l c has takes none jumps ends h = absurd (true≢false h)
works_of op.Xod v l c has takes none jumps ends h = absurd (true≢false h)
works_of op.Slw v l c has takes none jumps ends h = absurd (true≢false h)
works_of op.Srw v l c has takes none jumps ends h = absurd (true≢false h)
works_of op.Sld v l c has takes none jumps ends h = absurd (true≢false h)
works_of op.Srd v l c has takes none jumps ends h = absurd (true≢false h)
works_of op.Itd v l c has takes none jumps ends h = absurd (true≢false h)
works_of op.Tak v l c has takes none jumps ends h = absurd (true≢false h)
works_of op.Push v l c has takes none jumps ends h = absurd (true≢false h)
works_of op.Pop v l c has takes none jumps ends h = absurd (true≢false h)
works_of op.Ju v l c has takes none jumps ends h = absurd (true≢false jumps)
works_of op.Jc v l c has takes none jumps ends h = absurd (true≢false jumps)
works_of op.Jcb v l c has takes none jumps ends h = absurd (true≢false jumps)
works_of op.Jcn v l c has takes none jumps ends h = absurd (true≢false jumps)
works_of op.Jnb v l c has takes none jumps ends h = absurd (true≢false jumps)
works_of op.Jz v l c has takes none jumps ends h = absurd (true≢false jumps)
works_of op.Jn v l c has takes none jumps ends h = absurd (true≢false jumps)
works_of op.Jp v l c has takes none jumps ends h = absurd (true≢false jumps)
works_of op.Jm v l c has takes none jumps ends h = absurd (true≢false jumps)
works_of op.Jpz v l c has takes none jumps ends h = absurd (true≢false jumps)
works_of op.Jmz v l c has takes none jumps ends h = absurd (true≢false jumps)
works_of op.Jo v l c has takes none jumps ends h = absurd (true≢false jumps)
works_of op.Loop v l c has takes none jumps ends h = absurd (true≢false jumps)
works_of op.Be v l c has takes none jumps ends h = absurd (true≢false ends)
works_of op.Beu v l c has takes none jumps ends h = absurd (true≢false ends)
works_of op.Bec v l c has takes none jumps ends h = absurd (true≢false ends)
works_of op.Call v l c has takes none jumps ends h = absurd (has none)
works_of op.Uc v l c has takes none jumps ends h = absurd (has none)

-- ---- jumps

-- the operand of a jump is a label
pub label_of_jump_op : (o : Op) (v : Option OperandTree) (l : Option Literal) (c : Option CallPlain) → Has (shape_of (sort_of o)) v l c
    → Takes (group_of o) l → is_jump (group_of o) ≡ true → (x : OperandTree) × (v ≡ Some x)
label_of_jump_op op.A v l c has takes jumps = absurd (false≢true jumps)
label_of_jump_op op.An v l c has takes jumps = absurd (false≢true jumps)
label_of_jump_op op.O v l c has takes jumps = absurd (false≢true jumps)
label_of_jump_op op.On v l c has takes jumps = absurd (false≢true jumps)
label_of_jump_op op.X v l c has takes jumps = absurd (false≢true jumps)
label_of_jump_op op.Xn v l c has takes jumps = absurd (false≢true jumps)
label_of_jump_op op.AOpen v l c has takes jumps = absurd (false≢true jumps)
label_of_jump_op op.AnOpen v l c has takes jumps = absurd (false≢true jumps)
label_of_jump_op op.OOpen v l c has takes jumps = absurd (false≢true jumps)
label_of_jump_op op.OnOpen v l c has takes jumps = absurd (false≢true jumps)
label_of_jump_op op.XOpen v l c has takes jumps = absurd (false≢true jumps)
label_of_jump_op op.XnOpen v l c has takes jumps = absurd (false≢true jumps)
label_of_jump_op op.Close v l c has takes jumps = absurd (false≢true jumps)
label_of_jump_op op.Assign v l c has takes jumps = absurd (false≢true jumps)
label_of_jump_op op.S v l c has takes jumps = absurd (false≢true jumps)
label_of_jump_op op.R v l c has takes jumps = absurd (false≢true jumps)
label_of_jump_op op.Not v l c has takes jumps = absurd (false≢true jumps)
label_of_jump_op op.Set v l c has takes jumps = absurd (false≢true jumps)
label_of_jump_op op.Clr v l c has takes jumps = absurd (false≢true jumps)
label_of_jump_op op.Fp v l c has takes jumps = absurd (false≢true jumps)
label_of_jump_op op.Fn v l c has takes jumps = absurd (false≢true jumps)
label_of_jump_op op.Save v l c has takes jumps = absurd (false≢true jumps)
label_of_jump_op op.Nop v l c has takes jumps = absurd (false≢true jumps)
label_of_jump_op op.Bld v l c has takes jumps = absurd (false≢true jumps)
label_of_jump_op op.L v l c has takes jumps = absurd (false≢true jumps)
label_of_jump_op op.T v l c has takes jumps = absurd (false≢true jumps)
label_of_jump_op op.AddI v l c has takes jumps = absurd (false≢true jumps)
label_of_jump_op op.SubI v l c has takes jumps = absurd (false≢true jumps)
label_of_jump_op op.MulI v l c has takes jumps = absurd (false≢true jumps)
label_of_jump_op op.DivI v l c has takes jumps = absurd (false≢true jumps)
label_of_jump_op op.AddD v l c has takes jumps = absurd (false≢true jumps)
label_of_jump_op op.SubD v l c has takes jumps = absurd (false≢true jumps)
label_of_jump_op op.MulD v l c has takes jumps = absurd (false≢true jumps)
label_of_jump_op op.DivD v l c has takes jumps = absurd (false≢true jumps)
label_of_jump_op op.Mod v l c has takes jumps = absurd (false≢true jumps)
label_of_jump_op op.EqI v l c has takes jumps = absurd (false≢true jumps)
label_of_jump_op op.NeI v l c has takes jumps = absurd (false≢true jumps)
label_of_jump_op op.GtI v l c has takes jumps = absurd (false≢true jumps)
label_of_jump_op op.LtI v l c has takes jumps = absurd (false≢true jumps)
label_of_jump_op op.GeI v l c has takes jumps = absurd (false≢true jumps)
label_of_jump_op op.LeI v l c has takes jumps = absurd (false≢true jumps)
label_of_jump_op op.EqD v l c has takes jumps = absurd (false≢true jumps)
label_of_jump_op op.NeD v l c has takes jumps = absurd (false≢true jumps)
label_of_jump_op op.GtD v l c has takes jumps = absurd (false≢true jumps)
label_of_jump_op op.LtD v l c has takes jumps = absurd (false≢true jumps)
label_of_jump_op op.GeD v l c has takes jumps = absurd (false≢true jumps)
label_of_jump_op op.LeD v l c has takes jumps = absurd (false≢true jumps)
label_of_jump_op op.Aw v l c has takes jumps = absurd (false≢true jumps)
label_of_jump_op op.Ow v l c has takes jumps = absurd (false≢true jumps)
label_of_jump_op op.Xow v l c has takes jumps = absurd (false≢true jumps)
label_of_jump_op op.Ad v l c has takes jumps = absurd (false≢true jumps)
label_of_jump_op op.Od v l c has takes jumps = absurd (false≢true jumps)
label_of_jump_op op.Xod v l c has takes jumps = absurd (false≢true jumps)
label_of_jump_op op.Slw v l c has takes jumps = absurd (false≢true jumps)
label_of_jump_op op.Srw v l c has takes jumps = absurd (false≢true jumps)
label_of_jump_op op.Sld v l c has takes jumps = absurd (false≢true jumps)
label_of_jump_op op.Srd v l c has takes jumps = absurd (false≢true jumps)
label_of_jump_op op.Itd v l c has takes jumps = absurd (false≢true jumps)
label_of_jump_op op.Tak v l c has takes jumps = absurd (false≢true jumps)
label_of_jump_op op.Push v l c has takes jumps = absurd (false≢true jumps)
label_of_jump_op op.Pop v l c has takes jumps = absurd (false≢true jumps)
label_of_jump_op op.Ju v l c has takes jumps = operand_only v l has.1 (λ x e. false≢true (takes x e))
label_of_jump_op op.Jc v l c has takes jumps = operand_only v l has.1 (λ x e. false≢true (takes x e))
label_of_jump_op op.Jcb v l c has takes jumps = operand_only v l has.1 (λ x e. false≢true (takes x e))
label_of_jump_op op.Jcn v l c has takes jumps = operand_only v l has.1 (λ x e. false≢true (takes x e))
label_of_jump_op op.Jnb v l c has takes jumps = operand_only v l has.1 (λ x e. false≢true (takes x e))
label_of_jump_op op.Jz v l c has takes jumps = operand_only v l has.1 (λ x e. false≢true (takes x e))
label_of_jump_op op.Jn v l c has takes jumps = operand_only v l has.1 (λ x e. false≢true (takes x e))
label_of_jump_op op.Jp v l c has takes jumps = operand_only v l has.1 (λ x e. false≢true (takes x e))
label_of_jump_op op.Jm v l c has takes jumps = operand_only v l has.1 (λ x e. false≢true (takes x e))
label_of_jump_op op.Jpz v l c has takes jumps = operand_only v l has.1 (λ x e. false≢true (takes x e))
label_of_jump_op op.Jmz v l c has takes jumps = operand_only v l has.1 (λ x e. false≢true (takes x e))
label_of_jump_op op.Jo v l c has takes jumps = operand_only v l has.1 (λ x e. false≢true (takes x e))
label_of_jump_op op.Loop v l c has takes jumps = operand_only v l has.1 (λ x e. false≢true (takes x e))
label_of_jump_op op.Be v l c has takes jumps = absurd (false≢true jumps)
label_of_jump_op op.Beu v l c has takes jumps = absurd (false≢true jumps)
label_of_jump_op op.Bec v l c has takes jumps = absurd (false≢true jumps)
label_of_jump_op op.Call v l c has takes jumps = absurd (false≢true jumps)
label_of_jump_op op.Uc v l c has takes jumps = absurd (false≢true jumps)

-- ---- calls

-- what makes a call is a word of one
pub calling_of : (o : Op) (v : Option OperandTree) (l : Option Literal) (c : Option CallPlain) → Has (shape_of (sort_of o)) v l c
    → (x : CallPlain) → c ≡ Some x → group_of o ≡ calling
calling_of op.A v l c has x e = absurd (none-some x (sym has.0 ∙ e))
calling_of op.An v l c has x e = absurd (none-some x (sym has.0 ∙ e))
calling_of op.O v l c has x e = absurd (none-some x (sym has ∙ e))
calling_of op.On v l c has x e = absurd (none-some x (sym has.0 ∙ e))
calling_of op.X v l c has x e = absurd (none-some x (sym has.0 ∙ e))
calling_of op.Xn v l c has x e = absurd (none-some x (sym has.0 ∙ e))
calling_of op.AOpen v l c has x e = absurd (none-some x (sym has ∙ e))
calling_of op.AnOpen v l c has x e = absurd (none-some x (sym has ∙ e))
calling_of op.OOpen v l c has x e = absurd (none-some x (sym has ∙ e))
calling_of op.OnOpen v l c has x e = absurd (none-some x (sym has ∙ e))
calling_of op.XOpen v l c has x e = absurd (none-some x (sym has ∙ e))
calling_of op.XnOpen v l c has x e = absurd (none-some x (sym has ∙ e))
calling_of op.Close v l c has x e = absurd (none-some x (sym has ∙ e))
calling_of op.Assign v l c has x e = absurd (none-some x (sym has.0 ∙ e))
calling_of op.S v l c has x e = absurd (none-some x (sym has.0 ∙ e))
calling_of op.R v l c has x e = absurd (none-some x (sym has.0 ∙ e))
calling_of op.Not v l c has x e = absurd (none-some x (sym has ∙ e))
calling_of op.Set v l c has x e = absurd (none-some x (sym has ∙ e))
calling_of op.Clr v l c has x e = absurd (none-some x (sym has ∙ e))
calling_of op.Fp v l c has x e = absurd (none-some x (sym has.0 ∙ e))
calling_of op.Fn v l c has x e = absurd (none-some x (sym has.0 ∙ e))
calling_of op.Save v l c has x e = absurd (none-some x (sym has ∙ e))
calling_of op.Nop v l c has x e = absurd (none-some x (sym has.0 ∙ e))
calling_of op.Bld v l c has x e = absurd (none-some x (sym has.0 ∙ e))
calling_of op.L v l c has x e = absurd (none-some x (sym has.0 ∙ e))
calling_of op.T v l c has x e = absurd (none-some x (sym has.0 ∙ e))
calling_of op.AddI v l c has x e = absurd (none-some x (sym has ∙ e))
calling_of op.SubI v l c has x e = absurd (none-some x (sym has ∙ e))
calling_of op.MulI v l c has x e = absurd (none-some x (sym has ∙ e))
calling_of op.DivI v l c has x e = absurd (none-some x (sym has ∙ e))
calling_of op.AddD v l c has x e = absurd (none-some x (sym has ∙ e))
calling_of op.SubD v l c has x e = absurd (none-some x (sym has ∙ e))
calling_of op.MulD v l c has x e = absurd (none-some x (sym has ∙ e))
calling_of op.DivD v l c has x e = absurd (none-some x (sym has ∙ e))
calling_of op.Mod v l c has x e = absurd (none-some x (sym has ∙ e))
calling_of op.EqI v l c has x e = absurd (none-some x (sym has ∙ e))
calling_of op.NeI v l c has x e = absurd (none-some x (sym has ∙ e))
calling_of op.GtI v l c has x e = absurd (none-some x (sym has ∙ e))
calling_of op.LtI v l c has x e = absurd (none-some x (sym has ∙ e))
calling_of op.GeI v l c has x e = absurd (none-some x (sym has ∙ e))
calling_of op.LeI v l c has x e = absurd (none-some x (sym has ∙ e))
calling_of op.EqD v l c has x e = absurd (none-some x (sym has ∙ e))
calling_of op.NeD v l c has x e = absurd (none-some x (sym has ∙ e))
calling_of op.GtD v l c has x e = absurd (none-some x (sym has ∙ e))
calling_of op.LtD v l c has x e = absurd (none-some x (sym has ∙ e))
calling_of op.GeD v l c has x e = absurd (none-some x (sym has ∙ e))
calling_of op.LeD v l c has x e = absurd (none-some x (sym has ∙ e))
calling_of op.Aw v l c has x e = absurd (none-some x (sym has ∙ e))
calling_of op.Ow v l c has x e = absurd (none-some x (sym has ∙ e))
calling_of op.Xow v l c has x e = absurd (none-some x (sym has ∙ e))
calling_of op.Ad v l c has x e = absurd (none-some x (sym has ∙ e))
calling_of op.Od v l c has x e = absurd (none-some x (sym has ∙ e))
calling_of op.Xod v l c has x e = absurd (none-some x (sym has ∙ e))
calling_of op.Slw v l c has x e = absurd (none-some x (sym has.0 ∙ e))
calling_of op.Srw v l c has x e = absurd (none-some x (sym has.0 ∙ e))
calling_of op.Sld v l c has x e = absurd (none-some x (sym has.0 ∙ e))
calling_of op.Srd v l c has x e = absurd (none-some x (sym has.0 ∙ e))
calling_of op.Itd v l c has x e = absurd (none-some x (sym has ∙ e))
calling_of op.Tak v l c has x e = absurd (none-some x (sym has ∙ e))
calling_of op.Push v l c has x e = absurd (none-some x (sym has ∙ e))
calling_of op.Pop v l c has x e = absurd (none-some x (sym has ∙ e))
calling_of op.Ju v l c has x e = absurd (none-some x (sym has.0 ∙ e))
calling_of op.Jc v l c has x e = absurd (none-some x (sym has.0 ∙ e))
calling_of op.Jcb v l c has x e = absurd (none-some x (sym has.0 ∙ e))
calling_of op.Jcn v l c has x e = absurd (none-some x (sym has.0 ∙ e))
calling_of op.Jnb v l c has x e = absurd (none-some x (sym has.0 ∙ e))
calling_of op.Jz v l c has x e = absurd (none-some x (sym has.0 ∙ e))
calling_of op.Jn v l c has x e = absurd (none-some x (sym has.0 ∙ e))
calling_of op.Jp v l c has x e = absurd (none-some x (sym has.0 ∙ e))
calling_of op.Jm v l c has x e = absurd (none-some x (sym has.0 ∙ e))
calling_of op.Jpz v l c has x e = absurd (none-some x (sym has.0 ∙ e))
calling_of op.Jmz v l c has x e = absurd (none-some x (sym has.0 ∙ e))
calling_of op.Jo v l c has x e = absurd (none-some x (sym has.0 ∙ e))
calling_of op.Loop v l c has x e = absurd (none-some x (sym has.0 ∙ e))
calling_of op.Be v l c has x e = absurd (none-some x (sym has ∙ e))
calling_of op.Beu v l c has x e = absurd (none-some x (sym has ∙ e))
calling_of op.Bec v l c has x e = absurd (none-some x (sym has ∙ e))
calling_of op.Call v l c has x e = refl
calling_of op.Uc v l c has x e = refl

-- ---- shifts

count_within : (low high : ℕ) (ty : Option Ty) (value : ℤ) → high < 2 ^ 32 → is_number_within (pos low) (pos high) ty value ≡ true
    → unsigned_abs value < 2 ^ 32
count_within low high (Some ty) value few e = absurd (false≢true e)
count_within low high None value few e =
    let t = and_parts (int_le (pos low) value) (int_le value (pos high)) e in within value few t.0 t.1
  where
    within : (v : ℤ) → high < 2 ^ 32 → int_le (pos low) v ≡ true → int_le v (pos high) ≡ true → unsigned_abs v < 2 ^ 32
    within v few from to = omega (arith, ints, from, to, few)

pub count_of : (g : Group) (l : Option Literal) → Takes g l → is_shift g ≡ true → FitsCount l
count_of g None takes e = tt
count_of word_shift (Some x) takes e = count_within 0 15 x.ty x.value (omega arith) (takes x refl)
count_of double_shift (Some x) takes e = count_within 0 31 x.ty x.value (omega arith) (takes x refl)
count_of bit_read (Some x) takes e = absurd (false≢true e)
count_of bit_written (Some x) takes e = absurd (false≢true e)
count_of load (Some x) takes e = absurd (false≢true e)
count_of transfer (Some x) takes e = absurd (false≢true e)
count_of word_logic (Some x) takes e = absurd (false≢true e)
count_of double_logic (Some x) takes e = absurd (false≢true e)
count_of no_operation (Some x) takes e = absurd (false≢true e)
count_of display (Some x) takes e = absurd (false≢true e)
count_of jump (Some x) takes e = absurd (false≢true e)
count_of opening (Some x) takes e = absurd (false≢true e)
count_of closing (Some x) takes e = absurd (false≢true e)
count_of block_end (Some x) takes e = absurd (false≢true e)
count_of calling (Some x) takes e = absurd (false≢true e)
count_of alone (Some x) takes e = absurd (false≢true e)

-- ---- which words neither open nor close

pub combined_stays : (g : Group) → is_combined g ≡ true → is_nesting g ≡ false
combined_stays bit_read e = absurd (false≢true e)
combined_stays bit_written e = absurd (false≢true e)
combined_stays load e = absurd (false≢true e)
combined_stays transfer e = absurd (false≢true e)
combined_stays word_logic e = refl
combined_stays double_logic e = refl
combined_stays word_shift e = absurd (false≢true e)
combined_stays double_shift e = absurd (false≢true e)
combined_stays no_operation e = absurd (false≢true e)
combined_stays display e = absurd (false≢true e)
combined_stays jump e = absurd (false≢true e)
combined_stays opening e = absurd (false≢true e)
combined_stays closing e = absurd (false≢true e)
combined_stays block_end e = absurd (false≢true e)
combined_stays calling e = absurd (false≢true e)
combined_stays alone e = absurd (false≢true e)

pub shift_stays : (g : Group) → is_shift g ≡ true → is_nesting g ≡ false
shift_stays bit_read e = absurd (false≢true e)
shift_stays bit_written e = absurd (false≢true e)
shift_stays load e = absurd (false≢true e)
shift_stays transfer e = absurd (false≢true e)
shift_stays word_logic e = absurd (false≢true e)
shift_stays double_logic e = absurd (false≢true e)
shift_stays word_shift e = refl
shift_stays double_shift e = refl
shift_stays no_operation e = absurd (false≢true e)
shift_stays display e = absurd (false≢true e)
shift_stays jump e = absurd (false≢true e)
shift_stays opening e = absurd (false≢true e)
shift_stays closing e = absurd (false≢true e)
shift_stays block_end e = absurd (false≢true e)
shift_stays calling e = absurd (false≢true e)
shift_stays alone e = absurd (false≢true e)

pub joined_stays : (g : Group) → is_joined g ≡ true → is_nesting g ≡ false
joined_stays bit_read e = refl
joined_stays bit_written e = absurd (false≢true e)
joined_stays load e = absurd (false≢true e)
joined_stays transfer e = absurd (false≢true e)
joined_stays word_logic e = absurd (false≢true e)
joined_stays double_logic e = absurd (false≢true e)
joined_stays word_shift e = absurd (false≢true e)
joined_stays double_shift e = absurd (false≢true e)
joined_stays no_operation e = absurd (false≢true e)
joined_stays display e = absurd (false≢true e)
joined_stays jump e = absurd (false≢true e)
joined_stays opening e = absurd (false≢true e)
joined_stays closing e = absurd (false≢true e)
joined_stays block_end e = absurd (false≢true e)
joined_stays calling e = absurd (false≢true e)
joined_stays alone e = absurd (false≢true e)

pub jumps_so : (g : Group) → is_jump g ≡ true → g ≡ jump
jumps_so bit_read e = absurd (false≢true e)
jumps_so bit_written e = absurd (false≢true e)
jumps_so load e = absurd (false≢true e)
jumps_so transfer e = absurd (false≢true e)
jumps_so word_logic e = absurd (false≢true e)
jumps_so double_logic e = absurd (false≢true e)
jumps_so word_shift e = absurd (false≢true e)
jumps_so double_shift e = absurd (false≢true e)
jumps_so no_operation e = absurd (false≢true e)
jumps_so display e = absurd (false≢true e)
jumps_so jump e = refl
jumps_so opening e = absurd (false≢true e)
jumps_so closing e = absurd (false≢true e)
jumps_so block_end e = absurd (false≢true e)
jumps_so calling e = absurd (false≢true e)
jumps_so alone e = absurd (false≢true e)

pub written_stays : (o : Op) → (is_taken o || is_edge o) ≡ true → is_nesting (group_of o) ≡ false
written_stays op.A e = absurd (false≢true e)
written_stays op.An e = absurd (false≢true e)
written_stays op.O e = absurd (false≢true e)
written_stays op.On e = absurd (false≢true e)
written_stays op.X e = absurd (false≢true e)
written_stays op.Xn e = absurd (false≢true e)
written_stays op.AOpen e = absurd (false≢true e)
written_stays op.AnOpen e = absurd (false≢true e)
written_stays op.OOpen e = absurd (false≢true e)
written_stays op.OnOpen e = absurd (false≢true e)
written_stays op.XOpen e = absurd (false≢true e)
written_stays op.XnOpen e = absurd (false≢true e)
written_stays op.Close e = absurd (false≢true e)
written_stays op.Assign e = refl
written_stays op.S e = refl
written_stays op.R e = refl
written_stays op.Not e = absurd (false≢true e)
written_stays op.Set e = absurd (false≢true e)
written_stays op.Clr e = absurd (false≢true e)
written_stays op.Fp e = refl
written_stays op.Fn e = refl
written_stays op.Save e = absurd (false≢true e)
written_stays op.Nop e = absurd (false≢true e)
written_stays op.Bld e = absurd (false≢true e)
written_stays op.L e = absurd (false≢true e)
written_stays op.T e = absurd (false≢true e)
written_stays op.AddI e = absurd (false≢true e)
written_stays op.SubI e = absurd (false≢true e)
written_stays op.MulI e = absurd (false≢true e)
written_stays op.DivI e = absurd (false≢true e)
written_stays op.AddD e = absurd (false≢true e)
written_stays op.SubD e = absurd (false≢true e)
written_stays op.MulD e = absurd (false≢true e)
written_stays op.DivD e = absurd (false≢true e)
written_stays op.Mod e = absurd (false≢true e)
written_stays op.EqI e = absurd (false≢true e)
written_stays op.NeI e = absurd (false≢true e)
written_stays op.GtI e = absurd (false≢true e)
written_stays op.LtI e = absurd (false≢true e)
written_stays op.GeI e = absurd (false≢true e)
written_stays op.LeI e = absurd (false≢true e)
written_stays op.EqD e = absurd (false≢true e)
written_stays op.NeD e = absurd (false≢true e)
written_stays op.GtD e = absurd (false≢true e)
written_stays op.LtD e = absurd (false≢true e)
written_stays op.GeD e = absurd (false≢true e)
written_stays op.LeD e = absurd (false≢true e)
written_stays op.Aw e = absurd (false≢true e)
written_stays op.Ow e = absurd (false≢true e)
written_stays op.Xow e = absurd (false≢true e)
written_stays op.Ad e = absurd (false≢true e)
written_stays op.Od e = absurd (false≢true e)
written_stays op.Xod e = absurd (false≢true e)
written_stays op.Slw e = absurd (false≢true e)
written_stays op.Srw e = absurd (false≢true e)
written_stays op.Sld e = absurd (false≢true e)
written_stays op.Srd e = absurd (false≢true e)
written_stays op.Itd e = absurd (false≢true e)
written_stays op.Tak e = absurd (false≢true e)
written_stays op.Push e = absurd (false≢true e)
written_stays op.Pop e = absurd (false≢true e)
written_stays op.Ju e = absurd (false≢true e)
written_stays op.Jc e = absurd (false≢true e)
written_stays op.Jcb e = absurd (false≢true e)
written_stays op.Jcn e = absurd (false≢true e)
written_stays op.Jnb e = absurd (false≢true e)
written_stays op.Jz e = absurd (false≢true e)
written_stays op.Jn e = absurd (false≢true e)
written_stays op.Jp e = absurd (false≢true e)
written_stays op.Jm e = absurd (false≢true e)
written_stays op.Jpz e = absurd (false≢true e)
written_stays op.Jmz e = absurd (false≢true e)
written_stays op.Jo e = absurd (false≢true e)
written_stays op.Loop e = absurd (false≢true e)
written_stays op.Be e = absurd (false≢true e)
written_stays op.Beu e = absurd (false≢true e)
written_stays op.Bec e = absurd (false≢true e)
written_stays op.Call e = absurd (false≢true e)
written_stays op.Uc e = absurd (false≢true e)

pub taken_stays : (o : Op) → is_taken o ≡ true → is_nesting (group_of o) ≡ false
taken_stays o e = written_stays o (ap (λ b. b || is_edge o) e)

pub edge_stays : (o : Op) → is_edge o ≡ true → is_nesting (group_of o) ≡ false
edge_stays o e = written_stays o (or_right (is_taken o) (is_edge o) e)

-- what works on its operand and is none of these moves it
or_left : (a b : Bool) → false ≡ a → (a || b) ≡ true → b ≡ true
or_left true b e h = absurd (false≢true e)
or_left false b e h = h

pub moved_left : (i : InstrTree) → false ≡ is_joined (group_of i.op) → false ≡ is_taken i.op → false ≡ is_edge i.op → works_on i ≡ true
    → is_moved i.op i.literal ≡ true
moved_left i join take edge on =
    or_left (is_edge i.op) (is_moved i.op i.literal) edge
    (or_left (is_taken i.op) (is_edge i.op || is_moved i.op i.literal) take
    (or_left (is_joined (group_of i.op)) (is_taken i.op || (is_edge i.op || is_moved i.op i.literal)) join on))
