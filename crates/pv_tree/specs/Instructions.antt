-- Instructions of STL: which tokens spell them, and which are well formed.
use Prim.Native.String.{String}
use Rattle.std.specs.Prelude.{◌≡◌, false, List, [], ◌∷◌, All, Option, Some, None}
use Rattle.pv_place.specs.declared.place.Place.{Place}
use Rattle.pv_types.specs.declared.declaration.Literal.{Literal}
use Rattle.pv_tree.specs.declared.instr.Op.{Op}
use Rattle.pv_tree.specs.declared.instr.Op.TheVariants as op
use Rattle.pv_tree.specs.Tree.{PlacedName, OperandTree, CallPlain, InstrTree}
use Rattle.pv_tree.specs.Lexemes.{Lexeme, Form, nothing, never, one, ◌⨾◌, when, IsAt, IsWord, IsSign, sign}
use Rattle.pv_tree.specs.Words.{SpellsWord, SpellsName}
use Rattle.pv_tree.specs.Literals.{SpellsLiteral, SpellsLoaded}
use Rattle.pv_tree.specs.Expressions.{SpellsOperand, IsFormedOperand}
use Rattle.pv_tree.specs.Calls.{SpellsCallStl, IsFormedCallStl, IsFreeOption}

-- what stands behind an instruction's word or sign
pub data Shape : Type 0 where
  opening : Shape  -- `(`
  must : Shape  -- an operand or a literal
  may : Shape  -- an operand, a literal, or nothing
  calls : Shape  -- a call with its arguments
  calls_alone : Shape  -- the name of a function that is called

-- an instruction's word or sign, and what stands behind it
pub data Sort : Type 0 where
  by_word : String → Shape → Sort
  by_sign : String → Shape → Sort

-- the table of instructions
abbrev pub sort_of : Op → Sort
sort_of op.A = by_word "A" must
sort_of op.An = by_word "AN" must
sort_of op.O = by_word "O" may
sort_of op.On = by_word "ON" must
sort_of op.X = by_word "X" must
sort_of op.Xn = by_word "XN" must
sort_of op.AOpen = by_word "A" opening
sort_of op.AnOpen = by_word "AN" opening
sort_of op.OOpen = by_word "O" opening
sort_of op.OnOpen = by_word "ON" opening
sort_of op.XOpen = by_word "X" opening
sort_of op.XnOpen = by_word "XN" opening
sort_of op.Close = by_sign ")" may
sort_of op.Assign = by_sign "=" must
sort_of op.S = by_word "S" must
sort_of op.R = by_word "R" must
sort_of op.Not = by_word "NOT" may
sort_of op.Set = by_word "SET" may
sort_of op.Clr = by_word "CLR" may
sort_of op.Fp = by_word "FP" must
sort_of op.Fn = by_word "FN" must
sort_of op.Save = by_word "SAVE" may
sort_of op.Nop = by_word "NOP" must
sort_of op.Bld = by_word "BLD" must
sort_of op.L = by_word "L" must
sort_of op.T = by_word "T" must
sort_of op.AddI = by_sign "+I" may
sort_of op.SubI = by_sign "-I" may
sort_of op.MulI = by_sign "*I" may
sort_of op.DivI = by_sign "/I" may
sort_of op.AddD = by_sign "+D" may
sort_of op.SubD = by_sign "-D" may
sort_of op.MulD = by_sign "*D" may
sort_of op.DivD = by_sign "/D" may
sort_of op.Mod = by_word "MOD" may
sort_of op.EqI = by_sign "==I" may
sort_of op.NeI = by_sign "<>I" may
sort_of op.GtI = by_sign ">I" may
sort_of op.LtI = by_sign "<I" may
sort_of op.GeI = by_sign ">=I" may
sort_of op.LeI = by_sign "<=I" may
sort_of op.EqD = by_sign "==D" may
sort_of op.NeD = by_sign "<>D" may
sort_of op.GtD = by_sign ">D" may
sort_of op.LtD = by_sign "<D" may
sort_of op.GeD = by_sign ">=D" may
sort_of op.LeD = by_sign "<=D" may
sort_of op.Aw = by_word "AW" may
sort_of op.Ow = by_word "OW" may
sort_of op.Xow = by_word "XOW" may
sort_of op.Ad = by_word "AD" may
sort_of op.Od = by_word "OD" may
sort_of op.Xod = by_word "XOD" may
sort_of op.Slw = by_word "SLW" must
sort_of op.Srw = by_word "SRW" must
sort_of op.Sld = by_word "SLD" must
sort_of op.Srd = by_word "SRD" must
sort_of op.Itd = by_word "ITD" may
sort_of op.Tak = by_word "TAK" may
sort_of op.Push = by_word "PUSH" may
sort_of op.Pop = by_word "POP" may
sort_of op.Ju = by_word "JU" must
sort_of op.Jc = by_word "JC" must
sort_of op.Jcb = by_word "JCB" must
sort_of op.Jcn = by_word "JCN" must
sort_of op.Jnb = by_word "JNB" must
sort_of op.Jz = by_word "JZ" must
sort_of op.Jn = by_word "JN" must
sort_of op.Jp = by_word "JP" must
sort_of op.Jm = by_word "JM" must
sort_of op.Jpz = by_word "JPZ" must
sort_of op.Jmz = by_word "JMZ" must
sort_of op.Jo = by_word "JO" must
sort_of op.Loop = by_word "LOOP" must
sort_of op.Be = by_word "BE" may
sort_of op.Beu = by_word "BEU" may
sort_of op.Bec = by_word "BEC" may
sort_of op.Call = by_word "CALL" calls
sort_of op.Uc = by_word "UC" calls_alone

-- the token of such an instruction
abbrev pub IsOfSort : Sort → Lexeme → Type 0
IsOfSort (by_word text shape) t = IsWord text t
IsOfSort (by_sign text shape) t = IsSign text t

abbrev pub shape_of : Sort → Shape
shape_of (by_word text shape) = shape
shape_of (by_sign text shape) = shape

-- a literal: L gives a number in a base a type
abbrev pub SpellsOperandLiteral : Op → Literal → Form
SpellsOperandLiteral op.L literal = SpellsLoaded literal
SpellsOperandLiteral _ literal = SpellsLiteral literal

-- an operand or a literal; `none` where there is neither
abbrev pub SpellsValue : Form → Op → Option OperandTree → Option Literal → Form
SpellsValue none its_op (Some variable) None = SpellsOperand variable
SpellsValue none its_op None (Some literal) = SpellsOperandLiteral its_op literal
SpellsValue none its_op None None = none
SpellsValue none its_op (Some variable) (Some literal) = never

-- neither
abbrev pub has_no_value : InstrTree → Type 0
has_no_value instr = (instr.operand ≡ None) × (instr.literal ≡ None)

-- a call that begins where its instruction's word stands
abbrev pub SpellsInstrCall : (CallPlain → Form) → Place → Option CallPlain → Form
SpellsInstrCall form place None = never
SpellsInstrCall form place (Some call) = when (call.place ≡ place) (form call)

-- a call of a name alone
abbrev pub SpellsCallAlone : CallPlain → Form
SpellsCallAlone call =
    when ((call.hash ≡ false) × (call.base ≡ None) × (call.args ≡ []))
    (SpellsName call.name call.name_place)

-- what stands behind an instruction's word
abbrev pub SpellsBehind : Shape → InstrTree → Form
SpellsBehind opening instr = when (has_no_value instr × (instr.call ≡ None)) (sign "(")
SpellsBehind must instr = when (instr.call ≡ None)
    (SpellsValue never instr.op instr.operand instr.literal)
SpellsBehind may instr = when (instr.call ≡ None)
    (SpellsValue nothing instr.op instr.operand instr.literal)
SpellsBehind calls instr = when (has_no_value instr)
    (SpellsInstrCall SpellsCallStl instr.place instr.call)
SpellsBehind calls_alone instr = when (has_no_value instr)
    (SpellsInstrCall SpellsCallAlone instr.place instr.call)

-- an instruction's label
abbrev pub SpellsLabel : Option PlacedName → Form
SpellsLabel None = nothing
SpellsLabel (Some label) = SpellsWord label.0 label.1 ⨾ sign ":"

-- an instruction with its `;`
abbrev pub SpellsInstr : InstrTree → Form
SpellsInstr instr =
    SpellsLabel instr.label ⨾ one (IsAt (IsOfSort (sort_of instr.op)) instr.place)
    ⨾ SpellsBehind (shape_of (sort_of instr.op)) instr ⨾ sign ";"

-- any number of the word NETWORK, which leaves nothing in the tree
abbrev pub networks : Form
networks tokens = All (IsWord "NETWORK") tokens

-- instructions with NETWORK anywhere between them
abbrev pub SpellsInstrs : List InstrTree → Form
SpellsInstrs [] = networks
SpellsInstrs (instr ∷ others) = networks ⨾ SpellsInstr instr ⨾ SpellsInstrs others

-- ---- well-formed instructions

abbrev pub IsFormedOperandOption : Option OperandTree → Type 0
IsFormedOperandOption None = Unit {0}
IsFormedOperandOption (Some variable) = IsFormedOperand variable

abbrev pub IsFormedCallOption : Option CallPlain → Type 0
IsFormedCallOption None = Unit {0}
IsFormedCallOption (Some call) = IsFormedCallStl call

pub record IsFormedInstr (instr : InstrTree) : Type 0 where
  pub its_label : IsFreeOption instr.label
  pub its_operand : IsFormedOperandOption instr.operand
  pub its_call : IsFormedCallOption instr.call
