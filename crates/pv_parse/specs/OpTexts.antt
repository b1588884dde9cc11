-- The words and signs of instructions, from the table of instructions.
use Rattle.std.specs.Prelude.{ℕ, if◌then◌else◌, List, [], ◌∷◌, map, codes, Option, Some, None}
use Rattle.pv_tree.specs.declared.instr.Op.{Op}
use Rattle.pv_tree.specs.declared.instr.Op.TheVariants as op
use Rattle.pv_tree.specs.Instructions.{Sort, by_word, by_sign, sort_of}
use Rattle.pv_parse.specs.TokenTexts.{is_text}

-- an instruction and its word or sign
abbrev pub OpEntry : Type 0
OpEntry = List ℕ × Op

abbrev pub text_of : Sort → List ℕ
text_of (by_word text shape) = codes text
text_of (by_sign text shape) = codes text

abbrev pub op_entries : List Op → List OpEntry
op_entries list = map (λ x. (text_of (sort_of x), x)) list

-- the first of the instructions with such a text, in any letter case
abbrev pub op_among : List OpEntry → List ℕ → Option Op
op_among [] bytes = None
op_among (e ∷ others) bytes = if is_text e.0 bytes then Some e.1 else op_among others bytes

-- all instructions that stand without `(`, and those that stand with it
abbrev pub ops : List Op
ops =
    op.A ∷ op.An ∷ op.O ∷ op.On ∷ op.X ∷ op.Xn ∷ op.Close ∷ op.Assign ∷ op.S ∷ op.R ∷ op.Not ∷
    op.Set ∷ op.Clr ∷ op.Fp ∷ op.Fn ∷ op.Save ∷ op.Nop ∷ op.Bld ∷ op.L ∷ op.T ∷ op.AddI ∷
    op.SubI ∷ op.MulI ∷ op.DivI ∷ op.AddD ∷ op.SubD ∷ op.MulD ∷ op.DivD ∷ op.Mod ∷ op.EqI ∷
    op.NeI ∷ op.GtI ∷ op.LtI ∷ op.GeI ∷ op.LeI ∷ op.EqD ∷ op.NeD ∷ op.GtD ∷ op.LtD ∷ op.GeD ∷
    op.LeD ∷ op.Aw ∷ op.Ow ∷ op.Xow ∷ op.Ad ∷ op.Od ∷ op.Xod ∷ op.Slw ∷ op.Srw ∷ op.Sld ∷
    op.Srd ∷ op.Itd ∷ op.Tak ∷ op.Push ∷ op.Pop ∷ op.Ju ∷ op.Jc ∷ op.Jcb ∷ op.Jcn ∷ op.Jnb ∷
    op.Jz ∷ op.Jn ∷ op.Jp ∷ op.Jm ∷ op.Jpz ∷ op.Jmz ∷ op.Jo ∷ op.Loop ∷ op.Be ∷ op.Beu ∷
    op.Bec ∷ op.Call ∷ op.Uc ∷ []

abbrev pub openings : List Op
openings =
    op.AOpen ∷ op.AnOpen ∷ op.OOpen ∷ op.OnOpen ∷ op.XOpen ∷ op.XnOpen ∷ []

-- what a text is that is among them; one instruction for all others
abbrev pub known : Option Op → Op
known (Some x) = x
known None = op.Bec

-- the instruction of a word or sign without `(`, and that of a word with it
unfoldable pub op_of : List ℕ → Op
op_of bytes = known (op_among (op_entries ops) bytes)

unfoldable pub opening_of : List ℕ → Op
opening_of bytes = known (op_among (op_entries openings) bytes)
