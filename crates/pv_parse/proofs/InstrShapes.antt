-- What the names of instructions take off the stack and put there, as shapes.
use Rattle.std.proofs.Common.{List, ◌++◌, ℕ, refl}
use Rattle.pv_ll.specs.Shapes.{IsTopped}
use Rattle.pv_parse.specs.Items.{Stack}
use Rattle.pv_parse.proofs.Sure.{Sure}
use Rattle.pv_parse.proofs.Stacks.{shape_of, numbers}
use Rattle.pv_parse.proofs.InstrSorts.{InstrSort, new_code, more_instrs, unlabelled, laid, label_sign, after_op, operating, behind_op, operand_name, hashed_word, value_literal, callee, callee_alone, callee_hash, callee_prefix, callee_base, call_behind, call_bare, DoesInstr, begins_code, adds_instrs, has_no_label, lays, signs_label, goes_after, operates, goes_behind, an_operand, a_hashed_word, a_value_literal, a_callee, a_callee_alone, a_callee_hash, a_callee_prefix, adds_base, a_call_behind, a_bare_one, instr_takes, instr_puts}

pub instr_leaves : (x : InstrSort) (s behind : Stack) (ts : List Sure) (more : List ℕ) → DoesInstr x s ts behind
    → IsTopped shape_of (numbers (instr_takes x) ++ more) s → IsTopped shape_of (numbers (instr_puts x) ++ more) behind
instr_leaves new_code s behind ts more (begins_code e) k = (refl, k)
instr_leaves more_instrs s behind ts more (adds_instrs b c new h f e) k = (refl, k.1)
instr_leaves unlabelled s behind ts more (has_no_label e) k = (refl, k)
instr_leaves laid s behind ts more (lays w b i h) k = (refl, k.1.1)
instr_leaves label_sign s behind ts more (signs_label t w h) k = (refl, k.1.1)
instr_leaves (after_op x) s behind ts more (goes_after t w b i h) k = (refl, k.1.1.1)
instr_leaves operating s behind ts more (operates w b i e h) k = (refl, k.1.1)
instr_leaves (behind_op x) s behind ts more (goes_behind t w b i e h) k = (refl, k.1.1.1)
instr_leaves operand_name s behind ts more (an_operand p h) k = (refl, k)
instr_leaves hashed_word s behind ts more (a_hashed_word h n p d) k = (refl, k.1)
instr_leaves value_literal s behind ts more (a_value_literal t l d) k = (refl, k)
instr_leaves callee s behind ts more (a_callee p h) k = (refl, k)
instr_leaves callee_alone s behind ts more (a_callee_alone p h) k = (refl, k)
instr_leaves callee_hash s behind ts more (a_callee_hash h n p d) k = (refl, k.1)
instr_leaves callee_prefix s behind ts more (a_callee_prefix w h n p d) k = (refl, k.1.1)
instr_leaves callee_base s behind ts more (adds_base p q base h) k = (refl, k.1)
instr_leaves call_behind s behind ts more (a_call_behind p c h) k = (refl, k.1)
instr_leaves call_bare s behind ts more (a_bare_one p e) k = (refl, k.1)
