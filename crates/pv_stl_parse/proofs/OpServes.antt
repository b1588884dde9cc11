-- What kind an instruction's word or sign has, and that its text says it.
use Prim.Native.String.{String}
use Rattle.std.proofs.Common.{◌≡◌, ℕ, true, false, List, codes, refl, ap, ◌∙◌}
use Rattle.std.specs.Str.{bytes_eq, str_eq_ignore_ascii_case}
use Rattle.pv_lex.specs.Shapes.{is_one_of}
use Rattle.pv_tree.specs.declared.instr.Op.{Op}
use Rattle.pv_tree.specs.declared.instr.Op.TheVariants as o
use Rattle.pv_tree.specs.Lexemes.{Lexeme}
use Rattle.pv_tree.specs.Words.{prefixes, is_numbered, function_word, type_word}
use Rattle.pv_tree.specs.Instructions.{Shape, opening, must, may, calls, calls_alone, sort_of, IsOfSort, shape_of}
use Rattle.pv_parse.specs.KindNumbers as n
use Rattle.pv_parse.specs.Kinds.{kind_of, word_entries, argument_words, operation_words, bit_ops, or_ops, value_ops, free_ops, expression_words, one_functions, declaration_words, statement_words, sign_entries, stl_signs, word_kind, other_kind, sign_kind}
use Rattle.pv_parse.specs.OpTexts.{op_of, opening_of}
use Rattle.pv_parse.specs.TokenTexts.{is_text}
use Rattle.pv_parse.proofs.ForCallers.{small, same-small, is_load, Serves, word-kind-is, sign-kind-is, word_marks, sign_marks}
use Rattle.pv_stl_parse.proofs.OpFacts.{op-small, opening-small}

-- ---- the instruction that a text says

abbrev pub op_by : Shape → List ℕ → Op
op_by opening bytes = opening_of bytes
op_by _ bytes = op_of bytes

pub op_named : (x : Op) (t : Lexeme) → IsOfSort (sort_of x) t → op_by (shape_of (sort_of x)) t.bytes ≡ x
unfolding op_of opening_of
op_named o.A t h = op-small t.bytes (codes "A") (same-small t.bytes (codes "A") h.bytes) ∙ refl
op_named o.An t h = op-small t.bytes (codes "AN") (same-small t.bytes (codes "AN") h.bytes) ∙ refl
op_named o.O t h = op-small t.bytes (codes "O") (same-small t.bytes (codes "O") h.bytes) ∙ refl
op_named o.On t h = op-small t.bytes (codes "ON") (same-small t.bytes (codes "ON") h.bytes) ∙ refl
op_named o.X t h = op-small t.bytes (codes "X") (same-small t.bytes (codes "X") h.bytes) ∙ refl
op_named o.Xn t h = op-small t.bytes (codes "XN") (same-small t.bytes (codes "XN") h.bytes) ∙ refl
op_named o.AOpen t h = opening-small t.bytes (codes "A") (same-small t.bytes (codes "A") h.bytes) ∙ refl
op_named o.AnOpen t h = opening-small t.bytes (codes "AN") (same-small t.bytes (codes "AN") h.bytes) ∙ refl
op_named o.OOpen t h = opening-small t.bytes (codes "O") (same-small t.bytes (codes "O") h.bytes) ∙ refl
op_named o.OnOpen t h = opening-small t.bytes (codes "ON") (same-small t.bytes (codes "ON") h.bytes) ∙ refl
op_named o.XOpen t h = opening-small t.bytes (codes "X") (same-small t.bytes (codes "X") h.bytes) ∙ refl
op_named o.XnOpen t h = opening-small t.bytes (codes "XN") (same-small t.bytes (codes "XN") h.bytes) ∙ refl
op_named o.Close t h = op-small t.bytes (codes ")") (same-small t.bytes (codes ")") h.bytes) ∙ refl
op_named o.Assign t h = op-small t.bytes (codes "=") (same-small t.bytes (codes "=") h.bytes) ∙ refl
op_named o.S t h = op-small t.bytes (codes "S") (same-small t.bytes (codes "S") h.bytes) ∙ refl
op_named o.R t h = op-small t.bytes (codes "R") (same-small t.bytes (codes "R") h.bytes) ∙ refl
op_named o.Not t h = op-small t.bytes (codes "NOT") (same-small t.bytes (codes "NOT") h.bytes) ∙ refl
op_named o.Set t h = op-small t.bytes (codes "SET") (same-small t.bytes (codes "SET") h.bytes) ∙ refl
op_named o.Clr t h = op-small t.bytes (codes "CLR") (same-small t.bytes (codes "CLR") h.bytes) ∙ refl
op_named o.Fp t h = op-small t.bytes (codes "FP") (same-small t.bytes (codes "FP") h.bytes) ∙ refl
op_named o.Fn t h = op-small t.bytes (codes "FN") (same-small t.bytes (codes "FN") h.bytes) ∙ refl
op_named o.Save t h = op-small t.bytes (codes "SAVE") (same-small t.bytes (codes "SAVE") h.bytes) ∙ refl
op_named o.Nop t h = op-small t.bytes (codes "NOP") (same-small t.bytes (codes "NOP") h.bytes) ∙ refl
op_named o.Bld t h = op-small t.bytes (codes "BLD") (same-small t.bytes (codes "BLD") h.bytes) ∙ refl
op_named o.L t h = op-small t.bytes (codes "L") (same-small t.bytes (codes "L") h.bytes) ∙ refl
op_named o.T t h = op-small t.bytes (codes "T") (same-small t.bytes (codes "T") h.bytes) ∙ refl
op_named o.AddI t h = op-small t.bytes (codes "+I") (same-small t.bytes (codes "+I") h.bytes) ∙ refl
op_named o.SubI t h = op-small t.bytes (codes "-I") (same-small t.bytes (codes "-I") h.bytes) ∙ refl
op_named o.MulI t h = op-small t.bytes (codes "*I") (same-small t.bytes (codes "*I") h.bytes) ∙ refl
op_named o.DivI t h = op-small t.bytes (codes "/I") (same-small t.bytes (codes "/I") h.bytes) ∙ refl
op_named o.AddD t h = op-small t.bytes (codes "+D") (same-small t.bytes (codes "+D") h.bytes) ∙ refl
op_named o.SubD t h = op-small t.bytes (codes "-D") (same-small t.bytes (codes "-D") h.bytes) ∙ refl
op_named o.MulD t h = op-small t.bytes (codes "*D") (same-small t.bytes (codes "*D") h.bytes) ∙ refl
op_named o.DivD t h = op-small t.bytes (codes "/D") (same-small t.bytes (codes "/D") h.bytes) ∙ refl
op_named o.Mod t h = op-small t.bytes (codes "MOD") (same-small t.bytes (codes "MOD") h.bytes) ∙ refl
op_named o.EqI t h = op-small t.bytes (codes "==I") (same-small t.bytes (codes "==I") h.bytes) ∙ refl
op_named o.NeI t h = op-small t.bytes (codes "<>I") (same-small t.bytes (codes "<>I") h.bytes) ∙ refl
op_named o.GtI t h = op-small t.bytes (codes ">I") (same-small t.bytes (codes ">I") h.bytes) ∙ refl
op_named o.LtI t h = op-small t.bytes (codes "<I") (same-small t.bytes (codes "<I") h.bytes) ∙ refl
op_named o.GeI t h = op-small t.bytes (codes ">=I") (same-small t.bytes (codes ">=I") h.bytes) ∙ refl
op_named o.LeI t h = op-small t.bytes (codes "<=I") (same-small t.bytes (codes "<=I") h.bytes) ∙ refl
op_named o.EqD t h = op-small t.bytes (codes "==D") (same-small t.bytes (codes "==D") h.bytes) ∙ refl
op_named o.NeD t h = op-small t.bytes (codes "<>D") (same-small t.bytes (codes "<>D") h.bytes) ∙ refl
op_named o.GtD t h = op-small t.bytes (codes ">D") (same-small t.bytes (codes ">D") h.bytes) ∙ refl
op_named o.LtD t h = op-small t.bytes (codes "<D") (same-small t.bytes (codes "<D") h.bytes) ∙ refl
op_named o.GeD t h = op-small t.bytes (codes ">=D") (same-small t.bytes (codes ">=D") h.bytes) ∙ refl
op_named o.LeD t h = op-small t.bytes (codes "<=D") (same-small t.bytes (codes "<=D") h.bytes) ∙ refl
op_named o.Aw t h = op-small t.bytes (codes "AW") (same-small t.bytes (codes "AW") h.bytes) ∙ refl
op_named o.Ow t h = op-small t.bytes (codes "OW") (same-small t.bytes (codes "OW") h.bytes) ∙ refl
op_named o.Xow t h = op-small t.bytes (codes "XOW") (same-small t.bytes (codes "XOW") h.bytes) ∙ refl
op_named o.Ad t h = op-small t.bytes (codes "AD") (same-small t.bytes (codes "AD") h.bytes) ∙ refl
op_named o.Od t h = op-small t.bytes (codes "OD") (same-small t.bytes (codes "OD") h.bytes) ∙ refl
op_named o.Xod t h = op-small t.bytes (codes "XOD") (same-small t.bytes (codes "XOD") h.bytes) ∙ refl
op_named o.Slw t h = op-small t.bytes (codes "SLW") (same-small t.bytes (codes "SLW") h.bytes) ∙ refl
op_named o.Srw t h = op-small t.bytes (codes "SRW") (same-small t.bytes (codes "SRW") h.bytes) ∙ refl
op_named o.Sld t h = op-small t.bytes (codes "SLD") (same-small t.bytes (codes "SLD") h.bytes) ∙ refl
op_named o.Srd t h = op-small t.bytes (codes "SRD") (same-small t.bytes (codes "SRD") h.bytes) ∙ refl
op_named o.Itd t h = op-small t.bytes (codes "ITD") (same-small t.bytes (codes "ITD") h.bytes) ∙ refl
op_named o.Tak t h = op-small t.bytes (codes "TAK") (same-small t.bytes (codes "TAK") h.bytes) ∙ refl
op_named o.Push t h = op-small t.bytes (codes "PUSH") (same-small t.bytes (codes "PUSH") h.bytes) ∙ refl
op_named o.Pop t h = op-small t.bytes (codes "POP") (same-small t.bytes (codes "POP") h.bytes) ∙ refl
op_named o.Ju t h = op-small t.bytes (codes "JU") (same-small t.bytes (codes "JU") h.bytes) ∙ refl
op_named o.Jc t h = op-small t.bytes (codes "JC") (same-small t.bytes (codes "JC") h.bytes) ∙ refl
op_named o.Jcb t h = op-small t.bytes (codes "JCB") (same-small t.bytes (codes "JCB") h.bytes) ∙ refl
op_named o.Jcn t h = op-small t.bytes (codes "JCN") (same-small t.bytes (codes "JCN") h.bytes) ∙ refl
op_named o.Jnb t h = op-small t.bytes (codes "JNB") (same-small t.bytes (codes "JNB") h.bytes) ∙ refl
op_named o.Jz t h = op-small t.bytes (codes "JZ") (same-small t.bytes (codes "JZ") h.bytes) ∙ refl
op_named o.Jn t h = op-small t.bytes (codes "JN") (same-small t.bytes (codes "JN") h.bytes) ∙ refl
op_named o.Jp t h = op-small t.bytes (codes "JP") (same-small t.bytes (codes "JP") h.bytes) ∙ refl
op_named o.Jm t h = op-small t.bytes (codes "JM") (same-small t.bytes (codes "JM") h.bytes) ∙ refl
op_named o.Jpz t h = op-small t.bytes (codes "JPZ") (same-small t.bytes (codes "JPZ") h.bytes) ∙ refl
op_named o.Jmz t h = op-small t.bytes (codes "JMZ") (same-small t.bytes (codes "JMZ") h.bytes) ∙ refl
op_named o.Jo t h = op-small t.bytes (codes "JO") (same-small t.bytes (codes "JO") h.bytes) ∙ refl
op_named o.Loop t h = op-small t.bytes (codes "LOOP") (same-small t.bytes (codes "LOOP") h.bytes) ∙ refl
op_named o.Be t h = op-small t.bytes (codes "BE") (same-small t.bytes (codes "BE") h.bytes) ∙ refl
op_named o.Beu t h = op-small t.bytes (codes "BEU") (same-small t.bytes (codes "BEU") h.bytes) ∙ refl
op_named o.Bec t h = op-small t.bytes (codes "BEC") (same-small t.bytes (codes "BEC") h.bytes) ∙ refl
op_named o.Call t h = op-small t.bytes (codes "CALL") (same-small t.bytes (codes "CALL") h.bytes) ∙ refl
op_named o.Uc t h = op-small t.bytes (codes "UC") (same-small t.bytes (codes "UC") h.bytes) ∙ refl

-- whether it loads
load_by : (text : String) (t : Lexeme) → str_eq_ignore_ascii_case t.bytes (codes text) ≡ true
    → is_text (codes "L") t.bytes ≡ bytes_eq (small (codes text)) (small (codes "L"))
load_by text t h = ap (λ (z : List ℕ). bytes_eq z (small (codes "L"))) (same-small t.bytes (codes text) h)

pub op_loads : (x : Op) (t : Lexeme) → IsOfSort (sort_of x) t → is_text (codes "L") t.bytes ≡ is_load x
op_loads o.A t h = load_by "A" t h.bytes
op_loads o.An t h = load_by "AN" t h.bytes
op_loads o.O t h = load_by "O" t h.bytes
op_loads o.On t h = load_by "ON" t h.bytes
op_loads o.X t h = load_by "X" t h.bytes
op_loads o.Xn t h = load_by "XN" t h.bytes
op_loads o.AOpen t h = load_by "A" t h.bytes
op_loads o.AnOpen t h = load_by "AN" t h.bytes
op_loads o.OOpen t h = load_by "O" t h.bytes
op_loads o.OnOpen t h = load_by "ON" t h.bytes
op_loads o.XOpen t h = load_by "X" t h.bytes
op_loads o.XnOpen t h = load_by "XN" t h.bytes
op_loads o.Close t h = load_by ")" t h.bytes
op_loads o.Assign t h = load_by "=" t h.bytes
op_loads o.S t h = load_by "S" t h.bytes
op_loads o.R t h = load_by "R" t h.bytes
op_loads o.Not t h = load_by "NOT" t h.bytes
op_loads o.Set t h = load_by "SET" t h.bytes
op_loads o.Clr t h = load_by "CLR" t h.bytes
op_loads o.Fp t h = load_by "FP" t h.bytes
op_loads o.Fn t h = load_by "FN" t h.bytes
op_loads o.Save t h = load_by "SAVE" t h.bytes
op_loads o.Nop t h = load_by "NOP" t h.bytes
op_loads o.Bld t h = load_by "BLD" t h.bytes
op_loads o.L t h = load_by "L" t h.bytes
op_loads o.T t h = load_by "T" t h.bytes
op_loads o.AddI t h = load_by "+I" t h.bytes
op_loads o.SubI t h = load_by "-I" t h.bytes
op_loads o.MulI t h = load_by "*I" t h.bytes
op_loads o.DivI t h = load_by "/I" t h.bytes
op_loads o.AddD t h = load_by "+D" t h.bytes
op_loads o.SubD t h = load_by "-D" t h.bytes
op_loads o.MulD t h = load_by "*D" t h.bytes
op_loads o.DivD t h = load_by "/D" t h.bytes
op_loads o.Mod t h = load_by "MOD" t h.bytes
op_loads o.EqI t h = load_by "==I" t h.bytes
op_loads o.NeI t h = load_by "<>I" t h.bytes
op_loads o.GtI t h = load_by ">I" t h.bytes
op_loads o.LtI t h = load_by "<I" t h.bytes
op_loads o.GeI t h = load_by ">=I" t h.bytes
op_loads o.LeI t h = load_by "<=I" t h.bytes
op_loads o.EqD t h = load_by "==D" t h.bytes
op_loads o.NeD t h = load_by "<>D" t h.bytes
op_loads o.GtD t h = load_by ">D" t h.bytes
op_loads o.LtD t h = load_by "<D" t h.bytes
op_loads o.GeD t h = load_by ">=D" t h.bytes
op_loads o.LeD t h = load_by "<=D" t h.bytes
op_loads o.Aw t h = load_by "AW" t h.bytes
op_loads o.Ow t h = load_by "OW" t h.bytes
op_loads o.Xow t h = load_by "XOW" t h.bytes
op_loads o.Ad t h = load_by "AD" t h.bytes
op_loads o.Od t h = load_by "OD" t h.bytes
op_loads o.Xod t h = load_by "XOD" t h.bytes
op_loads o.Slw t h = load_by "SLW" t h.bytes
op_loads o.Srw t h = load_by "SRW" t h.bytes
op_loads o.Sld t h = load_by "SLD" t h.bytes
op_loads o.Srd t h = load_by "SRD" t h.bytes
op_loads o.Itd t h = load_by "ITD" t h.bytes
op_loads o.Tak t h = load_by "TAK" t h.bytes
op_loads o.Push t h = load_by "PUSH" t h.bytes
op_loads o.Pop t h = load_by "POP" t h.bytes
op_loads o.Ju t h = load_by "JU" t h.bytes
op_loads o.Jc t h = load_by "JC" t h.bytes
op_loads o.Jcb t h = load_by "JCB" t h.bytes
op_loads o.Jcn t h = load_by "JCN" t h.bytes
op_loads o.Jnb t h = load_by "JNB" t h.bytes
op_loads o.Jz t h = load_by "JZ" t h.bytes
op_loads o.Jn t h = load_by "JN" t h.bytes
op_loads o.Jp t h = load_by "JP" t h.bytes
op_loads o.Jm t h = load_by "JM" t h.bytes
op_loads o.Jpz t h = load_by "JPZ" t h.bytes
op_loads o.Jmz t h = load_by "JMZ" t h.bytes
op_loads o.Jo t h = load_by "JO" t h.bytes
op_loads o.Loop t h = load_by "LOOP" t h.bytes
op_loads o.Be t h = load_by "BE" t h.bytes
op_loads o.Beu t h = load_by "BEU" t h.bytes
op_loads o.Bec t h = load_by "BEC" t h.bytes
op_loads o.Call t h = load_by "CALL" t h.bytes
op_loads o.Uc t h = load_by "UC" t h.bytes

-- ---- kinds

abbrev pub kind_of_op : Op → ℕ
kind_of_op o.A = n.bit_op
kind_of_op o.An = n.bit_op
kind_of_op o.O = n.or_op
kind_of_op o.On = n.bit_op
kind_of_op o.X = n.bit_op
kind_of_op o.Xn = n.bit_op
kind_of_op o.AOpen = n.bit_op
kind_of_op o.AnOpen = n.bit_op
kind_of_op o.OOpen = n.or_op
kind_of_op o.OnOpen = n.bit_op
kind_of_op o.XOpen = n.bit_op
kind_of_op o.XnOpen = n.bit_op
kind_of_op o.Close = n.paren_close
kind_of_op o.Assign = n.equals
kind_of_op o.S = n.value_op
kind_of_op o.R = n.value_op
kind_of_op o.Not = n.not_word
kind_of_op o.Set = n.free_op
kind_of_op o.Clr = n.free_op
kind_of_op o.Fp = n.value_op
kind_of_op o.Fn = n.value_op
kind_of_op o.Save = n.free_op
kind_of_op o.Nop = n.value_op
kind_of_op o.Bld = n.value_op
kind_of_op o.L = n.value_op
kind_of_op o.T = n.value_op
kind_of_op o.AddI = n.stl_sign
kind_of_op o.SubI = n.stl_sign
kind_of_op o.MulI = n.stl_sign
kind_of_op o.DivI = n.stl_sign
kind_of_op o.AddD = n.stl_sign
kind_of_op o.SubD = n.stl_sign
kind_of_op o.MulD = n.stl_sign
kind_of_op o.DivD = n.stl_sign
kind_of_op o.Mod = n.mod_word
kind_of_op o.EqI = n.stl_sign
kind_of_op o.NeI = n.stl_sign
kind_of_op o.GtI = n.stl_sign
kind_of_op o.LtI = n.stl_sign
kind_of_op o.GeI = n.stl_sign
kind_of_op o.LeI = n.stl_sign
kind_of_op o.EqD = n.stl_sign
kind_of_op o.NeD = n.stl_sign
kind_of_op o.GtD = n.stl_sign
kind_of_op o.LtD = n.stl_sign
kind_of_op o.GeD = n.stl_sign
kind_of_op o.LeD = n.stl_sign
kind_of_op o.Aw = n.free_op
kind_of_op o.Ow = n.free_op
kind_of_op o.Xow = n.free_op
kind_of_op o.Ad = n.free_op
kind_of_op o.Od = n.free_op
kind_of_op o.Xod = n.free_op
kind_of_op o.Slw = n.value_op
kind_of_op o.Srw = n.value_op
kind_of_op o.Sld = n.value_op
kind_of_op o.Srd = n.value_op
kind_of_op o.Itd = n.free_op
kind_of_op o.Tak = n.free_op
kind_of_op o.Push = n.free_op
kind_of_op o.Pop = n.free_op
kind_of_op o.Ju = n.value_op
kind_of_op o.Jc = n.value_op
kind_of_op o.Jcb = n.value_op
kind_of_op o.Jcn = n.value_op
kind_of_op o.Jnb = n.value_op
kind_of_op o.Jz = n.value_op
kind_of_op o.Jn = n.value_op
kind_of_op o.Jp = n.value_op
kind_of_op o.Jm = n.value_op
kind_of_op o.Jpz = n.value_op
kind_of_op o.Jmz = n.value_op
kind_of_op o.Jo = n.value_op
kind_of_op o.Loop = n.value_op
kind_of_op o.Be = n.free_op
kind_of_op o.Beu = n.free_op
kind_of_op o.Bec = n.free_op
kind_of_op o.Call = n.call_word
kind_of_op o.Uc = n.uc_word

op_kind : (x : Op) (t : Lexeme) → IsOfSort (sort_of x) t → kind_of false t ≡ kind_of_op x
unfolding word_entries argument_words operation_words bit_ops or_ops value_ops free_ops expression_words one_functions declaration_words statement_words prefixes function_word type_word sign_entries stl_signs is_numbered is_one_of word_kind other_kind sign_kind
op_kind o.A t h = word-kind-is "A" t h
op_kind o.An t h = word-kind-is "AN" t h
op_kind o.O t h = word-kind-is "O" t h
op_kind o.On t h = word-kind-is "ON" t h
op_kind o.X t h = word-kind-is "X" t h
op_kind o.Xn t h = word-kind-is "XN" t h
op_kind o.AOpen t h = word-kind-is "A" t h
op_kind o.AnOpen t h = word-kind-is "AN" t h
op_kind o.OOpen t h = word-kind-is "O" t h
op_kind o.OnOpen t h = word-kind-is "ON" t h
op_kind o.XOpen t h = word-kind-is "X" t h
op_kind o.XnOpen t h = word-kind-is "XN" t h
op_kind o.Close t h = sign-kind-is ")" t false h
op_kind o.Assign t h = sign-kind-is "=" t false h
op_kind o.S t h = word-kind-is "S" t h
op_kind o.R t h = word-kind-is "R" t h
op_kind o.Not t h = word-kind-is "NOT" t h
op_kind o.Set t h = word-kind-is "SET" t h
op_kind o.Clr t h = word-kind-is "CLR" t h
op_kind o.Fp t h = word-kind-is "FP" t h
op_kind o.Fn t h = word-kind-is "FN" t h
op_kind o.Save t h = word-kind-is "SAVE" t h
op_kind o.Nop t h = word-kind-is "NOP" t h
op_kind o.Bld t h = word-kind-is "BLD" t h
op_kind o.L t h = word-kind-is "L" t h
op_kind o.T t h = word-kind-is "T" t h
op_kind o.AddI t h = sign-kind-is "+I" t false h
op_kind o.SubI t h = sign-kind-is "-I" t false h
op_kind o.MulI t h = sign-kind-is "*I" t false h
op_kind o.DivI t h = sign-kind-is "/I" t false h
op_kind o.AddD t h = sign-kind-is "+D" t false h
op_kind o.SubD t h = sign-kind-is "-D" t false h
op_kind o.MulD t h = sign-kind-is "*D" t false h
op_kind o.DivD t h = sign-kind-is "/D" t false h
op_kind o.Mod t h = word-kind-is "MOD" t h
op_kind o.EqI t h = sign-kind-is "==I" t false h
op_kind o.NeI t h = sign-kind-is "<>I" t false h
op_kind o.GtI t h = sign-kind-is ">I" t false h
op_kind o.LtI t h = sign-kind-is "<I" t false h
op_kind o.GeI t h = sign-kind-is ">=I" t false h
op_kind o.LeI t h = sign-kind-is "<=I" t false h
op_kind o.EqD t h = sign-kind-is "==D" t false h
op_kind o.NeD t h = sign-kind-is "<>D" t false h
op_kind o.GtD t h = sign-kind-is ">D" t false h
op_kind o.LtD t h = sign-kind-is "<D" t false h
op_kind o.GeD t h = sign-kind-is ">=D" t false h
op_kind o.LeD t h = sign-kind-is "<=D" t false h
op_kind o.Aw t h = word-kind-is "AW" t h
op_kind o.Ow t h = word-kind-is "OW" t h
op_kind o.Xow t h = word-kind-is "XOW" t h
op_kind o.Ad t h = word-kind-is "AD" t h
op_kind o.Od t h = word-kind-is "OD" t h
op_kind o.Xod t h = word-kind-is "XOD" t h
op_kind o.Slw t h = word-kind-is "SLW" t h
op_kind o.Srw t h = word-kind-is "SRW" t h
op_kind o.Sld t h = word-kind-is "SLD" t h
op_kind o.Srd t h = word-kind-is "SRD" t h
op_kind o.Itd t h = word-kind-is "ITD" t h
op_kind o.Tak t h = word-kind-is "TAK" t h
op_kind o.Push t h = word-kind-is "PUSH" t h
op_kind o.Pop t h = word-kind-is "POP" t h
op_kind o.Ju t h = word-kind-is "JU" t h
op_kind o.Jc t h = word-kind-is "JC" t h
op_kind o.Jcb t h = word-kind-is "JCB" t h
op_kind o.Jcn t h = word-kind-is "JCN" t h
op_kind o.Jnb t h = word-kind-is "JNB" t h
op_kind o.Jz t h = word-kind-is "JZ" t h
op_kind o.Jn t h = word-kind-is "JN" t h
op_kind o.Jp t h = word-kind-is "JP" t h
op_kind o.Jm t h = word-kind-is "JM" t h
op_kind o.Jpz t h = word-kind-is "JPZ" t h
op_kind o.Jmz t h = word-kind-is "JMZ" t h
op_kind o.Jo t h = word-kind-is "JO" t h
op_kind o.Loop t h = word-kind-is "LOOP" t h
op_kind o.Be t h = word-kind-is "BE" t h
op_kind o.Beu t h = word-kind-is "BEU" t h
op_kind o.Bec t h = word-kind-is "BEC" t h
op_kind o.Call t h = word-kind-is "CALL" t h
op_kind o.Uc t h = word-kind-is "UC" t h

pub op_serves : (x : Op) (t : Lexeme) → IsOfSort (sort_of x) t → Serves (kind_of_op x) t
op_serves o.A t h = record { is = op_kind o.A t h; plain = word_marks t h.kind }
op_serves o.An t h = record { is = op_kind o.An t h; plain = word_marks t h.kind }
op_serves o.O t h = record { is = op_kind o.O t h; plain = word_marks t h.kind }
op_serves o.On t h = record { is = op_kind o.On t h; plain = word_marks t h.kind }
op_serves o.X t h = record { is = op_kind o.X t h; plain = word_marks t h.kind }
op_serves o.Xn t h = record { is = op_kind o.Xn t h; plain = word_marks t h.kind }
op_serves o.AOpen t h = record { is = op_kind o.AOpen t h; plain = word_marks t h.kind }
op_serves o.AnOpen t h = record { is = op_kind o.AnOpen t h; plain = word_marks t h.kind }
op_serves o.OOpen t h = record { is = op_kind o.OOpen t h; plain = word_marks t h.kind }
op_serves o.OnOpen t h = record { is = op_kind o.OnOpen t h; plain = word_marks t h.kind }
op_serves o.XOpen t h = record { is = op_kind o.XOpen t h; plain = word_marks t h.kind }
op_serves o.XnOpen t h = record { is = op_kind o.XnOpen t h; plain = word_marks t h.kind }
op_serves o.Close t h = record { is = op_kind o.Close t h; plain = sign_marks ")" t h }
op_serves o.Assign t h = record { is = op_kind o.Assign t h; plain = sign_marks "=" t h }
op_serves o.S t h = record { is = op_kind o.S t h; plain = word_marks t h.kind }
op_serves o.R t h = record { is = op_kind o.R t h; plain = word_marks t h.kind }
op_serves o.Not t h = record { is = op_kind o.Not t h; plain = word_marks t h.kind }
op_serves o.Set t h = record { is = op_kind o.Set t h; plain = word_marks t h.kind }
op_serves o.Clr t h = record { is = op_kind o.Clr t h; plain = word_marks t h.kind }
op_serves o.Fp t h = record { is = op_kind o.Fp t h; plain = word_marks t h.kind }
op_serves o.Fn t h = record { is = op_kind o.Fn t h; plain = word_marks t h.kind }
op_serves o.Save t h = record { is = op_kind o.Save t h; plain = word_marks t h.kind }
op_serves o.Nop t h = record { is = op_kind o.Nop t h; plain = word_marks t h.kind }
op_serves o.Bld t h = record { is = op_kind o.Bld t h; plain = word_marks t h.kind }
op_serves o.L t h = record { is = op_kind o.L t h; plain = word_marks t h.kind }
op_serves o.T t h = record { is = op_kind o.T t h; plain = word_marks t h.kind }
op_serves o.AddI t h = record { is = op_kind o.AddI t h; plain = sign_marks "+I" t h }
op_serves o.SubI t h = record { is = op_kind o.SubI t h; plain = sign_marks "-I" t h }
op_serves o.MulI t h = record { is = op_kind o.MulI t h; plain = sign_marks "*I" t h }
op_serves o.DivI t h = record { is = op_kind o.DivI t h; plain = sign_marks "/I" t h }
op_serves o.AddD t h = record { is = op_kind o.AddD t h; plain = sign_marks "+D" t h }
op_serves o.SubD t h = record { is = op_kind o.SubD t h; plain = sign_marks "-D" t h }
op_serves o.MulD t h = record { is = op_kind o.MulD t h; plain = sign_marks "*D" t h }
op_serves o.DivD t h = record { is = op_kind o.DivD t h; plain = sign_marks "/D" t h }
op_serves o.Mod t h = record { is = op_kind o.Mod t h; plain = word_marks t h.kind }
op_serves o.EqI t h = record { is = op_kind o.EqI t h; plain = sign_marks "==I" t h }
op_serves o.NeI t h = record { is = op_kind o.NeI t h; plain = sign_marks "<>I" t h }
op_serves o.GtI t h = record { is = op_kind o.GtI t h; plain = sign_marks ">I" t h }
op_serves o.LtI t h = record { is = op_kind o.LtI t h; plain = sign_marks "<I" t h }
op_serves o.GeI t h = record { is = op_kind o.GeI t h; plain = sign_marks ">=I" t h }
op_serves o.LeI t h = record { is = op_kind o.LeI t h; plain = sign_marks "<=I" t h }
op_serves o.EqD t h = record { is = op_kind o.EqD t h; plain = sign_marks "==D" t h }
op_serves o.NeD t h = record { is = op_kind o.NeD t h; plain = sign_marks "<>D" t h }
op_serves o.GtD t h = record { is = op_kind o.GtD t h; plain = sign_marks ">D" t h }
op_serves o.LtD t h = record { is = op_kind o.LtD t h; plain = sign_marks "<D" t h }
op_serves o.GeD t h = record { is = op_kind o.GeD t h; plain = sign_marks ">=D" t h }
op_serves o.LeD t h = record { is = op_kind o.LeD t h; plain = sign_marks "<=D" t h }
op_serves o.Aw t h = record { is = op_kind o.Aw t h; plain = word_marks t h.kind }
op_serves o.Ow t h = record { is = op_kind o.Ow t h; plain = word_marks t h.kind }
op_serves o.Xow t h = record { is = op_kind o.Xow t h; plain = word_marks t h.kind }
op_serves o.Ad t h = record { is = op_kind o.Ad t h; plain = word_marks t h.kind }
op_serves o.Od t h = record { is = op_kind o.Od t h; plain = word_marks t h.kind }
op_serves o.Xod t h = record { is = op_kind o.Xod t h; plain = word_marks t h.kind }
op_serves o.Slw t h = record { is = op_kind o.Slw t h; plain = word_marks t h.kind }
op_serves o.Srw t h = record { is = op_kind o.Srw t h; plain = word_marks t h.kind }
op_serves o.Sld t h = record { is = op_kind o.Sld t h; plain = word_marks t h.kind }
op_serves o.Srd t h = record { is = op_kind o.Srd t h; plain = word_marks t h.kind }
op_serves o.Itd t h = record { is = op_kind o.Itd t h; plain = word_marks t h.kind }
op_serves o.Tak t h = record { is = op_kind o.Tak t h; plain = word_marks t h.kind }
op_serves o.Push t h = record { is = op_kind o.Push t h; plain = word_marks t h.kind }
op_serves o.Pop t h = record { is = op_kind o.Pop t h; plain = word_marks t h.kind }
op_serves o.Ju t h = record { is = op_kind o.Ju t h; plain = word_marks t h.kind }
op_serves o.Jc t h = record { is = op_kind o.Jc t h; plain = word_marks t h.kind }
op_serves o.Jcb t h = record { is = op_kind o.Jcb t h; plain = word_marks t h.kind }
op_serves o.Jcn t h = record { is = op_kind o.Jcn t h; plain = word_marks t h.kind }
op_serves o.Jnb t h = record { is = op_kind o.Jnb t h; plain = word_marks t h.kind }
op_serves o.Jz t h = record { is = op_kind o.Jz t h; plain = word_marks t h.kind }
op_serves o.Jn t h = record { is = op_kind o.Jn t h; plain = word_marks t h.kind }
op_serves o.Jp t h = record { is = op_kind o.Jp t h; plain = word_marks t h.kind }
op_serves o.Jm t h = record { is = op_kind o.Jm t h; plain = word_marks t h.kind }
op_serves o.Jpz t h = record { is = op_kind o.Jpz t h; plain = word_marks t h.kind }
op_serves o.Jmz t h = record { is = op_kind o.Jmz t h; plain = word_marks t h.kind }
op_serves o.Jo t h = record { is = op_kind o.Jo t h; plain = word_marks t h.kind }
op_serves o.Loop t h = record { is = op_kind o.Loop t h; plain = word_marks t h.kind }
op_serves o.Be t h = record { is = op_kind o.Be t h; plain = word_marks t h.kind }
op_serves o.Beu t h = record { is = op_kind o.Beu t h; plain = word_marks t h.kind }
op_serves o.Bec t h = record { is = op_kind o.Bec t h; plain = word_marks t h.kind }
op_serves o.Call t h = record { is = op_kind o.Call t h; plain = word_marks t h.kind }
op_serves o.Uc t h = record { is = op_kind o.Uc t h; plain = word_marks t h.kind }

-- ---- the kind and what stands behind

pub data OpClass (kind : ℕ) (shape : Shape) : Type 0 where
  a_bit : kind ≡ n.bit_op → shape ≡ must → OpClass kind shape
  a_or : kind ≡ n.or_op → shape ≡ may → OpClass kind shape
  a_bit_opening : kind ≡ n.bit_op → shape ≡ opening → OpClass kind shape
  a_or_opening : kind ≡ n.or_op → shape ≡ opening → OpClass kind shape
  a_close : kind ≡ n.paren_close → shape ≡ may → OpClass kind shape
  a_equals : kind ≡ n.equals → shape ≡ must → OpClass kind shape
  a_value : kind ≡ n.value_op → shape ≡ must → OpClass kind shape
  a_not : kind ≡ n.not_word → shape ≡ may → OpClass kind shape
  a_free : kind ≡ n.free_op → shape ≡ may → OpClass kind shape
  a_sign : kind ≡ n.stl_sign → shape ≡ may → OpClass kind shape
  a_mod : kind ≡ n.mod_word → shape ≡ may → OpClass kind shape
  a_call : kind ≡ n.call_word → shape ≡ calls → OpClass kind shape
  a_uc : kind ≡ n.uc_word → shape ≡ calls_alone → OpClass kind shape

pub op_class : (x : Op) → OpClass (kind_of_op x) (shape_of (sort_of x))
op_class o.A = a_bit refl refl
op_class o.An = a_bit refl refl
op_class o.O = a_or refl refl
op_class o.On = a_bit refl refl
op_class o.X = a_bit refl refl
op_class o.Xn = a_bit refl refl
op_class o.AOpen = a_bit_opening refl refl
op_class o.AnOpen = a_bit_opening refl refl
op_class o.OOpen = a_or_opening refl refl
op_class o.OnOpen = a_bit_opening refl refl
op_class o.XOpen = a_bit_opening refl refl
op_class o.XnOpen = a_bit_opening refl refl
op_class o.Close = a_close refl refl
op_class o.Assign = a_equals refl refl
op_class o.S = a_value refl refl
op_class o.R = a_value refl refl
op_class o.Not = a_not refl refl
op_class o.Set = a_free refl refl
op_class o.Clr = a_free refl refl
op_class o.Fp = a_value refl refl
op_class o.Fn = a_value refl refl
op_class o.Save = a_free refl refl
op_class o.Nop = a_value refl refl
op_class o.Bld = a_value refl refl
op_class o.L = a_value refl refl
op_class o.T = a_value refl refl
op_class o.AddI = a_sign refl refl
op_class o.SubI = a_sign refl refl
op_class o.MulI = a_sign refl refl
op_class o.DivI = a_sign refl refl
op_class o.AddD = a_sign refl refl
op_class o.SubD = a_sign refl refl
op_class o.MulD = a_sign refl refl
op_class o.DivD = a_sign refl refl
op_class o.Mod = a_mod refl refl
op_class o.EqI = a_sign refl refl
op_class o.NeI = a_sign refl refl
op_class o.GtI = a_sign refl refl
op_class o.LtI = a_sign refl refl
op_class o.GeI = a_sign refl refl
op_class o.LeI = a_sign refl refl
op_class o.EqD = a_sign refl refl
op_class o.NeD = a_sign refl refl
op_class o.GtD = a_sign refl refl
op_class o.LtD = a_sign refl refl
op_class o.GeD = a_sign refl refl
op_class o.LeD = a_sign refl refl
op_class o.Aw = a_free refl refl
op_class o.Ow = a_free refl refl
op_class o.Xow = a_free refl refl
op_class o.Ad = a_free refl refl
op_class o.Od = a_free refl refl
op_class o.Xod = a_free refl refl
op_class o.Slw = a_value refl refl
op_class o.Srw = a_value refl refl
op_class o.Sld = a_value refl refl
op_class o.Srd = a_value refl refl
op_class o.Itd = a_free refl refl
op_class o.Tak = a_free refl refl
op_class o.Push = a_free refl refl
op_class o.Pop = a_free refl refl
op_class o.Ju = a_value refl refl
op_class o.Jc = a_value refl refl
op_class o.Jcb = a_value refl refl
op_class o.Jcn = a_value refl refl
op_class o.Jnb = a_value refl refl
op_class o.Jz = a_value refl refl
op_class o.Jn = a_value refl refl
op_class o.Jp = a_value refl refl
op_class o.Jm = a_value refl refl
op_class o.Jpz = a_value refl refl
op_class o.Jmz = a_value refl refl
op_class o.Jo = a_value refl refl
op_class o.Loop = a_value refl refl
op_class o.Be = a_free refl refl
op_class o.Beu = a_free refl refl
op_class o.Bec = a_free refl refl
op_class o.Call = a_call refl refl
op_class o.Uc = a_uc refl refl
