-- Look-ups in the table of instructions, from a place of the table on.
use Rattle.std.proofs.Common.{◌≡◌, ℕ, zero, suc, ◌<◌, length, get_or, drop, map, Bool, true, false, cond, List, [], ◌∷◌, Some, ap, arith}
use Rattle.pv_parse.specs.TokenTexts.{is_text}
use Rattle.pv_parse_instr.specs.declared.op_texts.Entry.{Entry}
use Rattle.pv_parse.specs.OpTexts.{op_among}
use Rattle.pv_parse_instr.specs.Entries.{entry_of}

pub among-here : (bytes : List ℕ) (es : List Entry) (i : ℕ) (d : Entry) → i < length es → is_text (get_or es i d).spelling.now bytes ≡ true
    → op_among (drop i (map entry_of es)) bytes ≡ Some (get_or es i d).op
among-here bytes [] i d h e = absurd (omega arith)
among-here bytes (x ∷ xs) zero d h e = ap (λ (b : Bool). cond b (Some x.op) (op_among (map entry_of xs) bytes)) e
among-here bytes (x ∷ xs) (suc i) d h e = among-here bytes xs i d (omega arith) e

pub among-later : (bytes : List ℕ) (es : List Entry) (i : ℕ) (d : Entry) → i < length es → is_text (get_or es i d).spelling.now bytes ≡ false
    → op_among (drop i (map entry_of es)) bytes ≡ op_among (drop (suc i) (map entry_of es)) bytes
among-later bytes [] i d h e = absurd (omega arith)
among-later bytes (x ∷ xs) zero d h e = ap (λ (b : Bool). cond b (Some x.op) (op_among (map entry_of xs) bytes)) e
among-later bytes (x ∷ xs) (suc i) d h e = among-later bytes xs i d (omega arith) e
