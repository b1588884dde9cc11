-- Further examples whose answers were found by hand: symbols and double words, structures, constants, functions, and what calls do.
use Prim.Native.String.{String}
use Rattle.std.proofs.Common.{◌≡◌, ℕ, pos, negsuc, false, [], ◌∷◌, map, codes, refl, Some, None}
use Rattle.pv_word.specs.declared.types.Ty.TheVariants as ty
use Rattle.pv_word.specs.Wrap.{wrap_at}
use Rattle.pv_word.specs.Bits.{pattern_at}
use Rattle.pv_place.specs.declared.trap.TrapKind.TheVariants.{DivideByZero, Index, Unset}
use Rattle.pv_types.specs.declared.declaration.Section.TheVariants.{Input, Output, InOut, Static, Const}
use Rattle.pv_types.specs.Tree.{plain, array, structure, no_vars, _then_, VarTree, var}
use Rattle.pv_tree.specs.declared.expr.Area.TheVariants.{M}
use Rattle.pv_tree.specs.declared.expr.Root.TheVariants.{Local, Named}
use Rattle.pv_tree.specs.declared.expr.UnaryOp.TheVariants as u
use Rattle.pv_tree.specs.declared.expr.BinaryOp.TheVariants as o
use Rattle.pv_tree.specs.declared.expr.StdFunction.TheVariants as f
use Rattle.pv_tree.specs.declared.stmt.Choice.TheVariants.{Const as OfConst}
use Rattle.pv_tree.specs.declared.block.BlockKind.TheVariants.{Db}
use Rattle.pv_tree.specs.Tree.{read, unary, std, no_exprs, exprs, OperandTree, operand, field, index, no_steps, steps, assign, if_, case_, while_, return_, call_, arms, no_arms, branches, no_branches, no_else, else_, BlockTree, starts}
use Rattle.pv_tree.specs.Words.{quoted_name}
use Rattle.pv_mean.specs.Sources.{Source, source_of}
use Rattle.pv_mean.specs.Endings.{ended, trapped, over}
use Rattle.pv_mean.specs.Scans.{scan}
use Rattle.pv_mean.proofs.Samples.{at, name, element, part, address, r, number, typed, op, set, literal, listed, declared, instance, array_of, function_block, function, arg, call, no_view, source_with, scan_of}

abbrev quoted : ℕ → String → OperandTree
quoted n text = operand (Named (quoted_name (codes text))) no_steps (at n)

-- ---- symbols and double words

-- input w : INT, output q : INT; q := "Level" + 1; "Level" := w, where the case has the symbol Level at MW 10 as an INT
abbrev levels : BlockTree
levels = function_block "Demo" (declared Input ty.Int "w" ∷ declared Output ty.Int "q" ∷ [])
    (set 1 "q" (op o.Add 4 (read (quoted 3 "\"Level\"")) (number 5 (pos 1))) ∷ assign (quoted 7 "\"level\"") (at 8) (r 9 "w") ∷ [])

abbrev level_source : Source
level_source = source_of (record {
  blocks = levels ∷ [];
  symbols = record { name = name "Level"; at = address 0 M 16 10 0; ty = ty.Int } ∷ [];
}) levels [] no_view 16

level : (scan level_source (pos 0 ∷ pos 255 ∷ pos 254 ∷ []) (negsuc 2 ∷ [])).end ≡ ended (negsuc 2 ∷ negsuc 0 ∷ pos 255 ∷ pos 253 ∷ [])
unfolding wrap_at pattern_at
level = refl

-- MD 4 := DW#16#01020304
abbrev quarters : BlockTree
quarters = function_block "Demo" [] (assign (address 1 M 32 4 0) (at 2) (typed 3 ty.Dword (pos 16909060)) ∷ [])

quarter : scan_of quarters (pos 9 ∷ pos 9 ∷ pos 9 ∷ pos 9 ∷ []) [] ≡ ended (pos 1 ∷ pos 2 ∷ pos 3 ∷ pos 4 ∷ [])
unfolding wrap_at pattern_at
quarter = refl

-- ---- structures and constants

-- static a : ARRAY[1..2] OF STRUCT x : INT; y : ARRAY[0..1] OF INT; END_STRUCT; a[i].y[j] := 5
abbrev rows : VarTree
rows = var (name "a") Static (array (pos 1) (pos 2) (structure (_then_ (declared Static ty.Int "x")
    (_then_ (array_of Static (pos 0) (pos 1) ty.Int "y") no_vars))) (at 0)) None (at 0)

abbrev nested : BlockTree
nested = function_block "Demo" (declared Input ty.Int "i" ∷ declared Input ty.Int "j" ∷ rows ∷ [])
    (assign (operand (Local (name "a") false (at 1)) (steps (index (r 3 "i") (at 2)) (steps (field (name "y") (at 6))
    (steps (index (r 8 "j") (at 7)) no_steps))) (at 1)) (at 10) (number 11 (pos 5)) ∷ [])

nested_indexes : map (λ input. scan_of nested (pos 0 ∷ pos 0 ∷ pos 0 ∷ pos 0 ∷ pos 0 ∷ pos 0 ∷ []) input)
    ((pos 2 ∷ pos 1 ∷ []) ∷ (pos 1 ∷ pos 0 ∷ []) ∷ (pos 3 ∷ pos 2 ∷ []) ∷ (pos 2 ∷ pos 2 ∷ []) ∷ [])
    ≡ ended (pos 2 ∷ pos 1 ∷ pos 0 ∷ pos 0 ∷ pos 0 ∷ pos 0 ∷ pos 0 ∷ pos 5 ∷ [])
    ∷ ended (pos 1 ∷ pos 0 ∷ pos 0 ∷ pos 5 ∷ pos 0 ∷ pos 0 ∷ pos 0 ∷ pos 0 ∷ []) ∷ trapped Index (at 2) ∷ trapped Index (at 7) ∷ []
unfolding wrap_at
nested_indexes = refl

-- CONST c := 4; CASE n OF c: q := c; ELSE q := 1; END_CASE
abbrev constants : BlockTree
constants = function_block "Demo" (declared Input ty.Int "n" ∷ declared Output ty.Int "q" ∷ var (name "c") Const (plain ty.Int)
    (Some (literal (pos 4))) (at 0) ∷ [])
    (case_ (r 2 "n") (branches ((OfConst (name "c") (at 4), None) ∷ []) (listed (set 6 "q" (r 8 "C") ∷ [])) no_branches)
    (else_ (listed (set 11 "q" (number 13 (pos 1)) ∷ []))) (at 1) ∷ [])

constant : map (λ n. scan_of constants (pos 0 ∷ []) (n ∷ [])) (pos 4 ∷ pos 5 ∷ []) ≡ ended (pos 4 ∷ pos 4 ∷ []) ∷ ended (pos 5 ∷ pos 1 ∷ []) ∷ []
unfolding wrap_at
constant = refl

-- ---- functions of numbers and patterns

-- static n : INT, b : BYTE, t : TIME; n := SEL(G := n > 0, IN0 := 1 DIV n, IN1 := n); b := NOT SHR(IN := b, N := 4); t := t + T#1ms
abbrev selects : BlockTree
selects = function_block "Demo" (declared Static ty.Int "n" ∷ declared Static ty.Byte "b" ∷ declared Static ty.Time "t" ∷ [])
    (set 1 "n" (std f.Sel (at 3) (exprs (op o.Greater 5 (r 4 "n") (number 6 (pos 0))) (exprs (op o.Div 8 (number 7 (pos 1)) (r 9 "n"))
    (exprs (r 10 "n") no_exprs))))
    ∷ set 12 "b" (unary u.Not (at 14) (std f.Shr (at 15) (exprs (r 16 "b") (exprs (number 17 (pos 4)) no_exprs))))
    ∷ set 19 "t" (op o.Add 22 (r 21 "t") (typed 23 ty.Time (pos 1))) ∷ [])

selected : map (λ n. scan_of selects (n ∷ pos 175 ∷ pos 2147483647 ∷ []) []) (pos 7 ∷ negsuc 0 ∷ pos 0 ∷ [])
    ≡ ended (pos 7 ∷ pos 245 ∷ negsuc 2147483647 ∷ []) ∷ ended (negsuc 0 ∷ pos 245 ∷ negsuc 2147483647 ∷ []) ∷ trapped DivideByZero (at 8) ∷ []
unfolding wrap_at pattern_at
selected = refl

-- ---- calls

-- function H: in-out v : INT, output n : INT; v := v + 1; n := 1
abbrev raises : BlockTree
raises = function "H" ty.Int (declared InOut ty.Int "v" ∷ declared Output ty.Int "n" ∷ [])
    (set 201 "v" (op o.Add 204 (r 203 "v") (number 205 (pos 1))) ∷ set 207 "n" (number 209 (pos 1)) ∷ [])

abbrev raises_backwards : BlockTree
raises_backwards = function "H" ty.Int (declared Output ty.Int "n" ∷ declared InOut ty.Int "v" ∷ [])
    (set 201 "v" (op o.Add 204 (r 203 "v") (number 205 (pos 1))) ∷ set 207 "n" (number 209 (pos 1)) ∷ [])

-- H(v := arr[i], n => i): the index is evaluated at copying in and again at copying out
abbrev raised : BlockTree
raised = function_block "Demo" (declared Static ty.Int "i" ∷ array_of Static (pos 1) (pos 2) ty.Int "arr" ∷ [])
    (call_ (call 1 "H" (arg "v" (read (element 5 "arr" 6 (r 7 "i"))) ∷ arg "n" (r 12 "i") ∷ [])) ∷ [])

both_ways : map (λ h. (scan (source_with raised (h ∷ []) 16) (pos 2 ∷ pos 5 ∷ pos 6 ∷ []) []).end) (raises ∷ raises_backwards ∷ [])
    ≡ ended (pos 1 ∷ pos 5 ∷ pos 7 ∷ []) ∷ ended (pos 1 ∷ pos 7 ∷ pos 6 ∷ []) ∷ []
unfolding wrap_at
both_ways = refl

-- function block R: input d : INT, static n : INT; WHILE TRUE DO n := n + 1 DIV d; IF n = 3 THEN RETURN; END_IF; END_WHILE; n := 99
abbrev returns_early : BlockTree
returns_early = function_block "R" (declared Input ty.Int "d" ∷ declared Static ty.Int "n" ∷ [])
    (while_ (typed 102 ty.Bool (pos 1)) (listed (set 104 "n" (op o.Add 107 (r 106 "n") (op o.Div 109 (number 108 (pos 1)) (r 110 "d")))
    ∷ if_ (arms (op o.Equal 114 (r 113 "n") (number 115 (pos 3))) (listed (return_ (at 117) ∷ [])) no_arms) no_else (at 112) ∷ [])) (at 101)
    ∷ set 130 "n" (number 132 (pos 99)) ∷ [])

-- static f : R, q : INT; f(d := ..); q := f.n. RETURN ends the called block alone; its traps and loops keep their places
abbrev calls_it : BlockTree
calls_it = function_block "Demo" (declared Input ty.Int "d" ∷ instance Static "R" "f" ∷ declared Static ty.Int "q" ∷ [])
    (call_ (call 1 "f" (arg "d" (r 5 "d") ∷ [])) ∷ set 8 "q" (read (part 10 "f" "n")) ∷ [])

returned_early : map (λ d. (scan (source_with calls_it (returns_early ∷ []) 16) (pos 0 ∷ pos 0 ∷ pos 0 ∷ []) (d ∷ [])).end)
    (pos 1 ∷ pos 0 ∷ pos 2 ∷ [])
    ≡ ended (pos 1 ∷ pos 1 ∷ pos 3 ∷ pos 3 ∷ []) ∷ trapped DivideByZero (at 109) ∷ over (at 101) ∷ []
unfolding wrap_at
returned_early = refl

-- function V: output y : INT, VAR v : INT; y := v: a function's VAR has no value at its start
abbrev reads_own : BlockTree
reads_own = function "V" ty.Int (declared Output ty.Int "y" ∷ declared Static ty.Int "v" ∷ []) (set 201 "y" (r 203 "v") ∷ [])

abbrev calls_own : BlockTree
calls_own = function_block "Demo" [] (call_ (call 1 "V" []) ∷ [])

read_own : (scan (source_with calls_own (reads_own ∷ []) 16) [] []).end ≡ trapped Unset (at 203)
unfolding wrap_at
read_own = refl

-- DATA_BLOCK D R; R.D(d := 1) works on the data block
abbrev holds_r : BlockTree
holds_r = record {
  kind = Db (Some (name "R", at 0));
  name = name "D";
  vars = [];
  value = None;
  body = starts [];
  place = at 0;
}

abbrev calls_data : BlockTree
calls_data = function_block "Demo" (declared Static ty.Int "q" ∷ [])
    (call_ (record {
      name = name "R";
      name_place = at 1;
      hash = false;
      base = Some (name "D", at 3);
      args = arg "d" (number 6 (pos 1)) ∷ [];
      place = at 1;
    }) ∷ set 10 "q" (read (part 12 "D" "n")) ∷ [])

called_data : (scan (source_with calls_data (returns_early ∷ holds_r ∷ []) 16) (pos 0 ∷ pos 0 ∷ pos 1 ∷ []) []).end
    ≡ ended (pos 3 ∷ pos 1 ∷ pos 3 ∷ [])
unfolding wrap_at
called_data = refl
