-- What projects mean, at examples whose answers were found by hand. Places are the numbers of tokens in the comments.
use Rattle.std.proofs.Common.{◌≡◌, pos, negsuc, ℤ, List, [], ◌∷◌, map, codes, refl, Some, None}
use Rattle.pv_word.specs.declared.types.Ty.TheVariants as ty
use Rattle.pv_word.specs.Wrap.{wrap_at}
use Rattle.pv_word.specs.Bits.{pattern_at}
use Rattle.pv_place.specs.declared.role.Role.TheVariants as role
use Rattle.pv_place.specs.declared.trap.TrapKind.TheVariants.{DivideByZero, Index, Unset}
use Rattle.pv_types.specs.declared.declaration.Section.TheVariants.{Input, Output, InOut, Static, Temp}
use Rattle.pv_tree.specs.declared.expr.Area.TheVariants.{I, M}
use Rattle.pv_tree.specs.declared.expr.UnaryOp.TheVariants as u
use Rattle.pv_tree.specs.declared.expr.BinaryOp.TheVariants as o
use Rattle.pv_tree.specs.declared.expr.StdFunction.TheVariants as f
use Rattle.pv_tree.specs.declared.stmt.Choice.TheVariants.{Lit}
use Rattle.pv_tree.specs.declared.block.BlockKind.TheVariants.{Db, Ob}
use Rattle.pv_mean.specs.declared.cell.Cell.{Cell}
use Rattle.pv_tree.specs.Tree.{read, unary, std, no_exprs, exprs, assign, assign_call, if_, case_, for_, while_, repeat_, exit_, continue_, call_, empty_, arms, no_arms, branches, no_branches, no_else, else_, BlockTree, scl, starts}
use Rattle.pv_types.specs.Leaves.{element_path}
use Rattle.pv_mean.specs.Cells.{byte_path}
use Rattle.pv_mean.specs.Sources.{source_of}
use Rattle.pv_mean.specs.Endings.{ended, trapped, over}
use Rattle.pv_mean.specs.Scans.{scan}
use Rattle.pv_mean.specs.Runs.{run}
use Rattle.pv_mean.proofs.Samples.{at, name, word, element, part, address, r, number, typed, op, set, literal, listed, declared, instance, array_of, function_block, function, arg, call, no_view, source_with, scan_of}

-- ---- division and wrapping

-- inputs a, b : INT, output q : INT; q := a DIV b
abbrev divides : BlockTree
divides = function_block "Demo" (declared Input ty.Int "a" ∷ declared Input ty.Int "b" ∷ declared Output ty.Int "q" ∷ [])
    (set 1 "q" (op o.Div 4 (r 3 "a") (r 5 "b")) ∷ [])

-- by zero it traps at the operator; -32768 by -1 wraps to itself; -7 by 2 truncates toward zero
divided : map (scan_of divides (pos 0 ∷ [])) ((negsuc 32767 ∷ pos 0 ∷ []) ∷ (negsuc 32767 ∷ negsuc 0 ∷ []) ∷ (negsuc 6 ∷ pos 2 ∷ []) ∷ [])
    ≡ trapped DivideByZero (at 4) ∷ ended (negsuc 32767 ∷ negsuc 0 ∷ negsuc 32767 ∷ []) ∷ ended (negsuc 6 ∷ pos 2 ∷ negsuc 2 ∷ []) ∷ []
unfolding wrap_at
divided = refl

-- q := a MOD b has the dividend's sign
abbrev rests : BlockTree
rests = function_block "Demo" (declared Input ty.Int "a" ∷ declared Input ty.Int "b" ∷ declared Output ty.Int "q" ∷ [])
    (set 1 "q" (op o.Mod 4 (r 3 "a") (r 5 "b")) ∷ [])

rest : map (scan_of rests (pos 0 ∷ [])) ((negsuc 6 ∷ pos 2 ∷ []) ∷ (pos 7 ∷ negsuc 1 ∷ []) ∷ (negsuc 32767 ∷ negsuc 0 ∷ []) ∷ [])
    ≡ ended (negsuc 6 ∷ pos 2 ∷ negsuc 0 ∷ []) ∷ ended (pos 7 ∷ negsuc 1 ∷ pos 1 ∷ []) ∷ ended (negsuc 32767 ∷ negsuc 0 ∷ pos 0 ∷ []) ∷ []
unfolding wrap_at
rest = refl

-- static n : INT; n := n + 1, at 32767
abbrev counts : BlockTree
counts = function_block "Demo" (declared Static ty.Int "n" ∷ []) (set 1 "n" (op o.Add 4 (r 3 "n") (number 5 (pos 1))) ∷ [])

counted : scan_of counts (pos 32767 ∷ []) [] ≡ ended (negsuc 32767 ∷ [])
unfolding wrap_at
counted = refl

-- static d : DINT; d := 30000 + 10000 is a sum of INT, and d := d + 1 one of DINT
abbrev sums : BlockTree
sums = function_block "Demo" (declared Static ty.Dint "d" ∷ declared Static ty.Dint "e" ∷ [])
    (set 1 "d" (op o.Add 4 (number 3 (pos 30000)) (number 5 (pos 10000))) ∷ set 7 "e" (op o.Add 10 (r 9 "e") (number 11 (pos 1))) ∷ [])

summed : scan_of sums (pos 0 ∷ pos 32767 ∷ []) [] ≡ ended (negsuc 25535 ∷ pos 32768 ∷ [])
unfolding wrap_at
summed = refl

-- -32768 is a literal of INT, and a sign before a variable wraps
abbrev signs : BlockTree
signs = function_block "Demo" (declared Static ty.Int "n" ∷ declared Static ty.Int "m" ∷ [])
    (set 1 "n" (unary u.Minus (at 3) (number 4 (pos 32768))) ∷ set 6 "m" (unary u.Minus (at 8) (r 9 "n")) ∷ [])

signed : scan_of signs (pos 0 ∷ pos 0 ∷ []) [] ≡ ended (negsuc 32767 ∷ negsuc 32767 ∷ [])
unfolding wrap_at
signed = refl

-- ---- both operands are evaluated

-- input x : BOOL, static n : INT, q : BOOL; q := x AND 1 DIV n = 0
abbrev joins : BlockTree
joins = function_block "Demo" (declared Input ty.Bool "x" ∷ declared Static ty.Int "n" ∷ declared Static ty.Bool "q" ∷ [])
    (set 1 "q" (op o.And 4 (r 3 "x") (op o.Equal 8 (op o.Div 6 (number 5 (pos 1)) (r 7 "n")) (number 9 (pos 0)))) ∷ [])

joined : map (λ n. scan_of joins (n ∷ pos 0 ∷ []) (pos 0 ∷ [])) (pos 0 ∷ pos 2 ∷ [])
    ≡ trapped DivideByZero (at 6) ∷ ended (pos 0 ∷ pos 2 ∷ pos 0 ∷ []) ∷ []
unfolding wrap_at pattern_at
joined = refl

-- ---- what has no value

-- input go : BOOL, output q : INT, temporary t : INT; IF go THEN t := 1; END_IF; q := t;
abbrev unset : BlockTree
unset = function_block "Demo" (declared Input ty.Bool "go" ∷ declared Output ty.Int "q" ∷ declared Temp ty.Int "t" ∷ [])
    (if_ (arms (r 2 "go") (listed (set 4 "t" (number 6 (pos 1)) ∷ [])) no_arms) no_else (at 1) ∷ set 10 "q" (r 12 "t") ∷ [])

set_or_not : map (λ go. scan_of unset (pos 5 ∷ []) (go ∷ [])) (pos 0 ∷ pos 1 ∷ []) ≡ trapped Unset (at 12) ∷ ended (pos 1 ∷ pos 1 ∷ []) ∷ []
unfolding wrap_at
set_or_not = refl

-- input i : INT, static arr : ARRAY[1..3] OF INT; arr[i] := 1
abbrev indexes : BlockTree
indexes = function_block "Demo" (declared Input ty.Int "i" ∷ array_of Static (pos 1) (pos 3) ty.Int "arr" ∷ [])
    (assign (element 1 "arr" 2 (r 3 "i")) (at 5) (number 6 (pos 1)) ∷ [])

indexed : map (λ i. scan_of indexes (pos 7 ∷ pos 8 ∷ pos 9 ∷ []) (i ∷ [])) (pos 4 ∷ pos 0 ∷ pos 3 ∷ [])
    ≡ trapped Index (at 2) ∷ trapped Index (at 2) ∷ ended (pos 3 ∷ pos 7 ∷ pos 8 ∷ pos 1 ∷ []) ∷ []
unfolding wrap_at
indexed = refl

-- the same of a temporary array, read: the index's check comes before the read
abbrev reads : BlockTree
reads = function_block "Demo" (declared Input ty.Int "i" ∷ declared Static ty.Int "q" ∷ array_of Temp (pos 1) (pos 3) ty.Int "arr" ∷ [])
    (assign (element 1 "arr" 2 (number 3 (pos 2))) (at 5) (number 6 (pos 5)) ∷ set 8 "q" (read (element 10 "arr" 11 (r 12 "i"))) ∷ [])

read_brief : map (λ i. scan_of reads (pos 0 ∷ []) (i ∷ [])) (pos 4 ∷ pos 1 ∷ pos 2 ∷ [])
    ≡ trapped Index (at 11) ∷ trapped Unset (at 10) ∷ ended (pos 2 ∷ pos 5 ∷ []) ∷ []
unfolding wrap_at
read_brief = refl

-- the right side comes before the target's index: arr[i] := 1 DIV n
abbrev ordered : BlockTree
ordered = function_block "Demo" (declared Input ty.Int "i" ∷ declared Input ty.Int "n" ∷ array_of Static (pos 1) (pos 3) ty.Int "arr" ∷ [])
    (assign (element 1 "arr" 2 (r 3 "i")) (at 5) (op o.Div 7 (number 6 (pos 1)) (r 8 "n")) ∷ [])

right_first : scan_of ordered (pos 0 ∷ pos 0 ∷ pos 0 ∷ []) (pos 9 ∷ pos 0 ∷ []) ≡ trapped DivideByZero (at 7)
unfolding wrap_at
right_first = refl

-- ---- CASE

-- input n : INT, output q : INT; CASE n OF 1, 4..6: q := 1; 5: q := 2; 9..8: q := 3; ELSE q := 4; END_CASE
abbrev chooses : BlockTree
chooses = function_block "Demo" (declared Input ty.Int "n" ∷ declared Output ty.Int "q" ∷ [])
    (case_ (r 2 "n") (branches ((Lit (literal (pos 1)), None) ∷ (Lit (literal (pos 4)), Some (Lit (literal (pos 6)))) ∷ [])
    (listed (set 5 "q" (number 6 (pos 1)) ∷ []))
    (branches ((Lit (literal (pos 5)), None) ∷ []) (listed (set 7 "q" (number 8 (pos 2)) ∷ []))
    (branches ((Lit (literal (pos 9)), Some (Lit (literal (pos 8)))) ∷ []) (listed (set 9 "q" (number 10 (pos 3)) ∷ [])) no_branches)))
    (else_ (listed (set 11 "q" (number 12 (pos 4)) ∷ []))) (at 1) ∷ [])

chosen : map (λ n. scan_of chooses (pos 0 ∷ []) (n ∷ [])) (pos 1 ∷ pos 4 ∷ pos 5 ∷ pos 6 ∷ pos 8 ∷ pos 9 ∷ [])
    ≡ ended (pos 1 ∷ pos 1 ∷ []) ∷ ended (pos 4 ∷ pos 1 ∷ []) ∷ ended (pos 5 ∷ pos 1 ∷ []) ∷ ended (pos 6 ∷ pos 1 ∷ [])
    ∷ ended (pos 8 ∷ pos 4 ∷ []) ∷ ended (pos 9 ∷ pos 4 ∷ []) ∷ []
unfolding wrap_at
chosen = refl

-- ---- loops

-- input x : BOOL; WHILE x DO ; END_WHILE
abbrev waits : BlockTree
waits = function_block "Demo" (declared Input ty.Bool "x" ∷ []) (while_ (r 2 "x") (listed (empty_ (at 4) ∷ [])) (at 1) ∷ [])

waited : map (λ x. scan_of waits [] (x ∷ [])) (pos 1 ∷ pos 0 ∷ []) ≡ over (at 1) ∷ ended (pos 0 ∷ []) ∷ []
unfolding wrap_at
waited = refl

-- static s : INT, temporary i : INT; FOR i := first TO last BY by DO s := s + 1; END_FOR
abbrev for_block : ℤ → ℤ → ℤ → BlockTree
for_block first last by = function_block "Demo" (declared Static ty.Int "s" ∷ declared Temp ty.Int "i" ∷ [])
    (for_ (name "i") (at 2) (number 4 first) (number 6 last) (Some (literal by))
    (listed (set 10 "s" (op o.Add 13 (r 12 "s") (number 14 (pos 1))) ∷ [])) (at 1) ∷ [])

-- sixteen turns within the bound 16, and not within 15
sixteen : map (λ bound. (scan (source_with (for_block (pos 1) (pos 16) (pos 1)) [] bound) (pos 0 ∷ []) []).end) (16 ∷ 15 ∷ [])
    ≡ ended (pos 16 ∷ []) ∷ over (at 1) ∷ []
unfolding wrap_at
sixteen = refl

-- downwards; past the end from the start; to the greatest value, behind which the sum isn't within INT
turns : map (λ b. scan_of b (pos 0 ∷ []) []) (for_block (pos 5) (pos 0) (negsuc 1) ∷ for_block (pos 1) (pos 0) (pos 1)
    ∷ for_block (pos 32760) (pos 32767) (pos 5) ∷ for_block (negsuc 32760) (negsuc 32767) (negsuc 4) ∷ [])
    ≡ ended (pos 3 ∷ []) ∷ ended (pos 0 ∷ []) ∷ ended (pos 2 ∷ []) ∷ ended (pos 2 ∷ []) ∷ []
unfolding wrap_at
turns = refl

-- static s, i : INT; FOR i := 1 TO i DO s := s + i; END_FOR reads the old i for its end, and leaves i one past it
abbrev own_end : BlockTree
own_end = function_block "Demo" (declared Static ty.Int "s" ∷ declared Static ty.Int "i" ∷ [])
    (for_ (name "i") (at 2) (number 4 (pos 1)) (r 6 "i") None (listed (set 8 "s" (op o.Add 11 (r 10 "s") (r 12 "i")) ∷ [])) (at 1) ∷ [])

old_end : scan_of own_end (pos 0 ∷ pos 3 ∷ []) [] ≡ ended (pos 6 ∷ pos 4 ∷ [])
unfolding wrap_at
old_end = refl

-- static s, i : INT; FOR i := 1 TO 9 DO IF i = 2 THEN CONTINUE; END_IF; IF i = 4 THEN EXIT; END_IF; s := s + i; END_FOR
abbrev leaves : BlockTree
leaves = function_block "Demo" (declared Static ty.Int "s" ∷ declared Static ty.Int "i" ∷ [])
    (for_ (name "i") (at 2) (number 4 (pos 1)) (number 6 (pos 9)) None
    (listed (if_ (arms (op o.Equal 10 (r 9 "i") (number 11 (pos 2))) (listed (continue_ (at 13) ∷ [])) no_arms) no_else (at 8)
    ∷ if_ (arms (op o.Equal 20 (r 19 "i") (number 21 (pos 4))) (listed (exit_ (at 23) ∷ [])) no_arms) no_else (at 18)
    ∷ set 30 "s" (op o.Add 33 (r 32 "s") (r 34 "i")) ∷ [])) (at 1) ∷ [])

left : scan_of leaves (pos 0 ∷ pos 0 ∷ []) [] ≡ ended (pos 4 ∷ pos 4 ∷ [])
unfolding wrap_at
left = refl

-- static n : INT; REPEAT n := n + 1; UNTIL n >= 3 END_REPEAT
abbrev repeats : BlockTree
repeats = function_block "Demo" (declared Static ty.Int "n" ∷ [])
    (repeat_ (listed (set 2 "n" (op o.Add 5 (r 4 "n") (number 6 (pos 1))) ∷ [])) (op o.GreaterEqual 10 (r 9 "n") (number 11 (pos 3)))
    (at 1) ∷ [])

repeated : map (λ n. scan_of repeats (n ∷ []) []) (pos 0 ∷ pos 7 ∷ negsuc 12 ∷ negsuc 13 ∷ [])
    ≡ ended (pos 3 ∷ []) ∷ ended (pos 8 ∷ []) ∷ ended (pos 3 ∷ []) ∷ over (at 1) ∷ []
unfolding wrap_at
repeated = refl

-- ---- functions

-- static n : INT, w : WORD
abbrev calculates : BlockTree
calculates = function_block "Demo" (declared Input ty.Int "n" ∷ declared Static ty.Int "p" ∷ declared Static ty.Int "q" ∷ declared Static ty.Word "w"
    ∷ [])
    (set 1 "p" (std f.Abs (at 3) (exprs (r 4 "n") no_exprs))
    ∷ set 6 "q" (std f.Limit (at 8) (exprs (number 9 (negsuc 1)) (exprs (r 10 "n") (exprs (number 11 (pos 5)) no_exprs))))
    ∷ set 13 "w" (std f.Shl (at 15) (exprs (std (f.Convert ty.Int ty.Word) (at 16) (exprs (r 17 "n") no_exprs))
    (exprs (number 18 (pos 12)) no_exprs))) ∷ [])

calculated : map (λ n. scan_of calculates (pos 0 ∷ pos 0 ∷ pos 0 ∷ []) (n ∷ [])) (negsuc 32767 ∷ pos 19 ∷ negsuc 0 ∷ [])
    ≡ ended (negsuc 32767 ∷ negsuc 32767 ∷ negsuc 1 ∷ pos 0 ∷ []) ∷ ended (pos 19 ∷ pos 19 ∷ pos 5 ∷ pos 12288 ∷ [])
    ∷ ended (negsuc 0 ∷ pos 1 ∷ negsuc 0 ∷ pos 61440 ∷ []) ∷ []
unfolding wrap_at pattern_at
calculated = refl

-- ---- areas

-- MW 10 := W#16#1234; q := MB 10: the high byte lies first
abbrev words : BlockTree
words = function_block "Demo" (declared Output ty.Byte "q" ∷ [])
    (assign (address 1 M 16 10 0) (at 2) (typed 3 ty.Word (pos 4660)) ∷ set 5 "q" (read (address 7 M 8 10 0)) ∷ [])

halves : scan_of words (pos 0 ∷ pos 0 ∷ pos 0 ∷ []) [] ≡ ended (pos 18 ∷ pos 18 ∷ pos 52 ∷ [])
unfolding wrap_at pattern_at
halves = refl

-- M 3.1 := I 0.7, where MB 3 has other bits
abbrev bits : BlockTree
bits = function_block "Demo" [] (assign (address 1 M 1 3 1) (at 2) (read (address 3 I 1 0 7)) ∷ [])

moved : map (λ i. scan_of bits (pos 161 ∷ []) (i ∷ [])) (pos 128 ∷ pos 127 ∷ []) ≡ ended (pos 128 ∷ pos 163 ∷ []) ∷ ended (pos 127 ∷ pos 161 ∷ [])
    ∷ []
unfolding wrap_at pattern_at
moved = refl

-- ---- calls

-- function block F: input x : INT, output y : INT, static n : INT, temporary t : INT; n := n + x; t := n; y := t
abbrev adds : BlockTree
adds = function_block "F" (declared Input ty.Int "x" ∷ declared Output ty.Int "y" ∷ declared Static ty.Int "n" ∷ declared Temp ty.Int "t" ∷ [])
    (set 101 "n" (op o.Add 104 (r 103 "n") (r 105 "x")) ∷ set 107 "t" (r 109 "n") ∷ set 111 "y" (r 113 "t") ∷ [])

-- static inst : F, static q : INT; inst(x := 5, y => q); inst(): the second call has the input of the first
abbrev calls_twice : BlockTree
calls_twice = function_block "Demo" (declared Static ty.Int "q" ∷ instance Static "F" "inst" ∷ [])
    (call_ (call 1 "inst" (arg "x" (number 5 (pos 5)) ∷ arg "y" (r 9 "q") ∷ [])) ∷ call_ (call 12 "inst" []) ∷ [])

called_twice : (scan (source_with calls_twice (adds ∷ []) 16) (pos 0 ∷ pos 0 ∷ pos 0 ∷ pos 1 ∷ []) []).end
    ≡ ended (pos 6 ∷ pos 5 ∷ pos 11 ∷ pos 11 ∷ [])
unfolding wrap_at
called_twice = refl

-- parameters are copied in one by one: inst(n := .., x := inst.n) isn't possible, but inst(x := inst.y) reads the old y
abbrev reads_itself : BlockTree
reads_itself = function_block "Demo" (instance Static "F" "inst" ∷ [])
    (call_ (call 1 "inst" (arg "x" (read (part 5 "inst" "y")) ∷ [])) ∷ [])

read_itself : (scan (source_with reads_itself (adds ∷ []) 16) (pos 0 ∷ pos 4 ∷ pos 1 ∷ []) []).end ≡ ended (pos 4 ∷ pos 5 ∷ pos 5 ∷ [])
unfolding wrap_at
read_itself = refl

-- function G : INT: input a : INT, output b : INT; IF a > 0 THEN G := a * 2; END_IF; IF a > 1 THEN b := a; END_IF
abbrev doubles : BlockTree
doubles = function "G" ty.Int (declared Input ty.Int "a" ∷ declared Output ty.Int "b" ∷ [])
    (if_ (arms (op o.Greater 202 (r 201 "a") (number 203 (pos 0))) (listed (set 205 "G" (op o.Mul 208 (r 207 "a") (number 209 (pos 2))) ∷ [])) no_arms)
    no_else (at 200)
    ∷ if_ (arms (op o.Greater 222 (r 221 "a") (number 223 (pos 1))) (listed (set 225 "b" (r 227 "a") ∷ [])) no_arms) no_else (at 220) ∷ [])

-- input n, static v, w : INT; w := G(a := n, b => v)
abbrev takes : BlockTree
takes = function_block "Demo" (declared Input ty.Int "n" ∷ declared Static ty.Int "v" ∷ declared Static ty.Int "w" ∷ [])
    (assign_call (word 1 "w") (at 2) (call 3 "G" (arg "a" (r 7 "n") ∷ arg "b" (r 11 "v") ∷ [])) ∷ [])

-- with the output unset it traps at the call's first token, as with the value
taken : map (λ n. (scan (source_with takes (doubles ∷ []) 16) (pos 0 ∷ pos 0 ∷ []) (n ∷ [])).end) (pos 21 ∷ pos 1 ∷ [])
    ≡ ended (pos 21 ∷ pos 21 ∷ pos 42 ∷ []) ∷ trapped Unset (at 3) ∷ []
unfolding wrap_at
taken = refl

-- w := G(a := n) without the output: the value alone is read
abbrev takes_value : BlockTree
takes_value = function_block "Demo" (declared Input ty.Int "n" ∷ declared Static ty.Int "w" ∷ [])
    (assign_call (word 1 "w") (at 2) (call 3 "G" (arg "a" (r 7 "n") ∷ [])) ∷ [])

value_taken : map (λ n. (scan (source_with takes_value (doubles ∷ []) 16) (pos 9 ∷ []) (n ∷ [])).end) (pos 1 ∷ pos 0 ∷ [])
    ≡ ended (pos 1 ∷ pos 2 ∷ []) ∷ trapped Unset (at 3) ∷ []
unfolding wrap_at
value_taken = refl

-- G(v => arr[i], n => i): the index of an output's argument is evaluated when that output is copied out
abbrev tells : BlockTree
tells = function "G" ty.Int (declared Output ty.Int "v" ∷ declared Output ty.Int "n" ∷ [])
    (set 201 "v" (number 203 (pos 7)) ∷ set 205 "n" (number 207 (pos 2)) ∷ [])

abbrev tells_backwards : BlockTree
tells_backwards = function "G" ty.Int (declared Output ty.Int "n" ∷ declared Output ty.Int "v" ∷ [])
    (set 201 "v" (number 203 (pos 7)) ∷ set 205 "n" (number 207 (pos 2)) ∷ [])

abbrev asks : BlockTree
asks = function_block "Demo" (declared Static ty.Int "i" ∷ array_of Static (pos 1) (pos 2) ty.Int "arr" ∷ [])
    (call_ (call 1 "G" (arg "v" (read (element 5 "arr" 6 (r 7 "i"))) ∷ arg "n" (r 12 "i") ∷ [])) ∷ [])

told : map (λ g. (scan (source_with asks (g ∷ []) 16) (pos 1 ∷ pos 0 ∷ pos 0 ∷ []) []).end) (tells ∷ tells_backwards ∷ [])
    ≡ ended (pos 2 ∷ pos 7 ∷ pos 0 ∷ []) ∷ ended (pos 2 ∷ pos 0 ∷ pos 7 ∷ []) ∷ []
unfolding wrap_at
told = refl

-- ---- runs

-- static n : INT := 3; n := n + 1: three scans
abbrev started : BlockTree
started = function_block "Demo" (declared Static ty.Int "n" ∷ declared Input ty.Int "p" ∷ []) (set 1 "n" (op o.Add 4 (r 3 "n") (r 5 "p"))
    ∷ set 7 "p" (number 9 (pos 9)) ∷ [])

-- where the case makes p a parameter, each scan begins with its value, whatever the block writes
ran : map (λ s. s.end) (run (source_of (record { blocks = started ∷ []; symbols = [] }) started [] (record { params = 1 ∷ []; bound = [] }) 16)
    (pos 2 ∷ []) ([] ∷ [] ∷ []))
    ≡ ended (pos 2 ∷ pos 9 ∷ []) ∷ ended (pos 4 ∷ pos 9 ∷ []) ∷ []
unfolding wrap_at
ran = refl

-- ---- cells

-- function block Demo: static f : F, a : ARRAY[-1..0] OF INT, in-out w : WORD, temporary t : INT; f(); MW 10 := w; G(v => t, n => t);
abbrev has_all : BlockTree
has_all = function_block "Demo" (instance Static "F" "f" ∷ array_of Static (negsuc 0) (pos 0) ty.Int "a" ∷ declared InOut ty.Word "w"
    ∷ declared Temp ty.Int "t" ∷ [])
    (call_ (call 1 "f" []) ∷ assign (address 5 M 16 10 0) (at 6) (r 7 "w") ∷ call_ (call 9 "G" (arg "v" (r 12 "t") ∷ arg "n" (r 15 "t") ∷ [])) ∷ [])

-- DATA_BLOCK D F BEGIN n := 3; x := 4; n := 5; END_DATA_BLOCK
abbrev holds_f : BlockTree
holds_f = record {
  kind = Db (Some (name "F", at 0));
  name = name "D";
  vars = [];
  value = None;
  body = starts ((word 1 "n", literal (pos 3)) ∷ (word 2 "x", literal (pos 4)) ∷ (word 3 "n", literal (pos 5)) ∷ []);
  place = at 0;
}

abbrev table : List Cell
table = (source_of (record { blocks = holds_f ∷ has_all ∷ adds ∷ tells ∷ []; symbols = [] }) has_all
    (address 0 I 1 2 3 ∷ address 0 M 8 3 0 ∷ address 0 M 1 4 9 ∷ []) (record { params = []; bound = (5, pos 7) ∷ [] }) 16).cells

-- the entered block's, the data block's, IB 2, MB 3, MB 10 and MB 11 (M 4.9 isn't there), then the brief ones: t; in the call of f its t; in
-- that of G v, n and the value
paths : map (λ c. c.path) table ≡ codes "f.x" ∷ codes "f.y" ∷ codes "f.n" ∷ element_path (codes "a") (negsuc 0) ∷ element_path (codes "a") (pos 0) ∷ codes "w"
    ∷ codes "D.x" ∷ codes "D.y" ∷ codes "D.n" ∷ byte_path 73 2 ∷ byte_path 77 3 ∷ byte_path 77 10 ∷ byte_path 77 11
    ∷ codes "t" ∷ [] ∷ [] ∷ [] ∷ [] ∷ []
paths = refl

roles : map (λ c. c.role) table ≡ role.Kept ∷ role.Kept ∷ role.Kept ∷ role.Kept ∷ role.Kept ∷ role.Param
    ∷ role.Kept ∷ role.Kept ∷ role.Kept ∷ role.Input ∷ role.Kept ∷ role.Kept ∷ role.Kept
    ∷ role.Brief ∷ role.Brief ∷ role.Brief ∷ role.Brief ∷ role.Brief ∷ []
roles = refl

-- of two values for one cell of a data block the later stands
start_values : map (λ c. c.start) table ≡ pos 0 ∷ pos 0 ∷ pos 0 ∷ pos 0 ∷ pos 0 ∷ pos 0 ∷ pos 4 ∷ pos 0 ∷ pos 5 ∷ pos 0 ∷ pos 0 ∷ pos 0 ∷ pos 0
    ∷ pos 0 ∷ pos 0 ∷ pos 0 ∷ pos 0 ∷ pos 0 ∷ []
start_values = refl

types : map (λ c. c.ty) table ≡ ty.Int ∷ ty.Int ∷ ty.Int ∷ ty.Int ∷ ty.Int ∷ ty.Word ∷ ty.Int ∷ ty.Int ∷ ty.Int ∷ ty.Byte ∷ ty.Byte ∷ ty.Byte
    ∷ ty.Byte ∷ ty.Int ∷ ty.Int ∷ ty.Int ∷ ty.Int ∷ ty.Int ∷ []
types = refl

bounds : map (λ c. c.bound) table ≡ None ∷ None ∷ None ∷ None ∷ None ∷ Some (pos 7) ∷ None ∷ None ∷ None ∷ None ∷ None ∷ None ∷ None
    ∷ None ∷ None ∷ None ∷ None ∷ None ∷ []
bounds = refl

-- an OB enters: D.x := 1 by its name, and a call of D as an instance
abbrev enters : BlockTree
enters = record {
  kind = Ob;
  name = name "OB1";
  vars = declared Temp ty.Int "t" ∷ [];
  value = None;
  body = scl (listed (assign (part 1 "D" "x") (at 4) (number 5 (pos 2)) ∷ call_ (call 7 "D" (arg "y" (r 11 "t") ∷ []))
      ∷ set 14 "t" (op o.Add 17 (r 16 "t") (number 18 (pos 1))) ∷ assign (part 20 "D" "y") (at 23) (r 24 "t") ∷ []));
  place = at 0;
}

entered : (scan (source_of (record { blocks = holds_f ∷ enters ∷ adds ∷ []; symbols = [] }) enters [] no_view 16) (pos 4 ∷ pos 0 ∷ pos 5 ∷ []) []).end
    ≡ ended (pos 2 ∷ pos 8 ∷ pos 7 ∷ [])
unfolding wrap_at
entered = refl
