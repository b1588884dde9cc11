-- The parts of an expression are less deep than it.
use Rattle.std.proofs.Common.{◌≡◌, ℕ, ◌<◌, ◌≤◌, List, length, get_or, ap, arith}
use denote.Param.Weighed.{most, at_most}
use Rattle.pv_place.specs.declared.place.Place.{Place}
use Rattle.pv_tree.specs.declared.expr.Expr.{Expr, size-Expr, the_lemmas}
use Rattle.pv_tree.specs.declared.expr.Expr.TheViews as form

unary_deeper : (op : _) (place : Place) (arg : _) → size-Expr arg.value < size-Expr (form.Unary op place arg)
unary_deeper op place arg = grind (arith, the_lemmas)

left_deeper : (op : _) (place : Place) (left right : _) → size-Expr left.value < size-Expr (form.Binary op place left right)
left_deeper op place left right = grind (arith, the_lemmas)

right_deeper : (op : _) (place : Place) (left right : _) → size-Expr right.value < size-Expr (form.Binary op place left right)
right_deeper op place left right = grind (arith, the_lemmas)

paren_deeper : (place : Place) (inner : _) → size-Expr inner.value < size-Expr (form.Paren place inner)
paren_deeper place inner = grind (arith, the_lemmas)

args_deeper : (function : _) (place : Place) (args : _) → most size-Expr args.items < size-Expr (form.Std function place args)
args_deeper function place args = grind (arith, the_lemmas)

-- ---- as the code has them

pub unary_falls : (e part : Expr) (op : _) (place : Place) (arg : _) → e ≡ form.Unary op place arg → part ≡ arg.value → size-Expr part < size-Expr e
unary_falls e part op place arg is at =
    let s : size-Expr part ≡ size-Expr arg.value = ap size-Expr at in
    let w : size-Expr e ≡ size-Expr (form.Unary op place arg) = ap size-Expr is in
    let d = unary_deeper op place arg in
    omega (arith, s, w, d)

pub left_falls : (e part : Expr) (op : _) (place : Place) (left right : _) → e ≡ form.Binary op place left right → part ≡ left.value
    → size-Expr part < size-Expr e
left_falls e part op place left right is at =
    let s : size-Expr part ≡ size-Expr left.value = ap size-Expr at in
    let w : size-Expr e ≡ size-Expr (form.Binary op place left right) = ap size-Expr is in
    let d = left_deeper op place left right in
    omega (arith, s, w, d)

pub right_falls : (e part : Expr) (op : _) (place : Place) (left right : _) → e ≡ form.Binary op place left right → part ≡ right.value
    → size-Expr part < size-Expr e
right_falls e part op place left right is at =
    let s : size-Expr part ≡ size-Expr right.value = ap size-Expr at in
    let w : size-Expr e ≡ size-Expr (form.Binary op place left right) = ap size-Expr is in
    let d = right_deeper op place left right in
    omega (arith, s, w, d)

pub paren_falls : (e part : Expr) (place : Place) (inner : _) → e ≡ form.Paren place inner → part ≡ inner.value → size-Expr part < size-Expr e
paren_falls e part place inner is at =
    let s : size-Expr part ≡ size-Expr inner.value = ap size-Expr at in
    let w : size-Expr e ≡ size-Expr (form.Paren place inner) = ap size-Expr is in
    let d = paren_deeper place inner in
    omega (arith, s, w, d)

pub arg_falls : (e part : Expr) (function : _) (place : Place) (args : _) → e ≡ form.Std function place args
    → (items : List Expr) → items ≡ args.items → (i : ℕ) → i < length items → part ≡ get_or items i part → size-Expr part < size-Expr e
arg_falls e part function place args is items its i inside at =
    let s : size-Expr part ≡ size-Expr (get_or items i part) = ap size-Expr at in
    let h : size-Expr (get_or items i part) ≤ most size-Expr items = at_most size-Expr items i part inside in
    let k : most size-Expr items ≡ most size-Expr args.items = ap (most size-Expr) its in
    let w : size-Expr e ≡ size-Expr (form.Std function place args) = ap size-Expr is in
    let d = args_deeper function place args in
    omega (arith, s, h, k, w, d)
