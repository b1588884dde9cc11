-- Each byte of an area has one cell, and no two have the same.
use Rattle.std.proofs.Common.{◌≡◌, ◌<◌, ◌≤◌, ℕ, ◌+◌, List, length, Bool, true, false, ltb, get_or, refl, ap, sym, ◌∙◌, arith}
use Rattle.std.specs.Prelude.{Contains, nat_eq}
use Rattle.std.specs.List.{position_or_len}
use Rattle.std.proofs.lemmas.List.Sums.{fails_before_first, passes_at_first}
use Rattle.std.proofs.lemmas.Bool.{true≢false, ltb-true, ltb-false, eq-eqb, eqb-true}
use Rattle.pv_tree.specs.declared.expr.Area.{Area}
use Rattle.pv_tree.specs.declared.expr.Area.TheVariants.{I, Q, M}
use Rattle.pv_mean.specs.Layout.{entry_size, data_size}
use Rattle.pv_mean.specs.AreaBytes.{Bytes, place_of_byte}
use Rattle.pv_mean.specs.Sources.{Source, byte_number}
use Rattle.pv_laws_scans.specs.Areas.{numbers_in}

-- ---- places in a list

place-within : (xs : List ℕ) (n : ℕ) → Contains xs n → position_or_len (nat_eq n) xs < length xs
place-within xs n has = lead (ltb (position_or_len (nat_eq n) xs) (length xs)) refl
  where
    lead : (b : Bool) → ltb (position_or_len (nat_eq n) xs) (length xs) ≡ b → position_or_len (nat_eq n) xs < length xs
    lead true is = ltb-true (position_or_len (nat_eq n) xs) (length xs) is
    lead false is =
        let past = ltb-false (position_or_len (nat_eq n) xs) (length xs) is in
        let fails = fails_before_first (nat_eq n) xs has.0 n (omega (arith, has.1, past)) in
        absurd (true≢false (sym (eq-eqb n (get_or xs has.0 n) (sym has.2)) ∙ fails))

place-same : (xs : List ℕ) (n m : ℕ) → Contains xs n → Contains xs m
    → position_or_len (nat_eq n) xs ≡ position_or_len (nat_eq m) xs → n ≡ m
place-same xs n m has also same =
    eqb-true n _ (passes_at_first (nat_eq n) xs 0 (place-within xs n has))
    ∙ ap (λ i. get_or xs i 0) same
    ∙ sym (eqb-true m _ (passes_at_first (nat_eq m) xs 0 (place-within xs m also)))

-- ---- bytes

place-in : (bytes : Bytes) (area : Area) (n : ℕ) → Contains (numbers_in bytes area) n
    → place_of_byte bytes area n < length bytes.inputs + length bytes.outputs + length bytes.flags
place-in bytes I n has = let h = place-within bytes.inputs n has in omega (arith, h)
place-in bytes Q n has = let h = place-within bytes.outputs n has in omega (arith, h)
place-in bytes M n has = let h = place-within bytes.flags n has in omega (arith, h)

place-apart : (bytes : Bytes) (area other : Area) (n m : ℕ) → Contains (numbers_in bytes area) n → Contains (numbers_in bytes other) m
    → place_of_byte bytes area n ≡ place_of_byte bytes other m → (area ≡ other) × (n ≡ m)
place-apart bytes I I n m has also same = (refl, place-same bytes.inputs n m has also same)
place-apart bytes Q Q n m has also same =
    let e : position_or_len (nat_eq n) bytes.outputs ≡ position_or_len (nat_eq m) bytes.outputs = omega (arith, same) in
    (refl, place-same bytes.outputs n m has also e)
place-apart bytes M M n m has also same =
    let e : position_or_len (nat_eq n) bytes.flags ≡ position_or_len (nat_eq m) bytes.flags = omega (arith, same) in
    (refl, place-same bytes.flags n m has also e)
place-apart bytes I Q n m has also same = let h = place-within bytes.inputs n has in absurd (omega (arith, h, same))
place-apart bytes I M n m has also same = let h = place-within bytes.inputs n has in absurd (omega (arith, h, same))
place-apart bytes Q I n m has also same = let h = place-within bytes.inputs m also in absurd (omega (arith, h, same))
place-apart bytes Q M n m has also same = let h = place-within bytes.outputs n has in absurd (omega (arith, h, same))
place-apart bytes M I n m has also same = let h = place-within bytes.inputs m also in absurd (omega (arith, h, same))
place-apart bytes M Q n m has also same = let h = place-within bytes.outputs m also in absurd (omega (arith, h, same))

pub byte-in : (source : Source) (area : Area) (n : ℕ) → Contains (numbers_in source.bytes area) n
    → (entry_size source.project source.entry + data_size source.project source.project.blocks ≤ byte_number source area n)
    × (byte_number source area n < entry_size source.project source.entry + data_size source.project source.project.blocks
    + (length source.bytes.inputs + length source.bytes.outputs + length source.bytes.flags))
byte-in source area n has = let h = place-in source.bytes area n has in (omega arith, omega (arith, h))

pub byte-apart : (source : Source) (area other : Area) (n m : ℕ) → Contains (numbers_in source.bytes area) n
    → Contains (numbers_in source.bytes other) m → byte_number source area n ≡ byte_number source other m → (area ≡ other) × (n ≡ m)
byte-apart source area other n m has also same = place-apart source.bytes area other n m has also (omega (arith, same))
