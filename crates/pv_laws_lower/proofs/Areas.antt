-- Bits and bytes of areas have cells among the shared ones, each a byte, and bytes that follow one another have cells that do.
use Rattle.std.proofs.Common.{◌≡◌, ◌⊎◌, inl, inr, ◌≤◌, ◌<◌, ℕ, zero, suc, ◌+◌, ◌-◌, List, [], ◌∷◌, ◌++◌, length, map, Bool as Truth, true, false, cond, ◌&&◌, not, Some, Contains, refl, sym, ap, subst, ◌∙◌, arith}
use Rattle.std.specs.Prelude.{⊤, slice_get, nat_le, nat_lt, nat_eq, flat_map, if◌then◌else◌}
use Rattle.std.specs.List.{AllByRecursion, position_or_len}
use Rattle.std.proofs.lemmas.Bool.{false≢true, ltb-true, ltb-false, eq-eqb, eqb-false, ne_eqb}
use Rattle.std.proofs.lemmas.List.{length-append, length-map, map-append}
use Rattle.std.proofs.lemmas.Option.{none-some}
use Rattle.pv_word.specs.declared.types.Ty.{Ty}
use Rattle.pv_word.specs.declared.types.Ty.TheVariants.{Bool, Byte, Word, Dword, Int, Dint, Time}
use Rattle.pv_word.specs.Types.{width_of}
use Rattle.pv_place.specs.declared.role.Role.{Role}
use Rattle.pv_place.specs.declared.role.Role.TheVariants.{Input as InputRole, Kept}
use Rattle.pv_tree.specs.declared.expr.Area.{Area}
use Rattle.pv_tree.specs.declared.expr.Area.TheVariants.{I, Q, M}
use Rattle.pv_tree.specs.Tree.{OperandTree, BlockTree}
use Rattle.pv_tree.specs.Scopes.{ProjectTree}
use Rattle.pv_tree.specs.Things.{last_byte, is_address}
use Rattle.pv_mean.specs.declared.cell.Cell.{Cell}
use Rattle.pv_mean.specs.Layout.{entry_size, data_size}
use Rattle.pv_mean.specs.AreaBytes.{Bytes, bytes_of_operand, all_operands, from_on, with_number, rising, bytes_of, place_of_byte}
use Rattle.pv_mean.specs.Cells.{entry_cells, data_cells, area_cells, byte_cell}
use Rattle.pv_mean.specs.Sources.{Source, byte_number}
use Rattle.pv_mean.specs.Activations.{address_spot}
use Rattle.pv_laws_types.specs.Typed.{HasTable, visible_types, types_of_cells}
use Rattle.pv_laws_types.proofs.ForCallers.{table_types, table_stands}
use Rattle.pv_laws_lower.specs.Below.{TableLaws}
use Rattle.pv_laws_lower.specs.Fit.{bytes_in}
use Rattle.pv_laws_lower.proofs.Regions.{AreShared, SpotLies}

-- ---- numbers that rise

abbrev IsRising : List ℕ → Type 0
IsRising [] = ⊤
IsRising (x ∷ xs) = AllByRecursion (λ y. x < y) xs × IsRising xs

less_all : (n m : ℕ) (xs : List ℕ) → n < m → AllByRecursion (λ y. m < y) xs → AllByRecursion (λ y. n < y) xs
less_all n m [] lt a = tt
less_all n m (x ∷ xs) lt a = (let b = a.0 in omega (arith, lt, b), less_all n m xs lt a.1)

with_all : (x n : ℕ) (xs : List ℕ) → x < n → AllByRecursion (λ y. x < y) xs → AllByRecursion (λ y. x < y) (with_number n xs)
with_all x n [] lt a = (lt, tt)
with_all x n (m ∷ more) lt a = lead (nat_lt n m) (nat_eq n m) (with_all x n more lt a.1)
  where
    lead : (b c : Truth) → AllByRecursion (λ y. x < y) (with_number n more)
        → AllByRecursion (λ y. x < y) (if b then n ∷ m ∷ more else (if c then m ∷ more else m ∷ with_number n more))
    lead true c rest = (lt, a)
    lead false true rest = a
    lead false false rest = (a.0, rest)

with_rises : (n : ℕ) (xs : List ℕ) → IsRising xs → IsRising (with_number n xs)
with_rises n [] r = (tt, tt)
with_rises n (m ∷ more) r = lead (nat_lt n m) refl (nat_eq n m) refl (with_rises n more r.1)
  where
    lead : (b : Truth) → nat_lt n m ≡ b → (c : Truth) → nat_eq n m ≡ c → IsRising (with_number n more)
        → IsRising (if b then n ∷ m ∷ more else (if c then m ∷ more else m ∷ with_number n more))
    lead true e c f rest = let lt = ltb-true n m e in ((lt, less_all n m more lt r.0), r)
    lead false e true f rest = r
    lead false e false f rest =
        let le = ltb-false n m e in
        let ne = eqb-false n m f in (with_all m n more (below le ne) r.0, rest)
      where
        below : m ≤ n → (n ≡ m → ⊥) → m < n
        below le ne = grind (arith, le, ne)

rising_rises : (xs : List ℕ) → IsRising (rising xs)
rising_rises [] = tt
rising_rises (x ∷ xs) = with_rises x (rising xs) (rising_rises xs)

-- ---- places in such a list

abbrev pub Has : List ℕ → ℕ → Type 0
Has [] n = ⊥
Has (y ∷ ys) n = (n ≡ y) ⊎ Has ys n

pub contains_has : (xs : List ℕ) (n : ℕ) → Contains xs n → Has xs n
contains_has [] n (k, lt, e) = absurd (omega (arith, lt))
contains_has (y ∷ ys) n (zero, lt, e) = inl (sym e)
contains_has (y ∷ ys) n (suc k, lt, e) = inr (contains_has ys n (k, omega (arith, lt), e))

abbrev at_place : ℕ → List ℕ → ℕ
at_place n xs = position_or_len (nat_eq n) xs

here_first : (n y : ℕ) (ys : List ℕ) → n ≡ y → at_place n (y ∷ ys) ≡ 0
here_first n y ys e = ap {B = ℕ} (λ b. cond (not b) (1 + at_place n ys) 0) (eq-eqb n y e)

behind_first : (n y : ℕ) (ys : List ℕ) → (n ≡ y → ⊥) → at_place n (y ∷ ys) ≡ 1 + at_place n ys
behind_first n y ys ne = ap {B = ℕ} (λ b. cond (not b) (1 + at_place n ys) 0) (ne_eqb n y ne)

above : (y : ℕ) (ys : List ℕ) (n : ℕ) → AllByRecursion (λ z. y < z) ys → Has ys n → y < n
above y [] n a h = absurd h
above y (z ∷ zs) n a (inl e) = let b = a.0 in omega (arith, b, e)
above y (z ∷ zs) n a (inr h) = above y zs n a.1 h

-- the next number has the next place
next_first : (m : ℕ) (ys : List ℕ) → AllByRecursion (λ z. m < z) ys → IsRising ys → Has ys (suc m) → at_place (suc m) ys ≡ 0
next_first m [] a r h = absurd h
next_first m (z ∷ zs) a r (inl e) = here_first (suc m) z zs e
next_first m (z ∷ zs) a r (inr h) = let b = above z zs (suc m) r.0 h in let c = a.0 in absurd (omega (arith, b, c))

next_place : (xs : List ℕ) (m : ℕ) → IsRising xs → Has xs m → Has xs (suc m) → at_place (suc m) xs ≡ suc (at_place m xs)
next_place [] m r h g = absurd h
next_place (y ∷ ys) m r (inl e) (inl f) = absurd (omega (arith, e, f))
next_place (y ∷ ys) m r (inl e) (inr g) =
    behind_first (suc m) y ys (λ f. omega (arith, e, f))
    ∙ (let a = next_first m ys (subst (λ n. AllByRecursion (λ z. n < z) ys) (sym e) r.0) r.1 g in
    let b = here_first m y ys e in omega (arith, a, b))
next_place (y ∷ ys) m r (inr h) (inl f) = let b = above y ys m r.0 h in absurd (omega (arith, b, f))
next_place (y ∷ ys) m r (inr h) (inr g) =
    let b = above y ys m r.0 h in
    let a = next_place ys m r.1 h g in
    behind_first (suc m) y ys (λ f. omega (arith, b, f))
    ∙ (let c = behind_first m y ys (λ f. omega (arith, b, f)) in omega (arith, a, c))

places_follow : (xs : List ℕ) (m count : ℕ) → IsRising xs → ((k : ℕ) → k < count → Has xs (m + k)) → (k : ℕ) → k < count
    → at_place (m + k) xs ≡ at_place m xs + k
places_follow xs m count r has zero lt = ap (λ (n : ℕ). at_place n xs) (none_more m) ∙ sym (none_more (at_place m xs))
  where
    none_more : (n : ℕ) → n + 0 ≡ n
    none_more n = omega arith
places_follow xs m count r has (suc k) lt =
    let before = places_follow xs m count r has k (omega (arith, lt)) in
    let next = next_place xs (m + k) r (has k (omega (arith, lt))) (subst (Has xs) (more m k) (has (suc k) lt)) in
    ap (λ (n : ℕ). at_place n xs) (more m k) ∙ next ∙ ap suc before ∙ sym (more (at_place m xs) k)
  where
    more : (n k : ℕ) → n + suc k ≡ suc (n + k)
    more n k = omega arith

place_within : (xs : List ℕ) (n : ℕ) → Has xs n → at_place n xs < length xs
place_within [] n h = absurd h
place_within (y ∷ ys) n h = lead (nat_eq n y) refl h (λ g. place_within ys n g)
  where
    lead : (b : Truth) → nat_eq n y ≡ b → (n ≡ y) ⊎ Has ys n → (Has ys n → at_place n ys < length ys)
        → cond (not b) (1 + at_place n ys) 0 < suc (length ys)
    lead true e g rest = omega arith
    lead false e (inl f) rest = absurd (eqb-false n y e f)
    lead false e (inr g) rest = let a = rest g in omega (arith, a)

-- ---- bytes of an area

area_rises : (source : Source) (project : ProjectTree) (patterns : List OperandTree) (area : Area) → source.bytes ≡ bytes_of project patterns
    → IsRising (bytes_in source.bytes area)
area_rises source project patterns I e = subst (λ (b : Bytes). IsRising b.inputs) (sym e)
    (rising_rises (flat_map (bytes_of_operand I) (all_operands project patterns)))
area_rises source project patterns Q e = subst (λ (b : Bytes). IsRising b.outputs) (sym e)
    (rising_rises (flat_map (bytes_of_operand Q) (all_operands project patterns)))
area_rises source project patterns M e = subst (λ (b : Bytes). IsRising b.flags) (sym e)
    (rising_rises (flat_map (bytes_of_operand M) (all_operands project patterns)))

byte_follows : (bytes : Bytes) (area : Area) (n count : ℕ) → IsRising (bytes_in bytes area)
    → ((k : ℕ) → k < count → Has (bytes_in bytes area) (n + k)) → (k : ℕ) → k < count
    → place_of_byte bytes area (n + k) ≡ place_of_byte bytes area n + k
byte_follows bytes I n count r has k lt = places_follow bytes.inputs n count r has k lt
byte_follows bytes Q n count r has k lt = let a = places_follow bytes.outputs n count r has k lt in omega (arith, a)
byte_follows bytes M n count r has k lt = let a = places_follow bytes.flags n count r has k lt in omega (arith, a)

abbrev byte_count : Bytes → ℕ
byte_count bytes = length bytes.inputs + length bytes.outputs + length bytes.flags

byte_within : (bytes : Bytes) (area : Area) (n : ℕ) → Has (bytes_in bytes area) n → place_of_byte bytes area n < byte_count bytes
byte_within bytes I n h = let a = place_within bytes.inputs n h in omega (arith, a)
byte_within bytes Q n h = let a = place_within bytes.outputs n h in omega (arith, a)
byte_within bytes M n h = let a = place_within bytes.flags n h in omega (arith, a)

-- ---- their cells

get_left : {X : Type 0} (xs ys : List X) (n : ℕ) (x : X) → slice_get xs n ≡ Some x → slice_get (xs ++ ys) n ≡ Some x
get_left [] ys n x e = absurd (none-some x e)
get_left (y ∷ xs) ys zero x e = e
get_left (y ∷ xs) ys (suc n) x e = get_left xs ys n x e

get_right : {X : Type 0} (xs ys : List X) (n j : ℕ) → n ≡ length xs + j → slice_get (xs ++ ys) n ≡ slice_get ys j
get_right [] ys n j e = ap (slice_get ys) (omega (arith, e))
get_right (x ∷ xs) ys zero j e = absurd (omega (arith, e))
get_right (x ∷ xs) ys (suc n) j e = get_right xs ys n j (omega (arith, e))

cells_are_bytes : (letter : ℕ) (role : Role) (ns : List ℕ) (j : ℕ) → j < length ns
    → slice_get (types_of_cells (map (byte_cell letter role) ns)) j ≡ Some Byte
cells_are_bytes letter role [] j lt = absurd (omega (arith, lt))
cells_are_bytes letter role (n ∷ ns) zero lt = refl
cells_are_bytes letter role (n ∷ ns) (suc j) lt = cells_are_bytes letter role ns j (omega (arith, lt))

abbrev AllBytes : List Ty → Type 0
AllBytes types = (j : ℕ) → j < length types → slice_get types j ≡ Some Byte

both_bytes : (xs ys : List Ty) → AllBytes xs → AllBytes ys → AllBytes (xs ++ ys)
both_bytes xs ys a b j lt = by (nat_lt j (length xs)) refl
  where
    by : (t : Truth) → nat_lt j (length xs) ≡ t → slice_get (xs ++ ys) j ≡ Some Byte
    by true e = get_left xs ys j Byte (a j (ltb-true j (length xs) e))
    by false e =
        let le = ltb-false j (length xs) e in
        let all = length-append xs ys in
        get_right xs ys j (j - length xs) (omega (arith, le)) ∙ b (j - length xs) (omega (arith, le, lt, all))

named_bytes_are : (letter : ℕ) (role : Role) (ns : List ℕ) → AllBytes (types_of_cells (map (byte_cell letter role) ns))
named_bytes_are letter role ns j lt =
    let a = length-map (map (byte_cell letter role) ns) (λ (c : Cell). c.ty) in
    let b = length-map ns (byte_cell letter role) in cells_are_bytes letter role ns j (omega (arith, lt, a, b))

areas_are_bytes : (bytes : Bytes) → AllBytes (types_of_cells (area_cells bytes))
areas_are_bytes bytes =
    subst AllBytes
    (ap (λ l. l ++ types_of_cells ms) (sym (map-append (λ (c : Cell). c.ty) is qs)) ∙ sym (map-append (λ (c : Cell). c.ty) (is ++ qs) ms))
    (both_bytes (types_of_cells is ++ types_of_cells qs) (types_of_cells ms)
    (both_bytes (types_of_cells is) (types_of_cells qs) (named_bytes_are 73 InputRole bytes.inputs) (named_bytes_are 81 Kept bytes.outputs))
    (named_bytes_are 77 Kept bytes.flags))
  where
    is : List Cell
    is = map (byte_cell 73 InputRole) bytes.inputs

    qs : List Cell
    qs = map (byte_cell 81 Kept) bytes.outputs

    ms : List Cell
    ms = map (byte_cell 77 Kept) bytes.flags

module _ (laws : TableLaws) (source : Source) (table : HasTable source) where
  abbrev before : List Cell
  before = entry_cells source.project source.entry ++ flat_map (data_cells source.project) source.project.blocks

  before_counted : length (types_of_cells before)
      ≡ entry_size source.project source.entry + data_size source.project source.project.blocks
  before_counted =
      let a = length-map before (λ (c : Cell). c.ty) in
      let b = length-append (entry_cells source.project source.entry) (flat_map (data_cells source.project) source.project.blocks) in
      let c = laws.entry source.project source.entry in
      let d = laws.data_blocks source.project in omega (arith, a, b, c, d)

  in_table : (j : ℕ) → j < byte_count source.bytes
      → slice_get (table_types source) (entry_size source.project source.entry + data_size source.project source.project.blocks + j) ≡ Some Byte
  in_table j lt =
      let n = entry_size source.project source.entry + data_size source.project source.project.blocks + j in
      let a = before_counted in
      let b = laws.areas source.bytes in
      let c = length-map (area_cells source.bytes) (λ (x : Cell). x.ty) in
      ap (λ l. slice_get l n) (map-append (λ (x : Cell). x.ty) before (area_cells source.bytes))
      ∙ get_right (types_of_cells before) (types_of_cells (area_cells source.bytes)) n j (omega (arith, a))
      ∙ areas_are_bytes source.bytes j (omega (arith, lt, b, c))

  byte_there : (j : ℕ) → j < byte_count source.bytes
      → slice_get (visible_types source) (entry_size source.project source.entry + data_size source.project source.project.blocks + j) ≡ Some Byte
  byte_there j lt =
      let n = entry_size source.project source.entry + data_size source.project source.project.blocks + j in
      let s = table_stands laws.shows source table in
      let at = s.at in
      ap (λ l. slice_get l n) s.is
      ∙ get_right s.front (table_types source ++ s.back) n n (omega (arith, at))
      ∙ get_left (table_types source) s.back n Byte (in_table j lt)

  -- bytes of an area that have cells
  area_shared : (patterns : List OperandTree) → source.bytes ≡ bytes_of source.project patterns → (area : Area) (n count : ℕ)
      → ((k : ℕ) → k < count → Has (bytes_in source.bytes area) (n + k)) → AreShared source (byte_number source area n) count
  area_shared patterns named area n count has k lt =
      let r = area_rises source source.project patterns area named in
      let f = byte_follows source.bytes area n count r has k lt in
      let w = byte_within source.bytes area (n + k) (has k lt) in (
        omega arith,
        ap (slice_get (visible_types source)) (behind_them _ _ (place_of_byte source.bytes area n) k)
            ∙ byte_there (place_of_byte source.bytes area n + k) (omega (arith, f, w)),
      )
    where
      behind_them : (e d p k : ℕ) → e + d + p + k ≡ e + d + (p + k)
      behind_them e d p k = omega arith

-- ---- addresses

from_on_has : (n count k : ℕ) → k < count → Contains (from_on n count) (n + k)
from_on_has n zero k lt = absurd (omega (arith, lt))
from_on_has n (suc count) zero lt = (0, omega arith, here n)
  where
    here : (m : ℕ) → m ≡ m + 0
    here m = omega arith
from_on_has n (suc count) (suc k) lt =
    let c = from_on_has (n + 1) count k (omega (arith, lt)) in
    subst (Contains (n ∷ from_on (n + 1) count)) (more n k) (suc c.0, (let l = c.1 in omega (arith, l)), c.2)
  where
    more : (n k : ℕ) → n + 1 + k ≡ n + suc k
    more n k = omega arith

and_both : (a b : Truth) → a && b ≡ true → (a ≡ true) × (b ≡ true)
and_both true b e = (refl, e)
and_both false b e = absurd (false≢true e)

-- how many bytes an address has that is as wide as a type
abbrev bytes_wide : Ty → ℕ
bytes_wide Bool = 1
bytes_wide Byte = 1
bytes_wide Word = 2
bytes_wide Dword = 4
bytes_wide Int = 2
bytes_wide Dint = 4
bytes_wide Time = 4

wide_bytes : (ty : Ty) (byte : ℕ) → last_byte (width_of ty) byte - byte + 1 ≡ bytes_wide ty
wide_bytes Bool byte = omega arith
wide_bytes Byte byte = omega arith
wide_bytes Word byte = omega arith
wide_bytes Dword byte = omega arith
wide_bytes Int byte = omega arith
wide_bytes Dint byte = omega arith
wide_bytes Time byte = omega arith

spot_lies : (asks : Type 0) (source : Source) (block : BlockTree) (ty : Ty) (area : Area) (byte n : ℕ) → n < 8
    → AreShared source (byte_number source area byte) (bytes_wide ty)
    → SpotLies asks source block (address_spot source ty area (width_of ty) byte n) []
spot_lies asks source block Bool area byte n lt shared = (lt, shared)
spot_lies asks source block Byte area byte n lt shared = (omega arith, shared, refl)
spot_lies asks source block Word area byte n lt shared = (omega arith, shared, refl)
spot_lies asks source block Dword area byte n lt shared = (omega arith, shared, refl)
spot_lies asks source block Int area byte n lt shared = (omega arith, shared, refl)
spot_lies asks source block Dint area byte n lt shared = (omega arith, shared, refl)
spot_lies asks source block Time area byte n lt shared = (omega arith, shared, refl)

le_told : (a b : ℕ) → nat_le a b ≡ true → a ≤ b
le_told a b e = grind (arith, e)

-- an address that is as wide as its type, each of whose bytes has a cell
pub address_lies : (asks : Type 0) → TableLaws → (source : Source) → HasTable source → (patterns : List OperandTree)
    → source.bytes ≡ bytes_of source.project patterns → (block : BlockTree) (ty : Ty) (area : Area) (bits byte n : ℕ)
    → is_address bits byte n ≡ true → bits ≡ width_of ty
    → ((k : ℕ) → Contains (from_on byte (last_byte bits byte - byte + 1)) k → Contains (bytes_in source.bytes area) k)
    → SpotLies asks source block (address_spot source ty area bits byte n) []
address_lies asks laws source table patterns named block ty area bits byte n right wide has =
    subst (λ (b : ℕ). SpotLies asks source block (address_spot source ty area b byte n) []) (sym wide)
    (spot_lies asks source block ty area byte n small
    (area_shared laws source table patterns named area byte (bytes_wide ty)
    (λ k lt. contains_has (bytes_in source.bytes area) (byte + k)
    (has (byte + k) (subst (λ (c : ℕ). Contains (from_on byte c) (byte + k))
    (sym (ap (λ (b : ℕ). last_byte b byte - byte + 1) wide ∙ wide_bytes ty byte)) (from_on_has byte (bytes_wide ty) k lt))))))
  where
    small : n < 8
    small = let a = le_told n 7 (and_both (nat_le n 7) (nat_le (last_byte bits byte) 65535) right).0 in omega (arith, a)
