-- Marks in a table, one after another, and the bytes that operands name.
use Rattle.std.proofs.Common.{◌≡◌, inl, inr, ℕ, zero, suc, ◌+◌, ◌-◌, ◌<◌, ◌≤◌, List, [], ◌∷◌, ◌++◌, Bool, true, false, cond, replicate, length, get_or, take, refl, sym, ap, ◌∙◌, add-one, arith}
use Rattle.std.specs.Prelude.{◌||◌, ◌&&◌, nat_eq, nat_lt, nat_le, flat_map, slice_set}
use Rattle.std.specs.List.{list_any}
use Rattle.std.proofs.lemmas.Bool.{cases_eq, cases_order, cases_lt, eq-eqb, ne_eqb, lt-ltb, le-ltb, le-leb, lt-leb, or_right, and_from, and_right}
use Rattle.std.proofs.Math.Seq.{take-suc}
use Rattle.std.proofs.lemmas.List.{get_or-set_same, get_or-set_other, append-nil, take_all}
use Rattle.std.proofs.lemmas.List.Folds.{list_any-append}
use Rattle.std.proofs.lemmas.List.Concat.{flat_map-append}
use Rattle.pv_tree.specs.declared.expr.Area.{Area}
use Rattle.pv_tree.specs.Tree.{OperandTree}
use Rattle.pv_tree.specs.declared.expr.Root.TheVariants.{Area as InArea}
use Rattle.pv_tree.specs.Things.{last_byte, is_address}
use Rattle.pv_mean.specs.AreaBytes.{is_same_area, from_on, bytes_of_root, bytes_of_operand}
use Rattle.pv_bytes.specs.Numbers.{flag_at}
use Rattle.pv_bytes.specs.Operands.{names_byte, MarksAlso}

-- ---- tests

pub or_false : (b : Bool) → b ≡ (b || false)
or_false true = refl
or_false false = refl

or_assoc : (a b c : Bool) → ((a || b) || c) ≡ (a || (b || c))
or_assoc true b c = refl
or_assoc false b c = refl

-- ---- no mark and one

pub none_marked : (n k : ℕ) → flag_at (replicate n false) k ≡ false
none_marked zero k = refl
none_marked (suc n) zero = refl
none_marked (suc n) (suc k) = none_marked n k

pub marked-set : (flags : List Bool) (n k : ℕ) → n < length flags → flag_at (slice_set flags n true) k ≡ (flag_at flags k || nat_eq k n)
marked-set flags n k inside = elim (cases_eq k n) [
  | inl same ↦ ap (λ j. get_or (slice_set flags n true) j false) same ∙ get_or-set_same flags n true false inside
      ∙ sym (or_right (flag_at flags k) (nat_eq k n) (eq-eqb k n same))
  | inr other ↦ get_or-set_other flags n k true false other ∙ or_false (flag_at flags k)
      ∙ ap (λ b. flag_at flags k || b) (sym (ne_eqb k n other))
]

-- ---- the marks of a range

-- none is below its first
pub range_none : (first k : ℕ) → (nat_le first k && nat_lt k first) ≡ false
range_none first k = elim (cases_lt k first) [
  | inl less ↦ ap (λ b. b && nat_lt k first) (lt-leb first k less)
  | inr more ↦ and_right (nat_le first k) (nat_lt k first) (le-ltb k first more)
]

pub range_more : (first n k : ℕ) → first ≤ n
    → ((nat_le first k && nat_lt k n) || nat_eq k n) ≡ (nat_le first k && nat_lt k (n + 1))
range_more first n k le = elim (cases_order k n) [
  | inl same ↦ or_right (nat_le first k && nat_lt k n) (nat_eq k n) (eq-eqb k n same)
      ∙ sym (and_from (nat_le first k) (nat_lt k (n + 1)) (le-leb first k (omega (arith, same, le)))
      (lt-ltb k (n + 1) (omega (arith, same))))
  | inr apart ↦ elim apart [
    | inl less ↦ ap (λ t. (nat_le first k && nat_lt k n) || t) (ne_eqb k n (λ e. omega (arith, less, e)))
        ∙ sym (or_false (nat_le first k && nat_lt k n))
        ∙ ap (λ t. nat_le first k && t) (lt-ltb k n less ∙ sym (lt-ltb k (n + 1) (omega (arith, less))))
    | inr more ↦ ap (λ t. (nat_le first k && nat_lt k n) || t) (ne_eqb k n (λ e. omega (arith, more, e)))
        ∙ sym (or_false (nat_le first k && nat_lt k n))
        ∙ ap (λ t. nat_le first k && t) (le-ltb k n (omega (arith, more)) ∙ sym (le-ltb k (n + 1) (omega (arith, more))))
  ]
]

pub lt_next : (k last : ℕ) → nat_lt k (last + 1) ≡ nat_le k last
lt_next k last = elim (cases_lt last k) [
  | inl less ↦ le-ltb k (last + 1) (omega (arith, less)) ∙ sym (lt-leb k last less)
  | inr more ↦ lt-ltb k (last + 1) (omega (arith, more)) ∙ sym (le-leb k last more)
]

-- one more mark of a range
pub next_mark : (f g : Bool) (first n k : ℕ) → first ≤ n → g ≡ (f || (nat_le first k && nat_lt k n))
    → (g || nat_eq k n) ≡ (f || (nat_le first k && nat_lt k (n + 1)))
next_mark f g first n k le is =
    ap (λ t. t || nat_eq k n) is ∙ or_assoc f (nat_le first k && nat_lt k n) (nat_eq k n) ∙ ap (λ t. f || t) (range_more first n k le)

-- the first number, and those behind it
range_first : (n m k : ℕ) → n < m → (nat_eq k n || (nat_le (n + 1) k && nat_lt k m)) ≡ (nat_le n k && nat_lt k m)
range_first n m k le = elim (cases_order k n) [
  | inl same ↦ ap (λ t. t || (nat_le (n + 1) k && nat_lt k m)) (eq-eqb k n same)
      ∙ sym (and_from (nat_le n k) (nat_lt k m) (le-leb n k (omega (arith, same))) (lt-ltb k m (omega (arith, same, le))))
  | inr apart ↦ elim apart [
    | inl less ↦ ap (λ t. t || (nat_le (n + 1) k && nat_lt k m)) (ne_eqb k n (λ e. omega (arith, less, e)))
        ∙ ap (λ t. t && nat_lt k m) (lt-leb (n + 1) k (omega (arith, less)) ∙ sym (lt-leb n k less))
    | inr more ↦ ap (λ t. t || (nat_le (n + 1) k && nat_lt k m)) (ne_eqb k n (λ e. omega (arith, more, e)))
        ∙ ap (λ t. t && nat_lt k m) (le-leb (n + 1) k (omega (arith, more)) ∙ sym (le-leb n k (omega (arith, more))))
  ]
]

any_from : (n c k : ℕ) → list_any (nat_eq k) (from_on n c) ≡ (nat_le n k && nat_lt k (n + c))
any_from n zero k =
    let e : n + zero ≡ n = omega arith in sym (range_none n k) ∙ ap (λ m. nat_le n k && nat_lt k m) (sym e)
any_from n (suc c) k =
    let e : (n + 1) + c ≡ n + suc c = omega arith in
    ap (λ t. nat_eq k n || t) (any_from (n + 1) c k ∙ ap (λ m. nat_le (n + 1) k && nat_lt k m) e)
    ∙ range_first n (n + suc c) k (omega arith)

-- the bytes from one to another
pub named_range : (first last k : ℕ) → first ≤ last
    → list_any (nat_eq k) (from_on first (last - first + 1)) ≡ (nat_le first k && nat_le k last)
named_range first last k le =
    let e : first + (last - first + 1) ≡ last + 1 = omega (arith, le) in
    any_from first (last - first + 1) k ∙ ap (λ m. nat_le first k && nat_lt k m) e ∙ ap (λ t. nat_le first k && t) (lt_next k last)

-- an address that lies in the area
pub address_marked : (area other : Area) (bits byte bit last : ℕ) (f g : Bool) (k : ℕ) → is_same_area area other ≡ true
    → is_address bits byte bit ≡ true → last ≡ last_byte bits byte → byte ≤ last
    → g ≡ (f || (nat_le byte k && nat_le k last))
    → g ≡ (f || list_any (nat_eq k) (bytes_of_root area (InArea other bits byte bit)))
address_marked area other bits byte bit last f g k same there e le is =
    is ∙ ap (λ b. f || b) (sym (named_range byte last k le) ∙ ap (λ l. list_any (nat_eq k) (from_on byte (l - byte + 1))) e
    ∙ sym (ap (λ t. list_any (nat_eq k) (cond t (from_on byte (last_byte bits byte - byte + 1)) []))
    (and_from (is_same_area area other) (is_address bits byte bit) same there)))

-- ---- operands

names_both : (area : Area) (xs ys : List OperandTree) (k : ℕ)
    → names_byte area (xs ++ ys) k ≡ (names_byte area xs k || names_byte area ys k)
names_both area xs ys k =
    ap (list_any (nat_eq k)) (flat_map-append (bytes_of_operand area) xs ys)
    ∙ list_any-append (nat_eq k) (flat_map (bytes_of_operand area) xs) (flat_map (bytes_of_operand area) ys)

pub also_nothing : (area : Area) (flags : List Bool) → MarksAlso area flags flags []
also_nothing area flags = λ k. or_false (flag_at flags k)

pub also_then : (area : Area) (a b c : List Bool) (xs ys : List OperandTree) → MarksAlso area a b xs → MarksAlso area b c ys
    → MarksAlso area a c (xs ++ ys)
also_then area a b c xs ys f g = λ k.
    g k ∙ ap (λ t. t || names_byte area ys k) (f k) ∙ or_assoc (flag_at a k) (names_byte area xs k) (names_byte area ys k)
    ∙ ap (λ t. flag_at a k || t) (sym (names_both area xs ys k))

-- an operand's own bytes
pub also_one : (area : Area) (a b : List Bool) (o : OperandTree)
    → ((k : ℕ) → flag_at b k ≡ (flag_at a k || list_any (nat_eq k) (bytes_of_operand area o))) → MarksAlso area a b (o ∷ [])
also_one area a b o f = λ k. f k ∙ ap (λ l. flag_at a k || list_any (nat_eq k) l) (sym (append-nil (bytes_of_operand area o)))

pub also_same : (area : Area) (a b : List Bool) (xs ys : List OperandTree) → xs ≡ ys → MarksAlso area a b xs → MarksAlso area a b ys
also_same area a b xs ys e f = λ k. f k ∙ ap (λ os. flag_at a k || names_byte area os k) e

-- ---- over a list, one element more

module _ {X : Type 0} (area : Area) (g : X → List OperandTree) (xs : List X) where
  pub also_more : (i : ℕ) (x : X) (a b c : List Bool) → i < length xs → x ≡ get_or xs i x → MarksAlso area a b (flat_map g (take i xs))
      → MarksAlso area b c (g x)
      → MarksAlso area a c (flat_map g (take (i + 1) xs))
  also_more i x a b c inside is before step =
      let e : take (i + 1) xs ≡ take i xs ++ x ∷ [] =
      ap (λ n. take n xs) (add-one i) ∙ take-suc xs i x inside ∙ ap (λ y. take i xs ++ y ∷ []) (sym is) in
      let l : flat_map g (take i xs) ++ g x ≡ flat_map g (take (i + 1) xs) =
      sym (ap (flat_map g) e ∙ flat_map-append g (take i xs) (x ∷ []) ∙ ap (λ m. flat_map g (take i xs) ++ m) (append-nil (g x))) in
      also_same area a c _ _ l (also_then area a b c (flat_map g (take i xs)) (g x) before step)

  pub also_all : (i : ℕ) (a b : List Bool) → length xs ≤ i → MarksAlso area a b (flat_map g (take i xs))
      → MarksAlso area a b (flat_map g xs)
  also_all i a b le f = also_same area a b _ _ (ap (flat_map g) (take_all i xs le)) f
