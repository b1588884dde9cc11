-- Expressions of a project that keeps the rules fit, and so do patterns: their literals lie in the types that they take, and each byte of
-- their addresses has a cell.
use Rattle.std.proofs.Common.{◌≡◌, ◌≤ℤ◌, ◌⊎◌, inl, inr, ℕ, zero, suc, ℤ, List, [], ◌∷◌, ◌++◌, Bool as Truth, true, false, ◌&&◌, not, Option, Some, None, IsTrue, Contains, refl, sym, subst, arith}
use Rattle.std.specs.Prelude.{nat_eq, nat_lt, flat_map, map, int_le, if◌then◌else◌}
use Rattle.std.specs.List.{AllByRecursion}
use Rattle.std.proofs.lemmas.Bool.{eqb-true}
use Rattle.std.proofs.lemmas.Int.{ints}
use Rattle.std.proofs.lemmas.List.Elements.{Contains-append_left, Contains-append_right}
use Rattle.pv_word.specs.Types.{least_of, greatest_of}
use Rattle.pv_tree.specs.declared.expr.Area.{Area}
use Rattle.pv_tree.specs.declared.expr.Area.TheVariants.{I, Q, M}
use Rattle.pv_tree.specs.LiteralTypes.{Want, holds, nothing, type_of_literal}
use Rattle.pv_tree.specs.Parts.{parts_of, parts_of_block, reads_of_parts, assigned_operands, instruction_operands, operands_of}
use Rattle.pv_tree.specs.Rules.{out_of_range}
use Rattle.pv_tree.specs.Rules.OutOfRange.{IsWrittenOutside}
use Rattle.pv_tree.specs.Things.{first_place}
use Rattle.pv_tree.specs.Tree.{OperandTree}
use Rattle.pv_tree.specs.Types.{Written, literal_of}
use Rattle.pv_mean.specs.AreaBytes.{Bytes, bytes_of, bytes_of_operand, all_operands, with_number, rising}
use Rattle.pv_mean.specs.Sources.{Source}
use Rattle.pv_laws_lower.specs.Correct.{BlocksAreFit, PatternsAreFit}
use Rattle.pv_laws_lower.specs.Fit.{bytes_in, HasBytes, IsWide, IsAddressed, WrittenLies, LiteralLies}
use Rattle.pv_laws_lower.proofs.Areas.{Has, contains_has}
use Rattle.pv_laws_lower.proofs.Lists.{all_front, contains_more, all_of, all_both}

-- ---- lists

contains_flat : {X Y : Type 0} (f : X → List Y) (xs : List X) (x : X) (y : Y) → Contains xs x → Contains (f x) y → Contains (flat_map f xs) y
contains_flat f [] x y (k, lt, e) d = absurd (omega (arith, lt))
contains_flat f (z ∷ zs) x y (zero, lt, e) d =
    Contains-append_left (f z) (flat_map f zs) y (subst (λ u. Contains (f u) y) (sym e) d)
contains_flat f (z ∷ zs) x y (suc k, lt, e) d =
    Contains-append_right (f z) (flat_map f zs) y (contains_flat f zs x y (k, omega (arith, lt), e) d)

-- ---- numbers that rise

has_contains : (xs : List ℕ) (n : ℕ) → Has xs n → Contains xs n
has_contains [] n h = absurd h
has_contains (y ∷ ys) n (inl e) = (0, omega arith, sym e)
has_contains (y ∷ ys) n (inr h) = contains_more y n ys (has_contains ys n h)

keeps_with : (n m : ℕ) (xs : List ℕ) → Has xs m → Has (with_number n xs) m
keeps_with n m [] h = absurd h
keeps_with n m (x ∷ xs) h = lead (nat_lt n x) (nat_eq n x) h (λ g. keeps_with n m xs g)
  where
    lead : (a b : Truth) → (m ≡ x) ⊎ Has xs m → (Has xs m → Has (with_number n xs) m)
        → Has (if a then n ∷ x ∷ xs else (if b then x ∷ xs else x ∷ with_number n xs)) m
    lead true b g rest = inr g
    lead false true g rest = g
    lead false false (inl e) rest = inl e
    lead false false (inr g) rest = inr (rest g)

has_with : (n : ℕ) (xs : List ℕ) → Has (with_number n xs) n
has_with n [] = inl refl
has_with n (x ∷ xs) = lead (nat_lt n x) (nat_eq n x) refl (has_with n xs)
  where
    lead : (a b : Truth) → nat_eq n x ≡ b → Has (with_number n xs) n
        → Has (if a then n ∷ x ∷ xs else (if b then x ∷ xs else x ∷ with_number n xs)) n
    lead true b e rest = inl refl
    lead false true e rest = inl (eqb-true n x e)
    lead false false e rest = inr rest

rising_has : (xs : List ℕ) (n : ℕ) → Has xs n → Has (rising xs) n
rising_has [] n h = absurd h
rising_has (x ∷ xs) n (inl e) = subst (λ (m : ℕ). Has (with_number x (rising xs)) m) (sym e) (has_with x (rising xs))
rising_has (x ∷ xs) n (inr h) = keeps_with x n (rising xs) (rising_has xs n h)

-- the bytes of an operand that is named have cells
named_there : (source : Source) (patterns : List OperandTree) (o : OperandTree) → source.bytes ≡ bytes_of source.project patterns
    → Contains (all_operands source.project patterns) o → HasBytes source.bytes o
named_there source patterns o named there area n d = by area (there_in area d)
  where
    there_in : (a : Area) → Contains (bytes_of_operand a o) n
        → Contains (rising (flat_map (bytes_of_operand a) (all_operands source.project patterns))) n
    there_in a c = has_contains (rising (flat_map (bytes_of_operand a) (all_operands source.project patterns))) n
        (rising_has (flat_map (bytes_of_operand a) (all_operands source.project patterns)) n
        (contains_has (flat_map (bytes_of_operand a) (all_operands source.project patterns)) n
        (contains_flat (bytes_of_operand a) (all_operands source.project patterns) o n there c)))

    by : (a : Area) → Contains (rising (flat_map (bytes_of_operand a) (all_operands source.project patterns))) n
        → Contains (bytes_in source.bytes a) n
    by I c = subst (λ (b : Bytes). Contains b.inputs n) (sym named) c
    by Q c = subst (λ (b : Bytes). Contains b.outputs n) (sym named) c
    by M c = subst (λ (b : Bytes). Contains b.flags n) (sym named) c

-- ---- literals

within : (a b v : ℤ) → int_le a v && int_le v b ≡ true → (a ≤ℤ v) × (v ≤ℤ b)
within a b v e = (grind (arith, ints), grind (arith, ints))

pub is_not : (b : Truth) → (IsTrue (not b) → ⊥) → b ≡ true
is_not true f = refl
is_not false f = absurd (f refl)

pub written_lies : (want : Want) (o : Option Written) → (IsWrittenOutside want o → ⊥) → WrittenLies want o
written_lies want None f = tt
written_lies want (Some w) f =
    let ty = type_of_literal want w.ty w.value in
    let e = within (least_of ty) (greatest_of ty) w.value (is_not (holds ty w.value) f) in record { from = e.0; to = e.1 }

-- ---- the laws

fit_all : (source : Source) (os : List OperandTree) → ((o : OperandTree) → Contains os o → HasBytes source.bytes o) → AllByRecursion IsWide os
    → AllByRecursion (IsAddressed source.bytes) os
fit_all source os there wide =
    all_both (HasBytes source.bytes) IsWide (IsAddressed source.bytes) os (λ o a b. record { cells = a; wide = b })
    (all_of (HasBytes source.bytes) os there) wide

pub blocks_are_fit : BlocksAreFit
blocks_are_fit source patterns block keeps named c wide = (
  record {
    literals = all_of LiteralLies (parts_of_block source.project block) (λ p d. written_lies p.want (literal_of p.expr)
        (λ out. keeps out_of_range (first_place p.expr) (c.0, block, c.1, c.2, inl (d.0, p, d.1, d.2, (refl, out)))));
    addresses = all_front (IsAddressed source.bytes) (reads_of_parts (parts_of_block source.project block)) (assigned_operands block)
        (all_front (IsAddressed source.bytes) (reads_of_parts (parts_of_block source.project block) ++ assigned_operands block)
        (instruction_operands block) all);
  },
  all,
)
  where
    all : AllByRecursion (IsAddressed source.bytes) (operands_of source.project block)
    all = fit_all source (operands_of source.project block)
        (λ o d. named_there source patterns o named
        (Contains-append_left (flat_map (operands_of source.project) source.project.blocks ++ map (λ s. s.at) source.project.symbols) patterns o
        (Contains-append_left (flat_map (operands_of source.project) source.project.blocks) (map (λ s. s.at) source.project.symbols) o
        (contains_flat (operands_of source.project) source.project.blocks block o c d)))) wide

pub patterns_are_fit : PatternsAreFit
patterns_are_fit source patterns block e named keeps there wide = record {
  literals = all_of LiteralLies (parts_of (record { project = source.project; block = block }) nothing e)
      (λ p d. written_lies p.want (literal_of p.expr) (λ out. keeps out_of_range (first_place p.expr) (d.0, p, d.1, d.2, (refl, out))));
  addresses = fit_all source (reads_of_parts (parts_of (record { project = source.project; block = block }) nothing e))
      (λ o d. named_there source patterns o named
      (Contains-append_right (flat_map (operands_of source.project) source.project.blocks ++ map (λ s. s.at) source.project.symbols) patterns o
      (there o d))) wide;
}
