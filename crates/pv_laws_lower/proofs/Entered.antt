-- The variables of the entered block lie at their own places: those of its instance and the shared ones are the visible cells.
use Rattle.std.proofs.Common.{◌≡◌, ◌⊎◌, inl, inr, ◌≤◌, ◌<◌, ℕ, suc, ◌+◌, ◌-◌, ◌*◌, List, [], ◌∷◌, Bool as Truth, true, false, refl, ap, arith}
use Rattle.std.specs.Prelude.{nat_lt, not, ◌&&◌, if◌then◌else◌}
use Rattle.std.proofs.lemmas.Bool.{ltb-false}
use Rattle.std.proofs.lemmas.Slice.Eq.{bytes_eq-Decides}
use Rattle.pv_types.specs.declared.declaration.Section.{Section}
use Rattle.pv_types.specs.Tree.{VarTree, var}
use Rattle.pv_tree.specs.Scopes.{ProjectTree, is_fc}
use Rattle.pv_tree.specs.Callees.{is_param}
use Rattle.pv_tree.specs.Tree.{BlockTree}
use Rattle.pv_mean.specs.Layout.{size_in, size_among, is_brief_in, entry_size}
use Rattle.pv_mean.specs.Frames.{visible_len}
use Rattle.pv_variables.specs.Correct.{BoundAreCounted}
use Rattle.pv_variables.specs.Variables.{is_entry, is_bound_in, bound_count, value_count, behind, own_first, brief_among, brief_variable}
use Rattle.pv_laws_lower.specs.Agrees.{named_count, IsBrief}
use Rattle.pv_laws_lower.specs.Correct.{EntryLies}
use Rattle.pv_laws_lower.proofs.Roots.{shared_counted}

-- in a block that is no function no variable is bound
none_bound : (block : BlockTree) → is_fc block.kind ≡ false → (s : Section) → is_bound_in block s ≡ false
none_bound block e s = ap (λ b. b && is_param s) e

-- so a brief cell of a variable is one of the block's own
own_among : (project : ProjectTree) (block : BlockTree) → ((s : Section) → is_bound_in block s ≡ false) → (vars : List VarTree) (j bound own : ℕ)
    → j < size_among project (is_brief_in block) vars → own ≤ brief_among project block vars j bound own
own_among project block none [] j bound own lt = absurd (omega (arith, lt))
own_among project block none (var name section ty start place ∷ more) j bound own lt =
    lead (is_brief_in block section) (is_bound_in block section) (none section) (nat_lt j (size_in project ty)) refl lt
    (λ k b o less. own_among project block none more k b o less)
  where
    s : ℕ
    s = size_in project ty

    lead : (brief bound_here : Truth) → bound_here ≡ false → (first : Truth) → nat_lt j s ≡ first
        → j < (if brief then s + size_among project (is_brief_in block) more else size_among project (is_brief_in block) more)
        → ((k b o : ℕ) → k < size_among project (is_brief_in block) more → o ≤ brief_among project block more k b o)
        → own ≤ (if brief then (if first then (if bound_here then bound else own) + 2 * j
        else brief_among project block more (j - s) (behind bound_here bound s) (behind (not bound_here) own s))
        else brief_among project block more j bound own)
    lead false bound_here e first f less rest = rest j bound own less
    lead true true e first f less rest = absurd (true_false e)
      where
        true_false : true ≡ false → ⊥
        true_false x = cc
    lead true false e true f less rest = omega arith
    lead true false e false f less rest =
        let past = ltb-false j s f in
        let a = rest (j - s) bound (own + 2 * s) (omega (arith, less, past)) in omega (arith, a)

pub entry_lies : BoundAreCounted → EntryLies
entry_lies counted source laid = record {
  instance = λ x lt. none_before x;
  shared = λ x lt. let b = bound in omega (arith, b);
  behind = λ x brief. all_behind x brief;
  apart = λ x y p q e. e;
}
  where
    none_before : (n : ℕ) → n ≡ 0 + n
    none_before n = omega arith

    is_itself : is_entry source source.entry ≡ true
    is_itself = (bytes_eq-Decides source.entry.name.key source.entry.name.key).1 refl

    no_function : is_fc source.entry.kind ≡ false
    no_function = (laid.entered is_itself).1

    no_value : value_count source.entry ≡ 0
    no_value = (laid.entered is_itself).2

    cells : own_first source source.entry ≡ visible_len source.cells
    cells = counted.cells source laid.table no_function no_value

    bound : bound_count source source.entry ≡ entry_size source.project source.entry
    bound =
        let c = cells in
        let e = shared_counted source (omega (arith, c)) in omega (arith, c, e)

    first_behind : (j : ℕ) → j < named_count source source.entry → visible_len source.cells ≤ brief_variable source source.entry j
    first_behind j lt =
        let c = cells in
        let v = no_value in
        let a = own_among source.project source.entry (none_bound source.entry no_function) source.entry.vars j 0 (own_first source source.entry)
        (omega (arith, lt, v)) in omega (arith, a, c)

    all_behind : (x : ℕ) → IsBrief source source.entry x → visible_len source.cells ≤ x
    all_behind x brief = by brief.is (first_behind brief.cell brief.within)
      where
        by : (x ≡ brief_variable source source.entry brief.cell) ⊎ (x ≡ suc (brief_variable source source.entry brief.cell))
            → visible_len source.cells ≤ brief_variable source source.entry brief.cell → visible_len source.cells ≤ x
        by (inl e) le = omega (arith, e, le)
        by (inr e) le = omega (arith, e, le)
