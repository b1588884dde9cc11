-- The machine of a block of the first form with a pattern of the form is its Boolean program's: it is lawful, and meets the same queries.
use Rattle.std.proofs.Common.{◌≡◌, ◌≤◌, ℕ, suc, ℤ, Bool, false, cond, List, [], ◌∷◌, ◌++◌, length, map, replicate, Option, None, is_some, refl, ap, sym, subst, ◌∙◌, arith}
use Rattle.std.proofs.lemmas.Int.{ints}
use Rattle.std.specs.Prelude.{All, filter}
use Rattle.std.specs.List.{AllByRecursion}
use Rattle.std.proofs.lemmas.List.{append-nil, take_all, length-map}
use Rattle.pv_word.specs.declared.types.Ty.{Ty}
use Rattle.pv_word.specs.declared.types.Ty.TheVariants.{Bool as BoolTy}
use Rattle.pv_word.specs.Types.{InRange}
use Rattle.pv_place.specs.Roles.{is_input, is_stored}
use Rattle.pv_place.specs.Ranges.{Range, range_of, IsWithin, AreWithin}
use Rattle.pv_machine.specs.Machines.{Values, done, IsLawful}
use Rattle.pv_types.specs.declared.layout.TheConstants.{MAX_LEAVES}
use Rattle.pv_types.specs.Tree.{VarTree}
use Rattle.pv_tree.specs.Tree.{OperandTree, BlockTree}
use Rattle.pv_bool.specs.Tree.{ProgramTree}
use Rattle.pv_bool.specs.Roles.{is_kept, is_input as is_input_bit}
use Rattle.pv_bool.specs.Scans.{state_len as state_bits, input_len as input_bits}
use Rattle.pv_bool.specs.Machine.{bit_range, machine_of as program_machine}
use Rattle.pv_bool.proofs.ForCallers.{length-within}
use Rattle.pv_mean.specs.declared.cell.Cell.{Cell}
use Rattle.pv_mean.specs.Frames.{Image, is_free, stored_cells, input_cells, free_cells, image_len, input_len, image_ranges, input_ranges, param_ranges, range_of_cell, range_by}
use Rattle.pv_mean.specs.Correct.{BindsInRange}
use Rattle.pv_mean.specs.Sources.{Source}
use Rattle.pv_mean.specs.Endings.{ended}
use Rattle.pv_mean.specs.Scans.{scan}
use Rattle.pv_mean.specs.Runs.{start}
use Rattle.pv_bool_form.specs.FirstForm.{IsFirstForm, IsFirstPattern, IsFirstOperand}
use Rattle.pv_bool_form.specs.Programs.{bit_role, bit_of_cell, first_source, pattern_program}
use Rattle.pv_bool_form.specs.Correct.{pattern_end, IsScanOfPattern}
use Rattle.pv_bool_form.proofs.Cells.{IsFirstCell, first_cell, by_role, first_image_ranges, first_input_ranges}
use Rattle.pv_bool_form.proofs.FirstLaws.{cells_are, first_cells, scan_is_patterns, pattern_starts, patterns_name_bits}
use Rattle.pv_pattern.specs.Patterns.{Pattern, invariant, forbidden, implication, within, between, reach}
use Rattle.pv_pattern.specs.Failing.{ends_as, mark_of}
use Rattle.pv_pattern.specs.Sources.{looks_back, ranges_by, bits_by, state_of, image_in, prev_in, step_of, machine_of}
use Rattle.pv_pattern.proofs.ForCallers.{lawful}
use Rattle.pv_machine.specs.Same.{IsSame}
use Rattle.pv_machine.proofs.ForCallers.{same_base, same_step}
use Rattle.pv_bool_form.specs.Machines.{DoTheSame, IsOfSource}

-- ---- cells of the first form

bit_in_range : (c : Cell) → IsFirstCell c → InRange c.ty c.start
bit_in_range c is =
    let P : Ty → Type 0 = λ t. InRange t c.start in
    let Q : ℤ → Type 0 = λ v. InRange BoolTy v in
    subst P (sym is.ty) (subst Q (sym is.start) (record { from = omega (arith, ints); to = omega (arith, ints) }))

starts_in_range : (cs : List Cell) → AllByRecursion IsFirstCell cs → AllByRecursion (λ c. InRange c.ty c.start) cs
starts_in_range [] all = tt
starts_in_range (c ∷ cs) all = (bit_in_range c all.0, starts_in_range cs all.1)

-- its range is that of its type, as nothing binds it
own_range : (c : Cell) → IsFirstCell c → range_of_cell c ≡ range_of c.ty
own_range c is =
    ap (λ b. range_by c.role b c.ty) is.bound
    ∙ by_role (λ r. range_by r None c.ty ≡ range_of c.ty) c is refl refl

binds_in_range : (cs : List Cell) → AllByRecursion IsFirstCell cs → AllByRecursion BindsInRange cs
binds_in_range [] all = tt
binds_in_range (c ∷ cs) all =
    ((λ v inside. let P : Range → Type 0 = λ r. IsWithin r v in subst P (own_range c all.0) inside), binds_in_range cs all.1)

no_params : (cs : List Cell) → AllByRecursion IsFirstCell cs → param_ranges cs ≡ []
no_params [] all = refl
no_params (c ∷ cs) all = by_role (λ r. map range_of_cell (cond (is_free r c.bound) (c ∷ free_cells cs) (free_cells cs)) ≡ []) c all.0 (no_params cs all.1) (no_params cs all.1)

-- as many cells are stored as bits are kept, and as many are inputs
stored_bits : (cs : List Cell) → AllByRecursion IsFirstCell cs → state_bits (map bit_of_cell cs) ≡ image_len cs
stored_bits [] all = refl
stored_bits (c ∷ cs) all = by_role (λ r. length (cond (is_kept (bit_role r)) (bit_of_cell c ∷ filter (λ b. is_kept b.role) (map bit_of_cell cs))
    (filter (λ b. is_kept b.role) (map bit_of_cell cs))) ≡ length (cond (is_stored r) (c ∷ stored_cells cs) (stored_cells cs))) c all.0 (stored_bits cs all.1) (ap suc (stored_bits cs all.1))

taken_bits : (cs : List Cell) → AllByRecursion IsFirstCell cs → input_bits (map bit_of_cell cs) ≡ input_len cs
taken_bits [] all = refl
taken_bits (c ∷ cs) all = by_role (λ r. length (cond (is_input_bit (bit_role r)) (bit_of_cell c ∷ filter (λ b. is_input_bit b.role) (map bit_of_cell cs))
    (filter (λ b. is_input_bit b.role) (map bit_of_cell cs))) ≡ length (cond (is_input r) (c ∷ input_cells cs) (input_cells cs))) c all.0 (ap suc (taken_bits cs all.1)) (taken_bits cs all.1)

-- ---- the two machines

-- a pattern of the form doesn't look back
no_looking_back : (vars : List VarTree) (p : Pattern) → IsFirstPattern vars p → looks_back p ≡ false
no_looking_back vars (invariant a) is = refl
no_looking_back vars (forbidden a) is = refl
no_looking_back vars (implication a b) is = refl
no_looking_back vars (within a b) is = absurd is
no_looking_back vars (between a b c) is = absurd is
no_looking_back vars (reach a) is = refl

module _ (block : BlockTree) (patterns : List OperandTree) (bound : ℕ) (p : Pattern) (is : IsFirstForm block) (are : All (IsFirstOperand block.vars) patterns)
    (first : IsFirstPattern block.vars p) where
  abbrev pub source : Source
  source = first_source block patterns bound

  abbrev pub program : ProgramTree
  program = pattern_program source p

  cells : AllByRecursion IsFirstCell source.cells
  cells = first_cells block patterns bound is are

  pub lawful_source : IsLawful (machine_of source p)
  lawful_source = lawful source p (starts_in_range source.cells cells) (binds_in_range source.cells cells)

  -- the states of the machine are the images
  same_ranges : image_ranges source.cells ++ ranges_by (looks_back p) ≡ image_ranges source.cells
  same_ranges = ap (λ b. image_ranges source.cells ++ ranges_by b) (no_looking_back block.vars p first) ∙ append-nil (image_ranges source.cells)

  plain_state : (s : Values) → AreWithin (image_ranges source.cells ++ ranges_by (looks_back p)) s → AreWithin (image_ranges source.cells) s
  plain_state s inside = let P : List Range → Type 0 = λ r. AreWithin r s in subst P same_ranges inside

  plain_image : (image : Image) (prev : Option Bool) → state_of p image prev ≡ image
  plain_image image prev = ap (λ b. image ++ bits_by b prev) (no_looking_back block.vars p first) ∙ append-nil image

  whole_image : (s : Values) → AreWithin (image_ranges source.cells) s → image_in source s ≡ s
  whole_image s inside =
      let P : List Range → Type 0 = λ r. AreWithin r s in
      let long = length-within (image_len source.cells) s (subst P (first_image_ranges source.cells cells) inside) in
      take_all (image_len source.cells) s (omega (arith, long))

  scan_is : (s i : Values) → AreWithin (image_ranges source.cells) s → AreWithin (input_ranges source.cells) i → IsScanOfPattern source p s i
  scan_is s i is_state is_input = scan_is_patterns block patterns bound p s i is are first is_state is_input

  step_is : (s i : Values) → AreWithin (image_ranges source.cells) s → AreWithin (input_ranges source.cells) i
      → (machine_of source p).step s i ≡ (program_machine program).step s i
  step_is s i is_state is_input =
      let same = scan_is s i is_state is_input in
      ap (λ (x : Image). step_of source p (scan source x i).beginning (scan source x i).end) (whole_image s is_state)
      ∙ ap (λ e. step_of source p (scan source s i).beginning e) same.ends
      ∙ ap done (plain_image _ (mark_of source p (ended (pattern_end source p s i))) ∙ same.next)

  fails_is : (s i : Values) → AreWithin (image_ranges source.cells) s → AreWithin (input_ranges source.cells) i
      → (machine_of source p).fails s i ≡ (program_machine program).fails s i
  fails_is s i is_state is_input =
      ap (λ (x : Image). is_some (ends_as source p (prev_in source s) (scan source x i))) (whole_image s is_state)
      ∙ (scan_is s i is_state is_input).fails (prev_in source s)

  pub alike : IsSame (machine_of source p) (program_machine program)
  alike = record {
    state = same_ranges ∙ first_image_ranges source.cells cells
        ∙ ap (λ n. replicate n bit_range) (sym (stored_bits source.cells cells));
    input = first_input_ranges source.cells cells ∙ ap (λ n. replicate n bit_range) (sym (taken_bits source.cells cells));
    params = no_params source.cells cells;
    start = λ x in_range. plain_image (start source x) None ∙ pattern_starts block patterns bound p x is are;
    step = λ s i is_state is_input. step_is s i (plain_state s is_state) is_input;
    fails = λ s i is_state is_input. fails_is s i (plain_state s is_state) is_input;
  }

  pub do_the_same : DoTheSame (machine_of source p) (program_machine program)
  do_the_same = record {
    same = alike;
    lawful = lawful_source;
    base = λ k. same_base (machine_of source p) (program_machine program) k lawful_source alike;
    step = λ k. same_step (machine_of source p) (program_machine program) k lawful_source alike;
  }

  few_bits : length block.vars ≤ MAX_LEAVES → length program.bits ≤ MAX_LEAVES
  few_bits few =
      let counted = ap (λ (cs : List Cell). length cs) (cells_are block patterns bound is are) ∙ length-map block.vars first_cell in
      omega (arith, length-map source.cells bit_of_cell, counted, few)

  -- all of it together
  pub of_program : length block.vars ≤ MAX_LEAVES → IsOfSource source p
  of_program few = record {
    machines = do_the_same;
    scans = λ image input im inp. scan_is image input im inp;
    program = patterns_name_bits block patterns bound p is are first;
    few = few_bits few;
  }
