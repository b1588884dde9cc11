-- A rule on a whole project is broken in the code, in the values of data blocks or in a declaration: from the least place of each, the
-- least of all.
use Rattle.std.proofs.Common.{◌≡◌, inl, inr, List, Option, IsTrue}
use Rattle.std.specs.Prelude.{◌⊎◌, Any}
use Rattle.pv_place.specs.declared.place.Place.{Place}
use Rattle.pv_tree.specs.Tree.{BlockTree}
use Rattle.pv_tree.specs.Scopes.{ProjectTree}
use Rattle.pv_tree.specs.Things.{no_name, place_of_operand}
use Rattle.pv_tree.specs.Parts.{instructions_of, starts_of, path_of, paths_of, thing_of_path, reads_of_parts, indexes_of, operands_of, parts_of_block}
use Rattle.pv_tree.specs.Rules.{Rule, misfit, missing_name, out_of_range, beyond_bounds, wrong_address}
use Rattle.pv_tree.specs.Rules.MissingNames.{IsMissingIn, IsMissingName}
use Rattle.pv_tree.specs.Rules.Misfits.{Misapplies, MisusesPath, MisplacesDate, MisfitsBlock, IsMisfit}
use Rattle.pv_tree.specs.Rules.OutOfRange.{IsPartOutside, IsBehindOutside, IsBlockOutside, IsOutOfRange}
use Rattle.pv_tree.specs.Rules.Arrays.{IsBeyond, IsBeyondBounds}
use Rattle.pv_tree.specs.Rules.Addresses.{HasWrongAddress, IsWrongAddress, is_wrong_operand}
use Rattle.pv_rules_expr.specs.Nearest.{IsNearest, nearer_of}
use Rattle.pv_rules_expr.proofs.ForCallers.{nearest_same, nearest_both}
use Rattle.pv_rules_code.specs.InCode.{code_operands, MissesIn, MisfitsIn, MisusesIn, OutsideIn, BeyondIn, AddressesIn}
use Rattle.pv_rules_instr.specs.Sites.{IsOutsideBehind}
use Rattle.pv_rules_decl.specs.StartPieces.{within, parts_of_starts, InBlocks, MisfitsStart, HasOutsideStart, HasValue, BreaksInValues}
use Rattle.pv_rules_decl.specs.StartLook.{StartLook}
use Rattle.pv_rules_decl.specs.StartLook as value
use Rattle.pv_rules.proofs.WholeBlocks.{parts_apart, parts_both, operands_apart, operands_both, paths_apart, paths_both, mapped_any, any_mapped}

-- either, over a list
either_any : {X : Type 0} (P Q : X → Type 0) (xs : List X) → Any P xs ⊎ Any Q xs → Any (λ x. P x ⊎ Q x) xs
either_any P Q xs (inl a) = (a.0, a.1, a.2, a.3, inl a.4)
either_any P Q xs (inr a) = (a.0, a.1, a.2, a.3, inr a.4)

any_either : {X : Type 0} (P Q : X → Type 0) (xs : List X) → Any (λ x. P x ⊎ Q x) xs → Any P xs ⊎ Any Q xs
any_either P Q xs a = elim a.4 [ inl p ↦ inl (a.0, a.1, a.2, a.3, p) | inr q ↦ inr (a.0, a.1, a.2, a.3, q) ]

-- over blocks: either of two
two : (X Y W : BlockTree → Place → Type 0) (blocks : List BlockTree) (a b : Option Place) → ((t : BlockTree) (at : Place) → W t at → X t at ⊎ Y t at)
    → ((t : BlockTree) (at : Place) → X t at ⊎ Y t at → W t at) → IsNearest (λ at. Any (λ t. X t at) blocks) a → IsNearest (λ at. Any (λ t. Y t at) blocks) b
    → IsNearest (λ at. Any (λ t. W t at) blocks) (nearer_of a b)
two X Y W blocks a b apart both first second =
    nearest_same (λ at. Any (λ t. X t at) blocks ⊎ Any (λ t. Y t at) blocks) (λ at. Any (λ t. W t at) blocks) (nearer_of a b)
    (λ at e. let h = either_any (λ t. X t at) (λ t. Y t at) blocks e in (h.0, h.1, h.2, h.3, both h.1 at h.4))
    (λ at h. any_either (λ t. X t at) (λ t. Y t at) blocks (h.0, h.1, h.2, h.3, apart h.1 at h.4))
    (nearest_both (λ at. Any (λ t. X t at) blocks) (λ at. Any (λ t. Y t at) blocks) a b first second)

abbrev Or : (BlockTree → Place → Type 0) → (BlockTree → Place → Type 0) → BlockTree → Place → Type 0
Or X Y t at = X t at ⊎ Y t at

joined : (X Y : BlockTree → Place → Type 0) (blocks : List BlockTree) (a b : Option Place) → IsNearest (λ at. Any (λ t. X t at) blocks) a
    → IsNearest (λ at. Any (λ t. Y t at) blocks) b → IsNearest (λ at. Any (λ t. Or X Y t at) blocks) (nearer_of a b)
joined X Y blocks a b = two X Y (Or X Y) blocks a b (λ t at e. e) (λ t at e. e)

module _ (project : ProjectTree) where
  -- what the values of data blocks break, and their indexes
  abbrev Value : StartLook → BlockTree → Place → Type 0
  Value what t at = HasValue what (within project t) at

  abbrev InIndex : Rule → BlockTree → Place → Type 0
  InIndex rule t at = BreaksInValues rule (within project t) at

  -- names
  pub missing_all : (a b c : Option Place) → IsNearest (λ at. Any (MissesIn project at) project.blocks) a
      → IsNearest (InBlocks (HasValue value.Missing) project) b → IsNearest (InBlocks (BreaksInValues missing_name) project) c
      → IsNearest (IsMissingName project) (nearer_of a (nearer_of b c))
  missing_all a b c code start index =
      two (λ t at. MissesIn project at t) (Or (Value value.Missing) (InIndex missing_name)) (λ t at. IsMissingIn project at t) project.blocks a
      (nearer_of b c) apart both code (joined (Value value.Missing) (InIndex missing_name) project.blocks b c start index)
    where
      apart : (t : BlockTree) (at : Place) → IsMissingIn project at t → MissesIn project at t ⊎ Or (Value value.Missing) (InIndex missing_name) t at
      apart t at (inl misses) = elim (paths_apart project t (λ p. thing_of_path (within project t) p ≡ no_name at) misses) [
        | inl h ↦ inl (inl (mapped_any (λ p. thing_of_path (within project t) p ≡ no_name at) (path_of (within project t)) (code_operands project t) h))
        | inr r ↦ inr (elim r [
          | inl h ↦ inl h
          | inr h ↦ inr (mapped_any (λ p. thing_of_path (within project t) p ≡ no_name at) (path_of (within project t))
              (reads_of_parts (parts_of_starts (within project t) (starts_of t.body))) h)
        ])
      ]
      apart t at (inr rest) = inl (inr rest)

      both : (t : BlockTree) (at : Place) → MissesIn project at t ⊎ Or (Value value.Missing) (InIndex missing_name) t at → IsMissingIn project at t
      both t at (inl (inl h)) =
          inl (paths_both project t (λ p. thing_of_path (within project t) p ≡ no_name at)
          (inl (any_mapped (λ p. thing_of_path (within project t) p ≡ no_name at) (path_of (within project t)) (code_operands project t) h)))
      both t at (inl (inr rest)) = inr rest
      both t at (inr (inl h)) = inl (paths_both project t (λ p. thing_of_path (within project t) p ≡ no_name at) (inr (inl h)))
      both t at (inr (inr h)) =
          inl (paths_both project t (λ p. thing_of_path (within project t) p ≡ no_name at)
          (inr (inr (any_mapped (λ p. thing_of_path (within project t) p ≡ no_name at) (path_of (within project t))
          (reads_of_parts (parts_of_starts (within project t) (starts_of t.body))) h))))

  -- literal indexes
  pub beyond_all : (a b c : Option Place) → IsNearest (λ at. Any (BeyondIn project at) project.blocks) a
      → IsNearest (InBlocks (HasValue value.Beyond) project) b → IsNearest (InBlocks (BreaksInValues beyond_bounds) project) c
      → IsNearest (IsBeyondBounds project) (nearer_of a (nearer_of b c))
  beyond_all a b c code start index =
      two (λ t at. BeyondIn project at t) (Or (Value value.Beyond) (InIndex beyond_bounds))
      (λ t at. Any (λ p. Any (IsBeyond (within project t) at) (indexes_of (within project t) p)) (paths_of project t)) project.blocks a (nearer_of b c) apart both
      code (joined (Value value.Beyond) (InIndex beyond_bounds) project.blocks b c start index)
    where
      apart : (t : BlockTree) (at : Place) → Any (λ p. Any (IsBeyond (within project t) at) (indexes_of (within project t) p)) (paths_of project t)
          → BeyondIn project at t ⊎ Or (Value value.Beyond) (InIndex beyond_bounds) t at
      apart t at h = elim (paths_apart project t (λ p. Any (IsBeyond (within project t) at) (indexes_of (within project t) p)) h) [
        | inl k ↦ inl k
        | inr r ↦ inr (elim r [
          | inl k ↦ inl k
          | inr k ↦ inr (mapped_any (λ p. Any (IsBeyond (within project t) at) (indexes_of (within project t) p)) (path_of (within project t))
              (reads_of_parts (parts_of_starts (within project t) (starts_of t.body))) k)
        ])
      ]

      both : (t : BlockTree) (at : Place) → BeyondIn project at t ⊎ Or (Value value.Beyond) (InIndex beyond_bounds) t at
          → Any (λ p. Any (IsBeyond (within project t) at) (indexes_of (within project t) p)) (paths_of project t)
      both t at (inl k) = paths_both project t (λ p. Any (IsBeyond (within project t) at) (indexes_of (within project t) p)) (inl k)
      both t at (inr (inl k)) = paths_both project t (λ p. Any (IsBeyond (within project t) at) (indexes_of (within project t) p)) (inr (inl k))
      both t at (inr (inr k)) =
          paths_both project t (λ p. Any (IsBeyond (within project t) at) (indexes_of (within project t) p))
          (inr (inr (any_mapped (λ p. Any (IsBeyond (within project t) at) (indexes_of (within project t) p)) (path_of (within project t))
          (reads_of_parts (parts_of_starts (within project t) (starts_of t.body))) k)))

  -- addresses
  pub address_all : (a b : Option Place) → IsNearest (λ at. Any (AddressesIn project at) project.blocks) a
      → IsNearest (InBlocks (BreaksInValues wrong_address) project) b → IsNearest (IsWrongAddress project) (nearer_of a b)
  address_all a b code index =
      two (λ t at. AddressesIn project at t) (InIndex wrong_address) (λ t at. HasWrongAddress at (operands_of project t)) project.blocks a b
      (λ t at. operands_apart project t (λ o. (place_of_operand o ≡ at) × IsTrue (is_wrong_operand o)))
      (λ t at. operands_both project t (λ o. (place_of_operand o ≡ at) × IsTrue (is_wrong_operand o))) code index

  -- types
  pub misfit_all : (a b c d e f g : Option Place) → IsNearest (λ at. Any (MisfitsIn project at) project.blocks) a
      → IsNearest (λ at. Any (MisusesIn project at) project.blocks) b → IsNearest (λ at. Any (MisplacesDate at) project.blocks) c
      → IsNearest (InBlocks MisfitsStart project) d → IsNearest (InBlocks (HasValue value.Misfit) project) e
      → IsNearest (InBlocks (HasValue value.Misused) project) f → IsNearest (InBlocks (BreaksInValues misfit) project) g
      → IsNearest (IsMisfit project) (nearer_of a (nearer_of b (nearer_of c (nearer_of d (nearer_of e (nearer_of f g))))))
  misfit_all a b c d e f g code misused date start part way index =
      two (λ t at. MisfitsIn project at t) Rest (λ t at. MisfitsBlock project at t) project.blocks a _ apart both code
      (joined (λ t at. MisusesIn project at t) _ project.blocks b _ misused
      (joined (λ t at. MisplacesDate at t) _ project.blocks c _ date
      (joined (λ t at. MisfitsStart (within project t) at) _ project.blocks d _ start
      (joined (Value value.Misfit) _ project.blocks e _ part
      (joined (Value value.Misused) (InIndex misfit) project.blocks f g way index)))))
    where
      Rest : BlockTree → Place → Type 0
      Rest = Or (λ t at. MisusesIn project at t)
          (Or (λ t at. MisplacesDate at t)
          (Or (λ t at. MisfitsStart (within project t) at) (Or (Value value.Misfit) (Or (Value value.Misused) (InIndex misfit)))))

      of_paths : (t : BlockTree) (at : Place) → Any (MisusesPath (within project t) at) (paths_of project t) → Rest t at
      of_paths t at h = elim (paths_apart project t (MisusesPath (within project t) at) h) [
        | inl k ↦ inl k
        | inr r ↦ elim r [
          | inl k ↦ inr (inr (inr (inr (inl k))))
          | inr k ↦ inr (inr (inr (inr (inr (inr (mapped_any (MisusesPath (within project t) at) (path_of (within project t))
              (reads_of_parts (parts_of_starts (within project t) (starts_of t.body))) k))))))
        ]
      ]

      of_parts : (t : BlockTree) (at : Place) → Any (λ p. Misapplies (within project t) at p.expr) (parts_of_block project t) → MisfitsIn project at t ⊎ Rest t at
      of_parts t at h = elim (parts_apart project t (λ p. Misapplies (within project t) at p.expr) h) [
        | inl k ↦ inl (inl k)
        | inr k ↦ inr (inr (inr (inr (inr (inr (inl k))))))
      ]

      apart : (t : BlockTree) (at : Place) → MisfitsBlock project at t → MisfitsIn project at t ⊎ Rest t at
      apart t at (inl (inl h)) = of_parts t at h
      apart t at (inl (inr h)) = inr (of_paths t at h)
      apart t at (inr (inl h)) = inr (inr (inl h))
      apart t at (inr (inr (inl h))) = inr (inr (inr (inl h)))
      apart t at (inr (inr (inr (inl h)))) = inr (inr (inr (inr (inl h))))
      apart t at (inr (inr (inr (inr h)))) = inl (inr h)

      both : (t : BlockTree) (at : Place) → MisfitsIn project at t ⊎ Rest t at → MisfitsBlock project at t
      both t at (inl (inl h)) = inl (inl (parts_both project t (λ p. Misapplies (within project t) at p.expr) (inl h)))
      both t at (inl (inr h)) = inr (inr (inr (inr h)))
      both t at (inr (inl h)) = inl (inr (paths_both project t (MisusesPath (within project t) at) (inl h)))
      both t at (inr (inr (inl h))) = inr (inl h)
      both t at (inr (inr (inr (inl h)))) = inr (inr (inl h))
      both t at (inr (inr (inr (inr (inl h))))) = inr (inr (inr (inl h)))
      both t at (inr (inr (inr (inr (inr (inl h)))))) = inl (inr (paths_both project t (MisusesPath (within project t) at) (inr (inl h))))
      both t at (inr (inr (inr (inr (inr (inr (inl h))))))) = inl (inl (parts_both project t (λ p. Misapplies (within project t) at p.expr) (inr h)))
      both t at (inr (inr (inr (inr (inr (inr (inr h))))))) =
          inl (inr (paths_both project t (MisusesPath (within project t) at) (inr (inr (any_mapped (MisusesPath (within project t) at)
          (path_of (within project t)) (reads_of_parts (parts_of_starts (within project t) (starts_of t.body))) h)))))

  -- literals
  pub outside_all : (a b c d e : Option Place)
      → IsNearest (λ at. Any (OutsideIn project at) project.blocks) a → IsNearest (InBlocks HasOutsideStart project) b
      → IsNearest (InBlocks (HasValue value.Outside) project) c → IsNearest (InBlocks (BreaksInValues out_of_range) project) d
      → IsNearest (IsOutsideBehind project) e
      → IsNearest (IsOutOfRange project) (nearer_of a (nearer_of (nearer_of b (nearer_of c d)) e))
  outside_all a b c d e code start part index behind =
      two (λ t at. OutsideIn project at t) Rest (λ t at. IsBlockOutside project at t) project.blocks a _ apart both code
      (joined (Or (λ t at. HasOutsideStart (within project t) at) (Or (Value value.Outside) (InIndex out_of_range))) Behind project.blocks _ e
      (joined (λ t at. HasOutsideStart (within project t) at) _ project.blocks b _ start
      (joined (Value value.Outside) (InIndex out_of_range) project.blocks c d part index)) behind)
    where
      Behind : BlockTree → Place → Type 0
      Behind t at = Any (IsBehindOutside at) (instructions_of t.body)

      Rest : BlockTree → Place → Type 0
      Rest = Or (Or (λ t at. HasOutsideStart (within project t) at) (Or (Value value.Outside) (InIndex out_of_range))) Behind

      apart : (t : BlockTree) (at : Place) → IsBlockOutside project at t → OutsideIn project at t ⊎ Rest t at
      apart t at (inl h) = elim (parts_apart project t (IsPartOutside at) h) [ inl k ↦ inl (inl k) | inr k ↦ inr (inl (inr (inr k))) ]
      apart t at (inr (inl h)) = inr (inl (inl h))
      apart t at (inr (inr (inl h))) = inr (inl (inr (inl h)))
      apart t at (inr (inr (inr (inl h)))) = inl (inr h)
      apart t at (inr (inr (inr (inr h)))) = inr (inr h)

      both : (t : BlockTree) (at : Place) → OutsideIn project at t ⊎ Rest t at → IsBlockOutside project at t
      both t at (inl (inl h)) = inl (parts_both project t (IsPartOutside at) (inl h))
      both t at (inl (inr h)) = inr (inr (inr (inl h)))
      both t at (inr (inl (inl h))) = inr (inl h)
      both t at (inr (inl (inr (inl h)))) = inr (inr (inl h))
      both t at (inr (inl (inr (inr h)))) = inl (parts_both project t (IsPartOutside at) (inr h))
      both t at (inr (inr h)) = inr (inr (inr (inr h)))
