-- The nearest start value, and the nearest value of a part of a data block, that breaks a rule.
use Rattle.std.proofs.Common.{◌≡◌, List, Some, None}
use Rattle.std.specs.Prelude.{Any}
use Rattle.pv_types.specs.declared.declaration.Literal.{Literal}
use Rattle.pv_types.specs.Tree.{VarTree, var}
use Rattle.pv_tree.specs.Tree.{StartTree}
use Rattle.pv_tree.specs.Scopes.{Scope}
use Rattle.pv_tree.specs.Things.{Thing, part, constant, a_block, no_name, no_array, a_date, untold}
use Rattle.pv_tree.specs.Parts.{path_of_start, thing_of_path, indexes_of}
use Rattle.pv_tree.specs.Rules.Misfits.{MisusesPath, MisstartsVar, MisstartsThing, MisstartsPart, start_misfits_type}
use Rattle.pv_tree.specs.Rules.OutOfRange.{IsStartOutside, IsThingOutside, start_is_outside}
use Rattle.pv_tree.specs.Rules.Arrays.{IsBeyond}
use Rattle.pv_rules_expr.specs.Nearest.{IsNearest}
use Rattle.pv_rules_expr.specs.Places.{place_where}
use Rattle.pv_rules_decl.specs.Starts.{start_at, near_vars, misfit_at, is_thing_outside, start_place, near_starts}
use Rattle.pv_rules_decl.specs.StartLook as look
use Rattle.pv_rules_expr.proofs.ForCallers.{nearest_where}
use Rattle.pv_rules_expr.proofs.ForCallers.{name_nearest}
use Rattle.pv_rules_expr.proofs.ForCallers.{in_any}
use Rattle.pv_rules_expr.proofs.ForCallers.{misused_path, beyond_path}

-- ---- start values of declarations

misfit_var : (scope : Scope) (v : VarTree) → IsNearest (λ at. MisstartsVar scope at v) (start_at (start_misfits_type scope) v)
misfit_var scope (var name section ty None place) = λ at h. h
misfit_var scope (var name section ty (Some literal) place) = nearest_where (start_misfits_type scope ty literal) literal.place

outside_var : (v : VarTree) → IsNearest (λ at. IsStartOutside at v) (start_at start_is_outside v)
outside_var (var name section ty None place) = λ at h. h
outside_var (var name section ty (Some literal) place) = nearest_where (start_is_outside ty literal) literal.place

pub misfit_vars : (scope : Scope) (vs : List VarTree) → IsNearest (λ at. Any (MisstartsVar scope at) vs) (near_vars (start_misfits_type scope) vs None)
misfit_vars scope vs = in_any (λ v at. MisstartsVar scope at v) (start_at (start_misfits_type scope)) (misfit_var scope) vs

pub outside_vars : (vs : List VarTree) → IsNearest (λ at. Any (IsStartOutside at) vs) (near_vars start_is_outside vs None)
outside_vars vs = in_any (λ v at. IsStartOutside at v) (start_at start_is_outside) outside_var vs

-- ---- values of parts of data blocks

misfit_thing : (scope : Scope) (literal : Literal) (t : Thing) → IsNearest (λ at. MisstartsThing scope at literal t) (misfit_at scope literal t)
misfit_thing scope literal (part ty) = nearest_where (start_misfits_type scope ty literal) literal.place
misfit_thing scope literal (constant ty) = λ at h. h
misfit_thing scope literal (a_block b) = λ at h. h
misfit_thing scope literal (no_name place) = λ at h. h
misfit_thing scope literal (no_array place) = λ at h. h
misfit_thing scope literal (a_date place) = λ at h. h
misfit_thing scope literal untold = λ at h. h

outside_thing : (literal : Literal) (t : Thing)
    → IsNearest (λ at. IsThingOutside at literal t) (place_where (is_thing_outside literal t) literal.place)
outside_thing literal (part ty) = nearest_where _ literal.place
outside_thing literal (constant ty) = nearest_where _ literal.place
outside_thing literal (a_block b) = nearest_where _ literal.place
outside_thing literal (no_name place) = nearest_where _ literal.place
outside_thing literal (no_array place) = nearest_where _ literal.place
outside_thing literal (a_date place) = nearest_where _ literal.place
outside_thing literal untold = nearest_where _ literal.place

module _ (scope : Scope) (vs : List StartTree) where
  pub missing_starts : IsNearest (λ at. Any (λ v. thing_of_path scope (path_of_start scope v.0) ≡ no_name at) vs)
      (near_starts look.Missing scope vs None)
  missing_starts =
      in_any (λ v at. thing_of_path scope (path_of_start scope v.0) ≡ no_name at) (start_place look.Missing scope)
      (λ v. name_nearest (thing_of_path scope (path_of_start scope v.0))) vs

  pub misused_starts : IsNearest (λ at. Any (λ v. MisusesPath scope at (path_of_start scope v.0)) vs) (near_starts look.Misused scope vs None)
  misused_starts =
      in_any (λ v at. MisusesPath scope at (path_of_start scope v.0)) (start_place look.Misused scope)
      (λ v. misused_path scope (path_of_start scope v.0)) vs

  pub misfit_parts : IsNearest (λ at. Any (MisstartsPart scope at) vs) (near_starts look.Misfit scope vs None)
  misfit_parts =
      in_any (λ v at. MisstartsPart scope at v) (start_place look.Misfit scope)
      (λ v. misfit_thing scope v.1 (thing_of_path scope (path_of_start scope v.0))) vs

  pub outside_parts : IsNearest (λ at. Any (λ v. IsThingOutside at v.1 (thing_of_path scope (path_of_start scope v.0))) vs)
      (near_starts look.Outside scope vs None)
  outside_parts =
      in_any (λ v at. IsThingOutside at v.1 (thing_of_path scope (path_of_start scope v.0))) (start_place look.Outside scope)
      (λ v. outside_thing v.1 (thing_of_path scope (path_of_start scope v.0))) vs

  pub beyond_starts : IsNearest (λ at. Any (λ v. Any (IsBeyond scope at) (indexes_of scope (path_of_start scope v.0))) vs)
      (near_starts look.Beyond scope vs None)
  beyond_starts =
      in_any (λ v at. Any (IsBeyond scope at) (indexes_of scope (path_of_start scope v.0))) (start_place look.Beyond scope)
      (λ v. beyond_path scope (path_of_start scope v.0)) vs
