-- The nearest start value, or value of a data block, that breaks a rule, over the blocks of a project.
use Rattle.std.proofs.Common.{◌≡◌, inl, inr, refl, sym, subst, ◌∙◌, List, map, Option, None}
use Rattle.std.specs.Prelude.{◌⊎◌, Any}
use Rattle.pv_place.specs.declared.place.Place.{Place}
use Rattle.pv_tree.specs.Scopes.{ProjectTree, Scope}
use Rattle.pv_tree.specs.Interfaces.{all_vars}
use Rattle.pv_tree.specs.Parts.{Part, starts_of, path_of, reads_of_parts}
use Rattle.pv_tree.specs.Rules.{Rule, BreaksInParts, missing_name, misfit, out_of_range, beyond_bounds, wrong_address}
use Rattle.pv_tree.specs.Rules.Misfits.{Misapplies, MisusesPath}
use Rattle.pv_rules_expr.specs.Nearest.{IsNearest, nearer_of}
use Rattle.pv_rules_expr.specs.Near.{near_at}
use Rattle.pv_rules_expr.specs.Looks.{near_parts}
use Rattle.pv_rules_decl.specs.Starts.{start_place, near_starts}
use Rattle.pv_rules_decl.specs.StartPieces.{piece_in, piece_place, value_in, index_in, within, place_among, parts_of_starts, InBlocks, MisfitsStart, HasOutsideStart, HasValue, BreaksInValues}
use Rattle.pv_rules_decl.specs.ValueNears.{near_start, AreInValues}
use Rattle.pv_rules_decl.specs.declared.on_starts.Piece.TheVariants as piece
use Rattle.pv_rules_expr.specs.declared.search.Look.{Look}
use Rattle.pv_rules_expr.specs.declared.search.Look.TheVariants as look
use Rattle.pv_rules_decl.specs.StartLook.{StartLook}
use Rattle.pv_rules_decl.specs.StartLook as value
use Rattle.pv_rules_decl.specs.declared.values.ValueNear.{ValueNear}
use Rattle.pv_rules_expr.proofs.ForCallers.{in_any, in_from, parts_from}
use Rattle.pv_rules_expr.proofs.ForCallers.{nearest_same, nearest_both, misapplied_any, outside_any}
use Rattle.pv_rules_expr.proofs.ForCallers.{beyond_parts, misused_parts, missing_name_parts, wrong_address_parts}
use Rattle.pv_rules_decl.proofs.NearStarts.{misfit_vars, outside_vars, missing_starts, misused_starts, misfit_parts, outside_parts, beyond_starts}

-- either, over a list
pub either_any : {X : Type 0} (P Q : X → Type 0) (xs : List X) → Any P xs ⊎ Any Q xs → Any (λ x. P x ⊎ Q x) xs
either_any P Q xs (inl a) = (a.0, a.1, a.2, a.3, inl a.4)
either_any P Q xs (inr a) = (a.0, a.1, a.2, a.3, inr a.4)

pub any_either : {X : Type 0} (P Q : X → Type 0) (xs : List X) → Any (λ x. P x ⊎ Q x) xs → Any P xs ⊎ Any Q xs
any_either P Q xs a = elim a.4 [ inl p ↦ inl (a.0, a.1, a.2, a.3, p) | inr q ↦ inr (a.0, a.1, a.2, a.3, q) ]

over_blocks : (place : Scope → Option Place) (breaks : Scope → Place → Type 0) → ((scope : Scope) → IsNearest (breaks scope) (place scope))
    → (project : ProjectTree) (o : Option Place) → o ≡ place_among place project → IsNearest (InBlocks breaks project) o
over_blocks place breaks one project o is =
    subst (IsNearest (InBlocks breaks project)) (sym is)
    (in_any (λ b at. breaks (within project b) at) (λ b. place (within project b)) (λ b. one (within project b)) project.blocks)

pub misfit_piece : (project : ProjectTree) (o : Option Place) → o ≡ piece_place piece.MisfitStart project → IsNearest (InBlocks MisfitsStart project) o
misfit_piece = over_blocks (piece_in piece.MisfitStart) MisfitsStart (λ scope. misfit_vars scope (all_vars scope.block.vars))

pub outside_piece : (project : ProjectTree) (o : Option Place) → o ≡ piece_place piece.OutsideStart project
    → IsNearest (InBlocks HasOutsideStart project) o
outside_piece = over_blocks (piece_in piece.OutsideStart) HasOutsideStart (λ scope. outside_vars (all_vars scope.block.vars))

-- ---- values of data blocks

has_value : (what : StartLook) (scope : Scope) → IsNearest (HasValue what scope) (value_in what scope)
has_value value.Missing scope = missing_starts scope (starts_of scope.block.body)
has_value value.Misused scope = misused_starts scope (starts_of scope.block.body)
has_value value.Misfit scope = misfit_parts scope (starts_of scope.block.body)
has_value value.Outside scope = outside_parts scope (starts_of scope.block.body)
has_value value.Beyond scope = beyond_starts scope (starts_of scope.block.body)

-- those of one block more
pub value_from : (what : StartLook) (scope : Scope) (old new : Option Place) → new ≡ near_starts what scope (starts_of scope.block.body) old
    → new ≡ nearer_of old (value_in what scope)
value_from what scope old new is = is ∙ in_from (start_place what scope) (starts_of scope.block.body) old

pub index_from : (what : Look) (scope : Scope) (old new : Option Place)
    → new ≡ near_parts what scope (parts_of_starts scope (starts_of scope.block.body)) old → new ≡ nearer_of old (index_in what scope)
index_from what scope old new is = is ∙ parts_from what scope (parts_of_starts scope (starts_of scope.block.body)) old

-- ---- expressions in indexes

index_piece : (rule : Rule) (what : Look)
    → ((scope : Scope) (ps : List Part) (o : Option Place) → o ≡ near_parts what scope ps None → IsNearest (BreaksInParts rule scope ps) o)
    → (project : ProjectTree) (o : Option Place) → o ≡ place_among (index_in what) project → IsNearest (InBlocks (BreaksInValues rule) project) o
index_piece rule what one =
    over_blocks (index_in what) (BreaksInValues rule)
    (λ scope. one scope (parts_of_starts scope (starts_of scope.block.body)) (index_in what scope) refl)

abbrev Misapplied : Scope → Place → Type 0
Misapplied scope at = Any (λ p. Misapplies scope at p.expr) (parts_of_starts scope (starts_of scope.block.body))

abbrev Misused : Scope → Place → Type 0
Misused scope at = Any (MisusesPath scope at) (map (path_of scope) (reads_of_parts (parts_of_starts scope (starts_of scope.block.body))))

misfit_pieces : (project : ProjectTree) (a b : Option Place) → a ≡ place_among (index_in look.Misapplied) project
    → b ≡ place_among (index_in look.Misused) project → IsNearest (InBlocks (BreaksInValues misfit) project) (nearer_of a b)
misfit_pieces project a b first second =
    nearest_same (λ at. InBlocks Misapplied project at ⊎ InBlocks Misused project at) (InBlocks (BreaksInValues misfit) project) (nearer_of a b)
    (λ at e. either_any (λ b. Misapplied (within project b) at) (λ b. Misused (within project b) at) project.blocks e)
    (λ at a. any_either (λ b. Misapplied (within project b) at) (λ b. Misused (within project b) at) project.blocks a)
    (nearest_both (InBlocks Misapplied project) (InBlocks Misused project) a b
    (over_blocks (index_in look.Misapplied) Misapplied
    (λ scope. misapplied_any scope (parts_of_starts scope (starts_of scope.block.body)) (index_in look.Misapplied scope) refl)
    project a first)
    (over_blocks (index_in look.Misused) Misused
    (λ scope. misused_parts scope (parts_of_starts scope (starts_of scope.block.body)) (index_in look.Misused scope) refl)
    project b second))

-- ---- both

pub are_in_values : (project : ProjectTree) (n : ValueNear) → ((what : StartLook) → near_start what n.starts ≡ place_among (value_in what) project)
    → ((what : Look) → near_at what n.indexes ≡ place_among (index_in what) project) → AreInValues project n
are_in_values project n starts indexes = record {
  starts = λ what. over_blocks (value_in what) (HasValue what) (has_value what) project (near_start what n.starts) (starts what);
  missing = index_piece missing_name look.Missing missing_name_parts project n.indexes.missing (indexes look.Missing);
  misfit = misfit_pieces project n.indexes.misapplied n.indexes.misused (indexes look.Misapplied) (indexes look.Misused);
  outside = index_piece out_of_range look.Outside outside_any project n.indexes.outside (indexes look.Outside);
  beyond = index_piece beyond_bounds look.Beyond beyond_parts project n.indexes.beyond (indexes look.Beyond);
  address = index_piece wrong_address look.Address wrong_address_parts project n.indexes.address (indexes look.Address);
}
