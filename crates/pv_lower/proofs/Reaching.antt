-- What is read and written where an operand leads, and the element at an index that is known.
use Rattle.std.proofs.Common.{◌≡◌, ℕ, ℤ, List, sym, ap, subst, ◌∙◌}
use Rattle.pv_word.specs.declared.types.Ty.{Ty}
use Rattle.pv_place.specs.declared.place.Place.{Place}
use Rattle.pv_tree.specs.Tree.{BlockTree}
use Rattle.pv_tree.specs.Scopes.{ProjectTree}
use Rattle.pv_mean.specs.Sources.{Source}
use Rattle.pv_flow.specs.declared.term.Node.{Node}
use Rattle.pv_flow.specs.declared.parts.Set.{Set as CodeSet}
use Rattle.pv_terms.specs.Pushed.{Puts}
use Rattle.pv_variables.specs.Begun.{origin_of}
use Rattle.pv_variables.specs.Origins.{Origin, element_placed}
use Rattle.pv_access.specs.declared.access.Move.{Move as CodeMove}
use Rattle.pv_access.specs.declared.access.Storage.{Storage}
use Rattle.pv_access.specs.declared.check.Check.{Check as CodeCheck}
use Rattle.pv_access.specs.Accesses.{Writing, read_term, unset_checks, write_sets}
use Rattle.pv_access.specs.Given.{AreMoves}
use Rattle.pv_access.specs.Pushed.{Checks, Sets}
use Rattle.pv_lower.specs.declared.access.Access.{Access as CodeAccess}
use Rattle.pv_lower.specs.Storages.{Access, storage_at}
use Rattle.pv_lower.specs.Lowered.{Lowered, to_known, read_at}
use Rattle.pv_lower.specs.Lowering.{Lowers, IsAccess}
use Rattle.pv_lower.proofs.Behind.{lowers_say, lowers_on}

pub stored : (source : Source) (block : BlockTree) (nodes : List Node) (code : CodeAccess) (a : Access) (s : Storage) → IsAccess nodes code a
    → s ≡ storage_at source block (origin_of code.begin) → s ≡ storage_at source block a.origin
stored source block nodes code a s is e = e ∙ ap (storage_at source block) is.origin

pub moves_of : (nodes : List Node) (code : CodeAccess) (a : Access) (ms : List CodeMove) → IsAccess nodes code a → ms ≡ code.moves.items
    → AreMoves nodes ms a.moves
moves_of nodes code a ms is e = subst (λ (l : List CodeMove). AreMoves nodes l a.moves) (sym e) is.moves

pub of_access : (source : Source) (block : BlockTree) (a : Access) (ty : Ty) (place : Place) (s : Storage) (old mid new : List Node)
    (before after : List CodeCheck) (n : ℕ) → s ≡ storage_at source block a.origin → Checks old mid before after (unset_checks s a.moves place)
    → Puts mid new n (read_term ty s a.moves) → Lowers old new before after n (read_at source block ty a place)
of_access source block a ty place s old mid new before after n e c p =
    lowers_say old new before after n (record { checks = unset_checks s a.moves place; term = read_term ty s a.moves }) (read_at source block ty a place)
    (ap (λ (x : Storage). let l : Lowered = record { checks = unset_checks x a.moves place; term = read_term ty x a.moves } in l) e)
    (lowers_on old mid new before after n (read_term ty s a.moves) (unset_checks s a.moves place) c p)

pub of_writing : (source : Source) (block : BlockTree) (a : Access) (w : Writing) (s : Storage) (old new : List Node) (before after : List CodeSet)
    → s ≡ storage_at source block a.origin → Sets old new before after (write_sets s a.moves w)
    → Sets old new before after (write_sets (storage_at source block a.origin) a.moves w)
of_writing source block a w s old new before after e sets = subst (λ (x : Storage). Sets old new before after (write_sets x a.moves w)) e sets

pub of_element : (project : ProjectTree) (a : Access) (code next : CodeAccess) (nodes : List Node) (i v : ℤ) → IsAccess nodes code a
    → origin_of next.begin ≡ element_placed project (origin_of code.begin) i → i ≡ v → next.moves.items ≡ code.moves.items
    → IsAccess nodes next (to_known project a v).access
of_element project a code next nodes i v is leads e same = record {
  origin = leads ∙ ap (λ (o : Origin). element_placed project o i) is.origin ∙ ap (element_placed project a.origin) e;
  moves = subst (λ (ms : List CodeMove). AreMoves nodes ms a.moves) (sym same) is.moves;
}
