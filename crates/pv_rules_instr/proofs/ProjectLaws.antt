-- What is nearest in the instructions of a project is the least place at which its rule is broken.
use Rattle.std.proofs.Common.{◌≡◌, subst, sym, Option}
use Rattle.std.specs.Prelude.{◌⊎◌, Any, Contains}
use Rattle.pv_place.specs.declared.place.Place.{Place}
use Rattle.pv_tree.specs.Scopes.{ProjectTree}
use Rattle.pv_tree.specs.Parts.{instructions_of}
use Rattle.pv_tree.specs.Interfaces.{IsLater}
use Rattle.pv_tree.specs.Rules.Behind.{Refuses, IsRefused}
use Rattle.pv_tree.specs.Rules.Jumps.{labels_of, MissesLabel, IsWrongLabel, Enters, Crosses, IsWrongRange}
use Rattle.pv_tree.specs.Rules.OpenNestings.{NestsWrong, open_after, IsWrongNesting}
use Rattle.pv_tree.specs.Rules.OutOfRange.{IsBehindOutside}
use Rattle.pv_rules_expr.specs.Nearest.{IsNearest}
use Rattle.pv_rules_expr.proofs.ForCallers.{in_any}
use Rattle.pv_rules_instr.specs.AtOperands.{outside_at, refused_at}
use Rattle.pv_rules_instr.specs.Sites.{in_block, block_place, project_place, IsOutsideBehind}
use Rattle.pv_rules_instr.specs.declared.sites.Site.TheVariants as site
use Rattle.pv_rules_instr.specs.declared.sites.Each.TheVariants as each
use Rattle.pv_rules_instr.proofs.LabelLaws.{labels_nearest}
use Rattle.pv_rules_instr.proofs.NestingLaws.{nestings_nearest}
use Rattle.pv_rules_instr.proofs.RangeLaws.{ranges_nearest}
use Rattle.pv_rules_instr.proofs.OperandLaws.{refused_nearest, outside_nearest}

pub refused_in_project : (project : ProjectTree) (o : Option Place) → o ≡ project_place (site.Each each.Refused) project → IsNearest (IsRefused project) o
refused_in_project project o is =
    subst (IsNearest (IsRefused project)) (sym is)
    (in_any (λ b at. Any (Refuses (in_block project b) at) (instructions_of b.body)) (block_place (site.Each each.Refused) project)
    (λ b. in_any (λ i at. Refuses (in_block project b) at i) (refused_at (in_block project b)) (refused_nearest (in_block project b))
    (instructions_of b.body)) project.blocks)

pub outside_in_project : (project : ProjectTree) (o : Option Place) → o ≡ project_place (site.Each each.Outside) project → IsNearest (IsOutsideBehind project) o
outside_in_project project o is =
    subst (IsNearest (IsOutsideBehind project)) (sym is)
    (in_any (λ b at. Any (IsBehindOutside at) (instructions_of b.body)) (block_place (site.Each each.Outside) project)
    (λ b. in_any (λ i at. IsBehindOutside at i) outside_at outside_nearest (instructions_of b.body)) project.blocks)

pub labels_in_project : (project : ProjectTree) (o : Option Place) → o ≡ project_place site.Label project → IsNearest (IsWrongLabel project) o
labels_in_project project o is =
    subst (IsNearest (IsWrongLabel project)) (sym is)
    (in_any (λ b at. MissesLabel (instructions_of b.body) at ⊎ IsLater (labels_of (instructions_of b.body)) at) (block_place site.Label project)
    (λ b. labels_nearest (instructions_of b.body)) project.blocks)

pub nestings_in_project : (project : ProjectTree) (o : Option Place) → o ≡ project_place site.Nesting project → IsNearest (IsWrongNesting project) o
nestings_in_project project o is =
    subst (IsNearest (IsWrongNesting project)) (sym is)
    (in_any (λ b at. NestsWrong (instructions_of b.body) at ⊎ Contains (open_after (instructions_of b.body)) at) (block_place site.Nesting project)
    (λ b. nestings_nearest (instructions_of b.body)) project.blocks)

pub ranges_in_project : (project : ProjectTree) (o : Option Place) → o ≡ project_place site.Range project → IsNearest (IsWrongRange project) o
ranges_in_project project o is =
    subst (IsNearest (IsWrongRange project)) (sym is)
    (in_any (λ b at. Enters (instructions_of b.body) at ⊎ Crosses (instructions_of b.body) at) (block_place site.Range project)
    (λ b. ranges_nearest (instructions_of b.body)) project.blocks)
