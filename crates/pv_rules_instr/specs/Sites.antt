-- What is looked for in the instructions of a block, and the nearest place of it in a block and in a project.
use Rattle.std.specs.Prelude.{List, Option, None, Any}
use Rattle.pv_place.specs.declared.place.Place.{Place}
use Rattle.pv_tree.specs.Tree.{InstrTree, BlockTree}
use Rattle.pv_tree.specs.Scopes.{ProjectTree, Scope}
use Rattle.pv_tree.specs.Parts.{instructions_of}
use Rattle.pv_tree.specs.Rules.OutOfRange.{IsBehindOutside}
use Rattle.pv_rules_expr.specs.NearestIn.{nearest_in}
use Rattle.pv_rules_instr.specs.AtLabels.{label_place}
use Rattle.pv_rules_instr.specs.AtNestings.{nesting_place}
use Rattle.pv_rules_instr.specs.AtOperands.{refused_at, outside_at}
use Rattle.pv_rules_instr.specs.AtRanges.{range_place}
use Rattle.pv_rules_instr.specs.declared.sites.Each.{Each}
use Rattle.pv_rules_instr.specs.declared.sites.Each.TheVariants.{Refused, Outside}
use Rattle.pv_rules_instr.specs.declared.sites.Site.{Site}
use Rattle.pv_rules_instr.specs.declared.sites.Site.TheVariants as site

abbrev pub each_place : Each → Scope → InstrTree → Option Place
each_place Refused scope i = refused_at scope i
each_place Outside scope i = outside_at i

abbrev pub list_place : Site → Scope → List InstrTree → Option Place
list_place (site.Each each) scope is = nearest_in (each_place each scope) is None
list_place site.Label scope is = label_place is
list_place site.Range scope is = range_place is
list_place site.Nesting scope is = nesting_place is

abbrev pub in_block : ProjectTree → BlockTree → Scope
in_block project block = record { project = project; block = block }

abbrev pub body_place : Site → Scope → Option Place
body_place what scope = list_place what scope (instructions_of scope.block.body)

abbrev pub block_place : Site → ProjectTree → BlockTree → Option Place
block_place what project block = body_place what (in_block project block)

abbrev pub project_place : Site → ProjectTree → Option Place
project_place what project = nearest_in (block_place what project) project.blocks None

-- a literal behind an instruction is outside its type: of the rule on literals what concerns instructions
abbrev pub IsOutsideBehind : ProjectTree → Place → Type 0
IsOutsideBehind project at = Any (λ b. Any (IsBehindOutside at) (instructions_of b.body)) project.blocks
