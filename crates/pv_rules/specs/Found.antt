-- Of each rule the nearest place at which a project breaks it.
use Rattle.pv_tree.specs.Scopes.{ProjectTree}
use Rattle.pv_tree.specs.Rules as tree
use Rattle.pv_tree.specs.Rules.{Rule, Breaks}
use Rattle.std.specs.Prelude.{Option}
use Rattle.pv_place.specs.declared.place.Place.{Place}
use Rattle.pv_rules_expr.specs.Nearest.{IsNearest}
use Rattle.pv_rules_code.specs.AreInCode.{AreInCode}
use Rattle.pv_rules.specs.declared.found.Declared.{Declared}
use Rattle.pv_rules.specs.declared.found.Whole.{Whole}
use Rattle.pv_rules.specs.declared.found.Chained.{Chained}
use Rattle.pv_rules.specs.declared.found.Instructed.{Instructed}
use Rattle.pv_rules.specs.declared.found.Nearest.{Nearest}

abbrev pub IsBreach : ProjectTree → Rule → Option Place → Type 0
IsBreach project rule at = IsNearest (λ p. Breaks rule project p) at

pub record AreDeclared (project : ProjectTree) (d : Declared) : Type 0 where
  pub doubled : IsBreach project tree.doubled_name d.doubled
  pub untyped : IsBreach project tree.missing_type d.untyped
  pub array : IsBreach project tree.wrong_array d.array

pub record AreWhole (project : ProjectTree) (w : Whole) : Type 0 where
  pub missing : IsBreach project tree.missing_name w.missing
  pub misfit : IsBreach project tree.misfit w.misfit
  pub outside : IsBreach project tree.out_of_range w.outside
  pub beyond : IsBreach project tree.beyond_bounds w.beyond
  pub uncallable : IsBreach project tree.not_callable w.uncallable
  pub address : IsBreach project tree.wrong_address w.address

pub record AreChained (project : ProjectTree) (c : Chained) : Type 0 where
  pub cycle : IsBreach project tree.cycle c.cycle
  pub deep : IsBreach project tree.too_deep c.deep

pub record AreInstructed (project : ProjectTree) (i : Instructed) : Type 0 where
  pub label : IsBreach project tree.wrong_label i.label
  pub range : IsBreach project tree.wrong_range i.range
  pub nesting : IsBreach project tree.wrong_nesting i.nesting
  pub operand : IsBreach project tree.refused_operand i.operand

pub record AreAll (project : ProjectTree) (n : Nearest) : Type 0 where
  pub declared : AreDeclared project n.declared
  pub code : AreInCode project n.code
  pub whole : AreWhole project n.whole
  pub chained : AreChained project n.chained
  pub instructed : AreInstructed project n.instructed
