-- The nearest places so far, by what is looked for.
use Rattle.std.specs.Prelude.{Option}
use Rattle.pv_place.specs.declared.place.Place.{Place}
use Rattle.pv_rules_expr.specs.declared.near.Near.{Near}
use Rattle.pv_rules_expr.specs.declared.search.Look.{Look}
use Rattle.pv_rules_expr.specs.declared.search.Look.TheVariants.{Misapplied, Outside, Missing, Void, Address, Misused, Beyond, Moving, Divides}

abbrev pub near_at : Look → Near → Option Place
near_at Misapplied n = n.misapplied
near_at Outside n = n.outside
near_at Missing n = n.missing
near_at Void n = n.void
near_at Address n = n.address
near_at Misused n = n.misused
near_at Beyond n = n.beyond
near_at Moving n = n.moving
near_at Divides n = n.divides
