-- Of each thing that is looked for the nearest place so far, and what it is after more was looked at.
use Rattle.std.specs.Prelude.{◌≡◌, List, Option, None}
use Rattle.pv_place.specs.declared.place.Place.{Place}
use Rattle.pv_tree.specs.Scopes.{ProjectTree, Scope}
use Rattle.pv_tree.specs.Parts.{Part}
use Rattle.pv_rules_expr.specs.Looks.{near_parts}
use Rattle.pv_rules_expr.specs.Nearest.{nearer_of}
use Rattle.pv_rules_expr.specs.NearestIn.{nearest_in}
use Rattle.pv_rules_expr.specs.Near.{near_at}
use Rattle.pv_rules_expr.specs.declared.near.Near.{Near}
use Rattle.pv_rules_expr.specs.declared.search.Look.{Look}
use Rattle.pv_rules_code.specs.Sites.{project_place}
use Rattle.pv_rules_code.specs.declared.near.AimNear.{AimNear}
use Rattle.pv_rules_code.specs.declared.near.PassNear.{PassNear}
use Rattle.pv_rules_code.specs.declared.near.AskNear.{AskNear}
use Rattle.pv_rules_code.specs.declared.near.CountNear.{CountNear}
use Rattle.pv_rules_code.specs.declared.near.StrideNear.{StrideNear}
use Rattle.pv_rules_code.specs.declared.near.PickNear.{PickNear}
use Rattle.pv_rules_code.specs.declared.near.SiteNear.{SiteNear}
use Rattle.pv_rules_code.specs.Sought.Aim.{Aim}
use Rattle.pv_rules_code.specs.Sought.Aim as aim
use Rattle.pv_rules_code.specs.Sought.Pass.{Pass}
use Rattle.pv_rules_code.specs.Sought.Pass as pass
use Rattle.pv_rules_code.specs.Sought.Ask.{Ask}
use Rattle.pv_rules_code.specs.Sought.Ask as ask
use Rattle.pv_rules_code.specs.Sought.Count.{Count}
use Rattle.pv_rules_code.specs.Sought.Count as count
use Rattle.pv_rules_code.specs.Sought.Stride.{Stride}
use Rattle.pv_rules_code.specs.Sought.Stride as stride
use Rattle.pv_rules_code.specs.Sought.Pick.{Pick}
use Rattle.pv_rules_code.specs.Sought.Pick as pick
use Rattle.pv_rules_code.specs.Sought.Site.{Site}
use Rattle.pv_rules_code.specs.Sought.Site.{Parts, Misfit, Target, CountedTarget, Call, Counter, By, Selector, Value, Condition, Leave}

abbrev pub near_aim : Aim → AimNear → Option Place
near_aim aim.Fixed n = n.fixed
near_aim aim.Missing n = n.missing
near_aim aim.Address n = n.address
near_aim aim.Misused n = n.misused
near_aim aim.Beyond n = n.beyond

abbrev pub near_pass : Pass → PassNear → Option Place
near_pass pass.Misfit n = n.misfit
near_pass pass.Output n = n.output
near_pass pass.Unknown n = n.unknown
near_pass pass.Counter n = n.counter

abbrev pub near_ask : Ask → AskNear → Option Place
near_ask ask.Missing n = n.missing
near_ask ask.Date n = n.date
near_ask (ask.Args what) n = near_pass what n.args
near_ask ask.Later n = n.later
near_ask ask.Lacking n = n.lacking

abbrev pub near_count : Count → CountNear → Option Place
near_count count.Missing n = n.missing
near_count count.Date n = n.date
near_count count.Other n = n.other
near_count count.Inner n = n.inner

abbrev pub near_stride : Stride → StrideNear → Option Place
near_stride stride.Wrong n = n.wrong
near_stride stride.Outside n = n.outside

abbrev pub near_pick : Pick → PickNear → Option Place
near_pick pick.Missing n = n.missing
near_pick pick.Date n = n.date
near_pick pick.Outside n = n.outside
near_pick pick.Other n = n.other

abbrev pub near_site : Site → SiteNear → Option Place
near_site (Parts look) n = near_at look n.parts
near_site Misfit n = n.misfit
near_site (Target what) n = near_aim what n.aims
near_site CountedTarget n = n.counted
near_site (Call what) n = near_ask what n.asks
near_site (Counter what) n = near_count what n.counts
near_site (By what) n = near_stride what n.strides
near_site Selector n = n.selector
near_site (Value what) n = near_pick what n.picks
near_site Condition n = n.condition
near_site Leave n = n.leave

abbrev pub HasNothing : SiteNear → Type 0
HasNothing n = (what : Site) → near_site what n ≡ None

-- at one more expression, target, argument, call, ..: the nearer of the old place and of the one there
abbrev pub HasParts : Scope → List Part → Near → Near → Type 0
HasParts scope parts old new = (what : Look) → near_at what new ≡ near_parts what scope parts (near_at what old)

abbrev pub HasAims : (Aim → Option Place) → AimNear → AimNear → Type 0
HasAims found old new = (what : Aim) → near_aim what new ≡ nearer_of (near_aim what old) (found what)

abbrev pub HasPasses : (Pass → Option Place) → PassNear → PassNear → Type 0
HasPasses found old new = (what : Pass) → near_pass what new ≡ nearer_of (near_pass what old) (found what)

abbrev pub HasAsks : (Ask → Option Place) → AskNear → AskNear → Type 0
HasAsks found old new = (what : Ask) → near_ask what new ≡ nearer_of (near_ask what old) (found what)

abbrev pub HasCounts : (Count → Option Place) → CountNear → CountNear → Type 0
HasCounts found old new = (what : Count) → near_count what new ≡ nearer_of (near_count what old) (found what)

abbrev pub HasStrides : (Stride → Option Place) → StrideNear → StrideNear → Type 0
HasStrides found old new = (what : Stride) → near_stride what new ≡ nearer_of (near_stride what old) (found what)

abbrev pub HasPicks : (Pick → Option Place) → PickNear → PickNear → Type 0
HasPicks found old new = (what : Pick) → near_pick what new ≡ nearer_of (near_pick what old) (found what)

abbrev pub HasSites : (Site → Option Place) → SiteNear → SiteNear → Type 0
HasSites found old new = (what : Site) → near_site what new ≡ nearer_of (near_site what old) (found what)

-- along a list
abbrev pub HasPassesIn : {X : Type 0} → (Pass → X → Option Place) → List X → PassNear → PassNear → Type 0
HasPassesIn found xs old new = (what : Pass) → near_pass what new ≡ nearest_in (found what) xs (near_pass what old)

abbrev pub HasPicksIn : {X : Type 0} → (Pick → X → Option Place) → List X → PickNear → PickNear → Type 0
HasPicksIn found xs old new = (what : Pick) → near_pick what new ≡ nearest_in (found what) xs (near_pick what old)

abbrev pub HasSitesIn : {X : Type 0} → (Site → X → Option Place) → List X → SiteNear → SiteNear → Type 0
HasSitesIn found xs old new = (what : Site) → near_site what new ≡ nearest_in (found what) xs (near_site what old)

-- in a whole project
abbrev pub HasProject : ProjectTree → SiteNear → Type 0
HasProject project n = (what : Site) → near_site what n ≡ project_place what project
