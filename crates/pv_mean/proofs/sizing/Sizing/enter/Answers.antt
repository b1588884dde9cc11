use Rattle.std.proofs.Common.{◌≡◌, ◌<◌, ◌∷◌, [], ◌++◌, refl, ap, sym, ◌∙◌, subst, append_assoc, is_some}
use Rattle.std.proofs.lemmas.Bool.{true≢false}
use Rattle.std.proofs.lemmas.List.{map-append}
use Rattle.pv_types.specs.View.{var_trees}
use Rattle.pv_types.specs.Named.{types_of}
use Rattle.pv_mean.specs.Counts.{known_in}
use Rattle.pv_mean.specs.Visits.{visit_of, visits_of, enter, leave, all_steps, IsOpen}
use Rattle.pv_mean.proofs.Visits.{known_popped, known_falls, enter_there, type_entered, entered_falls}
use Rattle.pv_mean.proofs.sizing.Sizing.enter.Goals as goal

pub returns-then-has : goal.returns-then-has
returns-then-has c =
    let types = types_of c.args.self.now.types in
    let known = known_in c.args.self.now.known in
    let xs = visits_of c.args.self.now.tasks.items in
    let key = c.args.name.now.key in
    record {
      open_still = known_popped types known xs key c.requires.open (sym c.has.ensures ∙ c.if-has.true);
      types = refl;
      falls = known_falls types xs key;
    }

pub returns-in_default : goal.returns-in_default
returns-in_default c =
    let types = types_of c.args.self.now.types in
    let known = known_in c.args.self.now.known in
    let xs = visits_of c.args.self.now.tasks.items in
    absurd (true≢false (sym (enter_there types known xs c.args.name.now.key c.requires.open) ∙ ap is_some (sym c.in_default.ensures)))

pub returns : goal.returns
returns c =
    let types = types_of c.args.self.now.types in
    let known = known_in c.args.self.now.known in
    let old = c.args.self.now.tasks.items in
    let xs = visits_of old in
    let key = c.args.name.now.key in
    let vars = var_trees c.in-Some.vars.now in
    let found = sym c.in-Some.ensures in
    let adds = c.in_ok-add_names_of.ensures in
    let same : xs ++ leave key vars ∷ adds.more ≡ visits_of c.add_names_of.new.tasks.items =
    sym (append_assoc xs (leave key vars ∷ []) adds.more)
    ∙ ap (λ l. l ++ adds.more) (sym (map-append visit_of old _) ∙ ap visits_of (sym c.in_ok-push.ensures.items))
    ∙ sym adds.behind in
    record {
      open_still = subst (IsOpen types known) same (type_entered types known xs key c.requires.open c.requires.nest vars found adds.more adds.are);
      types = refl;
      falls = subst (λ vs. all_steps types vs < all_steps types (xs ++ enter key ∷ [])) same
          (entered_falls types xs key vars c.requires.nest found adds.more adds.are);
    }
