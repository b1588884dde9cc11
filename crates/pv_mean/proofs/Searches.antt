-- One step of a search for sizes: what is taken off its list, and what a step leaves.
use Rattle.std.proofs.Common.{◌≡◌, ◌<◌, ℕ, List, [], ◌∷◌, ◌++◌, Bool, true, false, length, sym, ap, ◌∙◌, subst}
use Rattle.std.proofs.lemmas.Bool.{true≢false}
use Rattle.std.proofs.lemmas.List.{map-append}
use Rattle.pv_types.specs.declared.named.Types.{Types}
use Rattle.pv_types.specs.Named.{types_of}
use Rattle.pv_mean.specs.declared.sizing.Task.{Task}
use Rattle.pv_mean.specs.declared.sizing.Sizing.{Sizing}
use Rattle.pv_types.specs.Sizes.{size_of_named}
use Rattle.pv_mean.specs.Counts.{capped, known_in, size_known}
use Rattle.pv_mean.specs.Visits.{visit_of, visits_of, AllNest, IsOpen, all_steps, Goes, Steps}
use Rattle.pv_mean.proofs.Visits.{all_known}

visits_popped : (old new : List Task) (task : Task) → old ≡ new ++ task ∷ [] → visits_of old ≡ visits_of new ++ visit_of task ∷ []
visits_popped old new task e = ap visits_of e ∙ map-append visit_of new (task ∷ [])

pub nest_kept : (s t : Types) → t ≡ s → AllNest (types_of s) → AllNest (types_of t)
nest_kept s t e nest = subst (λ u. AllNest (types_of u)) (sym e) nest

pub popped_open : (old new : Sizing) (task : Task) → old.tasks.items ≡ new.tasks.items ++ task ∷ [] → new.types ≡ old.types
    → new.known ≡ old.known
    → IsOpen (types_of old.types) (known_in old.known) (visits_of old.tasks.items)
    → IsOpen (types_of new.types) (known_in new.known) (visits_of new.tasks.items ++ visit_of task ∷ [])
popped_open old new task e types known open_so =
    subst (λ t. IsOpen (types_of t) (known_in new.known) (visits_of new.tasks.items ++ visit_of task ∷ [])) (sym types)
    (subst (λ k. IsOpen (types_of old.types) (known_in k) (visits_of new.tasks.items ++ visit_of task ∷ [])) (sym known)
    (subst (λ v. IsOpen (types_of old.types) (known_in old.known) v) (visits_popped old.tasks.items new.tasks.items task e) open_so))

pub stepped : (old mid new : Sizing) (task : Task) → old.tasks.items ≡ mid.tasks.items ++ task ∷ [] → mid.types ≡ old.types
    → Goes mid new (visit_of task)
    → Steps old new true
stepped old mid new task e types goes = record {
  open_still = subst (λ t. IsOpen (types_of t) (known_in new.known) (visits_of new.tasks.items)) types goes.open_still;
  types = goes.types ∙ types;
  falls = λ going. subst (λ v. all_steps (types_of old.types) (visits_of new.tasks.items) < all_steps (types_of old.types) v)
      (sym (visits_popped old.tasks.items mid.tasks.items task e))
      (subst (λ t. all_steps (types_of t) (visits_of new.tasks.items)
      < all_steps (types_of t) (visits_of mid.tasks.items ++ visit_of task ∷ [])) types goes.falls);
  ends = λ going. absurd (true≢false going);
}

pub stopped : (old new : Sizing) → old.tasks.items ≡ [] → new.tasks.items ≡ [] → new.types ≡ old.types → new.known ≡ old.known
    → IsOpen (types_of old.types) (known_in old.known) (visits_of old.tasks.items)
    → Steps old new false
stopped old new was now types known open_so = record {
  open_still = subst (λ k. IsOpen (types_of old.types) (known_in k) (visits_of new.tasks.items)) (sym known)
      (subst (λ l. IsOpen (types_of old.types) (known_in old.known) (visits_of l)) (was ∙ sym now) open_so);
  types = types;
  falls = λ going. absurd (true≢false (sym going));
  ends = λ going. now;
}

-- where no step is left, the sizes of all types are known
pub searched : (old new : Sizing) (going : Bool) (types : Types) → Steps old new going → going ≡ false → old.types ≡ types → (key : List ℕ)
    → size_known new.known key ≡ capped (size_of_named (types_of types) (length (types_of types)) key)
searched old new going types steps end same key =
    subst (λ t. size_known new.known key ≡ capped (size_of_named (types_of t) (length (types_of t)) key)) same
    (all_known (types_of old.types) (known_in new.known)
    (subst (λ l. IsOpen (types_of old.types) (known_in new.known) (visits_of l)) (steps.ends end) steps.open_still) key)
