use Rattle.std.proofs.Common.{refl}
use Rattle.pv_mean.proofs.Changes.{view-map}
use Rattle.pv_mean.proofs.laws.views_keep_paths_types_and_starts.Goals as goal

pub returns-clause-paths : goal.returns-clause-paths
returns-clause-paths c = λ view cells. view-map (λ x. x.path) (λ x. refl) (λ v x. refl) view cells

pub returns-clause-types : goal.returns-clause-types
returns-clause-types c = λ view cells. view-map (λ x. x.ty) (λ x. refl) (λ v x. refl) view cells

pub returns-clause-starts : goal.returns-clause-starts
returns-clause-starts c = λ view cells. view-map (λ x. x.start) (λ x. refl) (λ v x. refl) view cells
