use Rattle.pv_laws_sizes.proofs.Copied.{ordinary_scl, ordinary_stl}
use Rattle.pv_laws_sizes.proofs.laws.spelled_calls_are_ordinary.Goals as goal

pub returns-clause-scl : goal.returns-clause-scl
returns-clause-scl c = ordinary_scl

pub returns-clause-stl : goal.returns-clause-stl
returns-clause-stl c = ordinary_stl
