use Rattle.pv_mean.specs.Frames.{begin}
use Rattle.pv_mean.proofs.Fuel.{fuel-scan}
use Rattle.pv_mean.proofs.CalledBlocks.{kept-ends_within}
use Rattle.pv_mean.proofs.laws.more_calls_change_nothing.Goals as goal

pub returns-clause-beyond : goal.returns-clause-beyond
returns-clause-beyond c = fuel-scan

pub returns-clause-rules : goal.returns-clause-rules
returns-clause-rules c = λ project block keeps at. kept-ends_within project keeps block at

pub returns-clause-scan : goal.returns-clause-scan
returns-clause-scan c = λ source k image input keeps at le.
    fuel-scan source 7 k (begin source.cells image input) le (kept-ends_within source.project keeps source.entry at)
