use Rattle.pv_mean.specs.Frames.{begin}
use Rattle.pv_laws_scans.proofs.Untouched.{kept-scan}
use Rattle.pv_laws_scans.proofs.laws.scans_keep_untouched_cells.Goals as goal

pub returns-clause-scan_from : goal.returns-clause-scan_from
returns-clause-scan_from c = λ source calls n values end leaves done.
    kept-scan c.untouched_cells_keep_their_value.ensures c.instructions_leave_other_cells.ensures source n calls values end leaves done

pub returns-clause-scan : goal.returns-clause-scan
returns-clause-scan c = λ source image input n end leaves done.
    kept-scan c.untouched_cells_keep_their_value.ensures c.instructions_leave_other_cells.ensures source n 7 (begin source.cells image input) end
    leaves done
