-- The lines behind a trace's parameters: its scans and its end. No public clause cites these.
use Rattle.std.specs.Prelude.{◌≡◌, ◌≢◌, ℕ, ◌+◌, ℤ, List, [], ◌∷◌, ◌++◌, length, map, codes, Result, Ok, Err}
use Rattle.std.specs.List.{AllByRecursion}
use Rattle.pv_claims.specs.declared.fault.CertFault.{CertFault}
use Rattle.pv_claims.specs.declared.fault.CertFault.TheVariants.{NotACertificate, NoMemory}
use Rattle.pv_claims.specs.Lines.{text_of_lines, NoFeed}
use Rattle.pv_claims.specs.declared.trace.Trace.{Trace}
use Rattle.pv_trace.specs.TraceText.{Bounds, AreBetween, scan_line, IsTextOf, FailsAt}

-- the lines of scans and the end
abbrev pub scan_lines : List (List ℤ) → List (List ℕ)
scan_lines scans = map scan_line scans ++ codes "end" ∷ []

-- these scans were read, and this is left
pub record HasScans (ranges : List Bounds) (text rest : List ℕ) (scans : List (List ℤ)) : Type 0 where
  pub within : AllByRecursion (AreBetween ranges) scans
  pub split : text ≡ text_of_lines (map scan_line scans) ++ rest

-- the line is neither that of a scan nor the end
pub record IsNoScan (ranges : List Bounds) (line : List ℕ) : Type 0 where
  pub not_end : line ≡ codes "end" → ⊥
  pub not_scan : (values : List ℤ) → AreBetween ranges values → line ≡ scan_line values → ⊥

-- the first line at fault, from 3 on: behind the scans there is no whole line of a scan or the end, or something stands behind the end
pub data StopsAt (ranges : List Bounds) (text : List ℕ) (line : ℕ) : Type 0 where
  at_line : (rest : List ℕ) (scans : List (List ℤ)) → HasScans ranges text rest scans → line ≡ length scans + 3
      → ((next after : List ℕ) → NoFeed next → rest ≡ next ++ 10 ∷ after → IsNoScan ranges next)
      → StopsAt ranges text line
  behind_end : (rest : List ℕ) (scans : List (List ℤ)) → HasScans ranges text (codes "end\n" ++ rest) scans
      → line ≡ length scans + 4 → rest ≢ [] → StopsAt ranges text line

-- what reading them gives
abbrev pub ReadsScans : List Bounds → List ℕ → Result (List (List ℤ)) CertFault → Type 0
ReadsScans ranges text (Ok scans) = AllByRecursion (AreBetween ranges) scans × (text ≡ text_of_lines (scan_lines scans))
ReadsScans ranges text (Err (NotACertificate line)) = StopsAt ranges text line
ReadsScans ranges text (Err NoMemory) = Unit {0}

-- what reading a whole trace gives, unless memory runs out
abbrev pub ReadsTrace : List Bounds → List Bounds → List ℕ → Result Trace CertFault → Type 0
ReadsTrace params inputs bytes (Ok t) = IsTextOf params inputs bytes t
ReadsTrace params inputs bytes (Err (NotACertificate line)) = FailsAt params inputs bytes line
ReadsTrace params inputs bytes (Err NoMemory) = Unit {0}
