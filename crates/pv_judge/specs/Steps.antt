-- What the steps of the walk answer. No public clause cites this.
use Rattle.std.specs.Prelude.{◌≡◌, ℕ, suc, ◌+◌, ◌-◌, ◌≤◌, ◌==◌, nat_le, nat_lt, ℤ, Bool, true, false, not, ◌&&◌, ◌||◌, if◌then◌else◌, List, [], ◌∷◌, ◌++◌, length, Option, Some, None, Result, Ok, Err}
use Rattle.pv_cnf.specs.Clause.{Cnf}
use Rattle.pv_log.specs.declared.line.Line as line
use Rattle.pv_log.specs.declared.fault.LineFault.{LineFault}
use Rattle.pv_log.specs.declared.fault.LineFault.TheVariants.{NotNew}
use Rattle.pv_log.specs.declared.fault.Verdict.{Verdict}
use Rattle.pv_log.specs.declared.fault.Verdict.TheVariants.{Accepted, NoEmpty, Refused}
use Rattle.pv_log.specs.Follows.{EachFollows, FailsFirst}
use Rattle.pv_log.specs.Newness.{FollowsNew, new_fault_of}
use Rattle.pv_claims.specs.declared.claim.Claim.{Claim}
use Rattle.pv_claims.specs.declared.trace.Ending.{Ending}
use Rattle.pv_claims.specs.declared.trace.Trace.{Trace}
use Rattle.pv_cert.specs.declared.proof.Query.{Query}
use Rattle.pv_cert.specs.declared.proof.Query.TheVariants.{Base, Step}
use Rattle.pv_cert.specs.declared.proof.Proof.{Proof}
use Rattle.pv_stretch.specs.declared.ends.StretchEnd.{StretchEnd}
use Rattle.pv_stretch.specs.declared.ends.StretchEnd.TheVariants.{Fails, Stopped}
use Rattle.pv_machine.specs.Machines.{Values}
use Rattle.pv_kind.specs.declared.told.TheConstants.{LAST_QUERY}
use Rattle.pv_kind.specs.Decisions.{bases}
use Rattle.pv_valid.specs.declared.fault.Fault.{Fault}
use Rattle.pv_valid.specs.declared.fault.Fault.TheVariants.{TooManyGates, Line, NoMemory}
use Rattle.pv_valid.specs.declared.facts.Facts.{Facts}
use Rattle.pv_valid.specs.declared.fault.Kind.{Kind}
use Rattle.pv_valid.specs.declared.fault.Kind.TheVariants as kind
use Rattle.pv_valid.specs.Cases.{Case, Bounds}
use Rattle.pv_valid.specs.Shown.{last_ending}
use Rattle.pv_valid.specs.Claims.{ends_as, is_query}
use Rattle.pv_valid.specs.Validity.{ending_in}
use Rattle.pv_valid.specs.Walk.{trace_fault, scans_fault, are_between, may_follow, refuting_fault, proof_fault, is_named}
use Rattle.pv_judge.specs.declared.expected.Expected.{Expected}

-- a step whose part is wrong first so answers this, or that memory ran out
abbrev pub Finds : Option Fault → Result (Unit {0}) Fault → Type 0
Finds found (Ok done) = found ≡ None
Finds found (Err TooManyGates) = found ≡ Some TooManyGates
Finds found (Err (Line at why)) = found ≡ Some (Line at why)
Finds found (Err NoMemory) = Unit {0}

-- the same of a trace, whose last scan ends so where nothing is wrong
abbrev pub FindsIn : Case → Claim → Option Trace → Result (Option Ending) Fault → Type 0
FindsIn case claim trace (Ok ending) = (trace_fault case claim trace ≡ None) × (ending ≡ ending_in case trace)
FindsIn case claim trace (Err fault) = trace_fault case claim trace ≡ Some fault

-- the trace has no more scans than the last step query
abbrev pub HasFewScans : Option Trace → Type 0
HasFewScans None = Unit {0}
HasFewScans (Some t) = length t.inputs ≤ LAST_QUERY + 1

-- what scans show by the end of their stretch: how the last one ends, or what is wrong first
abbrev pub FindsEnd : Option Fault → Option StretchEnd → Result Ending Fault → Type 0
FindsEnd found end (Ok ending) = (found ≡ None) × (end ≡ Some (Fails ending))
FindsEnd found end (Err fault) = found ≡ Some fault

-- what the scans of a trace show
abbrev pub FindsScans : Case → Claim → Trace → Result Ending Fault → Type 0
FindsScans case claim t (Ok ending) = (trace_fault case claim (Some t) ≡ None) × (ending_in case (Some t) ≡ Some ending)
FindsScans case claim t (Err fault) = trace_fault case claim (Some t) ≡ Some fault

-- the same from a state, of scans of which the first stands in this line
abbrev pub FindsFrom : Case → Claim → ℕ → Values → List Values → Result Ending Fault → Type 0
FindsFrom case claim at s inputs (Ok ending) =
    (scans_fault case (ends_as claim) at s inputs ≡ None) × (last_ending case.machine s inputs ≡ Some ending)
FindsFrom case claim at s inputs (Err fault) = scans_fault case (ends_as claim) at s inputs ≡ Some fault

-- the line of params, of an image or of a mark that isn't one of the case
abbrev pub begin_fault : Facts → Option (List ℤ) → Trace → Option ℕ
begin_fault facts None t = if are_between facts.params t.params then None else Some 3
begin_fault facts (Some image) t =
    if are_between facts.image image then (if may_follow facts t.prev then None else Some 4) else Some 3

-- how many inputs have their values in range, before the first that hasn't
abbrev pub in_range : List Bounds → List Values → ℕ
in_range ranges [] = 0
in_range ranges (i ∷ inputs) = if are_between ranges i then suc (in_range ranges inputs) else 0

-- ---- which proofs are expected

-- base queries up to a number, and after them the step query of that number
abbrev pub queries_of : Expected → List Query
queries_of e = bases e.bases ++ (if e.step then Step e.bases ∷ [] else [])

-- what is wrong first with proof n of those for which a limit was spent, by whether it is the last
abbrev pub nth_fault : Case → (Cnf → ℕ → List line.Line → Option Fault) → ℕ → Bool → ℕ → Proof → Option Fault
nth_fault case log_fault n true at p = proof_fault case (is_named case.facts.depth n p.query) log_fault at p
nth_fault case log_fault n false at p = proof_fault case (is_query (Base n) p.query && nat_le n case.facts.depth) refuting_fault at p

-- ---- the scans

-- what is wrong with scans of which so many have values in range, out of all, and of these so many are good before this end; and how the
-- last one ends where nothing is
abbrev pub scans_found : (Ending → Bool) → ℕ → ℕ → ℕ → ℕ → Option StretchEnd → Option Fault
scans_found ends at count ranged good None =
    if nat_lt ranged count then Some (Line (at + ranged) kind.WrongQuery) else Some (Line (at + (count - 1)) kind.TraceDiffers)
scans_found ends at count ranged good (Some (Stopped trap place)) = Some (Line (at + good) kind.TraceDiffers)
scans_found ends at count ranged good (Some (Fails told)) =
    if suc good == count && ends told then None else Some (Line (at + good) kind.TraceDiffers)

-- ---- logs of lemmas

-- a line that is refused, from 1, with its kind
abbrev pub refused_in : Verdict → Option (ℕ × LineFault)
refused_in Accepted = None
refused_in NoEmpty = None
refused_in (Refused n fault) = Some (n, fault)

-- the line is the first that is refused where lines have to be new, and none is where all follow
abbrev pub Refuses : ℕ → List (List ℕ) → List line.Line → Option (ℕ × LineFault) → Type 0
Refuses variables clauses lines None = EachFollows (FollowsNew variables) clauses lines
Refuses variables clauses lines (Some r) = FailsFirst (new_fault_of variables) clauses lines r.0 r.1

abbrev pub is_not_new : LineFault → Bool
is_not_new NotNew = true
is_not_new other = false

-- the first line that is refused and the first empty one: at one line its own fault comes first, then that it is empty, then that it
-- isn't new
abbrev pub first_wrong : Option (ℕ × LineFault) → Option ℕ → Option (ℕ × Kind)
first_wrong None None = None
first_wrong None (Some n) = Some (n, kind.WrongQuery)
first_wrong (Some refused) None = Some (refused.0, kind.Line refused.1)
first_wrong (Some refused) (Some n) =
    if nat_lt refused.0 n || (refused.0 == n && not (is_not_new refused.1)) then Some (refused.0, kind.Line refused.1)
    else Some (n, kind.WrongQuery)

-- what is wrong in a line of a log that stands after this line
abbrev pub placed : ℕ → Option (ℕ × Kind) → Option Fault
placed at None = None
placed at (Some wrong) = Some (Line (at + wrong.0) wrong.1)

-- whether it is one of so many lines
abbrev pub is_in_log : Option (ℕ × Kind) → ℕ → Bool
is_in_log None count = false
is_in_log (Some wrong) count = nat_le wrong.0 count

-- the first line without a literal, from 1
abbrev pub first_empty : List line.Line → Option ℕ
first_empty [] = None
first_empty (l ∷ lines) = if length l.lits == 0 then Some 1 else elim (first_empty lines) [ None ↦ None | Some n ↦ Some (suc n) ]
