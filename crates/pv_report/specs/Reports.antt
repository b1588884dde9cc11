-- The report of a verdict, line by line, and the status that goes with it.
use Rattle.std.specs.Prelude.{ℕ, ◌+◌, ℤ, List, [], ◌∷◌, ◌++◌, codes, decimal, Bool, true, false, Option, Some, None}
use Rattle.std.specs.Fmt.{signed_decimal}
use Rattle.pv_mean.specs.declared.cell.Cell.{Cell}
use Rattle.pv_mean.specs.Frames.{stored_cells, free_cells, input_cells}
use Rattle.pv_case.specs.declared.case.PatternKind.{PatternKind}
use Rattle.pv_case.specs.declared.case.PatternKind.TheVariants as kind
use Rattle.pv_case.specs.declared.case.Limits.{Limits}
use Rattle.pv_claims.specs.declared.claim.Claim.{Claim}
use Rattle.pv_claims.specs.declared.claim.Claim.TheVariants.{Satisfied, Unreachable, Violated, Trapped, Reached, Depth, Loop, Lemmas, Region}
use Rattle.pv_cert.specs.declared.proof.Query.{Query}
use Rattle.pv_cert.specs.declared.proof.Query.TheVariants.{Base, Step}
use Rattle.pv_claims.specs.declared.trace.Ending.{Ending}
use Rattle.pv_claims.specs.declared.trace.Ending.TheVariants as ending
use Rattle.pv_claims.specs.declared.trace.Trace.{Trace}
use Rattle.pv_report.specs.declared.verdict.Verdict.{Verdict}
use Rattle.pv_report.specs.Words.{trap_word, head_text}
use Rattle.pv_report.specs.Places.{Lines, place_text}

-- 0 where the requirement holds or its goal is reached, 1 where it doesn't or no run reaches it, 2 where it is undecided
abbrev pub status_of : Claim → ℕ
status_of (Satisfied k) = 0
status_of (Reached n) = 0
status_of (Violated n) = 1
status_of (Trapped n) = 1
status_of (Unreachable k) = 1
status_of (Depth k) = 2
status_of (Loop n) = 2
status_of (Lemmas b) = 2
status_of (Region x) = 2

-- ---- values

-- `FRONT PATH = V`
abbrev pub value_line : List ℕ → Cell → ℤ → List ℕ
value_line front c v = front ++ (c.path ++ (codes " = " ++ (signed_decimal v ++ codes "\n")))

-- one for each cell, in their order
abbrev pub value_lines : List ℕ → List Cell → List ℤ → List ℕ
value_lines front [] values = []
value_lines front (c ∷ cells) [] = []
value_lines front (c ∷ cells) (v ∷ values) = value_line front c v ++ value_lines front cells values

-- `image PATH = V` for each kept cell and each parameter
abbrev pub image_lines : List Cell → Option (List ℤ) → List ℕ
image_lines cells None = []
image_lines cells (Some values) = value_lines (codes "image ") (stored_cells cells) values

-- `in SCAN PATH = V` for each input cell, from the scan of this number on
abbrev pub scan_lines : List Cell → ℕ → List (List ℤ) → List ℕ
scan_lines cells scan [] = []
scan_lines cells scan (values ∷ more) =
    value_lines (codes "in " ++ (decimal scan ++ codes " ")) (input_cells cells) values
    ++ scan_lines cells (scan + 1) more

-- a run from the start: `param PATH = V` for each parameter that isn't bound, and the inputs
abbrev pub trace_lines : List Cell → Option Trace → List ℕ
trace_lines cells None = []
trace_lines cells (Some t) =
    value_lines (codes "param ") (free_cells cells) t.params ++ scan_lines cells 1 t.inputs

-- the mark of the scan before, which between alone looks at
abbrev pub mark_word : Option Bool → List ℕ
mark_word None = codes "none"
mark_word (Some false) = codes "0"
mark_word (Some true) = codes "1"

abbrev pub prev_line : PatternKind → Option Bool → List ℕ
prev_line kind.Invariant prev = []
prev_line kind.Forbidden prev = []
prev_line kind.Implication prev = []
prev_line kind.Within prev = []
prev_line kind.Between prev = codes "prev " ++ (mark_word prev ++ codes "\n")
prev_line kind.Reach prev = []

-- a stretch from an image: that mark, the image, and the inputs
abbrev pub state_lines : PatternKind → List Cell → Option Trace → List ℕ
state_lines kind cells None = []
state_lines kind cells (Some t) =
    prev_line kind t.prev ++ (image_lines cells t.image ++ scan_lines cells 1 t.inputs)

-- ---- endings and queries

abbrev pub ending_text : List Lines → Ending → List ℕ
ending_text files ending.Pattern = codes "pattern"
ending_text files (ending.Trap kind place) =
    codes "trap " ++ (trap_word kind ++ (codes " " ++ place_text files place))
ending_text files (ending.Over place) = codes "over " ++ place_text files place

abbrev pub ending_line : List ℕ → List Lines → Option Ending → List ℕ
ending_line front files None = []
ending_line front files (Some e) = front ++ (ending_text files e ++ codes "\n")

abbrev pub query_line : Option Query → List ℕ
query_line None = []
query_line (Some (Base k)) = codes "query base " ++ (decimal k ++ codes "\n")
query_line (Some (Step k)) = codes "query step " ++ (decimal k ++ codes "\n")

-- ---- the report

-- a line that a number ends
abbrev pub numbered : List ℕ → ℕ → List ℕ
numbered front n = front ++ (decimal n ++ codes "\n")

-- what is claimed, with the case's limits
abbrev pub claim_lines : Limits → Claim → List ℕ
claim_lines limits (Satisfied k) = numbered (codes "verdict satisfied\nk ") k
claim_lines limits (Unreachable k) = numbered (codes "verdict unreachable\nk ") k
claim_lines limits (Violated n) = numbered (codes "verdict violated\nscan ") n
claim_lines limits (Trapped n) = numbered (codes "verdict trapped\nscan ") n
claim_lines limits (Reached n) = numbered (codes "verdict reached\nscan ") n
claim_lines limits (Depth k) = numbered (codes "verdict undecided\nlimit depth ") limits.depth
claim_lines limits (Loop n) = numbered (codes "verdict undecided\nlimit loop ") limits.loop_bound
    ++ numbered (codes "scan ") n
claim_lines limits (Lemmas b) = numbered (codes "verdict undecided\nlimit lemmas ") limits.lemmas
claim_lines limits (Region x) =
    numbered (codes "verdict undecided\nlimit region ") limits.region_words
    ++ numbered (codes "need ") x

-- what stands behind the claim: an ending, a trace, a state or a query
abbrev pub shown_lines : PatternKind → List Cell → List Lines → Claim → Verdict → List ℕ
shown_lines kind cells files (Satisfied k) v = []
shown_lines kind cells files (Unreachable k) v = []
shown_lines kind cells files (Violated n) v = trace_lines cells v.trace
shown_lines kind cells files (Trapped n) v = ending_line [] files v.ending ++ trace_lines cells v.trace
shown_lines kind cells files (Reached n) v = trace_lines cells v.trace
shown_lines kind cells files (Depth k) v =
    ending_line (codes "cause ") files v.ending ++ state_lines kind cells v.trace
shown_lines kind cells files (Loop n) v = ending_line [] files v.ending ++ trace_lines cells v.trace
shown_lines kind cells files (Lemmas b) v = query_line v.query
shown_lines kind cells files (Region x) v = query_line v.query

-- the report of a case of this name, whose requirement is of this kind
abbrev pub report_text : List ℕ → PatternKind → Limits → List Cell → List Lines → Verdict → List ℕ
report_text name kind limits cells files v =
    head_text name kind ++ (claim_lines limits v.claim ++ shown_lines kind cells files v.claim v)
