-- The head of a certificate: the line of the format's version, and the line of its verdict, one for each claim.
use Rattle.std.specs.Prelude.{ℕ, ◌^◌, ◌<◌, List, [], ◌∷◌, ◌++◌, codes}
use Rattle.std.specs.Fmt.{decimal}
use Rattle.pv_claims.specs.declared.claim.Claim.{Claim}
use Rattle.pv_claims.specs.declared.claim.Claim.TheVariants.{Satisfied, Unreachable, Violated, Trapped, Reached, Depth, Loop, Lemmas, Region}

-- the words of a claim
abbrev pub claim_text : Claim → List ℕ
claim_text (Satisfied k) = codes "satisfied " ++ decimal k
claim_text (Unreachable k) = codes "unreachable " ++ decimal k
claim_text (Violated n) = codes "violated " ++ decimal n
claim_text (Trapped n) = codes "trapped " ++ decimal n
claim_text (Reached n) = codes "reached " ++ decimal n
claim_text (Depth k) = codes "depth " ++ decimal k
claim_text (Loop n) = codes "loop " ++ decimal n
claim_text (Lemmas b) = codes "lemmas " ++ decimal b
claim_text (Region x) = codes "region " ++ decimal x

-- the line of a verdict
abbrev pub verdict_line : Claim → List ℕ
verdict_line claim = codes "verdict " ++ claim_text claim

-- the lines before the trace part
abbrev pub head_lines : Claim → List (List ℕ)
head_lines claim = codes "PLCVCERT 1" ∷ verdict_line claim ∷ []

-- a region has 64 bits, and the number of any other claim 32
abbrev pub ClaimFits : Claim → Type 0
ClaimFits (Satisfied k) = k < 2 ^ 32
ClaimFits (Unreachable k) = k < 2 ^ 32
ClaimFits (Violated n) = n < 2 ^ 32
ClaimFits (Trapped n) = n < 2 ^ 32
ClaimFits (Reached n) = n < 2 ^ 32
ClaimFits (Depth k) = k < 2 ^ 32
ClaimFits (Loop n) = n < 2 ^ 32
ClaimFits (Lemmas b) = b < 2 ^ 32
ClaimFits (Region x) = x < 2 ^ 64
