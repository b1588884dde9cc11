-- The number of a line, told by the bytes that are left at its beginning.
use Rattle.std.proofs.Common.{◌≡◌, ℕ, ◌+◌, ◌<◌, List, [], ◌∷◌, ◌++◌, length, append_assoc, append-nil, length-append, refl, ap, ◌∙◌, sym, arith}
use Rattle.std.specs.List.{AllByRecursion}
use Rattle.pv_claims.specs.Lines.{text_of_lines, NoFeed}
use Rattle.pv_claims.proofs.ForCallers.{onto, cut-one, no-feed}

-- where some lines of a front are passed
pub record Passed (before : List (List ℕ)) (behind rest : List ℕ) (line : ℕ) : Type 0 where
  pub done : List (List ℕ)
  pub more : List (List ℕ)
  pub lines : before ≡ done ++ more
  pub whole : AllByRecursion NoFeed more
  pub left : rest ≡ text_of_lines more ++ behind
  pub number : line ≡ length done + 1

-- so it is of each front behind which so many bytes are left
pub record Standing (text : List ℕ) (left : ℕ) (rest : List ℕ) (line : ℕ) : Type 0 where
  pub passed : (before : List (List ℕ)) (behind : List ℕ) → text ≡ text_of_lines before ++ behind → AllByRecursion NoFeed before → left ≡ length behind → Passed before behind rest line

pub standing-first : (text : List ℕ) (left : ℕ) → Standing text left text 1
standing-first text left = record { passed = λ before behind split whole size. record { done = []; more = before; lines = refl; whole = whole; left = split; number = refl } }

-- a front with lines to come is longer
longer : (m : List ℕ) (ms : List (List ℕ)) (behind rest : List ℕ) → rest ≡ text_of_lines (m ∷ ms) ++ behind → length behind < length rest
longer m ms behind rest e =
    let all = ap length (e ∙ onto m (text_of_lines ms) behind) in
    let one = length-append m (10 ∷ (text_of_lines ms ++ behind)) in
    let two = length-append (text_of_lines ms) behind in
    omega (arith, all, one, two)

pub standing-next : (text : List ℕ) (left : ℕ) (rest cut after : List ℕ) (line : ℕ) → Standing text left rest line → left < length rest → NoFeed cut → rest ≡ cut ++ 10 ∷ after → Standing text left after (line + 1)
standing-next text left rest cut after line s lt plain e = record { passed = λ before behind split whole size. go before behind size (s.passed before behind split whole size) }
  where
    step : (before : List (List ℕ)) (behind : List ℕ) → left ≡ length behind → (done more : List (List ℕ)) → before ≡ done ++ more → AllByRecursion NoFeed more → rest ≡ text_of_lines more ++ behind → line ≡ length done + 1
        → Passed before behind after (line + 1)
    step before behind size done [] lines whole is number = absurd (let same = ap length is in omega (arith, lt, size, same))
    step before behind size done (m ∷ ms) lines whole is number =
        let same = cut-one cut m after (text_of_lines ms ++ behind) plain whole.0 (sym e ∙ is ∙ onto m (text_of_lines ms) behind) in
        let long = length-append done (m ∷ []) in
        record {
          done = done ++ m ∷ [];
          more = ms;
          lines = lines ∙ sym (append_assoc done (m ∷ []) ms);
          whole = whole.1;
          left = same.1;
          number = omega (arith, number, long);
        }

    go : (before : List (List ℕ)) (behind : List ℕ) → left ≡ length behind → Passed before behind rest line → Passed before behind after (line + 1)
    go before behind size p = step before behind size p.done p.more p.lines p.whole p.left p.number

-- so many bytes are left
pub standing-last : (text : List ℕ) (left : ℕ) (rest : List ℕ) (line : ℕ) → Standing text left rest line → (left < length rest → ⊥)
    → (before : List (List ℕ)) (behind : List ℕ) → text ≡ text_of_lines before ++ behind → AllByRecursion NoFeed before → left ≡ length behind → line ≡ length before + 1
standing-last text left rest line s less before behind split whole size = (let p = s.passed before behind split whole size in go p.done p.more p.lines p.left p.number)
  where
    go : (done more : List (List ℕ)) → before ≡ done ++ more → rest ≡ text_of_lines more ++ behind → line ≡ length done + 1 → line ≡ length before + 1
    go done [] lines is number = (let same = ap length (lines ∙ append-nil done) in omega (arith, number, same))
    go done (m ∷ ms) lines is number = absurd (less (let more = longer m ms behind rest is in omega (arith, size, more)))

-- with more bytes left there is a whole line
pub standing-on : (text : List ℕ) (left : ℕ) (rest : List ℕ) (line : ℕ) → Standing text left rest line → left < length rest → NoFeed rest
    → (before : List (List ℕ)) (behind : List ℕ) → text ≡ text_of_lines before ++ behind → AllByRecursion NoFeed before → left ≡ length behind → line ≡ length before + 1
standing-on text left rest line s lt plain before behind split whole size = (let p = s.passed before behind split whole size in absurd (go p.more p.left))
  where
    go : (more : List (List ℕ)) → rest ≡ text_of_lines more ++ behind → ⊥
    go [] is = (let same = ap length is in omega (arith, lt, size, same))
    go (m ∷ ms) is = no-feed rest m (text_of_lines ms ++ behind) plain (is ∙ onto m (text_of_lines ms) behind)
