-- The words of a command, and that what they come to is that command's.
use Rattle.std.proofs.Common.{◌≡◌, List, [], ◌∷◌, length, map, get_or, ap, sym, subst, ◌∙◌, inl, inr, arith, ℕ, String, string_bytes, Option, Some, None, Result}
use Rattle.std.specs.Prelude.{codes, IfNone}
use Rattle.std.specs.declared.alloc.Global.{Global}
use Rattle.pv_edge.specs.Files.{FileMap}
use Rattle.pv_command_check.specs.declared.check.Checked.{Checked}
use Rattle.pv_command_check.specs.declared.stop.CheckStop.{CheckStop}
use Rattle.pv_command_check.specs.Checks.{SaysCheck}
use Rattle.pv_command_show.specs.Handed.{Replayed, ReplayStop, SaysReplay}
use Rattle.pv_command_recheck.specs.declared.recheck.Rechecked.{Rechecked}
use Rattle.pv_command_recheck.specs.declared.stop.RecheckStop.{RecheckStop}
use Rattle.pv_command_recheck.specs.Rechecks.{SaysRecheck}
use Rattle.pv_command_show.specs.declared.show.Shown.{Shown}
use Rattle.pv_command_show.specs.Shows.{SaysShow}
use Rattle.pv_top.specs.declared.outcome.Outcome.{Outcome}
use Rattle.pv_top.specs.declared.outcome.Outcome.TheVariants.{NoCommand, Check, Replay, Recheck, Show}
use Rattle.pv_top.specs.declared.words.Command.{Command}
use Rattle.pv_top.specs.Words.{IsCheck, AreOfCheck, AreOfTwo, IsCommand, IsReplay, IsRecheck, IsShow}
use Rattle.pv_top.specs.Calls.{Says}

-- ---- words one by one

-- two words of which the first is this one
pub two : (first : List ℕ) (words : List (String Global)) (verb case : String Global) → length words ≡ 2
    → verb ≡ get_or words 0 verb → case ≡ get_or words 1 case → string_bytes verb ≡ first
    → map string_bytes words ≡ first ∷ string_bytes case ∷ []
two first [] verb case len v c is = absurd (omega arith)
two first (x ∷ []) verb case len v c is = absurd (omega arith)
two first (x ∷ y ∷ []) verb case len v c is =
    ap (λ w. w ∷ string_bytes y ∷ []) (ap string_bytes (sym v) ∙ is)
    ∙ ap (λ w. first ∷ w ∷ []) (ap string_bytes (sym c))
two first (x ∷ y ∷ z ∷ more) verb case len v c is = absurd (omega arith)

-- three words of which the first is this one
pub three : (first : List ℕ) (words : List (String Global)) (verb case trace : String Global) → length words ≡ 3
    → verb ≡ get_or words 0 verb → case ≡ get_or words 1 case → trace ≡ get_or words 2 trace → string_bytes verb ≡ first
    → map string_bytes words ≡ first ∷ string_bytes case ∷ string_bytes trace ∷ []
three first [] verb case trace len v c t is = absurd (omega arith)
three first (x ∷ []) verb case trace len v c t is = absurd (omega arith)
three first (x ∷ y ∷ []) verb case trace len v c t is = absurd (omega arith)
three first (x ∷ y ∷ z ∷ []) verb case trace len v c t is =
    ap (λ w. w ∷ string_bytes y ∷ string_bytes z ∷ []) (ap string_bytes (sym v) ∙ is)
    ∙ ap (λ w. first ∷ w ∷ string_bytes z ∷ []) (ap string_bytes (sym c))
    ∙ ap (λ w. first ∷ string_bytes case ∷ w ∷ []) (ap string_bytes (sym t))
three first (x ∷ y ∷ z ∷ w ∷ more) verb case trace len v c t is = absurd (omega arith)

-- the first words have one length
pub same_length : (words : List (List ℕ)) (a b : List ℕ) (rest more : List (List ℕ)) → words ≡ a ∷ rest → words ≡ b ∷ more
    → length a ≡ length b
same_length words a b rest more is also = ap (λ (ws : List (List ℕ)). length (get_or ws 0 [])) (sym is ∙ also)

pub second_word : (words : List (List ℕ)) (verb x z : List ℕ) (rest more : List (List ℕ)) → words ≡ verb ∷ x ∷ rest
    → words ≡ verb ∷ z ∷ more → x ≡ z
second_word words verb x z rest more is also = ap (λ (ws : List (List ℕ)). get_or ws 1 []) (sym is ∙ also)

pub third_word : (words : List (List ℕ)) (verb x y z w : List ℕ) → words ≡ verb ∷ x ∷ y ∷ [] → words ≡ verb ∷ z ∷ w ∷ [] → y ≡ w
third_word words verb x y z w is also = ap (λ (ws : List (List ℕ)). get_or ws 2 []) (sym is ∙ also)

-- words that are neither those of a check nor of a command with two files are no command's
pub none_of_both : (words : List (List ℕ)) (result : Option Command) → IfNone result (AreOfTwo words → ⊥) → (AreOfCheck words → ⊥)
    → IfNone result (IsCommand words → ⊥)
none_of_both words (Some command) others other = tt
none_of_both words None others other = λ is. elim is [ inl h ↦ other h | inr h ↦ others h ]

-- ---- two commands

pub check_recheck : (words : List (List ℕ)) (x z w : List ℕ) → IsCheck words x → IsRecheck words z w → ⊥
check_recheck words x z w is also =
    let e : 5 ≡ 7 = same_length words (codes "check") (codes "recheck") (x ∷ []) (z ∷ w ∷ []) is also in omega (arith, e)

pub check_replay : (words : List (List ℕ)) (x z w : List ℕ) → IsCheck words x → IsReplay words z w → ⊥
check_replay words x z w is also =
    let e : 5 ≡ 6 = same_length words (codes "check") (codes "replay") (x ∷ []) (z ∷ w ∷ []) is also in omega (arith, e)

pub check_show : (words : List (List ℕ)) (x z w : List ℕ) → IsCheck words x → IsShow words z w → ⊥
check_show words x z w is also =
    let e : 5 ≡ 4 = same_length words (codes "check") (codes "show") (x ∷ []) (z ∷ w ∷ []) is also in omega (arith, e)

pub replay_recheck : (words : List (List ℕ)) (x y z w : List ℕ) → IsReplay words x y → IsRecheck words z w → ⊥
replay_recheck words x y z w is also =
    let e : 6 ≡ 7 = same_length words (codes "replay") (codes "recheck") (x ∷ y ∷ []) (z ∷ w ∷ []) is also in omega (arith, e)

pub replay_show : (words : List (List ℕ)) (x y z w : List ℕ) → IsReplay words x y → IsShow words z w → ⊥
replay_show words x y z w is also =
    let e : 6 ≡ 4 = same_length words (codes "replay") (codes "show") (x ∷ y ∷ []) (z ∷ w ∷ []) is also in omega (arith, e)

pub recheck_show : (words : List (List ℕ)) (x y z w : List ℕ) → IsRecheck words x y → IsShow words z w → ⊥
recheck_show words x y z w is also =
    let e : 7 ≡ 4 = same_length words (codes "recheck") (codes "show") (x ∷ y ∷ []) (z ∷ w ∷ []) is also in omega (arith, e)

-- ---- what a command's words come to is that command's, and so of the files that they name

module _ (told : Option FileMap) (words : List (List ℕ)) (P : Outcome → Type 0) where
  pub of_check : (x : List ℕ) (outcome : Outcome) → IsCheck words x → Says told words outcome
      → ((result : Result Checked CheckStop) → SaysCheck told x result → P (Check result)) → P outcome
  of_check x NoCommand is says made = absurd (says (inl (x, is)))
  of_check x (Check result) is says made =
      made result (subst (λ f. SaysCheck told f result) (second_word words (codes "check") says.0 x [] [] says.1 is) says.2)
  of_check x (Replay result) is says made = absurd (check_replay words x says.0 says.1 is says.2)
  of_check x (Recheck result) is says made = absurd (check_recheck words x says.0 says.1 is says.2)
  of_check x (Show result) is says made = absurd (check_show words x says.0 says.1 is says.2)

  pub of_replay : (x y : List ℕ) (outcome : Outcome) → IsReplay words x y → Says told words outcome
      → ((result : Result Replayed ReplayStop) → SaysReplay told x y result → P (Replay result)) → P outcome
  of_replay x y NoCommand is says made = absurd (says (inr (x, y, inl is)))
  of_replay x y (Check result) is says made = absurd (check_replay words says.0 x y says.1 is)
  of_replay x y (Replay result) is says made =
      let F : List ℕ → Type 0 = λ f. SaysReplay told f says.1 result in
      let G : List ℕ → Type 0 = λ f. SaysReplay told x f result in
      made result (subst G (third_word words (codes "replay") says.0 says.1 x y says.2 is)
      (subst F (second_word words (codes "replay") says.0 x (says.1 ∷ []) (y ∷ []) says.2 is) says.3))
  of_replay x y (Recheck result) is says made = absurd (replay_recheck words x y says.0 says.1 is says.2)
  of_replay x y (Show result) is says made = absurd (replay_show words x y says.0 says.1 is says.2)

  pub of_recheck : (x y : List ℕ) (outcome : Outcome) → IsRecheck words x y → Says told words outcome
      → ((result : Result Rechecked RecheckStop) → SaysRecheck told x y result → P (Recheck result)) → P outcome
  of_recheck x y NoCommand is says made = absurd (says (inr (x, y, inr (inl is))))
  of_recheck x y (Check result) is says made = absurd (check_recheck words says.0 x y says.1 is)
  of_recheck x y (Replay result) is says made = absurd (replay_recheck words says.0 says.1 x y says.2 is)
  of_recheck x y (Recheck result) is says made =
      let F : List ℕ → Type 0 = λ f. SaysRecheck told f says.1 result in
      let G : List ℕ → Type 0 = λ f. SaysRecheck told x f result in
      made result (subst G (third_word words (codes "recheck") says.0 says.1 x y says.2 is)
      (subst F (second_word words (codes "recheck") says.0 x (says.1 ∷ []) (y ∷ []) says.2 is) says.3))
  of_recheck x y (Show result) is says made = absurd (recheck_show words x y says.0 says.1 is says.2)

  pub of_show : (x y : List ℕ) (outcome : Outcome) → IsShow words x y → Says told words outcome
      → ((result : Result Shown ReplayStop) → SaysShow told x y result → P (Show result)) → P outcome
  of_show x y NoCommand is says made = absurd (says (inr (x, y, inr (inr is))))
  of_show x y (Check result) is says made = absurd (check_show words says.0 x y says.1 is)
  of_show x y (Replay result) is says made = absurd (replay_show words says.0 says.1 x y says.2 is)
  of_show x y (Recheck result) is says made = absurd (recheck_show words says.0 says.1 x y says.2 is)
  of_show x y (Show result) is says made =
      let F : List ℕ → Type 0 = λ f. SaysShow told f says.1 result in
      let G : List ℕ → Type 0 = λ f. SaysShow told x f result in
      made result (subst G (third_word words (codes "show") says.0 says.1 x y says.2 is)
      (subst F (second_word words (codes "show") says.0 x (says.1 ∷ []) (y ∷ []) says.2 is) says.3))
