-- What the promises of a run exclude.
use Rattle.std.proofs.Common.{◌≡◌, ◌<◌, inl, inr, ℕ, suc, List, [], ◌∷◌, length, sym, ap, ◌∙◌, arith, Result}
use Rattle.std.specs.Prelude.{codes}
use Rattle.pv_edge.specs.Faults.{HasRisen, last_count}
use Rattle.pv_edge.specs.declared.outside.SinkFault.{SinkFault}
use Rattle.pv_command_check.specs.Decided.{HasVerdict}
use Rattle.pv_top.specs.Words.{IsCommand}
use Rattle.pv_top.specs.Calls.{Call, IsSettled}
use Rattle.pv_top.specs.Promises.{Promises}
use Rattle.pv_contracts_commands.specs.Excluded.{NothingFailed, NoWordsAreRefused, CommandsAreNotRefused, FaultsKeepNothing}

-- no word, and some
none-some-words : (words : List (List ℕ)) (word : List ℕ) (more : List (List ℕ)) → words ≡ [] → words ≡ word ∷ more → ⊥
none-some-words words word more none is = let e : 0 ≡ suc (length more) = ap length (sym none ∙ is) in omega (arith, e)

no-command : (words : List (List ℕ)) → words ≡ [] → IsCommand words → ⊥
no-command words none (inl h) = none-some-words words (codes "check") _ none h.1
no-command words none (inr h) = elim h.2 [
  | inl r ↦ none-some-words words (codes "replay") _ none r
  | inr other ↦ elim other [
    | inl c ↦ none-some-words words (codes "recheck") _ none c
    | inr s ↦ none-some-words words (codes "show") _ none s
  ]
]

-- a count that is as before and not at its end hasn't risen
quiet : (before after : ℕ) → after ≡ before → before < last_count → HasRisen before after → ⊥
quiet before after same left risen =
    let rose : before < after = risen (omega (arith, same, left)) in omega (arith, same, rose)

pub no_words : {S : Type 0} (sink_call : List ℕ → Result ℕ SinkFault → S → S → Type 0) → NoWordsAreRefused sink_call
no_words sink_call call h none idle roomy = (h.no_command settled).1 (no-command call.words none)
  where
    settled : IsSettled call.status
    settled = record {
      readable = λ e. quiet call.reads call.reads_after idle.reads idle.reads_left (h.unread e);
      written = λ e. elim (h.unwritten e) [
        | inl writes ↦ quiet call.writes call.writes_after idle.writes idle.writes_left writes
        | inr sink ↦ quiet call.sink call.sink_after idle.sink idle.sink_left sink
      ];
      roomy = roomy;
    }

pub commands : {S : Type 0} (sink_call : List ℕ → Result ℕ SinkFault → S → S → Type 0) → CommandsAreNotRefused sink_call
commands sink_call call h is five = (h.no_command settled).0 five is
  where
    settled : IsSettled call.status
    settled = record {
      readable = λ e. omega (arith, five, e);
      written = λ e. omega (arith, five, e);
      roomy = λ e. omega (arith, five, e);
    }

no-verdict : (status : ℕ) → status ≡ 7 → HasVerdict status → ⊥
no-verdict status seven (inl e) = omega (arith, seven, e)
no-verdict status seven (inr (inl e)) = omega (arith, seven, e)
no-verdict status seven (inr (inr e)) = omega (arith, seven, e)

pub faults : {S : Type 0} (sink_call : List ℕ → Result ℕ SinkFault → S → S → Type 0) → FaultsKeepNothing sink_call
faults sink_call call case_file h is seven =
    elim ((h.check case_file is).chain (λ v. no-verdict call.status seven v)) [
      | inl stays ↦ stays
      | inr chain ↦ absurd (omega (arith, seven, chain.0))
    ]
