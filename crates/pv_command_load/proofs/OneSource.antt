-- Bytes of a source say one thing: blocks, or why it is refused. So do the sources of a case, where the files tell what they hold.
use Rattle.std.proofs.Common.{◌≡◌, inl, inr, ℕ, ◌+◌, ◌<◌, ◌≤◌, List, [], ◌∷◌, length, Option, Some, None, refl, ap, sym, ◌∙◌, subst, arith}
use Rattle.std.proofs.lemmas.Option.{same_Some}
use Rattle.pv_place.specs.declared.place.Place.{Place}
use Rattle.pv_edge.specs.Files.{FileMap}
use Rattle.pv_lex.specs.declared.token.Token.{Token}
use Rattle.pv_lex.specs.declared.token.Language.{Language}
use Rattle.pv_lex.specs.declared.fault.FaultKind.{FaultKind}
use Rattle.pv_lex.specs.declared.lex.TheConstants.{MAX_SOURCE}
use Rattle.pv_lex.specs.Tokens.{AreTokens, IsFault}
use Rattle.pv_lex.proofs.ForCallers.{tokens-one, tokens-faultless, fault-one}
use Rattle.pv_tree.specs.Tree.{BlockTree}
use Rattle.pv_tree.specs.Lexemes.{lexemes_of}
use Rattle.pv_case.specs.Cases.{SourceData}
use Rattle.pv_laws_readings.specs.Judgements.{Judgement, Judged}
use Rattle.pv_laws_readings.specs.Judgements as j
use Rattle.pv_command_load.specs.Positions.{position_text}
use Rattle.pv_command_load.specs.Refusals.{SourceRefusal, too_large, lex, outside, syntax, deep}
use Rattle.pv_command_load.specs.Sources.{HasTokens, ReadsAs, RefusesSource, ReadSource, HoldsSource, HoldSources, AtOne, IsRefused}
use Rattle.pv_command_load.proofs.OneCase.{one_held, held_both}

-- a source is judged in one way
abbrev pub IsOneJudgement : Type 0
IsOneJudgement = (its : Language) (file : ℕ) (text : List ℕ) (tokens : List Token) (one other : Judgement) → AreTokens its file text tokens
    → Judged its (lexemes_of text tokens) one → Judged its (lexemes_of text tokens) other → one ≡ other

-- ---- what bytes say, by what decides it

data Saying : Type 0 where
  large : Saying
  no_token : FaultKind → ℕ → Saying
  judged : Judgement → Saying

record HasNone (number : ℕ) (source : SourceData) (bytes : List ℕ) (kind : FaultKind) (offset : ℕ) : Type 0 where
  short : length bytes ≤ MAX_SOURCE
  place : Place
  fault : IsFault source.language number bytes kind place
  at : place.offset ≡ offset

record IsJudged (number : ℕ) (source : SourceData) (bytes : List ℕ) (judgement : Judgement) : Type 0 where
  tokens : List Token
  cut : HasTokens number source bytes tokens
  is : Judged source.language (lexemes_of bytes tokens) judgement

abbrev Says : ℕ → SourceData → List ℕ → Saying → Type 0
Says number source bytes large = MAX_SOURCE < length bytes
Says number source bytes (no_token kind offset) = HasNone number source bytes kind offset
Says number source bytes (judged judgement) = IsJudged number source bytes judgement

not_long : (bytes : List ℕ) → MAX_SOURCE < length bytes → length bytes ≤ MAX_SOURCE → ⊥
not_long bytes more few = omega (arith, more, few)

module _ (one : IsOneJudgement) (number : ℕ) (source : SourceData) (bytes : List ℕ) where
  none_cut : (kind : FaultKind) (n : ℕ) (judgement : Judgement) → HasNone number source bytes kind n → IsJudged number source bytes judgement → ⊥
  none_cut kind n judgement r s = tokens-faultless source.language number bytes s.tokens kind r.place s.cut.cut r.fault

  one_none : (k l : FaultKind) (m n : ℕ) → HasNone number source bytes k m → HasNone number source bytes l n → no_token k m ≡ no_token l n
  one_none k l m n r s =
      let same = fault-one source.language number bytes k l r.place s.place r.fault s.fault in
      ap (λ z. no_token z m) same.0 ∙ ap (λ z. no_token l z) (sym r.at ∙ ap (λ z. z.offset) same.1 ∙ s.at)

  one_judged : (a b : Judgement) → IsJudged number source bytes a → IsJudged number source bytes b → a ≡ b
  one_judged a b r s =
      one source.language number bytes s.tokens a b s.cut.cut
      (subst (λ (z : List Token). Judged source.language (lexemes_of bytes z) a) (tokens-one source.language number bytes r.tokens s.tokens r.cut.cut s.cut.cut) r.is) s.is

  one_saying : (a b : Saying) → Says number source bytes a → Says number source bytes b → a ≡ b
  one_saying large large r s = refl
  one_saying large (no_token k n) r s = absurd (not_long bytes r s.short)
  one_saying large (judged b) r s = absurd (not_long bytes r s.cut.short)
  one_saying (no_token k n) large r s = absurd (not_long bytes s r.short)
  one_saying (no_token k n) (no_token l m) r s = one_none k l n m r s
  one_saying (no_token k n) (judged b) r s = absurd (none_cut k n b r s)
  one_saying (judged a) large r s = absurd (not_long bytes s r.cut.short)
  one_saying (judged a) (no_token k n) r s = absurd (none_cut k n a s r)
  one_saying (judged a) (judged b) r s = ap judged (one_judged a b r s)

-- ---- a reading and a refusal, each by what is said

abbrev blocks_by : Saying → Option (List BlockTree)
blocks_by (judged (j.read blocks)) = Some blocks
blocks_by _ = None

module _ (source : SourceData) (bytes : List ℕ) where
  abbrev at : ℕ → List ℕ
  at offset = position_text (record { file = source.file; bytes = bytes }) offset

  abbrev refusal_in : Judgement → Option SourceRefusal
  refusal_in (j.read blocks) = None
  refusal_in (j.outside word) = Some (outside word.bytes (at word.place.offset))
  refusal_in (j.syntax offset) = Some (syntax (at offset))
  refusal_in (j.deep offset) = Some (deep (at offset))

  abbrev refusal_by : Saying → Option SourceRefusal
  refusal_by large = Some too_large
  refusal_by (no_token kind offset) = Some (lex kind (at offset))
  refusal_by (judged judgement) = refusal_in judgement

record ByReading (number : ℕ) (source : SourceData) (bytes : List ℕ) (blocks : List BlockTree) : Type 0 where
  saying : Saying
  says : Says number source bytes saying
  blocks_are : blocks_by saying ≡ Some blocks
  unrefused : refusal_by source bytes saying ≡ None

by_reading : (number : ℕ) (source : SourceData) (bytes : List ℕ) (blocks : List BlockTree) → ReadsAs number source bytes blocks
    → ByReading number source bytes blocks
by_reading number source bytes blocks r = record {
  saying = judged (j.read blocks);
  says = record { tokens = r.tokens; cut = r.cut; is = r.read };
  blocks_are = refl;
  unrefused = refl;
}

record ByRefusal (number : ℕ) (source : SourceData) (bytes : List ℕ) (refusal : SourceRefusal) : Type 0 where
  saying : Saying
  says : Says number source bytes saying
  refused : refusal_by source bytes saying ≡ Some refusal

by_refusal : (number : ℕ) (source : SourceData) (bytes : List ℕ) (refusal : SourceRefusal) → RefusesSource number source bytes refusal
    → ByRefusal number source bytes refusal
by_refusal number source bytes too_large r = record { saying = large; says = r; refused = refl }
by_refusal number source bytes (lex kind text) r = record {
  saying = no_token kind r.place.offset;
  says = record { short = r.short; place = r.place; fault = r.fault; at = refl };
  refused = ap (λ z. Some (lex kind z)) (sym r.is_there);
}
by_refusal number source bytes (outside word text) r = record {
  saying = judged (j.outside r.token);
  says = record { tokens = r.tokens; cut = r.cut; is = r.first };
  refused = ap (λ z. Some (outside z (at source bytes r.token.place.offset))) (sym r.spelled) ∙ ap (λ z. Some (outside word z)) (sym r.is_there);
}
by_refusal number source bytes (syntax text) r = record {
  saying = judged (j.syntax r.place.offset);
  says = record { tokens = r.tokens; cut = r.cut; is = (r.place, r.fault, refl) };
  refused = ap (λ z. Some (syntax z)) (sym r.is_there);
}
by_refusal number source bytes (deep text) r = record {
  saying = judged (j.deep r.place.offset);
  says = record { tokens = r.tokens; cut = r.cut; is = (r.place, r.fault, refl) };
  refused = ap (λ z. Some (deep z)) (sym r.is_there);
}

module _ (one : IsOneJudgement) (number : ℕ) (source : SourceData) (bytes : List ℕ) where
  one_reading : (a b : List BlockTree) → ReadsAs number source bytes a → ReadsAs number source bytes b → a ≡ b
  one_reading a b r s =
      let x = by_reading number source bytes a r in
      let y = by_reading number source bytes b s in
      same_Some a b (sym x.blocks_are ∙ ap blocks_by (one_saying one number source bytes x.saying y.saying x.says y.says) ∙ y.blocks_are)

  one_refusal : (a b : SourceRefusal) → RefusesSource number source bytes a → RefusesSource number source bytes b → a ≡ b
  one_refusal a b r s =
      let x = by_refusal number source bytes a r in
      let y = by_refusal number source bytes b s in
      same_Some a b (sym x.refused ∙ ap (refusal_by source bytes) (one_saying one number source bytes x.saying y.saying x.says y.says) ∙ y.refused)

  read_apart : (a : List BlockTree) (b : SourceRefusal) → ReadsAs number source bytes a → RefusesSource number source bytes b → ⊥
  read_apart a b r s =
      let x = by_reading number source bytes a r in
      let y = by_refusal number source bytes b s in
      let no : ◌≡◌ {A = Option SourceRefusal} None (Some b) = sym x.unrefused ∙ ap (refusal_by source bytes)
      (one_saying one number source bytes x.saying y.saying x.says y.says) ∙ y.refused in
      absurd cc

-- ---- all sources

module _ (one : IsOneJudgement) (files : FileMap) where
  pub one_source : (number : ℕ) (source : SourceData) (a b : ReadSource) → HoldsSource (Some files) number source a → HoldsSource (Some files) number source b
      → a ≡ b
  one_source number source a b r s =
      let bytes : a.text.bytes ≡ b.text.bytes = one_held files source.file a.text.bytes b.text.bytes r.held s.held in
      let blocks : a.blocks ≡ b.blocks = one_reading one number source b.text.bytes a.blocks b.blocks (subst (λ z. ReadsAs number source z a.blocks) bytes r.reads) s.reads in
      ap (λ z. record { text = record { file = z; bytes = a.text.bytes }; blocks = a.blocks }) (r.named ∙ sym s.named)
      ∙ ap (λ z. record { text = record { file = b.text.file; bytes = z }; blocks = a.blocks }) bytes
      ∙ ap (λ z. record { text = b.text; blocks = z }) blocks

  pub source_apart : (number : ℕ) (source : SourceData) (a : ReadSource) (b : SourceRefusal) → HoldsSource (Some files) number source a
      → IsRefused (Some files) b number source → ⊥
  source_apart number source a b r s =
      read_apart one number source a.text.bytes a.blocks b r.reads
      (subst (λ z. RefusesSource number source z b) (one_held files source.file s.bytes a.text.bytes s.held r.held) s.are)

  pub refused_once : (number : ℕ) (source : SourceData) (a b : SourceRefusal) → IsRefused (Some files) a number source → IsRefused (Some files) b number source
      → a ≡ b
  refused_once number source a b r s = one_refusal one number source r.bytes a b r.are (held_both files source.file r s)

  pub one_list : (number : ℕ) (sources : List SourceData) (a b : List ReadSource) → HoldSources (Some files) number sources a
      → HoldSources (Some files) number sources b → a ≡ b
  one_list number [] [] [] r s = refl
  one_list number [] [] (y ∷ b) r s = absurd s
  one_list number [] (x ∷ a) b r s = absurd r
  one_list number (source ∷ more) [] b r s = absurd r
  one_list number (source ∷ more) (x ∷ a) [] r s = absurd s
  one_list number (source ∷ more) (x ∷ a) (y ∷ b) r s =
      ap (λ z. z ∷ a) (one_source number source x y r.0 s.0) ∙ ap (λ z. y ∷ z) (one_list (number + 1) more a b r.1 s.1)

  pub one_at : (number : ℕ) (sources : List SourceData) (a b : SourceRefusal) → AtOne (IsRefused (Some files) a) (Some files) number sources
      → AtOne (IsRefused (Some files) b) (Some files) number sources → a ≡ b
  one_at number [] a b r s = absurd r
  one_at number (source ∷ more) a b (inl r) (inl s) = refused_once number source a b r s
  one_at number (source ∷ more) a b (inl r) (inr s) = absurd (source_apart number source s.0.0 a s.0.1 r)
  one_at number (source ∷ more) a b (inr r) (inl s) = absurd (source_apart number source r.0.0 b r.0.1 s)
  one_at number (source ∷ more) a b (inr r) (inr s) = one_at (number + 1) more a b r.1 s.1

  pub list_apart : (number : ℕ) (sources : List SourceData) (a : List ReadSource) (b : SourceRefusal) → HoldSources (Some files) number sources a
      → AtOne (IsRefused (Some files) b) (Some files) number sources → ⊥
  list_apart number [] a b r s = s
  list_apart number (source ∷ more) [] b r s = r
  list_apart number (source ∷ more) (x ∷ a) b r (inl s) = source_apart number source x b r.0 s
  list_apart number (source ∷ more) (x ∷ a) b r (inr s) = list_apart (number + 1) more a b r.1 s.1
