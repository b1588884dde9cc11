-- The sources that a case's files hold lie where laws on places have them, and a breach lies in one of them.
use Rattle.std.proofs.Common.{◌≡◌, ℕ, zero, suc, ◌+◌, ◌≤◌, List, [], ◌∷◌, ◌++◌, length, map, Option, Some, refl, sym, ap, subst, ◌∙◌, slice_get}
use Rattle.std.specs.Prelude.{flat_map, IsSomeAnd}
use Rattle.std.proofs.lemmas.Option.{none-some, same_Some}
use Rattle.pv_place.specs.declared.place.Place.{Place}
use Rattle.pv_edge.specs.Files.{FileMap}
use Rattle.pv_tree.specs.Tree.{BlockTree}
use Rattle.pv_tree.specs.View.{block_trees}
use Rattle.pv_tree.specs.Scopes.{SymbolTree, ProjectTree}
use Rattle.pv_tree.specs.Rules.{Rule, Breaks}
use Rattle.pv_case.specs.Cases.{SourceData}
use Rattle.pv_laws_places.specs.Texts.{LiesInOne}
use Rattle.pv_laws_places.specs.Sources as sources
use Rattle.pv_laws_places.specs.Sources.{SourceRead, AreOfTexts}
use Rattle.pv_laws_places.proofs.ForCallers.{sources-lie, broken-at}
use Rattle.pv_command_load.specs.declared.position.SourceText.{SourceText}
use Rattle.pv_command_load.specs.declared.sources.Sources.{Sources}
use Rattle.pv_command_load.specs.Positions.{FileText, LiesAmong}
use Rattle.pv_command_load.specs.Sources.{ReadSource, HoldSources}
use Rattle.pv_command_load.specs.Subjects.{Given, texts_of, blocks_of, symbol_of}
use Rattle.pv_command_load.specs.Stops.{text_tree}
use Rattle.pv_command_load.specs.Gathered.{HasSources}
use Rattle.pv_command_load.specs.ReadTexts.{AreRead}
use Rattle.pv_command_load.specs.Correct.{BreachesLie}

-- ---- sources that files hold are read

-- the sources of a case with what they are read as
abbrev sources_read : List SourceData → List ReadSource → List SourceRead
sources_read [] read = []
sources_read (source ∷ more) [] = []
sources_read (source ∷ more) (read ∷ others) =
    record { language = source.language; text = read.text.bytes; blocks = read.blocks } ∷ sources_read more others

of_texts : (told : Option FileMap) (number : ℕ) (list : List SourceData) (read : List ReadSource) → HoldSources told number list read
    → AreOfTexts number (sources_read list read)
of_texts told number [] [] h = tt
of_texts told number [] (read ∷ others) h = absurd h
of_texts told number (source ∷ more) [] h = absurd h
of_texts told number (source ∷ more) (read ∷ others) h = (
  record { tokens = h.0.reads.tokens; cut = h.0.reads.cut.cut; read = h.0.reads.read },
  of_texts told (number + 1) more others h.1,
)

same_texts : (told : Option FileMap) (number : ℕ) (list : List SourceData) (read : List ReadSource) → HoldSources told number list read
    → map (λ (t : FileText). t.bytes) (map (λ (s : ReadSource). s.text) read) ≡ sources.texts_of (sources_read list read)
same_texts told number [] [] h = refl
same_texts told number [] (read ∷ others) h = absurd h
same_texts told number (source ∷ more) [] h = absurd h
same_texts told number (source ∷ more) (read ∷ others) h =
    ap (λ (l : List (List ℕ)). read.text.bytes ∷ l) (same_texts told (number + 1) more others h.1)

same_blocks : (told : Option FileMap) (number : ℕ) (list : List SourceData) (read : List ReadSource) → HoldSources told number list read
    → flat_map (λ (s : ReadSource). s.blocks) read ≡ flat_map (λ (s : SourceRead). s.blocks) (sources_read list read)
same_blocks told number [] [] h = refl
same_blocks told number [] (read ∷ others) h = absurd h
same_blocks told number (source ∷ more) [] h = absurd h
same_blocks told number (source ∷ more) (read ∷ others) h =
    ap (λ (l : List BlockTree). read.blocks ++ l) (same_blocks told (number + 1) more others h.1)

pub held_read : (told : Option FileMap) (list : List SourceData) (read : List ReadSource) → HoldSources told 0 list read
    → AreRead (map (λ (s : ReadSource). s.text) read) (flat_map (λ (s : ReadSource). s.blocks) read)
held_read told list read held = record {
  read = sources_read list read;
  are = of_texts told 0 list read held;
  of_texts = same_texts told 0 list read held;
  of_blocks = same_blocks told 0 list read held;
}

-- as the code has them
pub are_read : (told : Option FileMap) (list : List SourceData) (kept : Sources) (texts : List SourceText) → texts ≡ kept.texts.items
    → HasSources told list kept → AreRead (map text_tree texts) (block_trees kept.blocks.list.items)
are_read told list kept texts same has =
    subst (λ (t : List FileText). AreRead t (block_trees kept.blocks.list.items)) (sym (ap (map text_tree) same ∙ has.texts))
    (subst (AreRead (map (λ (s : ReadSource). s.text) has.read)) (sym has.blocks) (held_read told list has.read has.held))

-- ---- places in one of them

pub among : (texts : List FileText) (place : Place) → LiesInOne (map (λ (t : FileText). t.bytes) texts) place → LiesAmong texts place
among texts place lies = go texts place.file lies.is_one
  where
    go : (list : List FileText) (k : ℕ) → slice_get (map (λ (t : FileText). t.bytes) list) k ≡ Some lies.text
        → IsSomeAnd (slice_get list k) (λ (t : FileText). place.offset ≤ length t.bytes)
    go [] k e = none-some lies.text e
    go (t ∷ list) zero e = subst (λ (l : List ℕ). place.offset ≤ length l) (sym (same_Some t.bytes lies.text e)) lies.within
    go (t ∷ list) (suc k) e = go list k e

-- a rule that blocks of sources break is broken at a place in one of these
pub breach_lies : (texts : List FileText) (blocks : List BlockTree) (symbols : List SymbolTree) (rule : Rule) (place : Place)
    → AreRead texts blocks → Breaks rule (record { blocks = blocks; symbols = symbols }) place → LiesAmong texts place
breach_lies texts blocks symbols rule place is broken =
    let its : List BlockTree → ProjectTree = λ b. record { blocks = b; symbols = symbols } in
    let one : LiesInOne (sources.texts_of is.read) place =
    broken-at (LiesInOne (sources.texts_of is.read)) rule (sources.project_of is.read symbols) place (sources-lie is.read is.are)
    (subst (λ (b : List BlockTree). Breaks rule (its b) place) is.of_blocks broken) in
    among texts place (subst (λ (l : List (List ℕ)). LiesInOne l place) (sym is.of_texts) one)

pub breaches_lie : (told : Option FileMap) (file : List ℕ) (given : Given) → BreachesLie told file given
breaches_lie told file given = λ rule place reads broken.
    let read = held_read told given.case.sources given.sources reads.sources_held in
    breach_lies (texts_of given) (blocks_of given) (map symbol_of given.case.symbols) rule place read broken
