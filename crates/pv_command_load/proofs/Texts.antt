-- What texts have and no rule says, of the sources that a case's files hold.
use Rattle.std.proofs.Common.{ℕ, List, map, Option, Contains, sym, ap, subst}
use Rattle.pv_edge.specs.Files.{FileMap}
use Rattle.pv_tree.specs.Tree.{InstrTree, BlockTree}
use Rattle.pv_tree.specs.Scopes.{ProjectTree}
use Rattle.pv_tree.specs.Lexemes.{Lexeme}
use Rattle.pv_tree.specs.Instructions.{SpellsInstr}
use Rattle.pv_tree.specs.Parts.{instructions_of}
use Rattle.pv_laws_room.specs.Reached.{AreShort}
use Rattle.pv_laws_spelled.proofs.ForCallers.{sources-short, sources-spelled}
use Rattle.pv_command_load.specs.Subjects.{Given, blocks_of, symbol_of, project_of}
use Rattle.pv_command_load.specs.Reads.{ReadsSources}
use Rattle.pv_command_load.proofs.Located.{held_read}

abbrev its : Given → List BlockTree → ProjectTree
its given blocks = record { blocks = blocks; symbols = map symbol_of given.case.symbols }

-- each address is one of a bit, a byte, a word or a double word
pub blocks_short : (told : Option FileMap) (file : List ℕ) (given : Given) → ReadsSources told file given → (b : BlockTree)
    → Contains (blocks_of given) b → AreShort (project_of given) b
blocks_short told file given reads b c =
    let held = held_read told given.case.sources given.sources reads.sources_held in
    subst (λ (p : ProjectTree). AreShort p b) (sym (ap (its given) held.of_blocks))
    (sources-short held.read (map symbol_of given.case.symbols) b held.are (subst (λ (l : List BlockTree). Contains l b) held.of_blocks c))

-- and tokens spell each instruction
pub blocks_spelled : (told : Option FileMap) (file : List ℕ) (given : Given) → ReadsSources told file given → (b : BlockTree)
    → Contains (blocks_of given) b → (i : InstrTree) → Contains (instructions_of b.body) i → (tokens : List Lexeme) × SpellsInstr i tokens
blocks_spelled told file given reads b c =
    let held = held_read told given.case.sources given.sources reads.sources_held in
    sources-spelled held.read (map symbol_of given.case.symbols) b held.are (subst (λ (l : List BlockTree). Contains l b) held.of_blocks c)
