use Rattle.pv_laws_places.specs.Texts.{IsOfToken}
use Rattle.pv_laws_places.proofs.Spelled.{each-expr, each-operand, each-call, each-stmts}
use Rattle.pv_laws_places.proofs.SpelledBlocks.{each-instrs, each-vars, each-block, each-blocks}
use Rattle.pv_laws_places.proofs.Tokens.{stand-each}
use Rattle.pv_laws_places.proofs.laws.trees_keep_places_of_tokens.Goals as goal

pub returns : goal.returns
returns c =
    record {
      expression = λ e ts d. each-expr (IsOfToken ts) e ts d (stand-each ts);
      operand = λ o ts d. each-operand (IsOfToken ts) o ts d (stand-each ts);
      call = λ call ts d. each-call (IsOfToken ts) call ts d (stand-each ts);
      statements = λ list ts d. each-stmts (IsOfToken ts) list ts d (stand-each ts);
      instructions = λ list ts d. each-instrs (IsOfToken ts) list ts d (stand-each ts);
      declarations = λ around vars ts d. each-vars (IsOfToken ts) around vars ts d (stand-each ts);
      block = λ language block ts d. each-block (IsOfToken ts) language block ts d (stand-each ts);
      source = λ language blocks ts d. each-blocks (IsOfToken ts) language blocks ts d (stand-each ts);
    }
