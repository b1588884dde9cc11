-- Where a called name begins: as a word, or as another name.
use Rattle.std.proofs.Common.{◌≡◌, Bool, true, false, sym, ap, ◌∙◌}
use Rattle.std.specs.Prelude.{Result, if◌then◌else◌}
use Rattle.std.specs.Result.{IfOk}
use Rattle.std.proofs.lemmas.Result.{IfOk-weaker}
use Rattle.pv_types.specs.declared.name.Name.{Name}
use Rattle.pv_tree.specs.Callees.{is_word}
use Rattle.pv_mean.specs.Sources.{Source}
use Rattle.pv_mean.specs.Activations.{Activation, Begins, word_begins, name_begins}
use Rattle.pv_mean.specs.Calls.{called_begins}

pub called-word : {B E : Type 0} (r : Result B E) (at : B → Begins) (source : Source) (act : Activation) (name : Name) (hash : Bool)
    → is_word name ≡ true → IfOk r (λ b. at b ≡ word_begins source act name.key hash) → IfOk r (λ b. at b ≡ called_begins source act name hash)
called-word r at source act name hash e begins = IfOk-weaker r _ _ (λ b is.
    is ∙ ap (λ t. if t then word_begins source act name.key hash else name_begins source act name.key) (sym e)) begins

pub called-name : {B E : Type 0} (r : Result B E) (at : B → Begins) (source : Source) (act : Activation) (name : Name) (hash : Bool)
    → is_word name ≡ false → IfOk r (λ b. at b ≡ name_begins source act name.key) → IfOk r (λ b. at b ≡ called_begins source act name hash)
called-name r at source act name hash e begins = IfOk-weaker r _ _ (λ b is.
    is ∙ ap (λ t. if t then word_begins source act name.key hash else name_begins source act name.key) (sym e)) begins
