-- The lines of what is too large, as texts.
use Rattle.std.proofs.Common.{◌≡◌, Result, Ok, Err, IfOk, refl, sym, ◌∙◌}
use Rattle.std.specs.Prelude.{codes, String, string_bytes}
use Rattle.std.specs.Fmt.{digits}
use Rattle.std.specs.declared.alloc.Global.{Global}
use Rattle.pv_command_verdict.specs.Sizes.{edges_line, gates_line}

edges_text : edges_line ≡ codes "plcv: TooLarge edges 200000\n"
unfolding digits
edges_text = refl

gates_text : gates_line ≡ codes "plcv: TooLarge gates 1000000\n"
unfolding digits
gates_text = refl

pub edges_told : {E : Type 0} (r : Result (String Global) E) → IfOk r (λ t. string_bytes t ≡ codes "plcv: TooLarge edges 200000\n")
    → IfOk r (λ t. string_bytes t ≡ edges_line)
edges_told (Ok t) h = h ∙ sym edges_text
edges_told (Err e) h = tt

pub gates_told : {E : Type 0} (r : Result (String Global) E) → IfOk r (λ t. string_bytes t ≡ codes "plcv: TooLarge gates 1000000\n")
    → IfOk r (λ t. string_bytes t ≡ gates_line)
gates_told (Ok t) h = h ∙ sym gates_text
gates_told (Err e) h = tt
