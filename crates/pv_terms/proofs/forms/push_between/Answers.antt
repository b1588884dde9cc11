use Rattle.std.proofs.Common.{sym, ap}
use Rattle.std.proofs.lemmas.Result.{IfOk-weaker}
use Rattle.pv_terms.specs.Forms.{binary_term}
use Rattle.pv_terms.proofs.Pushing.{says}
use Rattle.pv_terms.proofs.forms.push_between.Goals as goal

pub returns-in-Mul : goal.returns-in-Mul
returns-in-Mul c = λ s t table p q.
    IfOk-weaker c.push_binary.result _ _
    (λ n z. says _ _ n _ _ (sym (ap (λ op. binary_term op c.args.ty s t) c.in-Mul.is)) z)
    (c.push_binary.ensures s t table p q)

pub returns-in-Div : goal.returns-in-Div
returns-in-Div c = λ s t table p q.
    IfOk-weaker c.push_binary-in-Div.result _ _
    (λ n z. says _ _ n _ _ (sym (ap (λ op. binary_term op c.args.ty s t) c.in-Div.is)) z)
    (c.push_binary-in-Div.ensures s t table p q)

pub returns-in-Mod : goal.returns-in-Mod
returns-in-Mod c = λ s t table p q.
    IfOk-weaker c.push_binary-in-Mod.result _ _
    (λ n z. says _ _ n _ _ (sym (ap (λ op. binary_term op c.args.ty s t) c.in-Mod.is)) z)
    (c.push_binary-in-Mod.ensures s t table p q)

pub returns-in-Add : goal.returns-in-Add
returns-in-Add c = λ s t table p q.
    IfOk-weaker c.push_binary-in-Add.result _ _
    (λ n z. says _ _ n _ _ (sym (ap (λ op. binary_term op c.args.ty s t) c.in-Add.is)) z)
    (c.push_binary-in-Add.ensures s t table p q)

pub returns-in-Sub : goal.returns-in-Sub
returns-in-Sub c = λ s t table p q.
    IfOk-weaker c.push_binary-in-Sub.result _ _
    (λ n z. says _ _ n _ _ (sym (ap (λ op. binary_term op c.args.ty s t) c.in-Sub.is)) z)
    (c.push_binary-in-Sub.ensures s t table p q)

pub returns-in-Less : goal.returns-in-Less
returns-in-Less c = λ s t table p q.
    IfOk-weaker c.push_less.result _ _
    (λ n z. says _ _ n _ _ (sym (ap (λ op. binary_term op c.args.ty s t) c.in-Less.is)) z)
    (c.push_less.ensures s t table p q)

pub returns-in-Greater : goal.returns-in-Greater
returns-in-Greater c = λ s t table p q.
    IfOk-weaker c.push_less-in-Greater.result _ _
    (λ n z. says _ _ n _ _ (sym (ap (λ op. binary_term op c.args.ty s t) c.in-Greater.is)) z)
    (c.push_less-in-Greater.ensures t s table q p)

pub returns-in-LessEqual : goal.returns-in-LessEqual
returns-in-LessEqual c = λ s t table p q.
    IfOk-weaker c.push_not_less.result _ _
    (λ n z. says _ _ n _ _ (sym (ap (λ op. binary_term op c.args.ty s t) c.in-LessEqual.is)) z)
    (c.push_not_less.ensures t s table q p)

pub returns-in-GreaterEqual : goal.returns-in-GreaterEqual
returns-in-GreaterEqual c = λ s t table p q.
    IfOk-weaker c.push_not_less-in-GreaterEqual.result _ _
    (λ n z. says _ _ n _ _ (sym (ap (λ op. binary_term op c.args.ty s t) c.in-GreaterEqual.is)) z)
    (c.push_not_less-in-GreaterEqual.ensures s t table p q)

pub returns-in-Equal : goal.returns-in-Equal
returns-in-Equal c = λ s t table p q.
    IfOk-weaker c.push_binary-in-Equal.result _ _
    (λ n z. says _ _ n _ _ (sym (ap (λ op. binary_term op c.args.ty s t) c.in-Equal.is)) z)
    (c.push_binary-in-Equal.ensures s t table p q)

pub returns-in-NotEqual : goal.returns-in-NotEqual
returns-in-NotEqual c = λ s t table p q.
    IfOk-weaker c.push_not_equal.result _ _
    (λ n z. says _ _ n _ _ (sym (ap (λ op. binary_term op c.args.ty s t) c.in-NotEqual.is)) z)
    (c.push_not_equal.ensures s t table p q)

pub returns-in-And : goal.returns-in-And
returns-in-And c = λ s t table p q.
    IfOk-weaker c.push_binary-in-And.result _ _
    (λ n z. says _ _ n _ _ (sym (ap (λ op. binary_term op c.args.ty s t) c.in-And.is)) z)
    (c.push_binary-in-And.ensures s t table p q)

pub returns-in-Xor : goal.returns-in-Xor
returns-in-Xor c = λ s t table p q.
    IfOk-weaker c.push_binary-in-Xor.result _ _
    (λ n z. says _ _ n _ _ (sym (ap (λ op. binary_term op c.args.ty s t) c.in-Xor.is)) z)
    (c.push_binary-in-Xor.ensures s t table p q)

pub returns-in-Or : goal.returns-in-Or
returns-in-Or c = λ s t table p q.
    IfOk-weaker c.push_binary-in-Or.result _ _
    (λ n z. says _ _ n _ _ (sym (ap (λ op. binary_term op c.args.ty s t) c.in-Or.is)) z)
    (c.push_binary-in-Or.ensures s t table p q)
