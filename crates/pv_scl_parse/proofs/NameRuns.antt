-- Names behind `#` and `.`, made of what spells them.
use Rattle.std.proofs.Common.{◌≡◌, inl, inr, ℕ, true, List, [], ◌∷◌, ◌++◌, Option, Some, None, refl, ap, ◌∙◌, sym, subst}
use Rattle.pv_place.specs.declared.place.Place.{Place}
use Rattle.pv_types.specs.declared.name.Name.{Name as NameOf}
use Rattle.pv_ll.specs.declared.table.Symbol.TheVariants.{Token, Name}
use Rattle.pv_tree.specs.declared.expr.Root.TheVariants.{Local}
use Rattle.pv_tree.specs.Tree.{PlacedName, CallPlain, field, call_}
use Rattle.pv_tree.specs.Lexemes.{Lexeme, IsSign, sign}
use Rattle.pv_tree.specs.Words.{SpellsWord, SpellsFirm, SpellsName, plain_name, pair_name, quoted_name}
use Rattle.pv_tree.specs.Calls.{SpellsBase}
use Rattle.pv_parse.specs.KindNumbers as n
use Rattle.pv_parse.specs.CodeItems.{of_call, called, value, statement}
use Rattle.pv_parse.specs.FrontNames as f
use Rattle.pv_parse.specs.FrontBodies as fb
use Rattle.pv_parse.specs.Items.{ItemTree, Stack, PathTree, path, code}
use Rattle.pv_parse.specs.ExprDeeds.{rooted, stepped}
use Rattle.pv_parse.proofs.ForCallers.{empty, on, to, then, by, pass, word_marks, kind-free-word, kind-free-prefix, kind-free-numbered, kind-quoted}
use Rattle.pv_parse_stmt.proofs.ForCallers.{behind_mark}
use Rattle.pv_scl_parse.specs.OwnNames as o
use Rattle.pv_scl_parse.specs.OwnBodies as b
use Rattle.pv_scl_parse.proofs.Serving as kind
use Rattle.pv_scl_parse.proofs.Got.{Got}

-- a call of what this path leads to
abbrev pub Calling : PathTree → CallPlain → List Lexeme → Type 0
Calling p c ts = (s : Stack) → Got (Name o.call_arguments ∷ []) ts (path p ∷ s) (code (called c) ∷ s)

abbrev pub Going : ℕ → PathTree → ItemTree → List Lexeme → Type 0
Going m p x ts = (s : Stack) → Got (Name m ∷ []) ts (path p ∷ s) (x ∷ s)

-- the path with a second name
abbrev pub based : PathTree → Option PlacedName → PathTree
based p None = p
based p (Some second) = stepped p (field second.0 second.1)

-- ---- what can only be a call

second_made : (p : PathTree) (d : Lexeme) (x : NameOf) (at : Place) (us : List Lexeme) → IsSign "." d → SpellsName x at us → (s : Stack)
    → Got (Token n.dot ∷ Name o.second_name ∷ []) (d ∷ us) (path p ∷ s) (path (stepped p (field x at)) ∷ s)
second_made p d x at us i (inl w) s =
    let t = w.token in
    to (ap (λ (z : NameOf). path (stepped p (field z t.place)) ∷ s) (sym w.is.is.names) ∙ ap (λ (z : Place). path (stepped p (field x z)) ∷ s) w.is.at)
    (on (ap (λ (z : List Lexeme). d ∷ z) (sym w.alone)) (elim (kind-free-word x t w.is.is) [
      | inl e ↦ behind_mark n.dot o.second_name b.second_name_1 n.free_word (Name o.plain_second ∷ []) d t [] (kind.dot d i) e (word_marks t w.is.is.kind) refl
          (by b.plain_second_1 b.plain_second_1_body refl empty refl) refl
      | inr e ↦ behind_mark n.dot o.second_name b.second_name_2 n.free_prefix (Name o.second_number ∷ []) d t [] (kind.dot d i) e (word_marks t w.is.is.kind) refl
          (by b.second_number_2 b.second_number_2_body refl (by b.plain_second_1 b.plain_second_1_body refl empty refl) refl) refl
    ]))
second_made p d x at us i (inr (inl w)) s =
    let t = w.token in
    to (ap (λ (z : NameOf). path (stepped p (field z t.place)) ∷ s) (sym w.is.is.names) ∙ ap (λ (z : Place). path (stepped p (field x z)) ∷ s) w.is.at)
    (on (ap (λ (z : List Lexeme). d ∷ z) (sym w.alone)) (behind_mark n.dot o.second_name b.second_name_4 n.quoted (Name o.quoted_second ∷ []) d t []
    (kind.dot d i) (kind-quoted x t true w.is.is) (kind.quoted_marks x t w.is.is) refl (by b.quoted_second_1 b.quoted_second_1_body refl empty refl) refl))
second_made p d x at us i (inr (inr (inl w))) s =
    let t = w.token in
    to (ap (λ (z : NameOf). path (stepped p (field z t.place)) ∷ s) (sym w.is.is.names) ∙ ap (λ (z : Place). path (stepped p (field x z)) ∷ s) w.is.at)
    (on (ap (λ (z : List Lexeme). d ∷ z) (sym w.alone)) (behind_mark n.dot o.second_name b.second_name_3 n.free_numbered (Name o.plain_second ∷ []) d t []
    (kind.dot d i) (kind-free-numbered x t w.is.is) (word_marks t w.is.is.kind) refl (by b.plain_second_1 b.plain_second_1_body refl empty refl) refl))
second_made p d x at us i (inr (inr (inr w))) s =
    to (ap (λ (z : NameOf). path (stepped p (field z w.prefix.place)) ∷ s) (sym w.names) ∙ ap (λ (z : Place). path (stepped p (field x z)) ∷ s) w.at)
    (on (ap (λ (z : List Lexeme). d ∷ z) (sym w.parts)) (behind_mark n.dot o.second_name b.second_name_2 n.free_prefix (Name o.second_number ∷ []) d w.prefix
    (w.number ∷ []) (kind.dot d i) (kind-free-prefix w.prefix w.word w.is_prefix) (word_marks w.prefix w.word) refl
    (by b.second_number_1 b.second_number_1_body refl (by b.numbered_second_1 b.numbered_second_1_body refl
    (pass n.number w.number (kind.number w.number w.counts)) refl) refl) refl))

pub called_made : (p : PathTree) (base : Option PlacedName) (c : CallPlain) (us vs : List Lexeme) → SpellsBase (sign ".") base us → Calling (based p base) c vs
    → Going o.called p (code (called c)) (us ++ vs)
called_made p None c us vs d fin s =
    on (ap (λ (z : List Lexeme). z ++ vs) (sym d)) (by b.called_1 b.called_1_body refl (fin s) refl)
called_made p (Some second) c us vs d fin s =
    let dot = d.in_front in
    on (ap (λ (z : List Lexeme). z ++ vs) (sym (d.parts ∙ ap (λ (z : List Lexeme). z ++ d.back) dot.alone)))
    (by b.called_2 b.called_2_body refl (then (second_made p dot.token second.0 second.1 d.back dot.is d.behind s) (fin s)) refl)

-- ---- behind a name that begins a statement

pub dot_word : (p : PathTree) (d : Lexeme) (x : NameOf) (at : Place) (m : ItemTree) (us vs : List Lexeme) → IsSign "." d → (w : SpellsWord x at us)
    → Going o.after_second (stepped p (field x at)) m vs → (s : Stack)
    → Got (Token n.dot ∷ Name o.after_dot ∷ []) (d ∷ (us ++ vs)) (path p ∷ s) (m ∷ s)
dot_word p d x at m us vs i w fin s =
    let t = w.token in
    let here : Going o.after_second (stepped p (field (plain_name t.bytes) t.place)) m vs = subst (λ (z : Place). Going o.after_second (stepped p (field (plain_name t.bytes) z)) m vs)
    (sym w.is.at) (subst (λ (z : NameOf). Going o.after_second (stepped p (field z at)) m vs) w.is.is.names fin) in
    on (ap (λ (z : List Lexeme). d ∷ (z ++ vs)) (sym w.alone)) (elim (kind-free-word x t w.is.is) [
      | inl e ↦ behind_mark n.dot o.after_dot b.after_dot_1 n.free_word (Name o.plain_second ∷ Name o.after_second ∷ []) d t vs (kind.dot d i) e
          (word_marks t w.is.is.kind) refl (then (by b.plain_second_1 b.plain_second_1_body refl empty refl) (here s)) refl
      | inr e ↦ behind_mark n.dot o.after_dot b.after_dot_2 n.free_prefix (Name o.after_prefix ∷ []) d t vs (kind.dot d i) e
          (word_marks t w.is.is.kind) refl (by b.after_prefix_2 b.after_prefix_2_body refl
          (then (by b.plain_second_1 b.plain_second_1_body refl empty refl) (here s)) refl) refl
    ])

pub dot_firm : (p : PathTree) (d : Lexeme) (x : NameOf) (at : Place) (c : CallPlain) (us vs : List Lexeme) → IsSign "." d → SpellsFirm x at us
    → Calling (stepped p (field x at)) c vs → (s : Stack)
    → Got (Token n.dot ∷ Name o.after_dot ∷ []) (d ∷ (us ++ vs)) (path p ∷ s) (code (statement (call_ c)) ∷ s)
dot_firm p d x at c us vs i (inl w) fin s =
    let t = w.token in
    let here : Calling (stepped p (field (quoted_name t.bytes) t.place)) c vs = subst (λ (z : Place). Calling (stepped p (field (quoted_name t.bytes) z)) c vs)
    (sym w.is.at) (subst (λ (z : NameOf). Calling (stepped p (field z at)) c vs) w.is.is.names fin) in
    on (ap (λ (z : List Lexeme). d ∷ (z ++ vs)) (sym w.alone))
    (behind_mark n.dot o.after_dot b.after_dot_4 n.quoted (Name o.quoted_second ∷ Name o.call_arguments ∷ []) d t vs (kind.dot d i)
    (kind-quoted x t true w.is.is) (kind.quoted_marks x t w.is.is) refl (then (by b.quoted_second_1 b.quoted_second_1_body refl empty refl) (here s)) refl)
dot_firm p d x at c us vs i (inr (inl w)) fin s =
    let t = w.token in
    let here : Calling (stepped p (field (plain_name t.bytes) t.place)) c vs = subst (λ (z : Place). Calling (stepped p (field (plain_name t.bytes) z)) c vs)
    (sym w.is.at) (subst (λ (z : NameOf). Calling (stepped p (field z at)) c vs) w.is.is.names fin) in
    on (ap (λ (z : List Lexeme). d ∷ (z ++ vs)) (sym w.alone))
    (behind_mark n.dot o.after_dot b.after_dot_3 n.free_numbered (Name o.plain_second ∷ Name o.call_arguments ∷ []) d t vs (kind.dot d i)
    (kind-free-numbered x t w.is.is) (word_marks t w.is.is.kind) refl (then (by b.plain_second_1 b.plain_second_1_body refl empty refl) (here s)) refl)
dot_firm p d x at c us vs i (inr (inr w)) fin s =
    let name = pair_name (w.prefix.bytes ++ w.number.bytes) in
    let here : Calling (stepped p (field name w.prefix.place)) c vs = subst (λ (z : Place). Calling (stepped p (field name z)) c vs)
    (sym w.at) (subst (λ (z : NameOf). Calling (stepped p (field z at)) c vs) w.names fin) in
    on (ap (λ (z : List Lexeme). d ∷ (z ++ vs)) (sym w.parts))
    (behind_mark n.dot o.after_dot b.after_dot_2 n.free_prefix (Name o.after_prefix ∷ []) d w.prefix (w.number ∷ vs) (kind.dot d i)
    (kind-free-prefix w.prefix w.word w.is_prefix) (word_marks w.prefix w.word) refl
    (by b.after_prefix_1 b.after_prefix_1_body refl (then (by b.numbered_second_1 b.numbered_second_1_body refl
    (pass n.number w.number (kind.number w.number w.counts)) refl) (here s)) refl) refl)

pub hash_word : (h : Lexeme) (x : NameOf) (at : Place) (m : ItemTree) (us vs : List Lexeme) → IsSign "#" h → (w : SpellsWord x at us)
    → Going o.after_word (rooted (Local x true at) h.place) m vs → (s : Stack)
    → Got (Token n.hash ∷ Name o.after_hash ∷ []) (h ∷ (us ++ vs)) s (m ∷ s)
hash_word h x at m us vs i w fin s =
    let t = w.token in
    let here : Going o.after_word (rooted (Local (plain_name t.bytes) true t.place) h.place) m vs =
    subst (λ (z : Place). Going o.after_word (rooted (Local (plain_name t.bytes) true z) h.place) m vs)
    (sym w.is.at) (subst (λ (z : NameOf). Going o.after_word (rooted (Local z true at) h.place) m vs) w.is.is.names fin) in
    on (ap (λ (z : List Lexeme). h ∷ (z ++ vs)) (sym w.alone)) (elim (kind-free-word x t w.is.is) [
      | inl e ↦ behind_mark n.hash o.after_hash b.after_hash_1 n.free_word (Name f.plain_hash ∷ Name o.after_word ∷ []) h t vs (kind.hash h i) e
          (word_marks t w.is.is.kind) refl (then (by fb.plain_hash_1 fb.plain_hash_1_body refl empty refl) (here s)) refl
      | inr e ↦ behind_mark n.hash o.after_hash b.after_hash_2 n.free_prefix (Name o.after_hash_prefix ∷ []) h t vs (kind.hash h i) e
          (word_marks t w.is.is.kind) refl (by b.after_hash_prefix_2 b.after_hash_prefix_2_body refl
          (then (by fb.plain_hash_1 fb.plain_hash_1_body refl empty refl) (here s)) refl) refl
    ])

pub hash_firm : (h : Lexeme) (x : NameOf) (at : Place) (c : CallPlain) (us vs : List Lexeme) → IsSign "#" h → SpellsFirm x at us
    → Going o.called (rooted (Local x true at) h.place) (code (called c)) vs → (s : Stack)
    → Got (Token n.hash ∷ Name o.after_hash ∷ []) (h ∷ (us ++ vs)) s (code (statement (call_ c)) ∷ s)
hash_firm h x at c us vs i (inl w) fin s =
    let t = w.token in
    let here : Going o.called (rooted (Local (quoted_name t.bytes) true t.place) h.place) (code (called c)) vs =
    subst (λ (z : Place). Going o.called (rooted (Local (quoted_name t.bytes) true z) h.place) (code (called c)) vs)
    (sym w.is.at) (subst (λ (z : NameOf). Going o.called (rooted (Local z true at) h.place) (code (called c)) vs) w.is.is.names fin) in
    on (ap (λ (z : List Lexeme). h ∷ (z ++ vs)) (sym w.alone))
    (behind_mark n.hash o.after_hash b.after_hash_4 n.quoted (Name f.quoted_hash ∷ Name o.called ∷ []) h t vs (kind.hash h i)
    (kind-quoted x t true w.is.is) (kind.quoted_marks x t w.is.is) refl (then (by fb.quoted_hash_1 fb.quoted_hash_1_body refl empty refl) (here s)) refl)
hash_firm h x at c us vs i (inr (inl w)) fin s =
    let t = w.token in
    let here : Going o.called (rooted (Local (plain_name t.bytes) true t.place) h.place) (code (called c)) vs =
    subst (λ (z : Place). Going o.called (rooted (Local (plain_name t.bytes) true z) h.place) (code (called c)) vs)
    (sym w.is.at) (subst (λ (z : NameOf). Going o.called (rooted (Local z true at) h.place) (code (called c)) vs) w.is.is.names fin) in
    on (ap (λ (z : List Lexeme). h ∷ (z ++ vs)) (sym w.alone))
    (behind_mark n.hash o.after_hash b.after_hash_3 n.free_numbered (Name f.plain_hash ∷ Name o.called ∷ []) h t vs (kind.hash h i)
    (kind-free-numbered x t w.is.is) (word_marks t w.is.is.kind) refl (then (by fb.plain_hash_1 fb.plain_hash_1_body refl empty refl) (here s)) refl)
hash_firm h x at c us vs i (inr (inr w)) fin s =
    let name = pair_name (w.prefix.bytes ++ w.number.bytes) in
    let here : Going o.called (rooted (Local name true w.prefix.place) h.place) (code (called c)) vs =
    subst (λ (z : Place). Going o.called (rooted (Local name true z) h.place) (code (called c)) vs)
    (sym w.at) (subst (λ (z : NameOf). Going o.called (rooted (Local z true at) h.place) (code (called c)) vs) w.names fin) in
    on (ap (λ (z : List Lexeme). h ∷ (z ++ vs)) (sym w.parts))
    (behind_mark n.hash o.after_hash b.after_hash_2 n.free_prefix (Name o.after_hash_prefix ∷ []) h w.prefix (w.number ∷ vs) (kind.hash h i)
    (kind-free-prefix w.prefix w.word w.is_prefix) (word_marks w.prefix w.word) refl
    (by b.after_hash_prefix_1 b.after_hash_prefix_1_body refl (then (by fb.numbered_hash_1 fb.numbered_hash_1_body refl
    (pass n.number w.number (kind.number w.number w.counts)) refl) (here s)) refl) refl)

-- a call behind its name and its second one
second_call : (p : PathTree) (second : PlacedName) (c : CallPlain) (front back us vs : List Lexeme) → us ≡ front ++ back → sign "." front
    → SpellsName second.0 second.1 back → Calling (based p (Some second)) c vs → Going o.after_word p (code (statement (call_ c))) (us ++ vs)
second_call p second c front back us vs q d (inl w) fin s =
    on (ap (λ (z : List Lexeme). z ++ vs) (sym (q ∙ ap (λ (z : List Lexeme). z ++ back) d.alone)))
    (by b.after_word_2 b.after_word_2_body refl (dot_word p d.token second.0 second.1 (code (statement (call_ c))) back vs d.is w
    (λ z. by b.after_second_1 b.after_second_1_body refl (fin z) refl) s) refl)
second_call p second c front back us vs q d (inr w) fin s =
    on (ap (λ (z : List Lexeme). z ++ vs) (sym (q ∙ ap (λ (z : List Lexeme). z ++ back) d.alone)))
    (by b.after_word_2 b.after_word_2_body refl (dot_firm p d.token second.0 second.1 c back vs d.is w fin s) refl)

-- a call behind its name
pub after_word_call : (p : PathTree) (base : Option PlacedName) (c : CallPlain) (us vs : List Lexeme) → SpellsBase (sign ".") base us → Calling (based p base) c vs
    → Going o.after_word p (code (statement (call_ c))) (us ++ vs)
after_word_call p None c us vs d fin s =
    on (ap (λ (z : List Lexeme). z ++ vs) (sym d)) (by b.after_word_1 b.after_word_1_body refl (fin s) refl)
after_word_call p (Some second) c us vs d fin s = second_call p second c d.front d.back us vs d.parts d.in_front d.behind fin s

-- ---- behind a name that begins the right side of an assignment

pub value_dot_word : (p : PathTree) (d : Lexeme) (x : NameOf) (at : Place) (m : ItemTree) (us vs : List Lexeme) → IsSign "." d → (w : SpellsWord x at us)
    → Going o.value_after_second (stepped p (field x at)) m vs → (s : Stack)
    → Got (Token n.dot ∷ Name o.value_after_dot ∷ []) (d ∷ (us ++ vs)) (path p ∷ s) (m ∷ s)
value_dot_word p d x at m us vs i w fin s =
    let t = w.token in
    let here : Going o.value_after_second (stepped p (field (plain_name t.bytes) t.place)) m vs = subst (λ (z : Place). Going o.value_after_second (stepped p (field (plain_name t.bytes) z)) m vs)
    (sym w.is.at) (subst (λ (z : NameOf). Going o.value_after_second (stepped p (field z at)) m vs) w.is.is.names fin) in
    on (ap (λ (z : List Lexeme). d ∷ (z ++ vs)) (sym w.alone)) (elim (kind-free-word x t w.is.is) [
      | inl e ↦ behind_mark n.dot o.value_after_dot b.value_after_dot_1 n.free_word (Name o.plain_second ∷ Name o.value_after_second ∷ []) d t vs (kind.dot d i) e
          (word_marks t w.is.is.kind) refl (then (by b.plain_second_1 b.plain_second_1_body refl empty refl) (here s)) refl
      | inr e ↦ behind_mark n.dot o.value_after_dot b.value_after_dot_2 n.free_prefix (Name o.value_after_prefix ∷ []) d t vs (kind.dot d i) e
          (word_marks t w.is.is.kind) refl (by b.value_after_prefix_2 b.value_after_prefix_2_body refl
          (then (by b.plain_second_1 b.plain_second_1_body refl empty refl) (here s)) refl) refl
    ])

pub value_dot_firm : (p : PathTree) (d : Lexeme) (x : NameOf) (at : Place) (c : CallPlain) (us vs : List Lexeme) → IsSign "." d → SpellsFirm x at us
    → Calling (stepped p (field x at)) c vs → (s : Stack)
    → Got (Token n.dot ∷ Name o.value_after_dot ∷ []) (d ∷ (us ++ vs)) (path p ∷ s) (code (value (of_call c)) ∷ s)
value_dot_firm p d x at c us vs i (inl w) fin s =
    let t = w.token in
    let here : Calling (stepped p (field (quoted_name t.bytes) t.place)) c vs = subst (λ (z : Place). Calling (stepped p (field (quoted_name t.bytes) z)) c vs)
    (sym w.is.at) (subst (λ (z : NameOf). Calling (stepped p (field z at)) c vs) w.is.is.names fin) in
    on (ap (λ (z : List Lexeme). d ∷ (z ++ vs)) (sym w.alone))
    (behind_mark n.dot o.value_after_dot b.value_after_dot_4 n.quoted (Name o.quoted_second ∷ Name o.call_arguments ∷ []) d t vs (kind.dot d i)
    (kind-quoted x t true w.is.is) (kind.quoted_marks x t w.is.is) refl (then (by b.quoted_second_1 b.quoted_second_1_body refl empty refl) (here s)) refl)
value_dot_firm p d x at c us vs i (inr (inl w)) fin s =
    let t = w.token in
    let here : Calling (stepped p (field (plain_name t.bytes) t.place)) c vs = subst (λ (z : Place). Calling (stepped p (field (plain_name t.bytes) z)) c vs)
    (sym w.is.at) (subst (λ (z : NameOf). Calling (stepped p (field z at)) c vs) w.is.is.names fin) in
    on (ap (λ (z : List Lexeme). d ∷ (z ++ vs)) (sym w.alone))
    (behind_mark n.dot o.value_after_dot b.value_after_dot_3 n.free_numbered (Name o.plain_second ∷ Name o.call_arguments ∷ []) d t vs (kind.dot d i)
    (kind-free-numbered x t w.is.is) (word_marks t w.is.is.kind) refl (then (by b.plain_second_1 b.plain_second_1_body refl empty refl) (here s)) refl)
value_dot_firm p d x at c us vs i (inr (inr w)) fin s =
    let name = pair_name (w.prefix.bytes ++ w.number.bytes) in
    let here : Calling (stepped p (field name w.prefix.place)) c vs = subst (λ (z : Place). Calling (stepped p (field name z)) c vs)
    (sym w.at) (subst (λ (z : NameOf). Calling (stepped p (field z at)) c vs) w.names fin) in
    on (ap (λ (z : List Lexeme). d ∷ (z ++ vs)) (sym w.parts))
    (behind_mark n.dot o.value_after_dot b.value_after_dot_2 n.free_prefix (Name o.value_after_prefix ∷ []) d w.prefix (w.number ∷ vs) (kind.dot d i)
    (kind-free-prefix w.prefix w.word w.is_prefix) (word_marks w.prefix w.word) refl
    (by b.value_after_prefix_1 b.value_after_prefix_1_body refl (then (by b.numbered_second_1 b.numbered_second_1_body refl
    (pass n.number w.number (kind.number w.number w.counts)) refl) (here s)) refl) refl)

pub value_hash_word : (h : Lexeme) (x : NameOf) (at : Place) (m : ItemTree) (us vs : List Lexeme) → IsSign "#" h → (w : SpellsWord x at us)
    → Going o.value_after_word (rooted (Local x true at) h.place) m vs → (s : Stack)
    → Got (Token n.hash ∷ Name o.value_after_hash ∷ []) (h ∷ (us ++ vs)) s (m ∷ s)
value_hash_word h x at m us vs i w fin s =
    let t = w.token in
    let here : Going o.value_after_word (rooted (Local (plain_name t.bytes) true t.place) h.place) m vs =
    subst (λ (z : Place). Going o.value_after_word (rooted (Local (plain_name t.bytes) true z) h.place) m vs)
    (sym w.is.at) (subst (λ (z : NameOf). Going o.value_after_word (rooted (Local z true at) h.place) m vs) w.is.is.names fin) in
    on (ap (λ (z : List Lexeme). h ∷ (z ++ vs)) (sym w.alone)) (elim (kind-free-word x t w.is.is) [
      | inl e ↦ behind_mark n.hash o.value_after_hash b.value_after_hash_1 n.free_word (Name f.plain_hash ∷ Name o.value_after_word ∷ []) h t vs (kind.hash h i) e
          (word_marks t w.is.is.kind) refl (then (by fb.plain_hash_1 fb.plain_hash_1_body refl empty refl) (here s)) refl
      | inr e ↦ behind_mark n.hash o.value_after_hash b.value_after_hash_2 n.free_prefix (Name o.value_after_hash_prefix ∷ []) h t vs (kind.hash h i) e
          (word_marks t w.is.is.kind) refl (by b.value_after_hash_prefix_2 b.value_after_hash_prefix_2_body refl
          (then (by fb.plain_hash_1 fb.plain_hash_1_body refl empty refl) (here s)) refl) refl
    ])

pub value_hash_firm : (h : Lexeme) (x : NameOf) (at : Place) (c : CallPlain) (us vs : List Lexeme) → IsSign "#" h → SpellsFirm x at us
    → Going o.called (rooted (Local x true at) h.place) (code (called c)) vs → (s : Stack)
    → Got (Token n.hash ∷ Name o.value_after_hash ∷ []) (h ∷ (us ++ vs)) s (code (value (of_call c)) ∷ s)
value_hash_firm h x at c us vs i (inl w) fin s =
    let t = w.token in
    let here : Going o.called (rooted (Local (quoted_name t.bytes) true t.place) h.place) (code (called c)) vs =
    subst (λ (z : Place). Going o.called (rooted (Local (quoted_name t.bytes) true z) h.place) (code (called c)) vs)
    (sym w.is.at) (subst (λ (z : NameOf). Going o.called (rooted (Local z true at) h.place) (code (called c)) vs) w.is.is.names fin) in
    on (ap (λ (z : List Lexeme). h ∷ (z ++ vs)) (sym w.alone))
    (behind_mark n.hash o.value_after_hash b.value_after_hash_4 n.quoted (Name f.quoted_hash ∷ Name o.called ∷ []) h t vs (kind.hash h i)
    (kind-quoted x t true w.is.is) (kind.quoted_marks x t w.is.is) refl (then (by fb.quoted_hash_1 fb.quoted_hash_1_body refl empty refl) (here s)) refl)
value_hash_firm h x at c us vs i (inr (inl w)) fin s =
    let t = w.token in
    let here : Going o.called (rooted (Local (plain_name t.bytes) true t.place) h.place) (code (called c)) vs =
    subst (λ (z : Place). Going o.called (rooted (Local (plain_name t.bytes) true z) h.place) (code (called c)) vs)
    (sym w.is.at) (subst (λ (z : NameOf). Going o.called (rooted (Local z true at) h.place) (code (called c)) vs) w.is.is.names fin) in
    on (ap (λ (z : List Lexeme). h ∷ (z ++ vs)) (sym w.alone))
    (behind_mark n.hash o.value_after_hash b.value_after_hash_3 n.free_numbered (Name f.plain_hash ∷ Name o.called ∷ []) h t vs (kind.hash h i)
    (kind-free-numbered x t w.is.is) (word_marks t w.is.is.kind) refl (then (by fb.plain_hash_1 fb.plain_hash_1_body refl empty refl) (here s)) refl)
value_hash_firm h x at c us vs i (inr (inr w)) fin s =
    let name = pair_name (w.prefix.bytes ++ w.number.bytes) in
    let here : Going o.called (rooted (Local name true w.prefix.place) h.place) (code (called c)) vs =
    subst (λ (z : Place). Going o.called (rooted (Local name true z) h.place) (code (called c)) vs)
    (sym w.at) (subst (λ (z : NameOf). Going o.called (rooted (Local z true at) h.place) (code (called c)) vs) w.names fin) in
    on (ap (λ (z : List Lexeme). h ∷ (z ++ vs)) (sym w.parts))
    (behind_mark n.hash o.value_after_hash b.value_after_hash_2 n.free_prefix (Name o.value_after_hash_prefix ∷ []) h w.prefix (w.number ∷ vs) (kind.hash h i)
    (kind-free-prefix w.prefix w.word w.is_prefix) (word_marks w.prefix w.word) refl
    (by b.value_after_hash_prefix_1 b.value_after_hash_prefix_1_body refl (then (by fb.numbered_hash_1 fb.numbered_hash_1_body refl
    (pass n.number w.number (kind.number w.number w.counts)) refl) (here s)) refl) refl)

-- a call behind its name and its second one
value_second_call : (p : PathTree) (second : PlacedName) (c : CallPlain) (front back us vs : List Lexeme) → us ≡ front ++ back → sign "." front
    → SpellsName second.0 second.1 back → Calling (based p (Some second)) c vs → Going o.value_after_word p (code (value (of_call c))) (us ++ vs)
value_second_call p second c front back us vs q d (inl w) fin s =
    on (ap (λ (z : List Lexeme). z ++ vs) (sym (q ∙ ap (λ (z : List Lexeme). z ++ back) d.alone)))
    (by b.value_after_word_2 b.value_after_word_2_body refl (value_dot_word p d.token second.0 second.1 (code (value (of_call c))) back vs d.is w
    (λ z. by b.value_after_second_1 b.value_after_second_1_body refl (fin z) refl) s) refl)
value_second_call p second c front back us vs q d (inr w) fin s =
    on (ap (λ (z : List Lexeme). z ++ vs) (sym (q ∙ ap (λ (z : List Lexeme). z ++ back) d.alone)))
    (by b.value_after_word_2 b.value_after_word_2_body refl (value_dot_firm p d.token second.0 second.1 c back vs d.is w fin s) refl)

-- a call behind its name
pub value_after_word_call : (p : PathTree) (base : Option PlacedName) (c : CallPlain) (us vs : List Lexeme) → SpellsBase (sign ".") base us → Calling (based p base) c vs
    → Going o.value_after_word p (code (value (of_call c))) (us ++ vs)
value_after_word_call p None c us vs d fin s =
    on (ap (λ (z : List Lexeme). z ++ vs) (sym d)) (by b.value_after_word_1 b.value_after_word_1_body refl (fin s) refl)
value_after_word_call p (Some second) c us vs d fin s = value_second_call p second c d.front d.back us vs d.parts d.in_front d.behind fin s
