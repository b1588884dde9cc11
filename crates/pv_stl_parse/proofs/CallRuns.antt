-- Calls behind CALL and UC, made of what spells them.
use Rattle.std.proofs.Common.{◌≡◌, inl, inr, Bool, true, false, List, [], ◌∷◌, ◌++◌, All, Option, Some, None, refl, ap, ◌∙◌, sym, subst}
use Rattle.std.proofs.lemmas.List.{append-nil, append_assoc}
use Rattle.std.proofs.lemmas.List.Elements.{All-head, All-tail}
use Rattle.pv_place.specs.declared.place.Place.{Place}
use Rattle.pv_types.specs.declared.name.Name.{Name as NameOf}
use Rattle.pv_ll.specs.declared.table.Symbol.TheVariants.{Token, Name}
use Rattle.pv_tree.specs.declared.expr.Root.{Root}
use Rattle.pv_tree.specs.declared.expr.Root.TheVariants.{Local, Named}
use Rattle.pv_tree.specs.Tree.{PlacedName, field, ArgTree, CallPlain}
use Rattle.pv_tree.specs.Lexemes.{Lexeme, IsSign, sign}
use Rattle.pv_tree.specs.Words.{IsFree, SpellsName}
use Rattle.pv_tree.specs.Calls.{SpellsCalledStl, SpellsBase, SpellsArgsStl, SpellsCallStl, IsFreeBehind, IsFreeOption, IsFormedArg, IsFormedCallStl}
use Rattle.pv_tree.specs.Instructions.{SpellsCallAlone}
use Rattle.pv_parse.specs.KindNumbers as n
use Rattle.pv_parse.specs.FrontNames as f
use Rattle.pv_parse.specs.FrontBodies as fb
use Rattle.pv_parse.specs.CodeItems.{called}
use Rattle.pv_parse.specs.Items.{Stack, PathTree, token, path, code}
use Rattle.pv_parse.specs.ExprDeeds.{rooted, stepped}
use Rattle.pv_parse.specs.CallDeeds.{call_of}
use Rattle.pv_parse.proofs.ForCallers.{empty, on, to, then, by, pass, word_marks, number_serves, kind-free-word, kind-free-prefix, kind-free-numbered, kind-quoted, name_made, firm_made}
use Rattle.pv_parse_stmt.proofs.ForCallers.{Named as NamedArg, named, behind_mark, first_made, more_made}
use Rattle.pv_stl_parse.specs.OwnNames as o
use Rattle.pv_stl_parse.specs.OwnBodies as b
use Rattle.pv_stl_parse.specs.StlGrammar.{instruction_productions}
use Rattle.pv_stl_parse.proofs.Serving as kind
use Rattle.pv_stl_parse.proofs.Got.{others, other_acts, own_acts, Got}

-- ---- called names

-- a name behind `#`
hash_name_made : (h : Lexeme) (x : NameOf) (at : Place) (us : List Lexeme) → IsSign "#" h → SpellsName x at us → (s : Stack)
    → Got (Token n.hash ∷ Name o.hashed_name ∷ []) (h ∷ us) s (path (rooted (Local x true at) h.place) ∷ s)
hash_name_made h x at us i (inl w) s =
    let t = w.token in
    to (ap (λ (z : NameOf). path (rooted (Local z true t.place) h.place) ∷ s) (sym w.is.is.names)
    ∙ ap (λ (z : Place). path (rooted (Local x true z) h.place) ∷ s) w.is.at)
    (on (ap (λ (z : List Lexeme). h ∷ z) (sym w.alone)) (elim (kind-free-word x t w.is.is) [
      | inl e ↦ behind_mark n.hash o.hashed_name b.hashed_name_1 n.free_word (Name f.plain_hash ∷ []) h t [] (kind.hash h i) e
          (word_marks t w.is.is.kind) refl (by fb.plain_hash_1 fb.plain_hash_1_body refl empty refl) refl
      | inr e ↦ behind_mark n.hash o.hashed_name b.hashed_name_2 n.free_prefix (Name o.hashed_prefix ∷ []) h t [] (kind.hash h i) e
          (word_marks t w.is.is.kind) refl (by b.hashed_prefix_2 b.hashed_prefix_2_body refl (by fb.plain_hash_1 fb.plain_hash_1_body refl empty refl) refl) refl
    ]))
hash_name_made h x at us i (inr (inl w)) s =
    let t = w.token in
    to (ap (λ (z : NameOf). path (rooted (Local z true t.place) h.place) ∷ s) (sym w.is.is.names)
    ∙ ap (λ (z : Place). path (rooted (Local x true z) h.place) ∷ s) w.is.at)
    (on (ap (λ (z : List Lexeme). h ∷ z) (sym w.alone)) (behind_mark n.hash o.hashed_name b.hashed_name_4 n.quoted (Name f.quoted_hash ∷ []) h t []
    (kind.hash h i) (kind-quoted x t true w.is.is) (kind.quoted_marks x t w.is.is) refl (by fb.quoted_hash_1 fb.quoted_hash_1_body refl empty refl) refl))
hash_name_made h x at us i (inr (inr (inl w))) s =
    let t = w.token in
    to (ap (λ (z : NameOf). path (rooted (Local z true t.place) h.place) ∷ s) (sym w.is.is.names)
    ∙ ap (λ (z : Place). path (rooted (Local x true z) h.place) ∷ s) w.is.at)
    (on (ap (λ (z : List Lexeme). h ∷ z) (sym w.alone)) (behind_mark n.hash o.hashed_name b.hashed_name_3 n.free_numbered (Name f.plain_hash ∷ []) h t []
    (kind.hash h i) (kind-free-numbered x t w.is.is) (word_marks t w.is.is.kind) refl (by fb.plain_hash_1 fb.plain_hash_1_body refl empty refl) refl))
hash_name_made h x at us i (inr (inr (inr w))) s =
    to (ap (λ (z : NameOf). path (rooted (Local z true w.prefix.place) h.place) ∷ s) (sym w.names)
    ∙ ap (λ (z : Place). path (rooted (Local x true z) h.place) ∷ s) w.at)
    (on (ap (λ (z : List Lexeme). h ∷ z) (sym w.parts)) (behind_mark n.hash o.hashed_name b.hashed_name_2 n.free_prefix (Name o.hashed_prefix ∷ []) h w.prefix
    (w.number ∷ []) (kind.hash h i) (kind-free-prefix w.prefix w.word w.is_prefix) (word_marks w.prefix w.word) refl
    (by b.hashed_prefix_1 b.hashed_prefix_1_body refl (by fb.numbered_hash_1 fb.numbered_hash_1_body refl
    (pass n.number w.number (number_serves w.number w.counts)) refl) refl) refl))

-- the root of a path that a name without `#` makes
abbrev alone_root : (x : NameOf) (at : Place) (us : List Lexeme) → SpellsName x at us → Root
alone_root x at us (inl w) = Local x false at
alone_root x at us (inr w) = Named x

plain_made : (x : NameOf) (at : Place) (us : List Lexeme) → (d : SpellsName x at us) → IsFree x → (s : Stack)
    → Got (Name o.plain_called ∷ []) us s (path (rooted (alone_root x at us d) at) ∷ s)
plain_made x at us (inl w) c s = by b.plain_called_1 b.plain_called_1_body refl (name_made others other_acts x at us w c s) refl
plain_made x at us (inr w) c s = by b.plain_called_2 b.plain_called_2_body refl (firm_made others other_acts x at us w s) refl

-- ---- second names

-- the path with a second name
abbrev based : PathTree → Option PlacedName → PathTree
based p None = p
based p (Some second) = stepped p (field second.0 second.1)

base_by : (p : PathTree) (c : Lexeme) (second : PlacedName) (us : List Lexeme) → IsSign "," c → SpellsName second.0 second.1 us → IsFree second.0 → (s : Stack)
    → Got (Name o.base_name ∷ []) (c ∷ us) (path p ∷ s) (path (stepped p (field second.0 second.1)) ∷ s)
base_by p c second us i (inl w) g s =
    by b.base_name_1 b.base_name_1_body refl
    (then (pass n.comma c (kind.comma c i)) (plain_made second.0 second.1 us (inl w) g (token c ∷ path p ∷ s))) refl
base_by p c second us i (inr w) g s =
    by b.base_name_1 b.base_name_1_body refl
    (then (pass n.comma c (kind.comma c i)) (plain_made second.0 second.1 us (inr w) g (token c ∷ path p ∷ s))) refl

base_made : (p : PathTree) (base : Option PlacedName) (us : List Lexeme) → SpellsBase (sign ",") base us → IsFreeOption base → (s : Stack)
    → Got (Name o.base ∷ []) us (path p ∷ s) (path (based p base) ∷ s)
base_made p None us d g s = on (sym d) (by b.base_2 b.base_2_body refl empty refl)
base_made p (Some second) us d g s =
    let c = d.in_front in
    on (sym (d.parts ∙ ap (λ (z : List Lexeme). z ++ d.back) c.alone))
    (by b.base_1 b.base_1_body refl (base_by p c.token second d.back c.is d.behind g s) refl)

-- ---- arguments

worded_made : (p : PathTree) (arg : ArgTree) (l : List ArgTree) (ts : List Lexeme) → SpellsArgsStl (arg ∷ l) ts → All IsFormedArg (arg ∷ l) → (s : Stack)
    → Got (Name o.call_arguments ∷ []) ts (path p ∷ s) (code (called (call_of p (arg ∷ l))) ∷ s)
worded_made p arg l ts d g s =
    let begin = d.in_front in
    let inner = d.behind.in_front in
    let end = d.behind.behind in
    let own : IsFormedArg arg = All-head IsFormedArg arg l g in
    let x : NamedArg arg inner.front = named arg inner.front inner.in_front own.name in
    on (sym (d.parts ∙ ap (λ (z : List Lexeme). z ++ d.back) begin.alone ∙ ap (λ (z : List Lexeme). begin.token ∷ z) (d.behind.parts
    ∙ ap (λ (z : List Lexeme). z ++ d.behind.back) (inner.parts ∙ ap (λ (z : List Lexeme). z ++ inner.back) x.parts ∙ append_assoc x.us x.vs inner.back)
    ∙ append_assoc x.us (x.vs ++ inner.back) d.behind.back ∙ ap (λ (z : List Lexeme). x.us ++ z) (append_assoc x.vs inner.back d.behind.back
    ∙ ap (λ (z : List Lexeme). x.vs ++ (inner.back ++ z)) end.alone))))
    (by b.call_arguments_1 b.call_arguments_1_body refl (then (pass n.paren_open begin.token (kind.paren_open begin.token begin.is))
    (then (name_made others other_acts x.word.0 x.word.1 x.us x.spells x.free (token begin.token ∷ path p ∷ s))
    (then (first_made instruction_productions own_acts arg inner.front x own (token begin.token ∷ path p ∷ s))
    (then (more_made instruction_productions own_acts l inner.back inner.behind (All-tail IsFormedArg arg l g) (arg ∷ []) (token begin.token ∷ path p ∷ s))
    (pass n.paren_close end.token (kind.paren_close end.token end.is)))))) refl)

args_made : (p : PathTree) (l : List ArgTree) (ts : List Lexeme) → SpellsArgsStl l ts → All IsFormedArg l → (s : Stack)
    → Got (Name o.call_arguments ∷ []) ts (path p ∷ s) (code (called (call_of p l)) ∷ s)
args_made p [] ts d g s =
    on (sym d) (by b.call_arguments_2 b.call_arguments_2_body refl (by b.bare_call_1 b.bare_call_1_body refl empty refl) refl)
args_made p (arg ∷ l) ts d g s = worded_made p arg l ts d g s

-- ---- calls, but for their place

-- the call of a path with its second name, as the tree has it
call_parts : (c : CallPlain) (base : Option PlacedName) (h : Bool) (at : Place) → base ≡ c.base → h ≡ c.hash → at ≡ c.place
    → ◌≡◌ {A = CallPlain} (record { name = c.name; name_place = c.name_place; hash = h; base = base; args = c.args; place = at }) c
call_parts c base h at e g i =
    ap (λ (z : Option PlacedName). record { name = c.name; name_place = c.name_place; hash = h; base = z; args = c.args; place = at }) e
    ∙ ap (λ (z : Bool). record { name = c.name; name_place = c.name_place; hash = z; base = c.base; args = c.args; place = at }) g
    ∙ ap (λ (z : Place). record { name = c.name; name_place = c.name_place; hash = c.hash; base = c.base; args = c.args; place = z }) i

hashed_call : (c : CallPlain) (q at : Place) (base : Option PlacedName) → c.base ≡ base → c.hash ≡ true → at ≡ c.place
    → ◌≡◌ {A = CallPlain} (record (call_of (based (rooted (Local c.name true c.name_place) q) base) c.args) { place = at }) c
hashed_call c q at None e h i = call_parts c None true at (sym e) (sym h) i
hashed_call c q at (Some second) e h i = call_parts c (Some second) true at (sym e) (sym h) i

plain_call : (c : CallPlain) (at : Place) (us : List Lexeme) (d : SpellsName c.name c.name_place us) (base : Option PlacedName) → c.base ≡ base → c.hash ≡ false
    → at ≡ c.place → ◌≡◌ {A = CallPlain} (record (call_of (based (rooted (alone_root c.name c.name_place us d) c.name_place) base) c.args) { place = at }) c
plain_call c at us (inl w) None e h i = call_parts c None false at (sym e) (sym h) i
plain_call c at us (inl w) (Some second) e h i = call_parts c (Some second) false at (sym e) (sym h) i
plain_call c at us (inr w) None e h i = call_parts c None false at (sym e) (sym h) i
plain_call c at us (inr w) (Some second) e h i = call_parts c (Some second) false at (sym e) (sym h) i

-- what stands behind CALL, behind a token that lies there
pub record CallMade (c : CallPlain) (at : Place) (ts : List Lexeme) : Type 0 where
  pub made : CallPlain
  pub same : ◌≡◌ {A = CallPlain} (record made { place = at }) c
  pub gets : (s : Stack) → Got (Name o.called_name ∷ Name o.base ∷ Name o.call_arguments ∷ []) ts s (code (called made) ∷ s)

call_by : (c : CallPlain) (at : Place) (hash : Bool) (us vs ws ts : List Lexeme) → at ≡ c.place → c.hash ≡ hash → SpellsCalledStl hash c.name c.name_place us
    → IsFreeBehind hash c.name → SpellsBase (sign ",") c.base vs → IsFreeOption c.base → SpellsArgsStl c.args ws → All IsFormedArg c.args
    → ts ≡ us ++ (vs ++ ws) → CallMade c at ts
call_by c at true us vs ws ts q h d k g m a e r =
    let hash = d.in_front in
    let p : PathTree = rooted (Local c.name true c.name_place) hash.token.place in
    record {
      made = call_of (based p c.base) c.args;
      same = hashed_call c hash.token.place at c.base refl h q;
      gets = λ s. on (sym (r ∙ ap (λ (z : List Lexeme). z ++ (vs ++ ws)) (d.parts ∙ ap (λ (z : List Lexeme). z ++ d.back) hash.alone)))
          (then (by b.called_name_2 b.called_name_2_body refl (hash_name_made hash.token c.name c.name_place d.back hash.is d.behind s) refl)
          (then (base_made p c.base vs g m s) (args_made (based p c.base) c.args ws a e s)));
    }
call_by c at false us vs ws ts q h d k g m a e r =
    let p : PathTree = rooted (alone_root c.name c.name_place us d) c.name_place in
    record {
      made = call_of (based p c.base) c.args;
      same = plain_call c at us d c.base refl h q;
      gets = λ s. on (sym r)
          (then (by b.called_name_1 b.called_name_1_body refl (plain_made c.name c.name_place us d k s) refl)
          (then (base_made p c.base vs g m s) (args_made (based p c.base) c.args ws a e s)));
    }

pub call_made : (c : CallPlain) (at : Place) (ts : List Lexeme) → at ≡ c.place → SpellsCallStl c ts → IsFormedCallStl c → CallMade c at ts
call_made c at ts q d g =
    call_by c at c.hash d.front d.behind.front d.behind.back ts q refl d.in_front g.as_in_scl.name d.behind.in_front g.base d.behind.behind g.as_in_scl.args
    (d.parts ∙ ap (λ (z : List Lexeme). d.front ++ z) d.behind.parts)

-- and behind UC
pub record AloneMade (c : CallPlain) (at : Place) (ts : List Lexeme) : Type 0 where
  pub made : CallPlain
  pub same : ◌≡◌ {A = CallPlain} (record made { place = at }) c
  pub gets : (s : Stack) → Got (Name o.plain_called ∷ Name o.bare_call ∷ []) ts s (code (called made) ∷ s)

alone_parts : (c : CallPlain) (at : Place) (ts : List Lexeme) (d : SpellsName c.name c.name_place ts) → c.hash ≡ false → c.base ≡ None → c.args ≡ [] → at ≡ c.place
    → ◌≡◌ {A = CallPlain} (record (call_of (rooted (alone_root c.name c.name_place ts d) c.name_place) []) { place = at }) c
alone_parts c at ts (inl w) h e a q =
    ap (λ (z : List ArgTree). record { name = c.name; name_place = c.name_place; hash = false; base = None; args = z; place = at }) (sym a)
    ∙ call_parts c None false at (sym e) (sym h) q
alone_parts c at ts (inr w) h e a q =
    ap (λ (z : List ArgTree). record { name = c.name; name_place = c.name_place; hash = false; base = None; args = z; place = at }) (sym a)
    ∙ call_parts c None false at (sym e) (sym h) q

free_of : (b : Bool) (x : NameOf) → b ≡ false → IsFreeBehind b x → IsFree x
free_of b x e k = subst (λ (z : Bool). IsFreeBehind z x) e k

by_bare : (c : CallPlain) (ts : List Lexeme) (d : SpellsName c.name c.name_place ts) → IsFree c.name → (s : Stack)
    → Got (Name o.plain_called ∷ Name o.bare_call ∷ []) ts s (code (called (call_of (rooted (alone_root c.name c.name_place ts d) c.name_place) [])) ∷ s)
by_bare c ts d g s =
    on (append-nil ts) (then (plain_made c.name c.name_place ts d g s) (by b.bare_call_1 b.bare_call_1_body refl empty refl))

pub alone_made : (c : CallPlain) (at : Place) (ts : List Lexeme) → at ≡ c.place → SpellsCallAlone c ts → IsFormedCallStl c → AloneMade c at ts
alone_made c at ts q d g = record {
  made = call_of (rooted (alone_root c.name c.name_place ts d.1) c.name_place) [];
  same = alone_parts c at ts d.1 d.0.0 d.0.1 d.0.2 q;
  gets = λ s. by_bare c ts d.1 (free_of c.hash c.name d.0.0 g.as_in_scl.name) s;
}
