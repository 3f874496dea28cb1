use Rattle.std.proofs.Common.{◌≡◌, Bool, true, false, cond, List, [], ◌∷◌, ◌++◌, map, sym, ap, ◌∙◌, append-nil}
use Rattle.asp_model.specs.declared.program.Body.{Body}
use Rattle.asp_vars.specs.Numbering.{is_apart, nth_body}
use Rattle.asp_found.specs.Marks.{marks_hold}
use Rattle.asp_found.proofs.values.push_body.Goals as goal

pub returns-then-not-is_apart : goal.returns-then-not-is_apart
returns-then-not-is_apart c =
    let old : List Bool = c.args.values.now.items in
    let b : Body = nth_body c.args.compiled.now c.args.body in
    let shared : is_apart c.args.compiled.now b ≡ false = sym c.is_apart.ensures ∙ c.if-not-is_apart.true in
    sym (ap (λ t. old ++ map (marks_hold c.args.compiled.now old old) (cond t (b ∷ []) [])) shared ∙ append-nil old)

pub returns : goal.returns
returns c =
    let old : List Bool = c.args.values.now.items in
    let b : Body = nth_body c.args.compiled.now c.args.body in
    let apart : is_apart c.args.compiled.now b ≡ true = sym c.is_apart.ensures ∙ c.if-not-is_apart.false in
    let holds : c.holds-holds.result ≡ marks_hold c.args.compiled.now old old b =
    c.holds-holds.ensures
    ∙ ap (λ (marks : List Bool). marks_hold c.args.compiled.now marks c.as_slice-2.result.now b) c.as_slice.ensures.value
    ∙ ap (λ (marks : List Bool). marks_hold c.args.compiled.now old marks b) c.as_slice-2.ensures.value in
    c.in_ok-push.ensures.items
    ∙ ap (λ v. old ++ v ∷ []) holds
    ∙ sym (ap (λ t. old ++ map (marks_hold c.args.compiled.now old old) (cond t (b ∷ []) [])) apart)
