use Rattle.std.proofs.Common.{◌≡◌, ℕ, Bool, cond, List, [], ◌∷◌, ◌++◌, map, length, Option, Some, None, arith, sym, ap, ◌∙◌}
use Rattle.std.specs.Prelude.{ℤ}
use Rattle.std.specs.Ordering.{int_eq}
use Rattle.std.specs.Cmp.Lexicographic.{pointwise}
use Rattle.std.proofs.lemmas.List.{map_push, length-map}
use Rattle.asp_vars.proofs.NumberingLaws.{body_eq-itself}
use Rattle.asp_model.specs.declared.program.Body.{Body}
use Rattle.asp_vars.specs.Numbering.{body_eq, place_of, with_body}
use Rattle.asp_compile.specs.Forms.{body_of, key_of}
use Rattle.asp_compile.specs.Placed.{place_by}
use Rattle.asp_compile.proofs.KeyLaws.{found, missing, place_of-past, place_by-push}
use Rattle.asp_compile.proofs.bodies.Bodies.with.Goals as goal

pub returns-in-Some-clause-bodies : goal.returns-in-Some-clause-bodies
returns-in-Some-clause-bodies c =
    let b : Body = body_of c.args.form in
    let bs : List Body = map body_of c.self.inside.forms.items in
    let led : place_by (key_of b) bs ≡ Some c.in-Some.place =
    ap (λ (k : List ℤ). place_by k bs) (sym c.in_ok-key.ensures) ∙ sym (c.self.invariant c.in_ok-key.key) ∙ sym c.get.ensures.value ∙ sym c.copied.ensures ∙ c.in-Some.is in
    ap (λ (t : Bool). cond t bs (bs ++ b ∷ [])) (sym (found b bs c.in-Some.place led).0) ∙ ap (λ (xs : List Body). with_body xs b) c.self.view_is

pub returns-in-Some-clause-place : goal.returns-in-Some-clause-place
returns-in-Some-clause-place c =
    let b : Body = body_of c.args.form in
    let bs : List Body = map body_of c.self.inside.forms.items in
    let led : place_by (key_of b) bs ≡ Some c.in-Some.place =
    ap (λ (k : List ℤ). place_by k bs) (sym c.in_ok-key.ensures) ∙ sym (c.self.invariant c.in_ok-key.key) ∙ sym c.get.ensures.value ∙ sym c.copied.ensures ∙ c.in-Some.is in
    (found b bs c.in-Some.place led).1

pub invariant_of-result-in-None : goal.invariant_of-result-in-None
invariant_of-result-in-None c =
    let b : Body = body_of c.args.form in
    let bs : List Body = map body_of c.self.inside.forms.items in
    let led : place_by (key_of b) bs ≡ None =
    ap (λ (k : List ℤ). place_by k bs) (sym c.in_ok-key.ensures) ∙ sym (c.self.invariant c.in_ok-key.key) ∙ sym c.get.ensures.value ∙ sym c.copied.ensures ∙ c.in-None.is in
    let more : map body_of c.push.new.self.items ≡ bs ++ b ∷ [] = ap (map body_of) c.in_ok-push-in-None.ensures.items ∙ map_push body_of c.self.inside.forms.items c.args.form in
    let count : length c.as_slice.result.now ≡ length bs = ap length c.as_slice.ensures.value ∙ sym (length-map c.self.inside.forms.items body_of) in
    λ q.
    c.in_ok-insert-in-None.ensures.updates.0 q
    ∙ ap (λ (o : Option ℕ). cond (pointwise int_eq c.in_ok-key.key.items q.items) (Some (length c.as_slice.result.now)) o) (c.self.invariant q)
    ∙ ap (λ (k : List ℤ). cond (pointwise int_eq k q.items) (Some (length c.as_slice.result.now)) (place_by q.items bs)) c.in_ok-key.ensures
    ∙ ap (λ (n : ℕ). cond (pointwise int_eq (key_of b) q.items) (Some n) (place_by q.items bs)) count
    ∙ sym (place_by-push q.items bs b (missing b bs led))
    ∙ ap (place_by q.items) (sym more)

pub returns-in_ok-insert-in-None-clause-bodies : goal.returns-in_ok-insert-in-None-clause-bodies
returns-in_ok-insert-in-None-clause-bodies c =
    let b : Body = body_of c.args.form in
    let bs : List Body = map body_of c.self.inside.forms.items in
    let led : place_by (key_of b) bs ≡ None =
    ap (λ (k : List ℤ). place_by k bs) (sym c.in_ok-key.ensures) ∙ sym (c.self.invariant c.in_ok-key.key) ∙ sym c.get.ensures.value ∙ sym c.copied.ensures ∙ c.in-None.is in
    ap (map body_of) c.in_ok-push-in-None.ensures.items
    ∙ map_push body_of c.self.inside.forms.items c.args.form
    ∙ ap (λ (t : Bool). cond t bs (bs ++ b ∷ [])) (sym (missing b bs led))
    ∙ ap (λ (xs : List Body). with_body xs b) c.self.view_is

pub returns-in_ok-insert-in-None-clause-place : goal.returns-in_ok-insert-in-None-clause-place
returns-in_ok-insert-in-None-clause-place c =
    let b : Body = body_of c.args.form in
    let bs : List Body = map body_of c.self.inside.forms.items in
    let led : place_by (key_of b) bs ≡ None =
    ap (λ (k : List ℤ). place_by k bs) (sym c.in_ok-key.ensures) ∙ sym (c.self.invariant c.in_ok-key.key) ∙ sym c.get.ensures.value ∙ sym c.copied.ensures ∙ c.in-None.is in
    let more : map body_of c.push.new.self.items ≡ bs ++ b ∷ [] = ap (map body_of) c.in_ok-push-in-None.ensures.items ∙ map_push body_of c.self.inside.forms.items c.args.form in
    let count : length c.as_slice.result.now ≡ length bs = ap length c.as_slice.ensures.value ∙ sym (length-map c.self.inside.forms.items body_of) in
    let past = place_of-past (body_eq b) bs (b ∷ []) (missing b bs led) in
    let here : cond (body_eq b b) 0 1 ≡ 0 = ap {B = ℕ} (λ (t : Bool). cond t 0 1) (body_eq-itself b) in
    let at : length bs ≡ place_of (body_eq b) (bs ++ b ∷ []) = omega (arith, past, here) in
    count ∙ at ∙ ap (place_of (body_eq b)) (sym more)
