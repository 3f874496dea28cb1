use Rattle.std.proofs.Common.{rules, w32, ◌≡◌, ◌∷◌, ◌++◌, [], List, sym, ap, ◌∙◌, subst}
use Rattle.std.specs.Prelude.{ℤ, neg_ℤ, pos}
use Rattle.std.proofs.lemmas.Int.{to_z-of_z}
use Rattle.std.proofs.lemmas.Result.{on_ok_weaker}
use Rattle.asp_split.specs.Parts.{AreStanding}
use Rattle.asp_split.specs.Dividing.{Divides}
use Rattle.asp_split.proofs.DivideLaws.{divided, divides_at, in_range, some_none, with-stands, without-stands}
use Rattle.asp_split.proofs.divide.divide.Goals as goal

pub unreachable-requires : goal.unreachable-requires
unreachable-requires g c = some_none c.args.leaf.next c.requires.open c.in-None.is

pub negative-requires : goal.negative-requires
negative-requires g c =
    in_range c.in-Some.atom (divides_at c.args.compiled.now c.args.leaf.cube c.args.leaf.next c.in-Some.atom c.requires.leaf.next c.in-Some.is).ranges

pub positive-requires : goal.positive-requires
positive-requires g c =
    in_range c.in-Some.atom (divides_at c.args.compiled.now c.args.leaf.cube c.args.leaf.next c.in-Some.atom c.requires.leaf.next c.in-Some.is).ranges

pub place-requires-clause-stand : goal.place-requires-clause-stand
place-requires-clause-stand g c =
    let p = c.args.compiled.now in
    let cube : List ℤ = c.args.leaf.cube in
    let divides : Divides p cube c.in-Some.atom = divides_at p cube c.args.leaf.next c.in-Some.atom c.requires.leaf.next c.in-Some.is in
    let e : c.in_ok-lacking-in-Some.lacking ≡ cube ++ neg_ℤ (pos c.in-Some.atom) ∷ [] =
    c.in_ok-lacking-in-Some.ensures ∙ ap (λ (l : ℤ). cube ++ l ∷ []) (to_z-of_z w32 c.negative.result (search rules) ∙ c.negative.ensures) in
    subst (AreStanding p) (sym e) (without-stands p cube c.in-Some.atom c.requires.leaf.stands divides.stands)

pub place-requires-in-Some-clause-stand : goal.place-requires-in-Some-clause-stand
place-requires-in-Some-clause-stand g c =
    let p = c.args.compiled.now in
    let cube : List ℤ = c.args.leaf.cube in
    let divides : Divides p cube c.in-Some.atom = divides_at p cube c.args.leaf.next c.in-Some.atom c.requires.leaf.next c.in-Some.is in
    let e : c.in_ok-having-in-Some.having ≡ cube ++ pos c.in-Some.atom ∷ [] =
    c.in_ok-having-in-Some.ensures ∙ ap (λ (l : ℤ). cube ++ l ∷ []) (to_z-of_z w32 c.positive.result (search rules) ∙ c.positive.ensures) in
    subst (AreStanding p) (sym e) (with-stands p cube c.in-Some.atom c.requires.leaf.stands divides.stands)

pub returns-clause-placed : goal.returns-clause-placed
returns-clause-placed g c =
    let p = c.args.compiled.now in
    let cube : List ℤ = c.args.leaf.cube in
    let divides : Divides p cube c.in-Some.atom = divides_at p cube c.args.leaf.next c.in-Some.atom c.requires.leaf.next c.in-Some.is in
    let having : c.in_ok-having-in-Some.having ≡ cube ++ pos c.in-Some.atom ∷ [] =
    c.in_ok-having-in-Some.ensures ∙ ap (λ (l : ℤ). cube ++ l ∷ []) (to_z-of_z w32 c.positive.result (search rules) ∙ c.positive.ensures) in
    let lacking : c.in_ok-lacking-in-Some.lacking ≡ cube ++ neg_ℤ (pos c.in-Some.atom) ∷ [] =
    c.in_ok-lacking-in-Some.ensures ∙ ap (λ (l : ℤ). cube ++ l ∷ []) (to_z-of_z w32 c.negative.result (search rules) ∙ c.negative.ensures) in
    on_ok_weaker c.place-in-Some.result
    (λ second. divided p c.args.leaves.now.items c.place.new.leaves.items c.place-in-Some.new.leaves.items cube c.in-Some.atom c.in_ok-lacking-in-Some.lacking c.in_ok-having-in-Some.having
    divides lacking having c.in_ok-place-in-Some.ensures.placed second) c.place-in-Some.ensures.placed
