use Rattle.std.proofs.Common.{rules, ◌≡◌, ℕ, true, sym, ap, ◌∙◌, subst}
use Rattle.std.proofs.lemmas.Bool.{or_right}
use Rattle.asp_model.specs.Sound.{IsSound}
use Rattle.asp_named.specs.Named.{are_plain, first_free, fits, named, named_from}
use Rattle.asp_named.proofs.LimitLaws.{named_if-plain, sound-named}
use Rattle.asp_named.proofs.named.name.Goals as goal

pub returns-then-are_plain-clause-named : goal.returns-then-are_plain-clause-named
returns-then-are_plain-clause-named c = sym (named_if-plain c.args.program (sym c.are_plain.ensures ∙ c.if-are_plain.true))

pub returns-clause-sound : goal.returns-clause-sound
returns-clause-sound c =
    let p = c.args.program in
    let fit : c.fits.result ≡ true = search rules in
    let first : c.in_ok-first.first ≡ first_free p = c.in_ok-first.ensures.free in
    let is : c.in_ok-named.named ≡ named p = c.in_ok-named.ensures ∙ ap (λ (a : ℕ). named_from a p) first in
    subst IsSound (sym is) (sound-named p c.requires (or_right (are_plain p.outputs) _ (ap (λ (a : ℕ). fits a p) (sym first) ∙ sym c.fits.ensures ∙ fit)))
