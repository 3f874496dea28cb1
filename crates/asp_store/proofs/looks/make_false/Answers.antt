use Rattle.std.proofs.Common.{◌≡◌, List, [], ◌∷◌, ◌++◌, length, Some, inr, refl, sym, ap, ◌∙◌, subst, arith, get_or}
use Rattle.std.proofs.lemmas.List.{length-append, get_or_push}
use Rattle.asp_vars.specs.Literals.{complement}
use Rattle.asp_trail.specs.declared.trail.Entry.{Entry}
use Rattle.asp_trail.specs.Trails.{Trailed}
use Rattle.asp_trail.specs.Entries.{level}
use Rattle.asp_trail.proofs.HoldLaws.{holds_at}
use Rattle.asp_trail.specs.Reasons.{IsReason}
use Rattle.asp_store.proofs.LookLaws.{reason_new}
use Rattle.asp_store.proofs.looks.make_false.Goals as goal

pub returns-in-None-clause-grew : goal.returns-in-None-clause-grew
returns-in-None-clause-grew c =
    let es : List Entry = c.args.trail.now.entries in
    let e : Entry = record { lit = complement c.args.other; level = level es; reason = Some c.args.id } in
    let q : c.imply.new.self.entries ≡ es ++ e ∷ [] = ap (λ (t : Trailed). t.entries) (rw c.complement.ensures at c.imply.ensures) in
    inr (
      complement c.args.other,
      q,
      subst (λ (fs : List Entry). IsReason fs (length es) (complement c.args.other) c.args.lits.now) (sym q)
          (reason_new c.args.trail.now.vars es c.args.lits.now c.args.other e c.len-len.ensures.ordered c.requires.has c.requires.others),
    )

pub returns-in-None-clause-holds : goal.returns-in-None-clause-holds
returns-in-None-clause-holds c =
    let es : List Entry = c.args.trail.now.entries in
    let e : Entry = record { lit = complement c.args.other; level = level es; reason = Some c.args.id } in
    let q : c.imply.new.self.entries ≡ es ++ e ∷ [] = ap (λ (t : Trailed). t.entries) (rw c.complement.ensures at c.imply.ensures) in
    holds_at c.imply.new.self.vars c.imply.new.self.entries (length es) e (complement c.args.other) c.len-new_len.ensures.ordered
    (omega (arith, ap (length {A = Entry}) q, length-append es (e ∷ [])))
    (ap (λ (fs : List Entry). (get_or fs (length es) e).lit) q ∙ ap (λ (f : Entry). f.lit) (get_or_push es e e (length es) refl))
