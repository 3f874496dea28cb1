-- What is sought of a program, and what a run at its limit has.
use Rattle.std.proofs.Common.{◌≡◌, ℕ, ◌<◌, Bool, true, false, cond, List, [], ◌∷◌, length, refl, sym, ap, ◌∙◌, subst, arith}
use Rattle.std.specs.Prelude.{ℤ, Option, None, Some}
use Rattle.std.proofs.lemmas.Bool.{false≢true}
use Rattle.asp_model.specs.declared.program.Minimize.{Minimize}
use Rattle.asp_model.specs.declared.program.Program.{Program}
use Rattle.asp_model.specs.declared.results.Ask.{Ask}
use Rattle.asp_model.specs.declared.results.End.TheVariants.{Limited}
use Rattle.asp_model.specs.declared.results.Mode.{Mode}
use Rattle.asp_model.specs.declared.results.Mode.TheVariants.{Enum, Opt, Consequences}
use Rattle.asp_model.specs.Asked.{reasoning_of}
use Rattle.asp_model.specs.Found.{Found}
use Rattle.asp_model.specs.Sets.{Atoms}
use Rattle.asp_model.specs.Sound.{IsSound}
use Rattle.asp_model.specs.Texts.{bests}
use Rattle.asp_cli.specs.declared.Options.{Options}
use Rattle.asp_cli.specs.Found.{seeks_consequences}
use Rattle.asp_named.specs.Named.{has_numbers, named}
use Rattle.asp_named.proofs.LimitLaws.{sound-named}
use Rattle.asp_crew_laws.specs.declared.report.Report.{Report}
use Rattle.asp_crew_laws.specs.Reports.{asks_list, IsAsked, IsReport, Says as SaysReport}
use Rattle.asp_prepare.specs.Meaning.{has_model, has_model_in, is_some_of, mode_by, mode_of}
use Rattle.asp_prepare.specs.Naming.{HasNumbers, asked, asked_if, is_named}

-- a run that ended at its limit has a model
recorded-some : (best : Option (Atoms × List ℤ)) (L : List Atoms) → 0 < length L → is_some_of (bests best L) ≡ true
recorded-some best [] h = absurd (let f : ⊥ = omega (arith, h) in f)
recorded-some best (S ∷ L) h = refl

listed-some : (L : List Atoms) → 0 < length L → is_some_of L ≡ true
listed-some [] h = absurd (let f : ⊥ = omega (arith, h) in f)
listed-some (S ∷ L) h = refl

some-by : (mode : Mode) (r : Found) → reasoning_of mode ≡ None → 0 < length r.answers → has_model_in mode r ≡ true
some-by Enum r e h = listed-some r.answers h
some-by Opt r e h = recorded-some r.best r.answers h
some-by (Consequences w) r e h = absurd (some e)
  where
    some : Some w ≡ None → ⊥
    some e = cc

listed-mode : (all : Bool) (mode : Mode) → asks_list all mode ≡ true → reasoning_of mode ≡ None
listed-mode all Enum e = refl
listed-mode all Opt e = refl
listed-mode all (Consequences w) e = absurd (false≢true e)

pub limited-has : (p : Program) (ask : Ask) (units : ℕ) (r : Report) → IsReport p ask units r → r.results.end ≡ Limited → has_model r.results ≡ true
limited-has p ask units r is e =
    let asked : IsAsked p ask r.results = subst (SaysReport p ask r) e is.says in
    some-by r.results.mode r.results (ap reasoning_of is.mode_is ∙ listed-mode ask.all_optima ask.mode asked.listing) (omega (arith, asked.some, asked.count))

-- no consequences are sought beside a proof
pub unsought : (o : Option Mode) (p : Program) → seeks_consequences (Some o) ≡ false → reasoning_of (mode_of o p) ≡ None
unsought None p e = own p.minimize
  where
    own : (ms : List Minimize) → reasoning_of (mode_by ms) ≡ None
    own [] = refl
    own (m ∷ ms) = refl
unsought (Some Enum) p e = refl
unsought (Some Opt) p e = refl
unsought (Some (Consequences r)) p e = absurd (false≢true (sym e))

-- the program whose answers are sought is within the limits
pub asked-sound : (given : Options) (p : Program) → IsSound p → HasNumbers given p → IsSound (asked given p)
asked-sound given p sound numbers = by (is_named given) refl
  where
    by : (b : Bool) → is_named given ≡ b → IsSound (cond b (named p) p)
    by true e = sound-named p sound (numbers e)
    by false e = sound

-- which program's answers are sought
pub asked-is : (given : Options) (p q : Program) → Some q ≡ asked_if given p → q ≡ asked given p
asked-is given p q is = by (is_named given) (has_numbers p) is
  where
    by : (b n : Bool) → Some q ≡ cond b (cond n (Some (named p)) None) (Some p) → q ≡ cond b (named p) p
    by true true e = cc
    by true false e = absurd cc
    by false n e = cc
