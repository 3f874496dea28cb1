use Rattle.std.proofs.Common.{◌≡◌, ◌≢◌, ℕ, ◌+◌, ◌-◌, ◌<◌, Bool, true, false, cond, eqb, List, length, get_or, set, sym, refl, ap, ◌∙◌, arith, get_or-set_same}
use Rattle.std.proofs.lemmas.Bool.{false≢true, eqb-true, eq-eqb}
use Rattle.std.proofs.lemmas.List.{length-set}
use Rattle.asp_vars.specs.Tabled.{IsAtomVar}
use Rattle.asp_scc.specs.Components.{Parts}
use Rattle.asp_source.specs.Marks.{is_marked}
use Rattle.asp_source.specs.Pointers.{AreMarked}
use Rattle.asp_source.proofs.ChangeLaws.{var_component, set_marked}
use Rattle.asp_source.proofs.start.queue_all.Goals as goal

-- one atom more
marked_more : (c : Parts) (old new : List Bool) (i : ℕ) → i < length old →
    new ≡ cond (get_or c.trivial (get_or c.numbers (i + 1) 0) false) old (set old i true) → AreMarked c i old → AreMarked c (i + 1) new
marked_more c old new i lt is h v some_ small cyclic = ap (λ m. is_marked m (v - 1)) is ∙ cases (eqb v (i + 1)) refl
  where
    keep : (t : Bool) (k : ℕ) → is_marked old k ≡ true → is_marked (cond t old (set old i true)) k ≡ true
    keep true k e = e
    keep false k e = set_marked old i k e

    cases : (b : Bool) → b ≡ eqb v (i + 1) → is_marked (cond (get_or c.trivial (get_or c.numbers (i + 1) 0) false) old (set old i true)) (v - 1) ≡ true
    cases true q =
        let same : v ≡ i + 1 = eqb-true v (i + 1) (sym q) in
        ap (λ t. is_marked (cond t old (set old i true)) (v - 1)) (ap (λ w. get_or c.trivial (get_or c.numbers w 0) false) (sym same) ∙ cyclic)
        ∙ ap (is_marked (set old i true)) (let place : v - 1 ≡ i = omega (arith, same) in place)
        ∙ get_or-set_same old i true false lt
    cases false q =
        let ne : v ≢ i + 1 = λ e. false≢true (q ∙ eq-eqb v (i + 1) e) in
        keep (get_or c.trivial (get_or c.numbers (i + 1) 0) false) (v - 1) (h v some_ (omega (arith, small, ne)) cyclic)

more-length : (t : Bool) (old : List Bool) (i : ℕ) → length (cond t old (set old i true)) ≡ length old
more-length true old i = refl
more-length false old i = length-set old i true

pub loop-atom-init : goal.loop-atom-init
loop-atom-init c = (c.requires.size, λ v some_ none_ cyclic. absurd (omega (arith, some_, none_)))

pub queue_atom-requires-clause-atom : goal.queue_atom-requires-clause-atom
queue_atom-requires-clause-atom c =
    let is : IsAtomVar c.args.compiled.now (c.loop-atom.atom + 1) = (omega arith, omega (arith, c.loop-atom-test.true, c.atom_count-atom-end.ensures.count)) in
    (var_component c.args.compiled.now c.args.components.now (c.loop-atom.atom + 1) c.requires.components is).0

pub queue_atom-requires-clause-trivial : goal.queue_atom-requires-clause-trivial
queue_atom-requires-clause-trivial c =
    let is : IsAtomVar c.args.compiled.now (c.loop-atom.atom + 1) = (omega arith, omega (arith, c.loop-atom-test.true, c.atom_count-atom-end.ensures.count)) in
    (var_component c.args.compiled.now c.args.components.now (c.loop-atom.atom + 1) c.requires.components is).1

pub loop-atom-preserved : goal.loop-atom-preserved
loop-atom-preserved c = (
  ap length c.queue_atom.ensures ∙ more-length
      (get_or c.args.components.now.trivial (get_or c.args.components.now.numbers (c.loop-atom.atom + 1) 0) false) c.loop-atom.queue c.loop-atom.atom
      ∙ c.loop-atom.invariant.0,
  marked_more c.args.components.now c.loop-atom.queue c.queue_atom.new.queue c.loop-atom.atom
      (omega (arith, c.loop-atom-test.true, c.atom_count-atom-end.ensures.count, c.loop-atom.invariant.0)) c.queue_atom.ensures
      c.loop-atom.invariant.1,
)
