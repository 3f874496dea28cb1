-- A core that is made smaller, literal by literal.
use Rattle.std.proofs.Common.{◌≡◌, ◌∙◌, ℕ, ◌-◌, Bool, true, false, List, [], ◌∷◌, ◌++◌, length, take, refl, sym, ap, subst, arith}
use Rattle.std.specs.Prelude.{ℤ, None, Some, Result, Ok, Err, IfOk}
use Rattle.std.specs.Ordering.{int_eq}
use Rattle.std.proofs.lemmas.Bool.{false≢true}
use Rattle.std.proofs.Math.Seq.{take-length}
use Rattle.asp_model.specs.declared.program.Program.{Program}
use Rattle.asp_model.specs.Sound.{IsSound}
use Rattle.asp_unsat.specs.Cores.{is_listed}
use Rattle.asp_vars.proofs.NumberingLaws.{int_eq_same}
use Rattle.asp_series.specs.declared.cores.Core.{Core}
use Rattle.asp_series.specs.declared.cores.Shrinking.{Shrinking}
use Rattle.asp_series.specs.Asking.{AreAmong, AreSame, IsEnough, IsLeast, IsReason, IsShrunk, IsSoundWith, Meets, Refutes, Shrinks}
use Rattle.asp_series.specs.Series.{without}
use Rattle.asp_series.proofs.CoreLaws.{among-without, assuming, either, gone, length-without, listed-push, meets-fewer, meets-itself, refutes-bare, refutes-itself, refutes-more, sound-with, without-among}

itself : (ls : List ℤ) → AreAmong ls ls
itself ls = λ l h. h

pub shrinks-needless : (p : Program) (l : ℤ) (s : Shrinking) (core : List ℤ) (spent left : ℕ) → s.is_open ≡ false → core ≡ without l s.core → left ≡ s.left - spent → Refutes p core
    → Shrinks p l s (record { core = core; left = left; is_open = s.is_open })
shrinks-needless p l s core spent left closed is rest none =
    subst (λ (ls : List ℤ). Shrinks p l s (record { core = ls; left = left; is_open = s.is_open })) (sym is) (record {
      among = among-without l s.core;
      few = length-without l s.core;
      core = λ all. subst (Refutes p) is none;
      stays = λ e. e;
      tried = λ shut h. absurd (false≢true (sym (gone l s.core) ∙ h));
      paid = omega (arith, rest);
      open_at = λ all e. absurd (false≢true (sym closed ∙ e));
    })

-- ---- all of them
not-yet : (a b : Bool) → (a ≡ true → b ≡ true) → b ≡ false → a ≡ false
not-yet false b h e = refl
not-yet true b h e = absurd (false≢true (sym e ∙ h refl))

pub shrunk-more : (p : Program) (all : List ℤ) (units : ℕ) (tried : List ℤ) (l : ℤ) (s t : Shrinking) → IsShrunk p all units tried s → Shrinks p l s t → IsShrunk p all units (tried ++ l ∷ []) t
shrunk-more p all units tried l s t was step = record {
  among = λ k h. was.among k (step.among k h);
  few = let a = was.few in let b = step.few in omega (arith, a, b);
  core = step.core was.core;
  each = λ shut k listed h.
      either (Meets p (without k t.core)) (is_listed tried k) (int_eq l k) (sym (listed-push tried l k) ∙ listed)
      (λ before. meets-fewer p (without k t.core) (without k s.core) (without-among k t.core s.core step.among) (was.each (not-yet s.is_open t.is_open step.stays shut) k before (step.among k h)))
      (λ same. subst (λ (j : ℤ). Meets p (without j t.core)) (int_eq_same l k same) (step.tried shut (subst (λ (j : ℤ). is_listed t.core j ≡ true) (sym (int_eq_same l k same)) h)));
  paid = let a = was.paid in let b = step.paid in omega (arith, a, b);
  open_at = step.open_at was.open_at;
}

-- ---- what suffices
-- all that was assumed
pub same-enough : (p : Program) (all literals : List ℤ) → AreSame all literals → Refutes p all → IsEnough p all literals
same-enough p all literals same none = record {
  among = λ l h. sym (same.same l) ∙ h;
  few = same.few;
  none = refutes-more p all literals (λ l h. same.same l ∙ h) none;
}

-- the same in another order
pub enough-same : (p : Program) (all some literals : List ℤ) → IsEnough p all some → AreSame some literals → IsEnough p all literals
enough-same p all some literals is same = record {
  among = λ l h. is.among l (sym (same.same l) ∙ h);
  few = let a = is.few in let b = same.few in omega (arith, a, b);
  none = refutes-more p some literals (λ l h. same.same l ∙ h) is.none;
}

-- ---- of the program itself
pub least-reason : (p : Program) (literals some : List ℤ) (units : ℕ) (c : Core) → IsSound p → IsSound (assuming p []) → IsEnough p literals some → IsLeast (assuming p []) some units c
    → IsReason true p literals true units (Some c)
least-reason p literals some units c sound bare enough least = record {
  core = (
    record { among = λ l h. enough.among l (least.core.among l h); suffices = refutes-itself p [] c.literals sound bare least.core.suffices },
    λ e l h. meets-itself p [] (without l c.literals) sound bare (least.minimal e l h),
  );
  paid = least.paid;
  plain = λ e. absurd (false≢true (sym e));
  spends = λ e all_spent. least.open_at all_spent;
}

-- what is told as it is
pub whole-reason : (p : Program) (literals some : List ℤ) (units : ℕ) → IsEnough p literals some →
    IsReason false p literals true units (Some (record { literals = some; minimal = false; spent = 0 }))
whole-reason p literals some units enough = record {
  core = (record { among = enough.among; suffices = enough.none }, λ e. absurd (false≢true e));
  paid = omega arith;
  plain = λ e. refl;
  spends = λ e. absurd (false≢true e);
}

pub least-reasons : {E : Type 0} (p : Program) (literals some : List ℤ) (units : ℕ) (q : Program) (r : Result Core E) → IsSound p → IsSound (assuming p []) → q ≡ assuming p []
    → IsEnough p literals some → IfOk r (IsLeast q some units) → IfOk r (λ c. IsReason true p literals true units (Some c))
least-reasons p literals some units q (Err e) sound bare is enough h = tt
least-reasons p literals some units q (Ok c) sound bare is enough h = least-reason p literals some units c sound bare enough (subst (λ (x : Program). IsLeast x some units c) is h)

pub nothing-assumed : (p : Program) (literals : List ℤ) → IsSound (assuming p literals) → IsSound (assuming p [])
nothing-assumed p literals sound = (sound-with p literals [] sound (λ l h. absurd (false≢true h)) (omega arith)).itself

-- what the least core is made of
pub bare-sound : (p q : Program) (literals some : List ℤ) → q ≡ assuming p [] → IsSound (assuming p literals) → IsEnough p literals some → IsSoundWith q some
bare-sound p q literals some is sound enough = subst (λ (x : Program). IsSoundWith x some) (sym is) (sound-with p literals some sound enough.among enough.few)

pub bare-none : (p q : Program) (literals some : List ℤ) → q ≡ assuming p [] → IsSound p → IsSound (assuming p []) → IsEnough p literals some → Refutes q some
bare-none p q literals some is sound bare enough = subst (λ (x : Program). Refutes x some) (sym is) (refutes-bare p [] some sound bare enough.none)

-- where the query has a model, or isn't finished
pub no-reason : (least : Bool) (p : Program) (literals : List ℤ) (refuted : Bool) (units : ℕ) → refuted ≡ false → IsReason least p literals refuted units None
no-reason least p literals refuted units is = subst (λ (b : Bool). IsReason least p literals b units None) (sym is) (record {
  core = refl;
  paid = omega arith;
  plain = λ e. refl;
  spends = λ e. tt;
})

pub shrunk-all : (p : Program) (all : List ℤ) (units i : ℕ) (s : Shrinking) → i ≡ length all → IsShrunk p all units (take i all) s → IsShrunk p all units all s
shrunk-all p all units i s is was = subst (λ (ls : List ℤ). IsShrunk p all units ls s) (ap (λ (n : ℕ). take n all) is ∙ take-length all) was
