-- What stands in a list of watches, and how it is stored: the number doubled, and one more for a short nogood.
use Rattle.std.specs.Prelude.{◌≡◌, ℕ, ◌+◌, ◌*◌, ◌/◌, ◌%◌, ◌==◌, Bool, if◌then◌else◌}
use Rattle.std.proofs.Common.{arith, ap}
use Rattle.std.proofs.lemmas.Bool.Decides.{nat_tests}
use Rattle.asp_vars.specs.Literals.{Literal}
use Rattle.asp_store.specs.declared.watch.Watch.TheInside.{Inside}

-- A nogood's number beside a literal of it, and whether the list's literal and this one are all of its literals.
pub record Watch : Type 0 where
  pub blocker : Literal
  pub id : ℕ
  pub is_short : Bool

abbrev pub mark_of : ℕ → Bool → ℕ
mark_of id is_short = 2 * id + (if is_short then 1 else 0)

mark_inverse : (n : ℕ) → mark_of (n / 2) (n % 2 == 1) ≡ n
mark_inverse n = grind (arith, nat_tests)

abbrev pub view : Inside → Watch
view w = record { blocker = w.blocker; id = w.mark / 2; is_short = w.mark % 2 == 1 }

abbrev pub inverse : Watch → Inside
inverse w = record { blocker = w.blocker; mark = mark_of w.id w.is_short }

pub inverse_view : (w : Inside) → inverse (view w) ≡ w
inverse_view w = ap (λ n. let i : Inside = record { blocker = w.blocker; mark = n } in i) (mark_inverse w.mark)
