-- The different priorities, with one more statement.
use Rattle.std.proofs.Common.{◌≡◌, ℕ, ◌+◌, ◌≤◌, List, [], ◌∷◌, ◌++◌, length, refl, sym, ap, ◌∙◌, arith}
use Rattle.std.specs.Prelude.{ℤ, map}
use Rattle.std.proofs.lemmas.List.{map_push}
use Rattle.std.proofs.lemmas.List.Sums.{sum_by-append}
use Rattle.asp_model.specs.declared.program.Program.{Program}
use Rattle.asp_model.specs.declared.program.Minimize.{Minimize}
use Rattle.asp_read.specs.Sizes.{program_size}
use Rattle.asp_read.specs.Fields.{most_counted}
use Rattle.asp_read.specs.Statements.{different, with_number}
use Rattle.asp_read.specs.Kept.{IsKept}

different_push : (seen zs : List ℤ) (z : ℤ) → different seen (zs ++ z ∷ []) ≡ with_number (different seen zs) z
different_push seen [] z = refl
different_push seen (y ∷ zs) z = different_push (with_number seen y) zs z

pub kept_minimize : (p q : Program) (m : Minimize) (used : ℕ) (seen : List ℤ) (ms : List Minimize) (size : ℕ) (now : List ℤ) → IsKept p used seen →
    p ≡ q → program_size q + length m.items ≤ most_counted
    → ms ≡ p.minimize ++ m ∷ [] → size ≡ length m.items → now ≡ with_number seen m.priority → IsKept (record p { minimize = ms }) (used + size) now
kept_minimize p q m used seen ms size now kept same bound ms-is size-is now-is = rw (ms-is, size-is, now-is) (record {
  size = omega (arith, kept.size, sum_by-append (λ (x : Minimize). length x.items) p.minimize (m ∷ []));
  bound = omega (arith, kept.size, bound, ap program_size same);
  priorities_are = ap (λ (l : List ℤ). with_number l m.priority) kept.priorities_are
      ∙ sym (different_push [] (map (λ (x : Minimize). x.priority) p.minimize) m.priority)
      ∙ ap (different []) (sym (map_push (λ (x : Minimize). x.priority) p.minimize m));
})
