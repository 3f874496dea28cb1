use Rattle.std.proofs.Common.{nat_eq, List, map, ap, subst}
use Rattle.std.proofs.lemmas.List.Elements.{All-from_recursion}
use Rattle.std.proofs.lemmas.List.Sorted.{IsPermutation-map}
use Rattle.std.specs.Cmp.Lexicographic.{pointwise, slice_cmp}
use Rattle.std.specs.List.Sorted.{IsPermutation}
use Rattle.std.specs.Ordering.{nat_cmp}
use Rattle.asp_model.specs.Sets.{Atoms, IsAscending, same_set, set_cmp}
use Rattle.asp_rows.specs.declared.row.Row.{Row}
use Rattle.asp_rows.specs.Listed.{IsRowOf, Listed}
use Rattle.asp_rows.proofs.OrderLaws.{row_cmp_is, row_eq_is}
use Rattle.asp_rows.proofs.SortLaws.{filtered_all, permuted_all, filtered_map, sorted_map}
use Rattle.asp_rows.proofs.rows.Rows.make_single.Goals as goal

pub invariant_of-self : goal.invariant_of-self
invariant_of-self c =
    filtered_all (IsRowOf c.self.inside.atoms) _ c.sort_unstable.new.self.items c.dedup.new.self.items
    (permuted_all (IsRowOf c.self.inside.atoms) c.self.inside.rows.items c.sort_unstable.new.self.items c.self.invariant c.sort_unstable.ensures.permutation)
    c.dedup.ensures.filtered

pub returns-clause-sets : goal.returns-clause-sets
returns-clause-sets c =
    let all = permuted_all (IsRowOf c.self.inside.atoms) c.self.inside.rows.items c.sort_unstable.new.self.items c.self.invariant c.sort_unstable.ensures.permutation in
    let up : IsAscending c.self.inside.atoms = subst IsAscending c.as_slice-ascending.ensures.value c.as_slice-ascending.ensures.ascending in
    record {
      sorted = map (λ (x : Row). x.set) c.sort_unstable.new.self.items;
      permutation = subst (λ (t : List Atoms). IsPermutation t (map (λ (x : Row). x.set) c.sort_unstable.new.self.items))
          (ap (λ (l : Listed). l.sets) c.self.view_is)
          (IsPermutation-map (λ (x : Row). x.set) c.self.inside.rows.items c.sort_unstable.new.self.items c.sort_unstable.ensures.permutation);
      rising = sorted_map (λ (x : Row). x.set) (IsRowOf c.self.inside.atoms) (λ (x y : Row). slice_cmp nat_cmp x.words.items y.words.items) set_cmp
          c.sort_unstable.new.self.items (row_cmp_is c.self.inside.atoms up)
          (All-from_recursion (IsRowOf c.self.inside.atoms) c.sort_unstable.new.self.items all) c.sort_unstable.ensures.sorted;
      once = filtered_map (λ (x : Row). x.set) (IsRowOf c.self.inside.atoms) (λ (x y : Row). pointwise nat_eq x.words.items y.words.items) same_set
          c.sort_unstable.new.self.items c.dedup.new.self.items (row_eq_is c.self.inside.atoms up) all c.dedup.ensures.filtered;
    }
