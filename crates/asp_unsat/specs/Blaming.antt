-- The literals of nogoods by their codes, as the code looks them up.
use Rattle.std.specs.Prelude.{ℕ, Bool, List, [], fold, filter, ℤ}
use Rattle.std.specs.Ordering.{nat_cmp}
use Rattle.std.specs.List.{list_any}
use Rattle.std.specs.BTreeMap.{is_at}
use Rattle.std.specs.BTreeSet.{insert_key}
use Rattle.asp_model.specs.declared.program.Program.{Program}
use Rattle.asp_vars.specs.Codes.{code_of}
use Rattle.asp_vars.specs.Literals.{Literal}
use Rattle.asp_vars.specs.Numbering.{literal_of}
use Rattle.asp_core.specs.declared.reason.Reason.{Reason}

-- these codes, with those of the literals
abbrev pub with_codes : List ℕ → List Literal → List ℕ
with_codes codes lits = fold (λ ks l. insert_key nat_cmp ks (code_of l)) codes lits

-- the codes of the literals that stand in the nogoods
abbrev pub codes_by : List Reason → List ℕ
codes_by reasons = fold (λ ks r. with_codes ks r.nogood) [] reasons

abbrev pub has_code : List ℕ → ℕ → Bool
has_code codes n = list_any (is_at (nat_cmp n)) codes

-- those of the literals whose codes are among these
abbrev pub coded_in : Program → List ℕ → List ℤ → List ℤ
coded_in p codes literals = filter (λ l. has_code codes (code_of (literal_of p l))) literals
