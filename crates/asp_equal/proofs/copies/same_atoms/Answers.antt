use Rattle.std.proofs.Common.{◌≡◌, ℕ, ◌<◌, List, length, get_or, map, ap, ◌∙◌, subst}
use Rattle.asp_model.specs.Sets.{Atoms, set_of}
use Rattle.asp_equal.specs.Copies.{named}
use Rattle.asp_equal.specs.Tables.{AreLeast, root_in, sent}
use Rattle.asp_equal.proofs.TableLaws.{same-table}
use Rattle.asp_equal.proofs.copies.same_atoms.Goals as goal

pub returns-clause-same : goal.returns-clause-same
returns-clause-same c =
    let p = c.args.program.now in
    let known : List ℕ = c.in_ok-known.known.items in
    let least : List ℕ = c.in_ok-least.least.items in
    let sends : List ℕ = c.in_ok-table.table.items in
    let names : Atoms = c.in_ok-named.named in
    let known-is-2 : c.as_slice-2.result.now ≡ known = c.as_slice-2.ensures.value in
    let known-is : c.as_slice-3.result.now ≡ known = c.as_slice-3.ensures.value in
    let least-is : c.as_slice-4.result.now ≡ least = c.as_slice-4.ensures.value in
    let names-are : names ≡ set_of (named p) = c.in_ok-named.ensures ∙ ap (λ es. set_of (map (λ e. e.atom) es)) c.as_slice.ensures.value in
    let lows : AreLeast known names least = subst (λ (k : List ℕ). AreLeast k names least) known-is-2 c.in_ok-least.ensures.value in
    let reads : (a : ℕ) → a < length known → get_or sends a 0 ≡ sent least (root_in known names a) =
    subst (λ (l : List ℕ). (a : ℕ) → a < length known → get_or sends a 0 ≡ sent l (root_in known names a)) least-is
    (subst (λ (k : List ℕ). (a : ℕ) → a < length k → get_or sends a 0 ≡ sent c.as_slice-4.result.now (root_in k names a)) known-is
    c.in_ok-table.ensures.value) in
    same-table p known least sends names (c.in_ok-known.ensures.count ∙ c.places.ensures.value) c.in_ok-known.ensures.value names-are
    (c.in_ok-least.ensures.count ∙ ap (λ (k : List ℕ). length k) known-is-2) lows
    (c.in_ok-table.ensures.count ∙ ap (λ (k : List ℕ). length k) known-is) reads
