-- A search that is kept, and the book of a query: how they begin.
use Rattle.std.proofs.Common.{◌≡◌, ℕ, ◌^◌, ◌<◌, true, List, [], ◌∷◌, Option, None, Some, Result, Ok, Err, refl, sym, ap, ◌∙◌, subst, arith}
use Rattle.std.specs.Prelude.{ℤ, IfOk, IfSome}
use Rattle.std.proofs.lemmas.Bool.{and_parts}
use Rattle.asp_model.specs.declared.program.Program.{Program}
use Rattle.asp_model.specs.declared.results.Mode.TheVariants.{Enum}
use Rattle.asp_model.specs.Sets.{has}
use Rattle.asp_model.specs.Holding.{atom_of}
use Rattle.asp_model.specs.Models.{atoms_of}
use Rattle.asp_store.specs.declared.stored_nogood.StoredNogood.{StoredNogood}
use Rattle.asp_core.specs.Boards.{IsQuery}
use Rattle.asp_book.specs.Books.{Booked}
use Rattle.asp_search.specs.Beside.{Enters, new_search}
use Rattle.asp_search_laws.specs.Searching.{Searching}
use Rattle.asp_query.specs.Kept.{IsBegun, IsFresh, all_stand, query_of}

-- a new search that entered no literal
pub fresh-entered : (p : Program) (slots : List (Option StoredNogood)) (s t : Searching) → s ≡ new_search p Enum slots → Enters s t [] → IsFresh p t
fresh-entered p slots s t new is =
    let learnt : t.learnt ≡ 0 = ap (λ (x : Searching). x.learnt) is.same in
    record {
      program = ap (λ (x : Searching). x.program) is.same ∙ ap (λ (x : Searching). x.program) new;
      mode_is = ap (λ (x : Searching). x.mode) is.same ∙ ap (λ (x : Searching). x.mode) new;
      cube = ap (λ (x : Searching). x.cube) is.same;
      known = ap (λ (x : Searching). x.known) is.same ∙ ap (λ (x : Searching). x.known) new;
      bound = ap (λ (x : Searching). x.bound) is.same ∙ ap (λ (x : Searching). x.bound) new;
      learnt = omega (arith, learnt);
    }

-- where the atoms all stand
pub all-stand : (p : Program) (query : List ℤ) → all_stand p query ≡ true → IsQuery p query
all-stand p [] h = tt
all-stand p (l ∷ query) h =
    let both = and_parts (has (atoms_of p) (atom_of l)) (all_stand p query) h in
    (both.0, all-stand p query both.1)

-- what holds anyway holds where something was found
pub found-anyway : {A E : Type 0} (P : Type 0) → P → (r : Result (Option A) E) → IfOk r (λ o. IfSome o (λ x. P))
found-anyway P h (Ok None) = tt
found-anyway P h (Ok (Some x)) = h
found-anyway P h (Err e) = tt

-- a query's book, and a search for it
pub query-begins : (p : Program) (query : List ℤ) (budget : ℕ) (v : Booked) (s : Searching) → IsQuery p query → budget < 2 ^ 64 →
    v ≡ record { task = query_of p query budget; journal = [] } → IsFresh p s → IsBegun v s
query-begins p query budget v s stands fits e fresh =
    subst (λ (x : Booked). IsBegun x s) (sym e) (record {
      query = stands;
      asks = refl;
      fits = fits;
      idle = record { free = refl; home = λ k. refl };
      fresh = fresh;
    })
