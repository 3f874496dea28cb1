-- What a call adds is by the number that makes it.
use Rattle.std.proofs.Common.{ℕ, ◌+◌, Bool, true, false, cond, eqb, List, [], ◌∷◌, Option, Some, None, refl}
use Rattle.std.specs.Prelude.{ℤ}
use Rattle.asp_model.specs.Sets.{Atoms}
use Rattle.asp_vars.specs.Literals.{Literal}
use Rattle.asp_vars.specs.Paid.{Units}
use Rattle.asp_vault.specs.Makers.{OnlyBy}
use Rattle.asp_core.specs.declared.event.Event.TheVariants as event
use Rattle.asp_book.specs.Books.{signed}
use Rattle.asp_book.specs.Replies.{taken, taken_this, divided, delivered, improved, leased_out, given_back}

pub taken-by : (k : ℕ) (r : Option ℕ) → OnlyBy signed k (taken k r)
taken-by k None = tt
taken-by k (Some leaf) = (refl, tt)

pub taken_this-by : (leaf k : ℕ) (r : Bool) → OnlyBy signed k (taken_this k leaf r)
taken_this-by leaf k true = (refl, tt)
taken_this-by leaf k false = tt

pub divided-by : (leaf : ℕ) (l : Literal) (k : ℕ) (r : Option (ℕ × ℕ)) → OnlyBy signed k (divided k leaf l r)
divided-by leaf l k None = tt
divided-by leaf l k (Some leaves) = (refl, tt)

pub delivered-by : (S : Atoms) (k : ℕ) (r : Bool) → OnlyBy signed k (delivered k S r)
delivered-by S k true = (refl, tt)
delivered-by S k false = tt

pub improved-by : (S : Atoms) (k : ℕ) (r : Option (List ℤ)) → OnlyBy signed k (improved k S r)
improved-by S k None = (refl, tt)
improved-by S k (Some c) = tt

pub leased_out-by : (k : ℕ) (u : Units) → OnlyBy signed k (leased_out k u)
leased_out-by k u = here (eqb u.left 0)
  where
    here : (b : Bool) → OnlyBy signed k (cond b [] (event.Lease k u.left ∷ []))
    here true = tt
    here false = (refl, tt)

pub given_back-by : (u : Units) (k : ℕ) → OnlyBy signed k (given_back k u)
given_back-by u k = here (eqb (u.left + u.burnt) 0)
  where
    here : (b : Bool) → OnlyBy signed k (cond b [] (event.Back k u.left u.burnt ∷ []))
    here true = tt
    here false = (refl, tt)
