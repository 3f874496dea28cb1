-- Atoms that copy another one, and the least of the atoms that are so the same.
use Rattle.std.specs.Prelude.{ℕ, zero, suc, ◌+◌, ◌*◌, ◌==◌, nat_lt, min, max, Bool, not, ◌&&◌, if◌then◌else◌, List, [], ◌∷◌, ◌++◌, map, length, fold, pos, int_lt}
use Rattle.asp_model.specs.declared.program.Body.{Body}
use Rattle.asp_model.specs.declared.program.Body.TheVariants as body
use Rattle.asp_model.specs.declared.program.Head.{Head}
use Rattle.asp_model.specs.declared.program.Head.TheVariants as head
use Rattle.asp_model.specs.declared.program.Rule.{Rule}
use Rattle.asp_model.specs.declared.program.Program.{Program}
use Rattle.asp_model.specs.Sets.{has}
use Rattle.asp_model.specs.Holding.{atom_of}
use Rattle.asp_model.specs.Models.{head_atoms}

-- ---- which atom an atom copies
-- the atom of the body, where that is one positive literal alone, and else a
abbrev pub only_atom : ℕ → Body → ℕ
only_atom a (body.All []) = a
only_atom a (body.All (l ∷ [])) = if int_lt (pos 0) l then atom_of l else a
only_atom a (body.All (l ∷ k ∷ ls)) = a
only_atom a (body.AtLeast bound items) = a

-- the atom that a copies by a rule with it in its head, or a itself
abbrev pub copied : ℕ → Head → Body → ℕ
copied a (head.One h) b = only_atom a b
copied a (head.Choice atoms) b = a
copied a head.Never b = a

-- What is known of the atom a after one more rule, where b was known. 0: no rule has it in its head. Itself: it copies none. Else the one atom that it copies.
abbrev pub noted : ℕ → ℕ → Rule → ℕ
noted a b r = if has (head_atoms r.head) a then (if b == 0 then copied a r.head r.body else a) else b

abbrev pub source : List Rule → ℕ → ℕ
source rules a = fold (noted a) 0 rules

-- the atoms that externals name
abbrev pub named : Program → List ℕ
named p = map (λ e. e.atom) p.externals

-- Whether a may go by b: both are above 0 and below n, and no external names either.
abbrev pub may_copy : ℕ → Program → ℕ → ℕ → Bool
may_copy n p a b = nat_lt 0 a && nat_lt 0 b && nat_lt a n && nat_lt b n && not (has (named p) a) && not (has (named p) b)

abbrev pub or_itself : Bool → ℕ → ℕ → ℕ
or_itself c b a = if c then b else a

-- the atom that a copies, or itself
abbrev pub target : ℕ → Program → ℕ → ℕ
target n p a = or_itself (may_copy n p a (source p.rules a)) (source p.rules a) a

-- the atom that a copies, if that copies none; of a longer chain no more is followed
abbrev pub root : ℕ → Program → ℕ → ℕ
root n p a = or_itself (target n p (target n p a) == target n p a) (target n p a) a

-- ---- the least atom with the same root
-- the least number below n that f takes to r, or d where there is none
abbrev pub least : (ℕ → ℕ) → ℕ → ℕ → ℕ → ℕ
least f r zero d = d
least f r (suc k) d = least f r k (if f k == r then k else d)

-- the atom by which a goes: the least below n with its root, or itself
abbrev pub same : ℕ → Program → ℕ → ℕ
same n p a = least (root n p) (root n p a) n a

-- the atoms below n that give way, each with the one by which it goes
abbrev pub copies_below : (ℕ → ℕ) → ℕ → List (ℕ × ℕ)
copies_below m zero = []
copies_below m (suc k) = copies_below m k ++ (if m k == k then [] else (k, m k) ∷ [])

-- ---- how far is looked
-- above which number the atoms of a rule are that copies one, or 0
abbrev pub above_rule : Head → Body → ℕ
above_rule (head.One h) b = if only_atom 0 b == 0 then 0 else max h (only_atom 0 b) + 1
above_rule (head.Choice atoms) b = 0
above_rule head.Never b = 0

abbrev pub above : List Rule → ℕ
above rules = fold (λ n r. max n (above_rule r.head r.body)) 0 rules

-- below which number an atom has to be, so that a table of so many atoms is no longer than the rules are
abbrev pub places : Program → ℕ
places p = min (above p.rules) (16 * (length p.rules + 1))
