-- The texts of an answer, one after another, are joined by blanks.
use Rattle.std.proofs.Common.{◌≡◌, ℕ, Bool, true, false, cond, ◌||◌, List, [], ◌∷◌, ◌++◌, map, flat_map, ap, sym, refl, ◌∙◌, append-nil, ◌<◌, ◌+◌, length, get_or, drop}
use Rattle.std.specs.Prelude.{filter, if◌then◌else◌}
use Rattle.std.specs.List.{join_with_byte}
use Rattle.asp_model.specs.declared.program.Output.{Output}
use Rattle.asp_model.specs.declared.program.Program.{Program}
use Rattle.asp_model.specs.Sets.{Atoms}
use Rattle.asp_model.specs.Holding.{all_hold}
use Rattle.asp_model.specs.Texts.{ended_line, shown, answer_lines, answers_from}
use Rattle.asp_rows.specs.declared.row.Row.{Row}
use Rattle.asp_print.specs.Shown.{piece, pieces}
use Rattle.asp_buffer.proofs.OutLaws.{drop_turn}

abbrev pub shown_of : Atoms → List Output → List (List ℕ)
shown_of S os = map (λ (o : Output). o.text) (filter (λ (o : Output). all_hold S o.condition) os)

-- texts after another one
abbrev behind : ℕ → List (List ℕ) → List ℕ
behind sep [] = []
behind sep (t ∷ ts) = sep ∷ join_with_byte sep (t ∷ ts)

join-cons : (sep : ℕ) (t : List ℕ) (ts : List (List ℕ)) → join_with_byte sep (t ∷ ts) ≡ t ++ behind sep ts
join-cons sep t [] = sym (append-nil t)
join-cons sep t (u ∷ us) = refl

-- one output more, whether its condition holds or not
one_first : (sep : ℕ) (b : Bool) (o : Output) (rest : List Output) (later now : List ℕ) → later ≡ behind sep (map (λ (o : Output). o.text) rest) →
    now ≡ join_with_byte sep (map (λ (o : Output). o.text) rest)
    → (if b then o.text else []) ++ cond b later now ≡ join_with_byte sep (map (λ (o : Output). o.text) (cond b (o ∷ rest) rest))
one_first sep true o rest later now e f = ap (λ (t : List ℕ). o.text ++ t) e ∙ sym (join-cons sep o.text _)
one_first sep false o rest later now e f = f

one_more : (sep : ℕ) (b : Bool) (o : Output) (rest : List Output) (later : List ℕ) → later ≡ behind sep (map (λ (o : Output). o.text) rest)
    → (if b then sep ∷ o.text else []) ++ later ≡ behind sep (map (λ (o : Output). o.text) (cond b (o ∷ rest) rest))
one_more sep true o rest later e = ap (λ (t : List ℕ). sep ∷ (o.text ++ t)) e ∙ ap (λ (t : List ℕ). sep ∷ t) (sym (join-cons sep o.text _))
one_more sep false o rest later e = e

by_flag : (sep : ℕ) (S : Atoms) (b : Bool) (os : List Output) → pieces sep S (false || b) os ≡ cond b (pieces sep S true os) (pieces sep S false os)
by_flag sep S true os = refl
by_flag sep S false os = refl

pieces-behind : (sep : ℕ) (S : Atoms) (os : List Output) → pieces sep S true os ≡ behind sep (shown_of S os)
pieces-behind sep S [] = refl
pieces-behind sep S (o ∷ os) = one_more sep (all_hold S o.condition) o (filter (λ (o : Output). all_hold S o.condition) os) _ (pieces-behind sep S os)

pub pieces-joined : (sep : ℕ) (S : Atoms) (os : List Output) → pieces sep S false os ≡ join_with_byte sep (shown_of S os)
pieces-joined sep S [] = refl
pieces-joined sep S (o ∷ os) =
    ap (λ (t : List ℕ). piece sep S false o ++ t) (by_flag sep S (all_hold S o.condition) os)
    ∙ one_first sep (all_hold S o.condition) o (filter (λ (o : Output). all_hold S o.condition) os) _ _ (pieces-behind sep S os) (pieces-joined sep S os)

behind-each : (sep : ℕ) (ts : List (List ℕ)) → behind sep ts ≡ flat_map (λ (t : List ℕ). sep ∷ t) ts
behind-each sep [] = refl
behind-each sep (t ∷ ts) = ap (λ (x : List ℕ). sep ∷ x) (join-cons sep t ts) ∙ ap (λ (x : List ℕ). sep ∷ (t ++ x)) (behind-each sep ts)

-- texts that stand after another one: each after a separator
pub pieces-after : (sep : ℕ) (S : Atoms) (os : List Output) → pieces sep S true os ≡ flat_map (λ (t : List ℕ). sep ∷ t) (shown_of S os)
pieces-after sep S os = pieces-behind sep S os ∙ behind-each sep (shown_of S os)

pub all_shown : (p : Program) (S : Atoms) → pieces 32 S false p.outputs ≡ join_with_byte 32 (shown p S)
all_shown p S = pieces-joined 32 S p.outputs

pub pieces-turn : (sep : ℕ) (S : Atoms) (any now : Bool) (os : List Output) (i : ℕ) (o : Output) → i < length os → o ≡ get_or os i o → now ≡ (any || all_hold S o.condition)
    → pieces sep S any (drop i os) ≡ piece sep S any o ++ pieces sep S now (drop (i + 1) os)
pieces-turn sep S any now os i o lt is flag =
    ap (pieces sep S any) (drop_turn os i o lt is) ∙ ap (λ (b : Bool). piece sep S any o ++ pieces sep S b (drop (i + 1) os)) (sym flag)

-- the answers from one on
pub rows-turn : (p : Program) (rows : List Row) (i n : ℕ) (r : Row) → i < length rows → r ≡ get_or rows i r
    → answers_from p n (map (λ (x : Row). x.set) (drop i rows)) ≡ answer_lines p n r.set ++ answers_from p (n + 1) (map (λ (x : Row). x.set) (drop (i + 1) rows))
rows-turn p rows i n r lt is = ap (λ (t : List Row). answers_from p n (map (λ (x : Row). x.set) t)) (drop_turn rows i r lt is)

pub line_shown : (p : Program) (S : Atoms) → ended_line (pieces 32 S false p.outputs) ≡ ended_line (join_with_byte 32 (shown p S))
line_shown p S = ap ended_line (all_shown p S)
