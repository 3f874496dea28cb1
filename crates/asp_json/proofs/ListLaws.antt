-- Texts with a comma between two.
use Rattle.std.proofs.Common.{◌≡◌, ℕ, ◌+◌, ◌<◌, Bool, true, false, cond, List, [], ◌∷◌, ◌++◌, map, take, drop, length, get_or, refl, sym, ap, ◌∙◌, append-nil, codes}
use Rattle.std.specs.Prelude.{filter, ◌||◌, ℤ, Option}
use Rattle.std.specs.List.{join_with_byte}
use Rattle.std.proofs.lemmas.List.{map-append, take_more}
use Rattle.asp_model.specs.declared.program.Output.{Output}
use Rattle.asp_model.specs.declared.program.Program.{Program}
use Rattle.asp_model.specs.Holding.{all_hold}
use Rattle.asp_model.specs.Sets.{Atoms}
use Rattle.asp_model.specs.Texts.{shown}
use Rattle.asp_buffer.proofs.OutLaws.{drop_turn, drop_turn_or}
use Rattle.asp_print.specs.Shown.{piece, pieces, separator}
use Rattle.asp_print.proofs.ShownLaws.{pieces-joined, shown_of}
use Rattle.asp_json.specs.Commas.{commas}
use Rattle.asp_json.specs.Json.{witness, witnesses}
use Rattle.asp_json.specs.Quoting.{quoted, quoted_output}

commas-after : (t : List ℕ) (ts : List (List ℕ)) → t ++ commas true ts ≡ join_with_byte 44 (t ∷ ts)
commas-after t [] = append-nil t
commas-after t (u ∷ us) = ap (λ (x : List ℕ). t ++ (44 ∷ x)) (commas-after u us)

pub commas-join : (ts : List (List ℕ)) → commas false ts ≡ join_with_byte 44 ts
commas-join [] = refl
commas-join (t ∷ ts) = commas-after t ts

pub commas-turn_or : {A : Type 0} (f : A → List ℕ) (any : Bool) (xs : List A) (i : ℕ) (d : A) → i < length xs
    → commas any (map f (drop i xs)) ≡ (separator 44 any ++ f (get_or xs i d)) ++ commas true (map f (drop (i + 1) xs))
commas-turn_or {A = A} f any xs i d lt = ap (λ (t : List A). commas any (map f t)) (drop_turn_or xs i d lt)

pub sets-turn : {A : Type 0} (f : Atoms → List ℕ) (s : A → Atoms) (any : Bool) (xs : List A) (i : ℕ) (x : A) → i < length xs → x ≡ get_or xs i x
    → commas any (map f (map s (drop i xs))) ≡ (separator 44 any ++ f (s x)) ++ commas true (map f (map s (drop (i + 1) xs)))
sets-turn {A = A} f s any xs i x lt is = ap (λ (t : List A). commas any (map f (map s t))) (drop_turn xs i x lt is)

-- ---- outputs in quotes
one_quoted : (b : Bool) (o : Output) (xs ys : List Output) → map (λ (o : Output). o.text) xs ≡ map quoted (map (λ (o : Output). o.text) ys)
    → map (λ (o : Output). o.text) (cond b (quoted_output o ∷ xs) xs) ≡ map quoted (map (λ (o : Output). o.text) (cond b (o ∷ ys) ys))
one_quoted true o xs ys e = ap (λ (t : List (List ℕ)). quoted o.text ∷ t) e
one_quoted false o xs ys e = e

shown-quoted : (S : Atoms) (os : List Output) → shown_of S (map quoted_output os) ≡ map quoted (shown_of S os)
shown-quoted S [] = refl
shown-quoted S (o ∷ os) = one_quoted (all_hold S o.condition) o (filter (λ (o : Output). all_hold S o.condition) (map quoted_output os))
    (filter (λ (o : Output). all_hold S o.condition) os) (shown-quoted S os)

pub texts-joined : (p : Program) (S : Atoms) → pieces 44 S false (map quoted_output p.outputs) ≡ join_with_byte 44 (map quoted (shown p S))
texts-joined p S = pieces-joined 44 S (map quoted_output p.outputs) ∙ ap (join_with_byte 44) (shown-quoted S p.outputs)

pub texts-turn : (S : Atoms) (any now : Bool) (os : List Output) (i : ℕ) (o : Output) → i < length os → o ≡ get_or os i o → now ≡ (any || all_hold S o.condition)
    → pieces 44 S any (map quoted_output (drop i os)) ≡ piece 44 S any (quoted_output o) ++ pieces 44 S now (map quoted_output (drop (i + 1) os))
texts-turn S any now os i o lt is flag =
    ap (λ (t : List Output). pieces 44 S any (map quoted_output t)) (drop_turn os i o lt is)
    ∙ ap (λ (b : Bool). piece 44 S any (quoted_output o) ++ pieces 44 S b (map quoted_output (drop (i + 1) os))) (sym flag)

pub outputs_more : (os qs : List Output) (i : ℕ) (o q : Output) → i < length os → o ≡ get_or os i o → q ≡ quoted_output o →
    qs ≡ map quoted_output (take i os) → qs ++ q ∷ [] ≡ map quoted_output (take (i + 1) os)
outputs_more os qs i o q lt at is all =
    ap (λ (t : List Output). t ++ q ∷ []) all ∙ ap (λ (x : Output). map quoted_output (take i os) ++ x ∷ []) (is ∙ ap quoted_output at)
    ∙ sym (ap (map quoted_output) (take_more os i o lt) ∙ map-append quoted_output (take i os) (get_or os i o ∷ []))

pub view-quoted : (o : Output) (t : List ℕ) → t ≡ quoted o.text → record { text = t; condition = o.condition } ≡ quoted_output o
view-quoted o t e = ap (λ (x : List ℕ). let q : Output = record { text = x; condition = o.condition } in q) e

-- ---- answers in brackets
pub witnesses-some : (p : Program) (best : Option (Atoms × List ℤ)) (Ss : List Atoms) → (length Ss ≡ 0 → ⊥) →
    codes "\"Witnesses\":[" ++ commas false (map (witness p best) Ss) ++ codes "\n]" ≡ witnesses p best Ss
witnesses-some p best [] some = absurd (some refl)
witnesses-some p best (S ∷ Ss) some = ap (λ (t : List ℕ). codes "\"Witnesses\":[" ++ (t ++ codes "\n]")) (commas-join (map (witness p best) (S ∷ Ss)))
