-- One more word of the walk.
use Rattle.std.proofs.Common.{◌≡◌, ◌∙◌, ℕ, ◌+◌, ◌<◌, ◌≤◌, List, length, get_or, drop, map, sym, ap, Global}
use Rattle.std.specs.Prelude.{Ok, Err, String, string_bytes}
use Rattle.std.proofs.lemmas.List.{at_drop_more, drop_all}
use Rattle.asp_checkrun.specs.declared.words.State.{State}
use Rattle.asp_checkrun.specs.Given.{Given, Text, after, ended, if_ok, walked}

abbrev pub texts : List (String Global) → List Text
texts ws = map string_bytes ws

walked_turn : (s : State) (ws : List (String Global)) (i : ℕ) (w : String Global) → i < length ws → w ≡ get_or ws i w
    → walked s (texts (drop i ws)) ≡ if_ok (after s (string_bytes w)) (λ t. walked t (texts (drop (i + 1) ws)))
walked_turn s ws i w lt is =
    at_drop_more (λ xs. walked s (texts xs)) ws i w lt ∙ ap (λ y. if_ok (after s (string_bytes y)) (λ t. walked t (texts (drop (i + 1) ws)))) (sym is)

pub walked_more : (s t : State) (ws : List (String Global)) (i : ℕ) (w : String Global) (text : Text) → i < length ws → w ≡ get_or ws i w → text ≡ string_bytes w
    → Ok t ≡ after s text → walked t (texts (drop (i + 1) ws)) ≡ walked s (texts (drop i ws))
walked_more s t ws i w text lt is of told =
    sym (walked_turn s ws i w lt is ∙ ap (λ r. if_ok r (λ u. walked u (texts (drop (i + 1) ws)))) (ap (after s) (sym of) ∙ sym told))

pub walked_fails : (s : State) (m : Given) (ws : List (String Global)) (i : ℕ) (w : String Global) (text : Text) → i < length ws → w ≡ get_or ws i w → text ≡ string_bytes w
    → Err m ≡ after s text → Err m ≡ walked s (texts (drop i ws))
walked_fails s m ws i w text lt is of told =
    sym (walked_turn s ws i w lt is ∙ ap (λ r. if_ok r (λ u. walked u (texts (drop (i + 1) ws)))) (ap (after s) (sym of) ∙ sym told))

pub walked_end : (s : State) (ws : List (String Global)) (i : ℕ) → length ws ≤ i → ended s ≡ walked s (texts (drop i ws))
walked_end s ws i all = sym (ap (λ xs. walked s (texts xs)) (drop_all i ws all))
