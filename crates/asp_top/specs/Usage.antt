-- What the notes say of a faulty command line.
use Rattle.std.specs.Prelude.{ℕ, List, [], ◌++◌, codes, Option, Some, None}
use Rattle.asp_cli.specs.Given.{Misuse, bad_value, missing, no_words, rivals, twice, unexpected, unknown}
use Rattle.asp_cli.specs.Hints.{counterpart, nearest}
use Rattle.asp_cli.specs.Names.{takes_of, text_of}
use Rattle.asp_cli.specs.Texts.{usage_lines}

abbrev pub near_text : Option (List ℕ) → List ℕ
near_text (Some name) = codes ": did you mean " ++ name ++ codes "?"
near_text None = []

abbrev pub hint_by : Option (List ℕ) → List ℕ → List ℕ
hint_by (Some text) w = codes ": here " ++ text
hint_by None w = near_text (nearest w)

-- what is here for an unknown option, and else the nearest name, if one is near
abbrev pub hint_text : List ℕ → List ℕ
hint_text w = hint_by (counterpart w) w

abbrev pub advice_text : List ℕ → List ℕ
advice_text w = hint_text w ++ codes " (see --help)"

abbrev pub misuse_text : Misuse → List ℕ
misuse_text no_words = codes "no arguments"
misuse_text (unknown w) = codes "unknown option " ++ w ++ advice_text w
misuse_text (unexpected w) = codes "unexpected argument " ++ w ++ codes " (the program is read from standard input; write: aspenum < FILE)"
misuse_text (twice n) = text_of n ++ codes " is given twice"
misuse_text (missing n) = codes "a value is missing after " ++ text_of n
misuse_text (rivals m n) = text_of m ++ codes " and " ++ text_of n ++ codes " exclude each other"
misuse_text (bad_value n v) = text_of n ++ codes " takes " ++ takes_of n ++ (codes ", not " ++ v)

-- the end of a fault's line, and the usage lines
abbrev pub usage_text : List ℕ
usage_text = codes "\n" ++ usage_lines ++ codes "\n"

-- the line of the fault, and the usage lines
abbrev pub misuse_note : Misuse → List ℕ
misuse_note m = codes "aspenum: " ++ misuse_text m ++ usage_text
