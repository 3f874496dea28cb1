-- The options' names, what each takes, and other words for them.
use Rattle.std.specs.Prelude.{List, ℕ, Option, Some, None, codes, if◌then◌else◌}
use Rattle.std.specs.Str.{bytes_eq}
use Rattle.asp_cli.specs.declared.names.Name.{Name}
use Rattle.asp_cli.specs.declared.names.Name.TheVariants.{Mode, Format, Models, OptAll, Workers, Log, Budget, Output, Quiet, Names, Proof, Split, Make, Queries, CoreMin, Stats, Progress, Stream}

abbrev pub text_of : Name → List ℕ
text_of Mode = codes "--mode"
text_of Format = codes "--format"
text_of Models = codes "--models"
text_of OptAll = codes "--opt-all"
text_of Workers = codes "--workers"
text_of Log = codes "--log"
text_of Budget = codes "--budget"
text_of Output = codes "--output"
text_of Quiet = codes "--quiet"
text_of Names = codes "--names"
text_of Proof = codes "--proof"
text_of Split = codes "--split"
text_of Make = codes "--make"
text_of Queries = codes "--queries"
text_of CoreMin = codes "--core-min"
text_of Stats = codes "--stats"
text_of Progress = codes "--progress"
text_of Stream = codes "--stream"

abbrev pub takes_of : Name → List ℕ
takes_of Mode = codes "auto, enum, opt, brave or cautious"
takes_of Format = codes "aspif or smodels"
takes_of Models = codes "a number up to 9223372036854775807"
takes_of OptAll = codes "no value"
takes_of Workers = codes "a number from 1 to 64"
takes_of Log = codes "blocks or row"
takes_of Budget = codes "a number up to 9223372036854775807"
takes_of Output = codes "text or json"
takes_of Quiet = codes "no value"
takes_of Names = codes "no value"
takes_of Proof = codes "no value"
takes_of Split = codes "a number from 1 to 100000"
takes_of Make = codes "a number from 3 to 2000"
takes_of Queries = codes "no value"
takes_of CoreMin = codes "no value"
takes_of Stats = codes "no value"
takes_of Progress = codes "no value"
takes_of Stream = codes "no value"

-- the option that a text names
abbrev pub named : List ℕ → Option Name
named t = if bytes_eq t (codes "--mode") then Some Mode
    else (if bytes_eq t (codes "--format") then Some Format
    else (if bytes_eq t (codes "--models") then Some Models
    else (if bytes_eq t (codes "--opt-all") then Some OptAll
    else (if bytes_eq t (codes "--workers") then Some Workers
    else (if bytes_eq t (codes "--log") then Some Log
    else (if bytes_eq t (codes "--budget") then Some Budget
    else (if bytes_eq t (codes "--output") then Some Output
    else (if bytes_eq t (codes "--quiet") then Some Quiet
    else (if bytes_eq t (codes "--names") then Some Names
    else (if bytes_eq t (codes "--proof") then Some Proof
    else (if bytes_eq t (codes "--split") then Some Split
    else (if bytes_eq t (codes "--make") then Some Make
    else (if bytes_eq t (codes "--queries") then Some Queries
    else (if bytes_eq t (codes "--core-min") then Some CoreMin
    else (if bytes_eq t (codes "--stats") then Some Stats
    else (if bytes_eq t (codes "--progress") then Some Progress
    else (if bytes_eq t (codes "--stream") then Some Stream else None)))))))))))))))))

-- The word for which a word stands. The short forms have long ones, and five words of clasp's have ours; any other stands for itself.
abbrev pub meant : List ℕ → List ℕ
meant w = if bytes_eq w (codes "-e") then text_of Mode
    else (if bytes_eq w (codes "-n") then text_of Models
    else (if bytes_eq w (codes "-t") then text_of Workers
    else (if bytes_eq w (codes "-q") then text_of Quiet
    else (if bytes_eq w (codes "--opt-mode=ignore") then codes "--mode=enum"
    else (if bytes_eq w (codes "--opt-mode=opt") then codes "--mode=opt"
    else (if bytes_eq w (codes "--opt-mode=optN") then codes "--opt-all"
    else (if bytes_eq w (codes "--outf=0") then codes "--output=text"
    else (if bytes_eq w (codes "--outf=2") then codes "--output=json" else w))))))))
