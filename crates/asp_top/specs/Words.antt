-- How a run ends that can't have its words.
use Rattle.std.specs.declared.io.ErrorKind.{ErrorKind}
use Rattle.std.specs.declared.io.ErrorKind.TheVariants.{OutOfMemory}
use Rattle.asp_top.specs.declared.status.Status.{Status}
use Rattle.asp_top.specs.declared.status.Status.TheVariants.{Memory, Usage}

-- want of memory stays so, and any other error is one of the words
abbrev pub status_without : ErrorKind → Status
status_without OutOfMemory = Memory
status_without _ = Usage
