-- The exit status of each status.
use Rattle.std.specs.Prelude.{ℕ}
use Rattle.file_replies.specs.declared.statuses.Status.{Status}
use Rattle.file_replies.specs.declared.statuses.Status.TheVariants.{Done, Refuted, Open, Refused, No, ReadFault}
use Rattle.file_replies.specs.declared.statuses.Status.TheVariants.{WriteFault, Usage, OutOfMemory}

abbrev pub code_of : Status → ℕ
code_of Done = 0
code_of Refuted = 1
code_of Open = 2
code_of Refused = 3
code_of No = 4
code_of ReadFault = 5
code_of WriteFault = 6
code_of Usage = 7
code_of OutOfMemory = 8
