-- What a task did on the bytes of its file, by its status.
use Rattle.std.specs.Prelude.{◌≡◌, ℕ, List, Option}
use Rattle.io_core.specs.Count.{Rose}
use Rattle.file_replies.specs.declared.statuses.Status.{Status}
use Rattle.file_replies.specs.declared.statuses.Status.TheVariants.{Done, Refused, No, ReadFault, WriteFault}
use Rattle.file_replies.specs.declared.statuses.Status.TheVariants.{OutOfMemory}
use Rattle.file_replies.specs.Parts.{AppendsPartOf}
use Rattle.show_cli.specs.Runs.{Ended, RefusedBytes, MayWriteFor}
use Rattle.show_words.specs.Words.{Task}

module _
    (held : List ℕ → Option (List ℕ)) (task : Task) (bytes : List ℕ)
    (reads reads' : ℕ) (old new : Option (List ℕ)) (writes writes' : ℕ) where
  abbrev pub MeansFor : Status → Type 0
  MeansFor Done = Ended held task bytes old new Done
  MeansFor Refused = RefusedBytes held task bytes old new
  MeansFor No = Ended held task bytes old new No
  MeansFor ReadFault = Rose reads reads' × (new ≡ old)
  MeansFor WriteFault = Rose writes writes' × AppendsPartOf (MayWriteFor held task bytes) old new
  MeansFor OutOfMemory = AppendsPartOf (MayWriteFor held task bytes) old new
  MeansFor _ = ⊥
