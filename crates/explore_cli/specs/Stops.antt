-- What a command did on the bytes of its file, by its status.
use Rattle.std.specs.Prelude.{ℕ, List, Option}
use Rattle.io_core.specs.Count.{Rose}
use Rattle.file_replies.specs.declared.statuses.Status.{Status}
use Rattle.file_replies.specs.declared.statuses.Status.TheVariants.{Done, Refuted, Open, Refused}
use Rattle.file_replies.specs.declared.statuses.Status.TheVariants.{WriteFault, OutOfMemory}
use Rattle.file_replies.specs.Parts.{AppendsPartOf}
use Rattle.explore_cli.specs.Runs.{Ended, RefusedBytes, MayWriteFor}
use Rattle.explore_words.specs.Words.{Task}

module _ (task : Task) (bytes : List ℕ) (old new : Option (List ℕ)) (writes writes' : ℕ) where
  abbrev pub MeansFor : Status → Type 0
  MeansFor Done = Ended task bytes old new Done
  MeansFor Refuted = Ended task bytes old new Refuted
  MeansFor Open = Ended task bytes old new Open
  MeansFor Refused = RefusedBytes task bytes old new
  MeansFor WriteFault = Rose writes writes' × AppendsPartOf (MayWriteFor task bytes) old new
  MeansFor OutOfMemory = AppendsPartOf (MayWriteFor task bytes) old new
  MeansFor _ = ⊥
