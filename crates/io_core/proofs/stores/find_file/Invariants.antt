use Rattle.std.proofs.Common.{◌≡◌, drop}
use Rattle.io_core.specs.Held.{first_file}
use Rattle.io_core.proofs.stores.find_file.Given as goal

abbrev pub invariant-loop-file : goal.invariant-loop-file
invariant-loop-file l = first_file (drop l.file-index l.files) l.name ≡ first_file l.files l.name
