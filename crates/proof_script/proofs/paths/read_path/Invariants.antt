use Rattle.std.proofs.Common.{◌≡◌, ◌++◌, length}
use Rattle.std.specs.List.{AllByRecursion}
use Rattle.proof_script.specs.Standing.{Between}
use Rattle.proof_script.proofs.PathsAt.{path_text, GoesOn}
use Rattle.proof_script.proofs.paths.read_path.Given as goal

abbrev pub decreases-loop-rest : goal.decreases-loop-rest
decreases-loop-rest l = length l.rest

-- the numbers that were read, and what each path goes on with
abbrev pub invariant-loop-rest : goal.invariant-loop-rest
invariant-loop-rest l =
    record {
      read : l.fn.bytes ≡ path_text l.path ++ l.rest;
      between : AllByRecursion (Between 1 9) l.path;
      goes_on : GoesOn l.fn.bytes l.rest;
    }
