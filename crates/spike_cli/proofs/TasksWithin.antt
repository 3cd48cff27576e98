-- The words give each number within its range.
use Rattle.std.specs.Prelude.{ℕ, List}
use Rattle.command_line.specs.Tasks.{Task, checking, refuting, proving, evaluating, replaying, upgrading}
use Rattle.command_line.specs.Tasks.{trimming, carrying_out, Asks}
use Rattle.spike_cli.specs.Within.{TaskIsWithin}

pub task_within : (words : List (List ℕ)) (file : List ℕ) (task : Task) → Asks words file task → TaskIsWithin task
task_within words file (refuting search) asks = record {
  depth = asks.task_is.depth.most;
  tries = (asks.task_is.tries.least, asks.task_is.tries.most);
  steps = (asks.task_is.steps.least, asks.task_is.steps.most);
}
task_within words file (proving bounds) asks = record {
  search = record {
    depth = asks.task_is.search.depth.most;
    tries = (asks.task_is.search.tries.least, asks.task_is.search.tries.most);
    steps = (asks.task_is.search.steps.least, asks.task_is.search.steps.most);
  };
  plain = asks.task_is.plain.most;
  nodes = asks.task_is.nodes.most;
}
task_within words file (evaluating term steps) asks = tt
task_within words file (checking print) asks = tt
task_within words file (replaying report) asks = tt
task_within words file upgrading asks = tt
task_within words file (trimming report) asks = tt
task_within words file (carrying_out path) asks = tt
