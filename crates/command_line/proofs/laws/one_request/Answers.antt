use Rattle.command_line.proofs.OneRequest.{one_task, one_load, not_both}
use Rattle.command_line.proofs.Askings.{asks_no_task, asks_no_load}
use Rattle.command_line.proofs.laws.one_request.Goals as goal

pub returns : goal.returns
returns c = record {
  one_task = one_task;
  one_number = one_load;
  not_both = not_both;
  no_task = asks_no_task;
  no_load = asks_no_load;
}
