use Rattle.spike_cli.proofs.Unproved.{no_plain, no_routine, claims_of_search, status_of_search}
use Rattle.spike_cli.proofs.laws.search_alone_proves_nothing.Goals as goal

pub returns : goal.returns
returns c = record {
  no_plain = no_plain;
  no_routine = no_routine;
  claims = λ search spec goal fine sorted. claims_of_search search spec fine goal sorted;
  statuses = status_of_search;
}
