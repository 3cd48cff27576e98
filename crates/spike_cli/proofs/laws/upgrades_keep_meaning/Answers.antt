use Rattle.spec_printing.specs.Upgraded.{upgraded}
use Rattle.spike_cli.proofs.laws.upgrades_keep_meaning.Goals as goal

pub returns : goal.returns
returns c = λ bytes raw spec accepted.
    let law = c.upgrade_reads_back.ensures in
    let read = law.derives bytes raw accepted.derived in
    let same = law.same bytes raw read.0 accepted.derived read.1 in
    let stands = c.upgrades_stand_for_the_same.ensures raw spec accepted.stands in
    record {
      raw = read.0;
      accepted = record {
        derived = read.1;
        stands = c.places_mean_nothing.ensures read.0 (upgraded raw) same spec stands;
        admitted = accepted.admitted;
      };
      short = law.short bytes raw accepted.derived;
      unchanged = law.unchanged bytes raw read.0 accepted.derived read.1;
    }
