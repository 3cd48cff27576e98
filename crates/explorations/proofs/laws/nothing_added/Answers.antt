use Rattle.explorations.proofs.OwnGoals.{own_added, own_proved}
use Rattle.explorations.proofs.laws.nothing_added.Goals as goal

pub returns : goal.returns
returns c = λ text report_text raw spec base short accepted is_report replayed is_true. record {
  short = short;
  accepted = accepted;
  adds = own_added spec;
  is_report = is_report;
  replayed = replayed;
  true = is_true;
  further = own_proved spec.goals base.claims;
  kept = λ name h. h;
}
