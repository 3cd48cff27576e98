use Rattle.std.proofs.Common.{ℕ, List, subst, sym}
use Rattle.explore_cli.specs.Written.{IsEnd}
use Rattle.explore_words.specs.Requests.{task_of}
use Rattle.explore_cli.proofs.Endings.{ended_means, refused_means}
use Rattle.explore_cli.proofs.running.explore_bytes.Goals as goal

pub returns-in-Ok-explored-clause-means : goal.returns-in-Ok-explored-clause-means
returns-in-Ok-explored-clause-means g c =
    let spec = c.in-Ok.accepted.admitted.spec in
    let e = c.write_all.ensures in
    let is : IsEnd c.args.command.now.form spec c.deref.result.now c.in-Ok-explored.ending.status =
    subst (λ (t : List ℕ). IsEnd c.args.command.now.form spec t c.in-Ok-explored.ending.status)
    (sym c.deref.ensures.value) c.in-Ok-explored.ensures in
    ended_means (task_of c.args.command.now) c.args.bytes.now _ _ _ _ c.in-Ok.accepted.raw spec
    c.in-Ok.ensures.accepted c.in-Ok-explored.ending.status c.ended.result c.deref.result.now is
    c.write_all.result e.appended e.prefix e.failed c.ended.ensures

pub returns-in-Err-clause-means : goal.returns-in-Err-clause-means
returns-in-Err-clause-means g c =
    refused_means (task_of c.args.command.now) c.args.bytes.now _ _ _ _ c.in-Err.refusal
    c.in-Err.ensures.refused c.refuse.result c.refuse.ensures.refuses
