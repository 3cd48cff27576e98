use Rattle.std.proofs.Common.{◌≡◌, ◌+◌, ◌<◌, ◌∙◌, ℕ, Some, None, Option, true, length, arith, ap, subst}
use Rattle.std.specs.Prelude.{IfSome}
use Rattle.std.proofs.lemmas.List.{length-map}
use Rattle.std.proofs.lemmas.Option.{slice_get-get_or}
use Rattle.clause_core.specs.declared.clauses.Clause.{Clause}
use Rattle.inference_rules.specs.declared.nodes.Node.{Node}
use Rattle.inference_rules.specs.Answers.{clauses_of}
use Rattle.script_trim.specs.Sharing.{AreShared}
use Rattle.script_trim.proofs.Passing.{as_many_keys}
use Rattle.script_trim.proofs.SharedKeys.{flags_more, lone_is_alone}
use Rattle.script_trim.proofs.Whole.{clause_there}
use Rattle.script_trim.proofs.lone_nodes.lone_nodes.Goals as goal

pub loop-number-preserved : goal.loop-number-preserved
loop-number-preserved c =
    let nodes = clauses_of c.args.nodes.now in
    let n = c.loop-number.number in
    let keys = c.args.keys.now in
    let long : length c.push.new.self.items ≡ c.loop-number.number + 1 =
    grind (arith, c.loop-number.invariant.0, c.in_ok-push.ensures.items) in
    let told = subst (λ o. IfSome o (AreShared c.args.keys.now)) c.in-Some.is c.in_ok-shared.ensures in
    let within : c.loop-number.number < length c.args.keys.now =
    omega (
      arith,
      c.loop-number-test.true,
      as_many_keys c.args.keys.now (clauses_of c.args.nodes.now) c.requires,
      length-map c.args.nodes.now (λ (x : Node). x.clause),
    ) in (
      long,
      flags_more nodes n c.loop-number.flags.items c.push.new.self.items c.is_lone.result c.in_ok-push.ensures.items
          c.loop-number.invariant.0 c.loop-number.invariant.1 (λ lone d at.
          let h = c.is_lone.ensures lone in
          let own = slice_get-get_or keys n None within ∙ ap (λ (o : Option ℕ). Some o) h.1 in
          let is = clause_there c.args.nodes.now n c.index-nodes-number.result d c.loop-number-test.true at in
          lone_is_alone nodes keys c.in-Some.shared c.requires told n d at h.0 own
          (subst (λ (x : Clause). length x.conclusions ≡ 1) is h.2) h.3),
    )
