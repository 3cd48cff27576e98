use Rattle.std.proofs.Common.{get_or}
use Rattle.std.specs.Prelude.{slice_index}
use Rattle.std.proofs.lemmas.Option.{slice_get-get_or}
use Rattle.clause_core.specs.declared.answers.Reference.{Reference}
use Rattle.clause_core.specs.declared.clauses.Relation.TheVariants.{Less}
use Rattle.script_trim.specs.Flags.{flag_of}
use Rattle.script_trim.proofs.LinkedCuts.{reference_next}
use Rattle.script_trim.proofs.cut_links.renumbered_references.Goals as goal

-- what the code reads past the end
abbrev past : Reference
past = record { node = 0; relation = Less }

pub loop-reference-preserved : goal.loop-reference-preserved
loop-reference-preserved c =
    let refs = c.args.refs.now in
    let i = c.loop-reference.reference-index in
    let at = slice_get-get_or c.args.refs.now c.loop-reference.reference-index past c.loop-reference-test.true in
    let r = get_or c.args.refs.now c.loop-reference.reference-index past in
    reference_next (flag_of c.args.stays.now) refs i r at c.loop-reference.copies.items c.push.new.self.items
    (slice_index c.args.numbers.now r.node) (c.requires.numbers.tells r.node (c.requires.refs i r at))
    c.loop-reference.invariant c.in_ok-push.ensures.items
