use Rattle.std.proofs.Common.{get_or, refl}
use Rattle.std.proofs.lemmas.Option.{slice_get-get_or}
use Rattle.clause_core.specs.declared.answers.Reference.{Reference}
use Rattle.clause_core.specs.declared.clauses.Relation.TheVariants.{Less}
use Rattle.script_trim.proofs.cut_links.refers_to_itself.Goals as goal

-- what the code reads past the end
abbrev past : Reference
past = record { node = 0; relation = Less }

pub returns-then-is_same : goal.returns-then-is_same
returns-then-is_same c = λ _.
    let refs = c.args.refs.now in
    let k = c.loop-reference.reference-index in
    let at = slice_get-get_or c.args.refs.now c.loop-reference.reference-index past c.loop-reference-test.true in
    let both = c.if-is_same.ensures.0 refl in
    (k, get_or refs k past, at, both.0, both.1)
