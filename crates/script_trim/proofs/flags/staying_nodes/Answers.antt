use Rattle.std.proofs.Common.{◌≡◌, ◌≢◌, ◌↔◌, ◌++◌, Some, refl, ◌∙◌, ap, subst, rules, length, replicate}
use Rattle.std.specs.Prelude.{slice_get, IsTrue}
use Rattle.std.proofs.lemmas.Option.{slice_get_read}
use Rattle.script_trim.specs.Flags.{flag_of}
use Rattle.script_trim.proofs.StayingFlags.{flags_more}
use Rattle.script_trim.proofs.flags.staying_nodes.Goals as goal

pub loop-number-preserved : goal.loop-number-preserved
loop-number-preserved c =
    let at : slice_get c.args.links.now c.loop-number.number ≡ Some c.index-links-number.result =
    slice_get_read c.args.links.now (length c.args.links.now) c.loop-number.number c.index-links-number.result
    refl c.loop-number-test.true c.index-links-number.is in
    let stay : IsTrue c.children_stay-stay.result
    ↔ ((c.loop-number.number ≢ c.args.node) × IsTrue (flag_of c.loop-number.stays.items c.loop-number.number)) =
    subst (λ flags. IsTrue c.children_stay-stay.result
    ↔ ((c.loop-number.number ≢ c.args.node) × IsTrue (flag_of flags c.loop-number.number)))
    c.as_slice.ensures.value c.children_stay-stay.ensures in
    let count : c.len.result ≡ length c.index-links-number.result.clauses = search rules in
    let more : c.append_flags.new.flags.items ≡ c.loop-number.stays.items
    ++ replicate (length c.index-links-number.result.clauses) c.children_stay-stay.result =
    c.in_ok-append_flags.ensures
    ∙ ap (λ n. c.loop-number.stays.items ++ replicate n c.children_stay-stay.result) count in
    flags_more c.args.links.now c.args.node c.loop-number.number c.index-links-number.result at
    c.loop-number.stays.items c.loop-number.invariant (c.requires.order c.loop-number.number c.loop-number-test.true)
    c.children_stay-stay.result stay c.append_flags.new.flags.items more
