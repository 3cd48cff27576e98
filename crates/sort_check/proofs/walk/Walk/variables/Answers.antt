use Rattle.std.proofs.Common.{◌≡◌, ◌∙◌, ap, sym, subst}
use Rattle.std.specs.List.{AllByRecursion}
use Rattle.sort_check.specs.Entries.{known_sorts}
use Rattle.sort_check.specs.GoalTests.{pairs_in, opposed_by, equations_of}
use Rattle.sort_check.specs.Parts.{IsWithin}
use Rattle.sort_check.proofs.PairFacts.{opposed_extends, found_more, pairs_within}
use Rattle.sort_check.proofs.walk.Walk.variables.Goals as goal

pub infer-requires-clause-within : goal.infer-requires-clause-within
infer-requires-clause-within c =
    let sig = c.args.self.now.sig.now in
    let es = c.args.entries.now.items in
    let eqs = equations_of c.args.raw.now in
    let fs = opposed_by sig es eqs in
    let same : c.oppose_all.new.entries.items ≡ fs = c.in_ok-oppose_all.ensures.answer.1 in
    let all = pairs_within sig fs eqs (found_more sig es fs (opposed_extends sig es eqs) eqs c.requires.found) in
    let pairs : c.deref-3.result.now ≡ pairs_in sig fs eqs = c.deref-3.ensures.value ∙ c.in_ok-pairs.ensures
    ∙ ap (λ us. pairs_in sig us eqs) (c.deref.ensures.value ∙ same) in
    let known : c.deref_mut.result.now ≡ known_sorts fs = c.deref_mut.ensures.value ∙ c.in_ok-known.ensures
    ∙ ap (λ us. known_sorts us) (c.deref-2.ensures.value ∙ same) in
    subst (λ ks. AllByRecursion (IsWithin ks) c.deref-3.result.now) (sym known)
    (subst (λ ps. AllByRecursion (IsWithin (known_sorts fs)) ps) (sym pairs) all)
