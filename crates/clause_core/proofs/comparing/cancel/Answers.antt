use Rattle.std.proofs.Common.{◌≡◌, List, [], ◌∷◌, ◌++◌, Some, take, ap, sym, ◌∙◌, subst}
use Rattle.std.specs.Prelude.{slice_get, Contains, IsPermutation}
use Rattle.std.specs.Borrow.{Bor}
use Rattle.term_core.specs.Tree.{Tree}
use Rattle.term_core.specs.References.{terms_of}
use Rattle.clause_core.specs.Multisets.{AreRests}
use Rattle.clause_core.proofs.Multisets.{cancels, stays}
use Rattle.clause_core.proofs.TermReferences.{taken_out, terms_next, terms_more}
use Rattle.clause_core.proofs.comparing.cancel.Goals as goal
use Rattle.clause_core.proofs.comparing.cancel.Goals.{in-Some, in-None+in_ok-push-in-None}

-- the same rests, of lists that are written otherwise
rests_are : (xs ys ys' rest rest' other other' : List Tree) → ys' ≡ ys → rest' ≡ rest → other' ≡ other →
    AreRests xs ys rest other → AreRests xs ys' rest' other'
rests_are xs ys ys' rest rest' other other' p q r h =
    subst (λ us. AreRests xs us rest' other') (sym p)
    (subst (λ us. AreRests xs ys us other') (sym q) (subst (λ us. AreRests xs ys rest us) (sym r) h))

pub loop-other-preserved : goal.loop-other-preserved
loop-other-preserved c =
    let xs : List Tree = terms_of c.args.terms.items in
    let ys : List Tree = terms_of (take c.loop-other.other-index c.args.others.now) in
    let first : List Tree = terms_of c.loop-other.first.items in
    let second : List Tree = terms_of c.loop-other.second.items in
    let t : Tree = c.other-item.result.now in
    let next = terms_next c.args.others.now c.loop-other.other-index c.other-item.result c.loop-other-test.true
    c.other-item.is in
    elim c.match-find.branch [
      | in-Some w ↦ (
          let at : slice_get first w.in-Some.place ≡ Some t = ap
          (λ (bs : List (Bor Tree)). slice_get (terms_of bs) w.in-Some.place) (sym c.deref.ensures.value)
          ∙ w.in-Some.ensures in
          let left : List Tree = terms_of w.swap_remove.new.self.items in
          let out : IsPermutation first (t ∷ left) = taken_out c.loop-other.first.items
          w.swap_remove.new.self.items w.in-Some.place w.swap_remove.result t w.swap_remove.ensures.value
          at w.swap_remove.ensures.items in
          rests_are xs (ys ++ t ∷ []) _ left _ second _ next (ap (λ v. terms_of v.items) w.first-is)
          (ap (λ v. terms_of v.items) w.second-is) (cancels xs ys first second t left c.loop-other.invariant out))
      | in-None+in_ok-push-in-None w ↦ (
          let new : Contains first t → ⊥ = subst (λ (bs : List (Bor Tree)). Contains (terms_of bs) t →
          ⊥) c.deref.ensures.value w.in-None.ensures in
          rests_are xs (ys ++ t ∷ []) _ first _ (second ++ t ∷ []) _ next
          (ap (λ v. terms_of v.items) w.first-is) (ap (λ v. terms_of v.items) w.second-is
          ∙ terms_more c.loop-other.second.items w.push.new.self.items c.other-item.result
          w.in_ok-push-in-None.ensures.items) (stays xs ys first second t c.loop-other.invariant new))
    ]
