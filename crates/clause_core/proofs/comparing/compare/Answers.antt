use Rattle.std.proofs.Common.{◌≡◌, List, ap, sym, ◌∙◌, subst}
use Rattle.std.specs.Borrow.{Bor}
use Rattle.term_core.specs.Tree.{Tree}
use Rattle.term_core.specs.References.{terms_of}
use Rattle.clause_core.specs.Clauses.{sides}
use Rattle.clause_core.specs.Multisets.{AreRests}
use Rattle.clause_core.proofs.Multisets.{rest_in_first, other_in_second}
use Rattle.clause_core.proofs.comparing.compare.Goals as goal

-- the rests of the sides, as they are lent
rests : (xs xs' ys ys' first first' second second' : List Tree) → xs ≡ xs' → ys ≡ ys' → first' ≡ first →
    second' ≡ second → AreRests xs ys first second → AreRests xs' ys' first' second'
rests xs xs' ys ys' first first' second second' p q r s h =
    subst (λ us. AreRests us ys' first' second') p
    (subst (λ us. AreRests xs us first' second') q
    (subst (λ us. AreRests xs ys us second') (sym r) (subst (λ us. AreRests xs ys first us) (sym s) h)))

pub relation-requires-clause-first : goal.relation-requires-clause-first
relation-requires-clause-first g c =
    let others : terms_of c.deref.result.now ≡ sides c.args.d.now = ap (λ (bs : List (Bor Tree)). terms_of bs)
    c.deref.ensures.value ∙ c.in_ok-others.ensures in
    let h = rests _ (sides c.args.c.now) _ (sides c.args.d.now) _ (terms_of c.deref-2.result.now) _
    (terms_of c.deref-3.result.now) c.in_ok-sides.ensures others
    (ap (λ (bs : List (Bor Tree)). terms_of bs) c.deref-2.ensures.value)
    (ap (λ (bs : List (Bor Tree)). terms_of bs) c.deref-3.ensures.value) c.in_ok-rests.ensures in
    λ t i. c.requires.first t (rest_in_first _ _ _ _ h t i)

pub relation-requires-clause-second : goal.relation-requires-clause-second
relation-requires-clause-second g c =
    let others : terms_of c.deref.result.now ≡ sides c.args.d.now = ap (λ (bs : List (Bor Tree)). terms_of bs)
    c.deref.ensures.value ∙ c.in_ok-others.ensures in
    let h = rests _ (sides c.args.c.now) _ (sides c.args.d.now) _ (terms_of c.deref-2.result.now) _
    (terms_of c.deref-3.result.now) c.in_ok-sides.ensures others
    (ap (λ (bs : List (Bor Tree)). terms_of bs) c.deref-2.ensures.value)
    (ap (λ (bs : List (Bor Tree)). terms_of bs) c.deref-3.ensures.value) c.in_ok-rests.ensures in
    λ t i. c.requires.second t (other_in_second _ _ _ _ h t i)

pub returns : goal.returns
returns g c =
    let others : terms_of c.deref.result.now ≡ sides c.args.d.now = ap (λ (bs : List (Bor Tree)). terms_of bs)
    c.deref.ensures.value ∙ c.in_ok-others.ensures in
    c.relation.ensures (sides c.args.c.now) (sides c.args.d.now)
    (rests _ (sides c.args.c.now) _ (sides c.args.d.now) _ (terms_of c.deref-2.result.now) _
    (terms_of c.deref-3.result.now) c.in_ok-sides.ensures others
    (ap (λ (bs : List (Bor Tree)). terms_of bs) c.deref-2.ensures.value)
    (ap (λ (bs : List (Bor Tree)). terms_of bs) c.deref-3.ensures.value) c.in_ok-rests.ensures)
