-- A clause compares with the one whose place holds another term as the two terms there do: the sides
-- differ in one member, and that is the term in its context.
use Rattle.std.proofs.Common.{◌≡◌, ◌∷◌, ◌++◌, refl, ap, sym, subst}
use Rattle.std.specs.Prelude.{◌↔◌}
use Rattle.term_core.specs.Tree.{Tree}
use Rattle.term_core.specs.Contexts.{Context, plug}
use Rattle.term_order.specs.Laws.{IsTermOrder}
use Rattle.clause_core.specs.declared.clauses.Relation.{Relation}
use Rattle.clause_core.specs.declared.clauses.Relation.TheVariants.{Less, Same, Neither}
use Rattle.clause_core.specs.Clauses.{sides}
use Rattle.clause_core.specs.Comparing.{MultisetsCompare}
use Rattle.clause_core.specs.Places.{holding}
use Rattle.clause_core.proofs.OnePlace.{plug_one}
use Rattle.place_comparison.specs.AtPlaces.{TermsCompare, PlaceDecides}
use Rattle.place_comparison.proofs.OneChanged.{one_changed}
use Rattle.place_comparison.proofs.SidesRound.{sides_round}

module _ (above : Tree → Tree → Type 0) (laws : IsTermOrder above) where
  plugged : (k : Context) (t u : Tree) → plug k t ≡ plug k u → t ≡ u
  plugged k t u e = (plug_one k k t u e refl).1

  -- two terms in one context compare as they do alone
  in_context : (k : Context) (t u : Tree) (r : Relation) →
      TermsCompare above (plug k t) (plug k u) r ↔ TermsCompare above t u r
  in_context k t u Same = (plugged k t u, ap (λ s. plug k s))
  in_context k t u Less =
      let h = laws.in_one_context k t u in
      (λ p. (λ e. p.0 (ap (λ s. plug k s) e), h.0 p.1), λ p. (λ e. p.0 (plugged k t u e), h.1 p.1))
  in_context k t u Neither =
      let h = laws.in_one_context k t u in
      (λ p. (λ e. p.0 (ap (λ s. plug k s) e), λ g. p.1 (h.1 g)), λ p. (λ e. p.0 (plugged k t u e), λ g. p.1 (h.0 g)))

  pub decided_there : PlaceDecides above
  decided_there c place at u r =
      let round = sides_round c place at in
      let lists = one_changed round.0 round.1 (plug at.round at.term) (plug at.round u) above r in
      let terms = in_context at.round at.term u r in (
        λ h. terms.0 (lists.0
            (subst (λ ys. MultisetsCompare above (round.0 ++ plug at.round at.term ∷ round.1) ys r) (round.2 u)
            (subst (λ xs. MultisetsCompare above xs (sides (holding at u)) r) round.3 h))),
        λ h. subst (λ xs. MultisetsCompare above xs (sides (holding at u)) r) (sym round.3)
            (subst (λ ys. MultisetsCompare above (round.0 ++ plug at.round at.term ∷ round.1) ys r)
            (sym (round.2 u)) (lists.1 (terms.1 h))),
      )
