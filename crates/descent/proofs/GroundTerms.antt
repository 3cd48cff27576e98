-- A sorted term without variables is ground, over the signature's symbols.
use Rattle.std.proofs.Common.{◌≡◌, List, [], ◌∷◌, Some, None, refl, arith, length}
use Rattle.std.proofs.lemmas.Option.{slice_get_within}
use Rattle.term_core.specs.Tree.{Tree, Trees, var, app, none, some, list_of}
use Rattle.term_core.specs.Ground.{IsGroundIn, AreGroundIn}
use Rattle.term_core.specs.declared.ids.SortId.{SortId}
use Rattle.spec_core.specs.Sig.{Sig}
use Rattle.spec_core.specs.Sorts.{Sorted, SortedAll}
use Rattle.spec_core.specs.WellSorted.{HasFewArguments}
use Rattle.spec_core.proofs.Constructors.{info_parts}

-- as many terms as sorts
pub as_many : (sig : Sig) (ctx : List SortId) (ts : Trees) (ss : List SortId) → SortedAll sig ctx ts ss →
    length (list_of ts) ≡ length ss
as_many sig ctx none [] p = refl
as_many sig ctx none (s ∷ ss) p = absurd p
as_many sig ctx (some t ts) [] p = absurd p
as_many sig ctx (some t ts) (s ∷ ss) p = omega (arith, as_many sig ctx ts ss p.1)

module _ (sig : Sig) (few : HasFewArguments sig) where
  mutual
    pub sorted_ground : (t : Tree) (s : SortId) → Sorted sig [] t s → IsGroundIn (length sig.table) t
    sorted_ground (var n) s p = absurd (let q : None ≡ Some s = p in cc)
    sorted_ground (app f ts) s p =
        let e = info_parts sig.table f p.0 p.1 in (
          slice_get_within sig.table f e.0 e.1,
          omega (arith, few f p.0 p.1, as_many sig [] ts p.0.args p.3),
          sorted_grounds ts p.0.args p.3,
        )

    sorted_grounds : (ts : Trees) (ss : List SortId) → SortedAll sig [] ts ss → AreGroundIn (length sig.table) ts
    sorted_grounds none ss p = tt
    sorted_grounds (some t ts) [] p = absurd p
    sorted_grounds (some t ts) (s ∷ ss) p = (sorted_ground t s p.0, sorted_grounds ts ss p.1)
