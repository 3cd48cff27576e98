-- A sorted clause within the limits has places whose numbers fit.
use Rattle.std.proofs.Common.{◌≡◌, suc, List, [], ◌∷◌, refl, arith, length}
use Rattle.std.specs.List.{AllByRecursion}
use Rattle.term_core.specs.Tree.{Tree, Trees, var, app, none, some, list_of}
use Rattle.term_core.specs.declared.ids.SortId.{SortId}
use Rattle.term_core.proofs.Items.{all_append}
use Rattle.spec_core.specs.declared.records.Equation.{Equation}
use Rattle.spec_core.specs.Sig.{Sig}
use Rattle.spec_core.specs.Sorts.{Sorted, SortedAll}
use Rattle.spec_core.specs.WellSorted.{HasFewArguments, EquationsAreSorted}
use Rattle.clause_core.specs.declared.clauses.Clause.{Clause}
use Rattle.clause_core.specs.Clauses.{ClauseIsSorted, sides_of}
use Rattle.clause_core.specs.Limits.{IsWithin}
use Rattle.clause_places.specs.Numbers.{IsNarrow, AreNarrow, NumbersFit}

module _ (sig : Sig) (few : HasFewArguments sig) (ctx : List SortId) where
  as_many :
      (ts : Trees) (ss : List SortId) → SortedAll sig ctx ts ss → length (list_of ts) ≡ length ss
  as_many none [] h = refl
  as_many none (s ∷ ss) h = absurd h
  as_many (some t ts) [] h = absurd h
  as_many (some t ts) (s ∷ ss) h = omega (arith, as_many ts ss h.1)

  mutual
    pub sorted_narrow : (t : Tree) (s : SortId) → Sorted sig ctx t s → IsNarrow t
    sorted_narrow (var n) s h = tt
    sorted_narrow (app f ts) s (i, at, is, args) =
        (omega (arith, few f i at, as_many ts i.args args), all_narrow ts i.args args)

    all_narrow : (ts : Trees) (ss : List SortId) → SortedAll sig ctx ts ss → AreNarrow ts
    all_narrow none ss h = tt
    all_narrow (some t ts) [] h = absurd h
    all_narrow (some t ts) (s ∷ ss) h = (sorted_narrow t s h.0, all_narrow ts ss h.1)

  sides_narrow :
      (es : List Equation) → EquationsAreSorted sig ctx es → AllByRecursion IsNarrow (sides_of es)
  sides_narrow [] h = tt
  sides_narrow (e ∷ es) h =
      let here = h 0 e refl in
      let rest = sides_narrow es (λ k d at. h (suc k) d at) in
      (sorted_narrow e.left here.0 here.1, (sorted_narrow e.right here.0 here.2, rest))

pub numbers_fit :
    (sig : Sig) (c : Clause) → HasFewArguments sig → ClauseIsSorted sig c → IsWithin c →
    NumbersFit c
numbers_fit sig c few sorted within = record {
  equations = within.equations;
  arguments =
      all_append IsNarrow (sides_of c.premises) (sides_of c.conclusions)
      (sides_narrow sig few c.ctx c.premises sorted.premises)
      (sides_narrow sig few c.ctx c.conclusions sorted.conclusions);
}
