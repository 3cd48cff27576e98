use Rattle.std.proofs.Common.{◌≡◌, Some, true, false, subst}
use Rattle.std.specs.Prelude.{slice_get}
use Rattle.std.proofs.lemmas.Bool.{eqb-true, eq-eqb}
use Rattle.added_goals.proofs.SortNames.{found_sort, no_sort, only_sort}
use Rattle.added_goals.proofs.signatures.is_sort_named.Goals as goal

pub returns-in-Some : goal.returns-in-Some
returns-in-Some c =
    let sig = c.args.sig.now in
    let name = c.args.name.now in
    let found = found_sort sig name c.in-Some.sort c.in-Some.ensures in (
      (λ t. subst (λ n. slice_get sig.sorts n ≡ Some name) (eqb-true c.in-Some.sort.0 c.args.number t) found),
      (λ there. eq-eqb c.in-Some.sort.0 c.args.number
          (only_sort sig c.declared.ensures name c.in-Some.sort.0 c.args.number found there)),
    )

pub returns-in-None : goal.returns-in-None
returns-in-None c = (
  (λ t. absurd (let q : false ≡ true = t in cc)),
  (λ there. absurd (no_sort c.args.sig.now c.args.name.now c.args.number c.in-None.ensures there)),
)
