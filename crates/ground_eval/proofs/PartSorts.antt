-- Sorts of variables, and constants at their places.
use Rattle.std.proofs.Common.{◌≡◌, ℕ, List, [], ◌∷◌, ◌++◌, Some, ap, sym, ◌∙◌, subst, map}
use Rattle.std.specs.Prelude.{slice_get, option_map}
use Rattle.std.proofs.lemmas.Option.{slice_get-map}
use Rattle.std.proofs.lemmas.List.{map-append}
use Rattle.term_core.specs.Tree.{Tree, trees_of}
use Rattle.spec_core.specs.declared.records.VarInfo.{VarInfo}
use Rattle.spec_core.specs.WellSorted.{sorts_of}
use Rattle.value_bank.specs.Cells.{Cell, IsTerm, AreTerms, AddsCells}
use Rattle.value_bank.specs.declared.bank.ValueId.{ValueId}
use Rattle.rule_code.proofs.Joined.{joined}
use Rattle.bank_machine.specs.Runs.{StandAt}
use Rattle.ground_eval.proofs.SharedSides.{stand_kept}

-- a variable's sort is that of the list
pub sort_of_item : (vars : List VarInfo) (n : ℕ) (x : VarInfo) → slice_get vars n ≡ Some x →
    slice_get (sorts_of vars) n ≡ Some x.sort
sort_of_item vars n x at = slice_get-map (λ (v : VarInfo). v.sort) vars n
    ∙ ap (λ o. option_map (λ (v : VarInfo). v.sort) o) at

-- one more place after others
pub stand_more : (old new : List Cell) (ids after : List ValueId) (values : List Tree) (id : ValueId)
    (v : Tree) → AddsCells old new → StandAt old ids values → IsTerm new id.0 v → after ≡ ids ++ id ∷ [] →
    StandAt new after (values ++ v ∷ [])
stand_more old new ids after values id v adds h here is =
    let places : map (λ (x : ValueId). x.0) after ≡ map (λ (x : ValueId). x.0) ids
    ++ id.0 ∷ [] = ap (λ z. map (λ (x : ValueId). x.0) z) is ∙ map-append (λ (x : ValueId). x.0) ids (id ∷ []) in
    subst (λ ps. AreTerms new ps (trees_of (values ++ v ∷ []))) (sym places)
    (joined new (map (λ (x : ValueId). x.0) ids) (id.0 ∷ []) values (v ∷ [])
    (stand_kept old new ids values adds h) (here, tt))
