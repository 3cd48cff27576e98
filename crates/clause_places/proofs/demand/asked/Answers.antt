use Rattle.std.proofs.Common.{◌≡◌, List, ℕ, [], ◌∷◌, ap, sym, ◌∙◌, take}
use Rattle.std.specs.List.{flat_map}
use Rattle.spec_core.specs.declared.records.Equation.{Equation}
use Rattle.clause_core.specs.Clauses.{sides_of}
use Rattle.clause_places.specs.Spots.{Spot, spots}
use Rattle.clause_places.specs.Asked.{asked_by}
use Rattle.clause_places.specs.Demand.{asked_among}
use Rattle.clause_places.proofs.AskedAmong.{asked_by_sides}
use Rattle.clause_places.proofs.Firsts.{first_as, first_before, first_behind}
use Rattle.clause_places.proofs.demand.asked.Goals as goal

pub returns-in-Some : goal.returns-in-Some
returns-in-Some c =
    let spec = c.args.spec.now in
    let clause = c.args.clause.now in
    let among = λ (es : List Equation). asked_among spec (sides_of es) in
    let found = rw c.in-Some.is at c.in_ok-var.ensures in
    let here : take 1 (among clause.premises) ≡ c.in-Some.var.0 ∷ [] =
    ap (λ es. take 1 (among es)) (sym c.as_slice.ensures) ∙ found in
    ap (λ (ns : List ℕ). take 1 ns) (asked_by_sides spec clause)
    ∙ first_before (among clause.premises) (among clause.conclusions) c.in-Some.var.0 here

pub returns : goal.returns
returns c =
    let spec = c.args.spec.now in
    let clause = c.args.clause.now in
    let among = λ (es : List Equation). asked_among spec (sides_of es) in
    let all = flat_map (λ (s : Spot). asked_by spec s.term) (spots clause) in
    let none = rw c.in_default.is at c.in_ok-var.ensures in
    let before : take 1 (among clause.premises) ≡ [] =
    ap (λ es. take 1 (among es)) (sym c.as_slice.ensures) ∙ none in
    let same : take 1 all ≡ take 1 (among c.as_slice-2.result.now) =
    ap (λ (ns : List ℕ). take 1 ns) (asked_by_sides spec clause)
    ∙ first_behind (among clause.premises) (among clause.conclusions) before
    ∙ ap (λ es. take 1 (among es)) (sym c.as_slice-2.ensures) in
    first_as c.asked_in_equations-2.result all (among c.as_slice-2.result.now) same
    c.asked_in_equations-2.ensures
