-- What is added to lists one by one: names of variables by their sorts, and sides of equations.
use Rattle.std.proofs.Common.{◌≡◌, ◌<◌, ◌+◌, ℕ, List, [], ◌∷◌, ◌++◌, length, take, get_or, refl, ap, sym, ◌∙◌}
use Rattle.std.proofs.Common.{append_assoc}
use Rattle.std.specs.Prelude.{All, Contains, option_map}
use Rattle.std.proofs.lemmas.List.{take_more}
use Rattle.std.proofs.lemmas.List.Elements.{All-contains}
use Rattle.std.proofs.lemmas.Option.{slice_get-map, slice_get_read}
use Rattle.term_core.specs.Tree.{Tree}
use Rattle.spec_core.specs.declared.records.Equation.{Equation}
use Rattle.spec_core.specs.declared.records.VarInfo.{VarInfo}
use Rattle.spec_core.specs.TermText.{variable_names}
use Rattle.clause_core.specs.Clauses.{sides_of}
use Rattle.clause_core.proofs.Sides.{sides_append}
use Rattle.node_names.proofs.Different.{at_contains}

abbrev name_of : VarInfo → List ℕ
name_of v = v.name

pub named : (known : List (List ℕ)) (vars : List VarInfo) (i : ℕ) (v : VarInfo) → i < length vars
    → v ≡ get_or vars i v → All (Contains known) (variable_names vars) → Contains known v.name
named known vars i v lt is all =
    All-contains (Contains known) (variable_names vars) v.name all
    (at_contains (variable_names vars) i v.name
    (slice_get-map name_of vars i
    ∙ ap (λ o. option_map name_of o) (slice_get_read vars (length vars) i v refl lt is)))

pub sides_pushed : (all before first second : List Tree) (es : List Equation) (i : ℕ) (e : Equation)
    (l r : Tree) → i < length es → e ≡ get_or es i e → before ≡ all ++ sides_of (take i es)
    → l ≡ e.left → r ≡ e.right → first ≡ before ++ l ∷ [] → second ≡ first ++ r ∷ []
    → second ≡ all ++ sides_of (take (i + 1) es)
sides_pushed all before first second es i e l r lt is start l_is r_is first_is second_is =
    let done = sides_of (take i es) in
    let more : take (i + 1) es ≡ take i es ++ e ∷ [] =
    take_more es i e lt ∙ ap (λ (x : Equation). take i es ++ x ∷ []) (sym is) in
    let sides : sides_of (take (i + 1) es) ≡ done ++ (e.left ∷ e.right ∷ []) =
    ap (λ (ds : List Equation). sides_of ds) more ∙ sides_append (take i es) (e ∷ []) in
    second_is ∙ ap (λ (xs : List Tree). xs ++ r ∷ []) first_is
    ∙ ap (λ (xs : List Tree). (xs ++ l ∷ []) ++ r ∷ []) start
    ∙ append_assoc (all ++ done) (l ∷ []) (r ∷ [])
    ∙ append_assoc all done (l ∷ r ∷ [])
    ∙ ap (λ (x : Tree). all ++ (done ++ (x ∷ r ∷ []))) l_is
    ∙ ap (λ (x : Tree). all ++ (done ++ (e.left ∷ x ∷ []))) r_is
    ∙ ap (λ (xs : List Tree). all ++ xs) (sym sides)
