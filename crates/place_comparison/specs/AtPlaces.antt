-- Comparing a clause with what it becomes when a place of it holds another term.
use Rattle.std.specs.Prelude.{◌≡◌, ◌≢◌, ◌↔◌}
use Rattle.term_core.specs.Tree.{Tree}
use Rattle.clause_core.specs.declared.clauses.Clause.{Clause}
use Rattle.clause_core.specs.declared.clauses.Relation.{Relation}
use Rattle.clause_core.specs.declared.clauses.Relation.TheVariants.{Less, Same, Neither}
use Rattle.clause_core.specs.declared.steps.Place.{Place}
use Rattle.clause_core.specs.Comparing.{Compares}
use Rattle.clause_core.specs.Places.{TermAt, holding}

-- comparing the first term with the second: Same if they are one term, Less if they aren't
-- and the first is above, else Neither
abbrev pub TermsCompare : (Tree → Tree → Type 0) → Tree → Tree → Relation → Type 0
TermsCompare above t u Same = t ≡ u
TermsCompare above t u Less = (t ≢ u) × above t u
TermsCompare above t u Neither = (t ≢ u) × (above t u → ⊥)

-- a clause compares with the one whose place holds another term as the two terms there do
abbrev pub PlaceDecides : (Tree → Tree → Type 0) → Type 0
PlaceDecides above =
    (c : Clause) (place : Place) (at : TermAt c place) (u : Tree) (relation : Relation) →
    Compares above c (holding at u) relation ↔ TermsCompare above at.term u relation
