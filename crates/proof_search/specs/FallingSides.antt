-- By which sides the only conclusion of a clause may rewrite to what is less.
use Rattle.std.specs.Prelude.{◌≡◌, ◌⊎◌, ℕ, Bool, true, false, not, List, [], ◌∷◌, Some, length, slice_get}
use Rattle.std.specs.List.{AllByRecursion}
use Rattle.term_core.specs.Tree.{Tree}
use Rattle.spec_core.specs.Sig.{Sig}
use Rattle.spec_core.specs.declared.records.Equation.{Equation}
use Rattle.clause_core.specs.Clauses.{ClauseIsSorted}
use Rattle.clause_core.specs.declared.clauses.Clause.{Clause}
use Rattle.clause_core.specs.Places.{side}
use Rattle.fitting_lists.specs.Fitting.{both_sides, has_all}
use Rattle.fitting_lists.specs.Questions.{Answers}
use Rattle.inference_rules.specs.Answers.{clauses_of}
use Rattle.proof_search.specs.declared.building.Building.{Building}
use Rattle.proof_search.specs.declared.falling_sides.FallingSides.{FallingSides}
use Rattle.proof_search.specs.declared.setting.LemmaGoal.{LemmaGoal}
use Rattle.proof_search.specs.declared.setting.Setting.{Setting}

-- whether the left side, if true, or the right one may fall
abbrev pub marked : Bool → FallingSides → Bool
marked true sides = sides.left
marked false sides = sides.right

-- the clause is sorted over some signature
abbrev pub HasSorts : Clause → Type 0
HasSorts c = (sig : Sig) × ClauseIsSorted sig c

-- by some list of this many terms each side of the equation becomes the other one
abbrev pub Permutes : ℕ → Equation → Type 0
Permutes count e =
    (list : List Tree)
    × Answers
    (record { variables = count; patterns = both_sides e; terms = e.right ∷ e.left ∷ [] })
    list

-- the clause is one equation that permutes, without premises, and its left side alone is kept,
-- which has all variables
pub record KeepsLeft (c : Clause) (sides : FallingSides) : Type 0 where
  pub left : sides.left ≡ true
  pub right : sides.right ≡ false
  pub premises : c.premises ≡ []
  pub equation : Equation
  pub alone : c.conclusions ≡ equation ∷ []
  pub variables : has_all c (equation.left ∷ []) ≡ true
  pub permutes : Permutes (length c.ctx) equation

module _ (above : Tree → Tree → Type 0) where
  -- the side has all variables of the clause; or it is passed over, and it hasn't, or the other
  -- side is above it
  abbrev pub MayFall : Clause → Tree → Tree → Bool → Type 0
  MayFall c side other true = has_all c (side ∷ []) ≡ true
  MayFall c side other false = (has_all c (side ∷ []) ≡ false) ⊎ above other side

  -- each side of the only conclusion is such
  pub record AreFalling (c : Clause) (sides : FallingSides) : Type 0 where
    pub each :
        (left : Bool) (e : Equation) → c.conclusions ≡ e ∷ [] →
        MayFall c (side left e) (side (not left) e) (marked left sides)

  -- those of a lemma are such, or the left one is kept of an equation that permutes
  abbrev pub AreLemmaSides : Clause → FallingSides → Type 0
  AreLemmaSides c sides = AreFalling c sides ⊎ KeepsLeft c sides

  -- each lemma has its sides
  abbrev pub LemmasFall : Setting → Type 0
  LemmasFall s = AllByRecursion (λ (m : LemmaGoal). AreLemmaSides m.clause m.sides) s.goals.items

  -- the sides of the lemmas are kept, and the falling ones of node 0
  pub record KeepsSides (s : Setting) (b : Building) : Type 0 where
    pub lemmas : LemmasFall s
    pub first :
        (c : Clause) → slice_get (clauses_of b.block.nodes.items) 0 ≡ Some c → AreFalling c b.sides
