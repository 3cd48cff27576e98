-- Equations with constants, and their code.
use Rattle.std.proofs.Common.{◌≡◌, ℕ, zero, suc, ◌<◌, List, [], ◌∷◌, Some, refl, arith, length}
use Rattle.std.proofs.Common.{get_or}
use Rattle.std.specs.Prelude.{slice_get}
use Rattle.std.proofs.lemmas.Option.{slice_get-get_or}
use Rattle.spec_core.specs.declared.records.Equation.{Equation}
use Rattle.value_bank.specs.Cells.{Cell, AddsCells}
use Rattle.value_bank.specs.declared.bank.ValueId.{ValueId}
use Rattle.rule_code.specs.Programs.{Program}
use Rattle.ground_eval.specs.declared.comparing.SidePair.{SidePair}
use Rattle.ground_eval.specs.Prepared.{pair_of}
use Rattle.ground_eval.specs.OpenSides.{Setting, CanOpen, CanOpenAll, with_constants}
use Rattle.ground_eval.proofs.SharedSides.{stand_kept}

-- sides can be compared when cells are added
pub can_open_still : (s : Setting) (p : Program) (old new : List Cell) (pair : SidePair) (ids : List ValueId)
    (e : Equation) → AddsCells old new → CanOpen s p old pair ids e → CanOpen s p new pair ids e
can_open_still s p old new pair ids e adds h =
    let c = h.compared in
    record {
      compared = record {
        code = c.code;
        stand = stand_kept old new ids (with_constants s) adds c.stand;
        built = c.built;
        sorted = c.sorted;
      };
      left = h.left;
      right = h.right;
    }

pub can_open_all_still : (s : Setting) (p : Program) (old new : List Cell) (pairs : List SidePair)
    (ids : List ValueId) (es : List Equation) → AddsCells old new → CanOpenAll s p old pairs ids es →
    CanOpenAll s p new pairs ids es
can_open_all_still s p old new pairs ids es adds
    h = record {
      count = h.count;
      each = λ k e pair a b. can_open_still s p old new pair ids e adds
          (h.each k e pair a b);
    }

module _ {s : Setting} {p : Program} {cells : List Cell} {pairs : List SidePair} {ids : List ValueId}
    {es : List Equation} (c : CanOpenAll s p cells pairs ids es) where
  -- an equation with its code
  pub record OpenedPair (i : ℕ) (pair : SidePair) (new : List Cell) : Type 0 where
    pub equation : Equation
    pub at : slice_get es i ≡ Some equation
    pub ready : CanOpen s p new pair ids equation

  some_item : (xs : List Equation) (i : ℕ) → i < length xs → (x : Equation) × (slice_get xs i ≡ Some x)
  some_item [] i lt = absurd (omega (arith, lt))
  some_item (x ∷ xs) zero lt = (x, refl)
  some_item (x ∷ xs) (suc i) lt = some_item xs i (omega (arith, lt))

  pub opened_pair : (i : ℕ) → i < length pairs → (new : List Cell) → AddsCells cells new →
      OpenedPair i (get_or pairs i (pair_of 0 0)) new
  opened_pair i lt new adds =
      let e = some_item es i (omega (arith, lt, c.count)) in
      let pair = get_or pairs i (pair_of 0 0) in
      let at = slice_get-get_or pairs i (pair_of 0 0) lt in
      record {
        equation = e.0;
        at = e.1;
        ready = can_open_still s p cells new pair ids e.0 adds
            (c.each i e.0 pair e.1 at);
      }
