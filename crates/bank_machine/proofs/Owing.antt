-- What calls give for which frames wait, along the moves of the machine.
use Rattle.std.proofs.Common.{◌≡◌, ℕ, ◌+◌, ◌-◌, ◌<◌, List, [], ◌∷◌, ◌++◌, Some, refl, sym, subst, arith, length}
use Rattle.std.specs.Prelude.{slice_get}
use Rattle.term_core.specs.Tree.{Tree, app}
use Rattle.spec_core.specs.declared.records.Spec.{Spec}
use Rattle.spec_core.specs.Gives.{Gives}
use Rattle.spec_core.specs.WellSorted.{IsWellSorted}
use Rattle.rule_code.specs.Code.{Step, End, call, slots, Does}
use Rattle.rule_code.specs.Instructions.{Instruction, does}
use Rattle.bank_machine.specs.declared.held.Held.{Held}
use Rattle.bank_machine.specs.Owed.{IsOwed, Owes}
use Rattle.bank_machine.specs.Ranged.{AreThere}
use Rattle.bank_machine.specs.Stacks.{held}
use Rattle.bank_machine.specs.States.{Frame, frame, State, StateGives, Moves, Enters}
use Rattle.bank_machine.proofs.Moving.{move_right, entered_right}

-- no frame waits for it
abbrev pub alone : Frame → State
alone f = record { top = f; waiting = [] }

-- a move of the top frame alone keeps what its code gives, less the cost of the move
pub does_right : (spec : Spec) (top next : Frame) (c : ℕ) → IsWellSorted spec →
    Moves spec (alone top) c (alone next) → (w : Tree) (n : ℕ) → Does spec next.env next.steps next.end w n →
    Does spec top.env top.steps top.end w (c + n)
does_right spec top next c fine m w n d =
    let g : StateGives spec (alone top) w (c + n) = move_right spec (alone top) (alone next) c w n fine m (
      w,
      n,
      0,
      d,
      (refl, refl),
      omega arith,
    ) in
    let k : g.1 ≡ c + n = omega (arith, g.4.1, g.5) in
    subst (λ x. Does spec top.env top.steps top.end w x) k
    (subst (λ u. Does spec top.env top.steps top.end u g.1) (sym g.4.0) g.3)

module _ (spec : Spec) (code : List Instruction) where
  -- the top frame is another one, and more of the budget is spent
  pub owes_on : (top next : Frame) (c from to : ℕ) (hs : List Held) (fs : List Frame) → to + c ≡ from →
      ((w : Tree) (n : ℕ) → Does spec next.env next.steps next.end w n →
      Does spec top.env top.steps top.end w (c + n)) → Owes spec code top from hs fs → Owes spec code next to hs fs
  owes_on top next c from to [] fs e on o = tt
  owes_on top next c from to (h ∷ hs) [] e on o = tt
  owes_on top next c from to (h ∷ hs) (f ∷ fs) e on (g, ss, one, rest) =
      let here : IsOwed spec code next to h f g ss = record {
        place = one.place;
        next = one.next;
        there = one.there;
        range = one.range;
        paid = omega (arith, e, one.paid);
        gives = λ w n m d q. one.gives w (c + n) m (on w n d) (omega (arith, e, q));
      } in
      (g, ss, here, rest)

  -- a call is entered, and its frame waits
  pub owes_entered : (fine : IsWellSorted spec) (env : List Tree) (f : ℕ) (ss : List ℕ) (rest : List Step)
      (end : End) (entered : Frame) → Enters spec f (slots env ss) entered →
      (base place left : ℕ) (hs : List Held) (fs : List Frame) →
      slice_get code place ≡ Some (does (call f ss)) → AreThere (length env) ss → 0 < left →
      Owes spec code (frame env (call f ss ∷ rest) end) left hs fs →
      Owes spec code entered (left - 1) (held base (place + 1) left ∷ hs) (frame env rest end ∷ fs)
  owes_entered fine env f ss rest end entered enters base place left hs fs there range funds o =
      let here : IsOwed spec code entered (left - 1) (held base (place + 1) left) (frame env rest end) f ss = record {
        place = place;
        next = omega arith;
        there = there;
        range = range;
        paid = omega arith;
        gives = λ w n m d q.
            let k : 1 + n ≡ m = omega (arith, q, funds) in
            subst (λ x. Gives spec (app f (slots env ss)) w x) k
            (entered_right spec fine f (slots env ss) entered enters w n d);
      } in
      (f, ss, here, o)

  -- a value is given to the frame that waits for it
  module _ (top : Frame) (left : ℕ) (h : Held) (hs : List Held) (back : Frame) (fs : List Frame)
      (o : Owes spec code top left (h ∷ hs) (back ∷ fs)) (v : Tree) (d : Does spec top.env top.steps top.end v 0) where
    abbrev pub function : ℕ
    function = o.0

    abbrev pub arguments : List ℕ
    arguments = o.1

    pub owed : IsOwed spec code top left h back o.0 o.1
    owed = o.2

    pub call_gives : Gives spec (app o.0 (slots back.env o.1)) v (h.left - left)
    call_gives = owed.gives v 0 (h.left - left) d (omega (arith, owed.paid))

    pub owes_returned : Owes spec code (frame (back.env ++ v ∷ []) back.steps back.end) left hs fs
    owes_returned =
        owes_on (frame back.env (call o.0 o.1 ∷ back.steps) back.end)
        (frame (back.env ++ v ∷ []) back.steps back.end) (h.left - left) h.left left hs fs
        (omega (arith, owed.paid))
        (λ w n more. (v, h.left - left, n, call_gives, more, refl)) o.3
