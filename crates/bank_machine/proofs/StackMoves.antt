-- What each instruction does to the stack is a move of the state that it stands for.
use Rattle.std.proofs.Common.{◌≡◌, ℕ, zero, suc, ◌+◌, ◌-◌, ◌<◌, ◌≤◌, List, [], ◌∷◌, ◌++◌, Some, None, refl, ap, sym}
use Rattle.std.proofs.Common.{◌∙◌, subst, arith, length, length-append, append_assoc, take, drop, get_or}
use Rattle.std.specs.Prelude.{slice_get, reverse}
use Rattle.std.specs.List.{AllByRecursion}
use Rattle.std.proofs.lemmas.List.{reverse-append, take-append-le}
use Rattle.term_core.proofs.Items.{taken_next}
use Rattle.term_core.specs.Tree.{Tree, var, app, some, instance, trees_of}
use Rattle.term_core.specs.declared.ids.SortId.{SortId}
use Rattle.spec_core.specs.Gives.{Gives}
use Rattle.spec_core.specs.WellSorted.{IsWellSorted}
use Rattle.value_bank.specs.Cells.{Cell, cell, IsTerm, AreTerms, AddsCells}
use Rattle.value_bank.proofs.Terms.{one_terms, terms_kept}
use Rattle.rule_code.specs.Code.{Step, build, call, End, slot, last, slots, entries}
use Rattle.rule_code.specs.Instructions.{Instruction, does, ends, IsCodeAt}
use Rattle.rule_code.specs.Programs.{Program}
use Rattle.rule_code.proofs.Matches.{some_same}
use Rattle.rule_code.proofs.Slots.{slots_kept, slots_less}
use Rattle.rule_code.proofs.Joined.{take_whole, drop_whole}
use Rattle.rule_code.proofs.Testing.{slot_term, slot_there, slot_within}
use Rattle.bank_machine.specs.declared.kept_calls.Known.{Known}
use Rattle.bank_machine.specs.declared.turns.Turn.TheVariants.{Moved, Done, Stuck}
use Rattle.bank_machine.specs.Calls.{IsCallAt, IsFound}
use Rattle.bank_machine.specs.KeptCalls.{IsRight}
use Rattle.bank_machine.specs.Owed.{IsOwed, Owes, Pays, HasCalled}
use Rattle.bank_machine.specs.Ranged.{AreThere, IsRanged, IsRangedEnd}
use Rattle.bank_machine.specs.Sound.{IsReady}
use Rattle.bank_machine.specs.Stacks.{Stack, stack, held, gathered, Waits, Stands, IsAt, IsReturned}
use Rattle.bank_machine.specs.States.{Frame, frame, State, state, Moves, builds, enters, enters_last, returns, recalls}
use Rattle.bank_machine.specs.States.{Enters, CallsIn, CallsNext}
use Rattle.bank_machine.specs.Turns.{Works, Turns}
use Rattle.bank_machine.proofs.Moving.{call_next_costs, no_match_nothing, move_whole}
use Rattle.bank_machine.proofs.Owing.{does_right, owes_on, owes_entered, owes_returned, call_gives}
use Rattle.bank_machine.proofs.Fitting.{sound_ready}
use Rattle.bank_machine.proofs.Stacked.{slot_added, frame_returned, stands_kept, waits_above, length_take}

-- places of slots

gathered_both : (places : List ℕ) (base : ℕ) (xs ys : List ℕ) →
    gathered places base (xs ++ ys) ≡ gathered places base xs ++ gathered places base ys
gathered_both places base [] ys = refl
gathered_both places base (x ∷ xs) ys = ap (λ z. get_or places (base + x) 0 ∷ z) (gathered_both places base xs ys)

pub gathered_next : (places : List ℕ) (base : ℕ) (ss : List ℕ) (i : ℕ) → i < length ss →
    (args new : List ℕ) (place : ℕ) → args ≡ gathered places base (take i ss) →
    place ≡ get_or places (base + get_or ss i 0) 0 → new ≡ args ++ place ∷ [] →
    new ≡ gathered places base (take (i + 1) ss)
gathered_next places base ss i lt args new place a p n =
    let t : take (i + 1) ss ≡ take i ss ++ get_or ss i 0 ∷ [] = taken_next ss i (get_or ss i 0) lt
    (same_read ss i 0 lt) in
    n ∙ ap (λ z. z ++ place ∷ []) a ∙ ap (λ z. gathered places base (take i ss) ++ z ∷ []) p
    ∙ sym (gathered_both places base (take i ss) (get_or ss i 0 ∷ [])) ∙ ap (λ z. gathered places base z) (sym t)
  where
    same_read : (xs : List ℕ) (i d : ℕ) → i < length xs → get_or xs i d ≡ get_or xs i (get_or xs i d)
    same_read [] i d lt = absurd (omega (arith, lt))
    same_read (x ∷ xs) zero d lt = refl
    same_read (x ∷ xs) (suc i) d lt = same_read xs i d (omega (arith, lt))

module _ (cells : List Cell) (places : List ℕ) (base : ℕ) (env : List Tree)
    (terms : AreTerms cells (drop base places) (trees_of env)) where
  pub gathered_terms : (ss : List ℕ) → AreThere (length env) ss →
      AreTerms cells (gathered places base ss) (slots env ss)
  gathered_terms [] h = tt
  gathered_terms (s ∷ ss) h = (slot_term (slot_there cells base places env terms s h.0), gathered_terms ss h.1)

  slot_in : (k : ℕ) → k < length env → base + k < length places
  slot_in k lt = slot_within (slot_there cells base places env terms k lt)

  pub slots_in : base ≤ length places → (ss : List ℕ) → AreThere (length env) ss →
      AllByRecursion (λ (s : ℕ). base + s < length places) ss
  slots_in le [] h = tt
  slots_in le (s ∷ ss) h = (slot_in s h.0, slots_in le ss h.1)

pub slots_listed : (env : List Tree) (ss : List ℕ) → trees_of (entries env ss) ≡ slots env ss
slots_listed env [] = refl
slots_listed env (s ∷ ss) = ap (λ z. some (instance env (var s)) z) (slots_listed env ss)

-- the code of a state from its next instruction on

pub record StepNext (code : List Instruction) (k : ℕ) (steps : List Step) (end : End) (st : Step) : Type 0 where
  pub rest : List Step
  pub is : steps ≡ st ∷ rest
  pub goes : IsCodeAt code (suc k) rest end

ends_not : (e : End) (st : Step) → ends e ≡ does st → ⊥
ends_not e st q = cc

pub step_next : (code : List Instruction) (k : ℕ) (steps : List Step) (end : End) (st : Step) →
    IsCodeAt code k steps end → slice_get code k ≡ Some (does st) → StepNext code k steps end st
step_next code k [] end st h e = absurd (ends_not end st (some_same (slice_get code k) (ends end) (does st) h e))
step_next code k (x ∷ xs) end st h e =
    let q : does x ≡ does st = some_same (slice_get code k) (does x) (does st) h.0 e in
    let s : x ≡ st = cc in
    record { rest = xs; is = ap (λ z. z ∷ xs) s; goes = h.1 }

pub end_next : (code : List Instruction) (k : ℕ) (steps : List Step) (end e : End) → IsCodeAt code k steps end →
    slice_get code k ≡ Some (ends e) → (steps ≡ []) × (end ≡ e)
end_next code k [] end e h at =
    let q : ends end ≡ ends e = some_same (slice_get code k) (ends end) (ends e) h at in
    let s : end ≡ e = cc in
    (refl, s)
end_next code k (x ∷ xs) end e h at = absurd (ends_not e x (some_same (slice_get code k) (ends e) (does x) at h.0))

module _ (p : Program) (old : List Cell) (before : Stack) (s : State) (sort : SortId)
    (w : Works p old before s sort) where
  -- if a step is next
  module _ (st : Step) (there : slice_get p.code before.next ≡ Some (does st)) where
    next : StepNext p.code before.next s.top.steps s.top.end st
    next = step_next p.code before.next s.top.steps s.top.end st w.at.code there

    now_is : s ≡ state s.top.env (st ∷ next.rest) s.top.end s.waiting
    now_is = ap (λ steps. state s.top.env steps s.top.end s.waiting) next.is

    ranged : IsRanged p.spec.rules (length s.top.env) (st ∷ next.rest) s.top.end
    ranged = subst (λ steps. IsRanged p.spec.rules (length s.top.env) steps s.top.end) next.is w.ranged.top

    step_pays : (left : ℕ) → Pays p left before s →
        Owes p.spec p.code (frame s.top.env (st ∷ next.rest) s.top.end) left (reverse before.waiting) s.waiting
    step_pays left pays = subst (λ steps. Owes p.spec p.code (frame s.top.env steps s.top.end) left
        (reverse before.waiting) s.waiting) next.is pays

  -- if an end is next
  module _ (e : End) (there : slice_get p.code before.next ≡ Some (ends e)) where
    at_end : (s.top.steps ≡ []) × (s.top.end ≡ e)
    at_end = end_next p.code before.next s.top.steps s.top.end e w.at.code there

    pub end_is : s ≡ state s.top.env [] e s.waiting
    end_is = ap (λ steps. state s.top.env steps s.top.end s.waiting) at_end.0
        ∙ ap (λ z. state s.top.env [] z s.waiting) at_end.1

    pub end_ranged : IsRangedEnd p.spec.rules (length s.top.env) e
    end_ranged = subst (λ z. IsRangedEnd p.spec.rules (length s.top.env) z) at_end.1
        (subst (λ steps. IsRanged p.spec.rules (length s.top.env) steps s.top.end) at_end.0 w.ranged.top)

    pub end_pays : (left : ℕ) → Pays p left before s →
        Owes p.spec p.code (frame s.top.env [] e) left (reverse before.waiting) s.waiting
    end_pays left pays = subst (λ (z : State). Owes p.spec p.code z.top left (reverse before.waiting) s.waiting)
        end_is pays

  -- a constructor is built
  pub build_slots : (f : ℕ) (ss : List ℕ) → slice_get p.code before.next ≡ Some (does (build f ss)) →
      AllByRecursion (λ (i : ℕ). before.base + i < length before.places) ss
  build_slots f ss there = slots_in old before.places before.base s.top.env w.at.slots w.at.within ss
      (ranged (build f ss) there).0

  pub build_args : (f : ℕ) (ss : List ℕ) → slice_get p.code before.next ≡ Some (does (build f ss)) →
      AreTerms old (gathered before.places before.base ss) (slots s.top.env ss)
  build_args f ss there = gathered_terms old before.places before.base s.top.env w.at.slots ss
      (ranged (build f ss) there).0

  pub built : IsWellSorted p.spec → (f : ℕ) (ss : List ℕ) →
      slice_get p.code before.next ≡ Some (does (build f ss)) →
      (new : List Cell) (args : List ℕ) (place : ℕ) (after : Stack) (left : ℕ) → AddsCells old new →
      args ≡ gathered before.places before.base ss → slice_get new place ≡ Some (cell f args) →
      after ≡ stack (before.places ++ place ∷ []) before.base (before.next + 1) before.waiting →
      Pays p left before s → Turns p new left after s (Moved 0)
  built fine f ss there new args place after left adds a at e pays =
      let env = s.top.env in
      let n = next (build f ss) there in
      let terms : AreTerms new args (slots env ss) = terms_kept old new args (slots env ss) adds
      (subst (λ z. AreTerms old z (slots env ss)) (sym a) (build_args f ss there)) in
      let value : IsTerm new place (app f (slots env ss)) = (args, at, terms) in
      let to : State = state (env ++ app f (slots env ss) ∷ []) n.rest s.top.end s.waiting in
      let one : before.next + 1 ≡ suc before.next = omega arith in
      let code : IsCodeAt p.code (before.next + 1) n.rest s.top.end = subst
      (λ k. IsCodeAt p.code k n.rest s.top.end) (sym one) n.goes in
      let stands = slot_added new (IsCodeAt p.code) before.places before.base before.next (before.next + 1)
      place (reverse before.waiting) env s.top.steps n.rest s.top.end s.top.end s.waiting
      (app f (slots env ss)) (stands_kept old new (IsCodeAt p.code) before.places before.base before.next
      (reverse before.waiting) s adds w.at) value code in
      let owed : Owes p.spec p.code to.top (left - 0) (reverse before.waiting) s.waiting = owes_on p.spec p.code
      (frame env (build f ss ∷ n.rest) s.top.end) to.top 0 left (left - 0) (reverse before.waiting)
      s.waiting (omega arith) (does_right p.spec (frame env (build f ss ∷ n.rest) s.top.end) to.top 0 fine
      builds) (step_pays (build f ss) there left pays) in (
        omega arith,
        (
          to,
          subst (λ z. Moves p.spec z 0 to) (sym (now_is (build f ss) there)) builds,
          subst (λ z. IsAt p.code new z to) (sym e) stands,
          subst (λ z. Pays p (left - 0) z to) (sym e) owed,
        ),
      )

  slots_there : (ss : List ℕ) → AreThere (length s.top.env) ss →
      AllByRecursion (λ (i : ℕ). before.base + i < length before.places) ss
  slots_there = slots_in old before.places before.base s.top.env w.at.slots w.at.within

  -- the values of slots, as arguments
  args_terms : (ss args : List ℕ) → AreThere (length s.top.env) ss →
      args ≡ gathered before.places before.base ss → AreTerms old args (trees_of (entries s.top.env ss))
  args_terms ss args h e = subst (λ z. AreTerms old args z) (sym (slots_listed s.top.env ss))
      (subst (λ z. AreTerms old z (slots s.top.env ss)) (sym e)
      (gathered_terms old before.places before.base s.top.env w.at.slots ss h))

  -- a function is called
  module _ (fine : IsWellSorted p.spec) (f : ℕ) (ss : List ℕ) (calls : CallsNext p.spec s f (slots s.top.env ss)) where
    ready : (u : SortId) × IsReady p.spec f (slots s.top.env ss) u
    ready = sound_ready p.spec s sort f (slots s.top.env ss) w.sound calls

    ready_args : IsReady p.spec f (trees_of (entries s.top.env ss)) ready.0
    ready_args = subst (λ vs. IsReady p.spec f vs ready.0) (sym (slots_listed s.top.env ss)) ready.1

    pub none_left : (left : ℕ) → left ≡ 0 → (after : Stack) (new : List Cell) → Turns p new left after s Stuck
    none_left left e after new apart whole v n g le = omega (
      arith,
      e,
      le,
      call_next_costs p.spec s f (slots s.top.env ss) v n fine ready.1.function calls g,
    )

    pub no_rule : (base : ℕ) (from to : List ℕ) →
        AreTerms old (drop base from) (trees_of (entries s.top.env ss)) → IsFound p old f base from to None →
        (left : ℕ) (after : Stack) (new : List Cell) → Turns p new left after s Stuck
    no_rule base from to terms found left after new apart whole v n g le =
        no_match_nothing p.spec s f (slots s.top.env ss) v n fine ready.1.function ready.1.built
        (λ k rule xs at is. found.by (entries s.top.env ss) ready.0 terms ready_args k rule xs
        at (is ∙ ap (λ z. app f z) (sym (slots_listed s.top.env ss)))) calls g

    -- the arguments are at the places from this one on
    pub call_at : (base : ℕ) (from : List ℕ) → base ≤ length from →
        AreTerms old (drop base from) (trees_of (entries s.top.env ss)) → IsCallAt p.spec old f base from
    call_at base from le terms = (entries s.top.env ss, ready.0, le, terms, ready_args)

    -- a rule is found, whose frame is entered
    record Entered (base : ℕ) (to : List ℕ) (place : ℕ) : Type 0 where
      frame : Frame
      enters : Enters p.spec f (slots s.top.env ss) frame
      terms : AreTerms old (drop base to) (trees_of frame.env)
      code : IsCodeAt p.code place frame.steps frame.end

    entered_by : (base : ℕ) (from to : List ℕ) (place : ℕ) →
        AreTerms old (drop base from) (trees_of (entries s.top.env ss)) →
        IsFound p old f base from to (Some place) → Entered base to place
    entered_by base from to place terms found =
        let h = found.by (entries s.top.env ss) ready.0 terms ready_args in
        record {
          frame = h.0;
          enters = subst (λ vs. Enters p.spec f vs h.0) (slots_listed s.top.env ss) h.1;
          terms = h.2;
          code = h.3;
        }

  take_front : (xs ys zs more : List ℕ) (n : ℕ) → n ≡ length xs → zs ≡ (xs ++ ys) ++ more → take n zs ≡ xs
  take_front xs ys zs more n e z = ap (λ m. take m zs) e
      ∙ ap (λ q. take (length xs) q) (z ∙ append_assoc xs ys more) ∙ take_whole xs (ys ++ more)

  drop_front : (xs ys : List ℕ) (n : ℕ) → n ≡ length xs → drop n (xs ++ ys) ≡ ys
  drop_front xs ys n e = ap (λ m. drop m (xs ++ ys)) e ∙ drop_whole xs ys

  module _ (fine : IsWellSorted p.spec) (f : ℕ) (ss : List ℕ)
      (there : slice_get p.code before.next ≡ Some (does (call f ss))) where
    pub calls_step : CallsNext p.spec s f (slots s.top.env ss)
    calls_step = subst (λ steps. CallsIn p.spec s.top.env steps s.top.end f (slots s.top.env ss))
        (sym (next (call f ss) there).is) (refl, refl)

    pub call_slots : AllByRecursion (λ (i : ℕ). before.base + i < length before.places) ss
    call_slots = slots_there ss (ranged (call f ss) there).0

    -- it is known what the call gives
    module _ (args : List ℕ) (a : args ≡ gathered before.places before.base ss) (known : Known)
        (r : IsRight p.spec old f args known) where
      known_args : AreTerms old args (slots s.top.env ss)
      known_args = subst (λ z. AreTerms old z (slots s.top.env ss)) (sym a)
          (gathered_terms old before.places before.base s.top.env w.at.slots ss (ranged (call f ss) there).0)

      known_gives : Gives p.spec (app f (slots s.top.env ss)) r.value known.cost
      known_gives = subst (λ z. Gives p.spec (app f z) r.value known.cost)
          (one_terms old args r.args (slots s.top.env ss) r.stand known_args) r.gives

      abbrev with_value : State
      with_value = state (s.top.env ++ r.value ∷ []) (next (call f ss) there).rest s.top.end s.waiting

      recalls_value : (waiting : List Frame) →
          Moves p.spec (state s.top.env (call f ss ∷ (next (call f ss) there).rest) s.top.end waiting)
          known.cost (state (s.top.env ++ r.value ∷ []) (next (call f ss) there).rest s.top.end waiting)
      recalls_value waiting =
          let sorted = ready fine f ss calls_step in
          recalls r.value known.cost sorted.0 sorted.1.sorted known_gives

      value_moves : Moves p.spec s known.cost with_value
      value_moves = subst (λ z. Moves p.spec z known.cost with_value) (sym (now_is (call f ss) there))
          (recalls_value s.waiting)

      pub recalled : (left : ℕ) → known.cost ≤ left → (after : Stack) →
          after ≡ stack (before.places ++ known.place ∷ []) before.base (before.next + 1) before.waiting →
          Pays p left before s → Turns p old left after s (Moved known.cost)
      recalled left le after e pays =
          let env = s.top.env in
          let n = next (call f ss) there in
          let one : before.next + 1 ≡ suc before.next = omega arith in
          let code : IsCodeAt p.code (before.next + 1) n.rest s.top.end = subst
          (λ k. IsCodeAt p.code k n.rest s.top.end) (sym one) n.goes in
          let stands = slot_added old (IsCodeAt p.code) before.places before.base before.next (before.next + 1)
          known.place (reverse before.waiting) env s.top.steps n.rest s.top.end s.top.end s.waiting r.value
          w.at r.there code in
          let owed : Owes p.spec p.code with_value.top (left - known.cost) (reverse before.waiting)
          s.waiting = owes_on p.spec p.code (frame env (call f ss ∷ n.rest) s.top.end) with_value.top
          known.cost left (left - known.cost) (reverse before.waiting) s.waiting (omega (arith, le))
          (does_right p.spec (frame env (call f ss ∷ n.rest) s.top.end) with_value.top known.cost fine
          (recalls_value [])) (step_pays (call f ss) there left pays) in (
            le,
            (
              with_value,
              value_moves,
              subst (λ z. IsAt p.code old z with_value) (sym e) stands,
              subst (λ z. Pays p (left - known.cost) z with_value) (sym e) owed,
            ),
          )

      pub not_recalled : (left : ℕ) → left < known.cost → (after : Stack) (new : List Cell) →
          Turns p new left after s Stuck
      not_recalled left lt after new apart whole v n g le =
          let k = move_whole p.spec s with_value known.cost v n fine apart whole value_moves g in
          omega (arith, k.2, lt, le)

    module _ (args : List ℕ) (a : args ≡ gathered before.places before.base ss) (mid : Stack) (spare : ℕ)
        (m : mid ≡ stack (before.places ++ args) (length before.places) before.next (before.waiting
        ++ held before.base (before.next + 1) spare ∷ [])) where
      base_is : mid.base ≡ length before.places
      base_is = ap (λ (z : Stack). z.base) m

      places_are : mid.places ≡ before.places ++ args
      places_are = ap (λ (z : Stack). z.places) m

      pub call_terms : AreTerms old (drop mid.base mid.places) (trees_of (entries s.top.env ss))
      call_terms = subst (λ z. AreTerms old z (trees_of (entries s.top.env ss)))
          (sym (ap (λ z. drop mid.base z) places_are ∙ drop_front before.places args mid.base base_is))
          (args_terms ss args (ranged (call f ss) there).0 a)

      pub call_is_at : IsCallAt p.spec old f mid.base mid.places
      call_is_at = call_at fine f ss calls_step mid.base mid.places
          (omega (arith, base_is, ap length places_are, length-append before.places args)) call_terms

      pub called : (to : List ℕ) (place : ℕ) → IsFound p old f mid.base mid.places to (Some place) → 0 < spare →
          (after : Stack) → after ≡ stack to mid.base place mid.waiting → Pays p spare before s →
          Turns p old spare after s (Moved 1)
      called to place found funds after e pays =
          let env = s.top.env in
          let n = next (call f ss) there in
          let c = entered_by fine f ss calls_step mid.base mid.places to place call_terms found in
          let go : State = record { top = c.frame; waiting = frame env n.rest s.top.end ∷ s.waiting } in
          let grown : to ≡ (before.places ++ args) ++ found.extends.0 = found.extends.1
          ∙ ap (λ z. z ++ found.extends.0) places_are in
          let front : take mid.base to ≡ before.places = take_front before.places args to found.extends.0
          mid.base base_is grown in
          let one : before.next + 1 ≡ suc before.next = omega arith in
          let long : length to ≡ length before.places + length args + length found.extends.0 = omega (
            arith,
            ap length grown,
            length-append (before.places ++ args) found.extends.0,
            length-append before.places args,
          ) in
          let same : take before.base before.places ≡ take before.base to = sym
          (ap (λ z. take before.base z) (grown ∙ append_assoc before.places args found.extends.0)
          ∙ take-append-le before.base before.places (args ++ found.extends.0) w.at.within) in
          let waits : Waits old (IsCodeAt p.code) to mid.base
          (held before.base (before.next + 1) spare ∷ reverse before.waiting)
          (frame env n.rest s.top.end ∷ s.waiting) = (
            omega (arith, w.at.within, base_is),
            subst (λ z. AreTerms old (drop before.base z) (trees_of env)) (sym front) w.at.slots,
            subst (λ k. IsCodeAt p.code k n.rest s.top.end) (sym one) n.goes,
            waits_above old (IsCodeAt p.code) before.places to before.base (reverse before.waiting) s.waiting
                same w.at.waits,
          ) in
          let turned : reverse mid.waiting ≡ held before.base (before.next + 1) spare ∷ reverse
          before.waiting = ap (λ (z : Stack). reverse z.waiting) m
          ∙ reverse-append before.waiting (held before.base (before.next + 1) spare ∷ []) in
          let stands : IsAt p.code old (stack to mid.base place mid.waiting)
          go = record {
            within = omega (arith, base_is, long);
            slots = c.terms;
            code = c.code;
            waits = subst
                (λ hs. Waits old (IsCodeAt p.code) to mid.base hs (frame env n.rest s.top.end ∷ s.waiting))
                (sym turned) waits;
          } in
          let owed = owes_entered p.spec p.code fine env f ss n.rest s.top.end c.frame c.enters before.base
          before.next spare (reverse before.waiting) s.waiting there (ranged (call f ss) there).0 funds
          (step_pays (call f ss) there spare pays) in
          let owed₁ : Pays p (spare - 1) (stack to mid.base place mid.waiting) go = subst
          (λ hs. Owes p.spec p.code c.frame (spare - 1) hs (frame env n.rest s.top.end ∷ s.waiting))
          (sym turned) owed in (
            funds,
            (
              go,
              subst (λ z. Moves p.spec z 1 go) (sym (now_is (call f ss) there))
                  (enters c.frame c.enters),
              subst (λ z. IsAt p.code old z go) (sym e) stands,
              subst (λ z. Pays p (spare - 1) z go) (sym e) owed₁,
            ),
          )

  module _ (fine : IsWellSorted p.spec) (f : ℕ) (ss : List ℕ)
      (there : slice_get p.code before.next ≡ Some (ends (last f ss))) where
    pub calls_last : CallsNext p.spec s f (slots s.top.env ss)
    calls_last = subst (λ (z : State). CallsNext p.spec z f (slots z.top.env ss))
        (sym (end_is (last f ss) there)) (refl, refl)

    pub last_slots : AllByRecursion (λ (i : ℕ). before.base + i < length before.places) ss
    last_slots = slots_there ss (end_ranged (last f ss) there)

    cut_count : before.base ≡ length (take before.base before.places)
    cut_count = sym (length_take before.places before.base w.at.within)

    module _ (args : List ℕ) (a : args ≡ gathered before.places before.base ss) (mid : Stack)
        (m : mid ≡ stack (take before.base before.places ++ args) before.base before.next before.waiting) where
      last_base : mid.base ≡ before.base
      last_base = ap (λ (z : Stack). z.base) m

      last_places : mid.places ≡ take before.base before.places ++ args
      last_places = ap (λ (z : Stack). z.places) m

      pub last_terms : AreTerms old (drop mid.base mid.places) (trees_of (entries s.top.env ss))
      last_terms = subst (λ z. AreTerms old z (trees_of (entries s.top.env ss)))
          (sym (ap (λ z. drop mid.base z) last_places ∙ drop_front (take before.base before.places) args
          mid.base (last_base ∙ cut_count))) (args_terms ss args (end_ranged (last f ss) there) a)

      pub last_is_at : IsCallAt p.spec old f mid.base mid.places
      last_is_at = call_at fine f ss calls_last mid.base mid.places
          (omega (
            arith,
            last_base,
            cut_count,
            ap length last_places,
            length-append (take before.base before.places) args,
          )) last_terms

      pub called_last : (to : List ℕ) (place : ℕ) → IsFound p old f mid.base mid.places to (Some place) →
          (left : ℕ) → 0 < left → (after : Stack) → after ≡ stack to mid.base place mid.waiting →
          Pays p left before s → Turns p old left after s (Moved 1)
      called_last to place found left funds after e pays =
          let c = entered_by fine f ss calls_last mid.base mid.places to place last_terms found in
          let go : State = record { top = c.frame; waiting = s.waiting } in
          let cut = take before.base before.places in
          let grown : to ≡ (cut ++ args) ++ found.extends.0 = found.extends.1
          ∙ ap (λ z. z ++ found.extends.0) last_places in
          let front : take before.base to ≡ take before.base before.places = take_front
          (take before.base before.places) args to found.extends.0 before.base cut_count grown in
          let long : length to ≡ length (take before.base before.places) + length args + length
          found.extends.0 = omega (
            arith,
            ap length grown,
            length-append (take before.base before.places ++ args) found.extends.0,
            length-append (take before.base before.places) args,
          ) in
          let waits = waits_above old (IsCodeAt p.code) before.places to before.base (reverse before.waiting)
          s.waiting (sym front) w.at.waits in
          let held_are : reverse before.waiting ≡ reverse mid.waiting = ap (λ (z : Stack). reverse z.waiting) (sym m) in
          let stands : IsAt p.code old (stack to mid.base place mid.waiting)
          go = record {
            within = omega (arith, last_base, cut_count, long);
            slots = c.terms;
            code = c.code;
            waits = subst (λ hs. Waits old (IsCodeAt p.code) to mid.base hs s.waiting) held_are
                (subst (λ b. Waits old (IsCodeAt p.code) to b (reverse before.waiting) s.waiting) (sym last_base)
                waits);
          } in
          let owed = owes_on p.spec p.code (frame s.top.env [] (last f ss)) c.frame 1 left (left - 1)
          (reverse before.waiting) s.waiting (omega (arith, funds))
          (does_right p.spec (frame s.top.env [] (last f ss)) c.frame 1 fine (enters_last c.frame c.enters))
          (end_pays (last f ss) there left pays) in
          let owed₁ : Pays p (left - 1) (stack to mid.base place mid.waiting) go = subst
          (λ hs. Owes p.spec p.code c.frame (left - 1) hs s.waiting) held_are owed in (
            funds,
            (
              go,
              subst (λ z. Moves p.spec z 1 go) (sym (end_is (last f ss) there))
                  (enters_last c.frame c.enters),
              subst (λ z. IsAt p.code old z go) (sym e) stands,
              subst (λ z. Pays p (left - 1) z go) (sym e) owed₁,
            ),
          )

  -- a value is given
  module _ (i : ℕ) (there : slice_get p.code before.next ≡ Some (ends (slot i))) where
    pub give_slot : before.base + i < length before.places
    give_slot = slot_within (slot_there old before.base before.places s.top.env w.at.slots i
        (end_ranged (slot i) there))

    given : IsTerm old (get_or before.places (before.base + i) 0) (instance s.top.env (var i))
    given = slot_term (slot_there old before.base before.places s.top.env w.at.slots i (end_ranged (slot i) there))

    given_at : (place : ℕ) → place ≡ get_or before.places (before.base + i) 0 →
        IsTerm old place (instance s.top.env (var i))
    given_at place e = subst (λ z. IsTerm old z (instance s.top.env (var i))) (sym e) given

    pub gave_last : (place left : ℕ) (after : Stack) → place ≡ get_or before.places (before.base + i) 0 →
        IsReturned before after place None → Turns p old left after s (Done place)
    gave_last place left after e (empty, same) =
        let waits : Waits old (IsCodeAt p.code) before.places before.base [] s.waiting = subst
        (λ hs. Waits old (IsCodeAt p.code) before.places before.base hs s.waiting) (ap reverse empty) w.at.waits in (
          s.top.env,
          i,
          end_is (slot i) there
              ∙ ap (λ fs. state s.top.env [] (slot i) fs) (no_frames s.waiting waits),
          given_at place e,
        )
      where
        no_frames : (fs : List Frame) → Waits old (IsCodeAt p.code) before.places before.base [] fs → fs ≡ []
        no_frames [] h = refl
        no_frames (x ∷ fs) h = absurd h

    -- the frame that waits has called a function, and what is given is what the call gives at what was paid since then
    pub record Gave (place left began : ℕ) (after : Stack) : Type 0 where
      pub turns : Turns p old left after s (Moved 0)
      pub function : ℕ
      pub arguments : List ℕ
      pub has_called : HasCalled p after function arguments
      pub paid : left ≤ began
      pub right : (known : Known) → known.place ≡ place → known.cost ≡ began - left →
          IsRight p.spec old function (gathered after.places after.base arguments) known

    pub gave : (place left began : ℕ) (after : Stack) → place ≡ get_or before.places (before.base + i) 0 →
        IsReturned before after place (Some began) → Pays p left before s → Gave place left began after
    gave place left began after e (rest, back, all, since, is) pays =
        let turned : reverse before.waiting ≡ back ∷ reverse rest = ap reverse all ∙ reverse-append rest (back ∷ []) in
        let at : Stands old (IsCodeAt p.code) before.places before.base before.next (back ∷ reverse rest)
        (state s.top.env s.top.steps s.top.end s.waiting) = subst
        (λ hs. Stands old (IsCodeAt p.code) before.places before.base before.next hs s) turned w.at in
        let owed : Owes p.spec p.code (frame s.top.env [] (slot i)) left (back ∷ reverse rest) s.waiting = subst
        (λ hs. Owes p.spec p.code (frame s.top.env [] (slot i)) left hs s.waiting) turned
        (end_pays (slot i) there left pays) in
        by s.waiting refl at owed
      where
        by : (fs : List Frame) → s.waiting ≡ fs →
            Stands old (IsCodeAt p.code) before.places before.base before.next (back ∷ reverse rest)
            (state s.top.env s.top.steps s.top.end fs) →
            Owes p.spec p.code (frame s.top.env [] (slot i)) left (back ∷ reverse rest) fs → Gave place left began after
        by [] q at o = absurd at.waits
        by (x ∷ fs) q at o =
            let env = s.top.env in
            let v = instance env (var i) in
            let go : State = state (x.env ++ instance env (var i) ∷ []) x.steps x.end fs in
            let stands = frame_returned old (IsCodeAt p.code) before.places before.base before.next place back
            (reverse rest) env s.top.steps s.top.end x fs (instance env (var i)) at (given_at place e) in
            let one : IsOwed p.spec p.code (frame env [] (slot i)) left back x o.0 o.1 = o.2 in
            let more = owes_returned p.spec p.code (frame env [] (slot i)) left back (reverse rest) x fs o
            (instance env (var i)) (refl, refl) in
            let zero : left ≡ left - 0 = omega arith in
            let more₁ : Pays p (left - 0) (stack (take before.base before.places ++ place ∷ []) back.base
            back.next rest) go = subst (λ n. Owes p.spec p.code go.top n (reverse rest) fs) zero more in
            let there₁ : IsAt p.code old (stack (take before.base before.places ++ place ∷ []) back.base
            back.next rest) go = stands in
            let fit : AllByRecursion (λ (k : ℕ). back.base + k < length (take before.base before.places
            ++ place ∷ [])) o.1 = slots_in old (take before.base before.places ++ place ∷ []) back.base
            (x.env ++ v ∷ []) stands.slots stands.within o.1
            (slots_less (length x.env) (length (x.env ++ v ∷ [])) o.1
            (omega (arith, length-append x.env (v ∷ []))) one.range) in
            let terms : AreTerms old (gathered (take before.base before.places ++ place ∷ []) back.base o.1)
            (slots x.env o.1) = subst
            (λ ts. AreTerms old (gathered (take before.base before.places ++ place ∷ []) back.base o.1) ts)
            (slots_kept x.env (v ∷ []) o.1 one.range)
            (gathered_terms old (take before.base before.places ++ place ∷ []) back.base (x.env ++ v ∷ [])
            stands.slots o.1 (slots_less (length x.env) (length (x.env ++ v ∷ [])) o.1
            (omega (arith, length-append x.env (v ∷ []))) one.range)) in
            record {
              turns = (
                omega arith,
                (
                  go,
                  subst (λ z. Moves p.spec z 0 go)
                      (sym (end_is (slot i) there ∙ ap (λ z. state env [] (slot i) z) q)) (returns x),
                  subst (λ z. IsAt p.code old z go) (sym is) there₁,
                  subst (λ z. Pays p (left - 0) z go) (sym is) more₁,
                ),
              );
              function = o.0;
              arguments = o.1;
              has_called = subst (λ (z : Stack). HasCalled p z o.0 o.1) (sym is)
                  (record { place = one.place; next = one.next; there = one.there; range = fit });
              paid = omega (arith, one.paid, since);
              right = λ known at cost.
                  let same : back.left - left ≡ known.cost = omega (arith, cost, since) in
                  let stand : AreTerms old (gathered after.places after.base o.1) (slots x.env o.1) = subst
                  (λ (z : Stack). AreTerms old (gathered z.places z.base o.1) (slots x.env o.1)) (sym is) terms in
                  record {
                    args = slots x.env o.1;
                    value = v;
                    stand = stand;
                    there = given_at known.place
                        (at ∙ e);
                    gives = subst (λ n. Gives p.spec (app o.0 (slots x.env o.1)) v n) same
                        (call_gives p.spec p.code (frame env [] (slot i)) left back (reverse rest) x fs o v (
                          refl,
                          refl,
                        ));
                  };
            }
