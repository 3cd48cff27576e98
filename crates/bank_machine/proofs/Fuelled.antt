-- The moves that are left fall at each move.
use Rattle.std.proofs.Common.{◌≡◌, inl, inr, ℕ, zero, suc, ◌+◌, ◌*◌, ◌-◌, ◌<◌, ◌≤◌, List, [], ◌∷◌, Some, None, refl}
use Rattle.std.proofs.Common.{ap, sym, ◌∙◌, arith, length, drop}
use Rattle.std.specs.Prelude.{slice_get, reverse}
use Rattle.std.proofs.Math.Nat.{suc-mul, mul-suc, mul_comm, mul-le-mul_right}
use Rattle.std.proofs.lemmas.Option.{slice_get_within}
use Rattle.term_core.proofs.Items.{drop_here}
use Rattle.term_core.specs.Tree.{Tree}
use Rattle.spec_core.specs.Sig.{Sig}
use Rattle.spec_core.specs.declared.records.Rule.{Rule}
use Rattle.value_bank.specs.Cells.{Cell}
use Rattle.rule_code.specs.Code.{Step, End, slot, last, decide}
use Rattle.rule_code.specs.Compiled.{IsBody, IsNext}
use Rattle.rule_code.specs.Instructions.{Instruction, does, ends, IsCodeAt}
use Rattle.rule_code.specs.Programs.{Program}
use Rattle.rule_code.proofs.Branching.{goes_within}
use Rattle.bank_machine.specs.declared.held.Held.{Held}
use Rattle.bank_machine.specs.Fuel.{most_guards, behind, moves_from, held_moves, block_moves, frames_moves}
use Rattle.bank_machine.specs.Fuel.{state_moves, stack_moves, call_moves, fuel, most_added}
use Rattle.bank_machine.specs.Stacks.{Stack, stack, Waits, IsAt}
use Rattle.bank_machine.specs.States.{Frame, State, Moves, builds, enters, enters_last, returns, decides, recalls}

module _ (most room : ℕ) (code : List Instruction) where
  pub block_is : (k : ℕ) (steps : List Step) (end : End) → IsCodeAt code k steps end →
      moves_from most room (drop k code) ≡ block_moves most room steps end
  block_is k [] end h = ap (λ z. moves_from most room z) (drop_here code k (ends end) h) ∙ (omega arith)
  block_is k (s ∷ steps) end h =
      let e : k + 1 ≡ suc k = omega arith in
      let rest = block_is (suc k) steps end h.1 in
      let d : moves_from most room (drop k code) ≡ suc (moves_from most room (drop (k + 1) code)) = ap
      (λ z. moves_from most room z) (drop_here code k (does s) h.0) in
      let f : moves_from most room (drop (k + 1) code) ≡ moves_from most room (drop (suc k) code) = ap
      (λ z. moves_from most room (drop z code)) e in
      omega (arith, d, f, rest)

  pub frames_are : (cells : List Cell) (places : List ℕ) (base : ℕ) (hs : List Held) (fs : List Frame) →
      Waits cells (IsCodeAt code) places base hs fs → held_moves most room code hs ≡ frames_moves most room fs
  frames_are cells places base [] [] h = refl
  frames_are cells places base [] (f ∷ fs) h = absurd h
  frames_are cells places base (x ∷ hs) [] h = absurd h
  frames_are cells places base (x ∷ hs) (f ∷ fs) h =
      let a = block_is x.next f.steps f.end h.2 in
      let b = frames_are cells places x.base hs fs h.3 in
      omega (arith, a, b)

pub code_there : (code : List Instruction) (k : ℕ) (steps : List Step) (end : End) → IsCodeAt code k steps end →
    k < length code
code_there code k [] end h = slice_get_within code k (ends end) h
code_there code k (s ∷ steps) end h = slice_get_within code k (does s) h.0

pub code_short : (code : List Instruction) (k : ℕ) (steps : List Step) (end : End) → IsCodeAt code k steps end →
    length steps < length code
code_short code k steps end h = omega (arith, by k steps h)
  where
    by : (k : ℕ) (steps : List Step) → IsCodeAt code k steps end → k + length steps < length code
    by k [] h = omega (arith, slice_get_within code k (ends end) h)
    by k (s ∷ steps) h = omega (arith, by (suc k) steps h.1)

guards_within : (rules : List Rule) (k : ℕ) (r : Rule) → slice_get rules k ≡ Some r →
    length r.guards ≤ most_guards rules
guards_within [] k r e = absurd (let q : None ≡ Some r = e in cc)
guards_within (x ∷ rs) zero r e =
    let q : Some x ≡ Some r = e in
    let s : x ≡ r = cc in
    omega (arith, ap (λ (y : Rule). length y.guards) s)
guards_within (x ∷ rs) (suc k) r e = omega (arith, guards_within rs k r e)

behind_next : (most room : ℕ) (sig : Sig) (homes : List ℕ) (number : ℕ) (rule : Rule) (k n : ℕ)
    (steps : List Step) (end : End) → IsNext sig homes number rule k n steps end →
    behind most room end ≤ (most - k) * room
behind_next most room sig homes number rule k n steps (slot s) h = omega arith
behind_next most room sig homes number rule k n steps (last f ss) h = omega arith
behind_next most room sig homes number rule k n steps (decide s m j hs) (inl b) = absurd b.1
behind_next most room sig homes number rule k n steps (decide s m j hs) (inr (g, t, taken, at, c, e)) =
    let q : decide s m j hs ≡ decide t number k homes = e in
    let r : j ≡ k = cc in
    omega (arith, ap (λ z. (most - z) * room) r)

-- the code of a term ends with no test
body_behind : (most room : ℕ) (sig : Sig) (homes : List ℕ) (term : Tree) (next : ℕ) (steps : List Step)
    (end : End) → IsBody sig homes term next steps end → behind most room end ≡ 0
body_behind most room sig homes term next steps (slot s) h = refl
body_behind most room sig homes term next steps (last f ss) h = refl
body_behind most room sig homes term next steps (decide s number k hs) h = absurd h

-- what falls by one at least
both : (a b c x : ℕ) → a < b → (c ≡ 0 → a < b) × (a < b + x)
both a b c x h = (λ e. h, omega (arith, h))

module _ (p : Program) where
  most : ℕ
  most = most_guards p.spec.rules

  -- a frame that is entered has at most this many moves
  entered_moves : (sig : Sig) (homes : List ℕ) (number : ℕ) (rule : Rule) (n place : ℕ) (steps : List Step)
      (end : End) → IsNext sig homes number rule 0 n steps end → IsCodeAt p.code place steps end →
      block_moves (most_guards p.spec.rules) (suc (length p.code)) steps end < call_moves p + 1
  entered_moves sig homes number rule n place steps end h at =
      let b = behind_next (most_guards p.spec.rules) (suc (length p.code)) sig homes number rule 0 n steps end h in
      let z : most_guards p.spec.rules - 0 ≡ most_guards p.spec.rules = omega arith in
      omega (arith, b, ap (λ m. m * suc (length p.code)) z, code_short p.code place steps end at)

  pub state_falls : (cells : List Cell) (stack : Stack) {s next : State} {c : ℕ} → Moves p.spec s c next →
      IsAt p.code cells stack next →
      (c ≡ 0 → state_moves (most_guards p.spec.rules) (suc (length p.code)) next < state_moves
      (most_guards p.spec.rules) (suc (length p.code)) s)
      × (state_moves (most_guards p.spec.rules) (suc (length p.code)) next < state_moves
      (most_guards p.spec.rules) (suc (length p.code)) s + call_moves p)
  state_falls cells stack (builds) at = both _ _ _ _ (omega arith)
  state_falls cells stack (enters entered e) at =
      let b = entered_moves p.spec.sig e.homes e.number e.rule (length entered.env) stack.next entered.steps
      entered.end e.code at.code in
      ((λ z. absurd (omega (arith, z))), omega (arith, b))
  state_falls cells stack (enters_last entered e) at =
      let b = entered_moves p.spec.sig e.homes e.number e.rule (length entered.env) stack.next entered.steps
      entered.end e.code at.code in
      ((λ z. absurd (omega (arith, z))), omega (arith, b))
  state_falls cells stack (returns back) at = both _ _ _ _ (omega arith)
  state_falls cells stack (decides {k} {homes} entered f) at =
      let lt : k < most_guards p.spec.rules = omega (
        arith,
        (goes_within k _ f.rule.guards f.next.guards f.on).0,
        guards_within p.spec.rules _ f.rule f.listed,
      ) in
      let b = behind_next (most_guards p.spec.rules) (suc (length p.code)) p.spec.sig homes f.other f.next
      (suc k) (length entered.env) entered.steps entered.end f.code in
      let z : most_guards p.spec.rules - k ≡ suc (most_guards p.spec.rules - suc k) = omega (arith, lt) in
      let m : (most_guards p.spec.rules - k) * suc (length p.code) ≡ (most_guards p.spec.rules - suc k) * suc
      (length p.code) + suc (length p.code) = ap (λ n. n * suc (length p.code)) z
      ∙ suc-mul (most_guards p.spec.rules - suc k) (suc (length p.code)) in
      both _ _ _ _ (omega (arith, b, m, code_short p.code stack.next entered.steps entered.end at.code))
  state_falls cells stack (recalls v c so s g) at = both _ _ _ _ (omega arith)

  stack_is : (cells : List Cell) (stack : Stack) (s : State) → IsAt p.code cells stack s →
      stack_moves p stack ≡ state_moves (most_guards p.spec.rules) (suc (length p.code)) s
  stack_is cells stack s at = omega (
    arith,
    block_is (most_guards p.spec.rules) (suc (length p.code)) p.code stack.next s.top.steps s.top.end at.code,
    frames_are (most_guards p.spec.rules) (suc (length p.code)) p.code cells stack.places stack.base
        (reverse stack.waiting) s.waiting at.waits,
  )

  -- the fuel falls when the machine moves
  pub move_falls : (old new : List Cell) (before after : Stack) (s next : State) (left c : ℕ) → c ≤ left →
      IsAt p.code old before s → IsAt p.code new after next → Moves p.spec s c next →
      fuel p after (left - c) < fuel p before left
  move_falls old new before after s next left zero le a b m =
      let z : left - 0 ≡ left = omega arith in
      let t : (left - 0) * call_moves p ≡ left * call_moves p = ap (λ n. n * call_moves p) z in
      omega (arith, t, stack_is old before s a, stack_is new after next b, (state_falls new after m b).0 refl)
  move_falls old new before after s next left (suc c) le a b m =
      let t : suc (left - suc c) * call_moves p ≤ left * call_moves p = mul-le-mul_right (call_moves p)
      (omega (arith, le)) in
      omega (
        arith,
        t,
        suc-mul (left - suc c) (call_moves p),
        stack_is old before s a,
        stack_is new after next b,
        (state_falls new after m b).1,
      )

  -- some fuel is left in each state
  pub some_fuel : (cells : List Cell) (stack : Stack) (s : State) (left : ℕ) → IsAt p.code cells stack s →
      0 < fuel p stack left
  some_fuel cells stack s left at = omega (arith, stack_is cells stack s at)

  call_is : call_moves p ≡ suc (length p.code) * suc (most_guards p.spec.rules)
  call_is =
      let a = mul-suc (suc (length p.code)) (most_guards p.spec.rules) in
      let b = mul_comm (suc (length p.code)) (most_guards p.spec.rules) in
      omega (arith, a, b)

  -- the fuel of a run that begins with the code of a term
  pub first_fuel : (homes places : List ℕ) (term : Tree) (next side budget : ℕ) (steps : List Step)
      (end : End) → IsCodeAt p.code side steps end → IsBody p.spec.sig homes term next steps end →
      fuel p (stack places 0 side []) budget ≤ most_added p budget
  unfolding most_added
  first_fuel homes places term next side budget steps end at body =
      let b = block_is (most_guards p.spec.rules) (suc (length p.code)) p.code side steps end at in
      let c = body_behind (most_guards p.spec.rules) (suc (length p.code)) p.spec.sig homes term next steps end body in
      let m : suc budget * (suc (length p.code) * suc (most_guards p.spec.rules)) ≡ budget * call_moves p +
      call_moves p = ap (λ n. suc budget * n) (sym call_is) ∙ suc-mul budget (call_moves p) in
      omega (arith, b, c, m, code_short p.code side steps end at)
