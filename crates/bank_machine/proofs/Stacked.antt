-- How the stack changes when a slot is added, a call is entered and a frame returns.
use Rattle.std.proofs.Common.{◌≡◌, ℕ, zero, suc, ◌≤◌, List, [], ◌∷◌, ◌++◌, refl, ap, sym, ◌∙◌, subst, arith, length}
use Rattle.std.proofs.Common.{length-append, take, drop}
use Rattle.std.proofs.lemmas.List.{take-append-le, drop-append-le}
use Rattle.term_core.specs.Tree.{Tree, trees_of}
use Rattle.value_bank.specs.Cells.{Cell, IsTerm, AreTerms, AddsCells}
use Rattle.value_bank.proofs.Terms.{terms_kept}
use Rattle.rule_code.specs.Code.{Step, End}
use Rattle.rule_code.proofs.Joined.{joined}
use Rattle.bank_machine.specs.States.{Frame, State, state}
use Rattle.bank_machine.specs.declared.held.Held.{Held}
use Rattle.bank_machine.specs.Stacks.{Waits, Stands}

pub take_take : (xs : List ℕ) (a b : ℕ) → a ≤ b → take a (take b xs) ≡ take a xs
take_take xs zero b le = refl
take_take xs (suc a) zero le = absurd (omega (arith, le))
take_take [] (suc a) (suc b) le = refl
take_take (x ∷ xs) (suc a) (suc b) le = ap (λ z. x ∷ z) (take_take xs a b (omega (arith, le)))

pub length_take : (xs : List ℕ) (n : ℕ) → n ≤ length xs → length (take n xs) ≡ n
length_take xs zero le = refl
length_take [] (suc n) le = absurd (omega (arith, le))
length_take (x ∷ xs) (suc n) le = ap suc (length_take xs n (omega (arith, le)))

module _ (cells : List Cell) (CodeAt : ℕ → List Step → End → Type 0) where
  -- what waits depends on the stack below the base alone
  pub waits_above : (stack other : List ℕ) (base : ℕ) (hs : List Held) (fs : List Frame) →
      take base stack ≡ take base other → Waits cells CodeAt stack base hs fs → Waits cells CodeAt other base hs fs
  waits_above stack other base [] [] e w = w
  waits_above stack other base [] (f ∷ fs) e w = absurd w
  waits_above stack other base (h ∷ hs) [] e w = absurd w
  waits_above stack other base (h ∷ hs) (f ∷ fs) e (le, slots, code, rest) =
      let d : take h.base stack ≡ take h.base other = sym (take_take stack h.base base le)
      ∙ ap (λ z. take h.base z) e ∙ take_take other h.base base le in (
        le,
        subst (λ z. AreTerms cells (drop h.base z) (trees_of f.env)) e slots,
        code,
        waits_above stack other h.base hs fs d rest,
      )

  -- a further slot
  pub slot_added : (stack : List ℕ) (base next then p : ℕ) (held : List Held) (env : List Tree)
      (steps more : List Step) (end finish : End) (waiting : List Frame) (v : Tree) →
      Stands cells CodeAt stack base next held (state env steps end waiting) → IsTerm cells p v →
      CodeAt then more finish →
      Stands cells CodeAt (stack ++ p ∷ []) base then held (state (env ++ v ∷ []) more finish waiting)
  slot_added stack base next then p held env steps more end finish waiting v s at code =
      record {
        within = omega (arith, s.within, length-append stack (p ∷ []));
        slots = subst (λ z. AreTerms cells z (trees_of (env ++ v ∷ [])))
            (sym (drop-append-le base stack (p ∷ []) s.within))
            (joined cells (drop base stack) (p ∷ []) env (v ∷ []) s.slots (at, tt));
        code = code;
        waits = waits_above stack (stack ++ p ∷ []) base held waiting
            (sym (take-append-le base stack (p ∷ []) s.within)) s.waits;
      }

  -- a frame returns: the stack is cut to its base, and the value goes to the frame below
  pub frame_returned : (stack : List ℕ) (base next p : ℕ) (h : Held) (held : List Held) (env : List Tree)
      (steps : List Step) (end : End) (back : Frame) (waiting : List Frame) (v : Tree) →
      Stands cells CodeAt stack base next (h ∷ held) (state env steps end (back ∷ waiting)) → IsTerm cells p v →
      Stands cells CodeAt (take base stack ++ p ∷ []) h.base h.next held
      (state (back.env ++ v ∷ []) back.steps back.end waiting)
  frame_returned stack base next p h held env steps end back waiting v s at =
      let w = s.waits in
      let len : length (take base stack) ≡ base = length_take stack base s.within in
      let le : h.base ≤ length (take base stack) = omega (arith, len, w.0) in
      let e : take h.base stack ≡ take h.base (take base stack ++ p ∷ []) = sym
      (take_take stack h.base base w.0) ∙ sym (take-append-le h.base (take base stack) (p ∷ []) le) in
      record {
        within = omega (arith, len, w.0, length-append (take base stack) (p ∷ []));
        slots = subst (λ z. AreTerms cells z (trees_of (back.env ++ v ∷ [])))
            (sym (drop-append-le h.base (take base stack) (p ∷ []) le))
            (joined cells (drop h.base (take base stack)) (p ∷ []) back.env (v ∷ []) w.1 (at, tt));
        code = w.2;
        waits = waits_above stack (take base stack ++ p ∷ []) h.base held waiting e w.3;
      }

-- when the bank gets further cells, all stays
waits_kept : (old new : List Cell) (CodeAt : ℕ → List Step → End → Type 0) (stack : List ℕ) (base : ℕ)
    (hs : List Held) (fs : List Frame) → AddsCells old new → Waits old CodeAt stack base hs fs →
    Waits new CodeAt stack base hs fs
waits_kept old new CodeAt stack base [] [] adds w = w
waits_kept old new CodeAt stack base [] (f ∷ fs) adds w = absurd w
waits_kept old new CodeAt stack base (h ∷ hs) [] adds w = absurd w
waits_kept old new CodeAt stack base (h ∷ hs) (f ∷ fs) adds (le, slots, code, rest) = (
  le,
  terms_kept old new (drop h.base (take base stack)) (trees_of f.env) adds slots,
  code,
  waits_kept old new CodeAt stack h.base hs fs adds rest,
)

pub stands_kept : (old new : List Cell) (CodeAt : ℕ → List Step → End → Type 0) (stack : List ℕ) (base next : ℕ)
    (held : List Held) (s : State) → AddsCells old new → Stands old CodeAt stack base next held s →
    Stands new CodeAt stack base next held s
stands_kept old new CodeAt stack base next held s adds h =
    record {
      within = h.within;
      slots = terms_kept old new (drop base stack) (trees_of s.top.env) adds h.slots;
      code = h.code;
      waits = waits_kept old new CodeAt stack base held s.waiting adds h.waits;
    }
