-- The code of terms, added to code.
use Rattle.std.proofs.Common.{◌≡◌, ℕ, suc, ◌+◌, List, [], ◌∷◌, ◌++◌, Bool, true, false, Some, refl, ap, sym, ◌∙◌}
use Rattle.std.proofs.Common.{subst, arith, append_assoc}
use Rattle.std.specs.Prelude.{slice_get, IsTrue, ◌↔◌}
use Rattle.std.proofs.lemmas.List.{append-nil, map-append}
use Rattle.term_core.specs.Tree.{Tree, Trees, var, app, some, trees_of}
use Rattle.spec_core.specs.Sig.{Sig, IsConstructor}
use Rattle.rule_code.specs.Code.{Step, build, call}
use Rattle.rule_code.specs.Compiled.{IsStep, Codes, CodesAll}
use Rattle.rule_code.specs.Instructions.{Instruction, instruction, does, doing}
use Rattle.rule_code.specs.declared.instructions.Kind.TheVariants.{Build, Call}
use Rattle.rule_code.specs.Emitting.{IsEmitted, AreEmitted}

-- what a test that says no denies
pub not_is : (r : Bool) (P : Type 0) → r ≡ false → (IsTrue r ↔ P) → P → ⊥
not_is true P e h p = cc
not_is false P e h p = let t : IsTrue false = h.1 p in absurd (cc)

-- steps after steps
pub doing_both : (xs ys : List Step) → doing (xs ++ ys) ≡ doing xs ++ doing ys
doing_both xs ys = map-append (λ (s : Step). does s) xs ys

pub emitted_var : (sig : Sig) (homes : List ℕ) (t : Tree) (n s next : ℕ) (old : List Instruction) → var n ≡ t →
    slice_get homes n ≡ Some s → IsEmitted sig homes t next old old s next
emitted_var sig homes t n s next old e at = (
  [],
  sym (append-nil old),
  subst (λ z. Codes sig homes z next [] s next) e (refl, at, refl),
)

-- the step of an application is added after those of its arguments
app_added : (sig : Sig) (homes : List ℕ) (t : Tree) (f : ℕ) (ts : Trees) (next s : ℕ)
    (old mid new : List Instruction) (before slots : List ℕ) (step : Step) → app f ts ≡ t →
    IsStep sig f slots step → before ≡ [] → AreEmitted sig homes ts next old mid before slots s →
    new ≡ mid ++ does step ∷ [] → IsEmitted sig homes t next old new s (s + 1)
app_added sig homes t f ts next s old mid new before slots step e is empty a push =
    let ss : slots ≡ a.1 = a.3 ∙ ap (λ z. z ++ a.1) empty in
    let new' : new ≡ old ++ doing (a.0 ++ step ∷ []) = push ∙ ap (λ z. z ++ does step ∷ []) a.2
    ∙ append_assoc old (doing a.0) (does step ∷ []) ∙ ap (λ z. old ++ z) (sym (doing_both a.0 (step ∷ []))) in
    let all : CodesAll sig homes ts next a.0 slots s = subst (λ z. CodesAll sig homes ts next a.0 z s) (sym ss) a.4 in
    let end : s + 1 ≡ suc s = omega arith in
    let codes : Codes sig homes (app f ts) next (a.0 ++ step ∷ []) s (s + 1) = (a.0, slots, step, all, is, refl, end) in
    (a.0 ++ step ∷ [], new', subst (λ z. Codes sig homes z next (a.0 ++ step ∷ []) s (s + 1)) e codes)

pub constructor_emitted : (sig : Sig) (homes : List ℕ) (t : Tree) (f : ℕ) (ts : Trees) (next s : ℕ)
    (old mid new : List Instruction) (before slots : List ℕ) → app f ts ≡ t → IsConstructor sig f →
    before ≡ [] → AreEmitted sig homes ts next old mid before slots s →
    new ≡ mid ++ instruction (Build f) slots ∷ [] → IsEmitted sig homes t next old new s (s + 1)
constructor_emitted sig homes t f ts next s old mid new before slots e is empty a push = app_added sig homes t f
    ts next s old mid new before slots (build f slots) e (is, refl, refl) empty a push

pub function_emitted : (sig : Sig) (homes : List ℕ) (t : Tree) (f : ℕ) (ts : Trees) (next s : ℕ)
    (old mid new : List Instruction) (before slots : List ℕ) → app f ts ≡ t → ¬ (IsConstructor sig f) →
    before ≡ [] → AreEmitted sig homes ts next old mid before slots s →
    new ≡ mid ++ instruction (Call f) slots ∷ [] → IsEmitted sig homes t next old new s (s + 1)
function_emitted sig homes t f ts next s old mid new before slots e is empty a push = app_added sig homes t f ts
    next s old mid new before slots (call f slots) e (is, refl, refl) empty a push

pub emitted_none : (sig : Sig) (homes : List ℕ) (terms : List Tree) (next : ℕ) (old : List Instruction)
    (slots : List ℕ) → terms ≡ [] → AreEmitted sig homes (trees_of terms) next old old slots slots next
emitted_none sig homes terms next old slots e = (
  [],
  [],
  sym (append-nil old),
  sym (append-nil slots),
  subst (λ z. CodesAll sig homes (trees_of z) next [] [] next) (sym e) (refl, refl, refl),
)

pub emitted_more : (sig : Sig) (homes : List ℕ) (terms rest : List Tree) (t : Tree) (next s mid end : ℕ)
    (old one new : List Instruction) (before pushed after : List ℕ) → terms ≡ t ∷ rest →
    IsEmitted sig homes t next old one s mid → pushed ≡ before ++ s ∷ [] →
    AreEmitted sig homes (trees_of rest) mid one new pushed after end →
    AreEmitted sig homes (trees_of terms) next old new before after end
emitted_more sig homes terms rest t next s mid end old one new before pushed after e a push b =
    let new' : new ≡ old ++ doing (a.0 ++ b.0) = b.2 ∙ ap (λ z. z ++ doing b.0) a.1
    ∙ append_assoc old (doing a.0) (doing b.0) ∙ ap (λ z. old ++ z) (sym (doing_both a.0 b.0)) in
    let after' : after ≡ before ++ (s ∷ b.1) = b.3 ∙ ap (λ z. z ++ b.1) push ∙ append_assoc before (s ∷ []) b.1 in
    let codes : CodesAll sig homes (some t (trees_of rest)) next (a.0 ++ b.0) (s ∷ b.1) end = (
      a.0,
      b.0,
      s,
      b.1,
      mid,
      a.2,
      b.4,
      refl,
      refl,
    ) in (
      a.0 ++ b.0,
      (s ∷ b.1),
      new',
      after',
      subst (λ z. CodesAll sig homes (trees_of z) next (a.0 ++ b.0) (s ∷ b.1) end) (sym e) codes,
    )
