-- Slots keep their values when further ones are added.
use Rattle.std.proofs.Common.{◌≡◌, ℕ, ◌<◌, ◌≤◌, List, [], ◌∷◌, ◌++◌, refl, sym, ◌∙◌, subst, arith, get_or, length}
use Rattle.std.proofs.Common.{length-append}
use Rattle.std.specs.List.{AllByRecursion}
use Rattle.std.proofs.lemmas.List.{get_or_append_left}
use Rattle.term_core.specs.Tree.{Tree, var, instance}
use Rattle.spec_core.specs.Sig.{Sig}
use Rattle.spec_core.specs.Sorts.{IsBuilt}
use Rattle.rule_code.specs.Code.{slots}
use Rattle.rule_code.specs.Compiled.{Holds}

pub slot_kept : (env more : List Tree) (s : ℕ) → s < length env → instance (env ++ more) (var s) ≡ instance env (var s)
slot_kept env more s lt = get_or_append_left env more (var s) s lt

pub slot_next : (env : List Tree) (v : Tree) (s : ℕ) → s ≡ length env → instance (env ++ v ∷ []) (var s) ≡ v
slot_next env v s e = subst (λ k. instance (env ++ v ∷ []) (var k) ≡ v) (sym e) (at_end env (var (length env)))
  where
    at_end : (xs : List Tree) (d : Tree) → get_or (xs ++ v ∷ []) (length xs) d ≡ v
    at_end [] d = refl
    at_end (x ∷ xs) d = at_end xs d

abbrev pub AreSlots : ℕ → List ℕ → Type 0
AreSlots n ss = AllByRecursion (λ (s : ℕ). s < n) ss

pub slots_kept : (env more : List Tree) (ss : List ℕ) → AreSlots (length env) ss → slots (env ++ more) ss ≡ slots env ss
slots_kept env more [] h = refl
slots_kept env more (s ∷ ss) h =
    let one = slot_kept env more s h.0 in
    let rest = slots_kept env more ss h.1 in
    cc

pub slots_less : (n m : ℕ) (ss : List ℕ) → n ≤ m → AreSlots n ss → AreSlots m ss
slots_less n m [] le h = tt
slots_less n m (s ∷ ss) le h = (omega (arith, le, h.0), slots_less n m ss le h.1)

pub holds_kept : (sig : Sig) (homes : List ℕ) (env more xs : List Tree) → Holds sig homes env xs →
    Holds sig homes (env ++ more) xs
holds_kept sig homes env more xs h n s at =
    let k = h n s at in
    let e = slot_kept env more s k.0 in
    (omega (arith, k.0, length-append env more), k.1 ∙ sym e, subst (λ t. IsBuilt sig t) (sym e) k.2)
