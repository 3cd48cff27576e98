-- Equations that are the same but for their order of sides have one key.
use Rattle.std.proofs.Common.{◌≡◌, ℕ, suc, ◌/◌, List, [], ◌∷◌, inl, inr, ◌∙◌, ap, arith, map, min, max}
use Rattle.std.specs.Prelude.{Contains}
use Rattle.std.specs.List.{AllByRecursion}
use Rattle.std.proofs.Math.Nat.{min_comm, max_comm}
use Rattle.spec_core.specs.declared.records.Equation.{Equation}
use Rattle.clause_core.specs.declared.clauses.Clause.{Clause}
use Rattle.clause_core.specs.Equations.{IsEither, Among}
use Rattle.script_trim.specs.Keys.{stirred, hashed, both_hashed, equation_key, first_key, key_of, MayClose}

either_order : (a b : ℕ) → both_hashed a b ≡ both_hashed b a
unfolding both_hashed
either_order a b = ap (λ n. stirred n (max a b) / 4294967296) (min_comm a b)
    ∙ ap (λ n. stirred (min b a) n / 4294967296) (max_comm a b)

same_key : (e d : Equation) → IsEither e d → equation_key d ≡ equation_key e
same_key e d (inl h) = ap (λ (x : Equation). equation_key x) h
same_key e d (inr h) = ap (λ (x : Equation). equation_key x) h ∙ either_order (hashed 0 e.right) (hashed 0 e.left)

-- an equation that is among others has the key of one of them
among_keys : (e : Equation) (ds : List Equation) → Among e ds → Contains (map equation_key ds) (equation_key e)
among_keys e [] h = absurd h
among_keys e (d ∷ ds) (inl h) = (0, omega arith, same_key e d h)
among_keys e (d ∷ ds) (inr h) =
    let at = among_keys e ds h in
    (suc at.0, omega (arith, at.1), at.2)

first_among : (es ds : List Equation) → AllByRecursion (λ (e : Equation). Among e ds) es →
    MayClose (map equation_key ds) (first_key es)
first_among [] ds h = tt
first_among (e ∷ es) ds h = among_keys e ds h.0

-- if each conclusion of a clause is among those here, the keys agree
pub keys_agree : (d c : Clause) → AllByRecursion (λ (e : Equation). Among e c.conclusions) d.conclusions →
    MayClose (map equation_key c.conclusions) (key_of d)
keys_agree d c h = first_among d.conclusions c.conclusions h
