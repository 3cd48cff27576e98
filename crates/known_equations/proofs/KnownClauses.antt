-- The clauses of a store, by their numbers.
use Rattle.std.proofs.Common.{◌≡◌, ◌∙◌, ℕ, List, Some, ap, map, subst, sym, take}
use Rattle.std.specs.Prelude.{option_map, slice_get}
use Rattle.std.proofs.lemmas.List.{take-map}
use Rattle.std.proofs.lemmas.Option.{slice_get-map}
use Rattle.clause_core.specs.declared.clauses.Clause.{Clause}
use Rattle.known_equations.specs.Knowledge.{Knowledge, with_clauses}
use Rattle.known_equations.specs.declared.clauses.KnownClause.{KnownClause}

abbrev clause_of : KnownClause → Clause
clause_of known = known.clause

pub clause_at : (ks : List KnownClause) (n : ℕ) (known : KnownClause) →
    slice_get ks n ≡ Some known →
    slice_get (map (λ (k : KnownClause). k.clause) ks) n ≡ Some known.clause
clause_at ks n known at = slice_get-map clause_of ks n ∙ ap (option_map clause_of) at

-- the first ones are those of the clauses
pub first_ones : {O : Type 0} (v k : Knowledge O) (ks new : List KnownClause) (n : ℕ) → v ≡ k →
    v.clauses ≡ map (λ (x : KnownClause). x.clause) ks → new ≡ take n ks →
    with_clauses v (map (λ (x : KnownClause). x.clause) new) ≡ with_clauses k (take n k.clauses)
first_ones {O = O} v k ks new n is clauses made =
    subst (λ (x : Knowledge O). with_clauses v (map clause_of new) ≡ with_clauses x (take n x.clauses)) is
    (ap (λ cs. with_clauses v cs)
    (ap (map clause_of) made ∙ sym (take-map clause_of n ks) ∙ ap (take n) (sym clauses)))
