-- A substitution with one entry, and the list of all variables with a term at one place.
use Rattle.std.proofs.Common.{◌≡◌, ℕ, ◌-◌, ◌<◌, List, [], ◌∷◌, ◌++◌, Option, Some, inl, inr, map, length, get_or, refl}
use Rattle.std.proofs.Common.{ap, sym, ◌∙◌, subst, arith}
use Rattle.std.specs.Prelude.{slice_set}
use Rattle.std.proofs.Math.ListN.{get_or-eq_default}
use Rattle.std.proofs.lemmas.List.{get_or-set_same, get_or-set_other, length-append}
use Rattle.std.proofs.lemmas.List.FromFn.{length-map-range_with_len, get_or-map-range_with_len}
use Rattle.term_core.specs.Tree.{Tree, var, instance}
use Rattle.term_core.specs.declared.ids.SortId.{SortId}
use Rattle.term_core.proofs.Numbers.{same_or_not, below_or_not}
use Rattle.spec_core.specs.Sig.{Sig}
use Rattle.spec_core.specs.declared.records.Equation.{Equation}
use Rattle.substitutions.specs.Substitution.{image, apply}
use Rattle.substitutions.specs.Updates.{IsSetTo}
use Rattle.substitutions.proofs.Instances.{image_entry, image_none, apply_same, apply_values}
use Rattle.clause_core.specs.declared.clauses.Clause.{Clause}
use Rattle.clause_core.specs.ClauseInstances.{equation_instance, clause_instance}
use Rattle.clause_core.specs.Instances.{variables, with_term}
use Rattle.clause_core.specs.Covering.{covered_by}
use Rattle.test_sets.specs.Children.{sorts_in}

-- a list of terms as entries
abbrev entries_of : List Tree → List (Option Tree)
entries_of ts = map (λ (t : Tree). Some t) ts

variable_stays : (count k : ℕ) → get_or (variables 0 count) k (var k) ≡ var k
variable_stays count k = elim (below_or_not k count) [
  | inl lt ↦ get_or-map-range_with_len (λ n. var n) 0 count k k (var k) lt (omega arith)
  | inr le ↦ get_or-eq_default (variables 0 count) (var k)
      (omega (arith, le, length-map-range_with_len (λ n. var n) 0 count))
]

images_same :
    (entries : List (Option Tree)) (n count : ℕ) (t : Tree) → n < count → IsSetTo [] n t entries →
    (k : ℕ) → image entries k ≡ image (entries_of (slice_set (variables 0 count) n t)) k
images_same entries n count t lt is k = elim (same_or_not k n) [
  | inl e ↦
      let there = get_or-set_same (variables 0 count) n t (var n)
      (omega (arith, lt, length-map-range_with_len (λ m. var m) 0 count)) in
      let both : image entries n ≡ image (entries_of (slice_set (variables 0 count) n t)) n = image_entry
      entries n t is.0 ∙ sym there ∙ sym (apply_values (slice_set (variables 0 count) n t) (var n)) in
      subst (λ j. image entries j ≡ image (entries_of (slice_set (variables 0 count) n t)) j) (sym e) both
  | inr ne ↦
      image_none entries k (is.1 k ne)
      ∙ sym (variable_stays count k)
      ∙ sym (get_or-set_other (variables 0 count) n k t (var k) ne)
      ∙ sym (apply_values (slice_set (variables 0 count) n t) (var k))
]

-- an instance of a clause depends on what the variables become
equations_same : (s u : List (Option Tree)) → ((t : Tree) → apply s t ≡ apply u t) → (es : List Equation) →
    map (equation_instance s) es ≡ map (equation_instance u) es
equations_same s u h [] = refl
equations_same s u h (e ∷ es) =
    let left = h e.left in
    let right = h e.right in
    let rest = equations_same s u h es in
    λ i. record { left = left i; right = right i } ∷ rest i

clauses_same : (s u : List (Option Tree)) → ((t : Tree) → apply s t ≡ apply u t) →
    (ctx : List SortId) (c : Clause) → clause_instance s ctx c ≡ clause_instance u ctx c
clauses_same s u h ctx c =
    let p = equations_same s u h c.premises in
    let q = equations_same s u h c.conclusions in
    λ i. record { ctx = ctx; premises = p i; conclusions = q i }

-- the clause with a pattern for a variable, by a substitution with one entry: the pattern with fresh
-- variables
pub covered_is :
    (sig : Sig) (c : Clause) (n : ℕ) (s : SortId) (p : Tree) (ctx : List SortId)
    (fresh entries : List (Option Tree)) (t : Tree) →
    n < length c.ctx → ctx ≡ c.ctx ++ sorts_in sig s p →
    fresh ≡ map (λ (u : Tree). Some u) (variables (length c.ctx) (length ctx - length c.ctx)) →
    t ≡ apply fresh p → IsSetTo [] n t entries →
    clause_instance entries ctx c ≡ covered_by c n (sorts_in sig s p, p)
covered_is sig c n s p ctx fresh entries t lt sorts are made is =
    let count : length ctx - length c.ctx ≡ length (sorts_in sig s p) = omega (
      arith,
      ap (λ (ss : List SortId). length ss) sorts ∙ length-append c.ctx (sorts_in sig s p),
    ) in
    let term : t ≡ instance (variables (length c.ctx) (length (sorts_in sig s p))) p =
    made ∙ ap (λ u. apply u p) are ∙ apply_values (variables (length c.ctx) (length ctx - length c.ctx)) p
    ∙ ap (λ k. instance (variables (length c.ctx) k) p) count in
    clauses_same entries (entries_of (slice_set (variables 0 (length c.ctx)) n t))
    (λ u. apply_same u entries _ (λ k o. images_same entries n (length c.ctx) t lt is k)) ctx c
    ∙ (λ i. with_term (sorts i) c n (term i))

-- the same from the steps by which the sorts and the entries are made
pub covered_by_steps :
    (sig : Sig) (c : Clause) (n : ℕ) (s : SortId) (p : Tree) (taken start first ctx : List SortId) (count : ℕ)
    (fresh empty entries : List (Option Tree)) (t : Tree) →
    n < length c.ctx → taken ≡ c.ctx → start ≡ [] → first ≡ start ++ taken → ctx ≡ first ++ sorts_in sig s p →
    count ≡ length ctx →
    fresh ≡ map (λ (u : Tree). Some u) (variables (length taken) (count - length taken)) →
    t ≡ apply fresh p → empty ≡ [] → IsSetTo empty n t entries →
    clause_instance entries ctx c ≡ covered_by c n (sorts_in sig s p, p)
covered_by_steps sig c n s p taken start first ctx count fresh empty entries t lt is none more whole counted are
    made nothing set =
    let begun : first ≡ c.ctx = more ∙ (λ i. none i ++ is i) in
    let sorts : ctx ≡ c.ctx ++ sorts_in sig s p = whole ∙ ap (λ (ss : List SortId). ss ++ sorts_in sig s p) begun in
    let numbered : fresh ≡ map (λ (u : Tree). Some u) (variables (length c.ctx) (length ctx - length c.ctx)) =
    are ∙ (λ i. map (λ (u : Tree). Some u) (variables (length (is i)) (counted i - length (is i)))) in
    covered_is sig c n s p ctx fresh entries t lt sorts numbered made (subst (λ es. IsSetTo es n t entries) nothing set)
