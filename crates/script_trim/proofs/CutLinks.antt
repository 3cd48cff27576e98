-- The links of a block that is cut are those of the nodes that stay, under their new numbers.
use Rattle.std.proofs.Common.{◌≡◌, ◌≢◌, ◌⊎◌, ◌↔◌, ℕ, zero, suc, ◌+◌, ◌≤◌, ◌<◌, List, [], ◌∷◌, ◌++◌, Bool, true, false}
use Rattle.std.proofs.Common.{Some, take, inl, inr, refl, sym, ◌∙◌, ap, subst, arith, length, map}
use Rattle.std.specs.Prelude.{slice_get, slice_set, IsTrue, cond}
use Rattle.std.proofs.lemmas.List.{length-map, take-map}
use Rattle.std.proofs.lemmas.Option.{slice_get_within}
use Rattle.term_core.specs.Tree.{Tree}
use Rattle.term_core.proofs.Numbers.{same_or_not}
use Rattle.spec_core.specs.declared.records.Spec.{Spec}
use Rattle.clause_core.specs.declared.answers.Child.{Child}
use Rattle.clause_core.specs.declared.answers.Children.{Children}
use Rattle.clause_core.specs.declared.clauses.Clause.{Clause}
use Rattle.clause_core.specs.declared.steps.Step.{Step}
use Rattle.acceptance.specs.Blocks.{clauses_of, nodes_of, StepsMake}
use Rattle.acceptance.specs.Strict.{first_child}
use Rattle.acceptance.proofs.WholeBlocks.{as_many}
use Rattle.script_trim.specs.Cut.{new_number, staying, Descends}
use Rattle.script_trim.specs.Made.{made_renumbered, cut_made}
use Rattle.block_steps.proofs.ChildNumbers.{counted, counted_append, counted_cons}
use Rattle.script_trim.proofs.Places.{set_same, set_other, length_set, taken_length, taken_more, take_staying}
use Rattle.script_trim.proofs.Staying.{staying_append, staying_yes, staying_no, length_from}
use Rattle.script_trim.proofs.StayingChildren.{IsLocal, local_at, there}

-- new numbers change no count
counted_anew : (stays : ℕ → Bool) (ms : List Children) → counted (map (made_renumbered stays) ms) ≡ counted ms
counted_anew stays [] = refl
counted_anew stays (m ∷ ms) =
    omega (
      arith,
      counted_cons (made_renumbered stays m) (map (made_renumbered stays) ms),
      counted_cons m ms,
      counted_anew stays ms,
    )

pub next_first :
    (made : List Children) (k : ℕ) (m : Children) → slice_get made k ≡ Some m →
    first_child made (suc k) ≡ first_child made k + length (clauses_of m)
next_first made k m at =
    let e : counted (take (suc k) made) ≡ counted (take k made ++ m ∷ []) =
    ap (λ ms. counted ms) (taken_more made k m at) in
    omega (
      arith,
      e,
      counted_append (take k made) (m ∷ []),
      counted_cons m [],
      length-map m.clauses (λ (x : Child). x.clause),
    )

module _
    (stays : ℕ → Bool) (i : ℕ)
    (above :
    Tree → Tree → Type 0) (spec : Spec) (usable : ℕ → Type 0) (start : Clause) (steps : List Step)
    (made : List Children)
    (makes :
    StepsMake above spec usable (start ∷ []) 0 steps made)
    (finished : length (nodes_of start made) ≡ length steps)
    (which : (k : ℕ) → IsTrue (stays k) ↔ ((k < length steps) × ¬ (Descends made i k)))
    (start_stays : stays 0 ≡ true) (closed : Children) (none : closed.clauses ≡ []) where
  abbrev others : List Children
  others = slice_set made i closed

  local : (k : ℕ) (m : Children) → slice_get made k ≡ Some m → IsLocal stays i k (first_child made k) m
  local k m at = local_at stays i above spec usable start steps made makes finished which k m at

  few : length made ≡ length steps
  few = as_many above spec usable (start ∷ []) 0 steps made makes

  -- the entry of node k once node i is closed, and how many of the old children stay
  record Entry (k : ℕ) (m : Children) : Type 0 where
    other : Children
    at : slice_get others k ≡ Some other
    stay : stays k ≡ true → length other.clauses ≡ length (staying stays (first_child made k) (clauses_of m))
    go : stays k ≡ false → length (staying stays (first_child made k) (clauses_of m)) ≡ 0

  entry : (k : ℕ) (m : Children) → slice_get made k ≡ Some m → Entry k m
  entry k m at = either (same_or_not k i)
    where
      gone : stays k ≡ false → length (staying stays (first_child made k) (clauses_of m)) ≡ 0
      gone e = ap (λ xs. length xs) ((local k m at).none e)

      either : (k ≡ i) ⊎ (k ≢ i) → Entry k m
      either (inl e) = record {
        other = closed;
        at =
            ap (λ j. slice_get others j) e ∙ set_same made i closed
            (subst (λ j. j < length made) e (slice_get_within made k m at));
        stay = λ f. ap (λ cs. length cs) none ∙ ap (λ xs. length xs) (sym ((local k m at).closed e));
        go = gone;
      }
      either (inr e) = record {
        other = m;
        at = set_other made i k closed e ∙ at;
        stay =
            λ f. sym (length-map m.clauses (λ (x : Child). x.clause)) ∙ ap (λ xs. length xs)
            (sym ((local k m at).all f e));
        go = gone;
      }

  counted_one :
      (k : ℕ) (m : Children) (e : Entry k m) (b : Bool) → stays k ≡ b →
      counted (staying stays k (e.other ∷ [])) ≡ length (staying stays (first_child made k) (clauses_of m))
  counted_one k m e true f =
      let a : counted (staying stays k (e.other ∷ [])) ≡ counted (e.other ∷ []) =
      ap (λ ms. counted ms) (staying_yes stays k e.other [] f) in
      omega (arith, a, counted_cons e.other [], e.stay f)
  counted_one k m e false f =
      let a : counted (staying stays k (e.other ∷ [])) ≡ counted [] =
      ap (λ ms. counted ms) (staying_no stays k e.other [] f) in
      omega (arith, a, e.go f)

  -- as many children stay before node k as the new number of its first child says
  counts :
      (k : ℕ) → k ≤ length made → suc (counted (staying stays 0 (take k others))) ≡ new_number stays
      (first_child made k)
  counts zero l =
      let a : new_number stays (suc 0) ≡ suc (new_number stays 0) =
      ap (λ b. cond b (suc (new_number stays 0)) (new_number stays 0)) start_stays in
      let b : new_number stays (first_child made 0) ≡ new_number stays (suc 0) = refl in
      omega (arith, a, b)
  counts (suc k) l =
      let d = there made k (omega (arith, l)) in
      let m = d.0 in
      let e = entry k m d.1 in
      let before = counts k (omega (arith, l)) in
      let taken : take (suc k) others ≡ take k others ++ e.other ∷ [] = taken_more others k e.other e.at in
      let long : 0 + length (take k others) ≡ k = omega (
        arith,
        taken_length others k (omega (arith, l, length_set made i closed)),
      ) in
      let parted : staying stays 0 (take k others ++ e.other ∷ []) ≡ staying stays 0 (take k others) ++ staying stays
      k (e.other ∷ []) = staying_append stays 0 (take k others) (e.other ∷ []) ∙ ap
      (λ j. staying stays 0 (take k others) ++ staying stays j (e.other ∷ [])) long in
      let left : counted (staying stays 0 (take (suc k) others)) ≡ counted
      (staying stays 0 (take k others) ++ staying stays k (e.other ∷ [])) =
      ap (λ ms. counted (staying stays 0 ms)) taken ∙ ap (λ ms. counted ms) parted in
      let sum_of = counted_append (staying stays 0 (take k others)) (staying stays k (e.other ∷ [])) in
      let one = counted_one k m e (stays k) refl in
      let right : first_child made (suc k) ≡ first_child made k + length (clauses_of m) = next_first made k m d.1 in
      let from = length_from stays (first_child made k) (clauses_of m) in
      let right_anew : new_number stays (first_child made (suc k)) ≡ new_number stays
      (first_child made k + length (clauses_of m)) = ap (λ j. new_number stays j) right in
      omega (arith, before, left, sum_of, one, from, right_anew)

  -- the new number of a first child
  pub first_anew :
      (k : ℕ) → k ≤ length made → first_child (cut_made stays made i closed) (new_number stays k) ≡ new_number stays
      (first_child made k)
  first_anew k l =
      let m : k ≤ length others = omega (arith, l, length_set made i closed) in
      let e : take (new_number stays k) (cut_made stays made i closed) ≡ map (made_renumbered stays)
      (staying stays 0 (take k others)) = take-map (made_renumbered stays) (new_number stays k)
      (staying stays 0 others) ∙ ap (λ ms. map (made_renumbered stays) ms) (take_staying stays others k m) in
      let f : first_child (cut_made stays made i closed) (new_number stays k) ≡ suc
      (counted (map (made_renumbered stays) (staying stays 0 (take k others)))) = ap (λ ms. suc (counted ms)) e in
      omega (arith, f, counted_anew stays (staying stays 0 (take k others)), counts k l)
