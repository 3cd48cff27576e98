-- Blocks of code stay when more code is added after them.
use Rattle.std.proofs.Common.{◌≡◌, ℕ, suc, ◌+◌, ◌<◌, List, [], ◌∷◌, ◌++◌, Some, inl, inr, refl, ap, sym, ◌∙◌, subst}
use Rattle.std.proofs.Common.{arith, length, length-append, append_assoc}
use Rattle.std.specs.Prelude.{slice_get}
use Rattle.std.proofs.lemmas.List.{append-nil}
use Rattle.term_core.proofs.Numbers.{same_or_not}
use Rattle.spec_core.specs.declared.records.Rule.{Rule}
use Rattle.spec_core.specs.declared.records.Guard.{Guard}
use Rattle.spec_core.specs.Sig.{Sig}
use Rattle.rule_code.specs.declared.left_sides.LeftSide.{LeftSide}
use Rattle.rule_code.specs.Code.{Step, End}
use Rattle.rule_code.specs.Instructions.{Instruction, does, ends, IsCodeAt}
use Rattle.rule_code.specs.Compiled.{IsBody, IsNext}
use Rattle.rule_code.specs.Blocks.{AddsCode, AddsBlock, block, IsTestOf, HasBlock, HaveBlocks}
use Rattle.rule_code.proofs.Matches.{get_more, get_past}

pub adds_nothing : (code : List Instruction) → AddsCode code code
adds_nothing code = ([], sym (append-nil code))

pub adds_both : (a b c : List Instruction) → AddsCode a b → AddsCode b c → AddsCode a c
adds_both a b c x y = (x.0 ++ y.0, y.1 ∙ ap (λ zs. zs ++ y.0) x.1 ∙ append_assoc a x.0 y.0)

pub block_adds : (old new : List Instruction) {P : List Step → End → Type 0} → AddsBlock old new P → AddsCode old new
block_adds old new b = (block b.0 b.1, b.2)

more_kept : (code more : List Instruction) (k : ℕ) (steps : List Step) (end : End) → IsCodeAt code k steps end →
    IsCodeAt (code ++ more) k steps end
more_kept code more k [] end h = get_more code more k (ends end) h
more_kept code more k (s ∷ steps) end h = (get_more code more k (does s) h.0, more_kept code more (suc k) steps end h.1)

pub code_kept : (old new : List Instruction) (k : ℕ) (steps : List Step) (end : End) → AddsCode old new →
    IsCodeAt old k steps end → IsCodeAt new k steps end
code_kept old new k steps end adds h = subst (λ c. IsCodeAt c k steps end) (sym adds.1)
    (more_kept old adds.0 k steps end h)

-- a block is where it was added
block_at : (code : List Instruction) (steps : List Step) (end : End) →
    IsCodeAt (code ++ block steps end) (length code) steps end
block_at code [] end =
    let e : length code + 0 ≡ length code = omega arith in
    subst (λ z. slice_get (code ++ ends end ∷ []) z ≡ Some (ends end)) e
    (get_past code (ends end ∷ []) 0 (ends end) refl)
block_at code (s ∷ steps) end =
    let e : length code + 0 ≡ length code = omega arith in
    let n : length (code ++ does s ∷ []) ≡ suc (length code) = omega (arith, length-append code (does s ∷ [])) in
    let a : (code ++ does s ∷ []) ++ block steps end ≡ code
    ++ block (s ∷ steps) end = append_assoc code (does s ∷ []) (block steps end) in
    let rest : IsCodeAt (code ++ block (s ∷ steps) end) (suc (length code)) steps end = subst
    (λ z. IsCodeAt (code ++ block (s ∷ steps) end) z steps end) n
    (subst (λ z. IsCodeAt z (length (code ++ does s ∷ [])) steps end) a
    (block_at (code ++ does s ∷ []) steps end)) in (
      subst (λ z. slice_get (code ++ block (s ∷ steps) end) z ≡ Some (does s)) e
          (get_past code (block (s ∷ steps) end) 0 (does s) refl),
      rest,
    )

pub added_at : (old new : List Instruction) (place : ℕ) (steps : List Step) (end : End) → place ≡ length old →
    new ≡ old ++ block steps end → IsCodeAt new place steps end
added_at old new place steps end p e = subst (λ z. IsCodeAt z place steps end) (sym e)
    (subst (λ z. IsCodeAt (old ++ block steps end) z steps end) (sym p) (block_at old steps end))

module _ (sig : Sig) (number : ℕ) (rule : Rule) (left : LeftSide) where
  pub block_kept : (old new : List Instruction) (begins more : List ℕ) (k : ℕ) → AddsCode old new →
      HasBlock sig old number rule left begins k → HasBlock sig new number rule left (begins ++ more) k
  block_kept old new begins more k adds h =
      record {
        place = h.place;
        steps = h.steps;
        end = h.end;
        begin = get_more begins more k h.place h.begin;
        there = code_kept old new h.place h.steps h.end adds h.there;
        next = h.next;
      }

  -- the blocks of the first n guards
  pub record HaveFirst (code : List Instruction) (begins : List ℕ) (n : ℕ) : Type 0 where
    pub count : length begins ≡ n
    pub each : (k : ℕ) → k < n → HasBlock sig code number rule left begins k

  pub have_none : (code : List Instruction) (begins : List ℕ) → begins ≡ [] → HaveFirst code begins 0
  have_none code begins e = record { count = ap length e; each = λ k lt. absurd (omega (arith, lt)) }

  next_added : (old new : List Instruction) (begins after : List ℕ) (place n : ℕ) → place ≡ length old →
      after ≡ begins ++ place ∷ [] → HaveFirst old begins n →
      AddsBlock old new (IsNext sig left.homes.items number rule n left.width) → HaveFirst new after (n + 1)
  next_added old new begins after place n at e h b =
      record {
        count = omega (arith, h.count, ap length e, length-append begins (place ∷ []));
        each = λ k lt.
            subst (λ z. HasBlock sig new number rule left z k) (sym e)
            (elim (same_or_not k n) [
              | inl q ↦
                  let there : slice_get (begins ++ place ∷ []) k ≡ Some place = subst
                  (λ z. slice_get (begins ++ place ∷ []) z ≡ Some place) (omega (arith, q, h.count))
                  (get_past begins (place ∷ []) 0 place refl) in
                  record {
                    place = place;
                    steps = b.0;
                    end = b.1;
                    begin = there;
                    there = added_at old new place
                        b.0 b.1 at b.2;
                    next = subst (λ z. IsNext sig left.homes.items number rule z left.width
                        b.0 b.1) (sym q) b.3;
                  }
              | inr ne ↦ block_kept old new begins (place ∷ []) k (
                block b.0 b.1,
                b.2,
              ) (h.each k (omega (arith, lt, ne)))
            ]);
      }

  -- one more guard
  pub test_added : (old new : List Instruction) (begins after : List ℕ) (place n : ℕ) (g : Guard) →
      place ≡ length old → after ≡ begins ++ place ∷ [] → slice_get rule.guards n ≡ Some g →
      HaveFirst old begins n → AddsBlock old new (IsTestOf sig left g.test number n) → HaveFirst new after (n + 1)
  test_added old new begins after place n g at e listed h b = next_added old new begins after place n at e h
      (b.0, b.1, b.2, inr (g, b.3.0, b.3.1, listed, b.3.2, b.3.3))

  -- and the right side after all of them
  pub right_added : (old new : List Instruction) (begins after : List ℕ) (place n : ℕ) → place ≡ length old →
      after ≡ begins ++ place ∷ [] → n ≡ length rule.guards → HaveFirst old begins n →
      AddsBlock old new (IsBody sig left.homes.items rule.right left.width) → HaveBlocks sig new number rule left after
  right_added old new begins after place n at e all h b k
      le = (next_added old new begins after place n at e h (b.0, b.1, b.2, inl (all, b.3))).each k
      (omega (arith, le, all))
