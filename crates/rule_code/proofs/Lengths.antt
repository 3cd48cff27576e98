-- Code is short.
use Rattle.std.proofs.Common.{◌≡◌, ℕ, zero, suc, ◌+◌, ◌<◌, ◌≤◌, List, [], ◌∷◌, ◌++◌, Some, refl, ap, arith, drop}
use Rattle.std.proofs.Common.{length, length-append}
use Rattle.std.specs.Prelude.{slice_get}
use Rattle.std.proofs.lemmas.List.{length-map}
use Rattle.term_core.proofs.Items.{drop_here}
use Rattle.term_core.specs.Tree.{Tree, Trees, var, app, none, some, tree_size, sizes}
use Rattle.spec_core.specs.declared.records.Guard.{Guard}
use Rattle.spec_core.specs.declared.records.Rule.{Rule}
use Rattle.spec_core.specs.Sig.{Sig}
use Rattle.rule_code.specs.declared.left_sides.LeftSide.{LeftSide}
use Rattle.rule_code.specs.Blocks.{AddsBlock, block, IsTestOf}
use Rattle.rule_code.specs.Code.{Step, End, slot, last, decide}
use Rattle.rule_code.specs.Compiled.{Codes, CodesAll, IsBody}
use Rattle.rule_code.specs.Instructions.{Instruction, ends, doing}
use Rattle.rule_code.specs.Lengths.{term_length, tests_length, rules_length}

module _ (sig : Sig) (homes : List ℕ) where
  mutual
    codes_short : (t : Tree) (next : ℕ) (steps : List Step) (s end : ℕ) → Codes sig homes t next steps s end →
        length steps ≤ tree_size t
    codes_short (var n) next steps s end h = omega (arith, ap length h.0)
    codes_short (app f ts) next steps s end (inner, ss, step, all, is, e, d) = omega (
      arith,
      ap length e,
      length-append inner (step ∷ []),
      all_short ts next inner ss s all,
    )

    all_short : (ts : Trees) (next : ℕ) (steps : List Step) (ss : List ℕ) (end : ℕ) →
        CodesAll sig homes ts next steps ss end → length steps ≤ sizes ts
    all_short none next steps ss end h = omega (arith, ap length h.0)
    all_short (some t ts) next steps ss end (a, b, s, us, mid, one, rest, e, d) = omega (
      arith,
      ap length e,
      length-append a b,
      codes_short t next a s mid one,
      all_short ts mid b us end rest,
    )

  body_short : (t : Tree) (next : ℕ) (steps : List Step) (end : End) → IsBody sig homes t next steps end →
      length steps ≤ tree_size t
  body_short t next steps (slot s) h = codes_short t next steps s h.0 h.1
  body_short t next steps (last f ss) (ts, end, is, function, all) = omega (
    arith,
    ap tree_size is,
    all_short ts next steps ss end all,
  )
  body_short t next steps (decide s number k hs) h = absurd h

block_length : (steps : List Step) (end : End) → length (block steps end) ≡ suc (length steps)
block_length steps end =
    let m : length (doing steps) ≡ length steps = length-map steps _ in
    omega (arith, length-append (doing steps) (ends end ∷ []), m)

added_length : (old new : List Instruction) (steps : List Step) (end : End) → new ≡ old ++ block steps end →
    length new ≡ length old + suc (length steps)
added_length old new steps end e = omega (
  arith,
  ap length e,
  length-append old (block steps end),
  block_length steps end,
)

pub body_length : (sig : Sig) (homes : List ℕ) (t : Tree) (next : ℕ) (old new : List Instruction) →
    AddsBlock old new (IsBody sig homes t next) → length new ≤ length old + term_length t
body_length sig homes t next old new b = omega (
  arith,
  added_length old new b.0 b.1 b.2,
  body_short sig homes t next b.0 b.1 b.3,
)

pub test_length : (sig : Sig) (left : LeftSide) (test : Tree) (number k : ℕ) (old new : List Instruction) →
    AddsBlock old new (IsTestOf sig left test number k) → length new ≤ length old + term_length test
test_length sig left test number k old new b = omega (
  arith,
  added_length old new b.0 b.1 b.2,
  codes_short sig left.homes.items test left.width b.0 b.3.0 b.3.1 b.3.2,
)

-- one more guard
pub next_test : (guards : List Guard) (k : ℕ) (g : Guard) (old mid new : ℕ) → slice_get guards k ≡ Some g →
    mid + tests_length (drop k guards) ≤ old + tests_length guards → new ≤ mid + term_length g.test →
    new + tests_length (drop (k + 1) guards) ≤ old + tests_length guards
next_test guards k g old mid new at h one = omega (arith, h, one, ap tests_length (drop_here guards k g at))

some_rule : (rules : List Rule) (k : ℕ) → k < length rules → (r : Rule) × (slice_get rules k ≡ Some r)
some_rule [] k lt = absurd (omega (arith, lt))
some_rule (r ∷ rs) zero lt = (r, refl)
some_rule (r ∷ rs) (suc k) lt = some_rule rs k (omega (arith, lt))

-- one more rule
pub next_rule : (rules : List Rule) (k old mid new : ℕ) → k < length rules →
    mid + rules_length (drop k rules) ≤ old + rules_length rules →
    ((r : Rule) → slice_get rules k ≡ Some r → new ≤ mid + rules_length (r ∷ [])) →
    new + rules_length (drop (k + 1) rules) ≤ old + rules_length rules
next_rule rules k old mid new lt h one =
    let r = some_rule rules k lt in
    omega (arith, h, one r.0 r.1, ap rules_length (drop_here rules k r.0 r.1))
