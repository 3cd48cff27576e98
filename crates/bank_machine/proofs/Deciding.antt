-- If a test has its answer, the rule that goes on does so with the first slots.
use Rattle.std.proofs.Common.{◌≡◌, ℕ, zero, suc, ◌+◌, ◌-◌, ◌<◌, ◌≤◌, List, [], ◌∷◌, ◌++◌, Option, Some, None, refl, ap}
use Rattle.std.proofs.Common.{sym, ◌∙◌, subst, arith, length, length-drop, take, drop, get_or}
use Rattle.std.specs.Prelude.{slice_get, reverse}
use Rattle.std.specs.List.{AllByRecursion}
use Rattle.std.proofs.lemmas.List.{take-append-drop, drop-take}
use Rattle.std.proofs.lemmas.Option.{slice_get_within}
use Rattle.term_core.proofs.Items.{all_at}
use Rattle.term_core.specs.Tree.{Tree, var, app, instance, trees_of, list_of}
use Rattle.term_core.specs.declared.ids.SortId.{SortId}
use Rattle.spec_core.specs.Sorts.{IsBuilt}
use Rattle.spec_core.specs.WellSorted.{IsWellSorted}
use Rattle.spec_core.specs.declared.records.Rule.{Rule}
use Rattle.value_bank.specs.Cells.{Cell, cell, IsTerm, AreTerms}
use Rattle.value_bank.proofs.Terms.{same_cell}
use Rattle.rule_code.specs.declared.rule_codes.RuleCode.{RuleCode}
use Rattle.rule_code.specs.declared.decision_trees.DecisionTree.{DecisionTree}
use Rattle.rule_code.specs.declared.following.Branch.{Branch}
use Rattle.rule_code.specs.Blocks.{HasBlock}
use Rattle.rule_code.specs.Branches.{IsFollowerOn, IsBranch}
use Rattle.rule_code.specs.Code.{decide, entries}
use Rattle.rule_code.specs.Compiled.{Fills, IsNext}
use Rattle.rule_code.specs.Homes.{AreOwnHomes}
use Rattle.rule_code.specs.Instructions.{ends, IsCodeAt}
use Rattle.rule_code.specs.Programs.{Program, IsProgram}
use Rattle.rule_code.specs.RuleCodes.{IsRuleCode}
use Rattle.rule_code.specs.Tests.{GoesOn}
use Rattle.rule_code.proofs.Branching.{goes_within, same_width, same_homes, taken_terms}
use Rattle.rule_code.proofs.Matches.{some_same, entry_at}
use Rattle.rule_code.proofs.Ranges.{item_listed}
use Rattle.rule_code.proofs.Slots.{slot_kept}
use Rattle.rule_code.proofs.Testing.{slot_there, slot_within, slot_term, terms_count, trees_list}
use Rattle.bank_machine.specs.declared.turns.Turn.TheVariants.{Moved, Stuck}
use Rattle.bank_machine.specs.Owed.{Owes, Pays}
use Rattle.bank_machine.specs.Ranged.{AreThere}
use Rattle.bank_machine.specs.Sound.{IsFit}
use Rattle.bank_machine.specs.Stacks.{Stack, stack, IsAt}
use Rattle.bank_machine.specs.States.{Frame, frame, State, Follows, Moves, decides, NoneGoesIn}
use Rattle.bank_machine.specs.Turns.{Works, Turns}
use Rattle.bank_machine.proofs.Entering.{all_of}
use Rattle.bank_machine.proofs.Moving.{none_goes_nothing}
use Rattle.bank_machine.proofs.Pending.{entries_kept}
use Rattle.bank_machine.proofs.Owing.{does_right, owes_on}
use Rattle.bank_machine.proofs.StackMoves.{end_is, end_ranged, end_pays}
use Rattle.bank_machine.proofs.Stacked.{waits_above, take_take, length_take}

-- the term of a cell
pub cell_value : (cells : List Cell) (p f : ℕ) (args : List ℕ) (v : Tree) → IsTerm cells p v →
    slice_get cells p ≡ Some (cell f args) → (terms : List Tree) × (v ≡ app f (trees_of terms))
    × (length args ≡ length terms)
cell_value cells p f args (var n) h e = absurd h
cell_value cells p f args (app g ts) (ps, at, h) e =
    let s = same_cell cells p g f ps args at e in
    let are : AreTerms cells args (trees_of (list_of ts)) = subst (λ z. AreTerms cells args z)
    (sym (trees_list ts)) (subst (λ z. AreTerms cells z ts) s.1 h) in (
      list_of ts,
      ap (λ z. app z ts) s.0 ∙ ap (λ z. app f z) (sym (trees_list ts)),
      sym (terms_count cells args (list_of ts) are),
    )

entry_get : (env : List Tree) (homes : List ℕ) (n h : ℕ) → slice_get homes n ≡ Some h →
    slice_get (entries env homes) n ≡ Some (instance env (var h))
entry_get env [] n h e = absurd (let q : None ≡ Some h = e in cc)
entry_get env (x ∷ homes) zero h e =
    let q : Some x ≡ Some h = e in
    let r : x ≡ h = cc in
    ap (λ z. Some (instance env (var z))) r
entry_get env (x ∷ homes) (suc n) h e = entry_get env homes n h e

module _ (p : Program) (old : List Cell) (before : Stack) (s : State) (sort : SortId)
    (w : Works p old before s sort) (i number k : ℕ) (homes : List ℕ)
    (there : slice_get p.code before.next ≡ Some (ends (decide i number k homes))) where
  abbrev pub asked_rule : AreOwnHomes p.spec.rules number (length s.top.env) homes
  asked_rule = (end_ranged p old before s sort w (decide i number k homes) there).2

  pub answer_slot : before.base + i < length before.places
  answer_slot = slot_within (slot_there old before.base before.places s.top.env w.at.slots i
      (end_ranged p old before s sort w (decide i number k homes) there).0)

  pub answer_term : (place : ℕ) → place ≡ get_or before.places (before.base + i) 0 →
      IsTerm old place (instance s.top.env (var i))
  answer_term place e = subst (λ z. IsTerm old z (instance s.top.env (var i))) (sym e)
      (slot_term (slot_there old before.base before.places s.top.env w.at.slots i
      (end_ranged p old before s sort w (decide i number k homes) there).0))

  module _ (fine : IsWellSorted p.spec) (rules : List RuleCode) (trees : List DecisionTree)
      (whole : IsProgram p.spec p.code rules trees) where
    pub rule_within : number < length rules
    rule_within = omega (
      arith,
      slice_get_within p.spec.rules number asked_rule.rule asked_rule.listed,
      whole.compiled.count,
    )

    module _ (one : RuleCode) (e : one ≡ get_or rules number one) where
      pub rule_code : IsRuleCode p.spec p.code number asked_rule.rule one
      rule_code = whole.compiled.each number asked_rule.rule one asked_rule.listed
          (item_listed rules rules number one refl rule_within e)

      own_width : asked_rule.left.width ≡ one.left.width
      own_width = same_width p.spec.sig asked_rule.rule asked_rule.rule
          (fine.rules number asked_rule.rule asked_rule.listed)
          (fine.rules number asked_rule.rule asked_rule.listed) refl asked_rule.left one.left asked_rule.side
          rule_code.left

      own_homes : homes ≡ one.left.homes.items
      own_homes = asked_rule.are ∙ same_homes p.spec.sig asked_rule.rule asked_rule.rule
          (fine.rules number asked_rule.rule asked_rule.listed)
          (fine.rules number asked_rule.rule asked_rule.listed) refl asked_rule.left one.left asked_rule.side
          rule_code.left

      width_within : one.left.width ≤ length s.top.env
      width_within = omega (arith, asked_rule.room, own_width)

      pub cut_within : before.base + one.left.width ≤ length before.places
      cut_within = omega (
        arith,
        width_within,
        w.at.within,
        terms_count old (drop before.base before.places) s.top.env w.at.slots,
        length-drop before.base before.places,
      )

      -- no rule goes on
      pub none_follows : (left : ℕ) (after : Stack) (new : List Cell) →
          IsFollowerOn p.spec.rules asked_rule.rule k (instance s.top.env (var i)) None → Turns p new left after s Stuck
      none_follows left after new f apart all v n g le =
          let stuck : NoneGoesIn p.spec s.top.env [] (decide i number k homes) = λ rule next other at at' l on.
          let same : rule ≡ asked_rule.rule = some_same (slice_get p.spec.rules number) rule asked_rule.rule
          at asked_rule.listed in
          f other next at' (l ∙ ap (λ (r : Rule). r.left) same)
          (subst (λ (r : Rule). GoesOn k (instance s.top.env (var i)) r.guards next.guards) same on) in
          none_goes_nothing p.spec s v n
          (subst (λ (z : State). NoneGoesIn p.spec z.top.env z.top.steps z.top.end)
          (sym (end_is p old before s sort w (decide i number k homes) there)) stuck) g

      pub no_branch : length one.branches.items ≤ k →
          IsFollowerOn p.spec.rules asked_rule.rule k (instance s.top.env (var i)) None
      no_branch le j next at l on = omega (
        arith,
        le,
        rule_code.branches.count,
        (goes_within k (instance s.top.env (var i)) asked_rule.rule.guards next.guards on).0,
      )

      pub branch_at : (branch : Branch) → slice_get one.branches.items k ≡ Some branch →
          IsBranch p.spec.rules asked_rule.rule k branch
      branch_at branch at = rule_code.branches.each k branch at

      -- the rule that the branch names for the answer's cell
      pub answered_by : (branch : Branch) → slice_get one.branches.items k ≡ Some branch →
          (place f : ℕ) (args : List ℕ) → place ≡ get_or before.places (before.base + i) 0 →
          slice_get old place ≡ Some (cell f args) → (found : Option ℕ) →
          ((rules' : List Rule) (rule : Rule) (m : ℕ) (us : List Tree) → IsBranch rules' rule m branch →
          length args ≡ length us → IsFollowerOn rules' rule m (app f (trees_of us)) found) →
          IsFollowerOn p.spec.rules asked_rule.rule k (instance s.top.env (var i)) found
      answered_by branch at place f args read there' found answers =
          let v = cell_value old place f args (instance s.top.env (var i)) (answer_term place read) there' in
          subst (λ t. IsFollowerOn p.spec.rules asked_rule.rule k t found) (sym v.1)
          (answers p.spec.rules asked_rule.rule k v.0 (branch_at branch at) v.2)

      module _ (other : ℕ) (f : IsFollowerOn p.spec.rules asked_rule.rule k (instance s.top.env (var i))
          (Some other)) where
        pub other_within : other < length rules
        other_within = omega (arith, slice_get_within p.spec.rules other f.0 f.1, whole.compiled.count)

        module _ (two : RuleCode) (e₂ : two ≡ get_or rules other two) where
          other_code : IsRuleCode p.spec p.code other f.0 two
          other_code = whole.compiled.each other f.0 two f.1 (item_listed rules rules other two refl other_within e₂)

          next_width : one.left.width ≡ two.left.width
          next_width = same_width p.spec.sig asked_rule.rule f.0
              (fine.rules number asked_rule.rule asked_rule.listed) (fine.rules other f.0 f.1) f.2 one.left
              two.left rule_code.left other_code.left

          next_homes : homes ≡ two.left.homes.items
          next_homes = own_homes
              ∙ same_homes p.spec.sig asked_rule.rule f.0 (fine.rules number asked_rule.rule asked_rule.listed)
              (fine.rules other f.0 f.1) f.2 one.left two.left rule_code.left other_code.left

          pub next_block : HasBlock p.spec.sig p.code other f.0 two.left two.begins.items (k + 1)
          next_block = other_code.blocks (k + 1)
              (omega (arith, (goes_within k (instance s.top.env (var i)) asked_rule.rule.guards f.0.guards f.3).1))

          first : List Tree
          first = take one.left.width s.top.env

          first_count : length (take one.left.width s.top.env) ≡ one.left.width
          first_count = trees_taken s.top.env one.left.width width_within
            where
              trees_taken : (xs : List Tree) (n : ℕ) → n ≤ length xs → length (take n xs) ≡ n
              trees_taken xs zero le = refl
              trees_taken [] (suc n) le = absurd (omega (arith, le))
              trees_taken (x ∷ xs) (suc n) le = ap suc (trees_taken xs n (omega (arith, le)))

          all_again : take one.left.width s.top.env ++ drop one.left.width s.top.env ≡ s.top.env
          all_again = take-append-drop one.left.width s.top.env

          home_low : (n h : ℕ) → slice_get homes n ≡ Some h → h < length (take one.left.width s.top.env)
          home_low n h at =
              let home = rule_code.left.homes.each n h (subst (λ z. slice_get z n ≡ Some h) own_homes at) in
              omega (arith, slice_get_within rule_code.left.all h (var n) home.there, rule_code.left.width, first_count)

          homes_low : AreThere (length (take one.left.width s.top.env)) homes
          homes_low = all_of (λ (h : ℕ). h < length (take one.left.width s.top.env)) homes home_low

          value_kept : (h : ℕ) → h < length (take one.left.width s.top.env) →
              instance s.top.env (var h) ≡ instance (take one.left.width s.top.env) (var h)
          value_kept h lt = ap (λ z. instance z (var h)) (sym all_again)
              ∙ slot_kept (take one.left.width s.top.env) (drop one.left.width s.top.env) h lt

          values_built : AllByRecursion (λ (t : Tree). IsBuilt p.spec.sig t) (entries s.top.env homes)
          values_built =
              let at = end_is p old before s sort w (decide i number k homes) there in
              let fit : IsFit p.spec s.top.env [] (decide i number k homes) w.sound.0 = subst
              (λ (z : State). IsFit p.spec z.top.env z.top.steps z.top.end w.sound.0) at w.sound.1 in
              fit.3

          fills : Fills p.spec.sig homes (take one.left.width s.top.env) (entries s.top.env homes)
          fills = record {
            holds = λ n h at.
                let value = value_kept h (home_low n h at) in
                let b = all_at (λ (t : Tree). IsBuilt p.spec.sig t) (entries s.top.env homes) values_built n
                (instance s.top.env (var h)) (entry_get s.top.env homes n h at) in
                (home_low n h at, entry_at s.top.env homes n h at ∙ value, subst (λ t. IsBuilt p.spec.sig t) value b);
            are = sym (entries_kept (take one.left.width s.top.env) (drop one.left.width s.top.env) homes
                homes_low) ∙ ap (λ z. entries z homes) all_again;
            below = homes_low;
          }

          -- the rule goes on
          pub followed : (left place : ℕ) (after : Stack) → place ≡ next_block.place →
              after ≡ stack (take (before.base + one.left.width) before.places) before.base place
              before.waiting → Pays p left before s → Turns p old left after s (Moved 0)
          followed left place after at is pays =
              let b = next_block in
              let one_more : k + 1 ≡ suc k = omega arith in
              let width : two.left.width ≡ length (take one.left.width s.top.env) = sym next_width ∙ sym first_count in
              let code₁ : IsNext p.spec.sig homes other f.0 (k + 1) two.left.width b.steps b.end = subst
              (λ hs. IsNext p.spec.sig hs other f.0 (k + 1) two.left.width b.steps b.end) (sym next_homes) b.next in
              let code₂ : IsNext p.spec.sig homes other f.0 (suc k) two.left.width b.steps b.end = subst
              (λ m. IsNext p.spec.sig homes other f.0 m two.left.width b.steps b.end) one_more code₁ in
              let code : IsNext p.spec.sig homes other f.0 (suc k) (length (take one.left.width s.top.env))
              b.steps b.end = subst (λ m. IsNext p.spec.sig homes other f.0 (suc k) m b.steps b.end) width code₂ in
              let entered : Frame = frame (take one.left.width s.top.env) b.steps b.end in
              let follows : Follows p.spec s.top.env i number k homes entered = record {
                rule = asked_rule.rule;
                listed = asked_rule.listed;
                other = other;
                next = f.0;
                there = f.1;
                left = f.2;
                on = f.3;
                fills = fills;
                code = code;
                own = record {
                  rule = f.0;
                  left = two.left;
                  listed = f.1;
                  side = other_code.left;
                  are = next_homes;
                  room = omega (arith, width);
                };
              } in
              let go : State = record { top = entered; waiting = s.waiting } in
              let cut = take (before.base + one.left.width) before.places in
              let same : take before.base before.places ≡ take before.base
              (take (before.base + one.left.width) before.places) = sym
              (take_take before.places before.base (before.base + one.left.width) (omega arith)) in
              let slots : AreTerms old (drop before.base (take (before.base + one.left.width) before.places))
              (trees_of (take one.left.width s.top.env)) = subst
              (λ z. AreTerms old z (trees_of (take one.left.width s.top.env)))
              (sym (drop-take before.base one.left.width before.places))
              (taken_terms old (drop before.base before.places) s.top.env one.left.width w.at.slots) in
              let stands : IsAt p.code old (stack (take (before.base + one.left.width) before.places)
              before.base place before.waiting) go = record {
                within = omega (arith, length_take before.places (before.base + one.left.width) cut_within);
                slots = slots;
                code = subst (λ z. IsCodeAt p.code z b.steps b.end) (sym at) b.there;
                waits = waits_above old (IsCodeAt p.code) before.places
                    (take (before.base + one.left.width) before.places) before.base (reverse before.waiting)
                    s.waiting same w.at.waits;
              } in
              let owed : Owes p.spec p.code entered (left - 0) (reverse before.waiting) s.waiting = owes_on
              p.spec p.code (frame s.top.env [] (decide i number k homes)) entered 0 left (left - 0)
              (reverse before.waiting) s.waiting (omega arith)
              (does_right p.spec (frame s.top.env [] (decide i number k homes)) entered 0 fine
              (decides entered follows)) (end_pays p old before s sort w (decide i number k homes) there
              left pays) in (
                omega arith,
                (
                  go,
                  subst (λ z. Moves p.spec z 0 go)
                      (sym (end_is p old before s sort w (decide i number k homes) there))
                      (decides entered follows),
                  subst (λ z. IsAt p.code old z go) (sym is) stands,
                  subst (λ z. Pays p (left - 0) z go) (sym is) owed,
                ),
              )
